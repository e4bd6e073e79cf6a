-- The names of the kinds of steps, as scripts spell them.
use Rattle.std.specs.Prelude.{ℕ, List, codes}
use Rattle.ctrie_base.specs.declared.kinds.Kind.{Kind}
use Rattle.ctrie_base.specs.declared.kinds.Kind.TheVariants.{Begin, ReadRoot, SwapRoot, ReadMain, SwapMain, ReadPrev, SwapPrev, Look, Make, End, ScanPin, Advance, FreeOne}

-- a kind's name
abbrev pub name_of : Kind → List ℕ
name_of Begin = codes "begin"
name_of ReadRoot = codes "read-root"
name_of SwapRoot = codes "swap-root"
name_of ReadMain = codes "read-main"
name_of SwapMain = codes "swap-main"
name_of ReadPrev = codes "read-prev"
name_of SwapPrev = codes "swap-prev"
name_of Look = codes "look"
name_of Make = codes "make"
name_of End = codes "end"
name_of ScanPin = codes "scan-pin"
name_of Advance = codes "advance"
name_of FreeOne = codes "free-one"
