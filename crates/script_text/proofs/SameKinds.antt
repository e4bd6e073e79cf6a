-- Kinds of steps are the same where their names are.
use Rattle.std.proofs.Common.{◌≡◌, List, [], ◌∷◌, refl, sym, ap, ◌∙◌, Some, rules}
use Rattle.std.specs.Str.{bytes_eq}
use Rattle.std.proofs.lemmas.Slice.Eq.{bytes_eq-Decides}
use denote.Enum.Bare.{sameb, same_true, true_same}
use Rattle.ctrie_base.specs.declared.kinds.Kind.{Kind}
use Rattle.ctrie_base.specs.declared.kinds.Kind.TheVariants.{Begin, ReadRoot, SwapRoot, ReadMain, SwapMain, ReadPrev, SwapPrev, Look, Make, End, ScanPin, Advance, FreeOne}
use Rattle.ctrie_base.specs.contracts.kinds.Kind.{the_type}
use Rattle.ctrie_base.specs.Kinds.{name_of}
use Rattle.text_lines.specs.Words.{named}
use Rattle.ctrie_base.proofs.SameTests.{same_tests}

abbrev kinds : List Kind
kinds = Begin ∷ ReadRoot ∷ SwapRoot ∷ ReadMain ∷ SwapMain ∷ ReadPrev ∷ SwapPrev ∷ Look ∷ Make ∷ End ∷ ScanPin ∷ Advance ∷ FreeOne ∷ []

named_again : (k : Kind) → named name_of kinds (name_of k) ≡ Some k
named_again Begin = refl
named_again ReadRoot = refl
named_again SwapRoot = refl
named_again ReadMain = refl
named_again SwapMain = refl
named_again ReadPrev = refl
named_again SwapPrev = refl
named_again Look = refl
named_again Make = refl
named_again End = refl
named_again ScanPin = refl
named_again Advance = refl
named_again FreeOne = refl

one_name : (a b : Kind) → name_of a ≡ name_of b → a ≡ b
one_name a b e = let both : Some a ≡ Some b = sym (named_again a) ∙ ap (named name_of kinds) e ∙ named_again b in cc

-- `==` on kinds compares their names
pub same_kind : (a b : Kind) → sameb the_type a b ≡ bytes_eq (name_of a) (name_of b)
same_kind a b =
    same_tests (sameb the_type a b) (bytes_eq (name_of a) (name_of b))
    (λ e. (bytes_eq-Decides (name_of a) (name_of b)).1 (ap name_of (same_true the_type (search rules) a b e)))
    (λ e. true_same the_type a b (one_name a b ((bytes_eq-Decides (name_of a) (name_of b)).0 e)))
