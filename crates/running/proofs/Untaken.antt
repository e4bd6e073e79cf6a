-- What commits nothing and gives nothing.
use Rattle.std.specs.Prelude.{◌≡◌, None, refl}
use Rattle.running.specs.Vocabulary.{Kind}
use Rattle.ctrie_base.specs.declared.kinds.Kind.TheVariants as kind
use Rattle.running.specs.Taking.{committed_if, given_if}

-- where a READ has given nothing it commits nothing
pub commits_none : (k : Kind) → committed_if k None ≡ None
commits_none kind.SwapPrev = refl
commits_none k = refl

-- nor does it give anything
pub gives_none : (k : Kind) → given_if k None ≡ None
gives_none kind.ReadMain = refl
gives_none kind.ReadPrev = refl
gives_none kind.SwapPrev = refl
gives_none kind.SwapMain = refl
gives_none k = refl
