-- Whether an operation goes on behind its next step.
use Rattle.std.specs.Prelude.{Bool, true, false, Option, Some, None}
use Rattle.proof_core.specs.Vocabulary.{Kind}
use Rattle.proof_core.specs.Beneath.ctrie_base.specs.declared.kinds.Kind.TheVariants as kind

-- the operation whose next step is of this kind goes on behind it: that isn't its end; none does where none runs
abbrev pub goes_on : Option Kind → Bool
goes_on None = false
goes_on (Some kind.End) = false
goes_on next = true
