-- What is told of a step that was taken.
use Rattle.std.specs.Prelude.{Bool, true, false, ◌&&◌, Option, Some, None}
use Rattle.running.specs.Vocabulary.{Kind, Ref}
use Rattle.ctrie_base.specs.declared.kinds.Kind.TheVariants as kind

-- what a caller sees: its kind, the main node that it committed and the one that the operation's READ gave by it, if it did, and whether
-- the operation's READ counts from it on
pub record Taken : Type 0 where
  pub kind : Kind
  pub committed : Option Ref
  pub given : Option Ref
  pub counts : Bool

-- what a READ gives by a step of this kind, behind which it has given this
abbrev pub given_if : Kind → Option Ref → Option Ref
given_if kind.ReadMain given = given
given_if kind.ReadPrev given = given
given_if kind.SwapPrev given = given
given_if kind.SwapMain given = given
given_if k given = None

-- what a READ commits by a step of this kind, behind which it has given this
abbrev pub committed_if : Kind → Option Ref → Option Ref
committed_if kind.SwapPrev given = given
committed_if k given = None

-- a READ counts from a step of this kind on: it read the main word, or swapped it back
abbrev pub counts_if : Kind → Bool
counts_if kind.ReadMain = true
counts_if kind.SwapMain = true
counts_if k = false

-- what a READ gives, if the step is one of a READ
abbrev pub if_reading : Bool → Option Ref → Option Ref
if_reading true given = given
if_reading false given = None

-- the main node, if there is one
abbrev pub main_if : Bool → Ref → Option Ref
main_if true main = Some main
main_if false main = None

-- a step of this kind, which was in a READ or not, and behind which the operation's READ has given this
abbrev pub taken_by : Bool → Kind → Option Ref → Taken
taken_by reading k given =
    record { kind = k; committed = committed_if k given; given = if_reading reading (given_if k given); counts = reading && counts_if k }
