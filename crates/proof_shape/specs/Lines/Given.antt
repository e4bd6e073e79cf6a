-- What a READ of an operation gave of an indirection, when the READ began, and from when on that was so.
use Rattle.std.specs.Prelude.{◌≡◌, ℕ, suc, ◌≤◌, ◌<◌, Some, None}
use Rattle.proof_shape.specs.Vocabulary.{Ref, Operation, Read, Outcome, Go, Gives, ReadLine, handle_of, State, operation_of, word_at, read_after, read_step, read_of, Moves, Record, noted, told_in}
use Rattle.proof_shape.specs.Vocabulary.{Reads, stage_of, words_of, IsMoment, counting_main, ReadsBelow}
use Rattle.proof_shape.specs.Beneath.machine_model.specs.declared.reading.ReadLine.TheVariants as read

-- the actor's operation of this id stands on this line of a READ of the indirection
pub record IsReading (state : State) (actor id : ℕ) (i : Ref) (line : ReadLine) : Type 0 where
  pub operation : Operation
  pub runs : operation_of state actor ≡ Some operation
  pub same : operation.id ≡ id
  pub reads : stage_of operation.line ≡ Reads i line

-- the READ stands on its first line, or has read or swapped the main word since it began
pub data HasBegun (began from : ℕ) : ReadLine → Type 0 where
  at_first : HasBegun began from read.Main
  later : {line : ReadLine} → began ≤ from → HasBegun began from line

-- An operation's READ, and its first step.
pub record Reading (states : ℕ → State) (t actor id from : ℕ) (i : Ref) (line : ReadLine) : Type 0 where
  pub began : ℕ
  pub past : began ≤ t
  pub first : IsReading (states began) actor id i read.Main
  pub counts : HasBegun began from line

-- Before step t a READ of the actor's operation of this id gave this main node of the indirection.
pub record Gave (states : ℕ → State) (records : ℕ → Record) (last t actor id : ℕ) (i m : Ref) : Type 0 where
  -- the time at which it began
  pub began : ℕ
  pub first : IsReading (states began) actor id i read.Main
  -- its last read or swap of the main word
  pub from : ℕ
  pub counts : began ≤ from
  -- the step from there on after which the node was the logical main node first
  pub moment : ℕ
  -- its last step
  pub at : ℕ
  pub past : at < t
  pub line : ReadLine
  pub gave : IsReading (states at) actor id i line
  pub gives : read_after (states at).heap gave.operation.access (word_at (states at) (handle_of gave.operation.call)) i line ≡ Gives m
  pub is_moment : IsMoment (words_of states records last (λ g. None)) i m from moment at
  pub is : counting_main states last (suc moment) i ≡ m

-- A READ of a repair gave it, in the try in which the operation's root has this generation.
pub record GaveBelow (states : ℕ → State) (records : ℕ → Record) (last t actor id start : ℕ) (i m : Ref) : Type 0 where
  pub gave : Gave states records last t actor id i m
  -- its last step
  pub at : ℕ
  pub past : at < t
  pub outcome : Outcome
  pub moves : Moves (states at) (Go actor) outcome (states (suc at))
  pub operation : Operation
  pub runs : operation_of (states at) actor ≡ Some operation
  pub its : operation.generation ≡ Some start
  pub below : ReadsBelow operation.line
  pub read : Read
  pub reads : read_of operation.line ≡ Some read
  pub of : read.indirection ≡ i
  pub gives : read_step (states at) operation read ≡ Gives m
  pub notes : records (suc at) ≡ noted (records at) (states at).steps (told_in (states at) (Go actor))

-- before step t it was once the main node of the indirection
abbrev pub Was : (ℕ → State) → ℕ → ℕ → Ref → Ref → Type 0
Was states last t i m = (u : ℕ) × (u ≤ t) × (counting_main states last u i ≡ m)
