-- What a call on one key is told of the root's generation.
use Rattle.std.specs.Prelude.{◌≡◌, ℕ, Option, None}
use Rattle.operate.specs.Vocabulary.{IsAskingLine, line_of, with_read}
use Rattle.operate.specs.declared.key_op.KeyOp.{KeyOp}
use Rattle.operate.specs.Places.{key_line}

-- a law: it comes to the call by its READ alone
abbrev pub TellsKey : Type 0
TellsKey = (op : KeyOp) → (root_seen : Option ℕ) → key_line op root_seen ≡ with_read (line_of op.work.swap.read root_seen) (key_line op None)

-- a law: who was told doesn't ask
abbrev pub AsksUntold : Type 0
AsksUntold = (op : KeyOp) → (root_seen : Option ℕ) → IsAskingLine (key_line op root_seen) → root_seen ≡ None
