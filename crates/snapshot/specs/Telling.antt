-- What is told of the root's generation comes to a program by its READ alone.
use Rattle.std.specs.Prelude.{◌≡◌, ℕ, Option, None}
use Rattle.snapshot.specs.Beneath.gcas.specs.declared.read.Read.{Read}
use Rattle.snapshot.specs.Beneath.gcas.specs.Reads.{line_of}
use Rattle.snapshot.specs.Vocabulary.{with_read}
use Rattle.snapshot.specs.declared.copy_op.CopyOp.{CopyOp}
use Rattle.snapshot.specs.declared.walk.Walk.{Walk}
use Rattle.snapshot.specs.Copies.{copy_line}
use Rattle.snapshot.specs.Walks.{walk_line}

-- a law: a snapshot, freeze or clear that was told this stands where it stood, but for its READ
abbrev pub TellsCopy : Type 0
TellsCopy = (r : Read) → (root_seen : Option ℕ) → (s : CopyOp) → copy_line r root_seen s ≡ with_read (line_of r root_seen) (copy_line r None s)

-- a law: so does a walk
abbrev pub TellsWalk : Type 0
TellsWalk = (r : Read) → (root_seen : Option ℕ) → (w : Walk) → walk_line r root_seen w ≡ with_read (line_of r root_seen) (walk_line r None w)
