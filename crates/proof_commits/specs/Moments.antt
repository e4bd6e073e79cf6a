-- From when on what a READ gives was the logical main node.
use Rattle.std.specs.Prelude.{◌≡◌, ℕ, suc, ◌<◌, ◌≤◌, max, true, Option, Some, None}
use Rattle.proof_commits.specs.Vocabulary.{Ref}
use Rattle.proof_commits.specs.Beneath.slot_arena.specs.declared.nodes.Prev.TheVariants as over
use Rattle.proof_commits.specs.Protocol.{Words, logical_at}

-- the greater of a step and that of the commit, if there was one
abbrev pub later_of : ℕ → Option ℕ → ℕ
later_of r None = r
later_of r (Some c) = max r c

-- After step mu the node is the logical main node; mu is the first such step from step r on, which is that of the last read or
-- swap of the main word. It is no later than t.
pub record IsMoment (w : Words) (i m : Ref) (r mu t : ℕ) : Type 0 where
  pub from : r ≤ mu
  pub past : mu ≤ t
  pub link : w.link (suc r) i ≡ true
  pub stood : w.main (suc r) i ≡ m
  pub none : w.prev (suc mu) m ≡ over.None
  pub is : logical_at w (suc mu) i ≡ m
  pub first : (v : ℕ) → r < v → v ≤ mu → logical_at w v i ≡ m → ⊥
