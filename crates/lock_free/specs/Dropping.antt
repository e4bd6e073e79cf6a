-- What of the main node that a SWAP replaces the fresh one doesn't name, as it is said.
use Rattle.std.specs.Prelude.{◌≡◌, ◌≢◌, ◌<◌, ℕ, true, Contains, length}
use Rattle.machine_model.specs.Beneath.slot_arena.specs.declared.refs.Ref.{Ref}
use Rattle.machine_model.specs.Beneath.slot_arena.specs.Heaps.{entries_of, entry_at, node_at}
use Rattle.proof_memory.specs.Wants.{is_branch_or_list}
use Rattle.lock_free.specs.declared.leaving.Drops.{Drops}
use Rattle.lock_free.specs.declared.leaving.Drops.TheVariants as drops
use Rattle.lock_free.specs.declared.rules.View.{View}
use Rattle.lock_free.specs.LettingGo.{names_of}
use Rattle.lock_free.specs.Loading.{now}

-- the entry at this position, and nothing else
pub record IsDroppedAt (v : View) (m f : Ref) (position : ℕ) : Type 0 where
  pub kind : is_branch_or_list (node_at (now v).heap m) ≡ true
  pub inside : position < length (entries_of (node_at (now v).heap m))
  pub low : position < 32
  pub out : ¬ Contains (names_of v f) (entry_at (now v).heap m position)
  pub rest : (k : Ref) → Contains (names_of v m) k → k ≢ entry_at (now v).heap m position → Contains (names_of v f) k

abbrev pub AreDropped : View → Ref → Ref → Drops → Type 0
AreDropped v m f drops.Nothing = (k : Ref) → Contains (names_of v m) k → Contains (names_of v f) k
AreDropped v m f (drops.At position) = IsDroppedAt v m f position
AreDropped v m f drops.Others = Unit {0}
