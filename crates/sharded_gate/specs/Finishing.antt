-- The end of a sharded gate.
use Rattle.std.specs.Prelude.{◌≡◌, ℕ, ◌<◌, ◌≤◌, true, false, List, Result, Ok, Err, slice_index_or}
use Rattle.std.specs.Global.{Vec, Global}
use Rattle.atomic_table.specs.declared.owned.Closed.{Closed}
use Rattle.gate.specs.Seats.{Room, Seated}
use Rattle.gate.specs.Finishing.{AreHere, IsMissing, IsGathered}

module _ {S O C A : Type 0} (answers : ℕ → List O → C → A → List O → Type 0) (of : S → Seated (List O) C A) where
  -- the shards are out; or where a seat isn't there, all that was handed in
  abbrev pub AreFinished : Room (List O) → List S → Result (Vec O) (Room (List O) × Vec S) → Type 0
  AreFinished gate seats (Ok shards) = AreHere of gate.seats seats × IsGathered answers of gate seats shards.items
  AreFinished gate seats (Err back) = IsMissing of gate.seats seats × (back.0 ≡ gate) × (back.1.items ≡ seats)

-- what the slots of a closed table hold, each of them, of which there are so many
module _ {S : Type 0} where
  abbrev pub contents : Closed S Global → List S
  contents closed = closed.slots.items

  abbrev pub AreFull : ℕ → Closed S Global → Type 0
  AreFull many closed = ((k : ℕ) → 0 ≤ k → k < closed.slots.len → slice_index_or closed.slots.filled k false ≡ true) × (closed.slots.len ≡ many)
