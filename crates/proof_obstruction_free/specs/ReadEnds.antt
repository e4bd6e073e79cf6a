-- READ, where one actor alone takes steps, in steps alone.
use Rattle.std.specs.Prelude.{ℕ, ◌+◌, ◌≤◌, Option}
use Rattle.proof_obstruction_free.specs.Vocabulary.{Ref, Line, ReadLine}
use Rattle.proof_obstruction_free.specs.Beneath.machine_model.specs.declared.reading.ReadLine.TheVariants as read
use Rattle.proof_obstruction_free.specs.Alone.{Lone, Stands, Has}
use Rattle.proof_obstruction_free.specs.Machines.{HoldsRead}

-- how many steps a READ takes from its first line, and from any of its lines
abbrev pub read_steps : ℕ
read_steps = 9

abbrev pub read_steps_left : ℕ
read_steps_left = 12

module _ (a : Lone) where
  -- from its first line a READ gives the main node that stands there, decided
  abbrev pub ReadEnds : Type 0
  ReadEnds =
      (wrap : ReadLine → Line) (gives : Ref → Line) (i : Ref) → HoldsRead a.own wrap gives i → (t : ℕ) (g : Option ℕ) → Stands a t g (wrap read.Main) → t + read_steps ≤ a.last →
      (u : ℕ) × (t ≤ u) × (u ≤ t + read_steps) × (m : Ref) × Stands a u g (gives m) × Has a u i m

  -- from any line it gives one
  abbrev pub ReadGoesToItsEnd : Type 0
  ReadGoesToItsEnd =
      (wrap : ReadLine → Line) (gives : Ref → Line) (i : Ref) → HoldsRead a.own wrap gives i → (t : ℕ) (g : Option ℕ) (l : ReadLine) → Stands a t g (wrap l) →
      t + read_steps_left ≤ a.last → (u : ℕ) × (t ≤ u) × (u ≤ t + read_steps_left) × (m : Ref) × Stands a u g (gives m)
