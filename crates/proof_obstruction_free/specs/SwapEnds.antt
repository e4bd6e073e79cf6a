-- SWAP and ROOT, where one actor alone takes steps, in steps alone.
use Rattle.std.specs.Prelude.{◌≡◌, ℕ, ◌+◌, ◌≤◌, Bool, Option, Some}
use Rattle.proof_obstruction_free.specs.Vocabulary.{Ref, Purpose, Swap, swapped, swapping}
use Rattle.proof_obstruction_free.specs.Beneath.machine_model.specs.declared.lines.Line.TheVariants as line
use Rattle.proof_obstruction_free.specs.Beneath.machine_model.specs.declared.reading.SwapLine.TheVariants as swap
use Rattle.proof_obstruction_free.specs.Beneath.machine_model.specs.declared.roots.RootLine.TheVariants as root
use Rattle.proof_obstruction_free.specs.Beneath.machine_model.specs.Operations.{from_root}
use Rattle.proof_obstruction_free.specs.Alone.{Lone, Stands, IsPlain, node, generation}

-- how many steps a SWAP takes from its first line, and from any other of its lines; and a ROOT from its first
abbrev pub swap_steps : ℕ
swap_steps = 10

abbrev pub swap_steps_left : ℕ
swap_steps_left = 13

abbrev pub root_steps : ℕ
root_steps = 12

module _ (a : Lone) where
  -- within so many steps from step t on the SWAP has come to its end
  pub record HasEnded (t n : ℕ) (g : Option ℕ) (why : Purpose) (fresh : Ref) : Type 0 where
    pub at : ℕ
    pub from : t ≤ at
    pub soon : at ≤ t + n
    pub done : Bool
    pub stands : Stands a at g (swapped a.own (node a fresh) why done)

  abbrev pub SwapEnds : Type 0
  SwapEnds =
      (why : Purpose) (i replaced fresh : Ref) (t : ℕ) (g : Option ℕ) → Stands a t g (line.Swap why (swapping i replaced fresh)) → t + swap_steps ≤ a.last →
      HasEnded t swap_steps g why fresh

  abbrev pub SwapGoesToItsEnd : Type 0
  SwapGoesToItsEnd =
      (why : Purpose) (s : Swap) (t : ℕ) (g : Option ℕ) → Stands a t g (line.Swap why s) → (s.line ≡ swap.Publish → ⊥) → t + swap_steps_left ≤ a.last →
      HasEnded t swap_steps_left g why s.fresh

  -- and a ROOT gives the root that stands there with no offer
  abbrev pub RootEnds : Type 0
  RootEnds =
      (t : ℕ) (g : Option ℕ) → Stands a t g (line.Root root.Read) → t + root_steps ≤ a.last →
      (u : ℕ) × (t ≤ u) × (u ≤ t + root_steps) × (r : Ref) × IsPlain a u r × Stands a u (Some (generation a r)) (from_root a.own.call r)
