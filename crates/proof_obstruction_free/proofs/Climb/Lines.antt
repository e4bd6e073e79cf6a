-- The lines of CLIMB, where one actor alone takes steps: what each leads to.
use Rattle.std.proofs.Common.{◌≡◌, ℕ, suc, ◌+◌, ◌≤◌, Bool, true, false, Option, Some, None, if◌then◌else◌, refl, subst}
use Rattle.proof_obstruction_free.specs.Vocabulary.{Ref, Node, Indirection, Branch, Single, Tomb, List as Listed, node_at, next_ref, Line, ReadLine, Climb, Operation, changed_reply, climbing}
use Rattle.proof_obstruction_free.specs.Vocabulary.{climbed, higher, holds_it, climb_after_read, climb_after_main, climb_after_contracted, climbed_on, current, above, is_below_root, reading}
use Rattle.proof_obstruction_free.specs.Vocabulary.{swapping}
use Rattle.proof_obstruction_free.specs.Beneath.machine_model.specs.declared.lines.Line.TheVariants as line
use Rattle.proof_obstruction_free.specs.Beneath.machine_model.specs.declared.lines.Purpose.TheVariants as purpose
use Rattle.proof_obstruction_free.specs.Beneath.machine_model.specs.declared.repairs.ClimbLine.TheVariants as climb
use Rattle.proof_obstruction_free.specs.Alone.{Lone, Stands, Keeps, Within, IsWeight}
use Rattle.proof_obstruction_free.specs.Machines.{HoldsRead}
use Rattle.proof_obstruction_free.specs.Stepping.{Stepping}
use Rattle.proof_obstruction_free.proofs.Read.Embedded.{holds_read}
use Rattle.proof_obstruction_free.proofs.Step.Within.{weaken, ended}
use Rattle.proof_obstruction_free.proofs.Build.Steps.{quiet_on}
use Rattle.proof_obstruction_free.proofs.Ends.StandsAt.{never}

-- ---- the READ of the parent

abbrev pub climb_read : Climb → Ref → ReadLine → Line
climb_read x i l = line.Climb (climb.Read x (record { indirection = i; line = l }))

abbrev pub climb_gives : Climb → Ref → Line
climb_gives x m = line.Climb (climb.Main x m)

pub climb_holds_read : (own : Operation) (x : Climb) (i : Ref) → HoldsRead own (climb_read x i) (climb_gives x) i
climb_holds_read own x i =
    holds_read own (λ r. line.Climb (climb.Read x r)) (climb_gives x) (climb_after_read x) i (λ r. refl) (λ state operation r. refl) (λ state operation r. refl) (λ r. refl) (λ m. refl)
    (λ state operation r. refl)

module _ (a : Lone) where
  -- what climbs goes by the call alone
  pub climbing_own : (t : ℕ) (g : Option ℕ) (operation : Operation) (x : Climb) → operation.call ≡ a.own.call → Stands a t g (climbing operation x) → Stands a t g (climbing a.own x)
  climbing_own t g operation x call s =
      subst (λ k. Stands a t g (if is_below_root x.path then line.Climb (climb.Read x (reading (current (above x.path)))) else line.End (changed_reply k x.former))) call s

module _ (a : Lone) (weight : ℕ → ℕ) (heavy : IsWeight a weight) (steps : Stepping a) where
  abbrev W : (ℕ → Type 0) → ℕ → ℕ → Type 0
  W = Within a weight

  -- it ends
  pub ended_soon : (Q : ℕ → Type 0) (n t : ℕ) (g : Option ℕ) (former : Option ℕ) (operation : Operation) → 1 ≤ n → Stands a t g (climbed operation former) → W Q n t
  ended_soon Q n t g former operation some s = weaken a weight Q 1 n t some (ended a weight steps Q t g (changed_reply operation.call former) s)

  -- the parent's main node: a tomb, another branch, or the branch that holds the tombed indirection
  pub climb_main_on :
      (Q : ℕ → Type 0) (n t : ℕ) (g : Option ℕ) (x : Climb) (main : Ref) → 1 ≤ n → Stands a t g (line.Climb (climb.Main x main)) →
      ((single : Ref) → Stands a (suc t) g (climbing a.own (higher x single)) → W Q n (suc t)) →
      (Stands a (suc t) g (line.Climb (climb.Contracted x main)) → Keeps a t (suc t) → W Q n (suc t)) → W Q (n + 1) t
  climb_main_on Q n t g x main some s up holds =
      quiet_on a weight heavy steps Q n t g (line.Climb (climb.Main x main)) s tt tt tt refl (λ next keeps word. by_node keeps (node_at (a.states t).heap main) next)
    where
      by_test : Keeps a t (suc t) → (b : Bool) → Stands a (suc t) g (if b then line.Climb (climb.Contracted x main) else climbed s.operation x.former) → W Q n (suc t)
      by_test keeps true next = holds next keeps
      by_test keeps false next = ended_soon Q n (suc t) g x.former s.operation some next

      by_node : Keeps a t (suc t) → (n' : Node) → Stands a (suc t) g (climb_after_main (a.states t) s.operation x main n') → W Q n (suc t)
      by_node keeps (Tomb single) next = up single (climbing_own a (suc t) g s.operation (higher x single) s.call next)
      by_node keeps (Branch bitmap entries) next = by_test keeps (holds_it (a.states t) s.operation x main bitmap entries.items) next
      by_node keeps (Indirection h m) next = absurd (never a (suc t) g next)
      by_node keeps (Single k v) next = absurd (never a (suc t) g next)
      by_node keeps (Listed singles) next = absurd (never a (suc t) g next)

  -- the parent's new main node, or the end
  pub climb_made_on :
      (Q : ℕ → Type 0) (n t : ℕ) (g : Option ℕ) (x : Climb) (main : Ref) → 1 ≤ n → Stands a t g (line.Climb (climb.Contracted x main)) →
      ((made : Ref) → Stands a (suc t) g (line.Swap (purpose.Climb x) (swapping (current (above x.path)) main made)) → Keeps a t (suc t) → W Q n (suc t)) → W Q (n + 1) t
  climb_made_on Q n t g x main some s follows =
      quiet_on a weight heavy steps Q n t g (line.Climb (climb.Contracted x main)) s tt tt tt refl (λ next keeps word. by_made keeps (next_ref (a.states t).heap) next)
    where
      by_made : Keeps a t (suc t) → (o : Option Ref) → Stands a (suc t) g (climb_after_contracted s.operation x main o) → W Q n (suc t)
      by_made keeps None next = ended_soon Q n (suc t) g x.former s.operation some next
      by_made keeps (Some made) next = follows made next keeps

  -- after the SWAP a tomb climbs on
  pub climb_swapped :
      (Q : ℕ → Type 0) (n t : ℕ) (g : Option ℕ) (x : Climb) (node : Node) → 1 ≤ n → Stands a t g (climbed_on a.own x node) →
      ((single : Ref) → Stands a t g (climbing a.own (higher x single)) → W Q n t) → W Q n t
  climb_swapped Q n t g x (Tomb single) some s up = up x.single s
  climb_swapped Q n t g x (Branch bitmap entries) some s up = ended_soon Q n t g x.former a.own some s
  climb_swapped Q n t g x (Indirection h m) some s up = ended_soon Q n t g x.former a.own some s
  climb_swapped Q n t g x (Single k v) some s up = ended_soon Q n t g x.former a.own some s
  climb_swapped Q n t g x (Listed singles) some s up = ended_soon Q n t g x.former a.own some s
