-- What nobody is to bring at some time nobody is to bring later: what copies make for their offers since is new.
use Rattle.std.proofs.Common.{◌≡◌, ℕ, suc, ◌<◌, ◌≤◌, Bool, true, false, inl, inr, Some, is_some, refl, sym, ap, ◌∙◌, subst, arith}
use Rattle.std.proofs.lemmas.Bool.{true≢false}
use Rattle.std.proofs.lemmas.Option.{none-some}
use Rattle.proof_followed.specs.Beneath.slot_arena.specs.declared.refs.Ref.{Ref}
use Rattle.proof_followed.specs.Beneath.slot_arena.specs.Heaps.{main_at, main_of, next_ref}
use Rattle.proof_followed.specs.Beneath.machine_model.specs.declared.operations.Operation.{Operation}
use Rattle.proof_followed.specs.Beneath.machine_model.specs.declared.steps.Bounds.{Bounds}
use Rattle.proof_followed.specs.Beneath.machine_model.specs.declared.steps.Outcome.{Outcome}
use Rattle.proof_followed.specs.Beneath.machine_model.specs.declared.steps.Step.{Step}
use Rattle.proof_followed.specs.Beneath.machine_model.specs.Grown.{grown}
use Rattle.proof_followed.specs.Beneath.machine_model.specs.Moves.{Moves}
use Rattle.proof_followed.specs.Beneath.machine_model.specs.States.{State}
use Rattle.proof_followed.specs.Beneath.machine_model.specs.Times.{IsRun, Turn, turns}
use Rattle.proof_followed.specs.Beneath.proof_memory.proofs.Heap.Moves.{not_yet_drawn}
use Rattle.proof_followed.specs.Beneath.proof_memory.proofs.Safety.AtEachTime.{safe_at}
use Rattle.proof_followed.specs.Beneath.proof_memory.proofs.Safety.AtTimes.{node_found}
use Rattle.proof_followed.specs.Beneath.proof_commits.proofs.Course.Finals.{from_time, effect}
use Rattle.proof_followed.specs.Beneath.proof_commits.proofs.Words.Effects.{made_later}
use Rattle.proof_followed.specs.Beneath.proof_commits.proofs.Words.Stood.{stands_now}
use Rattle.proof_followed.specs.Beneath.proof_generations.specs.Running.{Runs}
use Rattle.proof_followed.specs.Beneath.proof_generations.proofs.Falling.Counted.{fresh_used}
use Rattle.proof_followed.specs.Beneath.proof_generations.proofs.Falling.FreshRoots.{fresh_stands}
use Rattle.proof_followed.specs.Beneath.proof_generations.proofs.Falling.KnownRoots.{protocol_of}
use Rattle.proof_followed.specs.Beneath.proof_generations.proofs.Handles.Operations.{Ran, ran_or_began}
use Rattle.proof_followed.specs.Beneath.proof_generations.proofs.Handles.Running.{comes}
use Rattle.proof_followed.specs.Beneath.proof_generations.proofs.Roots.Along.{ordered_at}
use Rattle.proof_followed.specs.Beneath.proof_generations.proofs.Roots.Kept.{fresh_in}
use Rattle.proof_order.proofs.Openings.Branches.{IsCleared}
use Rattle.proof_order.proofs.Openings.Copy.{copied, copied_kept, copied_made, MakesOver, over_found, over_branch, makes_over}
use Rattle.proof_order.proofs.Openings.Fresh.{FreshBehind, stays, made, fresh_behind}
use Rattle.proof_followed.proofs.Cleared.{first_uncleared, cleared_made}
use Rattle.proof_followed.proofs.FreshRoots.{w, stood_before, stand_at}

-- it is none of the roots that the operation made for its offer, nor the main node of one but the expected one, nor the branch over which it is to make one
abbrev pub IsApartFrom : State → Operation → Ref → Type 0
IsApartFrom state operation r =
    ((x : Bool) (q : Ref) → fresh_in x operation.line ≡ Some q → (q ≡ r → ⊥) × (main_at state.heap q ≡ r → r ≡ (copied operation.line).1)) × ((b : Ref) → IsCleared operation.line b → b ≡ r → ⊥)

-- so it is for each operation whose offer isn't carried out yet
abbrev pub IsApart : State → Ref → Type 0
IsApart state r = (k : ℕ) (operation : Operation) → Runs state k operation → operation.is_marked ≡ false → IsApartFrom state operation r

module _ {limits : Bounds} {states : ℕ → State} {last : ℕ} (run : IsRun limits states last) (r : Ref) where
  module _ (t : ℕ) (lt : t < last) (is_made : is_some (grown states t r) ≡ true) (so_far : IsApart (states t) r) (s : Step) (o : Outcome) (mv : Moves (states t) s o (states (suc t))) where
    abbrev within : t ≤ last
    within = omega (arith, lt)

    -- what is made now is another one
    new_apart : (q : Ref) → next_ref (states t).heap ≡ Some q → q ≡ r → ⊥
    new_apart q n same = true≢false (sym is_made ∙ ap is_some (ap (grown states t) (sym same) ∙ not_yet_drawn run t (omega (arith, lt)) q n))

    module _ (k : ℕ) (found : Operation) (runs : Runs (states (suc t)) k found) (unmarked : found.is_marked ≡ false) where
      made_over : (ran : Ran (states t) s k found) (main : Ref) → MakesOver (states t) ran.was ran.was.line main → main ≡ r → r ≡ (copied ran.was.line).1
      made_over ran main (over_found root clear (inl e)) is = sym is ∙ sym (ap (λ l. (copied l).1) e)
      made_over ran main (over_found root clear (inr (successor, e))) is = sym is ∙ sym (ap (λ l. (copied l).1) e)
      made_over ran main (over_branch root before clear e) is = absurd ((so_far k ran.was ran.at_k (ran.unmarked unmarked)).1 main (subst (λ l. IsCleared l main) (sym e) refl) is)

      fresh_by : (x : Bool) (q : Ref) → fresh_in x found.line ≡ Some q →
          FreshBehind (states t) (run.records t) (safe_at run t (omega (arith, lt))) (ordered_at run t (omega (arith, lt))) s o (states (suc t)) mv k found x q →
          (q ≡ r → ⊥) × (main_at (states (suc t)).heap q ≡ r → r ≡ (copied found.line).1)
      fresh_by x q e (stays ran f kept) =
          let before = (so_far k ran.was ran.at_k (ran.unmarked unmarked)).0 x q f in
          let same : copied found.line ≡ copied ran.was.line = elim ran.line [
            | inl stood ↦ ap copied stood
            | inr (inl goes) ↦ ap copied goes.1 ∙ copied_kept (states t) ran.was ran.was.line x x q q f (ap (fresh_in x) (sym goes.1) ∙ e)
            | inr (inr ended) ↦ absurd (none-some q (sym (ap (fresh_in x) ended.1) ∙ e))
          ] in (
            before.0,
            λ is.
                before.1
                (ap main_of (node_found states t q (fresh_used run t (omega (arith, lt)) k ran.was x q ran.at_k f))
                ∙ stand_at run t (omega (arith, lt)) k ran.was x q ran.at_k (ran.unmarked unmarked) f r
                (stood_before run t lt k ran.was x q ran.at_k (ran.unmarked unmarked) f r (stands_now (fresh_stands run (suc t) lt k found x q runs e)
                (sym (ap main_of (node_found states (suc t) q (fresh_used run (suc t) lt k found x q runs e))) ∙ is))))
                ∙ sym (ap (λ p. p.1) same),
          )
      fresh_by x q e (made ran main go does n side goes used node) =
          let same : copied found.line ≡ copied ran.was.line = ap copied goes ∙ copied_made (states t) ran.was ran.was.line main q does n in (
            new_apart q n,
            λ is.
                made_over ran main (makes_over (states t) ran.was ran.was.line main ((ordered_at run t (omega (arith, lt))).offers.own k ran.was ran.at_k) does)
                (sym (ap main_of node) ∙ is) ∙ sym (ap (λ p. p.1) same),
          )

      cleared_apart : (b : Ref) → IsCleared found.line b → b ≡ r → ⊥
      cleared_apart b is =
          let I = ordered_at run t (omega (arith, lt)) in
          elim (ran_or_began (states t) I.offers I.handles s k found (comes (states t) s o (states (suc t)) mv k found runs)) [
            | inl ran ↦ elim ran.line [
              | inl same ↦ (so_far k ran.was ran.at_k (ran.unmarked unmarked)).1 b (subst (λ l. IsCleared l b) same is)
              | inr (inl goes) ↦ new_apart b (cleared_made (states t) ran.was b ran.was.line (subst (λ l. IsCleared l b) goes.1 is))
              | inr (inr ended) ↦ absurd (subst (λ l. IsCleared l b) ended.1 is)
            ]
            | inr (call, number, begins, d, it) ↦ absurd (first_uncleared call b (subst (λ (x : Operation). IsCleared x.line b) it is))
          ]

    apart_next : IsApart (states (suc t)) r
    apart_next k found runs unmarked = (
      λ x q e.
          fresh_by k found runs unmarked x q e
          (fresh_behind (states t) (run.records t) (safe_at run t (omega (arith, lt))) (ordered_at run t (omega (arith, lt))) s o (states (suc t)) mv k found runs x q e),
      cleared_apart k found runs unmarked,
    )

  -- from some time on
  record Stays (t : ℕ) : Type 0 where
    pub is_made : is_some (grown states t r) ≡ true
    pub apart : IsApart (states t) r

  pub apart_later : (t u : ℕ) → is_some (grown states t r) ≡ true → IsApart (states t) r → t ≤ u → u ≤ last → IsApart (states u) r
  apart_later t u is_made apart le within = (from_time Stays t last (record { is_made = is_made; apart = apart }) next u le within).apart
    where
      by_turn : (v : ℕ) → v < last → Stays v → Turn (states v) (states (suc v)) → IsApart (states (suc v)) r
      by_turn v lt h (turns s o mv) = apart_next v lt h.is_made h.apart s o mv

      next : (v : ℕ) → t ≤ v → v < last → Stays v → Stays (suc v)
      next v from lt h = record { is_made = made_later (w run) v (effect (protocol_of run) v lt) r h.is_made; apart = by_turn v lt h (run.turn v lt) }
