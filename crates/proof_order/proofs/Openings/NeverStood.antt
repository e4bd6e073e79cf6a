-- No handle ever had a root of the generation of a root that is still to be offered.
use Rattle.std.proofs.Common.{◌≡◌, ℕ, suc, ◌<◌, ◌≤◌, Bool, false, inl, inr, Some, sym, ap, ◌∙◌, arith}
use Rattle.std.proofs.lemmas.Bool.{cases_eq}
use Rattle.std.proofs.lemmas.Option.{none-some}
use Rattle.proof_order.specs.Vocabulary.{Ref, generation_at, generation_of, CopyLine, Operation, Root, Bounds, Outcome, Step, State, root_at, root_of, Moves, IsRun}
use Rattle.proof_order.specs.Beneath.machine_model.specs.declared.lines.Line.TheVariants as line
use Rattle.proof_order.specs.Beneath.proof_memory.proofs.Safety.AtEachTime.{safe_at}
use Rattle.proof_order.specs.Beneath.proof_memory.proofs.Safety.Guards.{Safe}
use Rattle.proof_generations.specs.Running.{Runs}
use Rattle.proof_generations.proofs.Counter.Below.{looked_up_below}
use Rattle.proof_generations.proofs.Handles.Operations.{Ran}
use Rattle.proof_generations.proofs.Roots.Own.{gen, IsUnused}
use Rattle.proof_generations.proofs.Roots.Kept.{fresh_in, safe_kept}
use Rattle.proof_generations.proofs.Roots.Along.{IsOrdered, ordered_at}
use Rattle.proof_generations.proofs.Falling.Counted.{counted}
use Rattle.proof_order.proofs.Openings.AlongMoves.{along_moves}
use Rattle.proof_order.proofs.Openings.Copy.{copied, copied_kept, copied_made, makes_over, line_safe, fresh_copies, over_copies}
use Rattle.proof_order.proofs.Openings.Fresh.{FreshBehind, stays, made, fresh_behind}
use Rattle.proof_order.specs.Facts.{Notes}

module _ {limits : Bounds} {states : ℕ → State} {last : ℕ} (run : IsRun limits states last) where
  -- a handle's root up to a time has a generation that was drawn
  pub stood_below : (u t handle : ℕ) (root : Root) → u ≤ t → t ≤ last → gen (states u) root < (states t).generations
  stood_below u t handle root le within =
      omega (arith, looked_up_below (states u) (ordered_at run u (omega arith)).below (root_of root.word), counted run u t le within)

  -- the root that an operation is to replace keeps its generation
  root_stays : (t : ℕ) → t < last → (s : Step) (o : Outcome) → Moves (states t) s o (states (suc t)) → (k : ℕ) (operation : Operation) →
      Runs (states t) k operation → (c : CopyLine) → operation.line ≡ line.Copy c →
      generation_at (states (suc t)).heap (copied operation.line).0 ≡ generation_at (states t).heap (copied operation.line).0
  root_stays t within s o m k operation at_k c e =
      let safe = safe_at run t (omega arith) in
      safe_kept (states t) safe s o (states (suc t)) m operation.epoch (safe.recent k operation at_k).0 (safe.recent k operation at_k).1 (copied operation.line).0
      (line_safe (Safe (states t) operation.epoch) (states t) operation operation.line (safe.lines k operation at_k) c e)

  -- what is known of a fresh root of an operation: no handle had its generation, and it is newer than the root that it is to follow and what the handle to open ever had
  pub record IsNew (t : ℕ) (operation : Operation) (r : Ref) : Type 0 where
    pub newer : generation_at (states t).heap (copied operation.line).0 < generation_at (states t).heap r
    pub never : (u handle : ℕ) (root : Root) → u ≤ t → root_at (states u) handle ≡ Some root → gen (states u) root ≡ generation_at (states t).heap r → ⊥
    pub above : (u n : ℕ) (root : Root) → u ≤ t → operation.opens ≡ Some n → root_at (states u) n ≡ Some root → gen (states u) root < generation_at (states t).heap r

  abbrev AllNew : ℕ → Type 0
  AllNew t = (k : ℕ) (operation : Operation) (x : Bool) (r : Ref) → Runs (states t) k operation → operation.is_marked ≡ false → fresh_in x operation.line ≡ Some r → IsNew t operation r

  module _ (t : ℕ) (within : t < last) (so_far : AllNew t) (s : Step) (o : Outcome) (m : Moves (states t) s o (states (suc t)))
      (notes : Notes states run.records t s) where
    -- before the step, and just behind it
    next_by : (k : ℕ) (found : Operation) (x : Bool) (r : Ref) → Runs (states (suc t)) k found → found.is_marked ≡ false → fresh_in x found.line ≡ Some r →
        ((u handle : ℕ) (root : Root) → u ≤ t → root_at (states u) handle ≡ Some root → gen (states u) root ≡ generation_at (states (suc t)).heap r → ⊥) →
        ((u n : ℕ) (root : Root) → u ≤ t → found.opens ≡ Some n → root_at (states u) n ≡ Some root → gen (states u) root < generation_at (states (suc t)).heap r) →
        generation_at (states (suc t)).heap (copied found.line).0 < generation_at (states (suc t)).heap r → IsNew (suc t) found r
    next_by k found x r at_k unmarked e never above newer = record {
      newer = newer;
      never = λ u handle root le at_handle same. elim (cases_eq u (suc t)) [
        | inl now ↦
            unused.alone handle root (ap (λ v. root_at (states v) handle) (sym now) ∙ at_handle) (ap (λ v. gen (states v) root) (sym now) ∙ same)
        | inr before ↦ never u handle root (omega arith) at_handle same
      ];
      above = λ u n root le its at_n. elim (cases_eq u (suc t)) [
        | inl now ↦ absurd (none-some root (sym (behind.handles.unopened k n found at_k unmarked its) ∙ ap (λ v. root_at (states v) n) (sym now) ∙ at_n))
        | inr before ↦ above u n root (omega arith) its at_n
      ];
    }
      where
        behind : IsOrdered (states (suc t)) (run.records (suc t))
        behind = ordered_at run (suc t) within

        unused : IsUnused (states (suc t)) (run.records (suc t)) (generation_at (states (suc t)).heap r)
        unused = behind.roots.fresh k found x r at_k unmarked e

    -- a line that had it goes on over the same root
    same : (k : ℕ) (found : Operation) (x : Bool) (r : Ref) (ran : Ran (states t) s k found) → fresh_in x ran.was.line ≡ Some r → fresh_in x found.line ≡ Some r →
        copied found.line ≡ copied ran.was.line
    same k found x r ran f e = elim ran.line [
      | inl stood ↦ ap copied stood
      | inr (inl goes) ↦ ap copied goes.1 ∙ copied_kept (states t) ran.was ran.was.line x x r r f (ap (fresh_in x) (sym goes.1) ∙ e)
      | inr (inr ended) ↦ absurd (none-some r (sym (ap (fresh_in x) ended.1) ∙ e))
    ]

    new_by : (k : ℕ) (found : Operation) (x : Bool) (r : Ref) → Runs (states (suc t)) k found → found.is_marked ≡ false → fresh_in x found.line ≡ Some r →
        FreshBehind (states t) (run.records t) (safe_at run t (omega arith)) (ordered_at run t (omega arith)) s o
        (states (suc t)) m k found x r → IsNew (suc t) found r
    new_by k found x r at_k unmarked e (stays ran f kept) =
        let before = so_far k ran.was x r ran.at_k (ran.unmarked unmarked) f in
        next_by k found x r at_k unmarked e (λ u handle root le at_handle same. before.never u handle root le at_handle (same ∙ kept))
        (λ u n root le its at_n. omega (arith, before.above u n root le (sym ran.opens ∙ its) at_n, kept))
        (let copies = fresh_copies ran.was.line x r f in
        omega (arith, before.newer, kept, root_stays t within s o m k ran.was ran.at_k copies.0 copies.1, ap (λ p. generation_at (states (suc t)).heap p.0) (same k found x r ran f e)))
    new_by k found x r at_k unmarked e (made ran main is a n side goes used node) =
        next_by k found x r at_k unmarked e
        (λ u handle root le at_handle same. omega (arith, stood_below u t handle root le (omega arith), same, ap generation_of node))
        (λ u n root le its at_n. omega (arith, stood_below u t n root le (omega arith), ap generation_of node))
        (let copies = over_copies (states t) ran.was ran.was.line main
        (makes_over (states t) ran.was ran.was.line main ((ordered_at run t (omega arith)).offers.own k ran.was ran.at_k) a) in
        omega (
          arith,
          looked_up_below (states t) (ordered_at run t (omega arith)).below (copied ran.was.line).0,
          ap generation_of node,
          root_stays t within s o m k ran.was ran.at_k copies.0 copies.1,
          ap (λ p. generation_at (states (suc t)).heap p.0) (ap copied goes ∙ copied_made (states t) ran.was ran.was.line main r a n),
        ))

    all_next : AllNew (suc t)
    all_next k found x r at_k unmarked e =
        new_by k found x r at_k unmarked e
        (fresh_behind (states t) (run.records t) (safe_at run t (omega arith)) (ordered_at run t (omega arith)) s o (states (suc t)) m k found at_k x r e)

  pub new_at : (t : ℕ) → t ≤ last → AllNew t
  new_at = along_moves run AllNew (λ none k operation x r at_k. absurd (none k operation at_k)) all_next
