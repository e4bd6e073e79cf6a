-- A fresh root that is still to be offered or carried out has the main node over which it was made.
use Rattle.std.proofs.Common.{◌≡◌, ℕ, suc, ◌<◌, ◌≤◌, Bool, true, false, inl, inr, Some, is_some, refl, sym, ap, ◌∙◌, subst, arith}
use Rattle.std.proofs.lemmas.Bool.{true≢false}
use Rattle.std.proofs.lemmas.Option.{none-some}
use Rattle.proof_order.specs.Vocabulary.{Writable, Ref, Indirection, generation_at, generation_of, node_of, prev_of, main_of, logical, empty_branch, next_ref, Line, Operation, Bounds, Outcome, Step}
use Rattle.proof_order.specs.Vocabulary.{State, action_of, grown, node_under, prev_word, Moves, IsRun, Runs, is_clear, IsInUse, Given, stage_of, stage_of_actor, counting_main}
use Rattle.proof_order.specs.Beneath.slot_arena.specs.declared.nodes.Prev.TheVariants as over
use Rattle.proof_order.specs.Beneath.machine_model.specs.declared.actions.Action.TheVariants as act
use Rattle.proof_order.specs.Beneath.machine_model.specs.declared.steps.Step.TheVariants as step
use Rattle.proof_order.specs.Beneath.proof_memory.proofs.Safety.AtEachTime.{safe_at}
use Rattle.proof_order.specs.Beneath.proof_memory.proofs.Safety.AtTimes.{line_finds, generation_found}
use Rattle.proof_order.specs.Beneath.proof_memory.proofs.Safety.States.{IsSafe}
use Rattle.proof_order.specs.Beneath.proof_commits.proofs.Known.Owners.{IsSound, Staged}
use Rattle.proof_order.specs.Beneath.proof_commits.proofs.Known.Sounds.{sound_at}
use Rattle.proof_order.specs.Beneath.proof_commits.proofs.Course.Finals.{link_stays}
use Rattle.proof_order.specs.Beneath.proof_commits.proofs.Known.Given.{ActsOn, Taken, GrownTakes}
use Rattle.proof_order.specs.Beneath.proof_commits.proofs.Words.Along.{protocol, remembers_at}
use Rattle.proof_order.specs.Beneath.proof_commits.proofs.Lines.Stages.{Remembers}
use Rattle.proof_generations.proofs.Counter.Drawn.{generation_stays}
use Rattle.proof_generations.proofs.Roots.Own.{IsUnused}
use Rattle.proof_generations.proofs.Roots.Kept.{fresh_in, fresh_safe}
use Rattle.proof_generations.proofs.Roots.Along.{IsOrdered, ordered_at}
use Rattle.proof_order.specs.Beneath.proof_contents.proofs.Values.Runs.{counting_main-made, counting_main-stays}
use Rattle.proof_order.proofs.Openings.AlongMoves.{along_moves}
use Rattle.proof_order.proofs.Openings.Fresh.{FreshBehind, stays, made, fresh_behind}
use Rattle.proof_order.proofs.Openings.CompleteTimes.{w}
use Rattle.proof_order.proofs.Openings.MainChanges.{unused_stays}
use Rattle.proof_order.proofs.Openings.Copy.{copied, copied_kept, copied_made, MakesOver, over_found, over_branch, makes_over}
use Rattle.proof_order.proofs.Openings.Branches.{IsCleared, empty_at}
use Rattle.proof_order.specs.Beneath.proof_memory.specs.Wants.{is_indirection}
use Rattle.proof_order.specs.Beneath.machine_model.proofs.Grown.{grown_in_use}
use Rattle.proof_order.specs.Beneath.proof_commits.proofs.Known.Acts.{known_run}

-- ---- along a run

module _ {limits : Bounds} {states : ℕ → State} {last : ℕ} (run : IsRun limits states last) where
  -- the main node that was found, or, for a clear, an empty branch
  abbrev pub ShowsMain : Bool → Ref → Ref → Type 0
  ShowsMain false expected main = main ≡ expected
  ShowsMain true expected main = node_under states last main ≡ empty_branch

  -- what is known of a fresh root that an operation has at this time
  pub record Shows (t : ℕ) (operation : Operation) (q : Ref) : Type 0 where
    pub link : is_indirection (node_under states t q) ≡ true
    pub main_is : ShowsMain (is_clear operation.call) (copied operation.line).1 (counting_main states last t q)

  abbrev AllShow : ℕ → Type 0
  AllShow t = (k : ℕ) (operation : Operation) (x : Bool) (q : Ref) → Runs (states t) k operation → operation.is_marked ≡ false → fresh_in x operation.line ≡ Some q → Shows t operation q

  S : (t : ℕ) → t ≤ last → IsSafe (states t)
  S t within = safe_at run t within

  I : (t : ℕ) → t ≤ last → IsOrdered (states t) (run.records t)
  I t within = ordered_at run t within

  -- a fresh root's main node stays in a step
  pub fresh_stays : (t : ℕ) → t < last → (k : ℕ) (operation : Operation) (x : Bool) (q : Ref) → Runs (states t) k operation → operation.is_marked ≡ false → fresh_in x operation.line ≡ Some q →
      is_indirection (node_under states t q) ≡ true → counting_main states last (suc t) q ≡ counting_main states last t q
  fresh_stays t within k operation x q at_k unmarked e l =
      let used : IsInUse (states t).heap q =
      fresh_safe (IsInUse (states t).heap) (states t) operation operation.line (line_finds (states t) (S t (omega arith)) (suc k) operation at_k) x q e in
      let its : generation_at (states t).heap q ≡ generation_of (node_under states last q) =
      generation_found states t q used ∙ sym (generation_stays run t last (omega arith) (omega arith) q used.0 (grown_in_use states t q used.0 used.1)) in
      counting_main-stays states last t q within
      (λ is_there. unused_stays run t within q l
      (subst (IsUnused (states t) (run.records t)) its ((I t (omega arith)).roots.fresh k operation x q at_k unmarked e)))

  module _ (t : ℕ) (within : t < last) (so_far : AllShow t) (s : Step) (o : Outcome) (m : Moves (states t) s o (states (suc t))) where
    -- ---- a root that is made

    module _ (k : ℕ) (was : Operation) (main q : Ref) (at_k : Runs (states t) k was) (go : s ≡ step.Go (suc k))
        (does : action_of (states t) was ≡ act.MakeRoot main) (n : next_ref (states t).heap ≡ Some q) where
      -- the node over which it is made is made and decided
      abbrev Held : Type 0
      Held = (is_some (grown states t main) ≡ true) × (prev_word states t main ≡ over.None)

      sound : IsSound (w run) t
      sound = sound_at (protocol limits states last (known_run run)) t (omega arith)

      given_held : (i : Ref) → Given (w run) t (suc k) i main → Held
      given_held i given = let d = sound.given (suc k) i main given in (sound.words.made i main d.stood, d.none)

      abbrev Recalls : Line → Type 0
      Recalls l = Remembers (λ i x. Given (w run) t (suc k) i x) (was.access ≡ Writable) l

      remembered : Recalls was.line
      remembered = remembers_at limits states last (known_run run) t (omega arith) (suc k) was at_k

      held_by : MakesOver (states t) was was.line main → Held
      held_by (over_found root clear (inl e)) = given_held root (subst Recalls e remembered)
      held_by (over_found root clear (inr (successor, e))) = given_held root (subst Recalls e remembered)
      held_by (over_branch root found clear e) =
          let p = subst (λ x. Staged (w run) t (suc k) x) (ap stage_of_actor at_k ∙ ap stage_of e) (sound.staged (suc k)) in (p.made, p.none)

      made_over : MakesOver (states t) was was.line main
      made_over = makes_over (states t) was was.line main ((I t (omega arith)).offers.own k was at_k) does

      takes : GrownTakes states t q (Indirection (states t).generations main)
      takes =
          subst (λ x. Taken states t (Indirection (states t).generations main) x) n
          (subst (λ a. ActsOn states t a) does ((known_run run).acts t within (suc k) o (subst (λ x. Moves (states t) x o (states (suc t))) go m) was at_k))

      apart : main ≡ q → ⊥
      apart same = true≢false (sym (held_by made_over).0 ∙ ap (λ r. is_some (grown states t r)) same ∙ ap is_some takes.new)

      -- so it is the new root's main node
      over_main : counting_main states last (suc t) q ≡ main
      over_main =
          counting_main-made states last (suc t) q (ap is_some takes.here)
          ∙ ap (λ x. logical (main_of (node_of x)) (prev_word states (suc t) (main_of (node_of x)))) takes.here
          ∙ ap (λ x. logical main (prev_of x)) (takes.elsewhere main apart) ∙ ap (logical main) (held_by made_over).1

      shows_by : MakesOver (states t) was was.line main → ShowsMain (is_clear was.call) (copied was.line).1 (counting_main states last (suc t) q)
      shows_by (over_found root clear (inl e)) = subst (λ b. ShowsMain b (copied was.line).1 (counting_main states last (suc t) q)) (sym clear) (over_main ∙ sym (ap (λ l. (copied l).1) e))
      shows_by (over_found root clear (inr (successor, e))) =
          subst (λ b. ShowsMain b (copied was.line).1 (counting_main states last (suc t) q)) (sym clear) (over_main ∙ sym (ap (λ l. (copied l).1) e))
      shows_by (over_branch root found clear e) =
          subst (λ b. ShowsMain b (copied was.line).1 (counting_main states last (suc t) q)) (sym clear)
          (ap (node_under states last) over_main ∙ empty_at run t (omega arith) k was main at_k (subst (λ l. IsCleared l main) (sym e) refl))

    -- ---- all of them

    show_by : (k : ℕ) (found : Operation) (x : Bool) (q : Ref) → Runs (states (suc t)) k found → found.is_marked ≡ false → fresh_in x found.line ≡ Some q →
        FreshBehind (states t) (run.records t) (S t (omega arith)) (I t (omega arith)) s o (states (suc t)) m k found x q → Shows (suc t) found q
    show_by k found x q now unmarked e (stays ran f kept) =
        let before = so_far k ran.was x q ran.at_k (ran.unmarked unmarked) f in
        let same : copied found.line ≡ copied ran.was.line = elim ran.line [
          | inl stood ↦ ap copied stood
          | inr (inl goes) ↦ ap copied goes.1 ∙ copied_kept (states t) ran.was ran.was.line x x q q f (ap (fresh_in x) (sym goes.1) ∙ e)
          | inr (inr ended) ↦ absurd (none-some q (sym (ap (fresh_in x) ended.1) ∙ e))
        ] in
        record {
          link = link_stays (protocol limits states last (known_run run)) q t (suc t) (omega arith) within before.link;
          main_is =
              subst (λ c. ShowsMain (is_clear c) (copied found.line).1 (counting_main states last (suc t) q)) (sym ran.call)
              (subst (λ p. ShowsMain (is_clear ran.was.call) p.1 (counting_main states last (suc t) q)) (sym same)
              (subst (λ y. ShowsMain (is_clear ran.was.call) (copied ran.was.line).1 y) (sym (fresh_stays t within k ran.was x q ran.at_k (ran.unmarked unmarked) f before.link)) before.main_is));
        }
    show_by k found x q now unmarked e (made ran main go does n side goes used node) =
        let same : copied found.line ≡ copied ran.was.line = ap copied goes ∙ copied_made (states t) ran.was ran.was.line main q does n in
        let new = takes k ran.was main q ran.at_k go does n in
        record {
          link = ap (λ y. is_indirection (node_of y)) new.here;
          main_is =
              subst (λ c. ShowsMain (is_clear c) (copied found.line).1 (counting_main states last (suc t) q)) (sym ran.call)
              (subst (λ p. ShowsMain (is_clear ran.was.call) p.1 (counting_main states last (suc t) q)) (sym same)
              (shows_by k ran.was main q ran.at_k go does n (made_over k ran.was main q ran.at_k go does n)));
        }

    show_next : AllShow (suc t)
    show_next k found x q now unmarked e =
        show_by k found x q now unmarked e (fresh_behind (states t) (run.records t) (S t (omega arith)) (I t (omega arith)) s o (states (suc t)) m k found now x q e)

  pub show_at : (t : ℕ) → t ≤ last → AllShow t
  show_at = along_moves run AllShow (λ none k operation x q at_k. absurd (none k operation at_k)) (λ t h so_far s o m notes. show_next t h so_far s o m)
