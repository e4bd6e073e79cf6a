-- Behind the commit of its own change of its key an operation has its place.
use Rattle.std.proofs.Common.{◌≡◌, ℕ, suc, ◌<◌, ◌==◌, Bool, true, false, [], ◌∷◌, ◌++◌, inl, refl, sym, ap, subst, ◌∙◌, arith, eqb-true}
use Rattle.std.proofs.lemmas.Option.{same_Some}
use Rattle.proof_updates.specs.Vocabulary.{Ref, Operation, ReadLine, Bounds, Outcome, Step, State, operation_of, Moves, IsRun, is_placed, place_of, closing_for, noted, entrant_of, told_in, Decides}
use Rattle.proof_updates.specs.Vocabulary.{CommitsNode, Protocol, stage_of, stage_of_actor, counting_main, entered_by_step, MainStep, stays, changes as changes_main, assigned_at, places_for, Notes}
use Rattle.proof_updates.specs.Beneath.proof_contents.proofs.Nodes.Branches.{differ}
use Rattle.proof_updates.specs.Beneath.machine_model.specs.declared.lines.Purpose.TheVariants as purpose
use Rattle.proof_updates.specs.Beneath.machine_model.specs.declared.lines.Line.TheVariants as line
use Rattle.proof_updates.specs.Beneath.machine_model.specs.declared.reading.SwapLine.TheVariants as swap
use Rattle.proof_updates.specs.Beneath.proof_commits.proofs.Words.Stood.{none≢pending}
use Rattle.proof_updates.specs.Beneath.proof_commits.proofs.Known.Owners.{Staged}
use Rattle.proof_updates.specs.Beneath.proof_commits.proofs.Known.Sounds.{sound_at}
use Rattle.proof_updates.specs.Beneath.proof_commits.proofs.Course.Finals.{link_stays}
use Rattle.proof_updates.specs.Beneath.proof_commits.proofs.Course.Mains.{main_decided}
use Rattle.proof_updates.specs.Beneath.proof_commits.proofs.Words.Along.{protocol}
use Rattle.proof_order.specs.Facts.{Runs}
use Rattle.proof_updates.specs.Beneath.history.proofs.Among.{Among, among_right}
use Rattle.proof_order.proofs.Places.Origins.{place_says}
use Rattle.proof_order.proofs.Views.EachStep.{Changes, quiet, ends, closes, swaps, changes}
use Rattle.proof_order.proofs.Offers.Honest.{honest}
use Rattle.proof_order.proofs.Offers.Standing.{offers_at}
use Rattle.proof_order.proofs.Phases.Steps.{is_placed_so}
use Rattle.proof_shape.proofs.Commits.Was.{main_linked, commit_is}
use Rattle.proof_updates.proofs.Tries.Facts.{own_enters}
use Rattle.proof_updates.specs.Beneath.proof_commits.proofs.Known.Acts.{known_run}
use Rattle.proof_shape.proofs.Held.Commits.{fresh_commits_at}

-- whom a step enters among others has a place behind it
entered_placed : {limits : Bounds} {states : ℕ → State} {last : ℕ} (run : IsRun limits states last) → (t : ℕ) → t < last → (s : Step) (o : Outcome) →
    Moves (states t) s o (states (suc t)) → Notes states run.records t s →
    (operation : Operation) → entered_by_step (run.records t) (states t) s ≡ place_of (run.records t) (entrant_of operation) t false ∷ [] → is_placed (run.records (suc t)) operation.id ≡ true
entered_placed {limits} {states} {last} run t lt s o m notes operation enters =
    subst (λ q. is_placed q operation.id ≡ true) (sym notes)
    (by_changes (changes (states t) (run.records t) s o (states (suc t)) m (honest (states t) (offers_at run t (omega arith)))))
  where
    not_none : entered_by_step (run.records t) (states t) s ≡ [] → ⊥
    not_none none = let bad : [] ≡ place_of (run.records t) (entrant_of operation) t false ∷ [] = sym none ∙ enters in cc

    by_changes : Changes (states t) (run.records t) s (states (suc t)) (noted (run.records t) (states t).steps (told_in (states t) s)) →
        is_placed (noted (run.records t) (states t).steps (told_in (states t) s)) operation.id ≡ true
    by_changes (quiet places closings footing) =
        is_placed_so (noted (run.records t) (states t).steps (told_in (states t) s)) (place_of (run.records t) (entrant_of operation) t false)
        (subst (λ l. Among (place_of (run.records t) (entrant_of operation) t false) l) (sym (places ∙ ap (λ l. (run.records t).places ++ l) enters))
        (among_right (run.records t).places (place_of (run.records t) (entrant_of operation) t false ∷ []) _ (inl refl)))
        operation.id (place_says (closing_for (run.records t) operation.generation operation.access) t operation.id false).2
    by_changes (ends actor ending answer is runs does none places closings footing) = absurd (not_none none)
    by_changes (closes actor handle number root is found none places closings gone footing) = absurd (not_none none)
    by_changes (swaps handle offer carries none places closings roots heap) = absurd (not_none none)

module _ {limits : Bounds} {states : ℕ → State} {last : ℕ} (run : IsRun limits states last) where
  abbrev p : Protocol
  p = protocol limits states last (known_run run)

  module _ (t k : ℕ) (lt : t < last) (s : Step) (o : Outcome) (m : Moves (states t) s o (states (suc t)))
      (notes : Notes states run.records t s) (operation : Operation) (runs : Runs (states t) k operation)
      (path : _) (former : _) (i a f : Ref) (l : ReadLine)
      (at : operation.line ≡ line.Swap (purpose.Update path former) (record { indirection = i; replaced = a; fresh = f; line = swap.Deciding l })) where
    stage_is : p.words.stage t (suc k) ≡ Decides i a f l
    stage_is = ap stage_of_actor runs ∙ ap stage_of at

    module _ (q : Ref) (commit : CommitsNode p.words t f q) where
      -- the node becomes the main node of its indirection, which it wasn't before
      becomes_main : counting_main states last (suc t) i ≡ f
      becomes_main = commit_is run t lt (suc k) i a f l stage_is q commit

      link : p.words.link t i ≡ true
      link =
          let stood = (subst (λ x. Staged p.words t (suc k) x) stage_is ((sound_at p t (omega arith)).staged (suc k))).1 in
          link_stays p i stood.at t stood.past (omega arith) stood.link

      was_no_main : counting_main states last t i ≡ f → ⊥
      was_no_main same =
          let decided = main_decided p.words t (sound_at p t (omega arith)).words i link in
          none≢pending decided.none (ap (p.words.prev t) (sym (main_linked run t i link) ∙ same) ∙ commit.was)

      enters : entered_by_step (run.records t) (states t) s ≡ place_of (run.records t) (entrant_of operation) t false ∷ []
      enters = by_step (fresh_commits_at run t lt s o m notes)
        where
          by_step : MainStep limits states run.records last (assigned_at states last) t s →
              entered_by_step (run.records t) (states t) s ≡ place_of (run.records t) (entrant_of operation) t false ∷ []
          by_step (stays none same) = absurd (was_no_main (sym (same i) ∙ becomes_main))
          by_step (changes_main own) = by_test (i == own.indirection) refl
            where
              its : own.fresh ≡ f → own.actor ≡ suc k
              its same =
                  sym (own.alone (suc k) operation i a (swap.Deciding l) runs
                  (purpose.Update path former, at ∙ ap (λ x. line.Swap (purpose.Update path former) (record { indirection = i; replaced = a; fresh = x; line = swap.Deciding l })) (sym same)))

              owner : own.fresh ≡ f → own.owner ≡ operation
              owner same = same_Some _ _ (sym own.runs ∙ ap (operation_of (states t)) (its same) ∙ runs)

              why : own.fresh ≡ f → own.why ≡ purpose.Update path former
              why same =
                  let lines : line.Swap own.why (record { indirection = own.indirection; replaced = own.replaced; fresh = own.fresh; line = swap.Deciding own.deciding })
                  ≡ line.Swap (purpose.Update path former) (record { indirection = i; replaced = a; fresh = f; line = swap.Deciding l }) =
                  sym own.swaps ∙ ap (λ (x : Operation). x.line) (owner same) ∙ at in
                  cc

              by_test : (b : Bool) → (i == own.indirection) ≡ b → entered_by_step (run.records t) (states t) s ≡ place_of (run.records t) (entrant_of operation) t false ∷ []
              by_test true e =
                  let same : own.fresh ≡ f = sym own.after ∙ ap (counting_main states last (suc t)) (sym (eqb-true i own.indirection e)) ∙ becomes_main in
                  own_enters run t (omega (arith, lt)) s own ∙ ap (λ w. places_for (run.records t) own.owner t w) (why same)
                  ∙ ap (λ x. place_of (run.records t) (entrant_of x) t false ∷ []) (owner same)
              by_test false e = absurd (was_no_main (sym (own.others i (differ i own.indirection e)) ∙ becomes_main))

      pub commit_places : is_placed (run.records (suc t)) operation.id ≡ true
      commit_places = entered_placed run t lt s o m notes operation enters
