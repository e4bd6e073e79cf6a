-- What the order takes of contents: a step that commits no own update leaves them all, and one that does leads one of them on.
use Rattle.std.proofs.Common.{◌≡◌, ◌≢◌, ℕ, suc, ◌<◌, ◌≤◌, ◌^◌, ◌⊎◌, inl, inr, List, ◌∷◌, Option, Some, refl, sym, ap, subst₂, ◌∙◌, [], arith}
use Rattle.std.proofs.lemmas.Option.{same_Some}
use Rattle.proof_updates.specs.Vocabulary.{hash_of, Writable, Ref, Place, Operation, Bounds, Step, key_of, changed_reply, State, operation_of, IsRun, entered, Trie, generation, node_in, content}
use Rattle.proof_updates.specs.Vocabulary.{IsRepair, trie_of, committed_of, entered_by_step, OwnCommit, MainStep, stays, changes, CommitsNone, begins, goes, assigned_at, places_for, gives_up}
use Rattle.proof_updates.specs.Vocabulary.{OwnUpdate, HasShape}
use Rattle.proof_updates.specs.Beneath.machine_model.specs.declared.lines.Purpose.TheVariants as purpose
use Rattle.proof_updates.specs.Beneath.machine_model.specs.declared.lines.Line.TheVariants as line
use Rattle.proof_updates.specs.Beneath.machine_model.specs.declared.reading.SwapLine.TheVariants as swap
use Rattle.proof_updates.specs.Beneath.proof_generations.specs.Running.{Runs}
use Rattle.proof_updates.specs.Beneath.proof_contents.specs.Steps.{IsTrie}
use Rattle.proof_updates.specs.Beneath.proof_contents.proofs.Changes.Generations.{nothing_still, repair_still}
use Rattle.proof_order.specs.Facts.{act_in, Update}
use Rattle.proof_shape.specs.Lines.Commits.{sweeps}
use Rattle.proof_order.proofs.Phases.OwnUpdates.{own_updates_enter}
use Rattle.proof_updates.specs.Commits.{SitesOfUpdates}
use Rattle.proof_updates.specs.Updates.{StepsKeep, UpdatesFollow}
use Rattle.proof_updates.proofs.Tries.Does.{own_does}
use Rattle.proof_updates.proofs.Tries.Updates.{trie_ok, updates_act}
use Rattle.proof_updates.proofs.Handles.Committing.{own_committed}
use Rattle.proof_shape.proofs.Held.Commits.{fresh_commits_at}
use Rattle.proof_updates.specs.Beneath.machine_model.proofs.Times.{steps_at}

module _ {limits : Bounds} {states : ℕ → State} {last : ℕ} (run : IsRun limits states last) (t : ℕ) (within : t ≤ last) (s : Step) where
  abbrev Own : Type 0
  Own = OwnCommit limits states run.records last (assigned_at states last) t s

  none_enters : CommitsNone (states t) s → entered_by_step (run.records t) (states t) s ≡ []
  none_enters none = by_step s none
    where
      by_step : (x : Step) → CommitsNone (states t) x → entered_by_step (run.records t) (states t) x ≡ []
      by_step x (begins actor call number) = refl
      by_step x (goes actor operation runs nothing) = ap (entered (run.records t) (states t).steps) (ap (committed_of (states t)) runs ∙ nothing)
      by_step x sweeps = refl
      by_step x (gives_up actor) = refl

  pub own_enters : (own : Own) → entered_by_step (run.records t) (states t) s ≡ places_for (run.records t) own.owner t own.why
  own_enters own = ap (entered (run.records t) (states t).steps) (own_committed limits states run.records last t s own)
      ∙ ap (λ n. entered (run.records t) n (Some own.fresh)) (steps_at run t within) ∙ own.enters

  nobody_enters : (own : Own) → entered_by_step (run.records t) (states t) s ≡ [] → (p : List Ref) (former : Option ℕ) → own.why ≡ purpose.Update p former → ⊥
  nobody_enters own none p former e = by_places (sym none ∙ own_enters own ∙ ap (places_for (run.records t) own.owner t) e)
    where
      by_places : {place : Place} → [] ≡ place ∷ [] → ⊥
      by_places bad = cc

module _ (limits : Bounds) (states : ℕ → State) (last : ℕ) (depth path : Ref → ℕ) (run : IsRun limits states last)
    (sites : SitesOfUpdates limits states run.records last depth)
    (shape : HasShape (trie_of limits states last depth path)) where
  abbrev trie : Trie
  trie = trie_of limits states last depth path

  ok : IsTrie (trie_of limits states last depth path)
  ok = trie_ok limits states last depth path run sites shape

  -- a step that commits no own update
  pub steps_keep : StepsKeep states run.records last (trie_of limits states last depth path)
  steps_keep t s o lt m notes none g = by_step (fresh_commits_at run t lt s o m notes)
    where
      by_step : MainStep limits states run.records last (assigned_at states last) t s → content trie g (suc t) ≡ content trie g t
      by_step (stays nothing same) = nothing_still trie ok t g lt same
      by_step (changes own) = by_kind (own_does limits states last depth path run sites t s lt own)
        where
          by_kind : ((p : List Ref) × (former : Option ℕ) × (own.why ≡ purpose.Update p former))
              ⊎ IsRepair trie (generation trie own.indirection) t (node_in trie t own.indirection) (node_in trie (suc t) own.indirection) → content trie g (suc t) ≡ content trie g t
          by_kind (inl (p, former, e)) = absurd (nobody_enters run t (omega (arith, lt)) s own none p former e)
          by_kind (inr r) = repair_still trie ok t g own.indirection lt own.others r

  module _ (fits : (t : ℕ) → t ≤ last → (k : ℕ) (operation : Operation) → Runs (states t) k operation → key_of operation.call < 2 ^ 64) where
    module _ (t : ℕ) (s : Step) (lt : t < last) (u : OwnUpdate states run.records last t s) (own : OwnCommit limits states run.records last (assigned_at states last) t s) where
      same_fresh : u.its.fresh ≡ own.fresh
      same_fresh = same_Some _ _ (sym u.commits ∙ own_committed limits states run.records last t s own)

      same_actor : suc u.k ≡ own.actor
      same_actor =
          own.alone (suc u.k) u.owner u.its.indirection u.its.replaced u.its.line u.runs (
            purpose.Update u.path u.former,
            u.at ∙ ap (λ f. line.Swap (purpose.Update u.path u.former) (record { indirection = u.its.indirection; replaced = u.its.replaced; fresh = f; line = u.its.line })) same_fresh,
          )

      same_owner : own.owner ≡ u.owner
      same_owner = same_Some _ _ (sym own.runs ∙ ap (operation_of (states t)) (sym same_actor) ∙ u.runs)

      same_start : own.start ≡ u.generation
      same_start = same_Some _ _ (sym own.generation ∙ ap (λ (x : Operation). x.generation) same_owner ∙ u.of_generation)

      same_why : own.why ≡ purpose.Update u.path u.former
      same_why =
          let same : line.Swap own.why (record { indirection = own.indirection; replaced = own.replaced; fresh = own.fresh; line = swap.Deciding own.deciding })
          ≡ line.Swap (purpose.Update u.path u.former) u.its =
          sym own.swaps ∙ ap (λ (x : Operation). x.line) same_owner ∙ u.at in
          cc

      update_is : entered_by_step (run.records t) (states t) s ≢ [] → Update limits states run.records last (content trie) t (entered_by_step (run.records t) (states t) s)
      update_is some =
          let act = updates_act limits states last depth path run sites shape fits t s lt own u.path u.former same_why in
          record {
            k = u.k;
            owner = u.owner;
            runs = u.runs;
            writable = u.writable;
            generation = u.generation;
            of_generation = u.of_generation;
            rooted = u.rooted;
            enters = u.enters;
            unplaced = u.unplaced;
            answer = changed_reply u.owner.call u.former;
            acts = subst₂
                (λ (x : Operation) g. act_in (hash_of limits.hash) Writable x.call (content trie g t) ≡ Some (changed_reply x.call u.former, content trie g (suc t))) same_owner same_start act.0;
            agrees = u.agrees;
            still = λ other stood apart. act.1 other (λ same. apart (same ∙ same_start));
          }

    -- a step that commits one
    pub updates_follow : UpdatesFollow limits states run.records last (trie_of limits states last depth path)
    updates_follow t s o lt m notes some = by_step (fresh_commits_at run t lt s o m notes)
      where
        by_step : MainStep limits states run.records last (assigned_at states last) t s → Update limits states run.records last (content trie) t (entered_by_step (run.records t) (states t) s)
        by_step (stays nothing same) = absurd (some (none_enters run t (omega (arith, lt)) s nothing))
        by_step (changes own) = update_is t s lt (own_updates_enter run t s o lt m notes some) own some
