-- An operation is to decide a main node: it commits it, or makes it failed, or comes too late.
use Rattle.std.proofs.Common.{◌≡◌, ℕ, Bool, true, false, List, [], ◌∷◌, ◌++◌, Option, Some, Ok, cond, refl, sym, ap, subst, ◌∙◌}
use Rattle.proof_claims.specs.Beneath.slot_arena.specs.declared.nodes.Prev.TheVariants as prev
use Rattle.proof_claims.specs.Beneath.slot_arena.specs.declared.refs.Ref.{Ref}
use Rattle.proof_claims.specs.Beneath.slot_arena.specs.Heaps.{main_at, main_of, node_at, prev_at, refs_of_node, with_prev}
use Rattle.proof_claims.specs.Beneath.machine_model.specs.declared.actions.Action.TheVariants as act
use Rattle.proof_claims.specs.Beneath.machine_model.specs.declared.operations.Operation.{Operation}
use Rattle.proof_claims.specs.Beneath.machine_model.specs.declared.steps.Bounds.{Bounds}
use Rattle.proof_claims.specs.Beneath.machine_model.specs.declared.steps.Outcome.{Outcome}
use Rattle.proof_claims.specs.Beneath.machine_model.specs.declared.steps.Step.{Step}
use Rattle.proof_claims.specs.Beneath.machine_model.specs.declared.steps.Step.TheVariants as step
use Rattle.proof_claims.specs.Beneath.machine_model.specs.Acting.{decided, gone}
use Rattle.proof_claims.specs.Beneath.machine_model.specs.Counting.{settled}
use Rattle.proof_claims.specs.Beneath.machine_model.specs.Machine.{AreBounds, is_taken_step, next, run}
use Rattle.proof_claims.specs.Beneath.machine_model.specs.Moves.{Moves}
use Rattle.proof_claims.specs.Beneath.machine_model.specs.Operations.{action_of}
use Rattle.proof_claims.specs.Beneath.machine_model.specs.Reading.{Commits, Fails, Overtaken, Verdict, is_licensed, is_pending, verdict, verdict_by}
use Rattle.proof_claims.specs.Beneath.machine_model.specs.States.{State, operation_of}
use Rattle.proof_claims.specs.Beneath.proof_commits.specs.Runs.{HasIndirection}
use Rattle.proof_claims.specs.Beneath.proof_commits.proofs.Lines.Read.{was_pending}
use Rattle.proof_claims.specs.Beneath.proof_garbage.proofs.Kept.{pending_is}
use Rattle.proof_claims.specs.Beneath.proof_memory.specs.Laws.{IsInUse}
use Rattle.proof_claims.specs.Beneath.proof_memory.specs.Wants.{is_indirection}
use Rattle.proof_claims.specs.Held.{Change, Held, held_after, is_owned}
use Rattle.proof_claims.specs.Changes.{change_of, decides, no_change}
use Rattle.proof_claims.specs.Claims.{held_of}
use Rattle.proof_claims.specs.Clauses.{EachIsHeld}
use Rattle.proof_claims.specs.Dropped.{WasDropped}
use Rattle.proof_claims.proofs.Acts.{changed, quiet}
use Rattle.proof_claims.proofs.Acts as acting
use Rattle.proof_claims.proofs.Along.{held_push, own_still}
use Rattle.proof_claims.proofs.Committing.{commits_own, commits_shared}
use Rattle.proof_claims.proofs.Deciding as deciding
use Rattle.proof_claims.proofs.FromRoots.{is_decided}
use Rattle.proof_claims.proofs.Replacing.{dropped_by_commit}
use Rattle.proof_claims.proofs.Spine.{Each, EachAfter}
use Rattle.proof_claims.proofs.Standing.{node_still, prev_is, used_after}

fails_pending : (b c : Bool) → verdict_by b c ≡ Fails → c ≡ true
fails_pending b true e = refl
fails_pending b false e = let bad : ⊥ = cc e in absurd bad

-- what is own after the step that is taken
pub own_after : (limits : Bounds) (xs : List Step) (s : Step) (o : Outcome) (after : State) → next (run limits xs) s ≡ Ok (o, after) → (i p : Ref) → is_owned (held_of limits xs) i p ≡ true →
    is_owned (held_of limits (xs ++ s ∷ [])) i p ≡ true
own_after limits xs s o after taken i p owned =
    subst (λ (held : Held). is_owned held i p ≡ true)
    (sym (held_push limits xs s ∙ ap (λ a. cond (is_taken_step a) (held_after (change_of (run limits xs) (held_of limits xs) s) (held_of limits xs)) (held_of limits xs)) taken))
    (own_still (change_of (run limits xs) (held_of limits xs) s) (held_of limits xs) i p owned)

module _ (limits : Bounds) (ok : AreBounds limits) (xs : List Step) (h : Each limits xs) (actor : ℕ) (operation : Operation) (runs : operation_of (run limits xs) actor ≡ Some operation) (o : Outcome)
    (m : Moves (run limits xs) (step.Go actor) o (settled (run limits xs) (gone (run limits xs) actor operation)))
    (taken : next (run limits xs) (step.Go actor) ≡ Ok (o, settled (run limits xs) (gone (run limits xs) actor operation)))
    (is_after : run limits (xs ++ step.Go actor ∷ []) ≡ settled (run limits xs) (gone (run limits xs) actor operation))
    (i f p : Ref) (told : Option ℕ) (acts : action_of (run limits xs) operation ≡ act.Decide i f p told)
    (standing : prev_at (run limits xs).heap f ≡ prev.Pending p → is_owned (held_of limits xs) i p ≡ true → WasDropped limits xs p → ⊥) where
  abbrev state : State
  state = run limits xs

  abbrev held : Held
  held = held_of limits xs

  abbrev s : Step
  s = step.Go actor

  abbrev after : State
  after = settled state (gone state actor operation)

  abbrev Kept : Type 0
  Kept = EachAfter limits xs s after

  after_is : after ≡ acting.done limits ok xs h actor operation runs o m is_after (act.Decide i f p told) acts
  after_is = acting.after_is limits ok xs h actor operation runs o m is_after (act.Decide i f p told) acts

  roots : after.roots ≡ state.roots
  roots = ap (λ (a : State). a.roots) after_is

  heap_by : (v : Verdict) → verdict state.heap i f p told ≡ v → after.heap ≡ decided state.heap f p v
  heap_by v e = ap (λ (a : State). a.heap) after_is ∙ ap (decided state.heap f p) e

  by_change : (v : Verdict) → verdict state.heap i f p told ≡ v → (b : Bool) → is_owned held i p ≡ b → (c : Change) → decides b v (refs_of_node (node_at state.heap f)) f p ≡ c →
      EachIsHeld after (held_after c held) (λ j. WasDropped limits (xs ++ s ∷ []) j) → Kept
  by_change v e b owned c is =
      changed limits ok xs h actor operation runs o m is_after (act.Decide i f p told) acts c
      (ap (λ x. decides x (verdict state.heap i f p told) (refs_of_node (node_at state.heap f)) f p) owned ∙ ap (λ x. decides b x (refs_of_node (node_at state.heap f)) f p) e ∙ is)

  same_change : (v : Verdict) (b : Bool) → (v ≡ Commits → b ≡ false) → decides b v (refs_of_node (node_at state.heap f)) f p ≡ no_change
  same_change Commits true e = let bad : ⊥ = cc (e refl) in absurd bad
  same_change Commits false e = refl
  same_change Fails true e = refl
  same_change Fails false e = refl
  same_change (Overtaken licensed) true e = refl
  same_change (Overtaken licensed) false e = refl

  module _ (pending : prev_at state.heap f ≡ prev.Pending p) where
    module _ (committed : after.heap ≡ with_prev state.heap f prev.None) (owned : is_owned held i p ≡ true) where
      has_i : HasIndirection state i
      has_i = deciding.has_i limits xs ok s o after m h actor operation runs refl roots i f p told acts pending

      used_f : IsInUse state.heap f
      used_f = deciding.used_f limits xs ok s o after m h actor operation runs refl roots i f p told acts pending

      stands : main_at state.heap i ≡ f
      stands = deciding.stands limits xs ok s o after m h actor operation runs refl roots i f p told acts pending

      node_i : node_at after.heap i ≡ node_at state.heap i
      node_i = ap (λ x. node_at x i) committed ∙ node_still state.heap f prev.None used_f i has_i.0

      p_lost : WasDropped limits (xs ++ s ∷ []) p
      p_lost =
          let has : HasIndirection after i = (subst (λ x. IsInUse x i) (sym committed) (used_after state.heap f prev.None used_f i has_i.0), ap is_indirection node_i ∙ has_i.1) in
          dropped_by_commit limits ok xs s i f p has_i (subst (λ (a : State). HasIndirection a i) (sym is_after) has) stands pending
          (ap (λ (a : State). main_at a.heap i) is_after ∙ ap main_of node_i ∙ stands)
          (ap (λ (a : State). prev_at a.heap f) is_after ∙ ap (λ x. prev_at x f) committed ∙ prev_is state.heap f prev.None used_f)
          (λ same.
          let none = is_decided limits xs ok f p used_f (deciding.used_p limits xs ok s o after m h actor operation runs refl roots i f p told acts pending)
          (deciding.over_p limits xs ok s o after m h actor operation runs refl roots i f p told acts pending) in
          let wrong : prev.None ≡ prev.Pending p = sym none ∙ ap (prev_at state.heap) (sym same) ∙ pending in
          let bad : ⊥ = cc wrong in bad)
          (own_after limits xs s o after taken i p owned)

  commits : verdict state.heap i f p told ≡ Commits → (b : Bool) → is_owned held i p ≡ b → Kept
  commits e true owned =
      let pending = was_pending state.heap i f p told e in
      by_change Commits e true owned (decides true Commits (refs_of_node (node_at state.heap f)) f p) refl
      (commits_own limits xs ok s o after m h actor operation runs refl roots i f p told acts pending (heap_by Commits e) (standing pending owned) (p_lost pending (heap_by Commits e) owned))
  commits e false owned =
      let pending = was_pending state.heap i f p told e in
      by_change Commits e false owned no_change refl
      (commits_shared limits xs ok s o after m h actor operation runs refl roots i f p told acts pending (heap_by Commits e) owned)

  by_verdict : (v : Verdict) → verdict state.heap i f p told ≡ v → Kept
  by_verdict Commits e = commits e (is_owned held i p) refl
  by_verdict Fails e =
      let pending = pending_is (prev_at state.heap f) p (fails_pending (is_licensed state.heap i told) (is_pending (prev_at state.heap f) p) e) in
      by_change Fails e (is_owned held i p) refl no_change (same_change Fails (is_owned held i p) (λ wrong. let bad : ⊥ = cc wrong in absurd bad))
      (deciding.fails limits xs ok s o after m h actor operation runs refl roots i f p told acts pending (heap_by Fails e))
  by_verdict (Overtaken licensed) e =
      quiet limits ok xs h actor operation runs o m is_after (act.Decide i f p told) acts (λ j r g e. let bad : ⊥ = cc e in bad)
      (ap (λ x. decides (is_owned held i p) x (refs_of_node (node_at state.heap f)) f p) e
      ∙ same_change (Overtaken licensed) (is_owned held i p) (λ wrong. let bad : ⊥ = cc wrong in absurd bad))
      (ap (decided state.heap f p) e) refl

  pub decides_kept : Kept
  decides_kept = by_verdict (verdict state.heap i f p told) refl
