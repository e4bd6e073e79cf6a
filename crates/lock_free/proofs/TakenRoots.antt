-- The roots that an operation made for its offer can be retired once it finds that this was taken back: they are garbage then, and nobody has retired them before.
use Rattle.std.proofs.Common.{◌≡◌, ◌≢◌, ◌||◌, ◌++◌, ℕ, Bool, true, false, [], ◌∷◌, Contains, cond, inl, inr, refl, sym, ap, subst, ◌∙◌}
use Rattle.std.proofs.lemmas.Bool.{true≢false}
use Rattle.machine_model.specs.Beneath.slot_arena.specs.declared.refs.Ref.{Ref}
use Rattle.machine_model.specs.Beneath.slot_arena.specs.Refs.{slot_of}
use Rattle.machine_model.specs.declared.operations.Operation.{Operation}
use Rattle.machine_model.specs.declared.roots.Descriptor.{Descriptor}
use Rattle.machine_model.specs.declared.steps.Bounds.{Bounds}
use Rattle.machine_model.specs.declared.steps.Step.TheVariants as step
use Rattle.machine_model.specs.Calls.{handle_of}
use Rattle.machine_model.specs.Keys.{KeysFit}
use Rattle.machine_model.specs.Machine.{AreBounds, run}
use Rattle.machine_model.specs.Moves.{GoesOn}
use Rattle.machine_model.specs.Operations.{action_of, line_action}
use Rattle.machine_model.specs.States.{State, first_state, word_at}
use Rattle.machine_model.specs.Swapping.{is_carried_out}
use Rattle.machine_model.proofs.Along.{run_push}
use Rattle.machine_model.proofs.Fates.{place_of_actor}
use Rattle.proof_claims.specs.Changes.{change_of}
use Rattle.proof_claims.specs.Claims.{Has, held_of}
use Rattle.proof_claims.specs.Different.{AreDifferent}
use Rattle.proof_claims.specs.Held.{Change, Ends, Held, OfHandle, Stays}
use Rattle.proof_claims.specs.Left.{SeesOutcome, is_done}
use Rattle.proof_claims.proofs.Completing as completing
use Rattle.proof_claims.proofs.Keeping.{keeping}
use Rattle.proof_claims.proofs.LeftAtComplete.{apart, finds_so}
use Rattle.proof_claims.proofs.Lists.{found_in}
use Rattle.proof_claims.proofs.Outcomes.{each_held}
use Rattle.proof_claims.proofs.TakenBack as taken
use Rattle.proof_claims.proofs.TakenBack.{its_line, made_by}
use Rattle.proof_commits.specs.Runs.{HasIndirection}
use Rattle.proof_garbage.specs.Beneath.proof_generations.proofs.Roots.Kept.{fresh_in, fresh_of}
use Rattle.proof_claims.specs.Beneath.proof_reuse.specs.Beneath.proof_followed.proofs.Apart.{IsApart}
use Rattle.proof_claims.specs.Beneath.proof_reuse.specs.Beneath.proof_followed.proofs.Bringing.{apart_along, apart_then}
use Rattle.proof_claims.specs.Beneath.proof_reuse.specs.Laws.{IsGarbage}
use Rattle.proof_waiting.specs.Beneath.proof_slots.proofs.Unswept.Kept.{one_ref}
use Rattle.proof_waiting.specs.Beneath.proof_slots.specs.Unswept.{HasNoSweeps}
use Rattle.lock_free.specs.declared.accounts.Account.{Account}
use Rattle.lock_free.specs.declared.rules.Retired.{Retired}
use Rattle.lock_free.specs.declared.sizes.Sizes.{Sizes}
use Rattle.lock_free.specs.Accounts.{bounds_for, gone_on, state_of, HasGrown}
use Rattle.lock_free.specs.Outcomes.{made_for}
use Rattle.lock_free.specs.Rules.{WasGarbage}
use Rattle.lock_free.proofs.Idle.{empty_has}
use Rattle.lock_free.proofs.OneStep.GarbageWide.{garbage_wide}
use Rattle.lock_free.proofs.OneStep.Going as going
use Rattle.lock_free.proofs.OneStep.Retired.{retired_used}
use Rattle.lock_free.proofs.Reclaimable.{prefix_is}

pub neither : (a b : Bool) → (a || b) ≡ false → (a ≡ false) × (b ≡ false)
neither true b e = absurd (true≢false e)
neither false b e = (refl, e)

module _ (sizes : Sizes) (account : Account) (bounds : AreBounds (bounds_for sizes account.steps)) (actor : ℕ) (offer : Descriptor) (main : Ref)
    (sees : SeesOutcome (state_of sizes account) actor offer main) (undone : is_done (state_of sizes account) sees ≡ false) where
  abbrev state : State
  state = state_of sizes account

  abbrev limits : Bounds
  limits = bounds_for sizes account.steps

  abbrev o : Operation
  o = sees.operation

  goes : GoesOn (action_of state o)
  goes = subst GoesOn (sym sees.acts) tt

  abbrev later : State
  later = going.later sizes account bounds actor o sees.runs

  run_is : run limits (account.steps ++ step.Go actor ∷ []) ≡ later
  run_is = run_push (first_state limits) account.steps (step.Go actor) ∙ going.next_is sizes account bounds actor o sees.runs goes

  both : (is_carried_out (word_at state (handle_of o.call)) offer main ≡ false) × (o.is_marked ≡ false)
  both = neither (is_carried_out (word_at state (handle_of o.call)) offer main) o.is_marked undone

  pub root_link : (r : Ref) → Contains (made_for offer) r → HasIndirection (state_of sizes account) r
  root_link r c =
      taken.link limits bounds account.steps (each_held limits bounds account.steps) actor o sees.runs _ (going.moves sizes account bounds actor o sees.runs goes) run_is offer main sees.acts
      sees.completing sees.completes
      (completing.heap limits bounds account.steps actor o _ offer main (each_held limits bounds account.steps) sees.runs (going.moves sizes account bounds actor o sees.runs goes) run_is sees.acts)
      both.0 both.1 r c

  garbage_later : (r : Ref) → Contains (made_for offer) r → IsGarbage later r
  garbage_later r c =
      taken.garbage limits bounds account.steps (each_held limits bounds account.steps) actor o sees.runs _ (going.moves sizes account bounds actor o sees.runs goes) run_is offer main sees.acts
      sees.completing sees.completes
      (completing.heap limits bounds account.steps actor o _ offer main (each_held limits bounds account.steps) sees.runs (going.moves sizes account bounds actor o sees.runs goes) run_is sees.acts)
      both.0 both.1 r c

  pub root_garbage : (r : Ref) → Contains (made_for offer) r → IsGarbage (state_of sizes (gone_on actor account)) r
  root_garbage r c =
      subst (λ (s : State). IsGarbage s r) (sym (going.after_is sizes account bounds actor o sees.runs goes))
      (garbage_wide 1 (going.more sizes account bounds actor o sees.runs goes) later r (garbage_later r c))

  -- ---- nobody has retired it before: it was to be brought to a root till now

  its_offer : sees.completing.offer ≡ offer
  its_offer = (its_line sees.completing offer main (ap (line_action state o) (sym sees.completes) ∙ sees.acts)).0

  -- ---- a handle holds it, and holds nothing after the step

  abbrev held : Held
  held = held_of limits account.steps

  no_private : o.private ≡ []
  no_private =
      taken.own_private limits bounds account.steps (each_held limits bounds account.steps) actor o sees.runs _ (going.moves sizes account bounds actor o sees.runs goes) run_is offer main sees.acts
      sees.completing sees.completes
      (completing.heap limits bounds account.steps actor o _ offer main (each_held limits bounds account.steps) sees.runs (going.moves sizes account bounds actor o sees.runs goes) run_is sees.acts)
      both.0 both.1

  pub root_held : (r : Ref) → Contains (made_for offer) r → (g : ℕ) × Has (held_of (bounds_for sizes account.steps) account.steps) (OfHandle g) r
  root_held r c =
      let (k, its, at_k) = place_of_actor state actor o sees.runs in
      let (first, is_fresh) = made_by offer r c in
      elim ((keeping limits bounds account.steps k o at_k).roots both.1 first r (ap (fresh_in first) sees.completes ∙ ap (fresh_of first) its_offer ∙ is_fresh)) [
        | inl private ↦ absurd (empty_has r (subst (λ ks. Contains ks r) no_private private))
        | inr has ↦ has
      ]

  module _ (keys : KeysFit account.steps) where
    pub root_ends : (r : Ref) → Contains (made_for offer) r → (g : ℕ) → (change_of state held (step.Go actor)).fate (record { by = OfHandle g; on = r }) ≡ Ends
    root_ends r c g =
        ap (λ (x : Change). x.fate (record { by = OfHandle g; on = r })) (finds_so limits bounds account.steps keys actor offer main main sees undone)
        ∙ ap (λ b. cond b Ends (Stays (OfHandle g))) (found_in (made_for offer) r c)

    pub roots_differ : AreDifferent (made_for offer)
    roots_differ = apart limits bounds account.steps keys actor offer main main sees undone offer.second refl

  module _ (quiet : HasNoSweeps account.steps) (x : Retired) (was : WasGarbage sizes x) (grown : HasGrown x.account account) (r : Ref) (c : Contains (made_for offer) r) where
    node_is : x.number ≡ slot_of r → was.node ≡ r
    node_is same = one_ref state.heap was.node r (retired_used sizes account bounds quiet x was grown) (root_link r c).0 (was.number ∙ same)

    garbage_then : IsGarbage (run limits x.account.steps) was.node
    garbage_then = subst (λ (s : State). IsGarbage s was.node) (sym (prefix_is sizes account bounds x.account grown)) (garbage_wide _ _ (state_of sizes x.account) was.node was.garbage)

    pub root_unretired : x.number ≢ slot_of r
    root_unretired same =
        let (k, its, at_k) = place_of_actor state actor o sees.runs in
        let (first, is_fresh) = made_by offer r c in
        let apart = apart_along limits bounds x.account.steps was.node garbage_then.in_use (apart_then limits bounds x.account.steps was.node garbage_then.unbrought) grown.steps in
        let now : IsApart (run limits account.steps) was.node = subst (λ l. IsApart (run limits l) was.node) (sym grown.goes_on) apart in
        ((now k o at_k both.1).0 first r (ap (fresh_in first) sees.completes ∙ ap (fresh_of first) its_offer ∙ is_fresh)).0 (sym (node_is same))
