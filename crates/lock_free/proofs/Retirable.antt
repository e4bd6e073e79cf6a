-- The main node that a SWAP lets go of can be retired by its last step: it is garbage then, and nobody has retired it before.
use Rattle.std.proofs.Common.{◌≡◌, ◌≢◌, ◌+◌, ◌++◌, ℕ, List, [], ◌∷◌, length, true, false, Some, refl, sym, ap, subst, ◌∙◌, append_assoc, arith}
use Rattle.machine_model.specs.Beneath.slot_arena.specs.declared.nodes.Slot.{Slot}
use Rattle.machine_model.specs.Beneath.slot_arena.specs.declared.refs.Ref.{Ref}
use Rattle.machine_model.specs.Beneath.slot_arena.specs.Heaps.{node_at}
use Rattle.machine_model.specs.Beneath.slot_arena.specs.Refs.{slot_of}
use Rattle.machine_model.specs.declared.reading.SwapLine.TheVariants as swap
use Rattle.machine_model.specs.declared.steps.Step.{Step}
use Rattle.machine_model.specs.declared.steps.Step.TheVariants as step
use Rattle.machine_model.specs.Grown.{standing}
use Rattle.machine_model.specs.Machine.{AreBounds, run}
use Rattle.machine_model.specs.Moves.{GoesOn}
use Rattle.machine_model.specs.Operations.{action_of, line_action}
use Rattle.machine_model.specs.States.{State}
use Rattle.machine_model.specs.Times.{states_of, last_of}
use Rattle.machine_model.proofs.Grown.{node_standing}
use Rattle.proof_commits.specs.Runs.{HasIndirection}
use Rattle.proof_memory.specs.Laws.{IsInUse, SameNode}
use Rattle.proof_memory.specs.Wants.{AllHold, is_main_node, line_wants, purpose_wants, swap_wants}
use Rattle.proof_memory.proofs.Claims.Uses.{first_hold, meets_of, safe_of}
use Rattle.proof_memory.proofs.Safety.AtEachTime.{safe_along}
use Rattle.proof_memory.proofs.Safety.AtTimes.{line_finds_in}
use Rattle.machine_model.proofs.Along.{limits_along}
use Rattle.proof_claims.specs.Beneath.proof_reuse.proofs.SwappedOut.{swapped_out_garbage, replaced_once}
use Rattle.proof_claims.specs.Beneath.proof_reuse.specs.Beneath.proof_owned.specs.Owned.{IsOwn}
use Rattle.proof_claims.specs.Dropped.{HasFailed}
use Rattle.proof_claims.specs.Beneath.proof_reuse.specs.Laws.{HasReplaced, IsGarbage}
use Rattle.proof_waiting.specs.Beneath.proof_slots.specs.Unswept.{HasNoSweeps}
use Rattle.proof_waiting.specs.Beneath.proof_slots.proofs.Unswept.Kept.{one_ref}
use Rattle.lock_free.specs.declared.accounts.Account.{Account}
use Rattle.lock_free.specs.declared.rules.Retired.{Retired}
use Rattle.lock_free.specs.declared.sizes.Sizes.{Sizes}
use Rattle.lock_free.specs.Accounts.{bounds_for, state_of, place_at, gone_on, HasGrown}
use Rattle.lock_free.specs.Nodes.{class_of}
use Rattle.lock_free.specs.Owning.{IsOwnBy}
use Rattle.lock_free.specs.Rules.{WasGarbage, WasLetGo, WasReplaced, by_commit, by_outcome, by_refusal}
use Rattle.lock_free.specs.TakenBack.{WasTakenBack}
use Rattle.lock_free.proofs.NewNodes.{class_same}
use Rattle.lock_free.proofs.OneStep.Found.{slot_at, used_made}
use Rattle.lock_free.proofs.OneStep.LinksWide.{failed_wide, replaced_wide}
use Rattle.lock_free.proofs.OneStep.Longer.{bounds_less, bounds_more}
use Rattle.lock_free.proofs.OneStep.Parts.{run_part, part_goes, used_still}
use Rattle.lock_free.proofs.OneStep.Retired.{retired_used}
use Rattle.lock_free.proofs.OwnBits.{own_by_longer}
use Rattle.lock_free.proofs.OwnNodes.{link_still, own_in}
use Rattle.lock_free.proofs.StayDecided.{refused_never_replaced}
use Rattle.lock_free.proofs.SwapChecks.{both_kinds}
use Rattle.lock_free.proofs.TakenRoots.{root_link}
use Rattle.lock_free.proofs.Waiting.{quiet_more}

-- ---- who has replaced a main node

module _ (sizes : Sizes) (steps : List Step) (ok : AreBounds (bounds_for sizes steps)) (actor : ℕ) (i m f : Ref) (h : HasReplaced (run (bounds_for sizes steps) steps) actor i m f) where
  abbrev state : State
  state = run (bounds_for sizes steps) steps

  claims : AllHold (IsInUse state.heap) state.heap (swap_wants (record { indirection = i; replaced = m; fresh = f; line = swap.Check }))
  claims =
      first_hold (IsInUse state.heap) state.heap (swap_wants (record { indirection = i; replaced = m; fresh = f; line = swap.Check })) (purpose_wants h.why)
      (subst (λ l. AllHold (IsInUse state.heap) state.heap (line_wants (bounds_for sizes steps).hash h.operation.call h.operation.access l)) h.checks
      (line_finds_in state (safe_along (bounds_for sizes steps) ok steps) (bounds_for sizes steps) (limits_along (bounds_for sizes steps) steps) actor h.operation h.runs))

  pub replaced_link : HasIndirection state i
  replaced_link = (safe_of claims.0, meets_of claims.0)

  pub replaced_used : IsInUse state.heap m
  replaced_used = safe_of claims.1.0

  pub replaced_main : is_main_node (node_at state.heap m) ≡ true
  replaced_main = meets_of claims.1.0

goes_by_check : (before then : State) (actor : ℕ) (i m f : Ref) (h : HasReplaced before actor i m f) → GoesOn (action_of then h.operation)
goes_by_check before then actor i m f h = subst (λ l. GoesOn (line_action then h.operation l)) (sym h.checks) tt

-- ---- it is let go of by this step

module _ (sizes : Sizes) (account : Account) (bounds : AreBounds (bounds_for sizes account.steps)) (quiet : HasNoSweeps account.steps) (actor : ℕ) (m : Ref)
    (used_now : IsInUse (state_of sizes account).heap m) where
  -- ---- after the last step

  abbrev pub after : Account
  after = gone_on actor account

  abbrev last_step : List Step
  last_step = step.Go actor ∷ []

  pub ok : AreBounds (bounds_for sizes after.steps)
  ok = bounds_more sizes account.steps last_step bounds

  pub quiet_after : HasNoSweeps after.steps
  quiet_after = quiet_more account.steps (step.Go actor) quiet tt

  pub used_then : (slot : Slot) × (standing (state_of sizes after).heap m ≡ Some slot) × SameNode used_now.0.node slot.node
  used_then = used_still sizes after.steps account.steps last_step refl ok quiet_after m used_now

  -- what the seat has retired then, in this epoch
  abbrev pub item : ℕ → Retired
  item stamp = record { class = class_of used_then.0.node; name = place_at after (slot_of m); number = slot_of m; stamp = stamp; account = after; deep = false }

  pub item_class : class_of used_then.0.node ≡ class_of (node_at (state_of sizes account).heap m)
  item_class = class_same used_now.0.node used_then.0.node used_then.2 ∙ ap class_of (sym (node_standing (state_of sizes account).heap m used_now.0 used_now.1))

  pub was_garbage : length account.names ≡ (state_of sizes account).heap.births → IsGarbage (state_of sizes (gone_on actor account)) m → (stamp : ℕ) → WasLetGo sizes (item stamp) m → WasGarbage sizes
      (item stamp)
  was_garbage counted garbage stamp goes = record {
    node = m;
    number = refl;
    garbage = garbage;
    let_go = λ shallow. goes;
    slot = used_then.0;
    stored = slot_at (state_of sizes after).heap m used_then.0 used_then.1;
    class = refl;
    made = (let low = used_made sizes account bounds m used_now in omega (arith, low, counted));
    place = refl;
  }

  -- nobody has retired it before, if no step has let go of it before
  pub not_retired : (x : Retired) → WasGarbage sizes x → HasGrown x.account account → x.deep ≡ false → (WasLetGo sizes x m → ⊥) → x.number ≢ slot_of m
  not_retired x was grown shallow never same =
      let node_is = one_ref (state_of sizes account).heap was.node m (retired_used sizes account bounds quiet x was grown) used_now (was.number ∙ same) in
      never (subst (WasLetGo sizes x) node_is (was.let_go shallow))

-- ---- a step that let go of a node before, in these steps

module _ (sizes : Sizes) (account : Account) (bounds : AreBounds (bounds_for sizes account.steps)) (x : Retired) (grown : HasGrown x.account account) (before : List Step) (actor : ℕ)
    (goes_on : x.account.steps ≡ before ++ step.Go actor ∷ []) where
  pub through_is : account.steps ≡ (before ++ step.Go actor ∷ []) ++ grown.steps
  through_is = grown.goes_on ∙ ap (λ l. l ++ grown.steps) goes_on

  pub parts : account.steps ≡ before ++ (step.Go actor ∷ grown.steps)
  parts = through_is ∙ append_assoc before (step.Go actor ∷ []) grown.steps

  pub before_ok : AreBounds (bounds_for sizes before)
  before_ok = bounds_less sizes before (step.Go actor ∷ grown.steps) (subst (λ l. AreBounds (bounds_for sizes l)) parts bounds)

  -- by the bounds of all of them
  pub replaced_then : (i m f : Ref) → HasReplaced (run (bounds_for sizes before) before) actor i m f → HasReplaced (run (bounds_for sizes account.steps) before) actor i m f
  replaced_then i m f h =
      subst (λ (s : State). HasReplaced s actor i m f) (sym (run_part sizes account.steps before (step.Go actor ∷ grown.steps) parts bounds))
      (replaced_wide (length (step.Go actor ∷ grown.steps)) (length account.steps + 1) (run (bounds_for sizes before) before) actor i m f h)

  pub failed_then : (i m f : Ref) → HasFailed (run (bounds_for sizes before) before) actor i m f → HasFailed (run (bounds_for sizes account.steps) before) actor i m f
  failed_then i m f h =
      subst (λ (s : State). HasFailed s actor i m f) (sym (run_part sizes account.steps before (step.Go actor ∷ grown.steps) parts bounds))
      (failed_wide (length (step.Go actor ∷ grown.steps)) (length account.steps + 1) (run (bounds_for sizes before) before) actor i m f h)

-- what was made to be a root is an indirection ever after
pub was_root : (sizes : Sizes) (account : Account) (bounds : AreBounds (bounds_for sizes account.steps)) (quiet : HasNoSweeps account.steps) (x : Retired)
    (grown : HasGrown x.account account) (m : Ref) → WasTakenBack sizes x m → HasIndirection (state_of sizes account) m
was_root sizes account bounds quiet x grown m r =
    link_still sizes account bounds quiet r.before (step.Go r.actor ∷ grown.steps) (parts sizes account bounds x grown r.before r.actor r.goes_on) m
    (root_link sizes (record { steps = r.before; names = []; owned = []; offered = []; offers = []; parted = [] }) (before_ok sizes account bounds x grown r.before r.actor r.goes_on)
    r.actor r.offer r.main r.sees r.undone m r.made)

-- ---- it was the indirection's own, and was replaced

module _ (sizes : Sizes) (account : Account) (bounds : AreBounds (bounds_for sizes account.steps)) (quiet : HasNoSweeps account.steps) (actor : ℕ) (i m f : Ref)
    (h : HasReplaced (state_of sizes account) actor i m f) (own : IsOwnBy sizes account (slot_of i) (slot_of m)) where
  link_now : HasIndirection (state_of sizes account) i
  link_now = replaced_link sizes account.steps bounds actor i m f h

  used_m : IsInUse (state_of sizes account).heap m
  used_m = replaced_used sizes account.steps bounds actor i m f h

  abbrev gone : Account
  gone = gone_on actor account

  bounds_then : AreBounds (bounds_for sizes gone.steps)
  bounds_then = bounds_more sizes account.steps (step.Go actor ∷ []) bounds

  quiet_then : HasNoSweeps gone.steps
  quiet_then = quiet_more account.steps (step.Go actor) quiet tt

  link_then : HasIndirection (state_of sizes gone) i
  link_then = link_still sizes gone bounds_then quiet_then account.steps (step.Go actor ∷ []) refl i link_now

  pub own_then : IsOwnBy sizes (gone_on actor account) (slot_of i) (slot_of m)
  own_then = own_by_longer sizes account gone (step.Go actor ∷ []) refl (slot_of i) (slot_of m) own

  pub replaced_garbage : IsGarbage (state_of sizes (gone_on actor account)) m
  replaced_garbage =
      let later = used_still sizes gone.steps account.steps (step.Go actor ∷ []) refl bounds_then quiet_then m used_m in
      swapped_out_garbage (bounds_for sizes gone.steps) account.steps (step.Go actor ∷ []) bounds_then actor i m f
      (subst (λ (s : State). HasReplaced s actor i m f) (sym (run_part sizes gone.steps account.steps (step.Go actor ∷ []) refl bounds_then))
      (replaced_wide (length (step.Go actor ∷ [])) (length gone.steps + 1) (state_of sizes account) actor i m f h)) (own_in sizes gone bounds_then quiet_then i m link_then (later.0, later.1) own_then)
      (later.0, later.1)

  -- no step has let go of it before
  module _ (x : Retired) (grown : HasGrown x.account account) where
    module _ (r : WasReplaced sizes x m) where
      its : HasReplaced (run (bounds_for sizes account.steps) r.before) r.actor r.link m r.fresh
      its = replaced_then sizes account bounds x grown r.before r.actor r.goes_on r.link m r.fresh r.replaced

      through : account.steps ≡ (r.before ++ step.Go r.actor ∷ []) ++ grown.steps
      through = through_is sizes account bounds x grown r.before r.actor r.goes_on

      all : account.steps ≡ r.before ++ (step.Go r.actor ∷ grown.steps)
      all = parts sizes account bounds x grown r.before r.actor r.goes_on

      its_link : HasIndirection (state_of sizes account) r.link
      its_link =
          link_still sizes account bounds quiet r.before (step.Go r.actor ∷ grown.steps) all r.link
          (replaced_link sizes r.before (before_ok sizes account bounds x grown r.before r.actor r.goes_on) r.actor r.link m r.fresh r.replaced)

      its_own : IsOwnBy sizes account (slot_of r.link) (slot_of m)
      its_own = own_by_longer sizes x.account account grown.steps grown.goes_on (slot_of r.link) (slot_of m) r.own

      abbrev Own : List Step → Ref → Type 0
      Own l j = IsOwn (states_of (bounds_for sizes account.steps) l) (last_of (bounds_for sizes account.steps) l) j m

      twice : ⊥
      twice =
          replaced_once (bounds_for sizes account.steps) bounds r.before grown.steps r.actor actor r.link i m r.fresh f _ _
          (part_goes sizes account.steps r.before (step.Go r.actor ∷ grown.steps) all bounds r.actor its.operation its.runs
          (goes_by_check (run (bounds_for sizes account.steps) r.before) (run (bounds_for sizes account.steps) r.before) r.actor r.link m r.fresh its)) its
          (subst (λ l. HasReplaced (run (bounds_for sizes account.steps) l) actor i m f) through h)
          (subst (λ l. Own l r.link) through (own_in sizes account bounds quiet r.link m its_link used_m its_own))
          (subst (λ l. Own l i) through (own_in sizes account bounds quiet i m link_now used_m own))

    pub never_let_go : WasLetGo sizes x m → ⊥
    never_let_go (by_commit r) = twice r
    never_let_go (by_refusal r) =
        refused_never_replaced (bounds_for sizes account.steps) bounds account.steps r.before (step.Go r.actor ∷ grown.steps)
        (parts sizes account bounds x grown r.before r.actor r.goes_on) r.actor r.link
        r.over m (failed_then sizes account bounds x grown r.before r.actor r.goes_on r.link r.over m r.failed) actor i f h
    never_let_go (by_outcome r) =
        both_kinds (node_at (state_of sizes account).heap m) (was_root sizes account bounds quiet x grown m r).1
        (replaced_main sizes account.steps bounds actor i m f h)
