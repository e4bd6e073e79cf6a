-- Once the epoch has grown three times since a slot was retired nobody is on its node, and nobody comes to be.
use Rattle.history.specs.declared.calls.Access.{Access}
use Rattle.history.specs.declared.calls.Call.{Call}
use Rattle.std.proofs.Common.{◌≡◌, ◌≢◌, ◌⊎◌, ◌+◌, ◌≤◌, ◌++◌, inl, inr, ℕ, List, [], ◌∷◌, Contains, length, Some, refl, sym, ap, subst, ◌∙◌, append-nil, arith}
use mathlib.Core.Option.{some}
use lib.ListN.{get_elem?}
use Rattle.atomic_table.specs.Table as Table
use Rattle.machine_model.specs.Beneath.slot_arena.specs.Refs.{slot_of}
use Rattle.machine_model.specs.Beneath.slot_arena.specs.declared.refs.Ref.{Ref}
use Rattle.machine_model.specs.Calls.{handle_of}
use Rattle.machine_model.specs.Machine.{AreBounds, run}
use Rattle.machine_model.specs.States.{State, operation_of, root_at}
use Rattle.machine_model.specs.declared.operations.Operation.{Operation}
use Rattle.machine_model.specs.declared.roots.RootWord.TheVariants.{Plain}
use Rattle.machine_model.specs.declared.steps.Bounds.{Bounds}
use Rattle.machine_model.specs.declared.steps.Step.{Step}
use Rattle.proof_garbage.specs.Grace.{HaveEnded}
use Rattle.proof_memory.specs.Laws.{IsInUse}
use Rattle.proof_claims.specs.Beneath.proof_reuse.proofs.SwapIns.{none_swapped_back}
use Rattle.proof_claims.specs.Beneath.proof_reuse.proofs.Unknown.{unknown_after_grace}
use Rattle.proof_claims.specs.Beneath.proof_reuse.specs.Beneath.proof_followed.proofs.Grace.{dies}
use Rattle.proof_claims.specs.Beneath.proof_reuse.specs.Beneath.proof_followed.specs.Followed as followed
use Rattle.proof_claims.specs.Beneath.proof_reuse.specs.Beneath.proof_followed.specs.Followed.{IsFollowed}
use Rattle.proof_claims.specs.Beneath.proof_reuse.specs.Laws.{IsGarbage}
use Rattle.proof_waiting.specs.Beneath.proof_slots.proofs.Unswept.Kept.{nothing_is_freed, one_ref}
use Rattle.proof_waiting.specs.Beneath.proof_slots.proofs.Unswept.Shrinking.{unswept_behind}
use Rattle.proof_waiting.specs.Beneath.proof_slots.specs.Lasting.{widened}
use Rattle.proof_waiting.specs.Beneath.proof_slots.specs.Unswept.{HasNoSweeps}
use Rattle.lock_free.specs.declared.accounts.Account.{Account}
use Rattle.lock_free.specs.declared.rules.Pinned.{Pinned}
use Rattle.lock_free.specs.declared.rules.Retired.{Retired}
use Rattle.lock_free.specs.declared.rules.View.{View}
use Rattle.lock_free.specs.declared.sizes.Sizes.{Sizes}
use Rattle.lock_free.specs.Accounts.{bounds_for, state_of, running, HasGrown, MayBeFound, WasRoot}
use Rattle.lock_free.specs.Live.{IsKnown, IsLive, from_root, from_operation, from_slot}
use Rattle.lock_free.specs.Rules.{AreEpochs, AreRetired, IsKept, IsRetired, WasGarbage}
use Rattle.lock_free.proofs.BegunSince.{begun_grown, begun_since, first_bounds}
use Rattle.lock_free.proofs.EpochStays.{epoch_in}
use Rattle.lock_free.proofs.OneStep.Found.{live_used}
use Rattle.lock_free.proofs.OneStep.GarbageWide.{garbage_wide}
use Rattle.lock_free.proofs.OneStep.Longer.{run_longer, bounds_less}
use Rattle.lock_free.proofs.OneStep.Reached.{reached_used}
use Rattle.lock_free.proofs.OneStep.Retired.{retired_used}
use Rattle.lock_free.proofs.Waiting.{grown_both, grown_none}

-- ---- who is on a node

-- roots lead there, or one of the operations
split_live : (state : State) {r : Ref} → IsLive state r →
    IsKnown state (λ id. ⊥) r ⊎ ((actor : ℕ) × (operation : Operation) × (operation_of state actor ≡ Some operation) × IsKnown state (λ id. id ≡ operation.id) r)
split_live state (from_root handle r c) = inl (from_root handle r c)
split_live state (from_operation actor operation r e p c) = inr (actor, operation, e, from_operation actor operation r e refl c)
split_live state (from_slot q r k c) = elim (split_live state k) [
  | inl root ↦ inl (from_slot q r root c)
  | inr (actor, operation, e, known) ↦ inr (actor, operation, e, from_slot q r known c)
]

pub more_known : (state : State) (P Q : ℕ → Type 0) → ((id : ℕ) → P id → Q id) → {r : Ref} → IsKnown state P r → IsKnown state Q r
more_known state P Q f (from_root handle r c) = from_root handle r c
more_known state P Q f (from_operation actor operation r e p c) = from_operation actor operation r e (f operation.id p) c
more_known state P Q f (from_slot q r k c) = from_slot q r (more_known state P Q f k) c

pub quiet_first : (xs ys : List Step) → HasNoSweeps (xs ++ ys) → HasNoSweeps xs
quiet_first [] ys h = tt
quiet_first (x ∷ xs) ys h = (h.0, quiet_first xs ys h.1)

-- ---- accounts that went before

module _ (sizes : Sizes) (account : Account) (bounds : AreBounds (bounds_for sizes account.steps)) (first : Account) (grown : HasGrown first account) where
  -- the state then, under the bounds of the present account
  pub prefix_is : run (bounds_for sizes account.steps) first.steps ≡ widened (length grown.steps) (length account.steps + 1) (state_of sizes first)
  prefix_is =
      subst (λ l. run (bounds_for sizes l) first.steps ≡ widened (length grown.steps) (length l + 1) (state_of sizes first)) (sym grown.goes_on)
      (run_longer sizes first.steps (first_bounds sizes first account bounds grown) first.steps [] grown.steps (sym (append-nil first.steps)))

  pub prefix_begun : (run (bounds_for sizes account.steps) first.steps).begun ≡ (state_of sizes first).begun
  prefix_begun = ap (λ (s : State). s.begun) prefix_is

  pub prefix_runs : (actor : ℕ) (operation : Operation) → operation_of (run (bounds_for sizes account.steps) first.steps) actor ≡ Some operation → running sizes first actor operation
  prefix_runs actor operation runs = subst (λ (s : State). operation_of s actor ≡ Some operation) prefix_is runs

-- ---- nobody is on the node of a slot that was retired, once all have ended who ran then

module _ (sizes : Sizes) (account : Account) (bounds : AreBounds (bounds_for sizes account.steps)) (quiet : HasNoSweeps account.steps) (x : Retired) (was : WasGarbage sizes x)
    (middle : Account) (after : HasGrown x.account middle) (grown : HasGrown middle account) (ended : HaveEnded (state_of sizes x.account) (state_of sizes middle)) where
  abbrev limits : Bounds
  limits = bounds_for sizes account.steps

  abbrev first : List Step
  first = x.account.steps

  whole : HasGrown x.account account
  whole = grown_both x.account middle account after grown

  middle_is : first ++ after.steps ≡ middle.steps
  middle_is = sym after.goes_on

  all_is : (first ++ after.steps) ++ grown.steps ≡ account.steps
  all_is = ap (λ l. l ++ grown.steps) middle_is ∙ sym grown.goes_on

  garbage : IsGarbage (run limits first) was.node
  garbage = subst (λ (s : State). IsGarbage s was.node) (sym (prefix_is sizes account bounds x.account whole)) (garbage_wide _ _ (state_of sizes x.account) was.node was.garbage)

  used : IsInUse (run limits (first ++ after.steps)).heap was.node
  used =
      let low = quiet_first (first ++ after.steps) grown.steps (subst HasNoSweeps (sym all_is) quiet) in
      let still = nothing_is_freed limits first after.steps was.node garbage.in_use.0 bounds (unswept_behind first after.steps low) garbage.in_use.1 in
      (still.0, still.1)

  have_ended : HaveEnded (run limits first) (run limits (first ++ after.steps))
  have_ended actor operation runs =
      subst (λ n. n ≤ operation.id) (sym (prefix_begun sizes account bounds x.account whole))
      (ended actor operation (prefix_runs sizes account bounds middle grown actor operation (subst (λ l. operation_of (run limits l) actor ≡ Some operation) middle_is runs)))

  pub unknown_since : IsKnown (state_of sizes account) (λ id. (state_of sizes middle).begun ≤ id) was.node → ⊥
  unknown_since known =
      unknown_after_grace limits bounds first after.steps grown.steps was.node garbage used have_ended
      (subst (λ (s : State). IsKnown s (λ id. (run limits (first ++ after.steps)).begun ≤ id) was.node) (sym (ap (run limits) all_is))
      (more_known (state_of sizes account) (λ id. (state_of sizes middle).begun ≤ id) (λ id. (run limits (first ++ after.steps)).begun ≤ id)
      (λ id le. subst (λ n. n ≤ id) (sym (ap (λ l. (run limits l).begun) middle_is ∙ prefix_begun sizes account bounds middle grown)) le) known))

-- nor is it a root
module _ (sizes : Sizes) (account : Account) (bounds : AreBounds (bounds_for sizes account.steps)) (x : Retired) (was : WasGarbage sizes x) (grown : HasGrown x.account account) where
  pub no_root : (handle : ℕ) (access : Access) → root_at (state_of sizes account) handle ≡ Some (record { access = access; word = Plain was.node }) → ⊥
  no_root handle access is =
      let limits = bounds_for sizes account.steps in
      let gone = x.account.steps in
      let g = subst (λ (z : State). IsGarbage z was.node) (sym (prefix_is sizes account bounds x.account grown)) (garbage_wide _ _ (state_of sizes x.account) was.node was.garbage) in
      (dies limits bounds gone was.node g.in_use g.unfollowed g.unbrought grown.steps (none_swapped_back limits bounds gone was.node g.in_use g.private_to_none grown.steps)).0
      (subst (λ l. IsFollowed (run limits l) (λ n. (run limits gone).begun ≤ n) was.node) grown.goes_on
      (followed.from_root handle (record { access = access; word = Plain was.node }) was.node is refl))

-- ---- when the epoch has grown so often

module _ (sizes : Sizes) (s : Table.State Call View) (kept : IsKept sizes s) (epochs : AreEpochs s.words s.views) (old : AreRetired sizes s.words s.views)
    (id : ℕ) (v : View) (at : get_elem? s.views id ≡ some v) (x : Retired) (c : Contains v.retired x) (ripe : x.stamp + 3 ≤ epoch_in s.words) where
  abbrev state : State
  state = state_of sizes kept.account

  is : IsRetired sizes kept.account kept.stands x
  is = (kept.seats id v at).retired x c

  -- who runs has pinned itself since all had ended who ran when the slot was retired
  record Runner (operation : Operation) : Type 0 where
    pub pin : Pinned
    pub after : HasGrown x.account pin.account
    pub grown : HasGrown pin.account kept.account
    pub ended : HaveEnded (state_of sizes x.account) (state_of sizes pin.account)
    pub begun : (state_of sizes pin.account).begun ≤ operation.id

  runner : (actor : ℕ) (operation : Operation) → operation_of state actor ≡ Some operation → Runner operation
  runner actor operation runs =
      let its = kept.runners actor operation runs in
      let mine = ap (operation_of state) its.its ∙ runs in
      let seat = kept.seats its.id its.view its.at in
      let (pin, pinned, handle) = (seat.entered (handle_of operation.call) (seat.calls operation mine)).2 in
      let idle = seat.pinned_idle pin pinned in
      let soon = (epochs.pinned its.id its.view its.at pin pinned).soon in
      let both = old.pins id its.id v its.view at its.at x c pin pinned in
      record {
        pin = pin;
        after = elim both.0 [ inl early ↦ absurd (omega (arith, early, soon, ripe)) | inr since ↦ since ];
        grown = idle.grown;
        ended = elim both.1 [ inl near ↦ absurd (omega (arith, near, soon, ripe)) | inr far ↦ far ];
        begun = begun_since sizes pin.account kept.account kept.bounds idle.grown its.view.actor idle.idle operation mine;
      }

  -- so all have ended who ran then
  all_ended : HaveEnded (state_of sizes x.account) state
  all_ended actor operation runs =
      let r = runner actor operation runs in
      let first = begun_grown sizes x.account r.pin.account (first_bounds sizes r.pin.account kept.account kept.bounds r.grown) r.after in
      let then = r.begun in
      omega (arith, first, then)

  dead : IsLive state is.was.node → ⊥
  dead live = elim (split_live state live) [
    | inl root ↦
        unknown_since sizes kept.account kept.bounds kept.quiet x is.was kept.account is.grown (grown_none kept.account) all_ended
        (more_known state (λ n. ⊥) (λ n. state.begun ≤ n) (λ n never. absurd never) root)
    | inr (actor, operation, runs, known) ↦
        (let r = runner actor operation runs in
        unknown_since sizes kept.account kept.bounds kept.quiet x is.was r.pin.account r.after r.grown r.ended
        (more_known state (λ n. n ≡ operation.id) (λ n. (state_of sizes r.pin.account).begun ≤ n) (λ n same. subst (λ k. (state_of sizes r.pin.account).begun ≤ k) (sym same) r.begun) known))
  ]

  in_use : IsInUse state.heap is.was.node
  in_use = retired_used sizes kept.account kept.bounds kept.quiet x is.was is.grown

  pub not_live : (r : Ref) → IsLive state r → slot_of r ≢ x.number
  not_live r live same =
      let one = one_ref state.heap r is.was.node (live_used sizes kept.account kept.bounds r live) in_use (same ∙ sym is.was.number) in
      dead (subst (IsLive state) one live)

  -- ---- nobody who runs may have found it as a root

  -- of two beginnings of one list one goes on as the other
  comparable : (xs left ys other : List Step) → xs ++ left ≡ ys ++ other → ((rest : List Step) × (ys ≡ xs ++ rest)) ⊎ ((rest : List Step) × (xs ≡ ys ++ rest))
  comparable [] left ys other e = inl (ys, refl)
  comparable (z ∷ xs) left [] other e = inr (z ∷ xs, refl)
  comparable (z ∷ xs) left (y ∷ ys) other e =
      let first : z ≡ y = cc e in
      elim (comparable xs left ys other (cc e)) [
        | inl p ↦ inl (p.0, ap (λ w. w ∷ ys) (sym first) ∙ ap (λ l. z ∷ l) p.1)
        | inr p ↦ inr (p.0, ap (λ w. w ∷ xs) first ∙ ap (λ l. y ∷ l) p.1)
      ]

  abbrev gone : List Step
  gone = x.account.steps

  -- it came to be one after it was garbage
  later_root : (h : WasRoot sizes kept.account is.was.node) (rest : List Step) → h.steps ≡ gone ++ rest → ⊥
  later_root h rest e =
      let then : Account = record { steps = h.steps; names = x.account.names; owned = []; offered = []; offers = []; parted = [] } in
      let grown : HasGrown x.account then = record { steps = rest; goes_on = e; names = []; more_names = sym (append-nil x.account.names) } in
      let ok = bounds_less sizes h.steps h.more (subst (λ l. AreBounds (bounds_for sizes l)) h.goes_on kept.bounds) in
      no_root sizes then ok x is.was grown h.handle h.access h.was

  which : (h : WasRoot sizes kept.account is.was.node) → ((rest : List Step) × (gone ≡ h.steps ++ rest)) ⊎ ((rest : List Step) × (h.steps ≡ gone ++ rest))
  which h = comparable h.steps h.more gone is.grown.steps (sym h.goes_on ∙ is.grown.goes_on)

  -- it was one before: who runs has begun since
  never_found : MayBeFound sizes kept.account is.was.node → ⊥
  never_found h = elim (which h.root) [
    | inl p ↦
        (let first : Account = record { steps = h.root.steps; names = x.account.names; owned = []; offered = []; offers = []; parted = [] } in
        let grown : HasGrown first x.account = record { steps = p.0; goes_on = p.1; names = []; more_names = sym (append-nil x.account.names) } in
        let more = begun_grown sizes first x.account (first_bounds sizes x.account kept.account kept.bounds is.grown) grown in
        let since = all_ended h.actor h.operation h.runs in
        let began = h.began in
        omega (arith, more, since, began))
    | inr p ↦ later_root h.root p.0 p.1
  ]

  pub not_found : (r : Ref) → MayBeFound sizes kept.account r → slot_of r ≢ x.number
  not_found r h same =
      let one = one_ref state.heap r is.was.node (reached_used sizes kept.account kept.bounds kept.quiet r h.root) in_use (same ∙ sym is.was.number) in
      never_found (subst (MayBeFound sizes kept.account) one h)
