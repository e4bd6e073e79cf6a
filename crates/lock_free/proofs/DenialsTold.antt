-- What it tells of a handle that a call on it was denied.
use Rattle.std.proofs.Common.{◌≡◌, ◌⊎◌, ◌&&◌, inl, inr, ℕ, Bool, true, false, not, is_some, List, [], Contains, Option, None, Some, refl, sym, ap, subst, ◌∙◌, append-nil}
use Rattle.std.proofs.lemmas.Bool.{true≢false}
use Rattle.std.proofs.lemmas.Option.{none-some, same_Some}
use Rattle.history.specs.declared.calls.Access.{Access}
use Rattle.history.specs.declared.calls.Access.TheVariants.{Writable, ReadOnly}
use Rattle.history.specs.declared.calls.Call.{Call}
use Rattle.history.specs.Worlds.{HandleState, KeyMap}
use Rattle.machine_model.specs.Beneath.ctrie_base.specs.declared.refusals.Refusal.TheVariants as refuse
use Rattle.machine_model.specs.declared.roots.Root.{Root}
use Rattle.machine_model.specs.Calls.{handle_of, needs_read_only, needs_writable}
use Rattle.machine_model.specs.Machine.{access_of, begin_denial, is_access, AreBounds}
use Rattle.machine_model.specs.States.{State, root_at}
use Rattle.proof_linearizable.specs.Beneath.proof_order.specs.Laws.Orders.{Names}
use Rattle.lock_free.specs.declared.accounts.Account.{Account}
use Rattle.lock_free.specs.declared.accounts.Known.{Known}
use Rattle.lock_free.specs.declared.calling.Denial.{Denial}
use Rattle.lock_free.specs.declared.calling.Denial.TheVariants as denial
use Rattle.lock_free.specs.declared.rules.Pinned.{Pinned}
use Rattle.lock_free.specs.declared.rules.View.{View}
use Rattle.lock_free.specs.Accesses.{WasOpenAt}
use Rattle.lock_free.specs.Accounts.{bounds_for, state_of}
use Rattle.lock_free.specs.Calling.{is_denied, is_opening, IsRefused}
use Rattle.lock_free.specs.Denials.{offered_by, ClosesTellHandles, DenialsTellHandles, TellsDenial, WasNotOpenAt}
use Rattle.lock_free.specs.HandleWords.{HasOpening}
use Rattle.lock_free.specs.Loading.{now, seen, Saw, Waited}
use Rattle.lock_free.specs.Places.{words_of}
use Rattle.lock_free.specs.SeatCalls.{IsNoHandle}
use Rattle.lock_free.specs.SeatWords.{pinned_for, unpinned}
use Rattle.lock_free.specs.Telling.{history_of, GoesOn, SeatsAreExplained}
use Rattle.lock_free.proofs.HistoriesOn.{histories_go_on}
use Rattle.lock_free.proofs.Pools.{contains_map}
use Rattle.lock_free.proofs.WhyRefused.{no_handle_by, reads_by, writes_by}

-- ---- what the definition's denials tell

none_so : (root : Option Root) → not (is_some (access_of root)) ≡ true → root ≡ None
none_so None is = refl
none_so (Some root) is = absurd (true≢false (sym is))

read_only_by : (access : Option Access) → is_access ReadOnly access ≡ true → access ≡ Some ReadOnly
read_only_by None is = absurd (true≢false (sym is))
read_only_by (Some Writable) is = absurd (true≢false (sym is))
read_only_by (Some ReadOnly) is = refl

writable_by : (access : Option Access) → is_access Writable access ≡ true → access ≡ Some Writable
writable_by None is = absurd (true≢false (sym is))
writable_by (Some Writable) is = refl
writable_by (Some ReadOnly) is = absurd (true≢false (sym is))

both_second : (a b : Bool) → (a && b) ≡ true → b ≡ true
both_second true b is = is
both_second false b is = absurd (true≢false (sym is))

module _ (state : State) (actor : ℕ) (call : Call) (opens : Option ℕ) where
  denied_none : begin_denial state actor call opens ≡ Some refuse.NoHandle → root_at state (handle_of call) ≡ None
  denied_none is = none_so (root_at state (handle_of call)) (no_handle_by _ _ _ _ _ _ _ _ is)

  denied_read_only : begin_denial state actor call opens ≡ Some refuse.ReadOnly → access_of (root_at state (handle_of call)) ≡ Some ReadOnly
  denied_read_only is = read_only_by (access_of (root_at state (handle_of call))) (both_second (needs_writable call) _ (writes_by _ _ _ _ _ _ _ _ is))

  denied_writable : begin_denial state actor call opens ≡ Some refuse.NotReadOnly → access_of (root_at state (handle_of call)) ≡ Some Writable
  denied_writable is = writable_by (access_of (root_at state (handle_of call))) (both_second (needs_read_only call) _ (reads_by _ _ _ _ _ _ _ _ is))

-- ---- what a handle was at some moment

shown_so : (root : Option Root) (pairs : List (ℕ × ℕ)) (shown : Option HandleState) (access : Access) → access_of root ≡ Some access → Names root pairs shown →
    (m : KeyMap) × (shown ≡ Some (record { access = access; pairs = m }))
shown_so None pairs shown access is names = absurd (none-some access is)
shown_so (Some root) pairs shown access is names = (names.0, names.1 ∙ ap (λ a. Some (record { access = a; pairs = names.0 })) (same_Some root.access access is))

hidden_so : (root : Option Root) (pairs : List (ℕ × ℕ)) (shown : Option HandleState) → root ≡ None → Names root pairs shown → shown ≡ None
hidden_so None pairs shown is names = names
hidden_so (Some root) pairs shown is names = absurd (none-some root (sym is))

module _ (explained : SeatsAreExplained) (v : View) (bounds : AreBounds (bounds_for v.sizes v.account.steps)) (handle : ℕ) where
  module _ (account : Account) (w : Waited v account) (x : View) (on : GoesOn account.steps x.account.steps) where
    pub open_then : (access : Access) → access_of (root_at (state_of v.sizes account) handle) ≡ Some access → WasOpenAt v handle access x
    open_then access is =
        let so_far = explained (words_of v.sizes) (seen v account) w.sound in
        let shown = shown_so (root_at (state_of v.sizes account) handle) _ _ access is (so_far.2 handle) in
        record {
          then = history_of v.sizes account;
          since = histories_go_on v.sizes v.account account bounds (w.waited.steps, w.waited.goes_on);
          until = histories_go_on v.sizes account x.account w.sound.bounds on;
          order = _;
          world = so_far.0;
          explains = so_far.1;
          pairs = shown.0;
          names = shown.1;
        }

    not_open_then : root_at (state_of v.sizes account) handle ≡ None → WasNotOpenAt v handle x
    not_open_then is =
        let so_far = explained (words_of v.sizes) (seen v account) w.sound in
        record {
          then = history_of v.sizes account;
          since = histories_go_on v.sizes v.account account bounds (w.waited.steps, w.waited.goes_on);
          until = histories_go_on v.sizes account x.account w.sound.bounds on;
          order = _;
          world = so_far.0;
          explains = so_far.1;
          none = hidden_so (root_at (state_of v.sizes account) handle) _ _ is (so_far.2 handle);
        }

  -- as the seat looked
  no_step : (at : View) (s : Saw v at) → GoesOn s.account.steps at.account.steps
  no_step at s = ([], ap (λ (z : View). z.account.steps) s.after_is ∙ sym (append-nil s.account.steps))

  open_seen : (at : View) (s : Saw v at) (access : Access) → access_of (root_at (state_of v.sizes s.account) handle) ≡ Some access → WasOpenAt v handle access at
  open_seen at s access is = open_then s.account s.waited at (no_step at s) access is

  not_open_seen : (at : View) (s : Saw v at) → root_at (state_of v.sizes s.account) handle ≡ None → WasNotOpenAt v handle at
  not_open_seen at s is = not_open_then s.account s.waited at (no_step at s) is

-- ---- a call is denied

no_number : (v x : View) (c : Call) (why : Denial) → IsNoHandle c why → TellsDenial v (handle_of c) why x
no_number v x c denial.NoHandle (is, high) = inl high
no_number v x c denial.ReadOnly (is, high) = (let wrong : ⊥ = cc is in absurd wrong)
no_number v x c denial.NotReadOnly (is, high) = (let wrong : ⊥ = cc is in absurd wrong)

module _ (explained : SeatsAreExplained) (v : View) (bounds : AreBounds (bounds_for v.sizes v.account.steps)) (c : Call) (pin : Pinned) where
  abbrev pinned : View
  pinned = pinned_for v pin c

  opening_by : (slot : ℕ) (at : View) (s : Saw pinned at) →
      HasOpening v.sizes s.account (Some pin) (handle_of c) slot ⊎ (Some pin ≡ None) ⊎ (root_at (state_of v.sizes s.account) (handle_of c) ≡ None) →
      TellsDenial v (handle_of c) denial.NoHandle (unpinned at)
  opening_by slot at s (inl h) =
      let here = subst (λ (z : View). Contains z.account.offered h.its) (sym s.after_is) h.here.here in
      inr (inr (subst (Contains (offered_by at.account)) h.opens (contains_map (λ (k : Known). k.offer.opens) at.account.offered h.its here)))
  opening_by slot at s (inr (inl none)) = absurd (none-some pin (sym none))
  opening_by slot at s (inr (inr none)) = inr (inl (not_open_seen explained pinned bounds (handle_of c) at s none))

  denial_by : (why : Denial) (at : View) → IsRefused pinned c why at → TellsDenial v (handle_of c) why (unpinned at)
  denial_by denial.NoHandle at (is_denied w y (s, is)) =
      inr (inl (not_open_seen explained pinned bounds (handle_of c) at s (denied_none (now (seen pinned s.account)) v.actor c v.opens is)))
  denial_by denial.NoHandle at (is_opening slot y (s, fits, tells)) = opening_by slot at s tells
  denial_by denial.ReadOnly at (is_denied w y (s, is)) =
      open_seen explained pinned bounds (handle_of c) at s ReadOnly (denied_read_only (now (seen pinned s.account)) v.actor c v.opens is)
  denial_by denial.NotReadOnly at (is_denied w y (s, is)) =
      open_seen explained pinned bounds (handle_of c) at s Writable (denied_writable (now (seen pinned s.account)) v.actor c v.opens is)

pub denials_tell_handles : SeatsAreExplained → DenialsTellHandles
denials_tell_handles explained v x c why bounds (inl none) = no_number v x c why none
denials_tell_handles explained v x c why bounds (inr (pin, at, refused, left)) = subst (TellsDenial v (handle_of c) why) (sym left) (denial_by explained v bounds c pin why at refused)

-- ---- a close finds none

pub closes_tell_handles : SeatsAreExplained → ClosesTellHandles
closes_tell_handles explained v x handle bounds found =
    not_open_seen explained v bounds handle x found.saw (subst (λ (z : View). root_at (now z) handle ≡ None) found.saw.after_is found.closed)
