-- Each reference is counted still where the one seat that is left has all slots of a class to which no handle leads.
use Rattle.history.specs.declared.calls.Call.{Call}
use Rattle.std.proofs.Common.{◌≡◌, ◌≢◌, ◌<◌, ◌≤◌, ◌*◌, inl, inr, ℕ, true, false, List, Contains, length, set, slice_index, if◌then◌else◌, sym, ap, subst, ◌∙◌, arith, ◌⊎◌}
use Rattle.std.proofs.lemmas.Bool.{cases_Bool, true≢false}
use Rattle.std.proofs.lemmas.List.{get_or_past}
use Rattle.std.proofs.lemmas.Option.{none-some}
use mathlib.Core.Option.{some}
use lib.ListN.{get_elem?}
use Rattle.atomic_table.proofs.Lists.{at_set}
use Rattle.atomic_table.specs.Table as Table
use Rattle.machine_model.specs.Beneath.slot_arena.specs.declared.refs.Ref.{Ref}
use Rattle.machine_model.specs.Beneath.slot_arena.specs.Refs.{slot_of}
use Rattle.machine_model.specs.States.{State}
use Rattle.proof_claims.specs.Claims.{Has}
use Rattle.proof_claims.specs.Held.{Holder, OfHandle, OfNode}
use Rattle.proof_memory.specs.Laws.{IsInUse}
use Rattle.proof_claims.specs.Beneath.proof_reuse.specs.Laws.{IsGarbage}
use Rattle.lock_free.specs.declared.accounts.Account.{Account}
use Rattle.lock_free.specs.declared.rules.Heard.{Heard}
use Rattle.lock_free.specs.declared.rules.Retired.{Retired}
use Rattle.lock_free.specs.declared.rules.View.{View}
use Rattle.lock_free.specs.declared.sizes.Sizes.{Sizes}
use Rattle.lock_free.specs.Accounts.{bounds_for, place_at, place_of, state_of, HasGrown}
use Rattle.lock_free.specs.Alone.{name_of, IsByItself, Marks}
use Rattle.lock_free.specs.Claims.{held_now, is_there}
use Rattle.lock_free.specs.Counts.{references}
use Rattle.lock_free.specs.Holdings.{AreHeld, IsHere, WasGarbageBefore}
use Rattle.lock_free.specs.Places.{count_word, taken_word, IsSlot, IsTaken}
use Rattle.lock_free.specs.Rules.{IsKept, RunsNothing, Standing, WasGivenUp}
use Rattle.lock_free.proofs.ClaimsThere.{fewer_there}
use Rattle.lock_free.proofs.CountsStay.{owed_set}
use Rattle.lock_free.proofs.CountWords.{one_class, slot_taken}
use Rattle.lock_free.proofs.HeldLeads.{left_before}
use Rattle.lock_free.proofs.HeldStill.{retired_set}
use Rattle.lock_free.proofs.Idle.{empty_has}
use Rattle.lock_free.proofs.OneStep.Found.{slot_at}
use Rattle.lock_free.proofs.OneStep.Holders.{holders_used}
use Rattle.lock_free.proofs.OnlySeat.{is_left, runs_nothing}
use Rattle.lock_free.proofs.Recovered as recovered
use Rattle.lock_free.proofs.Unmarked.{is_among, name_some, named, there, unmarked_has}
use Rattle.lock_free.proofs.Waiting.{grown_none}
use Rattle.lock_free.specs.Reached.{IsDead, IsOwed, IsReached}
use Rattle.lock_free.proofs.HeldFrom.{held_each}

module _ (v : View) (s : Table.State Call View) (kept : IsKept v.sizes s) (heard : (h : Heard) → Contains v.heard h → WasGivenUp s.views h) (id : ℕ) (at : get_elem? s.views id ≡ some v)
    (it : IsByItself v) (class : ℕ) (small : class < 3) (marks : Marks) (are : recovered.MarksLed v class marks) (unowed : (k : Ref) → Contains v.owed k → ⊥)
    (counted : (number : ℕ) → number < slice_index s.words (taken_word class) → marks number ≡ false → 1 ≤ references s.words (count_word v.sizes class (name_of v.sizes class number))) where
  abbrev sizes : Sizes
  sizes = v.sizes

  abbrev account : Account
  account = kept.account

  abbrev state : State
  state = state_of sizes account

  abbrev names : List ℕ
  names = recovered.names v s kept heard id at it class small marks are

  abbrev account_then : Account
  account_then = recovered.account_then v s kept heard id at it class small marks are

  abbrev stands_then : Standing
  stands_then = recovered.stands_then v s kept heard id at it class small marks are

  abbrev view_then : View
  view_then = recovered.view_then v s kept heard id at it class small marks are

  abbrev views_then : List View
  views_then = set s.views id view_then

  nothing : RunsNothing state
  nothing = runs_nothing v s kept heard id at it.alone it.rests.idle

  -- ---- which nodes stand

  stood : (k : ℕ) → stands_then k ≡ true → kept.stands k ≡ true
  stood = left_before kept.stands (λ k. is_among names (place_at account k))

  was_here : (k : Ref) → IsHere sizes account_then stands_then k → IsHere sizes account kept.stands k
  was_here k here = (here.0, stood (slot_of k) here.1)

  -- where it isn't in one of these slots
  still : (k : ℕ) → is_among names (place_at account k) ≡ false → stands_then k ≡ kept.stands k
  still k apart = ap (λ b. if b then false else kept.stands k) apart

  fewer : (by : Holder) → is_there stands_then by ≡ true → is_there kept.stands by ≡ true
  fewer (OfHandle handle) e = e
  fewer (OfNode j) e = stood (slot_of j) e

  -- ---- nobody holds a reference, and nothing is retired

  none_owed : (other : ℕ) (w : View) → get_elem? views_then other ≡ some w → (k : Ref) → Contains w.owed k → ⊥
  none_owed other w e k c = elim (at_set s.views id other view_then w e) [
    | inl p ↦ unowed k (subst (λ (x : View). Contains x.owed k) (sym p.1) c)
    | inr p ↦ empty_has k (subst (λ ks. Contains ks k) (is_left v s kept heard id at it.alone it.rests.idle other w p.1 p.0).bare.3 c)
  ]

  none_retired : (other : ℕ) (w : View) → get_elem? views_then other ≡ some w → (x : Retired) → Contains w.retired x → ⊥
  none_retired other w e x c = elim (at_set s.views id other view_then w e) [
    | inl p ↦ empty_has x (subst (λ (y : View). Contains y.retired x) (sym p.1) c)
    | inr p ↦ empty_has x (subst (λ xs. Contains xs x) (is_left v s kept heard id at it.alone it.rests.idle other w p.1 p.0).bare.1 c)
  ]

  -- ---- slots

  spare_then : (kind name : ℕ) → kind < 3 → IsSlot sizes kind name → ((k : Ref) → IsHere sizes account_then stands_then k → place_of account_then k ≢ name) →
      1 ≤ references s.words (count_word sizes kind name)
  spare_then kind name few slot none = elim (cases_Bool (is_among names name)) [
    | inl among ↦
        (let u = unmarked_has sizes class marks (slice_index s.words (taken_word class)) name (there names name among) in
        let its : IsTaken sizes s.words class name = record { number = u.number; few = u.few; first = ap (λ n. 2 * n) u.is ∙ named sizes class u.number small } in
        let same = one_class sizes kind class name few small slot (slot_taken sizes s.words kept.taken class name small its) in
        subst (λ w. 1 ≤ references s.words w) (sym (ap (λ b. count_word sizes b name) same ∙ ap (count_word sizes class) u.is)) (counted u.number u.few u.not))
    | inr apart ↦
        kept.held.spare kind name few slot (λ k here is. none k (here.0, still (slot_of k) (ap (is_among names) is ∙ apart) ∙ here.1) is)
  ]

  -- what isn't made yet has no slot
  unborn_then : (k : ℕ) → length account.names ≤ k → stands_then k ≡ true
  unborn_then k high = elim (cases_Bool (is_among names (place_at account k))) [
    | inl among ↦
        (let u = unmarked_has sizes class marks (slice_index s.words (taken_word class)) (place_at account k) (there names (place_at account k) among) in
        let some = name_some sizes class u.number small in
        let none = get_or_past account.names k 0 high in
        let is = u.is in
        absurd (omega (arith, some, none, is)))
    | inr apart ↦ still k apart ∙ kept.held.unborn k high
  ]

  -- ---- what stands no more

  grown_then : (first : Account) → HasGrown first account → HasGrown first account_then
  grown_then first h = record { steps = h.steps; goes_on = h.goes_on; names = h.names; more_names = h.more_names }

  garbage : (j : Ref) → IsInUse state.heap j → kept.stands (slot_of j) ≡ true → stands_then (slot_of j) ≡ false → IsGarbage state j
  garbage j used stood gone = record {
    in_use = used;
    unfollowed = λ led.
        true≢false (sym (still (slot_of j)
        (recovered.led_stays v s kept heard id at it class small marks are j led stood used.0 (slot_at state.heap j used.0 used.1)) ∙ stood) ∙ gone);
    private_to_none = λ a o runs c. none-some o (sym (nothing a) ∙ runs);
    unbrought = λ a o runs unmarked brings. none-some o (sym (nothing a) ∙ runs);
  }

  was_garbage : (j k : Ref) → Has (held_now sizes account) (OfNode j) k → stands_then (slot_of j) ≡ false → WasGarbageBefore sizes account_then j
  was_garbage j k has gone = elim (cases_Bool (kept.stands (slot_of j))) [
    | inl stood ↦ record {
      first = account;
      grown = grown_then account (grown_none account);
      garbage = garbage j (holders_used (bounds_for sizes account.steps) kept.bounds account.steps kept.quiet j k has) stood gone;
    }
    | inr fallen ↦ (let g = kept.held.gone j k has fallen in record { first = g.first; grown = grown_then g.first g.grown; garbage = g.garbage })
  ]

  -- ---- all of it

  none_reached : (k : Ref) → IsReached sizes account_then views_then k → ⊥
  none_reached =
      held_each sizes account_then (λ r. IsOwed views_then r ⊎ IsDead sizes account_then views_then r) (λ r. ⊥)
      (λ r first. elim first [ inl o ↦ none_owed o.0 o.1 o.2 r o.3 | inr d ↦ none_retired d.id d.view d.at d.item d.its ]) (λ j r none holds. none)

  pub held_recovered : AreHeld sizes account_then stands_then s.words views_then
  held_recovered = record {
    counted = λ k here.
        (let old = kept.held.counted k (was_here k here) in
        let claims = fewer_there k kept.stands stands_then fewer (held_now sizes account).claims in
        let seats = owed_set k s.views id v at view_then in
        let slots = retired_set (slot_of k) s.views id v at view_then in
        omega (arith, old, claims, seats, slots));
    spare = spare_then;
    fresh = λ a o runs k c. absurd (none-some o (sym (nothing a) ∙ runs));
    owed = λ other w e k c. absurd (none_owed other w e k c);
    known = λ other w e k c a o runs its. absurd (none_owed other w e k c);
    lines = λ other w e o runs. absurd (none-some o (sym (nothing w.actor) ∙ runs));
    dead = λ other w e x c deep k here is. absurd (none_retired other w e x c);
    unlet = λ k gone here.
        (let old = kept.held.unlet k gone (was_here k here) in
        let claims = fewer_there k kept.stands stands_then fewer (held_now sizes account).claims in
        let seats = owed_set k s.views id v at view_then in
        omega (arith, old, claims, seats));
    reached = λ k from. absurd (none_reached k from);
    unborn = unborn_then;
    gone = was_garbage;
    used = kept.held.used;
    owned = kept.held.owned;
    owns = kept.held.owns;
  }
