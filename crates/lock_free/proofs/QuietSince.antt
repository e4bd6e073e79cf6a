-- Since the last access of a seat that is alone no step was taken.
use Rattle.history.specs.declared.calls.Call.{Call}
use Rattle.std.proofs.Common.{◌≡◌, ◌≢◌, ◌⊎◌, ◌+◌, ◌<◌, ◌≤◌, ◌++◌, inl, inr, ℕ, zero, suc, Bool, true, false, not, List, [], ◌∷◌, All, Contains, length, get_or, nat_le, nat_lt, ◌&&◌}
use Rattle.std.proofs.Common.{is_some, Some, None, refl, sym, ap, subst, ◌∙◌, arith, append-nil, append_assoc}
use Rattle.std.proofs.lemmas.Bool.{cases_lt, true≢false}
use Rattle.std.proofs.lemmas.List.Elements.{All-head, All-tail}
use mathlib.Core.Option.{some}
use lib.ListN.{get_elem?}
use Rattle.atomic_table.specs.Table as Table
use Rattle.machine_model.specs.declared.steps.Step.{Step}
use Rattle.machine_model.specs.declared.steps.Step.TheVariants as step
use Rattle.machine_model.specs.Beneath.slot_arena.specs.declared.refs.Ref.{Ref}
use Rattle.machine_model.specs.Beneath.slot_arena.specs.Heaps.{refs_of_slot}
use Rattle.machine_model.specs.Beneath.ctrie_base.specs.declared.refusals.Refusal.{Refusal}
use Rattle.machine_model.specs.Beneath.ctrie_base.specs.declared.refusals.Refusal.TheVariants as refuse
use Rattle.machine_model.specs.declared.steps.Bounds.{Bounds}
use Rattle.history.specs.declared.calls.Access.TheVariants.{ReadOnly, Writable}
use Rattle.machine_model.specs.Calls.{handle_of, is_close, needs_read_only, needs_writable, opens_handle}
use Rattle.machine_model.specs.Machine.{AreBounds, access_of, begin_unless, first_reason, give_up_unless, go_unless, is_access, is_actor, is_running, is_spent, lacks_number}
use Rattle.machine_model.specs.Machine.{next, next_state, run, run_from, runs_on, state_after}
use Rattle.machine_model.specs.States.{State, root_at}
use Rattle.machine_model.proofs.Along.{limits_along, run-append}
use Rattle.proof_claims.specs.Beneath.proof_reuse.specs.Beneath.proof_followed.specs.Followed.{IsFollowedByRoots, from_root, from_operation, from_slot}
use Rattle.proof_waiting.specs.Beneath.proof_slots.specs.Lasting.{widened}
use Rattle.proof_waiting.specs.Beneath.proof_slots.proofs.Padded.Heaps.{stored_wide}
use Rattle.lock_free.specs.declared.accounts.Account.{Account}
use Rattle.lock_free.specs.declared.rules.Heard.{Heard}
use Rattle.lock_free.specs.declared.rules.View.{View}
use Rattle.lock_free.specs.Accounts.{bounds_for, state_of, HasWaited, IsOfOther}
use Rattle.lock_free.specs.Alone.{IsAlone, WasLeft}
use Rattle.lock_free.specs.Loading.{now, seen}
use Rattle.lock_free.specs.Rules.{HasActor, IsKept, IsSeat, WasGivenUp}
use Rattle.lock_free.proofs.OneStep.Longer.{run_longer, bounds_less}
use Rattle.lock_free.proofs.OneStep.Widened.{slot_in}
use Rattle.lock_free.proofs.Silent.{all_last}

-- ---- a step of no actor of the map

-- by none of so many
abbrev IsOfNone : ℕ → Step → Type 0
IsOfNone seats x = (a : ℕ) → 1 ≤ a → a ≤ seats → IsOfOther a x

first_bad : (b : Bool) (r : Refusal) (rs : List (Bool × Refusal)) → b ≡ true → first_reason ((b, r) ∷ rs) ≡ Some r
first_bad true r rs e = refl
first_bad false r rs e = absurd (true≢false (sym e))

and_false : (b : Bool) → (b && false) ≡ false
and_false true = refl
and_false false = refl

le_false : (x y : ℕ) → y < x → nat_le x y ≡ false
le_false x y h = grind (arith, h)

not_actor : (state : State) (seats a : ℕ) → state.limits.actors ≡ seats → ((n : ℕ) → 1 ≤ n → n ≤ seats → a ≢ n) → not (is_actor state a) ≡ true
not_actor state seats zero most none = refl
not_actor state seats (suc a) most none = by (cases_lt seats (suc a))
  where
    by : (seats < suc a) ⊎ (suc a ≤ seats) → not (is_actor state (suc a)) ≡ true
    by (inl more) =
        ap (λ n. not (nat_lt 0 (suc a) && nat_le (suc a) n)) most ∙ ap (λ b. not (nat_lt 0 (suc a) && b)) (le_false (suc a) seats more) ∙ ap not (and_false (nat_lt 0 (suc a)))
    by (inr less) = absurd (none (suc a) (omega arith) less refl)

-- it is denied
changes_nothing : (state : State) (seats : ℕ) (some_seats : 1 ≤ seats) → state.limits.actors ≡ seats → (x : Step) → IsOfNone seats x → next_state state x ≡ state
unfolding next
changes_nothing state seats some_seats most (step.Begin a call number) none =
    let access = access_of (root_at state (handle_of call)) in
    ap (λ d. state_after state (begin_unless state a call number d))
    (first_bad (not (is_actor state a)) refuse.NoActor (
    (is_running state a, refuse.ActorBusy) ∷ (not (is_some access), refuse.NoHandle) ∷ (needs_writable call && is_access ReadOnly access, refuse.ReadOnly)
    ∷ (needs_read_only call && is_access Writable access, refuse.NotReadOnly) ∷ (is_close call && runs_on state (handle_of call), refuse.Busy)
    ∷ (opens_handle call && lacks_number state number, refuse.HandlesFull) ∷ (is_spent state, refuse.Spent) ∷ [])
    (not_actor state seats a most none))
changes_nothing state seats some_seats most (step.Go a) none =
    ap (λ d. state_after state (go_unless state a d))
    (first_bad (not (is_actor state a)) refuse.NoActor ((not (is_running state a), refuse.Idle) ∷ (is_spent state, refuse.Spent) ∷ []) (not_actor state seats a most none))
changes_nothing state seats some_seats most (step.GiveUp a) none =
    ap (λ d. state_after state (give_up_unless state a d))
    (first_bad (not (is_actor state a)) refuse.NoActor ((not (is_running state a), refuse.Idle) ∷ (is_spent state, refuse.Spent) ∷ []) (not_actor state seats a most none))
changes_nothing state seats some_seats most step.Sweep none = absurd (none 1 (omega arith) some_seats)

change_nothing : (state : State) (seats : ℕ) (some_seats : 1 ≤ seats) → state.limits.actors ≡ seats → (xs : List Step) → All (IsOfNone seats) xs → run_from state xs ≡ state
unfolding run_from
change_nothing state seats some_seats most [] none = refl
change_nothing state seats some_seats most (x ∷ xs) none =
    let same = changes_nothing state seats some_seats most x (All-head (IsOfNone seats) x xs none) in
    ap (λ s. run_from s xs) same ∙ change_nothing state seats some_seats most xs (All-tail (IsOfNone seats) x xs none)

-- ---- two lists with one beginning

same_rest : (xs ys zs : List Step) → xs ++ ys ≡ xs ++ zs → ys ≡ zs
same_rest [] ys zs e = e
same_rest (x ∷ xs) ys zs e = same_rest xs ys zs (cc e)

-- ---- since it had seen this

module _ (v : View) (s : Table.State Call View) (kept : IsKept v.sizes s) (heard : (h : Heard) → Contains v.heard h → WasGivenUp s.views h) (id : ℕ) (at : get_elem? s.views id ≡ some v)
    (first : Account) (waited : HasWaited v.actor first kept.account) (alone : IsAlone (seen v first)) where
  seat : IsSeat v.sizes kept.account kept.stands s.words v
  seat = kept.seats id v at

  abbrev pub since : List Step
  since = waited.steps

  -- who has never taken a step has taken none since
  never : (a : ℕ) (steps : List Step) → All (IsOfOther a) steps → kept.account.steps ≡ steps → All (IsOfOther a) since
  never a steps others is = all_last (IsOfOther a) first.steps since (subst (All (IsOfOther a)) (sym is ∙ waited.goes_on) others)

  by_none : (a : ℕ) → HasActor v a ⊎ WasLeft (seen v first) a → All (IsOfOther a) since
  by_none a (inl mine) = elim (cases_lt v.actor a) [
    | inl above ↦ (let r = seat.rested a above mine.1 in never a r.steps r.others r.goes_on)
    | inr here ↦ subst (λ n. All (IsOfOther n) since) (omega (arith, mine.0, here)) waited.others
  ]
  by_none a (inr left) = elim (cases_lt g.view.actor a) [
    | inl above ↦ (let r = theirs.rested a above (subst (λ n. a ≤ n) (sym g.last) left.top) in never a r.steps r.others r.goes_on)
    | inr here ↦
        subst (λ n. All (IsOfOther n) since) (omega (arith, low, here))
        (all_last (IsOfOther g.view.actor) left.since.0 since (subst (All (IsOfOther g.view.actor)) more_is its.others))
  ]
    where
      g : WasGivenUp s.views left.heard
      g = heard left.heard left.its

      theirs : IsSeat v.sizes kept.account kept.stands s.words g.view
      theirs = kept.seats g.id g.view g.at

      its : HasWaited g.view.actor g.view.account kept.account
      its = theirs.waited

      low : g.view.actor ≤ a
      low = subst (λ n. n ≤ a) (sym g.actor) left.low

      more_is : its.steps ≡ left.since.0 ++ since
      more_is =
          same_rest left.heard.account.steps its.steps (left.since.0 ++ since)
          (subst (λ (x : Account). x.steps ++ its.steps ≡ left.heard.account.steps ++ (left.since.0 ++ since)) g.account
          (sym its.goes_on ∙ waited.goes_on ∙ ap (λ xs. xs ++ since) left.since.1 ∙ append_assoc left.heard.account.steps left.since.0 since))

  since_none : All (IsOfNone v.sizes.seats) since
  since_none k d low a one most = by_none a (alone a one most) k d low

  -- the state is what it was, but for free slots of the definition and steps that it may take
  pub same_state : state_of v.sizes kept.account ≡ widened (length since) (length (first.steps ++ since) + 1) (now (seen v first))
  same_state =
      let more = since in
      let steps = first.steps in
      let limits = bounds_for v.sizes (steps ++ more) in
      let ok = subst (λ l. AreBounds (bounds_for v.sizes l)) waited.goes_on kept.bounds in
      let actors = ap (λ (l : Bounds). l.actors) (limits_along limits steps) in
      ap (λ l. run (bounds_for v.sizes l) l) waited.goes_on ∙ run-append _ steps more ∙ change_nothing (run limits steps) v.sizes.seats kept.range.some actors more since_none
      ∙ run_longer v.sizes steps (bounds_less v.sizes steps more ok) steps [] more (sym (append-nil steps))

  pub same_slot : (k : ℕ) → get_or (state_of v.sizes kept.account).heap.slots k None ≡ get_or (now (seen v first)).heap.slots k None
  same_slot k = ap (λ (z : State). get_or z.heap.slots k None) same_state ∙ slot_in (length since) (length (first.steps ++ since) + 1) (now (seen v first)) k

  pub same_begun : (state_of v.sizes kept.account).begun ≡ (now (seen v first)).begun
  same_begun = ap (λ (z : State). z.begun) same_state

  led_in : (more m : ℕ) (state : State) {r : Ref} → IsFollowedByRoots (widened more m state) r → IsFollowedByRoots state r
  led_in more m state (from_root handle root r e is) = from_root handle root r e is
  led_in more m state (from_operation actor operation r e p c) = absurd p
  led_in more m state (from_slot q r k c) = from_slot q r (led_in more m state k) (subst (λ o. Contains (refs_of_slot o) r) (stored_wide more state.limits.slots state.heap q) c)

  -- handles led to it then
  pub led_before : (r : Ref) → IsFollowedByRoots (state_of v.sizes kept.account) r → IsFollowedByRoots (now (seen v first)) r
  led_before r led = led_in (length since) (length (first.steps ++ since) + 1) (now (seen v first)) (subst (λ z. IsFollowedByRoots z r) same_state led)
