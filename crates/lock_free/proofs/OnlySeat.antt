-- Where a seat is alone no other seat makes an access, and nothing runs.
use Rattle.history.specs.declared.calls.Call.{Call}
use Rattle.std.proofs.Common.{◌≡◌, ◌⊎◌, ◌≤◌, inl, inr, ℕ, [], Contains, Option, Some, None, refl, sym, ap, subst, ◌∙◌, arith}
use Rattle.std.proofs.lemmas.Bool.{cases_eq}
use Rattle.std.proofs.lemmas.Option.{none-some}
use mathlib.Core.Option.{some, some-injective}
use lib.ListN.{get_elem?}
use Rattle.atomic_table.specs.Table as Table
use Rattle.machine_model.specs.declared.operations.Operation.{Operation}
use Rattle.machine_model.specs.States.{State, operation_of}
use Rattle.lock_free.specs.declared.rules.Heard.{Heard}
use Rattle.lock_free.specs.declared.rules.View.{View}
use Rattle.lock_free.specs.Accounts.{state_of}
use Rattle.lock_free.specs.Alone.{IsAlone, WasLeft}
use Rattle.lock_free.specs.Rules.{HasActor, IsKept, IsSeat, RunsNothing, WasGivenUp, no_slots}
use Rattle.lock_free.specs.SeatWords.{IsIdle}
use Rattle.lock_free.proofs.OneStep.Idle.{idle_stays}

none_by : (x : Option Operation) → ((o : Operation) → x ≡ Some o → ⊥) → x ≡ None
none_by None h = refl
none_by (Some o) h = absurd (h o refl)

module _ (v : View) (s : Table.State Call View) (kept : IsKept v.sizes s) (heard : (h : Heard) → Contains v.heard h → WasGivenUp s.views h) (id : ℕ) (at : get_elem? s.views id ≡ some v)
    (alone : IsAlone v) (runs_none : IsIdle v) where
  abbrev state : State
  state = state_of v.sizes kept.account

  seat : IsSeat v.sizes kept.account kept.stands s.words v
  seat = kept.seats id v at

  -- it runs nothing still
  pub rests : operation_of state v.actor ≡ None
  rests = idle_stays v.sizes v.actor v.account kept.account seat.waited kept.bounds runs_none

  -- what is left of another seat
  pub record IsLeft (u : View) : Type 0 where
    pub spent : u.sizes.seats ≡ 0
    pub bare : (u.pool ≡ no_slots) × (u.retired ≡ []) × (u.account.offered ≡ []) × (u.owed ≡ []) × (u.offer ≡ None)
    pub idle : operation_of state u.actor ≡ None

  module _ (k : ℕ) (u : View) (at_u : get_elem? s.views k ≡ some u) (apart : k ≡ id → ⊥) where
    theirs : IsSeat v.sizes kept.account kept.stands s.words u
    theirs = kept.seats k u at_u

    left_by : HasActor v u.actor ⊎ WasLeft v u.actor → IsLeft u
    left_by (inl mine) = absurd (apart (kept.alone k id u v u.actor at_u at (omega arith, theirs.top) mine))
    left_by (inr left) =
        let g = heard left.heard left.its in
        let has : HasActor g.view u.actor =
        (subst (λ n. n ≤ u.actor) (sym g.actor) left.low, subst (λ n. u.actor ≤ n) (sym g.last) left.top) in
        let same : k ≡ g.id = kept.alone k g.id u g.view u.actor at_u g.at (omega arith, theirs.top) has in
        let is : g.view ≡ u = some-injective g.view u (sym g.at ∙ ap (λ n. get_elem? s.views n) (sym same) ∙ at_u) in
        let waited = (kept.seats g.id g.view g.at).waited in
        let rested : operation_of (state_of v.sizes g.view.account) g.view.actor ≡ None =
        ap (operation_of (state_of v.sizes g.view.account)) g.actor ∙ ap (λ a. operation_of (state_of v.sizes a) left.heard.actor) g.account ∙ left.idle in
        subst IsLeft is (record {
          spent = g.spent;
          bare = g.bare;
          idle = idle_stays v.sizes g.view.actor g.view.account kept.account waited kept.bounds rested;
        })

    pub is_left : IsLeft u
    is_left = left_by (alone u.actor theirs.low (omega (arith, theirs.top, theirs.most)))

  -- nothing runs
  pub runs_nothing : RunsNothing state
  runs_nothing a = none_by (operation_of state a) (λ o runs. by o runs)
    where
      by : (o : Operation) → operation_of state a ≡ Some o → ⊥
      by o runs =
          let r = kept.runners a o runs in
          let its = ap (operation_of state) r.its ∙ runs in
          elim (cases_eq r.id id) [
            | inl same ↦
                (let is : r.view ≡ v = some-injective r.view v (sym r.at ∙ ap (λ n. get_elem? s.views n) same ∙ at) in
                none-some o (sym rests ∙ ap (λ (x : View). operation_of state x.actor) (sym is) ∙ its))
            | inr apart ↦ none-some o (sym (is_left r.id r.view r.at apart).idle ∙ its)
          ]
