-- An exchange of an offer's first word leaves each node and each count: where it gives nothing to its seat each reference is counted still.
use Rattle.history.specs.declared.calls.Call.{Call}
use Rattle.std.proofs.Common.{◌≡◌, ◌++◌, ◌≢◌, ℕ, inl, inr, List, [], ◌∷◌, ◌*◌, Contains, set, Option, Some, None, refl, sym, ap, subst, ◌∙◌, arith}
use Rattle.std.proofs.lemmas.Bool.{cases_eq}
use Rattle.std.proofs.lemmas.Option.{none-some, same_Some}
use mathlib.Core.Option.{some}
use lib.ListN.{get_elem?}
use Rattle.atomic_table.specs.Table as Table
use Rattle.machine_model.specs.Beneath.slot_arena.specs.declared.refs.Ref.{Ref}
use Rattle.machine_model.specs.declared.steps.Step.TheVariants as step
use Rattle.machine_model.specs.declared.operations.Operation.{Operation}
use Rattle.machine_model.specs.Calls.{handle_of}
use Rattle.machine_model.specs.Operations.{action_of}
use Rattle.machine_model.specs.States.{State, operation_of}
use Rattle.lock_free.specs.declared.accounts.Account.{Account}
use Rattle.lock_free.specs.declared.accounts.Known.{Known}
use Rattle.lock_free.specs.declared.rules.Retired.{Retired}
use Rattle.lock_free.specs.declared.rules.View.{View}
use Rattle.lock_free.specs.declared.sizes.Sizes.{Sizes}
use Rattle.lock_free.specs.Accounts.{state_of, HasWaited}
use Rattle.lock_free.specs.Counts.{IsCount, references}
use Rattle.lock_free.specs.Holdings.{AreHeld}
use Rattle.lock_free.specs.Roots.{fate, undecided}
use Rattle.lock_free.specs.Owing.{owing}
use Rattle.lock_free.specs.Reclaiming.{retiring_all}
use Rattle.lock_free.specs.Rules.{IsKept, IsRetired}
use Rattle.lock_free.specs.Settling.{Settles}
use Rattle.lock_free.proofs.Definition.{waits as still_runs}
use Rattle.lock_free.proofs.HeldLeads.{alike_slots}
use Rattle.lock_free.proofs.HeldStep.{going_less, held_step, slot_beside}
use Rattle.lock_free.proofs.Lettings.{TakesNone, private_fewer, none_made}
use Rattle.lock_free.proofs.OneStep.Idle.{idle_stays}
use Rattle.lock_free.proofs.RetiredMore.{seat_retiring_all}
use Rattle.lock_free.proofs.SeatOwing.{seat_owing}
use Rattle.lock_free.proofs.Settled as settled
use Rattle.lock_free.proofs.Waiting.{grown_steps, waited_none}
use Rattle.lock_free.proofs.LinesStay.{LinesStay, going_owes}
use Rattle.lock_free.specs.OwesAt.{owes_at, owes_on}
use Rattle.lock_free.specs.Claims.{HoldsAll}
use Rattle.lock_free.specs.Counts.{how_often}
use Rattle.machine_model.specs.Acting.{operation_after}
use Rattle.lock_free.proofs.LetGoSince.{going_let_go}

module _ (sizes : Sizes) (s : Table.State Call View) (kept : IsKept sizes s) (id : ℕ) (v : View) (at : get_elem? s.views id ≡ some v) (operation : Operation)
    (runs : operation_of (state_of sizes kept.account) v.actor ≡ Some operation) (n : ℕ) (k : Known) (here : Contains kept.account.offers k)
    (settles : Settles sizes kept.account v.actor n operation k)
    (on : k.handle ≡ handle_of operation.call) (stands_yet : fate s.words k ≡ undecided) where
  abbrev now : State
  now = state_of sizes kept.account

  abbrev account_then : Account
  account_then = settled.account_then sizes s kept id v at operation runs n k here settles on stands_yet

  abbrev next : State
  next = state_of sizes account_then

  abbrev words_then : List ℕ
  words_then = settled.words_then sizes s kept id v at operation runs n k here settles on stands_yet

  abbrev view_then : View
  view_then = settled.view_then sizes s kept id v at operation runs n k here settles on stands_yet

  pub same_counts : (c : ℕ) → IsCount sizes c → references words_then c ≡ references s.words c
  same_counts = slot_beside sizes s kept 1 k.slot (omega arith) (kept.roots.blocks k here) (2 * k.slot) (record { low = omega arith; high = omega arith }) n

  -- others' operations keep what they have made, but for their marks; its own has made no more
  pub private_then : TakesNone kept.stands now operation (action_of now operation) → (a : ℕ) (o : Operation) → operation_of next a ≡ Some o → (r : Ref) → Contains o.private r →
      (p : Operation) × (operation_of now a ≡ Some p) × Contains p.private r
  private_then takes a o e r c = elim (cases_eq a v.actor) [
    | inl same ↦
        (let its = same_Some o settles.next (sym e ∙ ap (operation_of next) same ∙ settles.own) in (
          operation,
          ap (operation_of now) same ∙ runs,
          private_fewer kept.stands now operation (action_of now operation) takes r (subst (λ ks. Contains ks r) (ap (λ (x : Operation). x.private) its ∙ settles.keeps) c),
        ))
    | inr differs ↦ was differs (operation_of now a) refl
  ]
    where
      one_step : a ≢ v.actor → HasWaited a kept.account account_then
      one_step differs = settled.waits sizes s kept id v at operation runs n k here settles on stands_yet a kept.account differs (waited_none a kept.account)

      was : a ≢ v.actor → (found : Option Operation) → operation_of now a ≡ found → (p : Operation) × (operation_of now a ≡ Some p) × Contains p.private r
      was differs None idle = absurd (none-some o (sym (idle_stays sizes a kept.account account_then (one_step differs) settles.leaves.bounds idle) ∙ e))
      was differs (Some p) ran =
          let there = still_runs sizes a kept.account account_then (one_step differs) settles.leaves.bounds p ran in
          (p, ran, subst (λ ks. Contains ks r) (ap (λ (x : Operation). x.private) (same_Some o (record p { is_marked = there.0 }) (sym e ∙ there.1))) c)

  -- and owe what they owed; its own owes no more
  lines_settled : TakesNone kept.stands now operation (action_of now operation) → LinesStay sizes kept.account account_then v view_then
  lines_settled takes = record {
    others = λ a differs o e. others_owe a differs o e (operation_of now a) refl;
    own = λ o e k.
        (let old = kept.held.lines id v at operation runs k in
        let less = going_owes sizes kept.account kept.bounds v.actor operation runs (none_made kept.stands now operation (action_of now operation) takes) k in
        let its = ap (λ (x : Operation). how_often k (owes_at x)) (same_Some o settles.next (sym e ∙ settles.own)) in
        let same = ap (λ xs. how_often k (owes_on xs settles.next.line)) settles.keeps ∙ ap (λ l. how_often k (owes_on (operation_after now operation).private l)) settles.line in
        omega (arith, old, less, its, same));
  }
    where
      one_step : (a : ℕ) → a ≢ v.actor → HasWaited a kept.account account_then
      one_step a differs = settled.waits sizes s kept id v at operation runs n k here settles on stands_yet a kept.account differs (waited_none a kept.account)

      others_owe : (a : ℕ) → a ≢ v.actor → (o : Operation) → operation_of next a ≡ Some o → (found : Option Operation) → operation_of now a ≡ found →
          (p : Operation) × (operation_of now a ≡ Some p) × HoldsAll (owes_at o) (owes_at p)
      others_owe a differs o e None idle = absurd (none-some o (sym (idle_stays sizes a kept.account account_then (one_step a differs) settles.leaves.bounds idle) ∙ e))
      others_owe a differs o e (Some p) ran =
          let there = still_runs sizes a kept.account account_then (one_step a differs) settles.leaves.bounds p ran in
          (p, ran, λ k. (let same = ap (λ (x : Operation). how_often k (owes_at x)) (same_Some o (record p { is_marked = there.0 }) (sym e ∙ there.1)) in omega (arith, same)))

  pub held_settled : TakesNone kept.stands now operation (action_of now operation) → AreHeld sizes account_then kept.stands words_then (set s.views id view_then)
  held_settled takes =
      held_step sizes s kept id v at account_then (grown_steps kept.account account_then (step.Go v.actor ∷ []) refl refl) refl refl (alike_slots now next settles.leaves.nodes) settles.leaves.live
      (private_then takes)
      (going_less sizes s kept v.actor operation runs takes account_then refl) (going_let_go sizes s kept v.actor operation runs takes account_then refl)
      view_then refl refl (λ k. omega arith) (lines_settled takes) words_then same_counts

  -- the rule holds
  pub settle_kept : TakesNone kept.stands now operation (action_of now operation) → IsKept sizes (record { words = words_then; homes = s.homes; views = set s.views id view_then })
  settle_kept takes =
      settled.settle_all sizes s kept id v at operation runs n k here settles on stands_yet v.owed v.retired
      (settled.own_then sizes s kept id v at operation runs n k here settles on stands_yet) (held_settled takes)

  -- the same where the seat holds these references then, and has retired these slots
  pub settle_retiring : (owed : List Ref) (xs : List Retired) → ((x : Retired) → Contains xs x → IsRetired sizes account_then kept.stands x) →
      AreHeld sizes account_then kept.stands words_then (set s.views id (retiring_all (owing view_then owed) xs)) →
      IsKept sizes (record { words = words_then; homes = s.homes; views = set s.views id (retiring_all (owing view_then owed) xs) })
  settle_retiring owed xs are is_held =
      settled.settle_all sizes s kept id v at operation runs n k here settles on stands_yet owed (v.retired ++ xs)
      (seat_retiring_all sizes account_then kept.stands words_then (owing view_then owed) xs are
      (seat_owing sizes account_then kept.stands words_then view_then owed (settled.own_then sizes s kept id v at operation runs n k here settles on stands_yet))) is_held
