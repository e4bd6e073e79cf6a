-- The places of each step lead from what the handles show before it to what they show behind it; so all places lead from the
-- first view to the last.
use Rattle.std.proofs.Common.{◌≡◌, ℕ, zero, suc, ◌<◌, ◌≤◌, Bool, true, false, List, filter, Some, refl, sym, ap, ◌∙◌, subst, arith}
use Rattle.std.proofs.lemmas.Bool.{true≢false}
use Rattle.std.proofs.lemmas.Option.{none-some}
use Rattle.proof_order.specs.Vocabulary.{hash_of, KeyMap, Reply, Place, Operation, Bounds, State, IsRun, closed_at, place_of, closing_for, moment_at, entrant_of}
use Rattle.proof_order.specs.Facts.{Facts, Replied, on_writable, on_read_only}
use Rattle.proof_order.specs.Beneath.history.proofs.Among.{Among}
use Rattle.proof_order.proofs.Places.Elements.{no_members, equals}
use Rattle.proof_order.proofs.Places.Sorting.{timing, role, number_below, among_rising}
use Rattle.proof_order.proofs.Views.Replay.{View, Leads, leads_none, leads_all, leads_parts}
use Rattle.proof_order.proofs.Views.Steps.{ClosesNone, Kind, plain, updates, answers, closes, swaps, kind_at}
use Rattle.proof_generations.proofs.Offers.Swaps.{closed_in}
use Rattle.proof_order.proofs.Views.Closed.{closed_from}
use Rattle.proof_order.proofs.Places.Origins.{Why, by_update, by_answer, by_change, origin, place_says, late_says}
use Rattle.proof_order.proofs.Views.Timeline.{view}
use Rattle.proof_order.proofs.Places.Members.{sorted, block, lates, timely, in_lates, sorted_along, block_along, timely_along, step_within, none_changing}
use Rattle.proof_order.proofs.Places.Late.{closing_is, all_lately}
use Rattle.proof_order.proofs.Places.OnTime.{readers_timely, of_changing, none_timely, other_timely, one_timely, still_view, update_by}
use Rattle.proof_order.proofs.Views.Openings.{close_leads, at_last, swap_leads}

module _ {limits : Bounds} {states : ℕ → State} {last : ℕ} (r : IsRun limits states last) (V : ℕ → ℕ → KeyMap) (facts : Facts limits states r.records last V) where
  abbrev LeadsOn : List Place → View → View → Type 0
  LeadsOn ps before after = Leads (hash_of limits.hash) (r.records last).events ps before after

  abbrev at_time : ℕ → View
  at_time t = view limits states last V t

  -- ---- late places belong to swaps

  -- a step that closes nothing closed no generation
  closed_none : (t u generation : ℕ) → u ≤ last → ClosesNone limits states r.records last V t → closed_at (r.records u) generation ≡ Some t → ⊥
  closed_none t u generation le same e =
      let (before, none, some) = closed_from r V facts u generation t le e in
      none-some t (sym none ∙ ap (λ l. closed_in l generation) (sym same) ∙ some)

  late_closing : (u t : ℕ) (operation : Operation) (p : Place) (moment : ℕ) (changed_nothing : Bool) → p ≡ place_of (r.records u) (entrant_of operation) moment changed_nothing →
      p.on_time ≡ false → p.step ≡ t → closing_for (r.records u) operation.generation operation.access ≡ Some t
  late_closing u t operation p moment changed_nothing is is_late at =
      (late_says (closing_for (r.records u) operation.generation operation.access) moment operation.id changed_nothing (ap (λ (q : Place). q.on_time) (sym is) ∙ is_late)).0
      ∙ ap Some (ap (λ (q : Place). q.step) (sym is) ∙ at)

  late_replied : (u t : ℕ) (operation : Operation) (moment : ℕ) → u ≤ last → ClosesNone limits states r.records last V t → closing_for (r.records u) operation.generation operation.access ≡ Some t →
      (answer : Reply) → Replied limits states r.records last V operation moment answer → ⊥
  late_replied u t operation moment le same e answer (on_writable generation writable of rooted none acts) =
      closed_none t u generation le same (sym (closing_is (r.records u) operation generation writable of) ∙ e)
  late_replied u t operation moment le same e answer (on_read_only generation read_only stands acts) = none-some t (ap (closing_for (r.records u) operation.generation) (sym read_only) ∙ e)

  none_late_by : (t u : ℕ) (p : Place) → u < last → ClosesNone limits states r.records last V t → p.on_time ≡ false → p.step ≡ t → Why limits states r.records last V u p → ⊥
  none_late_by t u p within same is_late at (by_update entered update is) =
      closed_none t u update.generation (omega arith) same
      (sym (closing_is (r.records u) update.owner update.generation update.writable update.of_generation) ∙ late_closing u t update.owner p u false is is_late at)
  none_late_by t u p within same is_late at (by_answer k operation answer runs is agrees replied) =
      late_replied u t operation (moment_at (r.records u) (suc k)).moment (omega arith) same (late_closing u t operation p (moment_at (r.records u) (suc k)).moment true is is_late at) answer replied
  none_late_by t u p within same is_late at (by_change id is) = true≢false (sym (ap (λ (q : Place). q.on_time) is) ∙ is_late)

  none_late : (t : ℕ) → ClosesNone limits states r.records last V t → (p : Place) → Among p (lates r.records last t) → ⊥
  none_late t same p a =
      let (place, at, is_late) = in_lates r.records last t p a in
      let o = origin r V facts last (omega arith) p place in
      none_late_by t o.u p o.is_before same is_late at o.why

  lates_none : (t : ℕ) → ClosesNone limits states r.records last V t → LeadsOn (lates r.records last t) (at_time t) (at_time t)
  lates_none t same =
      subst (λ l. LeadsOn l (at_time t) (at_time t)) (sym (no_members (lates r.records last t) (none_late t same)))
      (leads_none (hash_of limits.hash) (r.records last).events (at_time t) (at_time t) (λ handle. refl))

  -- ---- one step

  abbrev Changing : ℕ → List Place
  Changing t = filter (equals role 0) (timely r.records last t)

  -- the late ones, then those that change something, then the readers
  together : (t : ℕ) (middle : View) → t < last → LeadsOn (lates r.records last t) (at_time t) middle → LeadsOn (Changing t) middle (at_time (suc t)) →
      LeadsOn (block r.records last t) (at_time t) (at_time (suc t))
  together t middle lt first second =
      leads_parts (hash_of limits.hash) (r.records last).events timing (block r.records last t) (block_along r.records last t) (λ p. number_below p.on_time) (at_time t) middle (at_time (suc t))
      first
      (leads_parts (hash_of limits.hash) (r.records last).events role (timely r.records last t) (timely_along r V facts t) (λ p. number_below p.changed_nothing)
      middle (at_time (suc t)) (at_time (suc t)) second (readers_timely r V facts t lt))

  block_by : (t : ℕ) → t < last → Kind limits states r.records last V t → LeadsOn (block r.records last t) (at_time t) (at_time (suc t))
  block_by t lt (plain places closings kept still) =
      together t (at_time t) lt (lates_none t closings) (none_timely r V facts t
      (λ p a. let (place, on, moment, e) = of_changing r V facts t p a in none_changing r V facts t places p place e moment)
      (still_view r V facts t kept still))
  block_by t lt (updates entered update places closings kept) =
      together t (at_time t) lt (lates_none t closings) (update_by r V facts t lt entered update places kept _ refl)
  block_by t lt (answers k operation answer runs places unplaced agrees replied closings kept still) =
      together t (at_time t) lt (lates_none t closings) (none_timely r V facts t
      (other_timely r V facts t _ places
      (λ on e. true≢false (sym (place_says (closing_for (r.records t) operation.generation operation.access) (moment_at (r.records t) (suc k)).moment operation.id true).1 ∙ e)))
      (still_view r V facts t kept still))
  block_by t lt (closes handle stood places recalls more at gone others closings still) =
      together t (at_time t) lt (lates_none t closings)
      (subst (λ l. LeadsOn l (at_time t) (at_time (suc t))) (sym (one_timely r V facts t _ lt places refl refl refl))
      (close_leads r V facts t handle stood recalls at gone others still))
  block_by t lt (swaps handle offer swap places closings roots heap still) =
      let middle = at_last r V facts t handle lt offer swap roots heap still in
      together t middle lt (all_lately r V facts t lt handle offer swap closings still)
      (subst (λ l. LeadsOn l middle (at_time (suc t))) (sym (one_timely r V facts t _ lt places refl refl refl))
      (swap_leads r V facts t handle lt offer swap roots heap still))

  pub block_leads : (t : ℕ) → t < last → LeadsOn (block r.records last t) (at_time t) (at_time (suc t))
  block_leads t lt = block_by t lt (kind_at r V facts t lt)

  -- ---- all steps

  -- the order leads from the first view to the last
  pub order_leads : LeadsOn (sorted r.records last) (at_time zero) (at_time last)
  order_leads =
      leads_all (hash_of limits.hash) (r.records last).events (λ p. p.step) (sorted r.records last) (sorted_along r.records last) at_time last
      (λ p a. step_within r V facts p (among_rising (r.records last).places p a)) block_leads
