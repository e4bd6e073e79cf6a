-- Whose offer a step carries out.
use Rattle.std.proofs.Common.{arith, ◌≡◌, inl, inr, ℕ, suc, ◌-◌, ◌<◌, Bool, true, false, length, Some, None, refl, sym, ap, subst, ◌∙◌}
use Rattle.std.specs.Prelude.{option_map, slice_get, slice_index_or, if◌then◌else◌}
use Rattle.std.proofs.lemmas.Bool.{false≢true}
use Rattle.std.proofs.lemmas.Option.{none-some, same_Some}
use Rattle.history.proofs.Places.{at_set_cases}
use Rattle.machine_core.specs.Vocabulary.{Ref, Action, Operation, Descriptor, RootWord, Plain, Offer, run, State, operation_of, word_at, is_carried_out, word_in, Taken, carried_offer, IsOfRun}
use Rattle.machine_model.specs.declared.actions.Action.TheVariants as act
use Rattle.machine_core.specs.Beneath.proof_generations.proofs.Roots.OfLists.{has_handles_along}
use Rattle.machine_core.specs.Beneath.proof_generations.proofs.Offers.Standing.{own_numbers}
use Rattle.running.proofs.Offers.{unmarked}
use Rattle.machine_core.specs.declared.parts.Actor.{Actor}
use Rattle.machine_core.specs.declared.parts.Parts.{Parts}
use Rattle.machine_core.specs.declared.parts.UnderWay.{UnderWay}
use Rattle.machine_core.specs.Keeping.{IsKept}
use Rattle.machine_core.specs.Seen.{operation_at, seen}
use Rattle.proof_core.proofs.Given.{sizes}
use Rattle.machine_core.proofs.Kept.{operation_there, operation_under_way}
use Rattle.machine_core.proofs.Gone.{KnowsOffered, handle_is, number_is}
use Rattle.machine_core.proofs.Tied.{operation_stands}
use Rattle.machine_core.proofs.Took.{Took}

-- ---- an offer that is carried out

-- the action carries this offer out, which another with its number stands for in the root word
pub record Carries (word : RootWord) (action : Action) (offer : Descriptor) : Type 0 where
  pub main : Ref
  pub is : action ≡ act.Complete offer main
  pub other : Descriptor
  pub stands : word ≡ Offer other
  pub same : other.operation ≡ offer.operation

stood_by : (word : RootWord) (offer : Descriptor) (main : Ref) → is_carried_out word offer main ≡ true → (other : Descriptor) × (word ≡ Offer other) × (other.operation ≡ offer.operation)
stood_by (Plain root) offer main carried = absurd (false≢true carried)
stood_by (Offer other) offer main carried = (other, refl, grind (arith, carried))

pub carries : (word : RootWord) (action : Action) (offer : Descriptor) → carried_offer word action ≡ Some offer → Carries word action offer
carries word (act.Complete own main) offer e = by (is_carried_out word own main) refl e
  where
    by : (b : Bool) → is_carried_out word own main ≡ b → (if b then Some own else None) ≡ Some offer → Carries word (act.Complete own main) offer
    by false is none = absurd (none-some offer none)
    by true is some =
        let same : own ≡ offer = same_Some own offer some in
        let found = stood_by word own main is in
        record {
          main = main;
          is = ap (λ o. act.Complete o main) same;
          other = found.0;
          stands = found.1;
          same = found.2 ∙ ap (λ (o : Descriptor). o.operation) same;
        }
carries word action offer e = absurd (grind (arith, e))

-- ---- who made it

-- while an offer stands who made it runs
offerer_runs : (state : State) → IsOfRun state → (handle : ℕ) (offer : Descriptor) → word_at state handle ≡ Offer offer →
    (k : ℕ) × (o : Operation) × (operation_of state (suc k) ≡ Some o) × (o.id ≡ offer.operation)
offerer_runs state h handle offer stands =
    subst (λ (s : State). word_at s handle ≡ Offer offer → (k : ℕ) × (o : Operation) × (operation_of s (suc k) ≡ Some o) × (o.id ≡ offer.operation)) (sym h.is) along stands
  where
    along : word_at (run state.limits h.steps) handle ≡ Offer offer →
        (k : ℕ) × (o : Operation) × (operation_of (run state.limits h.steps) (suc k) ≡ Some o) × (o.id ≡ offer.operation)
    along word =
        let I = (has_handles_along state.limits h.steps).0 in
        let b = I.offers handle offer word in
        (b.k, b.owner, b.runs, sym (own_numbers b.owner offer (I.own b.k b.owner b.runs) b.completes).its)

module _ (before : Parts) (actor : ℕ) (u : UnderWay) (taken : Taken) (now : Parts) (t : Took before actor u taken now) (run : IsOfRun (seen before)) (kept : IsKept before) where
  -- whoever runs made the offer or has another number
  made_by : (handle : ℕ) (other : Descriptor) (id : ℕ) → word_in before.table handle ≡ Offer other → other.operation ≡ id → (n : ℕ) (o : Operation) → operation_of (seen before) n ≡ Some o →
      (o.id ≡ id → slice_index_or before.table.offerers handle 0 ≡ n) × (slice_index_or before.table.offerers handle 0 ≡ n → o.id ≡ id)
  made_by handle other id stands same n o runs =
      let who = offerer_runs (seen before) run handle other stands in
      let offerer : slice_index_or before.table.offerers handle 0 ≡ suc who.0 = kept.offerers handle other stands (suc who.0) who.1 who.2 who.3 in (
        λ e. kept.offerers handle other stands n o runs (e ∙ sym same),
        λ e.
            let here : operation_of (seen before) n ≡ Some who.1 = ap (operation_of (seen before)) (sym e ∙ offerer) ∙ who.2 in
            ap (λ (x : Operation). x.id) (same_Some o who.1 (sym runs ∙ here)) ∙ who.3 ∙ same,
      )

  pub knows_offered : KnowsOffered before actor u taken now t run kept
  knows_offered offer e =
      let own : Operation = operation_at before.table t.seat.found.programs u in
      let c = carries _ _ offer e in
      let handle = handle_is before actor u taken now t run kept in
      let stands : word_in before.table u.job.handle ≡ Offer c.other = ap (word_in before.table) (sym handle) ∙ c.stands in
      let number = number_is before actor u taken now t run kept in
      let who = offerer_runs (seen before) run u.job.handle c.other stands in
      let offerer : slice_index_or before.table.offerers u.job.handle 0 ≡ suc who.0 = kept.offerers u.job.handle c.other stands (suc who.0) who.1 who.2 who.3 in
      let within = (operation_stands (seen before) (suc who.0) who.1 who.2).within in
      let runs_own = operation_there before actor u t.seat in (
        subst (λ (a : Action). slice_index_or before.table.offerers u.job.handle 0 < length (unmarked before.table.marks u.job.actor a)) (sym c.is)
            (omega (arith, offerer, within, (sizes (seen before) run).1, kept.noted.marks)),
        λ i x v at runs. elim (at_set_cases before.actors.items (actor - 1) i (record { programs = t.programs; under_way = Some u }) x at) [
          | inl here ↦
              let same : v ≡ u = same_Some v u (sym runs ∙ ap (λ (a : Actor). a.under_way) (sym here.1)) in
              let job : v.job ≡ u.job = ap (λ (w : UnderWay). w.job) same in
              let both = made_by u.job.handle c.other offer.operation stands c.same actor own runs_own in (
                λ e'. both.0 (ap (λ j. j.id) (sym job) ∙ e') ∙ sym number ∙ ap (λ j. j.actor) (sym job),
                λ e'. ap (λ j. j.id) job ∙ both.1 (e' ∙ ap (λ j. j.actor) job ∙ number),
              )
          | inr apart ↦
              let seat = (kept.seats i x apart.1).number v runs in
              let there = operation_under_way before (suc i) x (omega arith)
              (ap (slice_get before.actors.items) (let less : suc i - 1 ≡ i = omega arith in less) ∙ apart.1) ∙ ap (option_map (operation_at before.table x.programs)) runs in
              let both = made_by u.job.handle c.other offer.operation stands c.same (suc i) (operation_at before.table x.programs v) there in
              (λ e'. both.0 e' ∙ omega (arith, seat), λ e'. both.1 (e' ∙ omega (arith, seat)))
        ],
      )
