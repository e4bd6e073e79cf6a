-- The places on time of one step lead from what the handles show before it to what they show behind it.
use Rattle.std.proofs.Common.{◌≡◌, ℕ, suc, ◌<◌, Bool, true, false, inl, inr, List, [], ◌∷◌, filter, Option, Some, sym, ap, ◌∙◌, subst, arith}
use native.Mathlib.Decide.{ℕ_discrete}
use Rattle.std.proofs.lemmas.Bool.{true≢false}
use Rattle.std.proofs.lemmas.Option.{none-some}
use Rattle.proof_order.specs.Vocabulary.{hash_of, KeyMap, Writable, ReadOnly, Place, Bounds, handle_of, State, IsRun, closed_at, place_of, closing_for, entrant_of}
use Rattle.proof_order.specs.Beneath.proof_contents.specs.Effects.{act_in}
use Rattle.proof_order.specs.Facts.{standing, On, IsRooted, Facts, Update, Replied, on_writable, on_read_only}
use Rattle.proof_order.specs.Beneath.history.proofs.Among.{Among, filter_among}
use Rattle.proof_order.proofs.Places.Elements.{no_members, each_of, equals}
use Rattle.proof_order.proofs.Places.Sorting.{role, only_one}
use Rattle.proof_order.proofs.Views.Replay.{View, but, Leads, leads_none, leads_same, leads_each}
use Rattle.proof_order.proofs.Views.Acts.{named}
use Rattle.proof_order.proofs.Views.Steps.{Enters, KeepsAll, IsStill}
use Rattle.proof_generations.proofs.Offers.Swaps.{closed_in}
use Rattle.proof_generations.proofs.Falling.Opened.{closed_until}
use Rattle.proof_order.proofs.Views.Closed.{closed_from}
use Rattle.proof_order.proofs.Views.Sound.{sound_at}
use Rattle.proof_order.proofs.Places.Origins.{place_says, on_time_says, late_says}
use Rattle.proof_order.proofs.Views.Timeline.{view, view_writable, view_read_only, view_stays, but_here, but_there, update_leads, reader_leads}
use Rattle.proof_order.proofs.Places.Members.{timely, IsPlace, in_timely, to_timely, in_changing, to_changing, in_reading, one_changing, Reading, reading, timely_apart, on_time_moment}
use Rattle.proof_order.proofs.Places.Late.{closing_is, entered_place}

module _ {limits : Bounds} {states : ℕ → State} {last : ℕ} (r : IsRun limits states last) (V : ℕ → ℕ → KeyMap) (facts : Facts limits states r.records last V) where
  abbrev pub LeadsOn : List Place → View → View → Type 0
  LeadsOn ps before after = Leads (hash_of limits.hash) (r.records last).events ps before after

  abbrev pub at_time : ℕ → View
  at_time t = view limits states last V t

  -- ---- who changes nothing

  module _ (t : ℕ) (lt : t < last) (p : Place) (at : p.step ≡ t) (on : p.on_time ≡ true) (moment : p.moment ≡ t) (reads : Reading r V facts p) where
    abbrev Reads : Type 0
    Reads = LeadsOn (p ∷ []) (at_time (suc t)) (at_time (suc t))

    reader_by : Replied limits states r.records last V reads.operation reads.moment reads.answer → Reads
    reader_by (on_writable generation writable of rooted none acts) =
        let u = reads.u in
        let m : reads.moment ≡ t = sym reads.is_moment ∙ moment in
        let past = reads.past in
        let within = reads.within in
        let closing = closing_for (r.records u) reads.operation.generation reads.operation.access in
        let is_closing = closing_is (r.records u) reads.operation generation writable of in
        let not_early = (on_time_says closing reads.moment reads.operation.id true (ap (λ (q : Place). q.on_time) (sym reads.is_its) ∙ on)).1 in
        let rooted_t = subst (λ x. IsRooted states r.records (suc x) (handle_of reads.operation.call) generation) m rooted in
        let none_t : (r.records (suc t)).closings ≡ (r.records t).closings = subst (λ x. (r.records (suc x)).closings ≡ (r.records x).closings) m none in
        let its_on : On states (suc t) (handle_of reads.operation.call) generation = elim rooted_t [
          | inl stands ↦ stands
          | inr was ↦
              let (c, before, closed, stood) = was in
              let closed_u = closed_until r (suc t) u (omega arith) (omega arith) generation c closed in
              let late_enough = not_early c (is_closing ∙ closed_u) in
              let now : c ≡ t = omega arith in
              let from = closed_from r V facts (suc t) generation c lt closed in
              absurd (none-some c (sym from.1 ∙ ap (λ x. closed_at (r.records x) generation) now ∙ ap (λ l. closed_in l generation) (sym none_t) ∙ closed))
        ] in
        reader_leads r V u reads.k reads.operation reads.moment reads.answer p Writable (V generation (suc t)) (at_time (suc t)) (omega arith) reads.runs reads.is_its reads.agrees
        (view_writable limits states last V (suc t) (handle_of reads.operation.call) generation its_on)
        (subst (λ x. act_in (hash_of limits.hash) Writable reads.operation.call (V generation (suc x)) ≡ Some (reads.answer, V generation (suc x))) m acts)
    reader_by (on_read_only generation read_only stands acts) =
        let m : reads.moment ≡ t = sym reads.is_moment ∙ moment in
        let within = reads.within in
        reader_leads r V reads.u reads.k reads.operation reads.moment reads.answer p ReadOnly (V generation last) (at_time (suc t))
        (omega arith) reads.runs reads.is_its reads.agrees
        (view_read_only limits states last V (suc t) (handle_of reads.operation.call) generation
        (subst (λ x. standing (states (suc x)) (handle_of reads.operation.call) ≡ Some (ReadOnly, generation)) m stands))
        acts

    reader_timely : Reads
    reader_timely = reader_by reads.replied

  pub readers_timely : (t : ℕ) → t < last → LeadsOn (filter (equals role 1) (timely r.records last t)) (at_time (suc t)) (at_time (suc t))
  readers_timely t lt =
      leads_each (hash_of limits.hash) (r.records last).events _ (at_time (suc t)) (each_of _ _ (λ p a.
      let (within, e) = in_reading r.records last (timely r.records last t) p a in
      let (place, at, on) = in_timely r.records last t p within in
      reader_timely t lt p at on (sym (on_time_moment r V facts p place on) ∙ at) (reading r V facts p place e)))

  -- ---- who changes something

  abbrev pub Changing : ℕ → List Place
  Changing t = filter (equals role 0) (timely r.records last t)

  pub of_changing : (t : ℕ) (p : Place) → Among p (Changing t) → IsPlace r.records last p × (p.on_time ≡ true) × (p.moment ≡ t) × (p.changed_nothing ≡ false)
  of_changing t p a =
      let (within, e) = in_changing r.records last (timely r.records last t) p a in
      let (place, at, on) = in_timely r.records last t p within in
      (place, on, sym (on_time_moment r V facts p place on) ∙ at, e)

  -- where there is none, and nothing else changes
  pub none_timely : (t : ℕ) → ((p : Place) → Among p (Changing t) → ⊥) → ((handle : ℕ) → at_time t handle ≡ at_time (suc t) handle) → LeadsOn (Changing t) (at_time t) (at_time (suc t))
  none_timely t none same =
      subst (λ l. LeadsOn l (at_time t) (at_time (suc t))) (sym (no_members (Changing t) none)) (leads_none (hash_of limits.hash) (r.records last).events (at_time t) (at_time (suc t)) same)

  pub other_timely : (t : ℕ) (new : Place) → Enters limits states r.records last V t new → (new.on_time ≡ true → new.changed_nothing ≡ false → ⊥) → (p : Place) → Among p (Changing t) → ⊥
  other_timely t new enters is_not p a =
      let (place, on, moment, e) = of_changing t p a in
      let same = one_changing r V facts t new enters p place e moment in
      is_not (ap (λ (q : Place). q.on_time) (sym same) ∙ on) (ap (λ (q : Place). q.changed_nothing) (sym same) ∙ e)

  -- where there is one
  pub one_timely : (t : ℕ) (new : Place) → t < last → Enters limits states r.records last V t new → new.step ≡ t → new.on_time ≡ true → new.changed_nothing ≡ false → Changing t ≡ new ∷ []
  one_timely t new lt enters at on e =
      let place = entered_place r V facts t new lt enters in
      let within = to_timely r.records last t new place at on in
      only_one (equals role 0) (timely r.records last t) new (timely_apart r V facts t) within (to_changing r.records last (timely r.records last t) new within e)
      (λ p a passes.
      let (is_place, its_on, moment, changed) = of_changing t p (filter_among (equals role 0) (timely r.records last t) p a passes) in
      one_changing r V facts t new enters p is_place changed moment)

  -- where the standing and the contents stay the views are the same
  pub still_view : (t : ℕ) → KeepsAll limits states r.records last V t → IsStill limits states r.records last V t → (handle : ℕ) → at_time t handle ≡ at_time (suc t) handle
  still_view t kept still handle = view_stays limits states last V t handle (kept handle) (λ generation on. still generation (t, handle, omega arith, on))

  -- ---- an own update on time

  module _ (t : ℕ) (lt : t < last) (entered : List Place) (update : Update limits states r.records last V t entered)
      (enters : Enters limits states r.records last V t (place_of (r.records t) (entrant_of update.owner) t false)) (kept : KeepsAll limits states r.records last V t) where
    abbrev pub its : Place
    its = place_of (r.records t) (entrant_of update.owner) t false

    abbrev its_closing : Option ℕ
    its_closing = closing_for (r.records t) update.owner.generation update.owner.access

    closing_at : its_closing ≡ closed_at (r.records t) update.generation
    closing_at = closing_is (r.records t) update.owner update.generation update.writable update.of_generation

    -- another handle shows the same behind it
    others_stay : (other : ℕ) → ((generation : ℕ) → On states t other generation → generation ≡ update.generation → ⊥) → at_time t other ≡ at_time (suc t) other
    others_stay other apart = view_stays limits states last V t other (kept other) (λ generation on. update.still generation (t, other, omega arith, on) (apart generation on))

    late_update : its.on_time ≡ false → LeadsOn (Changing t) (at_time t) (at_time (suc t))
    late_update is_late =
        let closed = sym closing_at ∙ (late_says its_closing t update.owner.id false is_late).0 in
        none_timely t (other_timely t its enters (λ on e. true≢false (sym on ∙ is_late)))
        (λ handle. others_stay handle (λ generation on same.
        none-some its.step (sym ((sound_at r V facts t (omega arith)).unclosed handle generation on) ∙ ap (closed_at (r.records t)) same ∙ closed)))

    timely_update : its.on_time ≡ true → LeadsOn (Changing t) (at_time t) (at_time (suc t))
    timely_update on =
        let says = on_time_says its_closing t update.owner.id false on in
        let handle : ℕ = handle_of update.owner.call in
        let stands : On states t handle update.generation = elim update.rooted [
          | inl now ↦ now
          | inr was ↦
              let (c, before, closed, stood) = was in
              let late_enough = says.1 c (closing_at ∙ closed) in
              absurd (omega arith)
        ] in
        let only = one_timely t its lt enters says.0 on (place_says its_closing t update.owner.id false).1 in
        let leads = update_leads r V t lt entered update (at_time t) (view_writable limits states last V t handle update.generation stands) in
        subst (λ l. LeadsOn l (at_time t) (at_time (suc t))) (sym only)
        (leads_same (hash_of limits.hash) (r.records last).events (its ∷ []) (at_time t) _ (at_time (suc t)) leads (λ other. behind handle stands other (ℕ_discrete other handle)))
      where
        behind : (handle : ℕ) → On states t handle update.generation → (other : ℕ) → Dec (other ≡ handle) →
            but (at_time t) handle (Some (named Writable (V update.generation (suc t)))) other ≡ at_time (suc t) other
        behind handle stands other (yes here) =
            ap (but (at_time t) handle (Some (named Writable (V update.generation (suc t))))) here
            ∙ but_here (at_time t) handle (Some (named Writable (V update.generation (suc t))))
            ∙ sym (view_writable limits states last V (suc t) handle update.generation (kept handle ∙ stands)) ∙ ap (at_time (suc t)) (sym here)
        behind handle stands other (no there) =
            but_there (at_time t) handle (Some (named Writable (V update.generation (suc t)))) other there
            ∙ others_stay other
            (λ generation on same. there ((sound_at r V facts t (omega arith)).apart other handle generation on (subst (λ g. On states t handle g) (sym same) stands)))

    pub update_by : (b : Bool) → its.on_time ≡ b → LeadsOn (Changing t) (at_time t) (at_time (suc t))
    update_by true on = timely_update on
    update_by false is_late = late_update is_late
