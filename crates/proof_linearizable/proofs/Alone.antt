-- An operation that runs alone from rest enters the order last, or not at all where it is refused for want of slots.
use Rattle.std.specs.Prelude.{◌≡◌, ◌≢◌, ◌<◌, ◌≤◌, ◌⊎◌, ℕ, suc, List, ◌∷◌, ◌++◌, Option, Some, Contains, [], length}
use Rattle.std.proofs.Common.{zero, refl, sym, ap, subst, arith, ◌∙◌, inl, inr, append-nil}
use Rattle.std.proofs.lemmas.Bool.{cases_lt}
use Rattle.std.proofs.lemmas.List.{length-append}
use Rattle.proof_linearizable.specs.Beneath.ctrie_base.specs.Hashes.{hash_of}
use Rattle.proof_linearizable.specs.Beneath.history.specs.declared.calls.Call.{Call}
use Rattle.proof_linearizable.specs.Beneath.history.specs.declared.events.Event.TheVariants.{Begin, End}
use Rattle.proof_linearizable.specs.Beneath.history.specs.declared.replies.Reply.{Reply}
use Rattle.proof_linearizable.specs.Beneath.history.specs.declared.replies.Reply.TheVariants as reply
use Rattle.proof_linearizable.specs.Beneath.history.specs.Worlds.{HandleMap, KeyMap}
use Rattle.proof_linearizable.specs.Beneath.history.specs.Histories.{HasBegun, HasEnded, IsWellFormed}
use Rattle.proof_linearizable.specs.Beneath.history.specs.Orders.{OrderedAt, Explains}
use Rattle.proof_linearizable.specs.Beneath.places.specs.declared.place.Place.{Place}
use Rattle.proof_linearizable.specs.Beneath.places.specs.Places.{rising, ids_by_place}
use Rattle.proof_linearizable.specs.Beneath.machine_model.specs.declared.steps.Bounds.{Bounds}
use Rattle.proof_linearizable.specs.Beneath.machine_model.specs.declared.steps.Step.{Step}
use Rattle.proof_linearizable.specs.Beneath.machine_model.specs.States.{State, first_state}
use Rattle.proof_linearizable.specs.Beneath.machine_model.specs.Machine.{AreBounds, run, taken_steps, taken_from, next_state}
use Rattle.proof_linearizable.specs.Beneath.machine_model.proofs.Times.{run_is, records_from-zero}
use Rattle.proof_linearizable.specs.Beneath.machine_model.specs.Times.{states_of, last_of, records_of, records_from}
use Rattle.proof_linearizable.specs.Beneath.proof_order.specs.Facts.{Facts}
use Rattle.proof_linearizable.specs.Beneath.proof_order.specs.Laws.Orders.{IsExplained, ShowsContents}
use Rattle.proof_linearizable.specs.Beneath.history.proofs.Among.{Among, among_right}
use Rattle.proof_linearizable.specs.Beneath.proof_order.proofs.Places.Elements.{of_each, get_among, among_get, among_map, among_mapped, contains_among}
use Rattle.proof_linearizable.specs.Beneath.proof_order.proofs.Places.Sorting.{AreApart, among_rising, rising_among}
use Rattle.proof_linearizable.specs.Beneath.proof_order.proofs.History.Growing.{Grows, holds_later, events_grow, get_grown}
use Rattle.proof_linearizable.specs.Beneath.proof_order.proofs.Views.Unconditional.{books_of, stay}
use Rattle.proof_linearizable.specs.Beneath.proof_order.proofs.History.HaveBegun.{placed_begun}
use Rattle.proof_linearizable.specs.Beneath.proof_order.proofs.History.AllBooks.{books_at}
use Rattle.proof_linearizable.specs.Beneath.proof_order.proofs.Places.Origins.{apart_at}
use Rattle.proof_linearizable.specs.Beneath.proof_order.proofs.Places.Members.{step_within}
use Rattle.proof_linearizable.specs.Beneath.proof_shape.proofs.Sites.Fixed.{taken-append}
use Rattle.proof_linearizable.specs.Laws.{RanAlone, Does, refused as does_nothing, acts as does_act}
use Rattle.proof_linearizable.proofs.AtRest.{all_ended}
use Rattle.proof_linearizable.proofs.SortedLast.{ids_last}
use Rattle.proof_linearizable.proofs.Telling.{another, begun_back, ends_here, acts_last, same_world}
use Rattle.proof_linearizable.specs.Beneath.machine_model.specs.Records.{order_of, record_of, Record, first_record, next_record}
use Rattle.proof_linearizable.specs.Beneath.machine_model.proofs.Recorded.{KeptByNotes, record_ends}

-- more steps go on from those before
longer : (limits : Bounds) (xs ys : List Step) → last_of limits xs ≤ last_of limits (xs ++ ys)
longer limits xs ys =
    let e = ap length (taken-append (first_state limits) xs ys) ∙ length-append (taken_steps limits xs) (taken_from (run limits xs) ys) in omega (arith, e)

-- what is recorded before step t of some steps isn't changed by more steps
records_from-append : (state : State) (past : Record) (xs ys : List Step) (t : ℕ) → t ≤ length xs → records_from state past (xs ++ ys) t ≡ records_from state past xs t
unfolding records_from
records_from-append state past [] ys zero h = records_from-zero state past ys
records_from-append state past [] ys (suc t) h = absurd (omega (arith, h))
records_from-append state past (x ∷ xs) ys zero h = refl
records_from-append state past (x ∷ xs) ys (suc t) h = records_from-append (next_state state x) (next_record state past x) xs ys t (omega (arith, h))

records_in_front : (limits : Bounds) (xs ys : List Step) → records_of limits (xs ++ ys) (last_of limits xs) ≡ records_of limits xs (last_of limits xs)
records_in_front limits xs ys =
    ap (λ l. records_from (first_state limits) (first_record limits) l (last_of limits xs)) (taken-append (first_state limits) xs ys)
    ∙ records_from-append (first_state limits) (first_record limits) (taken_steps limits xs) (taken_from (run limits xs) ys) (last_of limits xs) (omega arith)

-- a reply tells want of slots, or it doesn't
no_slots : (r : Reply) → (r ≡ reply.NoSlots) ⊎ (r ≢ reply.NoSlots)
no_slots reply.NoSlots = inl refl
no_slots (reply.Found value) = inr (λ e. cc e)
no_slots (reply.Truth truth) = inr (λ e. cc e)
no_slots reply.Crowded = inr (λ e. cc e)
no_slots (reply.Opened handle) = inr (λ e. cc e)
no_slots reply.Closed = inr (λ e. cc e)
no_slots reply.Cleared = inr (λ e. cc e)
no_slots (reply.Pairs pairs) = inr (λ e. cc e)
no_slots (reply.Count n) = inr (λ e. cc e)

-- an id in the order is that of a place
placed_of : (ps : List Place) (i id : ℕ) → OrderedAt (ids_by_place ps) i id → (p : Place) × Among p ps × (p.id ≡ id)
unfolding ids_by_place
placed_of ps i id at =
    let (p, within, same) = among_mapped (λ (q : Place). q.id) (rising ps) id (among_get (ids_by_place ps) i id at) in
    (p, among_rising ps p within, same)

ordered_of : (ps : List Place) (p : Place) → Among p ps → (i : ℕ) × OrderedAt (ids_by_place ps) i p.id
unfolding ids_by_place
ordered_of ps p within = get_among (ids_by_place ps) p.id (among_map (λ (q : Place). q.id) (rising ps) p (rising_among ps p within))

-- of places apart those behind are of other operations
apart_behind : (xs ys : List Place) (p q : Place) → AreApart (xs ++ ys) → Among p xs → Among q ys → p.id ≡ q.id → ⊥
apart_behind (x ∷ xs) ys p q apart (inl is) b e = of_each (λ r. x.id ≡ r.id → ⊥) (xs ++ ys) apart.0 q (among_right xs ys q b) (ap (λ (y : Place). y.id) (sym is) ∙ e)
apart_behind (x ∷ xs) ys p q apart (inr a) b e = apart_behind xs ys p q apart.1 a b e
apart_behind [] ys p q apart a b e = absurd a

apart_right : (xs ys : List Place) → AreApart (xs ++ ys) → AreApart ys
apart_right [] ys apart = apart
apart_right (x ∷ xs) ys apart = apart_right xs ys apart.1

-- places apart, all of one operation, are one at most
one_at_most : (id : ℕ) (ps : List Place) → AreApart ps → ((p : Place) → Among p ps → p.id ≡ id) → (ps ≡ []) ⊎ ((p : Place) × (ps ≡ p ∷ []) × (p.id ≡ id))
one_at_most id [] apart all = inl refl
one_at_most id (p ∷ []) apart all = inr (p, refl, all p (inl refl))
one_at_most id (p ∷ q ∷ more) apart all = absurd (apart.0.0 (all p (inl refl) ∙ sym (all q (inr (inl refl)))))

begun_kept : (id : ℕ) → KeptByNotes (λ state past. HasBegun past.events id)
begun_kept id state past s o after m (place, told, at) = (place, told, get_grown past.events _ place (Begin id told.actor told.call told.opens) (events_grow state past s o after m) at)

module _ (limits : Bounds) (steps more : List Step) (ok : AreBounds limits) (id actor : ℕ) (call : Call) (opens : Option ℕ) (answer : Reply)
    (alone : RanAlone (run limits steps) (record_of limits steps) (record_of limits (steps ++ more)) id actor call opens answer)
    (V0 : ℕ → ℕ → KeyMap) (facts0 : Facts limits (states_of limits steps) (records_of limits steps) (last_of limits steps) V0)
    (V1 : ℕ → ℕ → KeyMap) (facts1 : Facts limits (states_of limits (steps ++ more)) (records_of limits (steps ++ more)) (last_of limits (steps ++ more)) V1)
    (old : IsExplained limits (run limits steps) (record_of limits steps)) (new : IsExplained limits (run limits (steps ++ more)) (record_of limits (steps ++ more))) where
  abbrev before : Record
  before = record_of limits steps

  abbrev after : Record
  after = record_of limits (steps ++ more)

  well : IsWellFormed (before.events ++ Begin id actor call opens ∷ End id answer ∷ [])
  well = subst IsWellFormed alone.told new.1.well_formed

  grown : Grows before.places after.places
  grown = stay limits steps more

  apart : AreApart (before.places ++ grown.0)
  apart = subst AreApart (ap (λ (s : Record). s.places) (record_ends limits (steps ++ more)) ∙ grown.1)
      (apart_at (run_is limits (steps ++ more) ok) V1 facts1 (last_of limits (steps ++ more)) (omega arith))

  -- a new place is of this operation
  new_begun : (p : Place) → Among p grown.0 → HasBegun before.events p.id → ⊥
  new_begun p a begun =
      let (told, ended) = all_ended (run limits steps) before (books_of limits steps) alone.rest p.id begun in
      let later : HasEnded after.events p.id told = (ended.0, get_grown before.events after.events ended.0 (End p.id told) (_, alone.told) ended.1) in
      let (i, at) = ordered_of after.places p (subst (Among p) (sym grown.1) (among_right before.places grown.0 p a)) in
      let answered : told ≢ reply.NoSlots = λ e. new.1.candidate.not_refused i p.id at (subst (HasEnded after.events p.id) e later) in
      let (j, stood) = old.1.candidate.answered p.id told ended answered in
      let (q, b, same) = placed_of before.places j p.id stood in
      apart_behind before.places grown.0 q p apart b a same

  new_id : (p : Place) → Among p grown.0 → p.id ≡ id
  new_id p a =
      let begun = placed_begun limits (steps ++ more) p (subst (Among p) (sym grown.1) (among_right before.places grown.0 p a)) in
      elim (begun_back before.events id actor call opens answer well p.id (subst (λ h. HasBegun h p.id) alone.told begun)) [
        | inl had ↦ absurd (new_begun p a had)
        | inr is ↦ is
      ]

  -- it was entered behind the others
  first_late : (p : Place) → Among p grown.0 → last_of limits steps ≤ p.step
  first_late p a = elim (cases_lt p.step (last_of limits steps)) [ inl low ↦ absurd (too_early low) | inr high ↦ high ]
    where
      too_early : p.step < last_of limits steps → ⊥
      too_early low =
          let all = states_of limits (steps ++ more) in
          let told_all = records_of limits (steps ++ more) in
          let within = longer limits steps more in
          let contained : Contains (told_all (last_of limits (steps ++ more))).places p =
          contains_among _ p (subst (λ (s : Record). Among p s.places) (sym (record_ends limits (steps ++ more))) (subst (Among p) (sym grown.1) (among_right before.places grown.0 p a))) in
          let (k, operation, runs, same) = facts1.runs_behind p contained in
          let told = (books_at (run_is limits (steps ++ more) ok) (suc p.step) (omega (arith, low, within))).told k operation runs in
          let begun : HasBegun (told_all (suc p.step)).events p.id =
          subst (HasBegun (told_all (suc p.step)).events) same (told.place, record { actor = suc k; call = operation.call; opens = operation.opens }, told.begins) in
          let at_rest = holds_later (run_is limits (steps ++ more) ok) (λ s past. HasBegun past.events p.id) (begun_kept p.id)
          (suc p.step) (last_of limits steps) (omega (arith, low)) (omega (arith, within)) begun in
          new_begun p a (subst (λ (s : Record). HasBegun s.events p.id) (records_in_front limits steps more ∙ record_ends limits steps) at_rest)

  old_early : (p : Place) → Among p before.places → p.step < last_of limits steps
  old_early p a =
      step_within (run_is limits steps ok) V0 facts0 p (subst (λ (s : Record). Among p s.places) (sym (record_ends limits steps)) a)

  -- its own place, if it has one, is the last
  abbrev Enters : Type 0
  Enters = (grown.0 ≡ []) ⊎ ((p : Place) × (grown.0 ≡ p ∷ []) × (p.id ≡ id))

  enters : Enters
  enters = one_at_most id grown.0 (apart_right before.places grown.0 apart) new_id

  order_with : (p : Place) → grown.0 ≡ p ∷ [] → p.id ≡ id → order_of after ≡ order_of before ++ id ∷ []
  order_with p is own =
      ap ids_by_place (grown.1 ∙ ap (λ l. before.places ++ l) is)
      ∙ ids_last before.places p (last_of limits steps) old_early (first_late p (subst (Among p) (sym is) (inl refl)))
      ∙ ap (λ x. order_of before ++ x ∷ []) own

  order_same : grown.0 ≡ [] → order_of after ≡ order_of before
  order_same is = ap ids_by_place (grown.1 ∙ ap (λ l. before.places ++ l) is ∙ append-nil before.places)

  ended : HasEnded after.events id answer
  ended = subst (λ h. HasEnded h id answer) (sym alone.told) (ends_here before.events id actor call opens answer well)

  -- refused for want of slots it has no place
  refused : answer ≡ reply.NoSlots → order_of after ≡ order_of before
  refused is = elim enters [
    | inl none ↦ order_same none
    | inr some ↦
        let (i, at) = ordered_of after.places some.0 (subst (Among some.0) (sym grown.1) (among_right before.places grown.0 some.0 (subst (Among some.0) (sym some.1) (inl refl)))) in
        absurd (new.1.candidate.not_refused i id (at ∙ ap Some some.2) (subst (HasEnded after.events id) is ended))
  ]

  -- else it has one
  answered : answer ≢ reply.NoSlots → order_of after ≡ order_of before ++ id ∷ []
  answered other = elim enters [
    | inl none ↦
        let (i, at) = new.1.candidate.answered id answer ended other in
        let (p, within, same) = placed_of after.places i id at in
        let stood : Among p before.places = subst (Among p) (grown.1 ∙ ap (λ l. before.places ++ l) none ∙ append-nil before.places) within in
        absurd (another before.events id actor call opens answer well id (subst (HasBegun before.events) same (placed_begun limits steps p stood)) refl)
    | inr some ↦ order_with some.0 some.1 some.2
  ]

  -- ---- worlds

  explained_longer : (order : List ℕ) → order_of after ≡ order → Explains (hash_of limits.hash) (before.events ++ Begin id actor call opens ∷ End id answer ∷ []) order new.0
  explained_longer order e = subst (λ h. Explains (hash_of limits.hash) h order new.0) alone.told (subst (λ l. Explains (hash_of limits.hash) after.events l new.0) e new.1)

  does : Does (hash_of limits.hash) before after id call opens answer old.0 new.0
  does = elim (no_slots answer) [
    | inl is ↦
        let e = refused is in
        does_nothing is e (same_world before.events id actor call opens answer well (hash_of limits.hash) (order_of before) old.0 new.0 old.1 (explained_longer (order_of before) e))
    | inr other ↦
        let e = answered other in
        does_act other e (acts_last before.events id actor call opens answer well (hash_of limits.hash) (order_of before) old.0 new.0 old.1 (explained_longer (order_of before ++ id ∷ []) e))
  ]

  pub acts_alone : (world next : HandleMap) × ShowsContents world (run limits steps) × ShowsContents next (run limits (steps ++ more))
      × Does (hash_of limits.hash) before after id call opens answer world next
  acts_alone = (old.0, new.0, old.2, new.2, does)
