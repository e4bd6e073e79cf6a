-- Where the places of a run come from: each was entered by one step, and for one of three reasons.
use Rattle.std.proofs.Common.{◌≡◌, ℕ, zero, suc, ◌<◌, ◌≤◌, Bool, true, false, cond, nat_lt, inl, inr, List, [], ◌∷◌, ◌++◌, Option, Some, None, refl, sym, ap, ◌∙◌, subst, arith, ltb-true}
use Rattle.std.proofs.lemmas.Bool.{true≢false, false≢true, ltb-false}
use Rattle.std.proofs.lemmas.Option.{none-some, same_Some}
use Rattle.proof_order.specs.Vocabulary.{KeyMap, Reply, begun, Place, on_time, late, place_by, Operation, Bounds, State, IsRun, place_of, closing_for, Record, moment_at, entrant_of}
use Rattle.proof_order.specs.Beneath.history.specs.Histories.{Operation as Told}
use Rattle.proof_order.specs.Facts.{Runs, IsReply, Facts, Update, Replied}
use Rattle.proof_order.specs.Beneath.history.proofs.Among.{Among, among_either}
use Rattle.proof_order.proofs.Places.Sorting.{AreApart, apart_push}
use Rattle.proof_order.proofs.History.Books.{id_below}
use Rattle.proof_order.proofs.History.AllBooks.{books_at}
use Rattle.proof_order.proofs.History.Growing.{events_grow, unplaced, Grows}
use Rattle.proof_order.proofs.History.Recalling.{begun_more_or_same}
use Rattle.proof_order.proofs.Views.Standing.{step_at}
use Rattle.proof_order.proofs.Views.Steps.{Enters, Kind, plain, updates, answers, closes, swaps, kind_at}

-- ---- what a place says

-- its moment, whether it changed nothing, and its operation
pub place_says : (closing : Option ℕ) (moment id : ℕ) (changed_nothing : Bool) →
    ((place_by closing moment changed_nothing id).moment ≡ moment) × ((place_by closing moment changed_nothing id).changed_nothing ≡ changed_nothing)
    × ((place_by closing moment changed_nothing id).id ≡ id)
place_says None moment id changed_nothing = (refl, refl, refl)
place_says (Some c) moment id changed_nothing = by (nat_lt c moment)
  where
    by : (b : Bool) → let p = cond b (late c moment changed_nothing id) (on_time moment changed_nothing id) in
        (p.moment ≡ moment) × (p.changed_nothing ≡ changed_nothing) × (p.id ≡ id)
    by true = (refl, refl, refl)
    by false = (refl, refl, refl)

-- a place on time has its moment as its step, and the generation wasn't closed before it
pub on_time_says : (closing : Option ℕ) (moment id : ℕ) (changed_nothing : Bool) → (place_by closing moment changed_nothing id).on_time ≡ true →
    ((place_by closing moment changed_nothing id).step ≡ moment) × ((c : ℕ) → closing ≡ Some c → moment ≤ c)
on_time_says None moment id changed_nothing e = (refl, λ c is. absurd (none-some c is))
on_time_says (Some d) moment id changed_nothing e = by (nat_lt d moment) refl e
  where
    by : (b : Bool) → nat_lt d moment ≡ b → let p = cond b (late d moment changed_nothing id) (on_time moment changed_nothing id) in
        p.on_time ≡ true → (p.step ≡ moment) × ((c : ℕ) → Some d ≡ Some c → moment ≤ c)
    by true is e = absurd (false≢true e)
    by false is e = (refl, λ c same. subst (λ x. moment ≤ x) (same_Some d c same) (ltb-false d moment is))

-- a late place has the step that closed the generation, before its moment
pub late_says : (closing : Option ℕ) (moment id : ℕ) (changed_nothing : Bool) → (place_by closing moment changed_nothing id).on_time ≡ false →
    (closing ≡ Some (place_by closing moment changed_nothing id).step) × ((place_by closing moment changed_nothing id).step < moment)
late_says None moment id changed_nothing e = absurd (true≢false e)
late_says (Some d) moment id changed_nothing e = by (nat_lt d moment) refl e
  where
    by : (b : Bool) → nat_lt d moment ≡ b → let p = cond b (late d moment changed_nothing id) (on_time moment changed_nothing id) in
        p.on_time ≡ false → (Some d ≡ Some p.step) × (p.step < moment)
    by true is e = (refl, ltb-true d moment is)
    by false is e = absurd (true≢false e)

-- two lists with one more that are the same have the same last one
pub same_last : {X : Type 0} (xs : List X) (x y : X) → xs ++ x ∷ [] ≡ xs ++ y ∷ [] → x ≡ y
same_last [] x y e = cc e
same_last (z ∷ xs) x y e = same_last xs x y (tails e)
  where
    tails : {X : Type 0} {a : X} {us vs : List X} → a ∷ us ≡ a ∷ vs → us ≡ vs
    tails e = cc e

module _ (limits : Bounds) (states : ℕ → State) (records : ℕ → Record) (last : ℕ) (V : ℕ → ℕ → KeyMap) where
  -- why a step entered a place
  pub data Why (u : ℕ) (p : Place) : Type 0 where
    by_update : (entered : List Place) (update : Update limits states records last V u entered) → p ≡ place_of (records u) (entrant_of update.owner) u false → Why u p
    by_answer : (k : ℕ) (operation : Operation) (answer : Reply) → Runs (states u) k operation → p ≡ place_of (records u) (entrant_of operation) (moment_at (records u) (suc k)).moment true →
        IsReply (records last).events operation.id answer → Replied limits states records last V operation (moment_at (records u) (suc k)).moment answer → Why u p
    by_change : (id : ℕ) → p ≡ on_time u false id → Why u p

  pub record Origin (t : ℕ) (p : Place) : Type 0 where
    pub u : ℕ
    pub is_before : u < t
    pub enters : Enters limits states records last V u p
    pub why : Why u p

module _ {limits : Bounds} {states : ℕ → State} {last : ℕ} (r : IsRun limits states last) (V : ℕ → ℕ → KeyMap) (facts : Facts limits states r.records last V) where
  older : (t : ℕ) (p : Place) → Origin limits states r.records last V t p → Origin limits states r.records last V (suc t) p
  older t p o = let lt = o.is_before in record { u = o.u; is_before = omega arith; enters = o.enters; why = o.why }

  -- a place behind a step was there before, or is the one that it entered
  entered_last : (t : ℕ) (p new : Place) → Enters limits states r.records last V t new → Why limits states r.records last V t new →
      (Among p (r.records t).places → Origin limits states r.records last V t p) →
      Among p (r.records (suc t)).places → Origin limits states r.records last V (suc t) p
  entered_last t p new enters why rest a = elim (among_either (r.records t).places (new ∷ []) p (subst (Among p) enters a)) [
    | inl old ↦ older t p (rest old)
    | inr newest ↦ elim newest [
      | inl is ↦ record {
        u = t;
        is_before = omega arith;
        enters = subst (λ q. Enters limits states r.records last V t q) (sym is) enters;
        why = subst (λ q. Why limits states r.records last V t q) (sym is) why;
      }
      | inr none ↦ absurd none
    ]
  ]

  origin_by : (t : ℕ) (p : Place) → Kind limits states r.records last V t → (Among p (r.records t).places → Origin limits states r.records last V t p) → Among p (r.records (suc t)).places →
      Origin limits states r.records last V (suc t) p
  origin_by t p (plain places closings kept still) rest a = older t p (rest (subst (Among p) places a))
  origin_by t p (updates entered update places closings kept) rest a = entered_last t p _ places (by_update entered update refl) rest a
  origin_by t p (answers k operation answer runs places unplaced agrees replied closings kept still) rest a =
      entered_last t p _ places (by_answer k operation answer runs refl agrees replied) rest a
  origin_by t p (closes handle stood places recalls more at gone others closings still) rest a = entered_last t p _ places (by_change _ refl) rest a
  origin_by t p (swaps handle offer swap places closings roots heap still) rest a = entered_last t p _ places (by_change _ refl) rest a

  -- each place was entered by one step
  pub origin : (t : ℕ) → t ≤ last → (p : Place) → Among p (r.records t).places → Origin limits states r.records last V t p
  origin zero le p a = let none : Among p [] = subst (Among p) (ap (λ (q : Record). q.places) r.nothing_recorded) a in absurd none
  origin (suc t) le p a = origin_by t p (kind_at r V facts t le) (origin t (omega (arith, le)) p) a

  -- ---- the places are of different operations

  record Placed (t : ℕ) : Type 0 where
    apart : AreApart (r.records t).places
    below : (p : Place) → Among p (r.records t).places → p.id < begun (r.records t).events

  begun_later : (t : ℕ) → t < last → begun (r.records t).events ≤ begun (r.records (suc t)).events
  begun_later t lt =
      let a = step_at r V facts t lt in
      begun_more_or_same (r.records t).events (r.records (suc t)).events (subst (λ (q : Record). Grows (r.records t).events q.events) (sym a.notes)
      (events_grow (states t) (r.records t) a.its a.outcome (states (suc t)) a.move))

  running_below : (t k : ℕ) (operation : Operation) → t ≤ last → Runs (states t) k operation → operation.id < begun (r.records t).events
  running_below t k operation le runs =
      let books = books_at r t le in
      let told = books.told k operation runs in
      let says : Told = record { actor = suc k; call = operation.call; opens = operation.opens } in
      id_below (r.records t).events told.place operation.id says books.well_formed told.begins

  -- with one more, of an operation without a place
  placed_more : (t : ℕ) (new : Place) → t < last → Enters limits states r.records last V t new → ((p : Place) → Among p (r.records t).places → p.id ≡ new.id → ⊥) →
      new.id < begun (r.records (suc t)).events → Placed t → Placed (suc t)
  placed_more t new lt enters fresh within placed = record {
    apart = subst AreApart (sym enters) (apart_push (r.records t).places new placed.apart fresh);
    below = λ p a. elim (among_either (r.records t).places (new ∷ []) p (subst (Among p) enters a)) [
      | inl old ↦ let b = placed.below p old in let more = begun_later t lt in omega arith
      | inr newest ↦ elim newest [ inl is ↦ subst (λ (q : Place). q.id < begun (r.records (suc t)).events) (sym is) within | inr none ↦ absurd none ]
    ];
  }

  placed_by : (t : ℕ) → t < last → Kind limits states r.records last V t → Placed t → Placed (suc t)
  placed_by t lt (plain places closings kept still) placed = record {
    apart = subst AreApart (sym places) placed.apart;
    below = λ p a. let b = placed.below p (subst (Among p) places a) in let more = begun_later t lt in omega arith;
  }
  placed_by t lt (updates entered update places closings kept) placed =
      let id = (place_says (closing_for (r.records t) update.owner.generation update.owner.access) t update.owner.id false).2 in
      let b = running_below t update.k update.owner (omega arith) update.runs in
      let more = begun_later t lt in
      placed_more t _ lt places (λ p a e. unplaced (r.records t) update.owner.id update.unplaced p a (e ∙ id)) (rw id (omega arith)) placed
  placed_by t lt (answers k operation answer runs places none agrees replied closings kept still) placed =
      let id = (place_says (closing_for (r.records t) operation.generation operation.access) (moment_at (r.records t) (suc k)).moment operation.id true).2 in
      let b = running_below t k operation (omega arith) runs in
      let more = begun_later t lt in
      placed_more t _ lt places (λ p a e. unplaced (r.records t) operation.id none p a (e ∙ id)) (rw id (omega arith)) placed
  placed_by t lt (closes handle stood places recalls more at gone others closings still) placed =
      placed_more t _ lt places (λ p a e. let b = placed.below p a in omega arith) (omega arith) placed
  placed_by t lt (swaps handle offer swap places closings roots heap still) placed =
      let b = running_below t swap.k swap.offerer (omega arith) swap.runs in
      let more = begun_later t lt in
      let same = swap.is_its in
      placed_more t _ lt places (λ p a e. unplaced (r.records t) offer.operation swap.unplaced p a e) (omega arith) placed

  placed_at : (t : ℕ) → t ≤ last → Placed t
  placed_at zero le =
      let e = ap (λ (q : Record). q.places) r.nothing_recorded in
      record { apart = subst AreApart (sym e) tt; below = λ p a. let none : Among p [] = subst (Among p) e a in absurd none }
  placed_at (suc t) le = placed_by t le (kind_at r V facts t le) (placed_at t (omega (arith, le)))

  pub apart_at : (t : ℕ) → t ≤ last → AreApart (r.records t).places
  apart_at t le = (placed_at t le).apart
