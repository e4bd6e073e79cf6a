-- The places of one step, one moment and one role, among all places of a run.
use Rattle.std.proofs.Common.{◌≡◌, ℕ, ◌<◌, Bool, true, false, List, filter, Option, refl, sym, ap, ◌∙◌, subst, arith, eqb-true, eq-eqb, suc}
use Rattle.std.proofs.lemmas.Bool.{true≢false, false≢true}
use Rattle.proof_order.specs.Vocabulary.{KeyMap, Reply, Place, place_by, rising, Operation, Bounds, State, IsRun, place_of, closing_for, Record, moment_at, entrant_of}
use Rattle.proof_order.specs.Beneath.machine_model.proofs.Times.{steps_at}
use Rattle.proof_order.specs.Facts.{Runs, IsReply, Facts, Replied}
use Rattle.proof_order.specs.Beneath.history.proofs.Among.{Among, among_filter, filter_among}
use Rattle.proof_order.proofs.Places.Elements.{no_last, Along, each_of, equals}
use Rattle.proof_order.proofs.Places.Sorting.{Rises, AreApart, rising_rises, among_rising, rising_among, rising_apart, apart_filter, rises_filter, steps_along, along_where, timing}
use Rattle.proof_order.proofs.Places.Sorting.{role, number_false, number_true, false_number, true_number, timing_up, moments_up, role_up}
use Rattle.proof_order.proofs.History.Past.{past_at}
use Rattle.proof_order.proofs.Views.Steps.{Enters, EntersNone}
use Rattle.proof_order.proofs.Places.Origins.{Why, by_update, by_answer, by_change, origin, apart_at, place_says, on_time_says, late_says, same_last}

-- ---- the parts of the order

module _ (records : ℕ → Record) (last : ℕ) where
  abbrev pub sorted : List Place
  sorted = rising (records last).places

  -- the places of one step
  abbrev pub block : ℕ → List Place
  block t = filter (equals (λ p. p.step) t) sorted

  -- those that are late, and those on time
  abbrev pub lates : ℕ → List Place
  lates t = filter (equals timing 0) (block t)

  abbrev pub timely : ℕ → List Place
  timely t = filter (equals timing 1) (block t)

  -- the late ones of one moment
  abbrev pub late_at : ℕ → ℕ → List Place
  late_at t n = filter (equals (λ p. p.moment) n) (lates t)

  -- it is a place of the run
  abbrev pub IsPlace : Place → Type 0
  IsPlace p = Among p (records last).places

  pub in_block : (t : ℕ) (p : Place) → Among p (block t) → IsPlace p × (p.step ≡ t)
  in_block t p a = let (within, e) = among_filter (equals (λ p. p.step) t) sorted p a in (among_rising (records last).places p within, eqb-true p.step t e)

  pub to_block : (t : ℕ) (p : Place) → IsPlace p → p.step ≡ t → Among p (block t)
  to_block t p a e = filter_among (equals (λ p. p.step) t) sorted p (rising_among (records last).places p a) (eq-eqb p.step t e)

  pub in_lates : (t : ℕ) (p : Place) → Among p (lates t) → IsPlace p × (p.step ≡ t) × (p.on_time ≡ false)
  in_lates t p a =
      let (within, e) = among_filter (equals timing 0) (block t) p a in
      let (place, at) = in_block t p within in
      (place, at, number_false p.on_time (eqb-true (timing p) 0 e))

  pub to_lates : (t : ℕ) (p : Place) → IsPlace p → p.step ≡ t → p.on_time ≡ false → Among p (lates t)
  to_lates t p a e late = filter_among (equals timing 0) (block t) p (to_block t p a e) (eq-eqb (timing p) 0 (false_number p.on_time late))

  pub in_timely : (t : ℕ) (p : Place) → Among p (timely t) → IsPlace p × (p.step ≡ t) × (p.on_time ≡ true)
  in_timely t p a =
      let (within, e) = among_filter (equals timing 1) (block t) p a in
      let (place, at) = in_block t p within in
      (place, at, number_true p.on_time (eqb-true (timing p) 1 e))

  pub to_timely : (t : ℕ) (p : Place) → IsPlace p → p.step ≡ t → p.on_time ≡ true → Among p (timely t)
  to_timely t p a e on = filter_among (equals timing 1) (block t) p (to_block t p a e) (eq-eqb (timing p) 1 (true_number p.on_time on))

  pub in_late_at : (t n : ℕ) (p : Place) → Among p (late_at t n) → IsPlace p × (p.step ≡ t) × (p.on_time ≡ false) × (p.moment ≡ n)
  in_late_at t n p a =
      let (within, e) = among_filter (equals (λ p. p.moment) n) (lates t) p a in
      let (place, at, late) = in_lates t p within in
      (place, at, late, eqb-true p.moment n e)

  pub to_late_at : (t n : ℕ) (p : Place) → IsPlace p → p.step ≡ t → p.on_time ≡ false → p.moment ≡ n → Among p (late_at t n)
  to_late_at t n p a e late m = filter_among (equals (λ p. p.moment) n) (lates t) p (to_lates t p a e late) (eq-eqb p.moment n m)

  -- of a list, those that changed something, and those that didn't
  pub in_changing : (ps : List Place) (p : Place) → Among p (filter (equals role 0) ps) → Among p ps × (p.changed_nothing ≡ false)
  in_changing ps p a = let (within, e) = among_filter (equals role 0) ps p a in (within, number_false p.changed_nothing (eqb-true (role p) 0 e))

  pub to_changing : (ps : List Place) (p : Place) → Among p ps → p.changed_nothing ≡ false → equals role 0 p ≡ true
  to_changing ps p a e = eq-eqb (role p) 0 (false_number p.changed_nothing e)

  pub in_reading : (ps : List Place) (p : Place) → Among p (filter (equals role 1) ps) → Among p ps × (p.changed_nothing ≡ true)
  in_reading ps p a = let (within, e) = among_filter (equals role 1) ps p a in (within, number_true p.changed_nothing (eqb-true (role p) 1 e))

  -- ---- how they rise

  pub block_rises : (t : ℕ) → Rises (block t)
  block_rises t = rises_filter (equals (λ p. p.step) t) sorted (rising_rises (records last).places)

  pub sorted_along : Along (λ (p : Place). p.step) sorted
  sorted_along = steps_along sorted (rising_rises (records last).places)

  pub block_along : (t : ℕ) → Along timing (block t)
  block_along t = along_where timing (λ p. p.step ≡ t) (λ p q a b e. timing_up t p q a b e) (block t) (block_rises t) (each_of (λ (p : Place). p.step ≡ t) (block t) (λ p a. (in_block t p a).1))

  abbrev LateOf : ℕ → Place → Type 0
  LateOf t p = (p.step ≡ t) × (p.on_time ≡ false)

  pub lates_along : (t : ℕ) → Along (λ (p : Place). p.moment) (lates t)
  lates_along t =
      along_where (λ p. p.moment) (LateOf t) (λ p q a b e. moments_up t false p q a.0 b.0 a.1 b.1 e) (lates t) (rises_filter (equals timing 0) (block t) (block_rises t))
      (each_of (LateOf t) (lates t) (λ p a. let (place, at, late) = in_lates t p a in (at, late)))

  abbrev LateAt : ℕ → ℕ → Place → Type 0
  LateAt t n p = (p.step ≡ t) × (p.on_time ≡ false) × (p.moment ≡ n)

  pub late_at_along : (t n : ℕ) → Along role (late_at t n)
  late_at_along t n =
      along_where role (LateAt t n) (λ p q a b e. role_up t false n p q a.0 b.0 a.1 b.1 a.2 b.2 e) (late_at t n)
      (rises_filter (equals (λ p. p.moment) n) (lates t) (rises_filter (equals timing 0) (block t) (block_rises t)))
      (each_of (LateAt t n) (late_at t n) (λ p a. let (place, at, late, moment) = in_late_at t n p a in (at, late, moment)))

module _ {limits : Bounds} {states : ℕ → State} {last : ℕ} (r : IsRun limits states last) (V : ℕ → ℕ → KeyMap) (facts : Facts limits states r.records last V) where
  -- ---- what changes something was entered at its moment

  changing_by : (u : ℕ) (p : Place) → Why limits states r.records last V u p → p.changed_nothing ≡ false → p.moment ≡ u
  changing_by u p (by_update entered update is) e =
      ap (λ (q : Place). q.moment) is ∙ (place_says (closing_for (r.records u) update.owner.generation update.owner.access) u update.owner.id false).0
  changing_by u p (by_answer k operation answer runs is agrees replied) e =
      absurd (true≢false (sym (place_says (closing_for (r.records u) operation.generation operation.access) (moment_at (r.records u) (suc k)).moment operation.id true).1
      ∙ sym (ap (λ (q : Place). q.changed_nothing) is) ∙ e))
  changing_by u p (by_change id is) e = ap (λ (q : Place). q.moment) is

  pub changing_enters : (p : Place) → IsPlace r.records last p → p.changed_nothing ≡ false → (n : ℕ) → p.moment ≡ n → Enters limits states r.records last V n p
  changing_enters p a e n at =
      let o = origin r V facts last (omega arith) p a in
      subst (λ u. Enters limits states r.records last V u p) (sym (changing_by o.u p o.why e) ∙ at) o.enters

  -- where a step enters none there is none
  pub none_changing : (n : ℕ) → EntersNone limits states r.records last V n → (p : Place) → IsPlace r.records last p → p.changed_nothing ≡ false → p.moment ≡ n → ⊥
  none_changing n none p a e at = no_last (r.records n).places p (sym none ∙ changing_enters p a e n at)

  -- where it enters one there is that one alone
  pub one_changing : (n : ℕ) (new : Place) → Enters limits states r.records last V n new → (p : Place) → IsPlace r.records last p → p.changed_nothing ≡ false → p.moment ≡ n → p ≡ new
  one_changing n new enters p a e at = same_last (r.records n).places p new (sym (changing_enters p a e n at) ∙ enters)

  -- ---- what changes nothing

  pub record Reading (p : Place) : Type 0 where
    pub u : ℕ
    pub within : u < last
    pub k : ℕ
    pub operation : Operation
    pub moment : ℕ
    pub answer : Reply
    pub runs : Runs (states u) k operation
    pub is_its : p ≡ place_of (r.records u) (entrant_of operation) moment true
    pub agrees : IsReply (r.records last).events operation.id answer
    pub replied : Replied limits states r.records last V operation moment answer
    pub is_moment : p.moment ≡ moment
    pub past : moment < u

  reading_by : (u : ℕ) (p : Place) → u < last → Why limits states r.records last V u p → p.changed_nothing ≡ true → Reading p
  reading_by u p lt (by_update entered update is) e =
      absurd (false≢true (sym (place_says (closing_for (r.records u) update.owner.generation update.owner.access) u update.owner.id false).1 ∙ sym (ap (λ (q : Place). q.changed_nothing) is) ∙ e))
  reading_by u p lt (by_answer k operation answer runs is agrees replied) e = record {
    u = u;
    within = lt;
    k = k;
    operation = operation;
    moment = (moment_at (r.records u) (suc k)).moment;
    answer = answer;
    runs = runs;
    is_its = is;
    agrees = agrees;
    replied = replied;
    is_moment = ap (λ (q : Place). q.moment) is ∙ (place_says (closing_for (r.records u) operation.generation operation.access) (moment_at (r.records u) (suc k)).moment operation.id true).0;
    past = subst (λ n. (moment_at (r.records u) (suc k)).moment < n) (steps_at r u (omega arith)) ((past_at r u (omega arith)).operations k operation runs).1;
  }
  reading_by u p lt (by_change id is) e = absurd (false≢true (sym (ap (λ (q : Place). q.changed_nothing) is) ∙ e))

  pub reading : (p : Place) → IsPlace r.records last p → p.changed_nothing ≡ true → Reading p
  reading p a e = let o = origin r V facts last (omega arith) p a in reading_by o.u p o.is_before o.why e

  -- ---- each is of one operation

  pub sorted_apart : AreApart (sorted r.records last)
  sorted_apart = rising_apart (r.records last).places (apart_at r V facts last (omega arith))

  pub timely_apart : (t : ℕ) → AreApart (timely r.records last t)
  timely_apart t = apart_filter (equals timing 1) (block r.records last t) (apart_filter (equals (λ p. p.step) t) (sorted r.records last) sorted_apart)

  pub late_at_apart : (t n : ℕ) → AreApart (late_at r.records last t n)
  late_at_apart t n =
      apart_filter (equals (λ p. p.moment) n) (lates r.records last t) (apart_filter (equals timing 0) (block r.records last t)
      (apart_filter (equals (λ p. p.step) t) (sorted r.records last) sorted_apart))

  -- ---- a place lies in the past of its step

  late_step : (p : Place) (closing : Option ℕ) (moment id : ℕ) (changed_nothing : Bool) → p ≡ place_by closing moment changed_nothing id → p.on_time ≡ false → p.step < p.moment
  late_step p closing moment id changed_nothing is late =
      let (its, lt) = late_says closing moment id changed_nothing (ap (λ (q : Place). q.on_time) (sym is) ∙ late) in
      let says = (place_says closing moment id changed_nothing).0 in
      subst (λ (q : Place). q.step < q.moment) (sym is) (rw says lt)

  late_by : (u : ℕ) (p : Place) → Why limits states r.records last V u p → p.on_time ≡ false → p.step < p.moment
  late_by u p (by_update entered update is) late = late_step p _ u update.owner.id false is late
  late_by u p (by_answer k operation answer runs is agrees replied) late = late_step p _ (moment_at (r.records u) (suc k)).moment operation.id true is late
  late_by u p (by_change id is) late = absurd (true≢false (sym (ap (λ (q : Place). q.on_time) is) ∙ late))

  -- a late place stands before its moment
  pub late_before : (p : Place) → IsPlace r.records last p → p.on_time ≡ false → p.step < p.moment
  late_before p a late = let o = origin r V facts last (omega arith) p a in late_by o.u p o.why late

  moment_by : (u : ℕ) (p : Place) → u < last → Why limits states r.records last V u p → p.moment < last
  moment_by u p lt (by_update entered update is) =
      let m = ap (λ (q : Place). q.moment) is ∙ (place_says (closing_for (r.records u) update.owner.generation update.owner.access) u update.owner.id false).0 in omega arith
  moment_by u p lt (by_answer k operation answer runs is agrees replied) =
      let m = ap (λ (q : Place). q.moment) is ∙ (place_says (closing_for (r.records u) operation.generation operation.access) (moment_at (r.records u) (suc k)).moment operation.id true).0 in
      let past = ((past_at r u (omega arith)).operations k operation runs).1 in
      let steps = steps_at r u (omega arith) in
      omega arith
  moment_by u p lt (by_change id is) = let m = ap (λ (q : Place). q.moment) is in omega arith

  -- each moment lies in the run
  pub moment_within : (p : Place) → IsPlace r.records last p → p.moment < last
  moment_within p a = let o = origin r V facts last (omega arith) p a in moment_by o.u p o.is_before o.why

  step_by : (u : ℕ) (p : Place) → Why limits states r.records last V u p → p.on_time ≡ true → p.step ≡ p.moment
  step_by u p (by_update entered update is) on =
      let closing = closing_for (r.records u) update.owner.generation update.owner.access in
      ap (λ (q : Place). q.step) is ∙ (on_time_says closing u update.owner.id false (ap (λ (q : Place). q.on_time) (sym is) ∙ on)).0
      ∙ sym (ap (λ (q : Place). q.moment) is ∙ (place_says closing u update.owner.id false).0)
  step_by u p (by_answer k operation answer runs is agrees replied) on =
      let closing = closing_for (r.records u) operation.generation operation.access in
      ap (λ (q : Place). q.step) is ∙ (on_time_says closing (moment_at (r.records u) (suc k)).moment operation.id true (ap (λ (q : Place). q.on_time) (sym is) ∙ on)).0
      ∙ sym (ap (λ (q : Place). q.moment) is ∙ (place_says closing (moment_at (r.records u) (suc k)).moment operation.id true).0)
  step_by u p (by_change id is) on = ap (λ (q : Place). q.step) is ∙ sym (ap (λ (q : Place). q.moment) is)

  -- on time a place stands at its moment
  pub on_time_moment : (p : Place) → IsPlace r.records last p → p.on_time ≡ true → p.step ≡ p.moment
  on_time_moment p a on = let o = origin r V facts last (omega arith) p a in step_by o.u p o.why on

  within_by : (p : Place) → IsPlace r.records last p → (b : Bool) → p.on_time ≡ b → p.step < last
  within_by p a true e = let m = moment_within p a in let s = on_time_moment p a e in omega arith
  within_by p a false e = let m = moment_within p a in let s = late_before p a e in omega arith

  -- so each step does
  pub step_within : (p : Place) → IsPlace r.records last p → p.step < last
  step_within p a = within_by p a p.on_time refl

  abbrev TimelyOf : ℕ → Place → Type 0
  TimelyOf t p = (p.step ≡ t) × (p.on_time ≡ true) × (p.moment ≡ t)

  pub timely_along : (t : ℕ) → Along role (timely r.records last t)
  timely_along t =
      along_where role (TimelyOf t) (λ p q a b e. role_up t true t p q a.0 b.0 a.1 b.1 a.2 b.2 e) (timely r.records last t)
      (rises_filter (equals timing 1) (block r.records last t) (block_rises r.records last t))
      (each_of (TimelyOf t) (timely r.records last t) (λ p a. let (place, at, on) = in_timely r.records last t p a in (at, on, sym (on_time_moment p place on) ∙ at)))
