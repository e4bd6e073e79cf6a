-- Two calls that come to the same state go on alike.
use Rattle.std.proofs.Common.{None, ◌≡◌, ℕ, zero, suc, ◌+◌, ◌-◌, ◌<◌, ◌≤◌, ◌⊎◌, inl, inr, Ok, Err, refl, sym, ap, ◌∙◌, subst, arith}
use Rattle.std.proofs.lemmas.Bool.{cases_eq, cases_lt}
use Rattle.proof_straight.specs.Vocabulary.{Kind, Call, Reply, Outcome, Answer, next, Record, noted, State, told_in}
use Rattle.machine_model.specs.declared.steps.Outcome.TheVariants as outcome
use Rattle.machine_model.specs.declared.steps.Step.TheVariants as step
use Rattle.proof_straight.specs.Running.{ComesTo, GoesAlone, begins, goes}

-- the state of an answer
abbrev state_in : State → Answer → State
state_in other (Ok done) = done.1
state_in other (Err refusal) = other

abbrev outcome_in : Outcome → Answer → Outcome
outcome_in other (Ok done) = done.0
outcome_in other (Err refusal) = other

same_state : (answer : Answer) (o p : Outcome) (s t : State) → answer ≡ Ok (o, s) → answer ≡ Ok (p, t) → s ≡ t
same_state answer o p s t a b = ap (state_in s) (sym a ∙ b)

module _ (state : State) (past : Record) (actor : ℕ) (c : Call) where
  -- how it came to where it is
  abbrev Came : ℕ → State → Record → Type 0
  Came zero now so_far = (next state (step.Begin actor c None) ≡ Ok (outcome.Began state.begun, now)) × (noted past state.steps (told_in state (step.Begin actor c None)) ≡ so_far)
  Came (suc n) now so_far =
      (before : State) × (r : Record) × (kind : Kind) × GoesAlone state past actor c n before r × (next before (step.Go actor) ≡ Ok (outcome.Went kind, now))
      × (noted r before.steps (told_in before (step.Go actor)) ≡ so_far)

  came : (n : ℕ) (now : State) (so_far : Record) → GoesAlone state past actor c n now so_far → Came n now so_far
  came n now so_far (begins is) = (is, refl)
  came n now so_far (goes {before} {so_far = r} {kind} earlier is) = (before, r, kind, earlier, is, refl)

  -- so it comes to one state and one record
  one_way : (n : ℕ) (s t : State) (q r : Record) → GoesAlone state past actor c n s q → GoesAlone state past actor c n t r → (s ≡ t) × (q ≡ r)
  one_way zero s t q r a b =
      let (is, records) = came zero s q a in
      let (is_too, records_too) = came zero t r b in (same_state (next state (step.Begin actor c None)) _ _ s t is is_too, sym records ∙ records_too)
  one_way (suc n) s t q r a b =
      let (before, so_far, kind, earlier, is, records) = came (suc n) s q a in
      let (before_too, so_far_too, kind_too, earlier_too, is_too, records_too) = came (suc n) t r b in
      let (same, recorded) = one_way n before before_too so_far so_far_too earlier earlier_too in (
        same_state (next before_too (step.Go actor)) _ _ s t (ap (λ x. next x (step.Go actor)) (sym same) ∙ is) is_too,
        sym records ∙ ap (λ (x : State × Record). noted x.1 x.0.steps (told_in x.0 (step.Go actor))) (both same recorded) ∙ records_too,
      )
    where
      both : {s t : State} {q r : Record} → s ≡ t → q ≡ r → ◌≡◌ {A = State × Record} (s, q) (t, r)
      both {s} {t} {q} {r} e f = ap (λ x. (x, q)) e ∙ ap (λ x. (t, x)) f

  -- before it came there it went on
  went_on : (n m : ℕ) (t : State) (r : Record) → GoesAlone state past actor c (suc (n + m)) t r →
      (before after : State) × (q : Record) × (kind : Kind) × GoesAlone state past actor c n before q × (next before (step.Go actor) ≡ Ok (outcome.Went kind, after))
  went_on n zero t r a =
      let (before, q, kind, earlier, is, records) = came (suc (n + 0)) t r a in (before, t, q, kind, subst (λ x. GoesAlone state past actor c x before q) (nothing_more n) earlier, is)
    where
      nothing_more : (n : ℕ) → n + 0 ≡ n
      nothing_more n = omega arith
  went_on n (suc m) t r a =
      let (before, q, kind, earlier, is, records) = came (suc (n + suc m)) t r a in went_on n m before q (subst (λ x. GoesAlone state past actor c x before q) (one_earlier n m) earlier)
    where
      one_earlier : (n m : ℕ) → n + suc m ≡ suc (n + m)
      one_earlier n m = omega arith

-- once another call is in the state and the record to which this one came after so many steps
module _ (state : State) (past : Record) (other : State) (other_past : Record) (actor : ℕ) (c : Call) (a b : ℕ) (there : State) (so_far : Record)
    (comes : GoesAlone state past actor c a there so_far) (other_comes : GoesAlone other other_past actor c b there so_far) where
  -- what the other one does from there on this one does too
  abbrev pub Follows : ℕ → State → Record → Type 0
  Follows n t r = (n < b) ⊎ ((m : ℕ) × (m + b ≡ n + a) × GoesAlone state past actor c m t r)

  here : (t : State) (r : Record) → GoesAlone other other_past actor c b t r → GoesAlone state past actor c a t r
  here t r h =
      let (same, recorded) = one_way other other_past actor c b there t so_far r other_comes h in
      subst (λ x. GoesAlone state past actor c a t x) recorded (subst (λ x. GoesAlone state past actor c a x so_far) same comes)

  from_here : (n : ℕ) (t : State) (r : Record) → n ≡ b → GoesAlone other other_past actor c n t r → Follows n t r
  from_here n t r same h = inr (a, omega (arith, same), here t r (subst (λ x. GoesAlone other other_past actor c x t r) same h))

  one_more : (n : ℕ) (before t : State) (q : Record) (kind : Kind) → Follows n before q → b ≤ n → next before (step.Go actor) ≡ Ok (outcome.Went kind, t) →
      Follows (suc n) t (noted q before.steps (told_in before (step.Go actor)))
  one_more n before t q kind (inl less) more is = absurd (omega (arith, less, more))
  one_more n before t q kind (inr (m, same, far)) more is = inr (suc m, omega (arith, same), goes far is)

  goes_by : (n : ℕ) (before t : State) (q : Record) (kind : Kind) → GoesAlone other other_past actor c n before q → Follows n before q →
      next before (step.Go actor) ≡ Ok (outcome.Went kind, t) → (suc n < b) ⊎ (b ≤ suc n) → Follows (suc n) t (noted q before.steps (told_in before (step.Go actor)))
  goes_by n before t q kind earlier so is (inl less) = inl less
  goes_by n before t q kind earlier so is (inr more) = elim (cases_eq (suc n) b) [
    | inl same ↦ from_here (suc n) t (noted q before.steps (told_in before (step.Go actor))) same (goes earlier is)
    | inr differ ↦ one_more n before t q kind so (omega (arith, more, differ)) is
  ]

  begins_by : (t : State) (r : Record) → GoesAlone other other_past actor c 0 t r → (0 < b) ⊎ (b ≤ 0) → Follows 0 t r
  begins_by t r h (inl less) = inl less
  begins_by t r h (inr more) = from_here 0 t r (omega (arith, more)) h

  pub follows : (n : ℕ) (t : State) (r : Record) → GoesAlone other other_past actor c n t r → Follows n t r
  follows n t r (begins is) = begins_by t r (begins is) (cases_lt 0 b)
  follows n t r (goes {n = m} {before} {so_far = q} {kind} earlier is) = goes_by m before t q kind earlier (follows m before q earlier) is (cases_lt (suc m) b)

  -- an end isn't a step that goes on
  no_end : (answer : Answer) (s t : State) (kind : Kind) (id : ℕ) (reply : Reply) → answer ≡ Ok (outcome.Went kind, s) → answer ≡ Ok (outcome.Ended id reply, t) → ⊥
  no_end answer s t kind id reply went ended = let wrong = ap (outcome_in (outcome.Went kind)) (sym went ∙ ended) in cc wrong

  apart : (n : ℕ) → n < b → b ≡ suc (n + (b - suc n))
  apart n less = omega (arith, less)

  -- the other one doesn't end before it is there
  not_before : (n : ℕ) (t : State) (r : Record) (after : State) (reply : Reply) → n < b → GoesAlone other other_past actor c n t r →
      next t (step.Go actor) ≡ Ok (outcome.Ended other.begun reply, after) → ⊥
  not_before n t r after reply less h ends =
      let (before, further, q, kind, earlier, is) =
      went_on other other_past actor c n (b - suc n) there so_far (subst (λ x. GoesAlone other other_past actor c x there so_far) (apart n less) other_comes) in
      let (same, recorded) = one_way other other_past actor c n before t q r earlier h in
      no_end (next t (step.Go actor)) further after kind other.begun reply (ap (λ x. next x (step.Go actor)) (sym same) ∙ is) ends

  cancel : (n k m : ℕ) → k + b ≡ n + a → m + b ≡ n + a → k ≡ m
  cancel n k m one two = omega (arith, one, two)

  ends_too : (n m : ℕ) (answer : Reply) (after : State) (recorded : Record) → state.begun ≡ other.begun → m + b ≡ n + a → (h : ComesTo other other_past actor c n answer after recorded) →
      Follows n h.last h.so_far →
      ComesTo state past actor c m answer after recorded
  ends_too n m answer after recorded same count h (inl less) = absurd (not_before n h.last h.so_far after answer less h.goes h.ends)
  ends_too n m answer after recorded same count h (inr (k, is, far)) = record {
    last = h.last;
    so_far = h.so_far;
    goes = subst (λ x. GoesAlone state past actor c x h.last h.so_far) (cancel n k m is count) far;
    ends = h.ends ∙ ap (λ id. Ok (outcome.Ended id answer, after)) (sym same);
    records = h.records;
  }

  -- so it ends as the other one does
  pub ends_alike : (n m : ℕ) (answer : Reply) (after : State) (recorded : Record) → state.begun ≡ other.begun → m + b ≡ n + a → ComesTo other other_past actor c n answer after recorded →
      ComesTo state past actor c m answer after recorded
  ends_alike n m answer after recorded same count h = ends_too n m answer after recorded same count h (follows n h.last h.so_far h.goes)
