-- What a history tells of one actor.
use Rattle.std.proofs.Common.{◌≡◌, ◌==◌, ℕ, ◌⊎◌, inl, inr, Bool, true, false, cond, List, [], ◌∷◌, ◌++◌, length, take, Option, Some, None, refl, sym, ap, subst, ◌∙◌, arith, append-nil}
use Rattle.std.proofs.Common.{append_assoc}
use Rattle.std.proofs.lemmas.Bool.{cases_eq, ne_eqb, eq-eqb}
use Rattle.std.proofs.lemmas.Option.{none-some, same_Some, slice_get_within}
use Rattle.std.proofs.lemmas.List.{take_at, take-append-le}
use Rattle.history.specs.declared.events.Event.{Event}
use Rattle.history.specs.declared.events.Event.TheVariants.{Begin, End}
use Rattle.history.specs.declared.replies.Reply.{Reply}
use Rattle.history.specs.Histories.{BeginsAt, HasEnded, MayFollow, IsWellFormed}
use Rattle.history.proofs.Places.{at_cases, at_old, at_push}
use Rattle.machine_model.proofs.Along.{by_last}
use Rattle.lock_free.specs.Answers.{Begun, Talk, silent, after_end, after_event, talk_from, talk_of}
use Rattle.lock_free.specs.Telling.{GoesOn}

pub talk-append : (actor : ℕ) (talk : Talk) (xs ys : List Event) → talk_from actor talk (xs ++ ys) ≡ talk_from actor (talk_from actor talk xs) ys
unfolding talk_from
talk-append actor talk [] ys = refl
talk-append actor talk (x ∷ xs) ys = talk-append actor (after_event actor talk x) xs ys

pub talk_push : (actor : ℕ) (history : List Event) (event : Event) → talk_of actor (history ++ event ∷ []) ≡ after_event actor (talk_of actor history) event
unfolding talk_from
talk_push actor history event = talk-append actor silent history (event ∷ [])

-- ---- answers grow

end_grows : (talk : Talk) (id : ℕ) (reply : Reply) (runs : Option Begun) → GoesOn talk.answers (after_end talk id reply runs).answers
end_grows talk id reply None = ([], sym (append-nil talk.answers))
end_grows talk id reply (Some it) = by_test (it.id == id)
  where
    by_test : (b : Bool) → GoesOn talk.answers (cond b (record { answers = talk.answers ++ record { of = it; reply = reply } ∷ []; runs = None }) talk).answers
    by_test true = (record { of = it; reply = reply } ∷ [], refl)
    by_test false = ([], sym (append-nil talk.answers))

event_grows : (actor : ℕ) (talk : Talk) (event : Event) → GoesOn talk.answers (after_event actor talk event).answers
event_grows actor talk (Begin id owner call opens) = by_test (owner == actor)
  where
    by_test : (b : Bool) → GoesOn talk.answers (cond b (record talk { runs = Some (record { id = id; call = call; opens = opens }) }) talk).answers
    by_test true = ([], sym (append-nil talk.answers))
    by_test false = ([], sym (append-nil talk.answers))
event_grows actor talk (End id reply) = end_grows talk id reply talk.runs

pub answers_grow : (actor : ℕ) (talk : Talk) (events : List Event) → GoesOn talk.answers (talk_from actor talk events).answers
unfolding talk_from
answers_grow actor talk [] = ([], sym (append-nil talk.answers))
answers_grow actor talk (event ∷ events) =
    let (a, d) = event_grows actor talk event in
    let (b, e) = answers_grow actor (after_event actor talk event) events in
    (a ++ b, e ∙ ap (λ l. l ++ b) d ∙ append_assoc talk.answers a b)

-- ---- what it runs has begun

-- the actor's begin of this operation
abbrev pub BegunAt : List Event → ℕ → ℕ → Begun → Type 0
BegunAt history actor place it = BeginsAt history place it.id record { actor = actor; call = it.call; opens = it.opens }

runs_after : (actor : ℕ) (talk : Talk) (event : Event) (it : Begun) → (after_event actor talk event).runs ≡ Some it → (talk.runs ≡ Some it) ⊎ (event ≡ Begin it.id actor it.call it.opens)
runs_after actor talk (Begin id owner call opens) it e = elim (cases_eq owner actor) [
  | inl own ↦
      (let is : record { id = id; call = call; opens = opens } ≡ it =
      same_Some (record { id = id; call = call; opens = opens }) it (sym (ap (λ b. (cond b (record talk { runs = Some (record { id = id; call = call; opens = opens }) }) talk).runs)
      (eq-eqb owner actor own)) ∙ e) in
      inr (subst (λ (x : Begun). Begin id owner call opens ≡ Begin x.id actor x.call x.opens) is (ap (λ a. Begin id a call opens) own)))
  | inr other ↦ inl (sym (ap (λ b. (cond b (record talk { runs = Some (record { id = id; call = call; opens = opens }) }) talk).runs) (ne_eqb owner actor other)) ∙ e)
]
runs_after actor talk (End id reply) it e = inl (by talk.runs refl)
  where
    test : (was : Begun) (b : Bool) → talk.runs ≡ Some was → (cond b (record { answers = talk.answers ++ record { of = was; reply = reply } ∷ []; runs = None }) talk).runs ≡ Some it →
        talk.runs ≡ Some it
    test was true is f = absurd (none-some it f)
    test was false is f = f

    by : (runs : Option Begun) → talk.runs ≡ runs → talk.runs ≡ Some it
    by None is = sym (ap (λ r. (after_end talk id reply r).runs) is) ∙ e
    by (Some was) is = test was (was.id == id) is (sym (ap (λ r. (after_end talk id reply r).runs) is) ∙ e)

pub runs_begun : (actor : ℕ) (history : List Event) (it : Begun) → (talk_of actor history).runs ≡ Some it → (place : ℕ) × BegunAt history actor place it
unfolding talk_from
runs_begun actor history it = by_last (λ xs. (talk_of actor xs).runs ≡ Some it → (place : ℕ) × BegunAt xs actor place it) (λ e. absurd (none-some it e)) more history
  where
    more : (xs : List Event) (event : Event) → ((talk_of actor xs).runs ≡ Some it → (place : ℕ) × BegunAt xs actor place it) → (talk_of actor (xs ++ event ∷ [])).runs ≡ Some it →
        (place : ℕ) × BegunAt (xs ++ event ∷ []) actor place it
    more xs event before e = elim (runs_after actor (talk_of actor xs) event it (sym (ap (λ (t : Talk). t.runs) (talk_push actor xs event)) ∙ e)) [
      | inl ran ↦ (let (place, at) = before ran in (place, at_old xs event place _ at))
      | inr new ↦ (length xs, at_push xs event (length xs) refl ∙ ap Some new)
    ]

-- ---- what has begun and not ended it runs

pub front_well : (xs : List Event) (event : Event) → IsWellFormed (xs ++ event ∷ []) → IsWellFormed xs
front_well xs event well place other at =
    let within = slice_get_within xs place other at in
    subst (λ l. MayFollow l other) (take-append-le place xs (event ∷ []) (omega (arith, within))) (well place other (at_old xs event place other at))

pub last_follows : (xs : List Event) (event : Event) → IsWellFormed (xs ++ event ∷ []) → MayFollow xs event
last_follows xs event well = subst (λ l. MayFollow l event) (take_at xs (event ∷ []) (length xs) refl) (well (length xs) event (at_push xs event (length xs) refl))

-- the actor's talk at the begin of an operation that runs
abbrev pub IsTalk : List Event → ℕ → ℕ → Begun → Type 0
IsTalk history actor place it = talk_of actor history ≡ record { answers = (talk_of actor (take place history)).answers; runs = Some it }

pub begun_runs : (actor place : ℕ) (it : Begun) (history : List Event) → IsWellFormed history → BegunAt history actor place it → ((reply : Reply) → ¬ HasEnded history it.id reply) →
    IsTalk history actor place it
begun_runs actor place it =
    by_last (λ xs. IsWellFormed xs → BegunAt xs actor place it → ((reply : Reply) → ¬ HasEnded xs it.id reply) → IsTalk xs actor place it) (λ well at. absurd (none-some _ at)) more
  where
    more : (xs : List Event) (event : Event) → (IsWellFormed xs → BegunAt xs actor place it → ((reply : Reply) → ¬ HasEnded xs it.id reply) → IsTalk xs actor place it) →
        IsWellFormed (xs ++ event ∷ []) → BegunAt (xs ++ event ∷ []) actor place it → ((reply : Reply) → ¬ HasEnded (xs ++ event ∷ []) it.id reply) → IsTalk (xs ++ event ∷ []) actor place it
    more xs event before well at unended = elim (at_cases xs event place _ at) [
      | inl old ↦
          (let within = slice_get_within xs place _ old in
          let ends : (reply : Reply) → ¬ HasEnded xs it.id reply = λ reply ended. unended reply (ended.0, at_old xs event ended.0 _ ended.1) in
          let was = before (front_well xs event well) old ends in
          talk_push actor xs event ∙ ap (λ t. after_event actor t event) was
          ∙ still event refl (last_follows xs event well) old ends
          ∙ ap (λ l. record { answers = (talk_of actor l).answers; runs = Some it }) (sym (take-append-le place xs (event ∷ []) (omega (arith, within)))))
      | inr new ↦
          (let front = take_at xs (event ∷ []) place (sym new.0) in
          talk_push actor xs event ∙ ap (after_event actor (talk_of actor xs)) new.1
          ∙ ap (λ b. cond b (record { answers = (talk_of actor xs).answers; runs = Some it }) (talk_of actor xs)) (eq-eqb actor actor refl)
          ∙ ap (λ l. record { answers = (talk_of actor l).answers; runs = Some it }) (sym front))
    ]
      where
        talk : Talk
        talk = record { answers = (talk_of actor (take place xs)).answers; runs = Some it }

        still : (e : Event) → event ≡ e → MayFollow xs e → BegunAt xs actor place it → ((reply : Reply) → ¬ HasEnded xs it.id reply) → after_event actor talk e ≡ talk
        still (Begin id owner call opens) is follows old ends = elim (cases_eq owner actor) [
          | inl own ↦ absurd (follows.2 it.id ((place, record { actor = actor; call = it.call; opens = it.opens }, old, sym own), ends))
          | inr other ↦ ap (λ b. cond b (record talk { runs = Some (record { id = id; call = call; opens = opens }) }) talk) (ne_eqb owner actor other)
        ]
        still (End id reply) is follows old ends = elim (cases_eq it.id id) [
          | inl own ↦ absurd (unended reply (length xs, at_push xs event (length xs) refl ∙ ap Some (is ∙ ap (λ n. End n reply) (sym own))))
          | inr other ↦ ap (λ b. cond b (record { answers = talk.answers ++ record { of = it; reply = reply } ∷ []; runs = None }) talk) (ne_eqb it.id id other)
        ]
