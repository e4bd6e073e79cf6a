-- An actor's operations come one after the other: each ends before the next begins.
use Rattle.std.proofs.Common.{◌≡◌, ◌≢◌, ◌+◌, ◌<◌, ◌≤◌, ◌⊎◌, ℕ, inl, inr, cond, List, [], ◌∷◌, ◌++◌, length, Option, Some, None, slice_get, refl, sym}
use Rattle.std.proofs.Common.{ap, subst, ◌∙◌, arith, ne_eqb, eq-eqb, length-append}
use Rattle.std.proofs.lemmas.Bool.{cases_eq}
use Rattle.std.proofs.lemmas.Option.{none-some, same_Some, slice_get_within}
use Rattle.history.specs.declared.calls.Call.{Call}
use Rattle.history.specs.declared.events.Event.{Event}
use Rattle.history.specs.declared.events.Event.TheVariants.{Begin, End}
use Rattle.history.specs.declared.replies.Reply.{Reply}
use Rattle.history.specs.Histories.{EndsAt, HasEnded, MayFollow, IsWellFormed}
use Rattle.history.proofs.Places.{at_cases, at_front, at_old, at_push}
use Rattle.machine_model.proofs.Along.{by_last}
use Rattle.proof_linearizable.specs.Beneath.proof_order.proofs.History.Books.{ended_below}
use Rattle.lock_free.specs.Answers.{Begun, Answer, Talk, after_event, after_end, talk_from, talk_of}
use Rattle.lock_free.proofs.Talks.{BegunAt, talk_push, front_well, last_follows}

-- the operation begins and ends between these places
pub record Between (history : List Event) (actor low high : ℕ) (a : Answer) : Type 0 where
  pub begins : ℕ
  pub ends : ℕ
  pub begun : BegunAt history actor begins a.of
  pub ended : EndsAt history ends a.of.id a.reply
  pub after : low ≤ begins
  pub before : begins < ends
  pub within : ends < high

-- these come between the two places, one after the other
abbrev pub AreTimed : List Event → ℕ → List Answer → ℕ → ℕ → Type 0
AreTimed history actor [] low high = low ≤ high
AreTimed history actor (a ∷ ts) low high = (b : Between history actor low high a) × AreTimed history actor ts (b.ends + 1) high

timed_wider : (history : List Event) (actor : ℕ) (ts : List Answer) (low high wide : ℕ) → high ≤ wide → AreTimed history actor ts low high → AreTimed history actor ts low wide
timed_wider history actor [] low high wide more h = omega (arith, more, h)
timed_wider history actor (a ∷ ts) low high wide more (b, rest) = (
  record { begins = b.begins; ends = b.ends; begun = b.begun; ended = b.ended; after = b.after; before = b.before; within = omega (arith, b.within, more) },
  timed_wider history actor ts (b.ends + 1) high wide more rest,
)

timed_longer : (xs : List Event) (event : Event) (actor : ℕ) (ts : List Answer) (low high : ℕ) → AreTimed xs actor ts low high → AreTimed (xs ++ event ∷ []) actor ts low high
timed_longer xs event actor [] low high h = h
timed_longer xs event actor (a ∷ ts) low high (b, rest) = (
  record { begins = b.begins; ends = b.ends; begun = at_old xs event b.begins _ b.begun; ended = at_old xs event b.ends _ b.ended; after = b.after; before = b.before; within = b.within },
  timed_longer xs event actor ts (b.ends + 1) high rest,
)

timed_push : (history : List Event) (actor : ℕ) (ts : List Answer) (low high wide : ℕ) (a : Answer) → AreTimed history actor ts low high → (b : Between history actor high wide a) →
    AreTimed history actor (ts ++ a ∷ []) low wide
timed_push history actor [] low high wide a h b =
    (record { begins = b.begins; ends = b.ends; begun = b.begun; ended = b.ended; after = omega (arith, h, b.after); before = b.before; within = b.within }, omega (arith, b.within))
timed_push history actor (x ∷ ts) low high wide a (c, rest) b = (
  record { begins = c.begins; ends = c.ends; begun = c.begun; ended = c.ended; after = c.after; before = c.before; within = omega (arith, c.within, b.after, b.before, b.within) },
  timed_push history actor ts (c.ends + 1) high wide a rest b,
)

-- what has begun was answered
abbrev pub IsAnswered : Talk → Begun → Type 0
IsAnswered talk it = (j : ℕ) × (a : Answer) × (slice_get talk.answers j ≡ Some a) × (a.of ≡ it)

abbrev pub Unended : List Event → Begun → Type 0
Unended history it = (reply : Reply) → ¬ HasEnded history it.id reply

-- The actor's answers come one after the other, and after them what it runs.
pub data Follows (history : List Event) (actor : ℕ) (answers : List Answer) : Option Begun → Type 0 where
  idle : AreTimed history actor answers 0 (length history) → Follows history actor answers None
  busy : (it : Begun) (place : ℕ) → BegunAt history actor place it → Unended history it → AreTimed history actor answers 0 place → Follows history actor answers (Some it)

pub record IsLine (history : List Event) (actor : ℕ) (talk : Talk) : Type 0 where
  pub follows : Follows history actor talk.answers talk.runs
  pub all : (it : Begun) (place : ℕ) → BegunAt history actor place it → IsAnswered talk it ⊎ (talk.runs ≡ Some it)

begin_is_no_end : (id other actor : ℕ) (call : Call) (opens : Option ℕ) (reply : Reply) → Begin id actor call opens ≡ End other reply → ⊥
begin_is_no_end id other actor call opens reply e = grind arith

module _ (actor : ℕ) (xs : List Event) where
  -- ---- another's begin

  other_begin : (id owner : ℕ) (call : Call) (opens : Option ℕ) → owner ≢ actor → (talk : Talk) → IsLine xs actor talk → IsLine (xs ++ Begin id owner call opens ∷ []) actor talk
  other_begin id owner call opens apart talk line = record {
    follows = by talk.runs (line.follows);
    all = λ it place at. elim (at_cases xs (Begin id owner call opens) place _ at) [
      | inl old ↦ line.all it place old
      | inr new ↦ absurd (apart (let e = new.1 in cc e))
    ];
  }
    where
      longer : length xs ≤ length (xs ++ Begin id owner call opens ∷ [])
      longer = omega (arith, length-append xs (Begin id owner call opens ∷ []))

      by : (runs : Option Begun) → Follows xs actor talk.answers runs → Follows (xs ++ Begin id owner call opens ∷ []) actor talk.answers runs
      by None (idle timed) = idle (timed_wider _ actor talk.answers 0 (length xs) _ longer (timed_longer xs _ actor talk.answers 0 (length xs) timed))
      by (Some it) (busy _ place at unended timed) =
          busy it place (at_old xs _ place _ at)
          (λ reply ended. elim (at_cases xs _ ended.0 _ ended.1) [ inl old ↦ unended reply (ended.0, old) | inr new ↦ begin_is_no_end id it.id owner call opens reply new.1 ])
          (timed_longer xs _ actor talk.answers 0 place timed)

  -- ---- its own

  own_begin : (id : ℕ) (call : Call) (opens : Option ℕ) → IsWellFormed xs → MayFollow xs (Begin id actor call opens) → (answers : List Answer) → AreTimed xs actor answers 0 (length xs) →
      ((it : Begun) (place : ℕ) → BegunAt xs actor place it → IsAnswered (record { answers = answers; runs = None }) it ⊎ (None ≡ Some it)) →
      IsLine (xs ++ Begin id actor call opens ∷ []) actor (record { answers = answers; runs = Some (record { id = id; call = call; opens = opens }) })
  own_begin id call opens well may answers timed all = record {
    follows =
        busy (record { id = id; call = call; opens = opens }) (length xs) (at_push xs _ (length xs) refl)
        (λ reply ended. elim (at_cases xs _ ended.0 _ ended.1) [
          | inl old ↦ (let below = ended_below xs ended.0 id reply well old in omega (arith, below, may.0))
          | inr new ↦ begin_is_no_end id id actor call opens reply new.1
        ]) (timed_longer xs _ actor answers 0 (length xs) timed);
    all = λ it place at. elim (at_cases xs (Begin id actor call opens) place _ at) [
      | inl old ↦ elim (all it place old) [ inl told ↦ inl (told.0, told.1, told.2, told.3) | inr none ↦ absurd (none-some it none) ]
      | inr new ↦ inr (let e = new.1 in ap Some (same_fields id call opens it e))
    ];
  }
    where
      same_fields : (id : ℕ) (call : Call) (opens : Option ℕ) (it : Begun) → Begin id actor call opens ≡ Begin it.id actor it.call it.opens → record { id = id; call = call; opens = opens } ≡ it
      same_fields id call opens it e =
          let ids : id ≡ it.id = cc e in
          let calls : call ≡ it.call = cc e in
          let numbers : opens ≡ it.opens = cc e in
          λ i. record { id = ids i; call = calls i; opens = numbers i }

  -- ---- an end of none of its operations

  other_end : (id : ℕ) (reply : Reply) (talk : Talk) → ((it : Begun) → talk.runs ≡ Some it → it.id ≢ id) → IsLine xs actor talk → IsLine (xs ++ End id reply ∷ []) actor talk
  other_end id reply talk apart line = record {
    follows = by talk.runs refl line.follows;
    all = λ it place at. elim (at_cases xs (End id reply) place _ at) [
      | inl old ↦ line.all it place old
      | inr new ↦ absurd (begin_is_no_end it.id id actor it.call it.opens reply (sym new.1))
    ];
  }
    where
      longer : length xs ≤ length (xs ++ End id reply ∷ [])
      longer = omega (arith, length-append xs (End id reply ∷ []))

      by : (runs : Option Begun) → talk.runs ≡ runs → Follows xs actor talk.answers runs → Follows (xs ++ End id reply ∷ []) actor talk.answers runs
      by None is (idle timed) = idle (timed_wider _ actor talk.answers 0 (length xs) _ longer (timed_longer xs _ actor talk.answers 0 (length xs) timed))
      by (Some it) is (busy _ place at unended timed) =
          busy it place (at_old xs _ place _ at)
          (λ r ended. elim (at_cases xs _ ended.0 _ ended.1) [
            | inl old ↦ unended r (ended.0, old)
            | inr new ↦ apart it is (sym (let e = new.1 in cc e))
          ])
          (timed_longer xs _ actor talk.answers 0 place timed)

  -- ---- the end of its operation

  own_end : (reply : Reply) (answers : List Answer) (it : Begun) (place : ℕ) → BegunAt xs actor place it → AreTimed xs actor answers 0 place →
      ((other : Begun) (there : ℕ) → BegunAt xs actor there other → IsAnswered (record { answers = answers; runs = Some it }) other ⊎ (Some it ≡ Some other)) →
      IsLine (xs ++ End it.id reply ∷ []) actor (record { answers = answers ++ record { of = it; reply = reply } ∷ []; runs = None })
  own_end reply answers it place at timed all =
      let within = slice_get_within xs place _ at in
      let longer = length-append xs (End it.id reply ∷ []) in
      record {
        follows = idle (timed_push _ actor answers 0 place (length (xs ++ End it.id reply ∷ [])) (record { of = it; reply = reply }) (timed_longer xs _ actor answers 0 place timed) (record {
          begins = place;
          ends = length xs;
          begun = at_old xs _ place _ at;
          ended = at_push xs _ (length xs) refl;
          after = omega arith;
          before = omega (arith, within);
          within = omega (arith, longer);
        }));
        all = λ other there at_other. elim (at_cases xs (End it.id reply) there _ at_other) [
          | inl old ↦ elim (all other there old) [
            | inl told ↦ inl (told.0, told.1, at_front answers (record { of = it; reply = reply } ∷ []) told.0 told.1 told.2, told.3)
            | inr runs ↦ inl (length answers, record { of = it; reply = reply }, at_push answers (record { of = it; reply = reply }) (length answers) refl, same_Some it other runs)
          ]
          | inr new ↦ absurd (begin_is_no_end other.id it.id actor other.call other.opens reply (sym new.1))
        ];
      }

  -- ---- each event

  by_begin : (id owner : ℕ) (call : Call) (opens : Option ℕ) → IsWellFormed xs → MayFollow xs (Begin id owner call opens) → (talk : Talk) → IsLine xs actor talk →
      IsLine (xs ++ Begin id owner call opens ∷ []) actor (after_event actor talk (Begin id owner call opens))
  by_begin id owner call opens well may talk line = elim (cases_eq owner actor) [
    | inr apart ↦
        subst (IsLine (xs ++ Begin id owner call opens ∷ []) actor) (sym (ap (λ b. cond b (record talk { runs = Some (record { id = id; call = call; opens = opens }) }) talk)
        (ne_eqb owner actor apart)))
        (other_begin id owner call opens apart talk line)
    | inl own ↦
        subst (IsLine (xs ++ Begin id owner call opens ∷ []) actor) (sym (ap (λ b. cond b (record talk { runs = Some (record { id = id; call = call; opens = opens }) }) talk)
        (eq-eqb owner actor own)))
        (subst (λ a. IsLine (xs ++ Begin id a call opens ∷ []) actor (record talk { runs = Some (record { id = id; call = call; opens = opens }) })) (sym own)
        (its (subst (λ a. MayFollow xs (Begin id a call opens)) own may) talk.runs refl line.follows))
  ]
    where
      its : MayFollow xs (Begin id actor call opens) → (runs : Option Begun) → talk.runs ≡ runs → Follows xs actor talk.answers runs →
          IsLine (xs ++ Begin id actor call opens ∷ []) actor (record talk { runs = Some (record { id = id; call = call; opens = opens }) })
      its may None is (idle timed) = own_begin id call opens well may talk.answers timed (λ it place at. elim (line.all it place at) [ inl told ↦ inl told | inr runs ↦ inr (sym is ∙ runs) ])
      its may (Some it) is (busy _ place at unended timed) = absurd (may.2 it.id ((place, record { actor = actor; call = it.call; opens = it.opens }, at, refl), unended))

  by_end : (id : ℕ) (reply : Reply) (talk : Talk) → IsLine xs actor talk → IsLine (xs ++ End id reply ∷ []) actor (after_event actor talk (End id reply))
  by_end id reply talk line = by talk.runs refl line.follows
    where
      by : (runs : Option Begun) → talk.runs ≡ runs → Follows xs actor talk.answers runs → IsLine (xs ++ End id reply ∷ []) actor (after_end talk id reply runs)
      by None is f = other_end id reply talk (λ it e. absurd (none-some it (sym is ∙ e))) line
      by (Some it) is (busy _ place at unended timed) = elim (cases_eq it.id id) [
        | inr apart ↦
            subst (IsLine (xs ++ End id reply ∷ []) actor) (sym (ap (λ b. cond b (record { answers = talk.answers ++ record { of = it; reply = reply } ∷ []; runs = None }) talk)
            (ne_eqb it.id id apart)))
            (other_end id reply talk (λ other e. subst (λ (x : Begun). x.id ≢ id) (same_Some it other (sym is ∙ e)) apart) line)
        | inl own ↦
            subst (IsLine (xs ++ End id reply ∷ []) actor) (sym (ap (λ b. cond b (record { answers = talk.answers ++ record { of = it; reply = reply } ∷ []; runs = None }) talk)
            (eq-eqb it.id id own)))
            (subst (λ n. IsLine (xs ++ End n reply ∷ []) actor (record { answers = talk.answers ++ record { of = it; reply = reply } ∷ []; runs = None })) own
            (own_end reply talk.answers it place at timed (λ other there e. elim (line.all other there e) [ inl told ↦ inl told | inr runs ↦ inr (sym is ∙ runs) ])))
      ]

pub line_of : (actor : ℕ) (history : List Event) → IsWellFormed history → IsLine history actor (talk_of actor history)
unfolding talk_from
line_of actor =
    by_last (λ xs. IsWellFormed xs → IsLine xs actor (talk_of actor xs)) (λ well. record { follows = idle (omega arith); all = λ it place at. absurd (none-some _ at) })
    (λ xs event before well. subst (IsLine (xs ++ event ∷ []) actor) (sym (talk_push actor xs event))
    (by xs event (front_well xs event well) (last_follows xs event well) (before (front_well xs event well))))
  where
    by : (xs : List Event) (event : Event) → IsWellFormed xs → MayFollow xs event → IsLine xs actor (talk_of actor xs) → IsLine (xs ++ event ∷ []) actor (after_event actor (talk_of actor xs) event)
    by xs (Begin id owner call opens) well may line = by_begin actor xs id owner call opens well may (talk_of actor xs) line
    by xs (End id reply) well may line = by_end actor xs id reply (talk_of actor xs) line
