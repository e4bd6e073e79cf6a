-- Where nobody else calls on a key of a handle, an actor's calls on it are answered as on a map of this key alone.
use Rattle.std.proofs.Common.{◌≡◌, ◌≢◌, ◌+◌, ◌-◌, ◌&&◌, ◌<◌, ◌≤◌, ◌⊎◌, ℕ, zero, suc, inl, inr, Bool, true, false, not, cond, List, [], ◌∷◌, length, filter, Option}
use Rattle.std.proofs.Common.{Some, None, slice_get, refl, sym, ap, subst, ◌∙◌, arith}
use Rattle.std.proofs.lemmas.Bool.{cases_eq, true≢false, and_parts}
use Rattle.std.proofs.lemmas.Option.{none-some, same_Some}
use Rattle.history.specs.declared.events.Event.{Event}
use Rattle.history.specs.declared.events.Event.TheVariants.{Begin}
use Rattle.history.specs.declared.replies.Reply.{Reply}
use Rattle.history.specs.declared.replies.Reply.TheVariants as reply
use Rattle.history.specs.Histories.{Operation, BeginsAt, EndsAt, HasEnded}
use Rattle.history.specs.Orders.{Answered, Explains, IsBefore, OrderedAt, RecallsEach, Replays}
use Rattle.history.specs.Worlds.{HandleMap, first_world}
use Rattle.history.proofs.Begins.{begins_once}
use Rattle.lock_free.specs.Answers.{Begun, Answer, talk_of}
use Rattle.lock_free.specs.OneKey.{value_in, touches, KeyStep, KeyReplays, is_refused, is_on, HasToItself, OwnKeysAreAnswered}
use Rattle.lock_free.proofs.KeyValues.{touched, untouched, first_value}
use Rattle.lock_free.proofs.Talks.{BegunAt}
use Rattle.lock_free.proofs.Timelines.{Between, AreTimed, IsLine, Follows, idle, busy, line_of}

-- ---- refusals

not_refused : (r : Reply) → r ≢ reply.NoSlots → is_refused r ≡ false
not_refused reply.NoSlots h = absurd (h refl)
not_refused r h = refl

no_slots : (r : Reply) → is_refused r ≡ false → r ≢ reply.NoSlots
no_slots r none e = true≢false (sym (ap is_refused e) ∙ none)

on_by : (t : Bool) (r : Reply) → t && not (is_refused r) ≡ true → (t ≡ true) × (is_refused r ≡ false)
on_by t r e = let parts = and_parts t (not (is_refused r)) e in (parts.0, by (is_refused r) parts.1)
  where
    by : (b : Bool) → not b ≡ true → b ≡ false
    by true e = absurd (true≢false (sym e))
    by false e = refl

-- ---- the answers on the key

abbrev AllOn : ℕ → ℕ → List Answer → Type 0
AllOn handle key [] = Unit {0}
AllOn handle key (a ∷ rest) = (is_on handle key a ≡ true) × AllOn handle key rest

abbrev AmongThem : List Answer → ℕ → Type 0
AmongThem [] id = ⊥
AmongThem (a ∷ rest) id = (a.of.id ≡ id) ⊎ AmongThem rest id

timed_lower : (history : List Event) (actor : ℕ) (ts : List Answer) (low high least : ℕ) → least ≤ low → AreTimed history actor ts low high → AreTimed history actor ts least high
timed_lower history actor [] low high least less h = omega (arith, less, h)
timed_lower history actor (a ∷ ts) low high least less (b, rest) =
    (record { begins = b.begins; ends = b.ends; begun = b.begun; ended = b.ended; after = omega (arith, less, b.after); before = b.before; within = b.within }, rest)

module _ (history : List Event) (actor handle key : ℕ) where
  timed_on : (ts : List Answer) (low high : ℕ) → AreTimed history actor ts low high → AreTimed history actor (filter (is_on handle key) ts) low high
  timed_on [] low high h = h
  timed_on (a ∷ ts) low high (b, rest) = by (is_on handle key a) (timed_on ts (b.ends + 1) high rest)
    where
      by : (t : Bool) → AreTimed history actor (filter (is_on handle key) ts) (b.ends + 1) high →
          AreTimed history actor (cond t (a ∷ filter (is_on handle key) ts) (filter (is_on handle key) ts)) low high
      by true more = (b, more)
      by false more = timed_lower history actor (filter (is_on handle key) ts) (b.ends + 1) high low (omega (arith, b.after, b.before)) more

  all_on : (ts : List Answer) → AllOn handle key (filter (is_on handle key) ts)
  all_on [] = tt
  all_on (a ∷ ts) = by (is_on handle key a) refl (all_on ts)
    where
      by : (t : Bool) → is_on handle key a ≡ t → AllOn handle key (filter (is_on handle key) ts) → AllOn handle key (cond t (a ∷ filter (is_on handle key) ts) (filter (is_on handle key) ts))
      by true e more = (e, more)
      by false e more = more

  among_on : (ts : List Answer) (j : ℕ) (a : Answer) → slice_get ts j ≡ Some a → is_on handle key a ≡ true → AmongThem (filter (is_on handle key) ts) a.of.id
  among_on [] j a at on = absurd (none-some a at)
  among_on (x ∷ ts) zero a at on =
      let same : x ≡ a = same_Some x a at in
      subst (λ t. AmongThem (cond t (x ∷ filter (is_on handle key) ts) (filter (is_on handle key) ts)) a.of.id) (sym (ap (is_on handle key) same ∙ on)) (inl (ap (λ (y : Answer). y.of.id) same))
  among_on (x ∷ ts) (suc j) a at on = by (is_on handle key x) (among_on ts j a at on)
    where
      by : (t : Bool) → AmongThem (filter (is_on handle key) ts) a.of.id → AmongThem (cond t (x ∷ filter (is_on handle key) ts) (filter (is_on handle key) ts)) a.of.id
      by true more = inr more
      by false more = more

  timed_at : (ts : List Answer) (low high j : ℕ) (a : Answer) → AreTimed history actor ts low high → slice_get ts j ≡ Some a → (least : ℕ) × Between history actor least high a
  timed_at [] low high j a h at = absurd (none-some a at)
  timed_at (x ∷ ts) low high zero a (b, rest) at = (low, subst (Between history actor low high) (same_Some x a at) b)
  timed_at (x ∷ ts) low high (suc j) a (b, rest) at = timed_at ts (b.ends + 1) high j a rest at

-- ---- along the order

module _ (hash : ℕ → ℕ) (history : List Event) (order : List ℕ) (world : HandleMap) (ex : Explains hash history order world) (actor handle key : ℕ) (own : HasToItself history actor handle key)
    (high : ℕ) where
  -- each stands in the order, at this place or later
  abbrev AllHere : ℕ → List Answer → Type 0
  AllHere n [] = Unit {0}
  AllHere n (a ∷ ts) = ((i : ℕ) × (n ≤ i) × OrderedAt order i a.of.id) × AllHere n ts

  -- the operation began after all of the answers
  abbrev IsLast : ℕ → Type 0
  IsLast id = (place : ℕ) × (operation : Operation) × BeginsAt history place id operation × (high ≤ place)

  -- what stands in the order from this place on and touches the key was answered, or runs
  abbrev AllMine : ℕ → List Answer → Type 0
  AllMine n ts =
      (i id place : ℕ) (operation : Operation) → n ≤ i → OrderedAt order i id → BeginsAt history place id operation → touches handle key operation.call operation.opens ≡ true →
      AmongThem ts id ⊎ IsLast id

  abbrev told_as : Begun → Operation
  told_as it = record { actor = actor; call = it.call; opens = it.opens }

  -- what ended before another began stands before it
  ordered : (n i x y : ℕ) → OrderedAt order n x → n ≤ i → OrderedAt order i y → IsBefore history y x → i ≡ n
  ordered n i x y at_x low at_y before = elim (cases_eq i n) [ inl same ↦ same | inr apart ↦ absurd (ex.keeps_time n i y x at_x at_y (omega (arith, low, apart)) before) ]

  -- so the first of the answers is the next one in the order
  first_is : (n x : ℕ) (t : Answer) (low : ℕ) → OrderedAt order n x → (b : Between history actor low high t) → (i : ℕ) × (n ≤ i) × OrderedAt order i t.of.id →
      (begins : ℕ) (operation : Operation) → BeginsAt history begins x operation → b.ends < begins → ⊥
  first_is n x t low at b (i, from_n, there) begins operation begun later =
      let before : IsBefore history t.of.id x = (b.ends, begins, t.reply, operation, b.ended, begun, later) in
      let here = ordered n i x t.of.id at from_n there before in
      let same : t.of.id ≡ x = same_Some t.of.id x (sym there ∙ ap (slice_get order) here ∙ at) in
      let place = begins_once history b.begins begins x (told_as t.of) operation ex.well_formed (subst (λ id. BeginsAt history b.begins id (told_as t.of)) same b.begun) begun in
      omega (arith, place, b.before, later)

  -- one that is among the later answers began after the first one ended
  later_began : (ts : List Answer) (low x : ℕ) → AreTimed history actor ts low high → AmongThem ts x → (begins : ℕ) × (it : Begun) × BeginsAt history begins x (told_as it) × (low ≤ begins)
  later_began [] low x h among = absurd among
  later_began (a ∷ ts) low x (b, rest) (inl here) = (b.begins, a.of, subst (λ id. BeginsAt history b.begins id (told_as a.of)) here b.begun, b.after)
  later_began (a ∷ ts) low x (b, rest) (inr among) =
      let (begins, it, begun, after) = later_began ts (b.ends + 1) x rest among in (begins, it, begun, omega (arith, after, b.before, b.after))

  -- what isn't the next in the order stands later
  all_later : (n x : ℕ) → OrderedAt order n x → (ts : List Answer) → (AmongThem ts x → ⊥) → AllHere n ts → AllHere (n + 1) ts
  all_later n x at [] none here = tt
  all_later n x at (a ∷ ts) none ((i, low, there), rest) = (
    (
      i,
      elim (cases_eq i n) [
        | inl same ↦ absurd (none (inl (same_Some a.of.id x (sym there ∙ ap (slice_get order) same ∙ at))))
        | inr apart ↦ omega (arith, low, apart)
      ],
      there,
    ),
    all_later n x at ts (λ among. none (inr among)) rest,
  )

  all_touch : (ts : List Answer) (low x : ℕ) → AreTimed history actor ts low high → AllOn handle key ts → AmongThem ts x →
      (begins : ℕ) × (it : Begun) × BeginsAt history begins x (told_as it) × (touches handle key it.call it.opens ≡ true)
  all_touch [] low x h on among = absurd among
  all_touch (a ∷ ts) low x (b, rest) (on, others) (inl here) =
      (b.begins, a.of, subst (λ id. BeginsAt history b.begins id (told_as a.of)) here b.begun, (on_by (touches handle key a.of.call a.of.opens) a.reply on).0)
  all_touch (a ∷ ts) low x (b, rest) (on, others) (inr among) = all_touch ts (b.ends + 1) x rest others among

  -- two begins of an operation say the same
  one_call : (p q id : ℕ) (a b : Operation) → BeginsAt history p id a → BeginsAt history q id b → (a.call ≡ b.call) × (a.opens ≡ b.opens)
  one_call p q id a b at_p at_q =
      let here = begins_once history p q id a b ex.well_formed at_p at_q in
      let events : Some (Begin id a.actor a.call a.opens) ≡ Some (Begin id b.actor b.call b.opens) = sym at_p ∙ ap (slice_get history) here ∙ at_q in
      let calls : a.call ≡ b.call = cc events in
      let numbers : a.opens ≡ b.opens = cc events in
      (calls, numbers)

  scan : (ids : List ℕ) (calls : List Answered) (n : ℕ) (w : HandleMap) (ts : List Answer) (low : ℕ) → ((i : ℕ) → slice_get ids i ≡ slice_get order (n + i)) → RecallsEach history ids calls →
      Replays hash calls w world → AreTimed history actor ts low high → AllOn handle key ts → AllHere n ts → AllMine n ts → (last : Option ℕ) × KeyReplays ts (value_in w handle key) last
  scan ids calls n w [] low at recalls replays timed on here mine = (value_in w handle key, refl)
  scan [] calls n w (t ∷ ts) low at recalls replays timed on here mine =
      let (i, low, there) = here.0 in
      let sum : n + (i - n) ≡ i = omega (arith, low) in
      absurd (none-some t.of.id (at (i - n) ∙ ap (slice_get order) sum ∙ there))
  scan (x ∷ ids) [] n w (t ∷ ts) low at recalls replays timed on here mine = absurd recalls
  scan (x ∷ ids) (one ∷ calls) n w (t ∷ ts) low at ((told, answered), recalls) (next, effect, replays) timed on here mine =
      by (λ later least timed_later on_later here_later mine_later.
      scan ids calls (n + 1) next later least (λ i. at (suc i) ∙ ap (slice_get order) (omega arith)) recalls replays timed_later on_later here_later mine_later)
      (touches handle key one.call one.opens) refl
    where
      Rest : Type 0
      Rest = (later : List Answer) (least : ℕ) → AreTimed history actor later least high → AllOn handle key later → AllHere (n + 1) later → AllMine (n + 1) later →
          (last : Option ℕ) × KeyReplays later (value_in next handle key) last

      x_at : OrderedAt order n x
      x_at = ap (slice_get order) (omega arith) ∙ sym (at 0)

      its_touch : touches handle key one.call one.opens ≡ touches handle key told.1.call told.1.opens
      its_touch = ap (λ c. touches handle key c one.opens) (sym told.3) ∙ ap (λ o. touches handle key told.1.call o) (sym told.4)

      -- the next one in the order touches the key, and is the first of the answers
      step_on : Rest → touches handle key one.call one.opens ≡ true → t.of.id ≡ x → (last : Option ℕ) × KeyReplays (t ∷ ts) (value_in w handle key) last
      step_on rest touching is =
          let b = timed.0 in
          let same = one_call told.0 b.begins x told.1 (told_as t.of) told.2 (subst (λ id. BeginsAt history b.begins id (told_as t.of)) is b.begun) in
          let said = answered t.reply (b.ends, subst (λ id. EndsAt history b.ends id t.reply) is b.ended) in
          let stepped = touched hash w next one.opens one.answer handle key one.call effect touching in
          let ours = subst (λ r. KeyStep t.of.call (value_in w handle key) r (value_in next handle key)) said
          (subst (λ c. KeyStep c (value_in w handle key) one.answer (value_in next handle key)) (sym told.3 ∙ same.0) stepped) in
          let apart : AmongThem ts x → ⊥ = λ among.
          (let (begins, it, begun, after) = later_began ts (b.ends + 1) x timed.1 among in first_is n x t low x_at b here.0 begins (told_as it) begun (omega (arith, after))) in
          let more = rest ts (b.ends + 1) timed.1 on.1 (all_later n x x_at ts apart here.1)
          (λ i id place operation from_n there begun on_it.
          elim (mine i id place operation (omega (arith, from_n)) there begun on_it) [
            | inl (inl first) ↦
                (let again = ex.candidate.distinct i n x (there ∙ ap Some (sym first ∙ is)) x_at in absurd (omega (arith, again, from_n)))
            | inl (inr among) ↦ inl among
            | inr late ↦ inr late
          ]) in
          (more.0, (value_in next handle key, ours, more.1))

      by : Rest → (b : Bool) → touches handle key one.call one.opens ≡ b → (last : Option ℕ) × KeyReplays (t ∷ ts) (value_in w handle key) last
      by rest true touching =
          elim (mine n x told.0 told.1 (omega arith) x_at told.2 (sym its_touch ∙ touching)) [
            | inl (inl first) ↦ step_on rest touching first
            | inl (inr among) ↦
                (let b = timed.0 in
                let (begins, it, begun, after) = later_began ts (b.ends + 1) x timed.1 among in
                absurd (first_is n x t low x_at b here.0 begins (told_as it) begun (omega (arith, after))))
            | inr late ↦ (let b = timed.0 in absurd (first_is n x t low x_at b here.0 late.0 late.1 late.2 (omega (arith, b.within, late.3))))
          ]
      by rest false none =
          let apart : AmongThem (t ∷ ts) x → ⊥ = λ among.
          (let (begins, it, begun, touch) = all_touch (t ∷ ts) low x timed on among in
          let same = one_call told.0 begins x told.1 (told_as it) told.2 begun in
          true≢false (sym touch ∙ ap (λ c. touches handle key c it.opens) (sym same.0) ∙ ap (λ o. touches handle key told.1.call o) (sym same.1) ∙ sym its_touch ∙ none)) in
          let more = rest (t ∷ ts) low timed on (all_later n x x_at (t ∷ ts) apart here)
          (λ i id place operation from_n there begun touching. mine i id place operation (omega (arith, from_n)) there begun touching) in
          subst (λ v. (last : Option ℕ) × KeyReplays (t ∷ ts) v last) (untouched hash w next one.opens one.answer handle key one.call effect none) more

  -- ---- from the start

  here_all : (ts : List Answer) (low : ℕ) → AreTimed history actor ts low high → AllOn handle key ts → AllHere 0 ts
  here_all [] low timed on = tt
  here_all (a ∷ ts) low (b, rest) (on, others) =
      let (i, at) = ex.candidate.answered a.of.id a.reply (b.ends, b.ended) (no_slots a.reply (on_by (touches handle key a.of.call a.of.opens) a.reply on).1) in
      ((i, omega arith, at), here_all ts (b.ends + 1) rest others)

  module _ (line : IsLine history actor (talk_of actor history)) (timed : AreTimed history actor (talk_of actor history).answers 0 high)
      (late : (it : Begun) → (talk_of actor history).runs ≡ Some it → (place : ℕ) × BegunAt history actor place it × (high ≤ place)) where
    abbrev ts : List Answer
    ts = filter (is_on handle key) (talk_of actor history).answers

    mine_all : AllMine 0 ts
    mine_all i id place operation low there begun touching =
        let its = own place id operation begun touching in
        let it : Begun = record { id = id; call = operation.call; opens = operation.opens } in
        elim (line.all it place (subst (λ a. slice_get history place ≡ Some (Begin id a operation.call operation.opens)) its begun)) [
          | inl told ↦
              (let a = told.1 in
              let b = (timed_at history actor handle key (talk_of actor history).answers 0 high told.0 a timed told.2).1 in
              let ended : HasEnded history id a.reply = (b.ends, subst (λ (x : Begun). EndsAt history b.ends x.id a.reply) told.3 b.ended) in
              let kept = not_refused a.reply (λ none. ex.candidate.not_refused i id there (subst (HasEnded history id) none ended)) in
              let touch : touches handle key a.of.call a.of.opens ≡ true = ap (λ (x : Begun). touches handle key x.call x.opens) told.3 ∙ touching in
              let on : is_on handle key a ≡ true = ap (λ t. t && not (is_refused a.reply)) touch ∙ ap (λ r. not r) kept in
              inl (subst (AmongThem ts) (ap (λ (x : Begun). x.id) told.3) (among_on history actor handle key (talk_of actor history).answers told.0 a told.2 on)))
          | inr runs ↦ (let (p, at, later) = late it runs in inr (p, told_as it, at, later))
        ]

    replayed : (last : Option ℕ) × KeyReplays ts None last
    replayed =
        let (calls, recalls, replays) = ex.replayed in
        let timed_ts = timed_on history actor handle key (talk_of actor history).answers 0 high timed in
        let on = all_on history actor handle key (talk_of actor history).answers in
        subst (λ v. (last : Option ℕ) × KeyReplays ts v last) (first_value handle key)
        (scan order calls 0 first_world ts 0 (λ i. ap (slice_get order) (omega arith)) recalls replays timed_ts on (here_all ts 0 timed_ts on) mine_all)

pub own_keys_are_answered : OwnKeysAreAnswered
own_keys_are_answered hash history order world ex actor handle key own = by (talk_of actor history).runs refl line.follows
  where
    line : IsLine history actor (talk_of actor history)
    line = line_of actor history ex.well_formed

    by : (runs : Option Begun) → (talk_of actor history).runs ≡ runs → Follows history actor (talk_of actor history).answers runs →
        (last : Option ℕ) × KeyReplays (filter (is_on handle key) (talk_of actor history).answers) None last
    by None is (idle timed) = replayed hash history order world ex actor handle key own (length history) line timed (λ it runs. absurd (none-some it (sym is ∙ runs)))
    by (Some x) is (busy _ place at unended timed) =
        replayed hash history order world ex actor handle key own place line timed
        (λ it runs. (place, subst (BegunAt history actor place) (same_Some x it (sym is ∙ runs)) at, omega arith))
