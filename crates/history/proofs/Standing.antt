-- Which operation may stand next in an order, by its row.
use Rattle.std.proofs.Common.{◌≡◌, ℕ, ◌<◌, inl, inr, Bool, true, false, List, Option, Some, None, slice_get, option_and_then, IsSome, IsSomeAnd, refl, sym, ap, ◌∙◌, subst, arith}
use Rattle.std.proofs.lemmas.Option.{same_Some}
use Rattle.history.specs.declared.replies.Reply.{Reply}
use Rattle.history.specs.declared.replies.Reply.TheVariants.{NoSlots}
use Rattle.history.specs.declared.events.Event.{Event}
use Rattle.history.specs.declared.events.Event.TheVariants.{Begin, End}
use Rattle.history.specs.declared.tables.Row.{Row}
use Rattle.history.specs.Worlds.{HandleMap}
use Rattle.history.specs.Effects.{effect, answer_in}
use Rattle.history.specs.Histories.{Operation, EndsAt, HasBegun, HasEnded, OpensRightly, begun, IsWellFormed}
use Rattle.history.specs.Orders.{OrderedAt, IsBefore, Answered}
use Rattle.history.specs.Tables.{IsRowOf, AreRecords, operation_of, reply_in, recorded}
use Rattle.history.specs.Beginnings.{MayStand}
use Rattle.history.specs.Faults.{IsAmong, BeganLast, IsInTime}
use Rattle.history.specs.Replays.{Marks, Agrees, begun_in, begun_at}
use Rattle.history.proofs.Places.{at_within, option_cases}
use Rattle.history.proofs.Begins.{begins_once}

-- the recorded reply of an operation that ended
pub recorded_of_ended : (history : List Event) (id : ℕ) (row : Row) (answer : Reply) → IsRowOf history id row → HasEnded history id answer → recorded history row.end ≡ Some answer
recorded_of_ended history id row answer is ended =
    ap (λ end. recorded history end) (is.ends_once ended.0 answer ended.1) ∙ ap (λ (event : Option Event). option_and_then reply_in event) ended.1

-- an operation with a recorded reply ended with it
pub ended_of_recorded : (history : List Event) (id : ℕ) (row : Row) (answer : Reply) → IsRowOf history id row → recorded history row.end ≡ Some answer → HasEnded history id answer
ended_of_recorded history id row answer is told = elim (option_cases row.end) [
  | inl none ↦ let nothing : None ≡ Some answer = sym (ap (λ end. recorded history end) none) ∙ told in let wrong : ⊥ = cc nothing in absurd wrong
  | inr some ↦
      let end = is.ends some.0 some.1 in
      let same : end.0 ≡ answer = same_Some end.0 answer (sym (recorded_of_ended history id row end.0 is (some.0, end.1)) ∙ told) in
      (some.0, subst (λ a. EndsAt history some.0 id a) same end.1)
]

-- an operation that has ended ended before this place
pub ended_before : (history : List Event) (id : ℕ) (row : Row) (end latest : ℕ) (answer : Reply) → IsRowOf history id row → EndsAt history end id answer → end < latest
    → IsSomeAnd row.end (λ e. e < latest)
ended_before history id row end latest answer is at lt =
    let P : Option ℕ → Type 0 = λ o. IsSomeAnd o (λ e. e < latest) in
    subst P (sym (is.ends_once end answer at)) lt

-- no place is below the first
no_end_below : (o : Option ℕ) (latest : ℕ) → latest ≡ 0 → ¬ IsSomeAnd o (λ end. end < latest)
no_end_below None latest zero_latest late = late
no_end_below (Some end) latest zero_latest late = omega (arith, late, zero_latest)

abbrev id_begun : Event → ℕ
id_begun (Begin id actor call opens) = id
id_begun (End id answer) = id

-- the operation that begins at a place
begin_in : (o : Option Event) (id : ℕ) → option_and_then begun_in o ≡ Some id → (operation : Operation) × (o ≡ Some (Begin id operation.actor operation.call operation.opens))
begin_in None id is = let wrong : ⊥ = cc is in absurd wrong
begin_in (Some (Begin x actor call opens)) id is = (record { actor = actor; call = call; opens = opens }, ap (λ (j : ℕ). Some (Begin j actor call opens)) (same_Some x id is))
begin_in (Some (End x answer)) id is = let wrong : ⊥ = cc is in absurd wrong

-- an operation that isn't marked doesn't stand there
pub not_among : (history : List Event) (ids : List ℕ) (id : ℕ) (taken : List Bool) (latest : ℕ) → Marks history ids taken latest → id < begun history → ¬ (slice_get taken id ≡ Some true)
    → ¬ IsAmong ids id
not_among history ids id taken latest marks below unmarked among =
    let size = marks.size in
    let mark = at_within taken id (omega arith) in
    elim mark.0 as (λ b. slice_get taken id ≡ Some b → ⊥) [ true ↦ unmarked | false ↦ λ at. marks.unmarked id at among.0 among.1 ] mark.1

-- an operation that ended before the latest begin of those that stand there
pub ended_late : (history : List Event) (ids : List ℕ) (id : ℕ) (row : Row) (taken : List Bool) (latest other : ℕ) → IsWellFormed history → IsRowOf history id row → Marks history ids taken latest
    → IsSomeAnd row.end (λ end. end < latest) → begun_at history latest ≡ Some other → IsBefore history id other × BeganLast history ids other
ended_late history ids id row taken latest other well is marks late begun =
    let P : Option ℕ → Type 0 = λ o. IsSomeAnd o (λ e. e < latest) in
    let begins = begin_in (slice_get history latest) other begun in
    elim (option_cases row.end) [
      | inl none ↦ let nothing : P None = subst P none late in absurd nothing
      | inr some ↦
          let lt : some.0 < latest = subst P some.1 late in
          let end = is.ends some.0 some.1 in
          elim marks.met [
            | inl zero_latest ↦ absurd (omega arith)
            | inr met ↦
                let same : met.1 ≡ other = ap id_begun (same_Some (Begin met.1 (met.2).actor (met.2).call (met.2).opens) (Begin other (begins.0).actor (begins.0).call (begins.0).opens)
                (sym met.4 ∙ begins.1)) in (
                  (some.0, latest, end.0, begins.0, end.1, begins.1, lt),
                  record {
                    among = (met.0, subst (λ j. OrderedAt ids met.0 j) same met.3);
                    last = λ i x p q one two at begins_p begins_q.
                        let here = begins_once history p latest other one begins.0 well begins_p begins.1 in
                        let below = marks.above i x q two at begins_q in
                        omega arith;
                  },
                )
          ]
    ]

-- an operation that hadn't ended before the latest of these begins
pub in_time : (history : List Event) (ids : List ℕ) (id : ℕ) (row : Row) (taken : List Bool) (latest : ℕ) → IsRowOf history id row → Marks history ids taken latest → id < begun history
    → ¬ (slice_get taken id ≡ Some true) → ¬ (recorded history row.end ≡ Some NoSlots) → (IsSome (begun_at history latest) → ¬ IsSomeAnd row.end (λ end. end < latest)) → IsInTime history ids id
in_time history ids id row taken latest is marks below is_new not_refused punctual =
    let never : ¬ IsSomeAnd row.end (λ end. end < latest) = λ late. elim marks.met [
      | inl zero_latest ↦ no_end_below row.end latest zero_latest late
      | inr met ↦
          let begins : begun_at history latest ≡ Some met.1 = ap (λ (o : Option Event). option_and_then begun_in o) met.4 in
          let P : Option ℕ → Type 0 = λ o. IsSome o in
          punctual (subst P (sym begins) refl) late
    ] in
    record {
      is_new = not_among history ids id taken latest marks below is_new;
      not_refused = λ ended. not_refused (recorded_of_ended history id row NoSlots is ended);
      on_time = λ i other at before.
          let above = marks.above i other before.1 before.3 at before.5 in
          never (ended_before history id row before.0 latest before.2 is before.4 (omega (arith, before.6)));
    }

-- an operation in time whose call has an effect that agrees with what was told may stand next
pub may_stand : (hash : ℕ → ℕ) (history : List Event) (ids : List ℕ) (id : ℕ) (world next : HandleMap) (row : Row) (reply : Reply) → IsRowOf history id row → IsInTime history ids id
    → effect hash world row.call row.opens ≡ Some (reply, next) → Agrees (recorded history row.end) reply → MayStand hash history ids id world next
may_stand hash history ids id world next row reply is timed leads agrees =
    let one : Answered = record { call = row.call; opens = row.opens; answer = reply } in
    let tells : (answer : Reply) → HasEnded history id answer → reply ≡ answer = λ answer ended.
    let told : Option Reply → Type 0 = λ o. Agrees o reply in
    subst told (recorded_of_ended history id row answer is ended) agrees in
    record {
      is_new = λ i at. timed.is_new (i, at);
      has_begun = (row.begin, operation_of row, is.begins);
      not_refused = timed.not_refused;
      on_time = timed.on_time;
      answered = (one, ((row.begin, operation_of row, is.begins, refl, refl), tells), leads);
    }

-- an operation that has no row hasn't begun
pub not_begun : (history : List Event) (id : ℕ) (rows : List Row) (running : List (Option ℕ)) → AreRecords history rows running → slice_get rows id ≡ None → ¬ HasBegun history id
not_begun history id rows running known none begun =
    let row = at_within rows id (known.has_row id begun) in
    let wrong : ⊥ = cc (row.1, none) in
    wrong

-- where there is a reply, the call has that effect
pub effect_of_answer : (world next : HandleMap) (e : Option (Reply × HandleMap)) (told : Option Reply) (reply : Reply) → told ≡ Some reply → (told, next) ≡ answer_in world e → e ≡ Some (reply, next)
effect_of_answer world next None told reply some is = let wrong : ⊥ = cc (some, ap (λ (p : Option Reply × HandleMap). p.0) is) in absurd wrong
effect_of_answer world next (Some e) told reply some is =
    let replies : e.0 ≡ reply = same_Some e.0 reply (sym (ap (λ (p : Option Reply × HandleMap). p.0) is) ∙ some) in
    let worlds : e.1 ≡ next = sym (ap (λ (p : Option Reply × HandleMap). p.1) is) in
    ap (λ (r : Reply). Some (r, e.1)) replies ∙ ap (λ (w : HandleMap). Some (reply, w)) worlds

-- and where there is none, the call has none
pub no_effect_of_answer : (world next : HandleMap) (e : Option (Reply × HandleMap)) (told : Option Reply) → told ≡ None → (told, next) ≡ answer_in world e → e ≡ None
no_effect_of_answer world next None told none is = refl
no_effect_of_answer world next (Some e) told none is = let wrong : ⊥ = cc (none, ap (λ (p : Option Reply × HandleMap). p.0) is) in absurd wrong

-- and the world is as it was
pub same_of_no_answer : (world next : HandleMap) (e : Option (Reply × HandleMap)) (told : Option Reply) → told ≡ None → (told, next) ≡ answer_in world e → next ≡ world
same_of_no_answer world next None told none is = ap (λ (p : Option Reply × HandleMap). p.1) is
same_of_no_answer world next (Some e) told none is = let wrong : ⊥ = cc (none, ap (λ (p : Option Reply × HandleMap). p.0) is) in absurd wrong

-- a begin opens a handle as its call wants it
pub opens_rightly : (history : List Event) (id : ℕ) (row : Row) → IsWellFormed history → IsRowOf history id row → OpensRightly row.call row.opens
opens_rightly history id row well is = (well row.begin (Begin id row.actor row.call row.opens) is.begins).1
