-- An order without a fault is legal, and one with a fault isn't.
use Rattle.std.proofs.Common.{◌≡◌, ◌≢◌, ◌↔◌, ℕ, Bool, true, false, List, take, Option, Some, None, slice_get, IsNone, inl, inr, refl, sym, ap, ◌∙◌, subst, arith}
use Rattle.std.proofs.lemmas.Bool.{true≢false}
use Rattle.std.proofs.lemmas.Option.{some_pair_parts}
use Rattle.history.specs.declared.calls.Call.{Call}
use Rattle.history.specs.declared.replies.Reply.{Reply}
use Rattle.history.specs.declared.replies.Reply.TheVariants.{NoSlots}
use Rattle.history.specs.declared.events.Event.{Event}
use Rattle.history.specs.declared.events.Event.TheVariants.{Begin}
use Rattle.history.specs.declared.faults.OrderFault.{OrderFault}
use Rattle.history.specs.declared.faults.OrderFault.TheVariants.{WrongEvent, NotBegun, StandsTwice, WasRefused, StandsBehind, NoEffect, OtherReply, Missing}
use Rattle.history.specs.declared.tables.Table.{Table}
use Rattle.history.specs.Worlds.{HandleMap}
use Rattle.history.specs.Effects.{effect}
use Rattle.history.specs.Histories.{Operation, HasEnded, IsWellFormed}
use Rattle.history.specs.Orders.{OrderedAt, Answered, Recalls, Explains, IsLegal}
use Rattle.history.specs.Tables.{Records, recorded}
use Rattle.history.specs.Beginnings.{LeadsTo, MayStand}
use Rattle.history.specs.Faults.{IsAmong, Calls, IsWrongBehind, IsMissing, IsFirstMissing, IsFirstFault, Judges}
use Rattle.history.specs.Replays.{Marks, IsAnswer, IsUnmarked, FindsUnmarked}
use Rattle.history.proofs.Places.{at_within, option_cases}
use Rattle.history.proofs.Begins.{begins_once}
use Rattle.history.proofs.Leading.{must_stand}
use Rattle.history.proofs.Standing.{recorded_of_ended, ended_of_recorded}

-- an order that explains a history leads to the world
leads_of_explains : (hash : ℕ → ℕ) (history : List Event) (order : List ℕ) (world : HandleMap) → Explains hash history order world → LeadsTo hash history order world
leads_of_explains hash history order world explains = record {
  distinct = explains.candidate.distinct;
  has_begun = explains.candidate.has_begun;
  not_refused = explains.candidate.not_refused;
  keeps_time = explains.keeps_time;
  replayed = explains.replayed;
}

-- an operation that is recalled is the one that begins
pub same_calls : (history : List Event) (id : ℕ) (one : Answered) (call : Call) (opens : Option ℕ) → IsWellFormed history → Recalls history id one → Calls history id call opens
    → (one.call ≡ call) × (one.opens ≡ opens)
same_calls history id one call opens well recalls calls =
    let x : Operation = recalls.0.1 in
    let y : Operation = record { actor = calls.1; call = call; opens = opens } in
    let same : recalls.0.0 ≡ calls.0 = begins_once history recalls.0.0 calls.0 id x y well recalls.0.2 calls.2 in
    let here : slice_get history recalls.0.0 ≡ Some (Begin id calls.1 call opens) = subst (λ p. slice_get history p ≡ Some (Begin id calls.1 call opens)) (sym same) calls.2 in
    let events : Begin id x.actor x.call x.opens ≡ Begin id calls.1 call opens = cc (here, recalls.0.2) in
    let same_call : x.call ≡ call = cc events in
    let same_opens : x.opens ≡ opens = cc events in
    (sym recalls.0.3 ∙ same_call, sym recalls.0.4 ∙ same_opens)

-- the effect of what is recalled is that of what begins
same_effects : (hash : ℕ → ℕ) (history : List Event) (id : ℕ) (world : HandleMap) (one : Answered) (call : Call) (opens : Option ℕ) → IsWellFormed history → Recalls history id one
    → Calls history id call opens
    → effect hash world one.call one.opens ≡ effect hash world call opens
same_effects hash history id world one call opens well recalls calls =
    let same = same_calls history id one call opens well recalls calls in
    ap (λ c. effect hash world c one.opens) same.0 ∙ ap (λ h. effect hash world call h) same.1

-- an operation that may stand behind these isn't wrong there
pub not_wrong : (hash : ℕ → ℕ) (history : List Event) (ids : List ℕ) (id : ℕ) (world next : HandleMap) (fault : OrderFault) → IsWellFormed history → MayStand hash history ids id world next
    → ¬ IsWrongBehind hash history ids id world fault
not_wrong hash history ids id world next (WrongEvent place) well stands wrong = wrong
not_wrong hash history ids id world next (NotBegun x) well stands wrong = wrong.1 stands.has_begun
not_wrong hash history ids id world next (StandsTwice x) well stands wrong = stands.is_new wrong.1.0 wrong.1.1
not_wrong hash history ids id world next (WasRefused x) well stands wrong = stands.not_refused wrong.2
not_wrong hash history ids id world next (StandsBehind x other) well stands wrong =
    let among : IsAmong ids other = (wrong.4).among in
    stands.on_time among.0 other among.1 wrong.3
not_wrong hash history ids id world next (NoEffect x obstacle) well stands wrong =
    let one : Answered = stands.answered.0 in
    let none = wrong.2 in
    let same = same_effects hash history id world one none.0 none.1 well stands.answered.1 none.2 in
    let bad : ⊥ = cc (same, none.3, stands.answered.2) in
    bad
not_wrong hash history ids id world next (OtherReply x call told given) well stands wrong =
    let one : Answered = stands.answered.0 in
    let gives = wrong.4 in
    let same = same_effects hash history id world one call gives.0 well stands.answered.1 gives.2 in
    let pairs : Some (one.answer, next) ≡ Some (given, gives.1) = sym stands.answered.2 ∙ same ∙ gives.3 in
    let replies = some_pair_parts one.answer given next gives.1 pairs in
    wrong.3 (sym replies.0 ∙ stands.answered.1.1 told wrong.2)
not_wrong hash history ids id world next (Missing x) well stands wrong = wrong

-- an order in which an operation is wrong isn't legal
not_legal_at : (hash : ℕ → ℕ) (history : List Event) (order : List ℕ) (fault : OrderFault) (place id : ℕ) (world : HandleMap) → IsWellFormed history → OrderedAt order place id
    → LeadsTo hash history (take place order) world → IsWrongBehind hash history (take place order) id world fault → ¬ IsLegal hash history order
not_legal_at hash history order fault place id world well at leads wrong legal =
    let stands = must_stand hash history order place id world legal.0 well leads (leads_of_explains hash history order legal.0 legal.1) at in
    not_wrong hash history (take place order) id world stands.0 fault well stands.1 wrong

-- an order with a fault isn't legal
pub not_legal : (hash : ℕ → ℕ) (history : List Event) (order : List ℕ) (fault : OrderFault) → IsFirstFault hash history order fault → ¬ IsLegal hash history order
not_legal hash history order (WrongEvent place) first legal = first.1.2 (legal.1.well_formed place first.1.0 first.1.1)
not_legal hash history order (NotBegun x) first legal = not_legal_at hash history order (NotBegun x) first.1.0 first.1.1 first.1.2 first.0 first.1.3 first.1.4 first.1.5 legal
not_legal hash history order (StandsTwice x) first legal = not_legal_at hash history order (StandsTwice x) first.1.0 first.1.1 first.1.2 first.0 first.1.3 first.1.4 first.1.5 legal
not_legal hash history order (WasRefused x) first legal = not_legal_at hash history order (WasRefused x) first.1.0 first.1.1 first.1.2 first.0 first.1.3 first.1.4 first.1.5 legal
not_legal hash history order (StandsBehind x y) first legal = not_legal_at hash history order (StandsBehind x y) first.1.0 first.1.1 first.1.2 first.0 first.1.3 first.1.4 first.1.5 legal
not_legal hash history order (NoEffect x o) first legal = not_legal_at hash history order (NoEffect x o) first.1.0 first.1.1 first.1.2 first.0 first.1.3 first.1.4 first.1.5 legal
not_legal hash history order (OtherReply x c r g) first legal =
    not_legal_at hash history order (OtherReply x c r g) first.1.0 first.1.1 first.1.2 first.0 first.1.3 first.1.4 first.1.5 legal
not_legal hash history order (Missing id) first legal =
    let missing = first.2.0 in
    missing.1 (legal.1.candidate.answered id missing.0.0 missing.0.1 missing.0.2)

-- an operation that is wrong behind those before it, which lead to a world, is the first fault
pub wrong_first : (hash : ℕ → ℕ) (history : List Event) (order : List ℕ) (place id : ℕ) (world : HandleMap) (fault : OrderFault) → IsWellFormed history → OrderedAt order place id
    → LeadsTo hash history (take place order) world → IsWrongBehind hash history (take place order) id world fault → IsFirstFault hash history order fault
wrong_first hash history order place id world (WrongEvent at_event) well at leads wrong = absurd wrong
wrong_first hash history order place id world (NotBegun x) well at leads wrong = (well, (place, id, world, at, leads, wrong))
wrong_first hash history order place id world (StandsTwice x) well at leads wrong = (well, (place, id, world, at, leads, wrong))
wrong_first hash history order place id world (WasRefused x) well at leads wrong = (well, (place, id, world, at, leads, wrong))
wrong_first hash history order place id world (StandsBehind x y) well at leads wrong = (well, (place, id, world, at, leads, wrong))
wrong_first hash history order place id world (NoEffect x o) well at leads wrong = (well, (place, id, world, at, leads, wrong))
wrong_first hash history order place id world (OtherReply x c r g) well at leads wrong = (well, (place, id, world, at, leads, wrong))
wrong_first hash history order place id world (Missing x) well at leads wrong = absurd wrong

-- there is no fault exactly where the order is legal
pub none_if_legal : (hash : ℕ → ℕ) (history : List Event) (order : List ℕ) (fault : Option OrderFault) → Judges hash history order fault → IsNone fault ↔ IsLegal hash history order
none_if_legal hash history order None judged = (λ none. judged, λ legal. refl)
none_if_legal hash history order (Some fault) judged = (λ none. absurd (true≢false none), λ legal. absurd (not_legal hash history order fault judged legal))

-- an operation that is missing has no mark
unmarked_of_missing : (history : List Event) (order : List ℕ) (table : Table) (taken : List Bool) (latest id : ℕ) → Records history table → Marks history order taken latest
    → IsMissing history order id
    → IsUnmarked history table taken id
unmarked_of_missing history order table taken latest id known marks missing =
    let answer : Reply = missing.0.0 in
    let below = known.end_has_row id answer missing.0.1 in
    let sizes = known.size in
    let marked = marks.size in
    let row = at_within table.rows.items id below in
    let mark = at_within taken id (omega arith) in
    let told = recorded_of_ended history id row.0 answer (known.row_of id row.0 row.1) missing.0.1 in
    let P : Option Reply → Type 0 = λ o. IsAnswer o in
    let unmarked : slice_get taken id ≡ Some false = elim mark.0 as (λ b. slice_get taken id ≡ Some b → slice_get taken id ≡ Some false) [
      | true ↦ λ at. absurd (missing.1 (marks.marked id at))
      | false ↦ λ at. at
    ] mark.1 in
    (row.0, row.1, unmarked, subst P (sym told) missing.0.2)

-- an operation with an answer and no mark is missing
missing_of_unmarked : (history : List Event) (order : List ℕ) (table : Table) (taken : List Bool) (latest id : ℕ) → Records history table → Marks history order taken latest
    → IsUnmarked history table taken id
    → IsMissing history order id
missing_of_unmarked history order table taken latest id known marks unmarked =
    let row = unmarked.0 in
    let P : Option Reply → Type 0 = λ o. IsAnswer o in
    elim (option_cases (recorded history row.end)) [
      | inl none ↦ let wrong : P None = subst P none unmarked.3 in absurd wrong
      | inr told ↦
          let ended = ended_of_recorded history id row told.0 (known.row_of id row unmarked.1) told.1 in
          ((told.0, ended, subst P told.1 unmarked.3), λ among. marks.unmarked id unmarked.2 among.0 among.1)
    ]

-- the first that has no mark is the first that is missing
pub first_missing : (history : List Event) (order : List ℕ) (table : Table) (taken : List Bool) (latest id : ℕ) → Records history table → Marks history order taken latest
    → FindsUnmarked history table taken (Some id) → IsFirstMissing history order id
first_missing history order table taken latest id known marks found =
    (missing_of_unmarked history order table taken latest id known marks found.0, λ other lt missing. found.1 other lt (unmarked_of_missing history order table taken latest other known marks missing))

-- an order that leads to a world and lacks no answered operation is legal
pub legal_of_all : (hash : ℕ → ℕ) (history : List Event) (order : List ℕ) (table : Table) (taken : List Bool) (latest : ℕ) (world : HandleMap) → Records history table
    → Marks history order taken latest → LeadsTo hash history order world → FindsUnmarked history table taken None → IsLegal hash history order
legal_of_all hash history order table taken latest world known marks leads all =
    let stands : (id : ℕ) (answer : Reply) → HasEnded history id answer → answer ≢ NoSlots → IsAmong order id = λ id answer ended differs.
    let below = known.end_has_row id answer ended in
    let sizes = known.size in
    let marked = marks.size in
    let mark = at_within taken id (omega arith) in
    let row = at_within table.rows.items id below in
    let told = recorded_of_ended history id row.0 answer (known.row_of id row.0 row.1) ended in
    let P : Option Reply → Type 0 = λ o. IsAnswer o in
    elim mark.0 as (λ b. slice_get taken id ≡ Some b → IsAmong order id) [
      | true ↦ λ at. marks.marked id at
      | false ↦ λ at. absurd (all id (row.0, row.1, at, subst P (sym told) differs))
    ] mark.1 in (
      world,
      record {
        well_formed = known.well_formed;
        candidate = record { distinct = leads.distinct; has_begun = leads.has_begun; not_refused = leads.not_refused; answered = stands };
        keeps_time = leads.keeps_time;
        replayed = leads.replayed;
      },
    )
