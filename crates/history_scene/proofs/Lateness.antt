-- Which operations are late, going through the order from its end.
use Rattle.std.proofs.Common.{◌≡◌, ◌≢◌, ◌↔◌, ℕ, ◌+◌, ◌<◌, ◌≤◌, min, Bool, true, false, IsTrue, nat_lt, ◌⊎◌, inl, inr, List, length, set, Option, Some, None, refl, sym, ap, ◌∙◌, subst}
use Rattle.std.proofs.Common.{arith, get_or}
use Rattle.std.proofs.lemmas.Bool.{cases_order, cases_lt, false≢true}
use Rattle.std.proofs.lemmas.Option.{slice_get-get_or, same_Some}
use Rattle.history.specs.declared.replies.Reply.{Reply}
use Rattle.history.specs.declared.replies.Reply.TheVariants as reply
use Rattle.history.specs.declared.events.Event.{Event}
use Rattle.history.specs.declared.events.Event.TheVariants.{Begin}
use Rattle.history.specs.declared.tables.Row.{Row}
use Rattle.history.specs.Histories.{Operation, BeginsAt, EndsAt, HasBegun}
use Rattle.history.specs.Orders.{OrderedAt}
use Rattle.history.specs.Tables.{IsRowOf, operation_of, recorded}
use Rattle.history.proofs.Places.{at_set_cases, option_cases}
use Rattle.history.proofs.Standing.{recorded_of_ended, ended_of_recorded}
use Rattle.history_scene.specs.Stands.{IsSwapAnswered, IsLate, swaps_root}
use Rattle.history_scene.specs.Placing.{IsEarliest, AreLate, is_behind, earlier, end_of_answered, end_of_swap, swap_end}
use Rattle.history_scene.proofs.Placed.{same_id}

-- an operation that begins is that of its row
begun_row : (history : List Event) (id : ℕ) (row : Row) (begin : ℕ) (operation : Operation) → IsRowOf history id row → BeginsAt history begin id operation → operation.call ≡ row.call
begun_row history id row begin operation is begins =
    let here : begin ≡ row.begin = is.begins_once begin operation begins in
    let there : BeginsAt history begin id (operation_of row) = subst (λ p. BeginsAt history p id (operation_of row)) (sym here) is.begins in
    let events : Begin id operation.actor operation.call operation.opens ≡ Begin id row.actor row.call row.opens = cc (there, begins) in
    let calls : operation.call ≡ row.call = cc events in
    calls

end_answered : (answer : Reply) (end : ℕ) → answer ≢ reply.NoSlots → end_of_answered (Some answer) (Some end) ≡ Some end
end_answered (reply.Found v) end ne = refl
end_answered (reply.Truth b) end ne = refl
end_answered reply.Crowded end ne = refl
end_answered (reply.Opened h) end ne = refl
end_answered reply.Closed end ne = refl
end_answered reply.Cleared end ne = refl
end_answered (reply.Pairs p) end ne = refl
end_answered (reply.Count n) end ne = refl
end_answered reply.NoSlots end ne = absurd (ne refl)

-- what an answered swap's row says
swap_of_answered : (history : List Event) (id : ℕ) (row : Row) (end : ℕ) → IsRowOf history id row → IsSwapAnswered history id end → swap_end history row ≡ Some end
swap_of_answered history id row end is swaps =
    let calls = begun_row history id row swaps.0.0 swaps.0.1 is swaps.0.2 in
    let swaps_it : swaps_root row.call ≡ true = ap swaps_root (sym calls) ∙ swaps.0.3 in
    let answer : Reply = swaps.1.0 in
    let told = recorded_of_ended history id row answer is (end, swaps.1.1) in
    let ends : row.end ≡ Some end = is.ends_once end answer swaps.1.1 in
    ap (λ b. end_of_swap b (recorded history row.end) row.end) swaps_it ∙ ap (λ o. end_of_answered o row.end) told ∙ ap (λ o. end_of_answered (Some answer) o) ends
    ∙ end_answered answer end swaps.1.2

found_answered : (told : Option Reply) (ends : Option ℕ) (end : ℕ) → end_of_answered told ends ≡ Some end → (answer : Reply) × (told ≡ Some answer) × (answer ≢ reply.NoSlots) × (ends ≡ Some end)
found_answered None ends end is = let wrong : ⊥ = cc is in absurd wrong
found_answered (Some reply.NoSlots) ends end is = let wrong : ⊥ = cc is in absurd wrong
found_answered (Some (reply.Found v)) ends end is = (reply.Found v, refl, λ e. let wrong : ⊥ = cc e in wrong, is)
found_answered (Some (reply.Truth b)) ends end is = (reply.Truth b, refl, λ e. let wrong : ⊥ = cc e in wrong, is)
found_answered (Some reply.Crowded) ends end is = (reply.Crowded, refl, λ e. let wrong : ⊥ = cc e in wrong, is)
found_answered (Some (reply.Opened h)) ends end is = (reply.Opened h, refl, λ e. let wrong : ⊥ = cc e in wrong, is)
found_answered (Some reply.Closed) ends end is = (reply.Closed, refl, λ e. let wrong : ⊥ = cc e in wrong, is)
found_answered (Some reply.Cleared) ends end is = (reply.Cleared, refl, λ e. let wrong : ⊥ = cc e in wrong, is)
found_answered (Some (reply.Pairs p)) ends end is = (reply.Pairs p, refl, λ e. let wrong : ⊥ = cc e in wrong, is)
found_answered (Some (reply.Count n)) ends end is = (reply.Count n, refl, λ e. let wrong : ⊥ = cc e in wrong, is)

found_swap : (swaps : Bool) (told : Option Reply) (ends : Option ℕ) (end : ℕ) → end_of_swap swaps told ends ≡ Some end → (swaps ≡ true) × (end_of_answered told ends ≡ Some end)
found_swap false told ends end is = let wrong : ⊥ = cc is in absurd wrong
found_swap true told ends end is = (refl, is)

answered_of_swap : (history : List Event) (id : ℕ) (row : Row) (end : ℕ) → IsRowOf history id row → swap_end history row ≡ Some end → IsSwapAnswered history id end
answered_of_swap history id row end is found =
    let swaps = found_swap (swaps_root row.call) (recorded history row.end) row.end end found in
    let told = found_answered (recorded history row.end) row.end end swaps.1 in
    let ended = ended_of_recorded history id row told.0 is told.1 in
    let same : ended.0 ≡ end = same_Some ended.0 end (sym (is.ends_once ended.0 told.0 ended.1) ∙ told.3) in
    ((row.begin, operation_of row, is.begins, swaps.0), (told.0, subst (λ k. EndsAt history k id told.0) same ended.1, told.2))

-- no operation that hasn't begun is a swap
not_swap : (history : List Event) (id end : ℕ) → ¬ HasBegun history id → ¬ IsSwapAnswered history id end
not_swap history id end never swaps = never (swaps.0.0, swaps.0.1, swaps.0.2)

-- a place from this one on is this one or behind it
from_here : (n i : ℕ) → n ≤ i → (i ≡ n) ⊎ (n + 1 ≤ i)
from_here n i le = elim (cases_order i n) [
  | inl same ↦ inl same
  | inr differ ↦ elim differ [ inl below ↦ absurd (omega arith) | inr above ↦ inr (omega arith) ]
]

-- the earliest with a place more whose operation is no answered swap
earliest_same : (history : List Event) (order : List ℕ) (n id : ℕ) (earliest : Option ℕ) → OrderedAt order n id → ((end : ℕ) → ¬ IsSwapAnswered history id end)
    → IsEarliest history order (n + 1) earliest
    → IsEarliest history order n earliest
earliest_same history order n id None at no_swap is = λ i other end le at_i swaps. elim (from_here n i le) [
  | inl same ↦ no_swap end (subst (λ k. IsSwapAnswered history k end) (sym (same_id order i n id other at at_i same)) swaps)
  | inr behind ↦ is i other end behind at_i swaps
]
earliest_same history order n id (Some first) at no_swap is = (
  (is.0.0, is.0.1, omega (arith, is.0.2), is.0.3, is.0.4),
  λ i other end le at_i swaps. elim (from_here n i le) [
    | inl same ↦ absurd (no_swap end (subst (λ k. IsSwapAnswered history k end) (sym (same_id order i n id other at at_i same)) swaps))
    | inr behind ↦ is.1 i other end behind at_i swaps
  ],
)

-- and with one that is, which was answered then
earliest_swap : (history : List Event) (order : List ℕ) (n id here : ℕ) (earliest : Option ℕ) → OrderedAt order n id → IsSwapAnswered history id here
    → ((end : ℕ) → IsSwapAnswered history id end → end ≡ here) → IsEarliest history order (n + 1) earliest → IsEarliest history order n (earlier earliest (Some here))
earliest_swap history order n id here None at swaps once is = (
  (n, id, omega arith, at, swaps),
  λ i other end le at_i swaps_i. elim (from_here n i le) [
    | inl same ↦ let e = once end (subst (λ k. IsSwapAnswered history k end) (sym (same_id order i n id other at at_i same)) swaps_i) in omega arith
    | inr behind ↦ absurd (is i other end behind at_i swaps_i)
  ],
)
earliest_swap history order n id here (Some first) at swaps once is = (
  elim (cases_lt here first) [
    | inl sooner ↦
        let now : min first here ≡ here = omega arith in
        (n, id, omega arith, at, subst (λ k. IsSwapAnswered history id k) (sym now) swaps)
    | inr later ↦
        let now : min first here ≡ first = omega arith in
        (is.0.0, is.0.1, omega (arith, is.0.2), is.0.3, subst (λ k. IsSwapAnswered history is.0.1 k) (sym now) is.0.4)
  ],
  λ i other end le at_i swaps_i. elim (from_here n i le) [
    | inl same ↦ let e = once end (subst (λ k. IsSwapAnswered history k end) (sym (same_id order i n id other at at_i same)) swaps_i) in omega arith
    | inr behind ↦ let before = is.1 i other end behind at_i swaps_i in omega arith
  ],
)

no_more : (earliest : Option ℕ) → earlier earliest None ≡ earliest
no_more None = refl
no_more (Some first) = refl

earliest_row : (history : List Event) (order : List ℕ) (n id : ℕ) (row : Row) (earliest : Option ℕ) → IsRowOf history id row → OrderedAt order n id → IsEarliest history order (n + 1) earliest
    → IsEarliest history order n (earlier earliest (swap_end history row))
earliest_row history order n id row earliest is at before =
    let P : Option ℕ → Type 0 = λ o. IsEarliest history order n o in
    elim (option_cases (swap_end history row)) [
      | inl none ↦
          let no_swap : (end : ℕ) → ¬ IsSwapAnswered history id end = λ end swaps. let wrong : ⊥ = cc (swap_of_answered history id row end is swaps, none) in wrong in
          subst P (sym (ap (earlier earliest) none ∙ no_more earliest)) (earliest_same history order n id earliest at no_swap before)
      | inr some ↦
          subst P (sym (ap (earlier earliest) some.1)) (earliest_swap history order n id some.0 earliest at (answered_of_swap history id row some.0 is some.1)
          (λ end swaps. same_Some end some.0 (sym (swap_of_answered history id row end is swaps) ∙ some.1)) before)
    ]

lt_true : (a b : ℕ) → a < b → nat_lt a b ≡ true
lt_true a b lt = grind arith

true_lt : (a b : ℕ) → nat_lt a b ≡ true → a < b
true_lt a b is = grind arith

-- whether the operation at this place is late, by its row
late_row : (history : List Event) (order : List ℕ) (n id : ℕ) (row : Row) (earliest ends : Option ℕ) → IsRowOf history id row → row.end ≡ ends → IsEarliest history order (n + 1) earliest
    → IsTrue (is_behind earliest ends) ↔ IsLate history order n id
late_row history order n id row None ends is end before = (λ wrong. absurd (false≢true wrong), λ late. absurd (before late.0 late.1 late.2 (omega (arith, late.3)) late.4 late.5))
late_row history order n id row (Some first) None is end before = (
  λ _. (
    before.0.0,
    before.0.1,
    first,
    omega (arith, before.0.2),
    before.0.3,
    before.0.4,
    λ last answer ended. let some : row.end ≡ Some last = is.ends_once last answer ended in
        let wrong : ⊥ = cc (some, end) in absurd wrong,
  ),
  λ _. refl,
)
late_row history order n id row (Some first) (Some mine) is end before = (
  λ yes_behind.
      let lt : first < mine = true_lt first mine yes_behind in (
        before.0.0,
        before.0.1,
        first,
        omega (arith, before.0.2),
        before.0.3,
        before.0.4,
        λ last answer ended. let same : last ≡ mine = same_Some last mine (sym (is.ends_once last answer ended) ∙ end) in omega arith,
      ),
  λ late.
      let le : first ≤ late.2 = before.1 late.0 late.1 late.2 (omega (arith, late.3)) late.4 late.5 in
      let mine_ends = is.ends mine end in
      let lt : late.2 < mine = late.6 mine mine_ends.0 mine_ends.1 in
      lt_true first mine (omega arith),
)

-- an operation that hasn't begun is passed over
late_skip : (history : List Event) (order : List ℕ) (n id : ℕ) (late : List Bool) → OrderedAt order n id → ¬ HasBegun history id → AreLate history order (n + 1) late → AreLate history order n late
late_skip history order n id late at never known = λ place other is_late le at_place begun at_late. elim (from_here n place le) [
  | inl same ↦ absurd (never (subst (λ k. HasBegun history k) (sym (same_id order place n id other at at_place same)) begun))
  | inr behind ↦ known place other is_late behind at_place begun at_late
]

-- and another is noted
late_note : (history : List Event) (order : List ℕ) (n id : ℕ) (row : Row) (earliest : Option ℕ) (late : List Bool) → IsRowOf history id row → OrderedAt order n id
    → IsEarliest history order (n + 1) earliest → AreLate history order (n + 1) late → AreLate history order n (set late n (is_behind earliest row.end))
late_note history order n id row earliest late is at before known = λ place other is_late le at_place begun at_late.
    elim (at_set_cases late n place (is_behind earliest row.end) is_late at_late) [
      | inl new ↦
          let one : id ≡ other = same_id order place n id other at at_place new.0 in
          let here = late_row history order n id row earliest row.end is refl before in
          let there : IsTrue is_late ↔ IsLate history order n id = subst (λ (b : Bool). IsTrue b ↔ IsLate history order n id) new.1 here in
          subst (λ k. IsTrue is_late ↔ IsLate history order k other) (sym new.0) (subst (λ k. IsTrue is_late ↔ IsLate history order n k) one there)
      | inr old ↦ elim (from_here n place le) [
        | inl same ↦ absurd (old.0 same)
        | inr behind ↦ known place other is_late behind at_place begun old.1
      ]
    ]

-- one place of the order more, where the operation of this row stands
pub one_begun : (history : List Event) (order : List ℕ) (place n : ℕ) (row : Row) (earliest : Option ℕ) (late : List Bool) → place ≡ n + 1 → n < length order → IsRowOf history (get_or order n 0) row
    → IsEarliest history order place earliest → AreLate history order place late
    → IsEarliest history order n (earlier earliest (swap_end history row)) × AreLate history order n (set late n (is_behind earliest row.end))
one_begun history order place n row earliest late next within is before known =
    let at : OrderedAt order n (get_or order n 0) = slice_get-get_or order n 0 within in
    let first = subst (λ k. IsEarliest history order k earliest) next before in (
      earliest_row history order n (get_or order n 0) row earliest is at first,
      late_note history order n (get_or order n 0) row earliest late is at first (subst (λ k. AreLate history order k late) next known),
    )

-- where none stands that has begun
pub one_unbegun : (history : List Event) (order : List ℕ) (place n : ℕ) (earliest : Option ℕ) (late : List Bool) → place ≡ n + 1 → n < length order → ¬ HasBegun history (get_or order n 0)
    → IsEarliest history order place earliest → AreLate history order place late → IsEarliest history order n earliest × AreLate history order n late
one_unbegun history order place n earliest late next within never before known =
    let at : OrderedAt order n (get_or order n 0) = slice_get-get_or order n 0 within in (
      earliest_same history order n (get_or order n 0) earliest at (λ end. not_swap history (get_or order n 0) end never) (subst (λ k. IsEarliest history order k earliest) next before),
      late_skip history order n (get_or order n 0) late at never (subst (λ k. AreLate history order k late) next known),
    )
