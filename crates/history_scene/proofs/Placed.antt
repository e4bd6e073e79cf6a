-- Where operations stand in the beginning of an order, as it goes on.
use Rattle.std.proofs.Common.{◌≡◌, ◌≢◌, ℕ, ◌+◌, ◌<◌, ◌≤◌, max, ◌⊎◌, inl, inr, List, length, Option, Some, None, slice_get, refl, sym, ◌∙◌, subst, arith, length-set}
use Rattle.std.specs.Ordering.{ord_max, nat_cmp}
use Rattle.std.proofs.lemmas.Grind.{common_steps}
use Rattle.std.proofs.lemmas.Bool.{cases_order, cases_lt}
use Rattle.std.proofs.lemmas.Option.{slice_get_within, same_Some}
use Rattle.history.specs.declared.events.Event.{Event}
use Rattle.history.specs.declared.tables.Row.{Row}
use Rattle.history.specs.Histories.{BeginsAt, HasBegun}
use Rattle.history.specs.Orders.{OrderedAt}
use Rattle.history.specs.Tables.{IsRowOf, AreRecords, operation_of}
use Rattle.history.proofs.Places.{at_set_cases, at_within}
use Rattle.history.proofs.Standing.{not_begun}
use Rattle.history_scene.specs.declared.stands.Place.{Place}
use Rattle.history_scene.specs.Stands.{IsLatestBegin}
use Rattle.history_scene.specs.Placing.{IsPlaced, ArePlaced, IsLatestOf, noted_at, noted}

-- a place below the next number is below this one, or is it
pub below_next : (i n : ℕ) → i < n + 1 → (i ≡ n) ⊎ (i < n)
below_next i n lt = elim (cases_order i n) [
  | inl same ↦ inl same
  | inr differ ↦ elim differ [ inl below ↦ inr below | inr above ↦ absurd (omega arith) ]
]

-- two operations at one place are one
pub same_id : (order : List ℕ) (i n id other : ℕ) → OrderedAt order n id → OrderedAt order i other → i ≡ n → id ≡ other
same_id order i n id other at_n at_i same = same_Some id other (sym at_n ∙ subst (λ k. slice_get order k ≡ Some other) same at_i)

-- an operation that stood there or stands at the next place alone
placed_more : (history : List Event) (order : List ℕ) (n id other : ℕ) (place : Option Place) → OrderedAt order n id → (place ≡ None → id ≢ other) → IsPlaced history order n other place
    → IsPlaced history order (n + 1) other place
placed_more history order n id other None at differs placed = λ i lt at_i. elim (below_next i n lt) [
  | inl same ↦ differs refl (same_id order i n id other at at_i same)
  | inr below ↦ placed i below at_i
]
placed_more history order n id other (Some p) at differs placed = (omega (arith, placed.0), placed.1, placed.2)

-- an operation that hasn't begun is passed over
pub placed_skip : (history : List Event) (order : List ℕ) (n id latest : ℕ) (places : List (Option Place)) (rows : List Row) (running : List (Option ℕ)) → AreRecords history rows running
    → OrderedAt order n id → slice_get rows id ≡ None → length places ≡ length rows → ArePlaced history order n places → IsLatestOf history order n latest
    → ArePlaced history order (n + 1) places × IsLatestOf history order (n + 1) latest
placed_skip history order n id latest places rows running known at none size placed last =
    let never : ¬ HasBegun history id = not_begun history id rows running known none in (
      λ other place at_other.
          let below = slice_get_within places other place at_other in
          let row = at_within rows other (omega arith) in
          placed_more history order n id other place at
          (λ _ same. let here : slice_get rows id ≡ Some row.0 = subst (λ k. slice_get rows k ≡ Some row.0) (sym same) row.1 in let wrong : ⊥ = cc (here, none) in wrong)
          (placed other place at_other),
      record {
        above = λ i other begin operation lt at_i begins. elim (below_next i n lt) [
          | inl same ↦ absurd (never (begin, operation, subst (λ k. BeginsAt history begin k operation) (sym (same_id order i n id other at at_i same)) begins))
          | inr below ↦ last.above i other begin operation below at_i begins
        ];
        met = elim last.met [ inl zero_latest ↦ inl zero_latest | inr met ↦ inr (met.0, met.1, met.2, omega (arith, met.3), met.4, met.5) ];
      },
    )

-- the last begin with an operation more
latest_more : (history : List Event) (order : List ℕ) (n id latest : ℕ) (row : Row) → IsRowOf history id row → OrderedAt order n id → IsLatestOf history order n latest
    → IsLatestOf history order (n + 1) (max latest row.begin)
latest_more history order n id latest row is at last = record {
  above = λ i other begin operation lt at_i begins. elim (below_next i n lt) [
    | inl same ↦
        let here = is.begins_once begin operation (subst (λ k. BeginsAt history begin k operation) (sym (same_id order i n id other at at_i same)) begins) in
        omega arith
    | inr below ↦ let before = last.above i other begin operation below at_i begins in omega arith
  ];
  met = elim (cases_lt latest row.begin) [
    | inl later ↦
        let now : max latest row.begin ≡ row.begin = omega arith in
        inr (n, id, operation_of row, omega arith, at, subst (λ p. BeginsAt history p id (operation_of row)) (sym now) is.begins)
    | inr earlier ↦
        let now : max latest row.begin ≡ latest = omega arith in
        elim last.met [
          | inl none ↦ inl (now ∙ none)
          | inr met ↦ inr (met.0, met.1, met.2, omega (arith, met.3), met.4, subst (λ p. BeginsAt history p met.1 met.2) (sym now) met.5)
        ]
  ];
}

-- which is the last of those up to this place
latest_here : (history : List Event) (order : List ℕ) (n id latest : ℕ) (row : Row) → IsRowOf history id row → OrderedAt order n id → IsLatestOf history order (n + 1) latest → row.begin ≤ latest
    → IsLatestBegin history order n latest
latest_here history order n id latest row is at last below = record {
  begins = elim last.met [
    | inl none ↦
        let here : row.begin ≡ latest = omega arith in
        (n, id, operation_of row, omega arith, at, subst (λ p. BeginsAt history p id (operation_of row)) here is.begins)
    | inr met ↦ (met.0, met.1, met.2, omega (arith, met.3), met.4, met.5)
  ];
  last = λ i other begin operation le at_i begins. last.above i other begin operation (omega (arith, le)) at_i begins;
}

-- an operation that has begun is noted, unless it stands there already
noted_placed : (history : List Event) (order : List ℕ) (n id : ℕ) (p : Place) (places : List (Option Place)) (slot : Option (Option Place)) → OrderedAt order n id → slice_get places id ≡ slot
    → p.place ≡ n → IsLatestBegin history order n p.latest → ArePlaced history order n places → ArePlaced history order (n + 1) (noted_at slot places id p)
noted_placed history order n id p places None at there is latest placed = λ other place at_other.
    placed_more history order n id other place at
    (λ _ same. let here : slice_get places id ≡ Some place = subst (λ k. slice_get places k ≡ Some place) (sym same) at_other in let wrong : ⊥ = cc (here, there) in wrong)
    (placed other place at_other)
noted_placed history order n id p places (Some (Some q)) at there is latest placed = λ other place at_other.
    placed_more history order n id other place at
    (λ none same.
    let here : slice_get places id ≡ Some place = subst (λ k. slice_get places k ≡ Some place) (sym same) at_other in
    let one : place ≡ Some q = same_Some place (Some q) (sym here ∙ there) in
    let wrong : ⊥ = cc (one, none) in wrong)
    (placed other place at_other)
noted_placed history order n id p places (Some None) at there is latest placed = λ other place at_other.
    elim (at_set_cases places id other (Some p) place at_other) [
      | inl new ↦
          let P : Option Place → Type 0 = λ o. IsPlaced history order (n + 1) id o in
          let first : (i : ℕ) → i < n → ¬ OrderedAt order i id = placed id None there in
          let here : IsPlaced history order (n + 1) id (Some p) = (
            omega arith,
            (subst (λ k. OrderedAt order k id) (sym is) at, λ i lt. first i (omega arith)),
            subst (λ k. IsLatestBegin history order k p.latest) (sym is) latest,
          ) in
          subst (λ k. IsPlaced history order (n + 1) k place) (sym new.0) (subst P new.1 here)
      | inr old ↦ placed_more history order n id other place at (λ _ same. old.0 (sym same)) (placed other place old.1)
    ]

pub placed_note : (history : List Event) (order : List ℕ) (n id latest : ℕ) (row : Row) (places : List (Option Place)) → IsRowOf history id row → OrderedAt order n id
    → ArePlaced history order n places → IsLatestOf history order n latest
    → ArePlaced history order (n + 1) (noted places id (record { place = n; latest = max latest row.begin })) × IsLatestOf history order (n + 1) (max latest row.begin)
placed_note history order n id latest row places is at placed last =
    let more = latest_more history order n id latest row is at last in
    let p : Place = record { place = n; latest = max latest row.begin } in
    let below : row.begin ≤ max latest row.begin = omega arith in
    (noted_placed history order n id p places (slice_get places id) at refl refl (latest_here history order n id (max latest row.begin) row is at more below) placed, more)

pub length_noted : (places : List (Option Place)) (id : ℕ) (p : Place) → length (noted places id p) ≡ length places
length_noted places id p = go (slice_get places id) where
  go : (slot : Option (Option Place)) → length (noted_at slot places id p) ≡ length places
  go None = refl
  go (Some None) = length-set places id (Some p)
  go (Some (Some q)) = refl

-- the larger of two numbers
pub larger : (a b : ℕ) → ord_max nat_cmp a b ≡ max a b
larger a b = grind (arith, common_steps)
