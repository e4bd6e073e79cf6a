-- What comes after some operations may come after others too: the same ones in another order, which lead to the same world.
use Rattle.std.proofs.Common.{◌≡◌, ℕ, zero, suc, ◌+◌, ◌-◌, ◌<◌, ◌≤◌, ◌⊎◌, inl, inr, List, [], ◌∷◌, ◌++◌, length, Some, slice_get, refl, sym, ap, ◌∙◌, subst, arith}
use Rattle.std.proofs.lemmas.Bool.{cases_lt}
use Rattle.std.proofs.lemmas.Option.{slice_get_within, same_Some}
use Rattle.order_search.specs.Vocabulary.{Event, HandleMap, first_world, IsWellFormed, OrderedAt, IsLegal, Answered, RecallsEach, Replays, LeadsTo, IsAmong}
use Rattle.history.proofs.Places.{at_front, at_within}
use Rattle.history.proofs.OneWorld.{one_world}

-- a place in two lists, one behind the other
at_back : (xs ys : List ℕ) (i y : ℕ) → slice_get ys i ≡ Some y → slice_get (xs ++ ys) (length xs + i) ≡ Some y
at_back [] ys i y at = let same : i ≡ 0 + i = omega arith in subst (λ n. slice_get ys n ≡ Some y) same at
at_back (x ∷ xs) ys i y at =
    let same : suc (length xs + i) ≡ length (x ∷ xs) + i = omega arith in
    subst (λ n. slice_get (x ∷ (xs ++ ys)) n ≡ Some y) same (at_back xs ys i y at)

from_back : (xs ys : List ℕ) (i y : ℕ) → length xs ≤ i → slice_get (xs ++ ys) i ≡ Some y → slice_get ys (i - length xs) ≡ Some y
from_back [] ys i y le at = let same : i ≡ i - 0 = omega arith in subst (λ n. slice_get ys n ≡ Some y) same at
from_back (x ∷ xs) ys zero y le at = absurd (omega (arith, le))
from_back (x ∷ xs) ys (suc i) y le at =
    let same : i - length xs ≡ suc i - length (x ∷ xs) = omega arith in
    subst (λ n. slice_get ys n ≡ Some y) same (from_back xs ys i y (omega (arith, le)) at)

at_parts : (xs ys : List ℕ) (i y : ℕ) → slice_get (xs ++ ys) i ≡ Some y → ((i < length xs) × (slice_get xs i ≡ Some y)) ⊎ ((length xs ≤ i) × (slice_get ys (i - length xs) ≡ Some y))
at_parts xs ys i y at = elim (cases_lt i (length xs)) [
  | inl lt ↦ let own = at_within xs i lt in inl (lt, own.1 ∙ ap (λ (n : ℕ). Some n) (same_Some own.0 y (sym (at_front xs ys i own.0 own.1) ∙ at)))
  | inr le ↦ inr (le, from_back xs ys i y le at)
]

-- what replays of operations do behind the first of them
back_replays : (hash : ℕ → ℕ) (history : List Event) (ids more : List ℕ) (calls front : List Answered) (first world last : HandleMap) → IsWellFormed history → RecallsEach history (ids ++ more) calls
    → Replays hash calls first last → RecallsEach history ids front → Replays hash front first world → (rest : List Answered) × RecallsEach history more rest × Replays hash rest world last
back_replays hash history [] more calls [] first world last well each leads own own_leads = (calls, each, subst (λ w. Replays hash calls w last) (sym own_leads) leads)
back_replays hash history [] more calls (x ∷ xs) first world last well each leads own own_leads = absurd own
back_replays hash history (id ∷ ids) more [] front first world last well each leads own own_leads = absurd each
back_replays hash history (id ∷ ids) more (x ∷ xs) [] first world last well each leads own own_leads = absurd own
back_replays hash history (id ∷ ids) more (x ∷ xs) (y ∷ ys) first world last well each leads own own_leads =
    let same = one_world hash history (id ∷ []) (x ∷ []) (y ∷ []) first leads.0 own_leads.0 well (each.0, tt) (leads.0, leads.1, refl) (own.0, tt) (own_leads.0, own_leads.1, refl) in
    back_replays hash history ids more xs ys own_leads.0 world last well each.1 (subst (λ w. Replays hash xs w last) same leads.2) own.1 own_leads.2

joined_recalls : (history : List Event) (ids more : List ℕ) (a b : List Answered) → RecallsEach history ids a → RecallsEach history more b → RecallsEach history (ids ++ more) (a ++ b)
joined_recalls history [] more [] b one two = two
joined_recalls history [] more (x ∷ xs) b one two = absurd one
joined_recalls history (id ∷ ids) more [] b one two = absurd one
joined_recalls history (id ∷ ids) more (x ∷ xs) b one two = (one.0, joined_recalls history ids more xs b one.1 two)

joined_replays : (hash : ℕ → ℕ) (a b : List Answered) (first middle last : HandleMap) → Replays hash a first middle → Replays hash b middle last → Replays hash (a ++ b) first last
joined_replays hash [] b first middle last one two = subst (λ w. Replays hash b w last) one two
joined_replays hash (x ∷ xs) b first middle last one two = (one.0, one.1, joined_replays hash xs b one.0 middle last one.2 two)

-- the same operations in another order
pub swapped : (hash : ℕ → ℕ) (history : List Event) (here there more : List ℕ) (world : HandleMap) → LeadsTo hash history here world → LeadsTo hash history there world
    → ((id : ℕ) → IsAmong here id → IsAmong there id) → ((id : ℕ) → IsAmong there id → IsAmong here id) → IsLegal hash history (there ++ more) → IsLegal hash history (here ++ more)
swapped hash history here there more world leads leads_there over back legal =
    let well = legal.1.well_formed in
    let shift : (i id : ℕ) → OrderedAt more i id → OrderedAt (there ++ more) (length there + i) id = λ i id at. at_back there more i id at in
    let apart : (i id : ℕ) → OrderedAt more i id → ¬ IsAmong here id = λ i id at among.
    let at_there = over id among in
    let within = slice_get_within there at_there.0 id at_there.1 in
    let same = legal.1.candidate.distinct at_there.0 (length there + i) id (at_front there more at_there.0 id at_there.1) (shift i id at) in
    omega (arith, within, same) in
    let rest = back_replays hash history there more legal.1.replayed.0 leads_there.replayed.0 first_world world legal.0 well legal.1.replayed.1 legal.1.replayed.2 leads_there.replayed.1
    leads_there.replayed.2 in (
      legal.0,
      record {
        well_formed = well;
        candidate = record {
          distinct = λ i j id at_i at_j. elim (at_parts here more i id at_i) [
            | inl front_i ↦ elim (at_parts here more j id at_j) [
              | inl front_j ↦ leads.distinct i j id front_i.1 front_j.1
              | inr back_j ↦ absurd (apart (j - length here) id back_j.1 (i, front_i.1))
            ]
            | inr back_i ↦ elim (at_parts here more j id at_j) [
              | inl front_j ↦ absurd (apart (i - length here) id back_i.1 (j, front_j.1))
              | inr back_j ↦
                  let same = legal.1.candidate.distinct (length there + (i - length here)) (length there + (j - length here)) id (shift (i - length here) id back_i.1)
                  (shift (j - length here) id back_j.1) in
                  omega (arith, same, back_i.0, back_j.0)
            ]
          ];
          has_begun = λ i id at. elim (at_parts here more i id at) [
            | inl front ↦ leads.has_begun i id front.1
            | inr behind ↦ legal.1.candidate.has_begun (length there + (i - length here)) id (shift (i - length here) id behind.1)
          ];
          not_refused = λ i id at. elim (at_parts here more i id at) [
            | inl front ↦ leads.not_refused i id front.1
            | inr behind ↦ legal.1.candidate.not_refused (length there + (i - length here)) id (shift (i - length here) id behind.1)
          ];
          answered = λ id answer ended differs.
              let at = legal.1.candidate.answered id answer ended differs in
              elim (at_parts there more at.0 id at.1) [
                | inl front ↦ let here_at = back id (at.0, front.1) in (here_at.0, at_front here more here_at.0 id here_at.1)
                | inr behind ↦ (length here + (at.0 - length there), at_back here more (at.0 - length there) id behind.1)
              ];
        };
        keeps_time = λ i j a b at_i at_j lt. elim (at_parts here more j a at_j) [
          | inl front_j ↦ elim (at_parts here more i b at_i) [
            | inl front_i ↦ leads.keeps_time i j a b front_i.1 front_j.1 lt
            | inr back_i ↦ absurd (omega (arith, lt, front_j.0, back_i.0))
          ]
          | inr back_j ↦ elim (at_parts here more i b at_i) [
            | inl front_i ↦
                let at_there = over b (i, front_i.1) in
                let within = slice_get_within there at_there.0 b at_there.1 in
                legal.1.keeps_time at_there.0 (length there + (j - length here)) a b (at_front there more at_there.0 b at_there.1) (shift (j - length here) a back_j.1) (omega (arith, within))
            | inr back_i ↦
                legal.1.keeps_time (length there + (i - length here)) (length there + (j - length here)) a b (shift (i - length here) b back_i.1) (shift (j - length here) a back_j.1)
                (omega (arith, lt, back_i.0, back_j.0))
          ]
        ];
        replayed = (
          leads.replayed.0 ++ rest.0,
          joined_recalls history here more leads.replayed.0 rest.0 leads.replayed.1 rest.1,
          joined_replays hash leads.replayed.0 rest.0 first_world world legal.0 leads.replayed.2 rest.2,
        );
      },
    )
