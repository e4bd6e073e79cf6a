-- The marks of an order's beginning, as it goes on.
use Rattle.std.proofs.Common.{◌≡◌, ℕ, max, inl, inr, Bool, true, false, List, [], ◌∷◌, ◌++◌, length, set, refl, sym, ◌∙◌, subst, arith, length-set}
use Rattle.std.proofs.lemmas.Bool.{cases_lt}
use Rattle.history.specs.declared.events.Event.{Event}
use Rattle.history.specs.declared.tables.Row.{Row}
use Rattle.history.specs.Histories.{BeginsAt}
use Rattle.history.specs.Orders.{OrderedAt}
use Rattle.history.specs.Tables.{IsRowOf, operation_of}
use Rattle.history.specs.Replays.{Marks}
use Rattle.history.proofs.Places.{at_old, at_push, at_cases, at_set_cases}

pub marks_on : (history : List Event) (ids : List ℕ) (id : ℕ) (row : Row) (taken : List Bool) (latest : ℕ) → IsRowOf history id row → Marks history ids taken latest
    → Marks history (ids ++ id ∷ []) (set taken id true) (max latest row.begin)
marks_on history ids id row taken latest is marks =
    let last : OrderedAt (ids ++ id ∷ []) (length ids) id = at_push ids id (length ids) refl in
    record {
      size = length-set taken id true ∙ marks.size;
      marked = λ other at. elim (at_set_cases taken id other true true at) [
        | inl new ↦ (length ids, subst (λ j. OrderedAt (ids ++ id ∷ []) (length ids) j) (sym new.0) last)
        | inr old ↦ let place = marks.marked other old.1 in (place.0, at_old ids id place.0 other place.1)
      ];
      unmarked = λ other at i at_i. elim (at_set_cases taken id other true false at) [
        | inl new ↦ let wrong : ⊥ = cc new.1 in wrong
        | inr old ↦ elim (at_cases ids id i other at_i) [
          | inl before ↦ marks.unmarked other old.1 i before
          | inr here ↦ old.0 (sym here.1)
        ]
      ];
      above = λ i other place operation at_i begins. elim (at_cases ids id i other at_i) [
        | inl before ↦ let below = marks.above i other place operation before begins in omega arith
        | inr here ↦
            let begins_here : BeginsAt history place id operation = subst (λ j. BeginsAt history place j operation) (sym here.1) begins in
            let same = is.begins_once place operation begins_here in
            omega arith
      ];
      met = elim (cases_lt latest row.begin) [
        | inl later ↦
            let now : max latest row.begin ≡ row.begin = omega arith in
            inr (length ids, id, operation_of row, last, subst (λ p. BeginsAt history p id (operation_of row)) (sym now) is.begins)
        | inr earlier ↦
            let now : max latest row.begin ≡ latest = omega arith in
            elim marks.met [
              | inl none ↦ inl (now ∙ none)
              | inr met ↦ inr (met.0, met.1, met.2, at_old ids id met.0 met.1 met.3, subst (λ p. BeginsAt history p met.1 met.2) (sym now) met.4)
            ]
      ];
    }
