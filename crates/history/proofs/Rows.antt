-- A row of a table, as the history grows.
use Rattle.std.proofs.Common.{◌≡◌, ◌≢◌, ℕ, inl, inr, List, [], ◌∷◌, ◌++◌, length, Some, None, sym, ap, ◌∙◌}
use Rattle.history.specs.declared.replies.Reply.{Reply}
use Rattle.history.specs.declared.events.Event.{Event}
use Rattle.history.specs.declared.events.Event.TheVariants.{Begin, End}
use Rattle.history.specs.declared.tables.Row.{Row}
use Rattle.history.specs.Histories.{HasBegun, HasEnded}
use Rattle.history.specs.Tables.{IsRowOf}
use Rattle.history.proofs.Places.{at_old, at_push, at_cases}

-- whose event it is
abbrev id_of : Event → ℕ
id_of (Begin id actor call opens) = id
id_of (End id answer) = id

-- an event of another operation changes no row
pub row_kept : (history : List Event) (event : Event) (id other : ℕ) (row : Row) → id_of event ≡ other → id ≢ other → IsRowOf history id row → IsRowOf (history ++ event ∷ []) id row
row_kept history event id other row is differs before =
    record {
      begins = at_old history event row.begin (Begin id row.actor row.call row.opens) before.begins;
      begins_once = λ place operation at. elim (at_cases history event place (Begin id operation.actor operation.call operation.opens) at) [
        | inl old ↦ before.begins_once place operation old
        | inr new ↦ absurd (differs (sym (ap id_of new.1) ∙ is))
      ];
      ends = λ place at. let end = before.ends place at in (end.0, at_old history event place (End id end.0) end.1);
      ends_once = λ place answer at. elim (at_cases history event place (End id answer) at) [
        | inl old ↦ before.ends_once place answer old
        | inr new ↦ absurd (differs (sym (ap id_of new.1) ∙ is))
      ];
    }

-- the row of an operation that begins
pub row_begun : (history : List Event) (id : ℕ) (row : Row) → length history ≡ row.begin → row.end ≡ None → ¬ HasBegun history id → ((answer : Reply) → ¬ HasEnded history id answer)
    → IsRowOf (history ++ Begin id row.actor row.call row.opens ∷ []) id row
row_begun history id row last runs never never_ended =
    let event : Event = Begin id row.actor row.call row.opens in
    record {
      begins = at_push history event row.begin (sym last);
      begins_once = λ place operation at. elim (at_cases history event place (Begin id operation.actor operation.call operation.opens) at) [
        | inl old ↦ absurd (never (place, operation, old))
        | inr new ↦ new.0 ∙ last
      ];
      ends = λ place at. let wrong : ⊥ = cc in absurd wrong;
      ends_once = λ place answer at. elim (at_cases history event place (End id answer) at) [
        | inl old ↦ absurd (never_ended answer (place, old))
        | inr new ↦ let wrong : ⊥ = cc new.1 in absurd wrong
      ];
    }

-- the row of an operation that ends
pub row_ended : (history : List Event) (id : ℕ) (answer : Reply) (row : Row) (last : ℕ) → length history ≡ last → row.end ≡ None → IsRowOf history id row
    → IsRowOf (history ++ End id answer ∷ []) id (record row { end = Some last })
row_ended history id answer row last is runs before =
    let event : Event = End id answer in
    record {
      begins = at_old history event row.begin (Begin id row.actor row.call row.opens) before.begins;
      begins_once = λ place operation at. elim (at_cases history event place (Begin id operation.actor operation.call operation.opens) at) [
        | inl old ↦ before.begins_once place operation old
        | inr new ↦ let wrong : ⊥ = cc new.1 in absurd wrong
      ];
      ends = λ place at. let here : place ≡ length history = cc in (answer, at_push history event place here);
      ends_once = λ place other at. elim (at_cases history event place (End id other) at) [
        | inl old ↦ let end : row.end ≡ Some place = before.ends_once place other old in let wrong : ⊥ = cc in absurd wrong
        | inr new ↦ ap (λ (p : ℕ). Some p) (sym (new.0 ∙ is))
      ];
    }
