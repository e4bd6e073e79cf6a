-- What a row says of its bar, and the bars so far.
use Rattle.std.proofs.Common.{◌≡◌, ◌↔◌, ℕ, Bool, false, IsTrue, List, [], ◌∷◌, ◌++◌, length, Option, Some, None, slice_get, unwrap_or, inl, inr, refl, sym, ap, ◌∙◌, subst, arith}
use Rattle.std.proofs.lemmas.Option.{slice_get_within}
use Rattle.history.specs.declared.replies.Reply.{Reply}
use Rattle.history.specs.declared.events.Event.{Event}
use Rattle.history.specs.declared.faults.OrderFault.{OrderFault}
use Rattle.history.specs.declared.tables.Row.{Row}
use Rattle.history.specs.Histories.{HasBegun}
use Rattle.history.specs.Tables.{IsRowOf, recorded}
use Rattle.history.proofs.Places.{option_cases, at_within, at_cases}
use Rattle.history.proofs.Standing.{recorded_of_ended}
use Rattle.history_scene.specs.declared.scenes.Bar.{Bar}
use Rattle.history_scene.specs.declared.stands.Place.{Place}
use Rattle.history_scene.specs.Stands.{IsLate, IsStand}
use Rattle.history_scene.specs.Placing.{IsPlaced, AreLate, stand_of}
use Rattle.history_scene.specs.Scenes.{Ends, IsBar}

-- a row has its operation's end and reply
pub row_ends : (history : List Event) (id : ℕ) (row : Row) → IsRowOf history id row → Ends history id row.end (recorded history row.end)
row_ends history id row is =
    let P : Option ℕ → Type 0 = λ end. Ends history id end (recorded history end) in
    elim (option_cases row.end) [
      | inl none ↦
          let never : P None = λ answer ended. let some : row.end ≡ Some ended.0 = is.ends_once ended.0 answer ended.1 in let wrong : ⊥ = cc (some, none) in wrong in
          subst P (sym none) never
      | inr some ↦
          let end = is.ends some.0 some.1 in
          let told : recorded history (Some some.0) ≡ Some end.0 = ap (recorded history) (sym some.1) ∙ recorded_of_ended history id row end.0 is (some.0, end.1) in
          let Q : Option Reply → Type 0 = λ o. Ends history id (Some some.0) o in
          let here : P (Some some.0) = subst Q (sym told) end.1 in
          subst P (sym some.1) here
    ]

-- how an operation stands, by its place and the lateness of all places
pub stand_is : (history : List Event) (order : List ℕ) (id : ℕ) (end : Option ℕ) (place : Option Place) (late : List Bool) → HasBegun history id → IsPlaced history order (length order) id place
    → AreLate history order 0 late → length late ≡ length order → IsStand history order id end (stand_of place late end)
stand_is history order id end None late begun placed known size = λ among. placed among.0 (slice_get_within order among.0 id among.1) among.1
stand_is history order id end (Some p) late begun placed known size =
    let at = at_within late p.place (omega (arith, placed.0)) in
    let found : unwrap_or (slice_get late p.place) false ≡ at.0 = ap (λ (o : Option Bool). unwrap_or o false) at.1 in
    let here : IsTrue at.0 ↔ IsLate history order p.place id = known p.place id at.0 (omega arith) (placed.1.0) begun at.1 in (
      placed.1,
      (p.latest, placed.2, refl),
      subst (λ (b : Bool). IsTrue b ↔ IsLate history order p.place id) (sym found) here,
    )

-- one bar more
pub bars_more : (history : List Event) (order : List ℕ) (fault : Option OrderFault) (bars : List Bar) (n : ℕ) (bar : Bar) → length bars ≡ n
    → ((id : ℕ) (one : Bar) → slice_get bars id ≡ Some one → IsBar history order fault id one) → IsBar history order fault n bar
    → (id : ℕ) (one : Bar) → slice_get (bars ++ bar ∷ []) id ≡ Some one → IsBar history order fault id one
bars_more history order fault bars n bar size known is = λ id one at. elim (at_cases bars bar id one at) [
  | inl old ↦ known id one old
  | inr new ↦
      let here : n ≡ id = sym size ∙ sym new.0 in
      let P : Bar → Type 0 = λ b. IsBar history order fault n b in
      subst (λ k. IsBar history order fault k one) here (subst P new.1 is)
]
