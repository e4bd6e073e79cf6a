-- Seats of a new map.
use Rattle.std.proofs.Common.{arith, ◌≡◌, refl, sym, ap, subst, ◌∙◌, ℕ, ◌+◌, List, [], ◌∷◌}
use Rattle.std.proofs.lemmas.List.Elements.{All-cons, All-nil}
use Rattle.lock_free.specs.Answers.{answers_of, OthersTellNothing}
use Rattle.lock_free.specs.Naming.{MapId}
use Rattle.lock_free.specs.Places.{AreSizes}
use Rattle.lock_free.specs.Seated.{HasSplit, Seated}
use Rattle.concurrent_map.specs.Seats.{AreNewSeats, AreSeatsOf, IsNewSeat, IsSeatOf, SeatState, answers_of_seat, state_of_seat}
use Rattle.concurrent_map.proofs.SameMap.{same_id}

-- the seat that is split off is new
right_is_new : (id : MapId) (before left right : Seated) → (state_of_seat before).map ≡ id → HasSplit before left right → IsNewSeat id before.view.last (state_of_seat right)
right_is_new id before left right of split = record {
  of = same_id (state_of_seat right).map (state_of_seat before).map split.other_table split.other_sizes ∙ of;
  numbered = split.other_actor;
  silent = ap (λ t. t.answers) split.other_silent;
}

-- the one that is left was told nothing by it
pub left_is_silent : (before left right : Seated) → OthersTellNothing → AreSizes before.view.sizes → HasSplit before left right → answers_of_seat (state_of_seat before) ≡ [] →
    answers_of_seat (state_of_seat left) ≡ []
left_is_silent before left right others sizes split silent =
    ap (λ a. answers_of a left.view.sizes left.view.account) split.actor ∙ ap (λ z. answers_of before.view.actor z left.view.account) split.sizes
    ∙ others before.view.actor before.view.sizes before.view.account left.view.account (omega arith, sizes.some, sizes.many) split.waited ∙ silent

pub one_more : (id : MapId) (before left right : Seated) (items later : List SeatState) (count : ℕ) → (state_of_seat before).map ≡ id → HasSplit before left right →
    AreNewSeats id (before.view.last + 1) items count → later ≡ state_of_seat right ∷ items → AreNewSeats id (left.view.last + 1) later (count + 1)
one_more id before left right items later count of split these e =
    subst (λ seats. AreNewSeats id (left.view.last + 1) seats (count + 1)) (sym e) (
      subst (λ n. IsNewSeat id n (state_of_seat right)) (sym split.last) (right_is_new id before left right of split),
      (count, refl, subst (λ n. AreNewSeats id (n + 1) items count) (sym split.last) these),
    )

pub all_seated : (id : MapId) (first : Seated) (items later : List SeatState) (seats count : ℕ) → (state_of_seat first).map ≡ id → first.view.actor ≡ 1 →
    answers_of_seat (state_of_seat first) ≡ [] → first.view.last ≡ 1 → seats ≡ count + 1 → AreNewSeats id (first.view.last + 1) items count → later ≡ state_of_seat first ∷ items →
    AreNewSeats id 1 later seats
all_seated id first items later seats count of actor silent last many these e =
    subst (λ all. AreNewSeats id 1 all seats) (sym e)
    (record { of = of; numbered = actor; silent = silent }, (count, many, subst (λ n. AreNewSeats id (n + 1) items count) last these))

pub new_are_of : (id : MapId) (number : ℕ) (seats : List SeatState) (count : ℕ) → AreNewSeats id number seats count → AreSeatsOf id seats
new_are_of id number [] count are = All-nil (IsSeatOf id)
new_are_of id number (s ∷ seats) count (one, (rest, many, others)) = All-cons (IsSeatOf id) s seats one.of (new_are_of id (number + 1) seats rest others)
