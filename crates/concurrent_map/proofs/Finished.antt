-- What is told at the end of a map, in the words of histories.
use Rattle.std.proofs.Common.{arith, refl, ℕ, length, ◌≡◌, sym, ap, subst, ◌∙◌, List, [], ◌∷◌, ◌++◌, All, map}
use Rattle.std.proofs.lemmas.List.{map-append}
use Rattle.std.proofs.lemmas.List.Elements.{All-cons, All-head, All-nil, All-tail}
use Rattle.lock_free.specs.declared.rules.View.{View}
use Rattle.lock_free.specs.Answers.{talk_of}
use Rattle.lock_free.specs.Finishing.{IsTold}
use Rattle.lock_free.specs.Naming.{MapId}
use Rattle.lock_free.specs.Seated.{Seated}
use Rattle.lock_free.specs.Telling.{history_of, GoesOn}
use Rattle.concurrent_map.specs.Finishing.{AreInOneOrder}
use Rattle.concurrent_map.specs.Seats.{SeatState, state_of_seat, IsSeatOf}

pub one_more_state : (plain later : List Seated) (yielded : List SeatState) (s : Seated) (x : SeatState) → map state_of_seat plain ≡ yielded → state_of_seat s ≡ x →
    later ≡ plain ++ s ∷ [] → map state_of_seat later ≡ yielded ++ x ∷ []
one_more_state plain later yielded s x these is more =
    ap (map state_of_seat) more ∙ map-append state_of_seat plain (s ∷ []) ∙ ap (λ ys. ys ++ state_of_seat s ∷ []) these ∙ ap (λ y. yielded ++ y ∷ []) is

-- where an iterator has come to its end
pub none_rest : (rest : List SeatState) (n : ℕ) → n ≡ length rest → n ≡ 0 → rest ≡ []
none_rest [] n is none = refl
none_rest (x ∷ rest) n is none = absurd (omega (arith, is, none))

abbrev Fits : MapId → Seated → Type 0
Fits id s = (s.table ≡ id.table) × (s.view.sizes ≡ id.sizes)

pub seats_fit : (id : MapId) (plain : List Seated) → All (IsSeatOf id) (map state_of_seat plain) → All (λ s. (s.table ≡ id.table) × (s.view.sizes ≡ id.sizes)) plain
seats_fit id [] its = All-nil (Fits id)
seats_fit id (s ∷ plain) its =
    let of = All-head (IsSeatOf id) (state_of_seat s) (map state_of_seat plain) its in
    All-cons (Fits id) s plain (ap (λ (m : MapId). m.table) of, ap (λ (m : MapId). m.sizes) of)
    (seats_fit id plain (All-tail (IsSeatOf id) (state_of_seat s) (map state_of_seat plain) its))

-- what is said of the views of these seats is so of their states
restated : (id : MapId) (P : SeatState → Type 0) (Q : View → Type 0) → ((s : Seated) → (state_of_seat s).map ≡ id → Q s.view → P (state_of_seat s)) → (plain : List Seated) →
    All (IsSeatOf id) (map state_of_seat plain) → All Q (map (λ (s : Seated). s.view) plain) → All P (map state_of_seat plain)
restated id P Q each [] its all = All-nil P
restated id P Q each (s ∷ plain) its all =
    All-cons P (state_of_seat s) (map state_of_seat plain)
    (each s (All-head (IsSeatOf id) (state_of_seat s) (map state_of_seat plain) its) (All-head Q s.view (map (λ (t : Seated). t.view) plain) all))
    (restated id P Q each plain (All-tail (IsSeatOf id) (state_of_seat s) (map state_of_seat plain) its) (All-tail Q s.view (map (λ (t : Seated). t.view) plain) all))

pub ordered : (id : MapId) (plain : List Seated) → All (IsSeatOf id) (map state_of_seat plain) → IsTold id.sizes (map (λ (s : Seated). s.view) plain) →
    AreInOneOrder id (map state_of_seat plain)
ordered id plain its told =
    let history = history_of id.sizes told.account in
    record {
      history = history;
      seen = restated id (λ s. GoesOn s.history history) (λ v. GoesOn (history_of id.sizes v.account) history)
          (λ s of goes. subst (λ z. GoesOn (history_of z s.view.account) history) (sym (ap (λ (m : MapId). m.sizes) of)) goes) plain its told.told;
      own = restated id (λ s. talk_of s.number history ≡ talk_of s.number s.history) (λ v. talk_of v.actor history ≡ talk_of v.actor (history_of id.sizes v.account))
          (λ s of talks. subst (λ z. talk_of s.view.actor history ≡ talk_of s.view.actor (history_of z s.view.account)) (sym (ap (λ (m : MapId). m.sizes) of)) talks) plain its told.talks;
      order = _;
      world = told.explained.0;
      explains = told.explained.1;
    }
