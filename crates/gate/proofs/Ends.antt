-- The end of a gate.
use Rattle.std.specs.Prelude.{◌≡◌, ℕ, zero, suc, List, [], ◌∷◌, ◌++◌, Some, slice_get, slice_index_or, unwrap_or, All, length}
use Rattle.std.proofs.Common.{refl, sym, ap, subst, ◌∙◌, inl, inr, append_assoc, arith}
use Rattle.std.proofs.lemmas.List.{map-append}
use Rattle.std.proofs.lemmas.Option.{none-some, same_Some, slice_get_within, unwrap_or-slice_get}
use mathlib.Core.Option.{Option, some, some-injective}
use lib.ListN.{get_elem?}
use Rattle.atomic_table.specs.Table.{Joins, Final, Seen}
use Rattle.gate.specs.declared.rules.Part.{Part}
use Rattle.gate.specs.Logs.{Logged, HasFollowed}
use Rattle.gate.specs.Views.{Place, part, crew_view, outside, gathered, HaveFollowed}
use Rattle.gate.specs.Rules.{IsKept, HasNumber, AreAll, only_slot}
use Rattle.gate.specs.Seats.{Room, Seated}
use Rattle.gate.specs.Finishing.{AreHere, IsGathered}
use Rattle.gate.proofs.Crews.{AreSlotsOf, join_allowed}
use Rattle.gate.proofs.Closing.{IsClosed, closes}
use Rattle.gate.proofs.Counting.{parts_of, once_apart}

-- ---- lists that are taken one by one

at_seam : {X : Type 0} (before : List X) (x : X) (later : List X) → slice_get (before ++ x ∷ later) (length before) ≡ Some x
at_seam [] x later = refl
at_seam (y ∷ before) x later = at_seam before x later

-- the next one stands in the list behind those that were taken in
pub next_at : {X : Type 0} (all before rest later : List X) (x : X) → all ≡ before ++ rest → rest ≡ x ∷ later → slice_get all (length before) ≡ Some x
next_at all before rest later x is next = ap (λ xs. slice_get xs (length before)) (is ∙ ap (λ ys. before ++ ys) next) ∙ at_seam before x later

-- what holds of each holds of this one
pub of_each : {X : Type 0} (P : X → Type 0) (xs : List X) (k : ℕ) (x : X) → All P xs → slice_get xs k ≡ Some x → P x
of_each P xs k x all at =
    let here : slice_index_or xs k x ≡ x = sym (unwrap_or-slice_get xs k x) ∙ ap (λ o. unwrap_or o x) at in
    subst P here (all k x (slice_get_within xs k x at))

pub moved_on : {X : Type 0} (all before rest later : List X) (x : X) → all ≡ before ++ rest → rest ≡ x ∷ later → all ≡ (before ++ x ∷ []) ++ later
moved_on all before rest later x is next = is ∙ ap (λ ys. before ++ ys) next ∙ sym (append_assoc before (x ∷ []) later)

pub none_left : {X : Type 0} (rest : List X) (n : ℕ) → n ≡ length rest → n ≡ 0 → rest ≡ []
none_left [] n is none = refl
none_left (x ∷ rest) n is none = absurd (omega (arith, is, none))

-- ---- one seat more

module _ {X W C A : Type 0} (answers : ℕ → W → C → A → W → Type 0) (slot_of : Logged W C A → ℕ → Option X) (word_of : ℕ → ℕ) (slots seats : ℕ) (first : W) where
  pub gather_allowed : (id other : ℕ) (me him : Place X W C A) (ps qs : List (Part W C A)) → me ≡ (crew_view ps, []) → him ≡ (crew_view qs, []) →
      Joins (IsKept answers slot_of word_of slots seats first) id me.0 other him.0 (gathered me.0 him.0) (crew_view [])
  gather_allowed id other me him ps qs is his =
      let Mine : Place X W C A → Type 0 = λ m. Joins (IsKept answers slot_of word_of slots seats first) id m.0 other him.0 (gathered m.0 him.0) (crew_view []) in
      let His : Place X W C A → Type 0 = λ h. Joins (IsKept answers slot_of word_of slots seats first) id (crew_view ps) other h.0 (gathered (crew_view ps) h.0) (crew_view []) in
      subst Mine (sym is) (subst His (sym his) (join_allowed answers slot_of word_of slots seats first id other ps qs))

module _ {X S W C A : Type 0} (of : S → Seated W C A) where
  pub gathered_one : (me him after : Place X W C A) (seats : List S) (s : S) (alone : Seated W C A) → me ≡ (crew_view (parts_of of seats), []) → alone ≡ of s →
      him ≡ (outside alone.number alone.seen, []) → after ≡ (gathered me.0 him.0, me.1) → after ≡ (crew_view (parts_of of (seats ++ s ∷ [])), [])
  gathered_one me him after seats s alone is its his joined =
      joined ∙ ap (λ m. (gathered m.0 him.0, m.1)) is ∙ ap (λ h. (gathered (crew_view (parts_of of seats)) h.0, [])) his
      ∙ ap (λ (x : Seated W C A). (gathered (crew_view (parts_of of seats)) (outside x.number x.seen), [])) its
      ∙ ap (λ ps. (crew_view ps, [])) (sym (map-append (λ x. part (of x).number (of x).seen) seats (s ∷ [])))

-- ---- all seats

module _ {S W C A : Type 0} (answers : ℕ → W → C → A → W → Type 0) (of : S → Seated W C A) where
  all_numbers : (number : ℕ) (seats : List S) (k : ℕ) (t : S) → slice_get seats k ≡ Some t → (of t).number ≡ number → HasNumber number (parts_of of seats)
  all_numbers number [] k t e same = absurd (none-some t e)
  all_numbers number (s ∷ seats) zero t e same = inl (ap (λ x. (of x).number) (same_Some s t e) ∙ same)
  all_numbers number (s ∷ seats) (suc k) t e same = inr (all_numbers number seats k t e same)

  are_all : (most : ℕ) (seats : List S) → AreHere of most seats → AreAll most (parts_of of seats)
  are_all most seats here number low high = let h = here number low high in all_numbers number seats h.0 h.1 h.2 h.3

  each_followed : (board : Logged W C A) (seats : List S) → HaveFollowed answers board (parts_of of seats) → (k : ℕ) (t : S) → slice_get seats k ≡ Some t →
      HasFollowed answers (of t).number (of t).seen board
  each_followed board [] have k t e = absurd (none-some t e)
  each_followed board (s ∷ seats) have zero t e = subst (λ x. HasFollowed answers (of x).number (of x).seen board) (same_Some s t e) have.0
  each_followed board (s ∷ seats) have (suc k) t e = each_followed board seats have.1 k t e

module _ {X S W C A : Type 0} (answers : ℕ → W → C → A → W → Type 0) (slot_of : Logged W C A → ℕ → Option X) (word_of : ℕ → ℕ) (slots : ℕ) (of : S → Seated W C A) where
  from_closed : (gate : Room W) (seats : List S) (board : Logged W C A) → IsClosed answers slot_of word_of slots gate.seats gate.first (parts_of of seats) board →
      IsGathered answers of gate seats board.object
  from_closed gate seats board closed = record {
    last = board;
    object_is = refl;
    first = closed.first_is;
    legal = closed.legal;
    calls = closed.calls;
    followed = each_followed answers of board seats closed.followed;
    distinct = once_apart of seats closed.once;
  }

  -- the board at the end, and what the slots have of it
  pub gathers : (gate : Room W) (most : ℕ) (first : W) (id : ℕ) (me : Place X W C A) (seats yielded : List S) (ws : List ℕ) (xs : List X) →
      most ≡ gate.seats → first ≡ gate.first → yielded ≡ seats → me ≡ (crew_view (parts_of of yielded), []) → AreHere of gate.seats seats →
      Final (Seen (IsKept answers slot_of word_of slots most first) id me.0) ws xs →
      (board : Logged W C A) × AreSlotsOf slot_of slots board xs × IsGathered answers of gate seats board.object
  gathers gate most first id me seats yielded ws xs number start whole is here last =
      let all : AreAll gate.seats (parts_of of yielded) = are_all answers of gate.seats yielded (subst (λ ys. AreHere of gate.seats ys) (sym whole) here) in
      let seen = subst (λ (m : Place X W C A). Final (Seen (IsKept answers slot_of word_of slots most first) id m.0) ws xs) is last in
      let done = closes answers slot_of word_of slots gate.seats gate.first id (parts_of of yielded) ws xs all
      (subst (λ n. Final (Seen (IsKept answers slot_of word_of slots n gate.first) id (crew_view (parts_of of yielded))) ws xs) number
      (subst (λ o. Final (Seen (IsKept answers slot_of word_of slots most o) id (crew_view (parts_of of yielded))) ws xs) start seen)) in
      (done.0, done.1, subst (λ ys. IsGathered answers of gate ys done.0.object) whole (from_closed gate yielded done.0 done.2))

-- the object that lay in one slot
pub alone_in : {W C A : Type 0} (board found : Logged W C A) (xs : List (Logged W C A)) → AreSlotsOf only_slot 1 board xs → get_elem? xs 0 ≡ some found → board ≡ found
alone_in board found xs are at =
    let h = are 0 (omega arith) in
    some-injective board h.0 h.2 ∙ some-injective h.0 found (sym h.1 ∙ at)
