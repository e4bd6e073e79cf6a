-- Where one seat has all numbers, all slots are at home.
use Rattle.std.specs.Prelude.{◌≡◌, ℕ, ◌<◌, ◌≤◌, List, [], ◌∷◌, slice_index}
use Rattle.std.proofs.Common.{sym, ap, subst, ◌∙◌, inl, inr, arith}
use Rattle.std.proofs.lemmas.Bool.{cases_eq}
use mathlib.Core.Option.{Option, some, some-injective}
use lib.ListN.{get_elem?}
use Rattle.atomic_table.specs.Table.{State, Final, Seen}
use Rattle.gate.specs.declared.rules.Part.{Part}
use Rattle.gate.specs.declared.rules.View.{View}
use Rattle.gate.specs.Logs.{Logged, IsLegal}
use Rattle.gate.specs.Views.{crew_view, HasSlot, HaveFollowed}
use Rattle.gate.specs.Rules.{IsKept, ArePartsOf, AreSeated, number_of, times_in, HasNumber, AreAll}
use Rattle.gate.proofs.Counting.{times_in_one}
use Rattle.gate.proofs.Crews.{AreSlotsOf}
use Rattle.gate.proofs.Keeping.{noted_word, number_owned}

module _ {W C A : Type 0} (answers : ℕ → W → C → A → W → Type 0) (seats : ℕ) where
  -- whose number is here is its owner, and one of the seats'
  owner_of : (board : Logged W C A) (owner : ℕ → ℕ) (seat number : ℕ) (ps : List (Part W C A)) → ArePartsOf answers seats board owner seat ps → HasNumber number ps → owner number ≡ seat
  owner_of board owner seat number [] stand has = absurd has
  owner_of board owner seat number (p ∷ ps) stand (inl same) = ap owner (sym same) ∙ stand.0.owned
  owner_of board owner seat number (p ∷ ps) stand (inr has) = owner_of board owner seat number ps stand.1 has

  number_low : (board : Logged W C A) (owner : ℕ → ℕ) (seat : ℕ) (ps : List (Part W C A)) → ArePartsOf answers seats board owner seat ps → 1 ≤ number_of ps → number_of ps ≤ seats
  number_low board owner seat [] stand low = omega arith
  number_low board owner seat (p ∷ ps) stand low = stand.0.high

  have_followed : (board : Logged W C A) (owner : ℕ → ℕ) (seat : ℕ) (ps : List (Part W C A)) → ArePartsOf answers seats board owner seat ps → HaveFollowed answers board ps
  have_followed board owner seat [] stand = tt
  have_followed board owner seat (p ∷ ps) stand = (stand.0.followed, have_followed board owner seat ps stand.1)

module _ {S W C A : Type 0} (answers : ℕ → W → C → A → W → Type 0) (slot_of : Logged W C A → ℕ → Option S) (word_of : ℕ → ℕ) (slots seats : ℕ) (first : W) where
  -- what the last state says of the board and of the seat that has all numbers
  pub record IsClosed (ps : List (Part W C A)) (board : Logged W C A) : Type 0 where
    pub first_is : board.first ≡ first
    pub legal : IsLegal answers board
    pub calls : AreSeated seats board.log
    pub followed : HaveFollowed answers board ps
    pub once : (number : ℕ) → times_in number ps ≤ 1

  module _ (s : State S (View S W C A)) (kept : IsKept answers slot_of word_of slots seats first s) (id : ℕ) (ps : List (Part W C A)) (at_seat : get_elem? s.views id ≡ some (crew_view ps))
      (all : AreAll seats ps) where
    stand : ArePartsOf answers seats kept.board kept.owner id ps
    stand = kept.parts id (crew_view ps) at_seat

    -- who is inside has a number, which is here: so it is this seat, and outside
    still_busy : (i : ℕ) → i < slots → (slice_index s.words (word_of i) ≡ 0 → ⊥) → ⊥
    still_busy i range busy =
        let h = kept.held i range busy in
        let its = noted_word slot_of word_of slots kept.board s.words (number_of h.view.parts) i h.view.has (kept.noted h.holder h.view h.at) h.has in
        let theirs = kept.parts h.holder h.view h.at in
        let owned = number_owned answers seats kept.board kept.owner h.holder h.view.parts theirs its.1 in
        let number = all (number_of h.view.parts) its.1 (number_low answers seats kept.board kept.owner h.holder h.view.parts theirs its.1) in
        let here = sym owned ∙ owner_of answers seats kept.board kept.owner id (number_of h.view.parts) ps stand number in
        let same = some-injective _ _ (sym h.at ∙ ap (λ n. get_elem? s.views n) here ∙ at_seat) in
        subst (λ (v : View S W C A). HasSlot i v.has) same h.has

    is_free : (i : ℕ) → i < slots → slice_index s.words (word_of i) ≡ 0
    is_free i range = elim (cases_eq (slice_index s.words (word_of i)) 0) [ inl free ↦ free | inr busy ↦ absurd (still_busy i range busy) ]

    closed : IsClosed ps kept.board
    closed = record {
      first_is = kept.first_is;
      legal = kept.legal;
      calls = kept.calls;
      followed = have_followed answers seats kept.board kept.owner id ps stand;
      once = λ number. omega (arith, kept.once number, times_in_one number s.views id (crew_view ps) at_seat);
    }

  pub closes : (id : ℕ) (ps : List (Part W C A)) (ws : List ℕ) (xs : List S) → AreAll seats ps → Final (Seen (IsKept answers slot_of word_of slots seats first) id (crew_view ps)) ws xs →
      (board : Logged W C A) × AreSlotsOf slot_of slots board xs × IsClosed ps board
  closes id ps ws xs all last =
      let s = last.0 in
      let kept = last.1.0 in
      let at_seat = last.1.1 in (
        kept.board,
        (λ i range. let h = kept.home i range (is_free s kept id ps at_seat all i range) in (h.0, last.4 i h.0 h.1, h.2)),
        closed s kept id ps at_seat all,
      )
