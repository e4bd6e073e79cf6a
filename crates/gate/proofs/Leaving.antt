-- Giving a slot back keeps the rule.
use Rattle.std.specs.Prelude.{◌≡◌, ℕ, ◌<◌, List, [], ◌∷◌, slice_set, slice_index, length}
use Rattle.std.proofs.Common.{refl, sym, ap, subst, ◌∙◌, inl, inr, arith, length-set}
use Rattle.std.proofs.lemmas.List.{get_or-set_same, get_or-set_other}
use Rattle.std.proofs.lemmas.Bool.{cases_eq}
use mathlib.Core.Option.{Option, none, some, some-injective}
use lib.ListN.{get_elem?}
use Rattle.atomic_table.specs.Table.{State, Allows, stepped, step, gives}
use Rattle.atomic_table.proofs.Lists.{at_set, set_here, set_else}
use Rattle.gate.specs.declared.rules.View.{View}
use Rattle.gate.specs.Logs.{Logged, HasFollowed}
use Rattle.gate.specs.Views.{part, holding, HasSlot, AreSameSlots, IsCommit, Commits, has_left, has_released, HasLooked}
use Rattle.gate.specs.Rules.{IsKept, IsPartOf, ArePartsOf, IsHeld, IsNoted, AreNoted, IsHome, number_of}
use Rattle.gate.proofs.Counting.{times_after}
use Rattle.gate.proofs.Following.{followed_same, first_stays, still_legal, still_seated}
use Rattle.gate.proofs.Keeping.{AreApart, within, noted_word, each_noted, noted_anew, all_stand, number_owned, each_still}

same_has : {S : Type 0} (xs ys : List (ℕ × S)) (i : ℕ) → AreSameSlots xs ys → HasSlot i xs → HasSlot i ys
same_has [] ys i same has = absurd has
same_has (x ∷ xs) [] i same has = absurd same
same_has (x ∷ xs) (y ∷ ys) i same (inl here) = inl (sym same.0 ∙ here)
same_has (x ∷ xs) (y ∷ ys) i same (inr has) = inr (same_has xs ys i same.1 has)

had_same : {S : Type 0} (xs ys : List (ℕ × S)) (i : ℕ) → AreSameSlots xs ys → HasSlot i ys → HasSlot i xs
had_same xs [] i same has = absurd has
had_same [] (y ∷ ys) i same has = absurd same
had_same (x ∷ xs) (y ∷ ys) i same (inl here) = inl (same.0 ∙ here)
had_same (x ∷ xs) (y ∷ ys) i same (inr has) = inr (had_same xs ys i same.1 has)

module _ {S W C A : Type 0} (answers : ℕ → W → C → A → W → Type 0) (slot_of : Logged W C A → ℕ → Option S) (word_of : ℕ → ℕ) (single_word : AreApart word_of) (slots seats : ℕ) (first : W)
    (s : State S (View S W C A)) (kept : IsKept answers slot_of word_of slots seats first s) (i id number : ℕ) (seen : Logged W C A) (x y : S) (found had : List (ℕ × S))
    (size : length s.homes ≡ slots) (at_seat : get_elem? s.views id ≡ some (holding number seen ((i, x) ∷ found)))
    (single : HasSlot i found → ⊥) (same : AreSameSlots found had) (now : Logged W C A) (commit : IsCommit answers slot_of number ((i, y) ∷ had) kept.board now)
    (last : Logged W C A) (followed : HasFollowed answers number last now) where
  abbrev left : View S W C A
  left = holding number last had

  abbrev left_state : State S (View S W C A)
  left_state = stepped s (word_of i) 0 id ((i, y) ∷ had) left gives

  leavers : IsPartOf answers seats kept.board kept.owner id (part number seen)
  leavers = (kept.parts id (holding number seen ((i, x) ∷ found)) at_seat).0

  mine : AreNoted slot_of word_of slots kept.board s.words number ((i, x) ∷ found)
  mine = kept.noted id (holding number seen ((i, x) ∷ found)) at_seat

  -- a slot of this seat has its number
  my_word : (j : ℕ) → HasSlot j ((i, y) ∷ had) → slice_index s.words (word_of j) ≡ number
  my_word j (inl here) = (noted_word slot_of word_of slots kept.board s.words number j ((i, x) ∷ found) mine (inl here)).0
  my_word j (inr has) = (noted_word slot_of word_of slots kept.board s.words number j ((i, x) ∷ found) mine (inr (had_same found had j same has))).0

  leave_here : slice_index (slice_set s.words (word_of i) 0) (word_of i) ≡ 0
  leave_here = get_or-set_same s.words (word_of i) 0 0 (kept.words i mine.0.within)

  leave_else : (j : ℕ) → (j ≡ i → ⊥) → slice_index (slice_set s.words (word_of i) 0) (word_of j) ≡ slice_index s.words (word_of j)
  leave_else j apart = get_or-set_other s.words (word_of i) (word_of j) 0 0 (λ same. apart (single_word j i same))

  leave_home : (j : ℕ) → j < slots → slice_index left_state.words (word_of j) ≡ 0 → IsHome slot_of now left_state.homes j
  leave_home j range is_zero = elim (cases_eq j i) [
    | inl here ↦ (
      y,
      ap (λ k. get_elem? left_state.homes k) here ∙ set_here s.homes i (some y) (omega (arith, mine.0.within, size)),
      ap (λ k. slot_of now k) here ∙ commit.stand.0,
    )
    | inr apart ↦
        let was : slice_index s.words (word_of j) ≡ 0 = sym (leave_else j apart) ∙ is_zero in
        let h = kept.home j range was in
        (h.0, set_else s.homes i j (some y) apart ∙ h.1, commit.others j (λ has. absurd (omega (arith, leavers.low, sym (my_word j has) ∙ was))) ∙ h.2)
  ]

  -- another slot that this seat has it has still
  has_still : (j : ℕ) → (j ≡ i → ⊥) → HasSlot j ((i, x) ∷ found) → HasSlot j had
  has_still j apart (inl here) = absurd (apart (sym here))
  has_still j apart (inr has) = same_has found had j same has

  leave_still : (j : ℕ) → (j ≡ i → ⊥) → IsHeld j s.views → IsHeld j left_state.views
  leave_still j apart h = elim (cases_eq h.holder id) [
    | inl me ↦ record {
      holder = id;
      view = left;
      at = set_here s.views id left (within s.views id _ at_seat);
      has = has_still j apart (subst (λ (v : View S W C A). HasSlot j v.has) (some-injective _ _ (sym h.at ∙ ap (λ n. get_elem? s.views n) me ∙ at_seat)) h.has);
    }
    | inr other ↦ record { holder = h.holder; view = h.view; at = set_else s.views id h.holder left other ∙ h.at; has = h.has }
  ]

  leave_held : (j : ℕ) → j < slots → (slice_index left_state.words (word_of j) ≡ 0 → ⊥) → IsHeld j left_state.views
  leave_held j range busy = elim (cases_eq j i) [
    | inl here ↦ absurd (busy (ap (λ k. slice_index left_state.words (word_of k)) here ∙ leave_here))
    | inr apart ↦ leave_still j apart (kept.held j range (λ is_zero. busy (leave_else j apart ∙ is_zero)))
  ]

  leave_noted_here : AreNoted slot_of word_of slots now left_state.words number had
  leave_noted_here =
      noted_anew slot_of word_of slots kept.board now s.words left_state.words number found had same mine.1 commit.stand.1
      (λ j has. leave_else j (λ here. single (subst (λ k. HasSlot k found) here has)))

  -- what another seat has is none of this one's
  not_mine : (seat : ℕ) (view : View S W C A) → get_elem? s.views seat ≡ some view → (seat ≡ id → ⊥) → (z : ℕ × S) →
      IsNoted slot_of word_of slots kept.board s.words (number_of view.parts) z → HasSlot z.0 ((i, y) ∷ had) → ⊥
  not_mine seat view at apart z noted has =
      let same_number : number_of view.parts ≡ number = sym noted.word ∙ my_word z.0 has in
      apart (sym (number_owned answers seats kept.board kept.owner seat view.parts (kept.parts seat view at) noted.low) ∙ ap kept.owner same_number ∙ leavers.owned)

  leave_noted_else : (seat : ℕ) (view : View S W C A) → get_elem? s.views seat ≡ some view → (seat ≡ id → ⊥) →
      AreNoted slot_of word_of slots now left_state.words (number_of view.parts) view.has
  leave_noted_else seat view at apart =
      each_noted slot_of word_of slots kept.board now s.words left_state.words (number_of view.parts) view.has (kept.noted seat view at)
      (λ z noted. record {
        within = noted.within;
        stands = commit.others z.0 (not_mine seat view at apart z noted) ∙ noted.stands;
        word = leave_else z.0 (λ here. not_mine seat view at apart z noted (inl (sym here))) ∙ noted.word;
        low = noted.low;
      })

  leave_noted : (seat : ℕ) (view : View S W C A) → get_elem? left_state.views seat ≡ some view → AreNoted slot_of word_of slots now left_state.words (number_of view.parts) view.has
  leave_noted seat view e = elim (at_set s.views id seat left view e) [
    | inl h ↦ subst (λ (v : View S W C A). AreNoted slot_of word_of slots now left_state.words (number_of v.parts) v.has) h.1 leave_noted_here
    | inr h ↦ leave_noted_else seat view h.1 h.0
  ]

  leave_part : IsPartOf answers seats now kept.owner id (part number last)
  leave_part = record { owned = leavers.owned; low = leavers.low; high = leavers.high; followed = followed }

  leave_parts : (seat : ℕ) (view : View S W C A) → get_elem? left_state.views seat ≡ some view → ArePartsOf answers seats now kept.owner seat view.parts
  leave_parts seat view e = elim (at_set s.views id seat left view e) [
    | inl h ↦ subst (λ (v : View S W C A). ArePartsOf answers seats now kept.owner seat v.parts) h.1
        (subst (λ n. ArePartsOf answers seats now kept.owner n left.parts) (sym h.0) (leave_part, tt))
    | inr h ↦ each_still answers seats kept.board now kept.owner number id seat commit.worked leavers.owned h.0 view.parts (kept.parts seat view h.1)
  ]

  leave_kept : IsKept answers slot_of word_of slots seats first left_state
  leave_kept = record {
    board = now;
    owner = kept.owner;
    words = λ j range. subst (λ n. word_of j < n) (sym (length-set s.words (word_of i) 0)) (kept.words j range);
    first_is = first_stays answers number kept.board now commit.worked ∙ kept.first_is;
    legal = still_legal answers number kept.board now kept.legal commit.worked;
    calls = still_seated answers seats number kept.board now leavers.low leavers.high kept.calls commit.worked;
    home = leave_home;
    held = leave_held;
    noted = leave_noted;
    parts = leave_parts;
    once = λ n. omega (arith, kept.once n, times_after n s.views id (holding number seen ((i, x) ∷ found)) left at_seat);
  }

module _ {S W C A : Type 0} (answers : ℕ → W → C → A → W → Type 0) (slot_of : Logged W C A → ℕ → Option S) (word_of : ℕ → ℕ) (single_word : AreApart word_of) (slots seats : ℕ) (first : W) where
  -- with the call of the seat, or with none
  pub leave_allowed : (i id number : ℕ) (seen : Logged W C A) (x y : S) (found had : List (ℕ × S)) → (HasSlot i found → ⊥) → AreSameSlots found had →
      Commits answers slot_of number ((i, x) ∷ found) ((i, y) ∷ had) →
      Allows (IsKept answers slot_of word_of slots seats first) slots id (holding number seen ((i, x) ∷ found), (i, y) ∷ had) (word_of i) (λ n. 0)
      (λ n. has_left answers slot_of (step slots (word_of i) 0 0 none) (holding number seen ((i, x) ∷ found), (i, y) ∷ had) 0)
  leave_allowed i id number seen x y found had single same commits s kept size at_seat low =
      let stand = all_stand slot_of word_of slots kept.board s.words number ((i, x) ∷ found) (kept.noted id _ at_seat) in
      let c = commits kept.board stand in
      let on = followed_same answers number c.0 in (
        holding number c.0 had,
        gives,
        tt,
        leave_kept answers slot_of word_of single_word slots seats first s kept i id number seen x y found had size at_seat single same c.0 c.1 c.0 on,
        record {
          board = kept.board;
          now = c.0;
          followed = ((kept.parts id _ at_seat).0.followed, tt);
          legal = kept.legal;
          found = stand;
          worked = (c.1.worked, tt);
          left = c.1.stand;
          after_is = refl;
        },
      )

  -- a slot in which nothing is new
  pub release_allowed : (i id number : ℕ) (seen : Logged W C A) (x : S) (had : List (ℕ × S)) → (HasSlot i had → ⊥) → AreSameSlots had had →
      Allows (IsKept answers slot_of word_of slots seats first) slots id (holding number seen ((i, x) ∷ had), (i, x) ∷ had) (word_of i) (λ n. 0)
      (λ n. has_released (step slots (word_of i) 0 0 none) (holding number seen ((i, x) ∷ had), (i, x) ∷ had) 0)
  release_allowed i id number seen x had single same s kept size at_seat low =
      let commit : IsCommit answers slot_of number ((i, x) ∷ had) kept.board kept.board = record
      { worked = inl refl; stand = all_stand slot_of word_of slots kept.board s.words number ((i, x) ∷ had) (kept.noted id _ at_seat); others = λ j apart. refl } in (
        holding number seen had,
        gives,
        tt,
        leave_kept answers slot_of word_of single_word slots seats first s kept i id number seen x x had had size at_seat single same kept.board commit seen (kept.parts id _ at_seat).0.followed,
        refl,
      )

  -- the same, where the seat sees the board
  pub look_allowed : (i id number : ℕ) (seen : Logged W C A) (x : S) (had : List (ℕ × S)) → (HasSlot i had → ⊥) → AreSameSlots had had →
      Allows (IsKept answers slot_of word_of slots seats first) slots id (holding number seen ((i, x) ∷ had), (i, x) ∷ had) (word_of i) (λ n. 0)
      (λ n. HasLooked answers slot_of (holding number seen ((i, x) ∷ had), (i, x) ∷ had))
  look_allowed i id number seen x had single same s kept size at_seat low =
      let stand = all_stand slot_of word_of slots kept.board s.words number ((i, x) ∷ had) (kept.noted id _ at_seat) in
      let commit : IsCommit answers slot_of number ((i, x) ∷ had) kept.board kept.board = record { worked = inl refl; stand = stand; others = λ j apart. refl } in (
        holding number kept.board had,
        gives,
        tt,
        leave_kept answers slot_of word_of single_word slots seats first s kept i id number seen x x had had size at_seat single same kept.board commit kept.board
            (followed_same answers number kept.board),
        record { board = kept.board; followed = ((kept.parts id _ at_seat).0.followed, tt); legal = kept.legal; found = stand; after_is = refl },
      )
