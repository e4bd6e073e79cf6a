-- Each step on a word keeps the rule.
use Rattle.std.specs.Prelude.{◌≡◌, ℕ, zero, suc, ◌<◌, ◌≤◌, ◌==◌, List, [], ◌∷◌, slice_set, slice_index, length}
use Rattle.std.proofs.Common.{refl, sym, ap, subst, ◌∙◌, inl, inr, arith, length-set}
use Rattle.std.proofs.lemmas.List.{get_or-set_same, get_or-set_other, set-get_or}
use Rattle.std.proofs.lemmas.Bool.{cases_eq}
use mathlib.Core.Option.{Option, none, some, some-injective, some-ne-none}
use lib.ListN.{get_elem?}
use prog.Atomic.{either}
use Rattle.atomic_table.specs.Table.{State, Act, Allows, Valid, carried_after, stepped, step, takes, keeps}
use Rattle.atomic_table.proofs.Lists.{at_set, set_here, set_else, set_again, exchanged}
use Rattle.gate.specs.declared.rules.Part.{Part}
use Rattle.gate.specs.declared.rules.View.{View}
use Rattle.gate.specs.Logs.{Logged, HasWorked}
use Rattle.gate.specs.Views.{part, holding, HasSlot, HasTried, AreSameSlots, Stand, has_entered}
use Rattle.gate.specs.Rules.{IsKept, IsPartOf, ArePartsOf, IsHeld, IsNoted, AreNoted, IsHome, number_of}
use Rattle.gate.proofs.Counting.{times_after}
use Rattle.gate.proofs.Following.{still_followed}

-- a place that holds something is within the list
pub within : {X : Type 0} (xs : List X) (i : ℕ) (x : X) → get_elem? xs i ≡ some x → i < length xs
within [] i x e = absurd (some-ne-none x (sym e))
within (z ∷ xs) zero x e = omega arith
within (z ∷ xs) (suc i) x e = omega (arith, within xs i x e)

-- no two slots have the same word
abbrev pub AreApart : (ℕ → ℕ) → Type 0
AreApart word_of = (i j : ℕ) → word_of i ≡ word_of j → i ≡ j

module _ {S W C A : Type 0} (slot_of : Logged W C A → ℕ → Option S) (word_of : ℕ → ℕ) (slots : ℕ) where
  -- a slot that a seat has noted has the seat's number
  pub noted_word : (board : Logged W C A) (words : List ℕ) (number i : ℕ) (xs : List (ℕ × S)) → AreNoted slot_of word_of slots board words number xs → HasSlot i xs →
      (slice_index words (word_of i) ≡ number) × (1 ≤ number)
  noted_word board words number i [] noted has = absurd has
  noted_word board words number i (x ∷ xs) noted (inl here) = (subst (λ k. slice_index words (word_of k) ≡ number) here noted.0.word, noted.0.low)
  noted_word board words number i (x ∷ xs) noted (inr has) = noted_word board words number i xs noted.1 has

  -- slots stay noted where each does
  pub each_noted : (board now : Logged W C A) (words later : List ℕ) (number : ℕ) (xs : List (ℕ × S)) → AreNoted slot_of word_of slots board words number xs →
      ((x : ℕ × S) → IsNoted slot_of word_of slots board words number x → IsNoted slot_of word_of slots now later number x) → AreNoted slot_of word_of slots now later number xs
  each_noted board now words later number [] noted still = tt
  each_noted board now words later number (x ∷ xs) noted still = (still x noted.0, each_noted board now words later number xs noted.1 still)

  -- what the slots of a seat have now, where they are noted anew
  pub noted_anew : (board now : Logged W C A) (words later : List ℕ) (number : ℕ) (found slots_now : List (ℕ × S)) → AreSameSlots found slots_now →
      AreNoted slot_of word_of slots board words number found → Stand slot_of now slots_now → ((j : ℕ) → HasSlot j found → slice_index later (word_of j) ≡ slice_index words (word_of j)) →
      AreNoted slot_of word_of slots now later number slots_now
  noted_anew board now words later number [] [] same noted stand words_same = tt
  noted_anew board now words later number [] (y ∷ ys) same noted stand words_same = absurd same
  noted_anew board now words later number (x ∷ xs) [] same noted stand words_same = absurd same
  noted_anew board now words later number (x ∷ xs) (y ∷ ys) same noted stand words_same = (
    record {
      within = subst (λ k. k < slots) same.0 noted.0.within;
      stands = stand.0;
      word = subst (λ k. slice_index later (word_of k) ≡ number) same.0 (words_same x.0 (inl refl) ∙ noted.0.word);
      low = noted.0.low;
    },
    noted_anew board now words later number xs ys same.1 noted.1 stand.1 (λ j has. words_same j (inr has)),
  )

  -- what a seat has noted is so
  pub all_stand : (board : Logged W C A) (words : List ℕ) (number : ℕ) (xs : List (ℕ × S)) → AreNoted slot_of word_of slots board words number xs → Stand slot_of board xs
  all_stand board words number [] noted = tt
  all_stand board words number (x ∷ xs) noted = (noted.0.stands, all_stand board words number xs noted.1)

module _ {W C A : Type 0} (answers : ℕ → W → C → A → W → Type 0) (seats : ℕ) where
  -- the number under which a seat is inside is its own
  pub number_owned : (board : Logged W C A) (owner : ℕ → ℕ) (seat : ℕ) (ps : List (Part W C A)) → ArePartsOf answers seats board owner seat ps → 1 ≤ number_of ps →
      owner (number_of ps) ≡ seat
  number_owned board owner seat [] stand low = absurd (omega (arith, low))
  number_owned board owner seat (p ∷ ps) stand low = stand.0.owned

  -- another seat's numbers are left alone
  pub each_still : (board now : Logged W C A) (owner : ℕ → ℕ) (number id seat : ℕ) → HasWorked answers number board now → owner number ≡ id → (seat ≡ id → ⊥) →
      (ps : List (Part W C A)) → ArePartsOf answers seats board owner seat ps → ArePartsOf answers seats now owner seat ps
  each_still board now owner number id seat worked own other [] stand = tt
  each_still board now owner number id seat worked own other (p ∷ ps) stand = (
    record {
      owned = stand.0.owned;
      low = stand.0.low;
      high = stand.0.high;
      followed = still_followed answers p.number number p.seen board now (λ same. other (sym stand.0.owned ∙ ap owner (sym same) ∙ own)) stand.0.followed worked;
    },
    each_still board now owner number id seat worked own other ps stand.1,
  )

-- ---- taking a slot

module _ {S W C A : Type 0} (answers : ℕ → W → C → A → W → Type 0) (slot_of : Logged W C A → ℕ → Option S) (word_of : ℕ → ℕ) (single_word : AreApart word_of) (slots seats : ℕ) (first : W)
    (s : State S (View S W C A)) (kept : IsKept answers slot_of word_of slots seats first s) (i id number : ℕ) (seen : Logged W C A) (found : List (ℕ × S))
    (in_range : i < slots) (at_seat : get_elem? s.views id ≡ some (holding number seen found)) (free : slice_index s.words (word_of i) ≡ 0) where
  abbrev its_home : IsHome slot_of kept.board s.homes i
  its_home = kept.home i in_range free

  abbrev taken : View S W C A
  taken = holding number seen ((i, its_home.0) ∷ found)

  abbrev taken_state : State S (View S W C A)
  taken_state = stepped s (word_of i) number id [] taken (takes i its_home.0)

  takers : IsPartOf answers seats kept.board kept.owner id (part number seen)
  takers = (kept.parts id (holding number seen found) at_seat).0

  take_here : slice_index (slice_set s.words (word_of i) number) (word_of i) ≡ number
  take_here = get_or-set_same s.words (word_of i) number 0 (kept.words i in_range)

  take_else : (j : ℕ) → (j ≡ i → ⊥) → slice_index (slice_set s.words (word_of i) number) (word_of j) ≡ slice_index s.words (word_of j)
  take_else j apart = get_or-set_other s.words (word_of i) (word_of j) number 0 (λ same. apart (single_word j i same))

  take_home : (j : ℕ) → j < slots → slice_index taken_state.words (word_of j) ≡ 0 → IsHome slot_of kept.board taken_state.homes j
  take_home j range is_zero = elim (cases_eq j i) [
    | inl same ↦ absurd (omega (arith, takers.low, sym take_here ∙ ap (λ k. slice_index taken_state.words (word_of k)) (sym same) ∙ is_zero))
    | inr apart ↦ let h = kept.home j range (sym (take_else j apart) ∙ is_zero) in (h.0, set_else s.homes i j _ apart ∙ h.1, h.2)
  ]

  -- who had a slot has it
  take_still : (j : ℕ) → IsHeld j s.views → IsHeld j taken_state.views
  take_still j h = elim (cases_eq h.holder id) [
    | inl same ↦ record {
      holder = id;
      view = taken;
      at = set_here s.views id taken (within s.views id _ at_seat);
      has = inr (subst (λ (v : View S W C A). HasSlot j v.has) (some-injective _ _ (sym h.at ∙ ap (λ n. get_elem? s.views n) same ∙ at_seat)) h.has);
    }
    | inr apart ↦ record { holder = h.holder; view = h.view; at = set_else s.views id h.holder taken apart ∙ h.at; has = h.has }
  ]

  take_held : (j : ℕ) → j < slots → (slice_index taken_state.words (word_of j) ≡ 0 → ⊥) → IsHeld j taken_state.views
  take_held j range busy = elim (cases_eq j i) [
    | inl same ↦ record { holder = id; view = taken; at = set_here s.views id taken (within s.views id _ at_seat); has = inl (sym same) }
    | inr apart ↦ take_still j (kept.held j range (λ is_zero. busy (take_else j apart ∙ is_zero)))
  ]

  take_noted_here : AreNoted slot_of word_of slots kept.board taken_state.words number taken.has
  take_noted_here = (
    record { within = in_range; stands = its_home.2; word = take_here; low = takers.low },
    each_noted slot_of word_of slots kept.board kept.board s.words taken_state.words number found (kept.noted id _ at_seat)
        (λ x noted. record {
          within = noted.within;
          stands = noted.stands;
          word = elim (cases_eq x.0 i) [ inl same ↦ ap (λ k. slice_index taken_state.words (word_of k)) same ∙ take_here | inr apart ↦ take_else x.0 apart ∙ noted.word ];
          low = noted.low;
        }),
  )

  take_noted_else : (seat : ℕ) (view : View S W C A) → get_elem? s.views seat ≡ some view →
      AreNoted slot_of word_of slots kept.board taken_state.words (number_of view.parts) view.has
  take_noted_else seat view at =
      each_noted slot_of word_of slots kept.board kept.board s.words taken_state.words (number_of view.parts) view.has (kept.noted seat view at)
      (λ x noted. record {
        within = noted.within;
        stands = noted.stands;
        word = take_else x.0 (λ same. absurd (omega (arith, noted.low, sym noted.word ∙ ap (λ k. slice_index s.words (word_of k)) same ∙ free))) ∙ noted.word;
        low = noted.low;
      })

  take_noted : (seat : ℕ) (view : View S W C A) → get_elem? taken_state.views seat ≡ some view →
      AreNoted slot_of word_of slots kept.board taken_state.words (number_of view.parts) view.has
  take_noted seat view e = elim (at_set s.views id seat taken view e) [
    | inl h ↦ subst (λ (v : View S W C A). AreNoted slot_of word_of slots kept.board taken_state.words (number_of v.parts) v.has) h.1 take_noted_here
    | inr h ↦ take_noted_else seat view h.1
  ]

  take_parts : (seat : ℕ) (view : View S W C A) → get_elem? taken_state.views seat ≡ some view → ArePartsOf answers seats kept.board kept.owner seat view.parts
  take_parts seat view e = elim (at_set s.views id seat taken view e) [
    | inl h ↦ subst (λ (v : View S W C A). ArePartsOf answers seats kept.board kept.owner seat v.parts) h.1
        (subst (λ n. ArePartsOf answers seats kept.board kept.owner n taken.parts) (sym h.0) (takers, tt))
    | inr h ↦ kept.parts seat view h.1
  ]

  take_kept : IsKept answers slot_of word_of slots seats first taken_state
  take_kept = record {
    board = kept.board;
    owner = kept.owner;
    words = λ j range. subst (λ n. word_of j < n) (sym (length-set s.words (word_of i) number)) (kept.words j range);
    first_is = kept.first_is;
    legal = kept.legal;
    calls = kept.calls;
    home = take_home;
    held = take_held;
    noted = take_noted;
    parts = take_parts;
    once = λ n. omega (arith, kept.once n, times_after n s.views id (holding number seen found) taken at_seat);
  }

module _ {S W C A : Type 0} (answers : ℕ → W → C → A → W → Type 0) (slot_of : Logged W C A → ℕ → Option S) (word_of : ℕ → ℕ) (single_word : AreApart word_of) (slots seats : ℕ) (first : W) where
  -- where the word isn't 0 nothing changes
  same_state : (s : State S (View S W C A)) (i id : ℕ) (view : View S W C A) (had : List (ℕ × S)) → get_elem? s.views id ≡ some view →
      stepped s (word_of i) (slice_index s.words (word_of i)) id had view keeps ≡ s
  same_state s i id view had at_seat =
      ap (λ ws. record { words = ws; homes = s.homes; views = slice_set s.views id view }) (set-get_or s.words (word_of i) 0)
      ∙ ap (λ vs. record { words = s.words; homes = s.homes; views = vs }) (set_again s.views id view at_seat)

  -- what the seat's try comes to, where the word becomes n
  abbrev Comes : State S (View S W C A) → ℕ → ℕ → ℕ → Logged W C A → List (ℕ × S) → List (ℕ × S) → ℕ → Type 0
  Comes s i id number seen found had n =
      (w : View S W C A) × (a : Act S) × Valid s.homes had a × IsKept answers slot_of word_of slots seats first (stepped s (word_of i) n id had w a)
      × HasTried i (holding number seen found, had) (slice_index s.words (word_of i)) (w, carried_after had a)

  hit : (s : State S (View S W C A)) (kept : IsKept answers slot_of word_of slots seats first s) (i id number : ℕ) (seen : Logged W C A) (found had : List (ℕ × S)) → i < slots →
      get_elem? s.views id ≡ some (holding number seen found) → slice_index s.words (word_of i) ≡ 0 → Comes s i id number seen found had number
  hit s kept i id number seen found had in_range at_seat free =
      let h = kept.home i in_range free in (
        taken answers slot_of word_of single_word slots seats first s kept i id number seen found in_range at_seat free,
        takes i h.0,
        h.1,
        take_kept answers slot_of word_of single_word slots seats first s kept i id number seen found in_range at_seat free,
        ((λ zero_word. (h.0, refl)), (λ busy. absurd (busy free))),
      )

  miss : (s : State S (View S W C A)) (kept : IsKept answers slot_of word_of slots seats first s) (i id number : ℕ) (seen : Logged W C A) (found had : List (ℕ × S)) →
      get_elem? s.views id ≡ some (holding number seen found) → (slice_index s.words (word_of i) ≡ 0 → ⊥) → Comes s i id number seen found had (slice_index s.words (word_of i))
  miss s kept i id number seen found had at_seat busy =
      let stays = subst (λ t. IsKept answers slot_of word_of slots seats first t) (sym (same_state s i id (holding number seen found) had at_seat)) kept in
      (holding number seen found, keeps, tt, stays, ((λ zero_word. absurd (busy zero_word)), (λ other. refl)))

  pub enter_allowed : (slot_at : ℕ → ℕ) (i id number : ℕ) (seen : Logged W C A) (found had : List (ℕ × S)) → i < slots → slot_at (word_of i) ≡ i →
      Allows (IsKept answers slot_of word_of slots seats first) slots id (holding number seen found, had) (word_of i) (λ n. either (n == 0) number n)
      (has_entered slot_at (step slots (word_of i) 0 number none) (holding number seen found, had))
  enter_allowed slot_at i id number seen found had in_range its s kept size at_seat low =
      let come = exchanged (slice_index s.words (word_of i)) 0 number (Comes s i id number seen found had)
      (λ free. hit s kept i id number seen found had in_range at_seat free)
      (λ busy. miss s kept i id number seen found had at_seat busy) in (
        come.0,
        come.1,
        come.2,
        come.3,
        subst (λ k. HasTried k (holding number seen found, had) (slice_index s.words (word_of i)) (come.0, carried_after had come.1)) (sym its) come.4,
      )
