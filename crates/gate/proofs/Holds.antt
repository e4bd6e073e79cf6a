-- The rule of a gate with one slot, at one hold of it.
use Rattle.std.specs.Prelude.{◌≡◌, ℕ, zero, suc, ◌<◌, ◌==◌, List, [], ◌∷◌, slice_index}
use Rattle.std.proofs.Common.{refl, sym, ap, subst, ◌∙◌, inl, arith}
use mathlib.Core.Option.{Option, none, some-injective}
use prog.Atomic.{either}
use Rattle.atomic_table.specs.Table.{Allows, step, rest}
use Rattle.atomic_table.specs.Seated.{TableId}
use Rattle.gate.specs.Logs.{Logged, IsLegal, HasFollowed, HasCalled, HasWorked}
use Rattle.gate.specs.Views.{Place, HasSlot, holding, outside, IsOf, HasTaken, has_entered, has_left, HasLeft, Commits}
use Rattle.gate.specs.Rules.{IsKept, only_slot, same_word}
use Rattle.gate.specs.Seats.{Seated}
use Rattle.gate.specs.Calls.{IsCalled, HasHeard}
use Rattle.gate.proofs.Crews.{AreSlotsOf}
use Rattle.gate.proofs.Keeping.{AreApart, enter_allowed}
use Rattle.gate.proofs.Leaving.{leave_allowed}

-- ---- gates of whatever slots

module _ {S W C A : Type 0} (answers : ℕ → W → C → A → W → Type 0) (slot_of : Logged W C A → ℕ → Option S) (word_of : ℕ → ℕ) (single_word : AreApart word_of) (slots seats : ℕ) (first : W) where
  pub exchange_allowed : (slot_at : ℕ → ℕ) (size i id number : ℕ) (me : Place S W C A) → size ≡ slots → i < slots → slot_at (word_of i) ≡ i → IsOf number me →
      Allows (IsKept answers slot_of word_of slots seats first) size id me (word_of i) (λ n. either (n == 0) number n) (has_entered slot_at (step size (word_of i) 0 number none) me)
  exchange_allowed slot_at size i id number me same within its is =
      let View : Place S W C A → Type 0 = λ m. Allows (IsKept answers slot_of word_of slots seats first) slots id m (word_of i) (λ n. either (n == 0) number n)
      (has_entered slot_at (step slots (word_of i) 0 number none) m) in
      let Sized : ℕ → Type 0 = λ k. Allows (IsKept answers slot_of word_of slots seats first) k id me (word_of i) (λ n. either (n == 0) number n)
      (has_entered slot_at (step k (word_of i) 0 number none) me) in
      subst Sized (sym same)
      (subst View (ap (λ v. (v, me.1)) (sym is.2)) (enter_allowed answers slot_of word_of single_word slots seats first slot_at i id number is.0 is.1 me.1 within its))

-- ---- gates of one slot

module _ {O C A : Type 0} (answers : ℕ → O → C → A → O → Type 0) where
  no_other : (board now : Logged O C A) (j : ℕ) → (HasSlot j ((0, now) ∷ []) → ⊥) → only_slot now j ≡ only_slot board j
  no_other board now zero apart = absurd (apart (inl refl))
  no_other board now (suc j) apart = refl

  one_commit : (number : ℕ) (found now : Logged O C A) → HasWorked answers number found now → Commits answers only_slot number ((0, found) ∷ []) ((0, now) ∷ [])
  one_commit number found now worked board stand = (
    now,
    record {
      worked = subst (λ b. HasWorked answers number b now) (sym (some-injective board found stand.0)) worked;
      stand = (refl, tt);
      others = no_other board now;
    },
  )

  pub store_allowed : (seats : ℕ) (first : O) (size id number : ℕ) (me : Place (Logged O C A) O C A) (seen found now : Logged O C A) → size ≡ 1 →
      me ≡ (holding number seen ((0, found) ∷ []), (0, now) ∷ []) → HasWorked answers number found now →
      Allows (IsKept answers only_slot same_word 1 seats first) size id me 0 (λ n. 0) (λ n. has_left answers only_slot (step size 0 0 0 none) me 0)
  store_allowed seats first size id number me seen found now same is worked =
      let At : Place (Logged O C A) O C A → Type 0 = λ m. Allows (IsKept answers only_slot same_word 1 seats first) 1 id m 0 (λ n. 0) (λ n. has_left answers only_slot (step 1 0 0 0 none) m 0) in
      let Sized : ℕ → Type 0 = λ k. Allows (IsKept answers only_slot same_word 1 seats first) k id me 0 (λ n. 0) (λ n. has_left answers only_slot (step k 0 0 0 none) me 0) in
      subst Sized (sym same)
      (subst At (sym is) (leave_allowed answers only_slot same_word (λ i j same. same) 1 seats first 0 id number seen found now [] [] (λ has. has) tt (one_commit number found now worked)))

-- the table of such a gate at the start
pub one_open : (i : ℕ) → slice_index (0 ∷ []) i ≡ 0
one_open zero = refl
one_open (suc i) = refl

pub one_slot_of : {O C A : Type 0} (board : Logged O C A) → AreSlotsOf only_slot 1 board (board ∷ [])
one_slot_of board zero within = (board, refl, refl)
one_slot_of board (suc i) within = absurd (omega (arith, within))

-- ---- the seat that is inside

-- the slot that the seat has
abbrev slot_or : {X : Type 0} → X → List (ℕ × X) → X
slot_or other [] = other
slot_or other (slot ∷ slots) = slot.1

module _ {O C A : Type 0} where
  -- the seat of this number, which had seen this, is inside with the board
  pub record IsIn (number : ℕ) (seen : Logged O C A) (me : Place (Logged O C A) O C A) : Type 0 where
    pub board : Logged O C A
    pub place : me ≡ (holding number seen ((0, board) ∷ []), (0, board) ∷ [])

  pub came_in : (number : ℕ) (seen : Logged O C A) (before me : Place (Logged O C A) O C A) → before ≡ (outside number seen, []) → HasTaken 0 before me → IsIn number seen me
  came_in number seen before me is entered = let h = subst (λ m. HasTaken 0 m me) is entered in record { board = h.0; place = h.1 }

  module _ (number : ℕ) (seen : Logged O C A) (me : Place (Logged O C A) O C A) (within : IsIn number seen me) where
    pub has_slot : (x : Logged O C A) × (me.1 ≡ (0, x) ∷ rest me.1)
    has_slot = (within.board, subst (λ (m : Place (Logged O C A) O C A). m.1 ≡ (0, within.board) ∷ rest m.1) (sym within.place) refl)

    -- what is lent is the board
    pub lent : (y : Logged O C A) → me.1 ≡ (0, y) ∷ rest me.1 → y ≡ within.board
    lent y out = ap (λ xs. slot_or y xs) (sym out ∙ ap (λ m. m.1) within.place)

module _ {O C A : Type 0} (answers : ℕ → O → C → A → O → Type 0) (number : ℕ) (seen : Logged O C A) (me : Place (Logged O C A) O C A) (within : IsIn number seen me) where
  -- once the slot has been worked on
  pub may_leave : (y now : Logged O C A) → me.1 ≡ (0, y) ∷ rest me.1 → HasWorked answers number y now →
      (n : ℕ) × (last : Logged O C A) × (found : Logged O C A) × (later : Logged O C A)
      × ◌≡◌ {A = Place (Logged O C A) O C A} (me.0, (0, now) ∷ rest me.1) (holding n last ((0, found) ∷ []), (0, later) ∷ []) × HasWorked answers n found later
  may_leave y now out worked =
      (number, seen, within.board, now, ap (λ m. (m.0, (0, now) ∷ rest m.1)) within.place, subst (λ b. HasWorked answers number b now) (lent number seen me within y out) worked)

  -- the seat is outside again; what it found was legal, and had gone on without it
  pub record IsOut (y now : Logged O C A) (after : Place (Logged O C A) O C A) : Type 0 where
    pub followed : HasFollowed answers number seen y
    pub legal : IsLegal answers y
    pub place : after ≡ (outside number now, [])

  out_by : (y now : Logged O C A) (after : Place (Logged O C A) O C A) → y ≡ within.board → HasLeft answers only_slot (holding number seen ((0, within.board) ∷ []), (0, now) ∷ []) after →
      IsOut y now after
  out_by y now after same h =
      let found : h.board ≡ y = some-injective h.board within.board h.found.0 ∙ sym same in
      let last : h.now ≡ now = some-injective h.now now h.left.0 in
      record {
        followed = subst (λ b. HasFollowed answers number seen b) found h.followed.0;
        legal = subst (λ b. IsLegal answers b) found h.legal;
        place = h.after_is ∙ ap (λ b. (outside number b, [])) last;
      }

  pub came_out : (y now : Logged O C A) (after : Place (Logged O C A) O C A) → me.1 ≡ (0, y) ∷ rest me.1 → HasLeft answers only_slot (me.0, (0, now) ∷ rest me.1) after → IsOut y now after
  came_out y now after out left =
      out_by y now after (lent number seen me within y out) (subst (λ m. HasLeft answers only_slot (m.0, (0, now) ∷ rest m.1) after) within.place left)

  pub is_called : (call : C) (answer : A) (id other : TableId) (y now marked : Logged O C A) (before : Seated O C A) (after : Place (Logged O C A) O C A) →
      record { gate = id; number = number; seen = seen } ≡ before → other ≡ id → IsOut y now after → HasCalled answers number call answer y now → marked ≡ now →
      IsCalled answers before call answer (record { gate = other; number = number; seen = marked })
  is_called call answer id other y now marked before after is same out called mark =
      subst (λ (b : Seated O C A). IsCalled answers b call answer (record { gate = other; number = number; seen = marked })) is (record {
        gate = same;
        number = refl;
        board = y;
        followed = out.followed;
        legal = out.legal;
        called = subst (λ b. HasCalled answers number call answer y b) (sym mark) called;
      })
