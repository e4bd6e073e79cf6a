-- What is kept by slot, and main nodes that are newer than those of their slots.
use Rattle.std.proofs.Common.{◌≡◌, ◌≢◌, ℕ, zero, suc, ◌==◌, ◌<◌, ◌≤◌, Bool, true, false, cond, List, [], ◌∷◌}
use Rattle.std.proofs.Common.{get_or, replicate, find, All, Some, None, refl, sym, ap, ◌∙◌, arith, eq-eqb, eqb-true}
use Rattle.std.proofs.lemmas.Bool.{false≢true}
use Rattle.std.proofs.lemmas.List.Elements.{All-head, All-tail}
use Rattle.slot_arena.specs.declared.refs.Ref.{Ref}
use Rattle.slot_arena.specs.Refs.{slot_of}

-- ---- what is kept at first

pub get_or-replicate_same : {T : Type 0} (n i : ℕ) (d : T) → get_or (replicate n d) i d ≡ d
get_or-replicate_same zero zero d = refl
get_or-replicate_same zero (suc i) d = refl
get_or-replicate_same (suc n) zero d = refl
get_or-replicate_same (suc n) (suc i) d = get_or-replicate_same n i d

pub alike : {T : Type 0} (b : Bool) (x : T) → cond b x x ≡ x
alike true x = refl
alike false x = refl

-- ---- nodes of one slot

pub other_slot : (m q : Ref) → (slot_of q == slot_of m) ≡ false → slot_of q ≢ slot_of m
other_slot m q apart same = false≢true (sym apart ∙ eq-eqb (slot_of q) (slot_of m) same)

pub newer_if_other : (m q : Ref) → m ≤ q → (m == q) ≡ false → m < q
newer_if_other m q le apart = grind (arith, eq-eqb)

-- where a node is the newest of these in its slot, a newer one of the slot isn't one of them
pub newer_isnt_there : {T : Type 0} (main_of : T → Ref) (xs : List T) (m q : Ref) → All (λ x. slot_of (main_of x) ≡ slot_of m → main_of x ≤ m) xs → slot_of m ≡ slot_of q → m < q →
    find (λ x. main_of x == q) xs ≡ None
newer_isnt_there main_of [] m q newest slots less = refl
newer_isnt_there {T} main_of (x ∷ xs) m q newest slots less =
    by (main_of x == q) refl (newer_isnt_there main_of xs m q (All-tail Older x xs newest) slots less)
  where
    Older : T → Type 0
    Older y = slot_of (main_of y) ≡ slot_of m → main_of y ≤ m

    by : (b : Bool) → (main_of x == q) ≡ b → find (λ y. main_of y == q) xs ≡ None → cond b (Some x) (find (λ y. main_of y == q) xs) ≡ None
    by true e rest =
        let is : main_of x ≡ q = eqb-true (main_of x) q e in
        let le : main_of x ≤ m = All-head Older x xs newest (ap slot_of is ∙ sym slots) in
        absurd (omega (arith, le, less, is))
    by false e rest = rest
