-- Comparing places: each two are the same, or one of them is before the other.
use Rattle.std.specs.Prelude.{◌≡◌, ℕ, ◌<◌, Bool, true, false, nat_lt, refl}
use Rattle.std.proofs.Common.{arith}
use Rattle.std.proofs.lemmas.Bool.Decides.{nat_tests}
use Rattle.std.proofs.Common.{Ordering}
use Rattle.std.specs.Ordering.{nat_cmp, bool_cmp, ordering_then, is_lt}
use Rattle.places.specs.declared.place.Place.{Place}
use Rattle.places.specs.Places.{number_before, bool_before, is_before}

number_asymmetric : (a b : ℕ) (r s : Bool) → (r ≡ true → s ≡ false) → number_before a b r ≡ true → number_before b a s ≡ false
number_asymmetric a b r s h e = grind arith

bool_asymmetric : (a b r s : Bool) → (r ≡ true → s ≡ false) → bool_before a b r ≡ true → bool_before b a s ≡ false
bool_asymmetric a b r s h e = grind arith

id_asymmetric : (a b : ℕ) → nat_lt a b ≡ true → nat_lt b a ≡ false
id_asymmetric a b e = grind arith

-- no two places are each before the other
pub not_both : (p q : Place) → is_before p q ≡ true → is_before q p ≡ false
not_both p q =
    number_asymmetric p.step q.step _ _
    (bool_asymmetric p.on_time q.on_time _ _ (number_asymmetric p.moment q.moment _ _ (bool_asymmetric p.changed_nothing q.changed_nothing _ _ (id_asymmetric p.id q.id))))

number_through : (a b c : ℕ) (r s u : Bool) → (r ≡ false → s ≡ false → u ≡ false) → number_before a b r ≡ false → number_before b c s ≡ false → number_before a c u ≡ false
number_through a b c r s u h d e = grind arith

bool_through : (a b c r s u : Bool) → (r ≡ false → s ≡ false → u ≡ false) → bool_before a b r ≡ false → bool_before b c s ≡ false → bool_before a c u ≡ false
bool_through a b c r s u h d e = grind arith

id_through : (a b c : ℕ) → nat_lt a b ≡ false → nat_lt b c ≡ false → nat_lt a c ≡ false
id_through a b c d e = grind arith

-- what isn't before one that isn't before a third isn't before that
pub not_through : (p q r : Place) → is_before p q ≡ false → is_before q r ≡ false → is_before p r ≡ false
not_through p q r =
    number_through p.step q.step r.step _ _ _
    (bool_through p.on_time q.on_time r.on_time _ _ _
    (number_through p.moment q.moment r.moment _ _ _ (bool_through p.changed_nothing q.changed_nothing r.changed_nothing _ _ _ (id_through p.id q.id r.id))))

number_itself : (a : ℕ) (r : Bool) → r ≡ false → number_before a a r ≡ false
number_itself a r e = grind arith

bool_itself : (a r : Bool) → r ≡ false → bool_before a a r ≡ false
bool_itself a r e = grind arith

-- none is before itself
pub not_itself : (p : Place) → is_before p p ≡ false
not_itself p =
    number_itself p.step _ (bool_itself p.on_time _ (number_itself p.moment _ (bool_itself p.changed_nothing _ (grind arith))))

number_neither : (a b : ℕ) (r s : Bool) → number_before a b r ≡ false → number_before b a s ≡ false → (a ≡ b) × (r ≡ false) × (s ≡ false)
number_neither a b r s d e = grind arith

bool_neither : (a b r s : Bool) → bool_before a b r ≡ false → bool_before b a s ≡ false → (a ≡ b) × (r ≡ false) × (s ≡ false)
bool_neither false false r s d e = (refl, d, e)
bool_neither true true r s d e = (refl, d, e)
bool_neither false true r s d e = absurd (grind arith)
bool_neither true false r s d e = absurd (grind arith)

id_neither : (a b : ℕ) → nat_lt a b ≡ false → nat_lt b a ≡ false → a ≡ b
id_neither a b d e = grind arith

abbrev row : ℕ → Bool → ℕ → Bool → ℕ → Place
row s t m n i = record { step = s; on_time = t; moment = m; changed_nothing = n; id = i }

same_parts : (s s' : ℕ) (t t' : Bool) (m m' : ℕ) (n n' : Bool) (i i' : ℕ) → s ≡ s' → t ≡ t' → m ≡ m' → n ≡ n' → i ≡ i' → row s t m n i ≡ row s' t' m' n' i'
same_parts s s' t t' m m' n n' i i' a b c d e = rw (a, b, c, d, e) refl

same_rows : (p q : Place) → p.step ≡ q.step → p.on_time ≡ q.on_time → p.moment ≡ q.moment → p.changed_nothing ≡ q.changed_nothing → p.id ≡ q.id → p ≡ q
same_rows p q a b c d e = same_parts p.step q.step p.on_time q.on_time p.moment q.moment p.changed_nothing q.changed_nothing p.id q.id a b c d e

-- two of which neither is before the other are the same
pub neither : (p q : Place) → is_before p q ≡ false → is_before q p ≡ false → p ≡ q
neither p q d e =
    let steps = number_neither p.step q.step _ _ d e in
    let times = bool_neither p.on_time q.on_time _ _ steps.1 steps.2 in
    let moments = number_neither p.moment q.moment _ _ times.1 times.2 in
    let roles = bool_neither p.changed_nothing q.changed_nothing _ _ moments.1 moments.2 in
    same_rows p q steps.0 times.0 moments.0 roles.0 (id_neither p.id q.id roles.1 roles.2)

-- one of a lower step is before
pub lower_before : (p q : Place) → p.step < q.step → is_before q p ≡ false
lower_before p q less = lower p.step q.step _ less
  where
    lower : (a b : ℕ) (r : Bool) → a < b → number_before b a r ≡ false
    lower a b r less = grind arith

-- ---- as a sort compares them

abbrev pub compared : Place → Place → Bool
compared p q =
    is_lt
    (ordering_then (nat_cmp p.step q.step)
    (ordering_then (bool_cmp p.on_time q.on_time)
    (ordering_then (nat_cmp p.moment q.moment) (ordering_then (bool_cmp p.changed_nothing q.changed_nothing) (nat_cmp p.id q.id)))))

number_compared : (a b : ℕ) (o : Ordering) (r : Bool) → is_lt o ≡ r → is_lt (ordering_then (nat_cmp a b) o) ≡ number_before a b r
number_compared a b o r e = grind (arith, nat_tests)

bool_compared : (a b : Bool) (o : Ordering) (r : Bool) → is_lt o ≡ r → is_lt (ordering_then (bool_cmp a b) o) ≡ bool_before a b r
bool_compared true true o r e = e
bool_compared false false o r e = e
bool_compared true false o r e = refl
bool_compared false true o r e = refl

ids_compared : (a b : ℕ) → is_lt (nat_cmp a b) ≡ nat_lt a b
ids_compared a b = grind (arith, nat_tests)

pub same_test : (p q : Place) → compared p q ≡ is_before p q
same_test p q =
    number_compared p.step q.step _ _
    (bool_compared p.on_time q.on_time _ _
    (number_compared p.moment q.moment _ _ (bool_compared p.changed_nothing q.changed_nothing _ _ (ids_compared p.id q.id))))
