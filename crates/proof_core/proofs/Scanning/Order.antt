-- The order of a scan is an order; where two hashes are alike to a depth, it goes by what comes from there on.
use Rattle.std.proofs.Common.{◌≡◌, ◌≢◌, ℕ, zero, suc, ◌+◌, ◌-◌, ◌*◌, ◌%◌, ◌^◌, ◌<◌, ◌==◌, Bool, true, false, cond, nat_lt}
use Rattle.std.proofs.Common.{refl, sym, ap, ◌∙◌, arith, eq-eqb, ne_eqb, add_comm, pow_pos}
use Rattle.std.proofs.lemmas.Bool.Decides.{nat_tests}
use Rattle.std.proofs.lemmas.Nat.{mod-mul-add}
use Rattle.proof_core.specs.Vocabulary.{HashKind, hash_of, comes_before, index_in, list_depth, path_to}
use Rattle.proof_core.specs.Beneath.ctrie_base.proofs.Sorting.{IsOrder}
use Rattle.proof_core.specs.Beneath.proof_contents.proofs.Changes.Repairs.{same_factor}
use Rattle.proof_core.specs.Beneath.proof_shape.proofs.Sites.Ways.{path_fits, path_parts, path_shorter}
use Rattle.proof_core.specs.Scanning.{by_indices, scan_order}

-- ---- by a number first, and by a test where that is the same

abbrev by_number : {A : Type 0} → (A → ℕ) → (A → A → Bool) → A → A → Bool
by_number number test x y = cond (number x == number y) (test x y) (nat_lt (number x) (number y))

module _ {A : Type 0} (number : A → ℕ) (test : A → A → Bool) where
  abbrev before : A → A → Bool
  before = by_number number test

  both_no : (x y : A) → (test x y ≡ true → test y x ≡ false) → before x y ≡ true → before y x ≡ false
  both_no x y so h = grind (arith, nat_tests)

  through_no : (x y z : A) → (test x y ≡ false → test y z ≡ false → test x z ≡ false) → before x y ≡ false → before y z ≡ false → before x z ≡ false
  through_no x y z so h k = grind (arith, nat_tests)

  itself_no : (x : A) → test x x ≡ false → before x x ≡ false
  itself_no x so = grind (arith, nat_tests)

  neither_no : (x y : A) → (number x ≡ number y → test x y ≡ false → test y x ≡ false → x ≡ y) → before x y ≡ false → before y x ≡ false → x ≡ y
  neither_no x y so h k = grind (arith, nat_tests)

-- ---- the order of a scan

same_value : (a b : ℕ) → nat_lt a b ≡ false → nat_lt b a ≡ false → a ≡ b
same_value a b h k = grind (arith, nat_tests)

same_key : (p q : ℕ × ℕ) → p.0 ≡ q.0 → nat_lt p.1 q.1 ≡ false → nat_lt q.1 p.1 ≡ false → p ≡ q
same_key (a, b) (c, d) keys h k = rw (keys, same_value b d h k) refl

number_no : (a b : ℕ) → nat_lt a b ≡ true → nat_lt b a ≡ false
number_no a b h = grind (arith, nat_tests)

number_through : (a b c : ℕ) → nat_lt a b ≡ false → nat_lt b c ≡ false → nat_lt a c ≡ false
number_through a b c h k = grind (arith, nat_tests)

number_itself : (a : ℕ) → nat_lt a a ≡ false
number_itself a = grind (arith, nat_tests)

-- the order of pairs by key
pub pairs_order : IsOrder comes_before
pairs_order = record {
  not_both = λ p q h. both_no (λ (r : ℕ × ℕ). r.0) (λ r s. nat_lt r.1 s.1) p q (number_no p.1 q.1) h;
  not_through = λ p q r h k. through_no (λ (s : ℕ × ℕ). s.0) (λ s t. nat_lt s.1 t.1) p q r (number_through p.1 q.1 r.1) h k;
  not_itself = λ p. itself_no (λ (r : ℕ × ℕ). r.0) (λ r s. nat_lt r.1 s.1) p (number_itself p.1);
  neither = λ p q h k. neither_no (λ (r : ℕ × ℕ). r.0) (λ r s. nat_lt r.1 s.1) p q (same_key p q) h k;
}

number_order : {A : Type 0} (number : A → ℕ) (test : A → A → Bool) → IsOrder test → IsOrder (by_number number test)
number_order number test order = record {
  not_both = λ x y h. both_no number test x y (order.not_both x y) h;
  not_through = λ x y z h k. through_no number test x y z (order.not_through x y z) h k;
  not_itself = λ x. itself_no number test x (order.not_itself x);
  neither = λ x y h k. neither_no number test x y (λ same. order.neither x y) h k;
}

indices_order : {A : Type 0} (hash : A → ℕ) (test : A → A → Bool) → IsOrder test → (left depth : ℕ) → IsOrder (λ x y. by_indices left depth (hash x) (hash y) (test x y))
indices_order hash test order zero depth = order
indices_order hash test order (suc left) depth =
    number_order (λ x. index_in (hash x) depth) (λ x y. by_indices left (suc depth) (hash x) (hash y) (test x y)) (indices_order hash test order left (suc depth))

pub scan_is_order : (kind : HashKind) → IsOrder (scan_order kind)
scan_is_order kind = indices_order (λ (p : ℕ × ℕ). hash_of kind p.0) comes_before pairs_order (list_depth kind) 0

-- ---- hashes that are alike to a depth

-- a path that is longer by one index parts into it and that index
pub path_splits : (hash depth path x : ℕ) → path < 2 ^ (5 * depth) → path_to hash (suc depth) ≡ path + x * 2 ^ (5 * depth) → (index_in hash depth ≡ x) × (path_to hash depth ≡ path)
path_splits hash depth path x fits is = (same_factor (index_in hash depth) x power (pow_pos (5 * depth)) (omega (arith, whole, low)), low)
  where
    power : ℕ
    power = 2 ^ (5 * depth)

    whole : index_in hash depth * power + path_to hash depth ≡ x * power + path
    whole = sym (path_parts hash depth) ∙ is ∙ add_comm path (x * power)

    low : path_to hash depth ≡ path
    low = sym (mod-mul-add (index_in hash depth) power (path_to hash depth) (path_fits hash depth)) ∙ ap (λ n. n % power) whole ∙ mod-mul-add x power path fits

pub path_joins : (hash depth path : ℕ) → path_to hash depth ≡ path → path_to hash (suc depth) ≡ path + index_in hash depth * 2 ^ (5 * depth)
path_joins hash depth path is = path_parts hash depth ∙ add_comm (index_in hash depth * 2 ^ (5 * depth)) (path_to hash depth) ∙ ap (λ n. n + index_in hash depth * 2 ^ (5 * depth)) is

same_index : (a b depth : ℕ) → path_to a (suc depth) ≡ path_to b (suc depth) → index_in a depth ≡ index_in b depth
same_index a b depth same =
    (path_splits a depth (path_to b depth) (index_in b depth) (path_fits b depth) (same ∙ path_joins b depth (path_to b depth) refl)).0

module _ (a b : ℕ) (alike : Bool) where
  -- where two hashes are alike to a depth, the indices from there on decide
  decided : (depth left : ℕ) → path_to a depth ≡ path_to b depth → by_indices (depth + left) 0 a b alike ≡ by_indices left depth a b alike
  decided zero left same = let none : zero + left ≡ left = omega arith in ap (λ n. by_indices n 0 a b alike) none
  decided (suc depth) left same =
      let moved : suc depth + left ≡ depth + suc left = omega arith in
      ap (λ n. by_indices n 0 a b alike) moved ∙ decided depth (suc left) (path_shorter a b depth same)
      ∙ ap (λ t. cond t (by_indices left (suc depth) a b alike) (nat_lt (index_in a depth) (index_in b depth))) (eq-eqb (index_in a depth) (index_in b depth) (same_index a b depth same))

  -- the first index that differs does
  pub by_index : (levels depth : ℕ) → depth < levels → path_to a depth ≡ path_to b depth → index_in a depth ≢ index_in b depth →
      by_indices levels 0 a b alike ≡ nat_lt (index_in a depth) (index_in b depth)
  by_index levels depth within same apart =
      let left = levels - (depth + 1) in
      let parts : levels ≡ depth + suc left = omega (arith, within) in
      ap (λ n. by_indices n 0 a b alike) parts ∙ decided depth (suc left) same
      ∙ ap (λ t. cond t (by_indices left (suc depth) a b alike) (nat_lt (index_in a depth) (index_in b depth))) (ne_eqb (index_in a depth) (index_in b depth) apart)

  -- and where none does, the test for those that are alike
  pub by_none : (levels : ℕ) → path_to a levels ≡ path_to b levels → by_indices levels 0 a b alike ≡ alike
  by_none levels same = let whole : levels ≡ levels + zero = omega arith in ap (λ n. by_indices n 0 a b alike) whole ∙ decided levels zero same
