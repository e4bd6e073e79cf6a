-- How many ones a bitmap has once a flag is set or cleared, and below a flag.
use Rattle.std.proofs.Common.{◌≡◌, ℕ, zero, suc, ◌+◌, ◌*◌, ◌-◌, ◌/◌, ◌%◌, ◌^◌, ◌<◌, ◌≤◌, refl, ap, sym, ◌∙◌, subst, arith, ◌⊎◌, inl, inr}
use Rattle.std.specs.Prelude.{bit_and, bit_or, bit_xor, count_ones}
use Rattle.std.specs.Int.Bits.{or_add_and, xor_add_and}
use Rattle.std.proofs.lemmas.Nat.{pow_pos, and_mask, and_le_r, ones_cat, ones-le, or_lt, xor_lt, pow_below, and_block, or_block, xor_block, div-add-mod', mod_below}
use lib.Count.{ones}

and_zero : (n : ℕ) → bit_and n 0 ≡ 0
and_zero n = omega (arith, and_le_r n 0)

or_zero : (n : ℕ) → bit_or n 0 ≡ n
or_zero n = omega (arith, or_add_and n 0, and_zero n)

xor_zero : (n : ℕ) → bit_xor n 0 ≡ n
xor_zero n = omega (arith, xor_add_and n 0, and_zero n)

-- ---- the lowest bit

abbrev IsBit : ℕ → Type 0
IsBit b = (b ≡ 0) ⊎ (b ≡ 1)

as_bit : (b : ℕ) → b < 2 → IsBit b
as_bit zero h = inl refl
as_bit (suc b) h = inr (omega arith)

small : (b : ℕ) → IsBit b → b < 2 ^ 1
small b (inl e) = omega arith
small b (inr e) = omega arith

low_or : (b : ℕ) → IsBit b → bit_or b 1 ≡ 1
low_or b (inl e) = rw e refl
low_or b (inr e) = rw e refl

low_ones : (b : ℕ) → IsBit b → count_ones b ≡ b
unfolding ones
low_ones b (inl e) = rw e refl
low_ones b (inr e) = rw e refl

low_xor : bit_xor 1 1 ≡ 0
low_xor = refl

low_and : (b : ℕ) → IsBit b → bit_and b 1 ≡ b
low_and b (inl e) = rw e refl
low_and b (inr e) = rw e refl

-- a number by its lowest bit
or_one : (h b : ℕ) → IsBit b → bit_or (h * 2 + b) 1 ≡ h * 2 + 1
or_one h b bit = omega (arith, or_block 1 h 0 b 1 (small b bit) (omega arith), or_zero h, low_or b bit)

and_one : (h b : ℕ) → IsBit b → bit_and (h * 2 + b) 1 ≡ b
and_one h b bit = omega (arith, and_block 1 h 0 b 1 (small b bit) (omega arith), and_zero h, low_and b bit)

ones_low : (h b : ℕ) → IsBit b → count_ones (h * 2 + b) ≡ count_ones h + b
ones_low h b bit = omega (arith, ones_cat 1 h b (small b bit), low_ones b bit)

xor_one : (h : ℕ) → bit_xor (h * 2 + 1) 1 ≡ h * 2 + 0
xor_one h = omega (arith, xor_block 1 h 0 1 1 (omega arith) (omega arith), xor_zero h, low_xor)

-- halves
module _ (q h b : ℕ) (is : q ≡ h * 2 + b) (bit : IsBit b) where
  ones_or_one : count_ones (bit_or q 1) ≤ count_ones q + 1
  ones_or_one = rw is (rw (or_one h b bit) (omega (arith, ones_low h 1 (inr refl), ones_low h b bit)))

  ones_xor_one : (bit_and q 1 ≡ 0 → ⊥) → count_ones (bit_xor q 1) + 1 ≡ count_ones q
  ones_xor_one set = by_bit bit
    where
      by_bit : IsBit b → count_ones (bit_xor q 1) + 1 ≡ count_ones q
      by_bit (inl e) = absurd (set (ap (λ x. bit_and x 1) is ∙ and_one h b bit ∙ e))
      by_bit (inr e) =
          let q_is : q ≡ h * 2 + 1 = is ∙ ap (λ x. h * 2 + x) e in
          rw q_is (rw (xor_one h) (omega (arith, ones_low h 0 (inl refl), ones_low h 1 (inr refl))))

-- ---- a flag

-- a bitmap is what stands from the flag on and what stands below it
module _ (i q lo : ℕ) (below : lo < 2 ^ i) where
  flag_is : 2 ^ i ≡ 1 * 2 ^ i + 0
  flag_is = omega arith

  flag_or : bit_or (q * 2 ^ i + lo) (2 ^ i) ≡ bit_or q 1 * 2 ^ i + lo
  flag_or = ap (λ x. bit_or (q * 2 ^ i + lo) x) flag_is ∙ or_block i q 1 lo 0 below (pow_pos i) ∙ ap (λ x. bit_or q 1 * 2 ^ i + x) (or_zero lo)

  flag_xor : bit_xor (q * 2 ^ i + lo) (2 ^ i) ≡ bit_xor q 1 * 2 ^ i + lo
  flag_xor = ap (λ x. bit_xor (q * 2 ^ i + lo) x) flag_is ∙ xor_block i q 1 lo 0 below (pow_pos i) ∙ ap (λ x. bit_xor q 1 * 2 ^ i + x) (xor_zero lo)

  flag_and : bit_and (q * 2 ^ i + lo) (2 ^ i) ≡ bit_and q 1 * 2 ^ i + 0
  flag_and = ap (λ x. bit_and (q * 2 ^ i + lo) x) flag_is ∙ and_block i q 1 lo 0 below (pow_pos i) ∙ ap (λ x. bit_and q 1 * 2 ^ i + x) (and_zero lo)

  bit_here : (bit_and (q * 2 ^ i + lo) (2 ^ i) ≡ 0 → ⊥) → bit_and q 1 ≡ 0 → ⊥
  bit_here set e = set (flag_and ∙ ap (λ x. x * 2 ^ i + 0) e ∙ none)
    where
      none : 0 * 2 ^ i + 0 ≡ 0
      none = omega arith

-- the same of a bitmap as it stands
module _ (bitmap i : ℕ) where
  parts : bitmap ≡ (bitmap / 2 ^ i) * 2 ^ i + bitmap % 2 ^ i
  parts = sym (div-add-mod' bitmap (2 ^ i))

  rest_small : bitmap % 2 ^ i < 2 ^ i
  rest_small = mod_below bitmap (2 ^ i) (pow_pos i)

  half : (q : ℕ) → q ≡ (q / 2) * 2 + q % 2
  half q = omega arith

  -- a flag more is one more at most
  pub ones_set : count_ones (bit_or bitmap (2 ^ i)) ≤ count_ones bitmap + 1
  ones_set =
      let q = bitmap / 2 ^ i in
      let lo = bitmap % 2 ^ i in
      let more = ones_or_one q (q / 2) (q % 2) (half q) (as_bit (q % 2) (omega arith)) in
      let after = ones_cat i (bit_or q 1) lo rest_small in
      let before = ones_cat i q lo rest_small in
      subst (λ b. count_ones (bit_or b (2 ^ i)) ≤ count_ones b + 1) (sym parts)
      (subst (λ b. count_ones b ≤ count_ones (q * 2 ^ i + lo) + 1) (sym (flag_or i q lo rest_small)) (omega (arith, more, after, before)))

  -- without a flag that it has a bitmap has one less
  pub ones_cleared : (bit_and bitmap (2 ^ i) ≡ 0 → ⊥) → count_ones (bit_xor bitmap (2 ^ i)) + 1 ≡ count_ones bitmap
  ones_cleared set =
      let q = bitmap / 2 ^ i in
      let lo = bitmap % 2 ^ i in
      let here = bit_here i q lo rest_small (λ e. set (ap (λ b. bit_and b (2 ^ i)) parts ∙ e)) in
      let less = ones_xor_one q (q / 2) (q % 2) (half q) (as_bit (q % 2) (omega arith)) here in
      let after = ones_cat i (bit_xor q 1) lo rest_small in
      let before = ones_cat i q lo rest_small in
      subst (λ b. count_ones (bit_xor b (2 ^ i)) + 1 ≡ count_ones b) (sym parts)
      (subst (λ b. count_ones b + 1 ≡ count_ones (q * 2 ^ i + lo)) (sym (flag_xor i q lo rest_small)) (omega (arith, less, after, before)))

  -- below a flag that it has there are fewer
  pub ones_below : (bit_and bitmap (2 ^ i) ≡ 0 → ⊥) → count_ones (bit_and bitmap (2 ^ i - 1)) < count_ones bitmap
  ones_below set =
      let q = bitmap / 2 ^ i in
      let lo = bitmap % 2 ^ i in
      let here = bit_here i q lo rest_small (λ e. set (ap (λ b. bit_and b (2 ^ i)) parts ∙ e)) in
      let less = ones_xor_one q (q / 2) (q % 2) (half q) (as_bit (q % 2) (omega arith)) here in
      let before = ap count_ones parts ∙ ones_cat i q lo rest_small in
      rw (and_mask bitmap i) (omega (arith, less, before))

-- ---- bitmaps of 32 bits

-- no more than 32 ones
pub ones_most : (bitmap : ℕ) → bitmap < 2 ^ 32 → count_ones bitmap ≤ 32
ones_most bitmap h = ones-le 32 bitmap h

-- a flag of the first 32 keeps a bitmap small
pub set_small : (bitmap i : ℕ) → bitmap < 2 ^ 32 → i < 32 → bit_or bitmap (2 ^ i) < 2 ^ 32
set_small bitmap i h flag = or_lt 32 bitmap (2 ^ i) h (pow_below i 32 flag)

pub cleared_small : (bitmap i : ℕ) → bitmap < 2 ^ 32 → i < 32 → bit_xor bitmap (2 ^ i) < 2 ^ 32
cleared_small bitmap i h flag = xor_lt 32 bitmap (2 ^ i) h (pow_below i 32 flag)

-- a flag alone is one
pub ones_flag : (i : ℕ) → count_ones (2 ^ i) ≤ 1
unfolding ones
ones_flag i = omega (arith, ones_cat i 1 0 (pow_pos i), subst (λ n. count_ones (2 ^ i) ≡ count_ones n) (flag_is i 0 0 (pow_pos i)) refl)

-- it is small
pub flag_small : (i : ℕ) → i < 32 → 2 ^ i < 2 ^ 32
flag_small i h = pow_below i 32 h
