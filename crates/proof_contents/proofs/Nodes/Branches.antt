-- The places of a branch: what its bitmap and its entries say of one, and what the builders do to them.
use Rattle.std.proofs.Common.{◌≡◌, ◌≢◌, ℕ, zero, suc, ◌+◌, ◌*◌, ◌/◌, ◌%◌, ◌^◌, ◌<◌, ◌≤◌, max, Bool, true, false, cond, not, ◌==◌, List, [], ◌∷◌, map, length, take, get_or, set}
use Rattle.std.proofs.Common.{slice_index_or, slice_set, insert, remove, Option, Some, None, is_some, count_by, count_ones, bit_or, bit_xor, refl, sym, ap, ap₂, ◌∙◌, arith, eq-eqb}
use Rattle.std.proofs.Common.{pow_pos, pow-suc, one-mul, zero-mul, eqb-true, mod-lt, mod-eq_of_lt, ne_eqb, length-set, take_all}
use Rattle.std.specs.Int.{bit_at}
use Rattle.std.proofs.lemmas.Nat.{and_mask}
use Rattle.std.proofs.lemmas.Nat.Bits.{and_pow, same_from_bits, bit_at_or, bit_at_xor, bit_at-pow_same, bit_at-pow_other}
use Rattle.std.proofs.lemmas.Simd.{bit_mask_l, ones-mask_l}
use Rattle.std.proofs.lemmas.List.{get_or-set_same, get_or-set_other, map-set, take-map, length-map}
use Rattle.std.proofs.Math.Seq.{map-set_same}
use Rattle.std.proofs.Math.Nat.{mul-add-mod_self_left, div-add-mod, mod-one, zero-mod}
use Rattle.std.proofs.lemmas.List.Sums.{sum_by-cons}
use lib.ListN.{get_or-map}
use lib.Lanes.{mask_l}
use Rattle.proof_contents.specs.Vocabulary.{position_of, Ref, has_flag}
use Rattle.proof_contents.specs.Nodes.Branches.{standing, HasPlaces, at_place}

-- how many entries stand before a place
abbrev pub before : List (Option Ref) → ℕ → ℕ
before [] x = zero
before (p ∷ places) zero = zero
before (None ∷ places) (suc x) = before places x
before (Some entry ∷ places) (suc x) = suc (before places x)

-- ---- the entry at a place

-- the entry at a place is the one behind those before it
pub standing_at : (places : List (Option Ref)) (x : ℕ) (entry d : Ref) → at_place places x ≡ Some entry → get_or (standing places) (before places x) d ≡ entry
standing_at [] x entry d e = absurd (let bad : None ≡ Some entry = e in cc)
standing_at (None ∷ places) zero entry d e = absurd (let bad : None ≡ Some entry = e in cc)
standing_at (Some q ∷ places) zero entry d e = let same : Some q ≡ Some entry = e in cc
standing_at (None ∷ places) (suc x) entry d e = standing_at places x entry d e
standing_at (Some q ∷ places) (suc x) entry d e = standing_at places x entry d e

-- ---- the bitmap

-- a remainder by an even number
even_mod : (b m k : ℕ) → b < 2 → 0 < k → (b + 2 * m) % (2 * k) ≡ b + 2 * (m % k)
even_mod b m k lt pos =
    let whole : b + 2 * m ≡ 2 * k * (m / k) + (b + 2 * (m % k)) = omega (arith, div-add-mod m k) in
    ap (λ n. n % (2 * k)) whole ∙ mul-add-mod_self_left (2 * k) (m / k) (b + 2 * (m % k)) ∙ mod-eq_of_lt (omega (arith, mod-lt m pos))

bit-lt : (b : Bool) → cond b 1 0 < 2
bit-lt true = omega arith
bit-lt false = omega arith

-- the low bits of a mask are those of the first places
mask_l-low : (ms : List Bool) (x : ℕ) → mask_l ms % 2 ^ x ≡ mask_l (take x ms)
mask_l-low [] zero = refl
mask_l-low [] (suc x) = zero-mod (2 ^ suc x)
mask_l-low (b ∷ ms) zero = mod-one (mask_l (b ∷ ms))
mask_l-low (b ∷ ms) (suc x) =
    let twice : 2 ^ suc x ≡ 2 * 2 ^ x = omega (arith, pow-suc 2 x) in
    ap (λ n. (cond b 1 0 + 2 * mask_l ms) % n) twice ∙ even_mod (cond b 1 0) (mask_l ms) (2 ^ x) (bit-lt b) (pow_pos x)
    ∙ ap (λ n. cond b 1 0 + 2 * n) (mask_l-low ms x)

-- the number of flags below one is that of the entries before its place
before_counts : (places : List (Option Ref)) (x : ℕ) → count_by is_some (take x places) ≡ before places x
before_counts [] zero = refl
before_counts [] (suc x) = refl
before_counts (p ∷ places) zero = refl
before_counts (None ∷ places) (suc x) = sum_by-cons (λ (q : Option Ref). cond (is_some q) 1 0) None (take x places) ∙ omega (arith, before_counts places x)
before_counts (Some entry ∷ places) (suc x) = sum_by-cons (λ (q : Option Ref). cond (is_some q) 1 0) (Some entry) (take x places) ∙ omega (arith, before_counts places x)

-- a bit as a test
set_bit : (b : Bool) (x : ℕ) → not (cond b 1 0 * 2 ^ x == 0) ≡ b
set_bit true x = ap (λ n. not (n == 0)) (one-mul (2 ^ x)) ∙ ap not (ne_eqb (2 ^ x) 0 (λ e. absurd (omega (arith, pow_pos x))))
set_bit false x = ap (λ n. not (n == 0)) (zero-mul (2 ^ x))

module _ (bitmap : ℕ) (entries : List Ref) (places : List (Option Ref)) (h : HasPlaces bitmap entries places) (x : ℕ) where
  bit_at-place : bit_at bitmap x ≡ cond (is_some (at_place places x)) 1 0
  bit_at-place =
      ap (λ n. bit_at n x) h.bits ∙ bit_mask_l (map is_some places) x ∙ ap (λ b. cond b 1 0) (get_or-map is_some places x None)

  -- a flag stands in the bitmap where its place has an entry
  pub has_flag-place : has_flag bitmap (2 ^ x) ≡ is_some (at_place places x)
  has_flag-place = ap (λ n. not (n == 0)) (and_pow bitmap x ∙ ap (λ n. n * 2 ^ x) bit_at-place) ∙ set_bit (is_some (at_place places x)) x

  pub position-before : position_of (2 ^ x) bitmap ≡ before places x
  position-before =
      ap count_ones (and_mask bitmap x ∙ ap (λ n. n % 2 ^ x) h.bits ∙ mask_l-low (map is_some places) x ∙ ap mask_l (take-map is_some x places))
      ∙ ones-mask_l is_some (take x places) ∙ before_counts places x

  -- which stands at the flag's position
  pub entry-place : (entry d : Ref) → at_place places x ≡ Some entry → slice_index_or entries (position_of (2 ^ x) bitmap) d ≡ entry
  entry-place entry d e = ap₂ (λ es n. get_or es n d) h.stand position-before ∙ standing_at places x entry d e

  -- a flag that is there, and one that isn't
  pub flagged : (d : Ref) → has_flag bitmap (2 ^ x) ≡ true → at_place places x ≡ Some (slice_index_or entries (position_of (2 ^ x) bitmap) d)
  flagged d e = by_place (at_place places x) refl
    where
      by_place : (o : Option Ref) → at_place places x ≡ o → o ≡ Some (slice_index_or entries (position_of (2 ^ x) bitmap) d)
      by_place None is = absurd (let bad : true ≡ false = sym e ∙ has_flag-place ∙ ap is_some is in cc)
      by_place (Some entry) is = ap Some (sym (entry-place entry d is))

  pub unflagged : has_flag bitmap (2 ^ x) ≡ false → at_place places x ≡ None
  unflagged e = by_place (at_place places x) refl
    where
      by_place : (o : Option Ref) → at_place places x ≡ o → o ≡ None
      by_place None is = refl
      by_place (Some entry) is = absurd (let bad : false ≡ true = sym e ∙ has_flag-place ∙ ap is_some is in cc)

-- ---- what the builders do

-- an entry more
standing-more : (places : List (Option Ref)) (x : ℕ) (entry : Ref) → x < length places → at_place places x ≡ None →
    standing (set places x (Some entry)) ≡ insert (standing places) (before places x) entry
standing-more [] x entry lt e = absurd (omega arith)
standing-more (None ∷ places) zero entry lt e = refl
standing-more (Some q ∷ places) zero entry lt e = absurd (let bad : Some q ≡ None = e in cc)
standing-more (None ∷ places) (suc x) entry lt e = standing-more places x entry (omega arith) e
standing-more (Some q ∷ places) (suc x) entry lt e = ap (λ es. q ∷ es) (standing-more places x entry (omega arith) e)

-- another entry in its place
standing-other : (places : List (Option Ref)) (x : ℕ) (q entry : Ref) → at_place places x ≡ Some q →
    standing (set places x (Some entry)) ≡ set (standing places) (before places x) entry
standing-other [] x q entry e = absurd (let bad : None ≡ Some q = e in cc)
standing-other (None ∷ places) zero q entry e = absurd (let bad : None ≡ Some q = e in cc)
standing-other (Some p ∷ places) zero q entry e = refl
standing-other (None ∷ places) (suc x) q entry e = standing-other places x q entry e
standing-other (Some p ∷ places) (suc x) q entry e = ap (λ es. p ∷ es) (standing-other places x q entry e)

-- an entry less
standing-less : (places : List (Option Ref)) (x : ℕ) (q : Ref) → at_place places x ≡ Some q →
    standing (set places x None) ≡ remove (standing places) (before places x)
standing-less [] x q e = absurd (let bad : None ≡ Some q = e in cc)
standing-less (None ∷ places) zero q e = absurd (let bad : None ≡ Some q = e in cc)
standing-less (Some p ∷ places) zero q e = refl
standing-less (None ∷ places) (suc x) q e = standing-less places x q e
standing-less (Some p ∷ places) (suc x) q e = ap (λ es. p ∷ es) (standing-less places x q e)

-- no more entries than places
pub standing-le : (places : List (Option Ref)) → length (standing places) ≤ length places
standing-le [] = omega arith
standing-le (None ∷ places) = omega (arith, standing-le places)
standing-le (Some entry ∷ places) = omega (arith, standing-le places)

-- ---- a bit more, or one less

-- numbers whose test fails differ
pub differ : (i x : ℕ) → (i == x) ≡ false → i ≢ x
differ i x e same = let bad : true ≡ false = sym (eq-eqb i x same) ∙ e in cc

bit-max : (b : Bool) → max (cond b 1 0) 0 ≡ cond b 1 0
bit-max true = refl
bit-max false = refl

bit-top : (b : Bool) → max (cond b 1 0) 1 ≡ 1
bit-top true = refl
bit-top false = refl

bit-same : (b : Bool) → (cond b 1 0 + 0) % 2 ≡ cond b 1 0
bit-same true = refl
bit-same false = refl

bit_more : (ms : List Bool) (x : ℕ) → x < length ms → bit_or (mask_l ms) (2 ^ x) ≡ mask_l (set ms x true)
bit_more ms x lt = same_from_bits _ _ (λ i. bit_at_or (mask_l ms) (2 ^ x) i ∙ at_bit i (i == x) refl ∙ sym (bit_mask_l (set ms x true) i))
  where
    at_bit : (i : ℕ) (b : Bool) → (i == x) ≡ b → max (bit_at (mask_l ms) i) (bit_at (2 ^ x) i) ≡ cond (get_or (set ms x true) i false) 1 0
    at_bit i true e =
        let at : i ≡ x = eqb-true i x e in
        rw at (ap₂ max (bit_mask_l ms x) (bit_at-pow_same x) ∙ bit-top (get_or ms x false) ∙ sym (ap (λ b. cond b 1 0) (get_or-set_same ms x true false lt)))
    at_bit i false e =
        ap₂ max (bit_mask_l ms i) (bit_at-pow_other x i (differ i x e)) ∙ bit-max (get_or ms i false)
        ∙ sym (ap (λ b. cond b 1 0) (get_or-set_other ms x i true false (differ i x e)))

bit_less : (ms : List Bool) (x : ℕ) → x < length ms → get_or ms x false ≡ true → bit_xor (mask_l ms) (2 ^ x) ≡ mask_l (set ms x false)
bit_less ms x lt is = same_from_bits _ _ (λ i. bit_at_xor (mask_l ms) (2 ^ x) i ∙ at_bit i (i == x) refl ∙ sym (bit_mask_l (set ms x false) i))
  where
    at_bit : (i : ℕ) (b : Bool) → (i == x) ≡ b → (bit_at (mask_l ms) i + bit_at (2 ^ x) i) % 2 ≡ cond (get_or (set ms x false) i false) 1 0
    at_bit i true e =
        let at : i ≡ x = eqb-true i x e in
        rw at (ap₂ (λ m n. (m + n) % 2) (bit_mask_l ms x ∙ ap (λ b. cond b 1 0) is) (bit_at-pow_same x) ∙ sym (ap (λ b. cond b 1 0) (get_or-set_same ms x false false lt)))
    at_bit i false e =
        ap₂ (λ m n. (m + n) % 2) (bit_mask_l ms i) (bit_at-pow_other x i (differ i x e)) ∙ bit-same (get_or ms i false)
        ∙ sym (ap (λ b. cond b 1 0) (get_or-set_other ms x i false false (differ i x e)))

-- ---- the places after a builder

-- up to 32 entries are all there is room for
room : (places : List (Option Ref)) → length places ≡ 32 → take 32 (standing places) ≡ standing places
room places size = take_all 32 (standing places) (omega (arith, standing-le places))

-- a place of 32 that has an entry is one of them
below_size : (places : List (Option Ref)) (x : ℕ) (q : Ref) → at_place places x ≡ Some q → x < length places
below_size [] x q e = absurd (let bad : None ≡ Some q = e in cc)
below_size (p ∷ places) zero q e = omega arith
below_size (p ∷ places) (suc x) q e = omega (arith, below_size places x q e)

module _ (bitmap : ℕ) (entries : List Ref) (places : List (Option Ref)) (h : HasPlaces bitmap entries places) (x : ℕ) where
  pub inserted-places : (entry : Ref) → x < 32 → at_place places x ≡ None →
      HasPlaces (bit_or bitmap (2 ^ x)) (take 32 (insert entries (position_of (2 ^ x) bitmap) entry)) (set places x (Some entry))
  inserted-places entry lt e =
      let size : length (set places x (Some entry)) ≡ 32 = length-set places x (Some entry) ∙ h.size in
      let lt' : x < length places = omega (arith, h.size) in
      record {
        size = size;
        bits = ap (λ n. bit_or n (2 ^ x)) h.bits ∙ bit_more (map is_some places) x (omega (arith, length-map places (is_some {T = Ref}), lt'))
            ∙ sym (ap mask_l (map-set is_some places x (Some entry)));
        stand = ap (take 32) (ap₂ (λ es n. insert es n entry) h.stand (position-before bitmap entries places h x) ∙ sym (standing-more places x entry lt' e))
            ∙ room (set places x (Some entry)) size;
      }

  pub updated-places : (q entry : Ref) → at_place places x ≡ Some q →
      HasPlaces bitmap (take 32 (slice_set entries (position_of (2 ^ x) bitmap) entry)) (set places x (Some entry))
  updated-places q entry e =
      let size : length (set places x (Some entry)) ≡ 32 = length-set places x (Some entry) ∙ h.size in
      record {
        size = size;
        bits = h.bits ∙ ap mask_l (sym (map-set_same is_some places x (Some entry) None (ap is_some (sym e))));
        stand = ap (take 32) (ap₂ (λ es n. set es n entry) h.stand (position-before bitmap entries places h x) ∙ sym (standing-other places x q entry e))
            ∙ room (set places x (Some entry)) size;
      }

  pub removed-places : (q : Ref) → at_place places x ≡ Some q →
      HasPlaces (bit_xor bitmap (2 ^ x)) (take 32 (remove entries (position_of (2 ^ x) bitmap))) (set places x None)
  removed-places q e =
      let size : length (set places x None) ≡ 32 = length-set places x None ∙ h.size in
      let lt : x < length places = below_size places x q e in
      record {
        size = size;
        bits = ap (λ n. bit_xor n (2 ^ x)) h.bits
            ∙ bit_less (map is_some places) x (omega (arith, length-map places (is_some {T = Ref}), lt)) (get_or-map is_some places x None ∙ ap is_some e)
            ∙ sym (ap mask_l (map-set is_some places x None));
        stand = ap (take 32) (ap₂ (λ es n. remove es n) h.stand (position-before bitmap entries places h x) ∙ sym (standing-less places x q e))
            ∙ room (set places x None) size;
      }
