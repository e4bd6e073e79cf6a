-- The bitmap: what a bit says of its number, and what the flip of one does to the list of what is taken.
use Rattle.std.proofs.Common.{◌≡◌, ◌≢◌, ℕ, zero, suc, ◌+◌, ◌-◌, ◌*◌, ◌/◌, ◌%◌, ◌^◌, ◌<◌, ◌≤◌, ◌==◌, Bool, true, false, cond, not, List, length, get_or}
use Rattle.std.proofs.Common.{set, replicate, bit_xor, nat_lt, w64, inl, inr, refl, sym, ap, ◌∙◌, arith}
use Rattle.std.proofs.Common.{one-mul, length-set, mod-lt, mod-eq_of_lt}
use Rattle.std.proofs.Math.Nat.{div-add-mod}
use Rattle.std.proofs.Math.Pow.{pow-lt}
use Rattle.std.specs.Int.{bit_at, trailing_ones}
use Rattle.std.proofs.lemmas.Bool.{cases_eq, cases_lt, true≢false}
use Rattle.std.proofs.lemmas.List.{get_or_past, get_or-set_same, get_or-set_other, same_lists, set-get_or, set_past}
use Rattle.std.proofs.lemmas.List.FromFn.{get_or-map-range_with_len, length-map-range_with_len}
use Rattle.std.proofs.lemmas.List.Sums.{sum_by-set, count_by-le-length}
use Rattle.std.proofs.lemmas.Nat.Bits.{bit_at-lt, bit_at-trailing_ones, bit_at-zero, bit_at_ones, bit_at_xor, bit_at-pow_same, bit_at-pow_other}
use Rattle.handle_table.specs.Numbers.{IsLeastFree, how_many, is_set, taken_by}

-- ---- the list by the bitmap

pub taken_len : (words : List ℕ) → length (taken_by words) ≡ 256
unfolding taken_by
taken_len words = length-map-range_with_len (is_set words) 0 256

taken_or : (words : List ℕ) (n : ℕ) (d : Bool) → n < 256 → get_or (taken_by words) n d ≡ is_set words n
unfolding taken_by
taken_or words n d within = get_or-map-range_with_len (is_set words) 0 256 n n d within (let e : 0 + n ≡ n = omega arith in e)

pub taken_at : (words : List ℕ) (n : ℕ) → n < 256 → get_or (taken_by words) n false ≡ is_set words n
taken_at words n within = taken_or words n false within

pub taken_past : (words : List ℕ) (n : ℕ) → 256 ≤ n → get_or (taken_by words) n false ≡ false
taken_past words n past = get_or_past (taken_by words) n false (omega (arith, taken_len words))

-- ---- a flip

flip_own : (b : ℕ) → b < 2 → ((b + 1) % 2 == 1) ≡ not (b == 1)
flip_own zero lt = refl
flip_own (suc zero) lt = refl
flip_own (suc (suc b)) lt = absurd (omega (arith, lt))

flip_other : (b : ℕ) → b < 2 → ((b + 0) % 2 == 1) ≡ (b == 1)
flip_other zero lt = refl
flip_other (suc zero) lt = refl
flip_other (suc (suc b)) lt = absurd (omega (arith, lt))

-- the bits of a word once that of this number is flipped
flip_bit : (word n k : ℕ) → (k ≡ n → (bit_at (bit_xor word (2 ^ n)) k == 1) ≡ not (bit_at word n == 1))
    × (k ≢ n → (bit_at (bit_xor word (2 ^ n)) k == 1) ≡ (bit_at word k == 1))
flip_bit word n k = (
  λ same. rw same (ap (λ b. b == 1) (bit_at_xor word (2 ^ n) n ∙ ap (λ b. (bit_at word n + b) % 2) (bit_at-pow_same n)) ∙ flip_own (bit_at word n) (bit_at-lt word n)),
  λ other. ap (λ b. b == 1) (bit_at_xor word (2 ^ n) k ∙ ap (λ b. (bit_at word k + b) % 2) (bit_at-pow_other n k other)) ∙ flip_other (bit_at word k) (bit_at-lt word k),
)

-- the words once the bit is flipped
abbrev pub flipped_words : List ℕ → ℕ → List ℕ
flipped_words words n = set words (n / 64) (bit_xor (get_or words (n / 64) 0) (2 ^ (n % 64)))

apart : (k n : ℕ) → k ≢ n → k / 64 ≡ n / 64 → k % 64 ≢ n % 64
apart k n other row column = other (omega (arith, div-add-mod k 64, div-add-mod n 64, row, column))

set_own : (words : List ℕ) (n : ℕ) → n / 64 < length words → is_set (flipped_words words n) n ≡ not (is_set words n)
set_own words n within =
    ap (λ w. bit_at w (n % 64) == 1) (get_or-set_same words (n / 64) (bit_xor (get_or words (n / 64) 0) (2 ^ (n % 64))) 0 within)
    ∙ (flip_bit (get_or words (n / 64) 0) (n % 64) (n % 64)).0 refl

set_other : (words : List ℕ) (n k : ℕ) → n / 64 < length words → k ≢ n → is_set (flipped_words words n) k ≡ is_set words k
set_other words n k within other = elim (cases_eq (k / 64) (n / 64)) [
  | inl row ↦
      ap (λ r. bit_at (get_or (flipped_words words n) r 0) (k % 64) == 1) row
      ∙ ap (λ w. bit_at w (k % 64) == 1) (get_or-set_same words (n / 64) (bit_xor (get_or words (n / 64) 0) (2 ^ (n % 64))) 0 within)
      ∙ (flip_bit (get_or words (n / 64) 0) (n % 64) (k % 64)).1 (apart k n other row)
      ∙ ap (λ r. bit_at (get_or words r 0) (k % 64) == 1) (sym row)
  | inr row ↦ ap (λ w. bit_at w (k % 64) == 1) (get_or-set_other words (n / 64) (k / 64) (bit_xor (get_or words (n / 64) 0) (2 ^ (n % 64))) 0 row)
]

pub row_within : (n : ℕ) → n < 256 → n / 64 < 4
row_within n within = let pos : 0 < 64 = omega arith in omega (arith, within, div-add-mod n 64, mod-lt n pos)

pub flipped : (words : List ℕ) (n : ℕ) → length words ≡ 4 → n < 256 → taken_by (flipped_words words n) ≡ set (taken_by words) n (not (is_set words n))
flipped words n four within =
    same_lists (taken_by (flipped_words words n)) (set (taken_by words) n (not (is_set words n)))
    (taken_len (flipped_words words n) ∙ sym (length-set (taken_by words) n (not (is_set words n)) ∙ taken_len words))
    (λ k d lt. at k d (omega (arith, lt, taken_len (flipped_words words n))))
  where
    inside : n / 64 < length words
    inside = omega (arith, row_within n within, four)

    at : (k : ℕ) (d : Bool) → k < 256 → get_or (taken_by (flipped_words words n)) k d ≡ get_or (set (taken_by words) n (not (is_set words n))) k d
    at k d lt = taken_or (flipped_words words n) k d lt ∙ elim (cases_eq k n) [
      | inl same ↦
          rw same (set_own words n inside ∙ sym (get_or-set_same (taken_by words) n (not (is_set words n)) d (omega (arith, within, taken_len words))))
      | inr other ↦
          set_other words n k inside other ∙ sym (taken_or words k d lt) ∙ sym (get_or-set_other (taken_by words) n k (not (is_set words n)) d other)
    ]

-- ---- the least number

row_of : (number i : ℕ) → 64 * i ≤ number → number < 64 * i + 64 → (number / 64 ≡ i) × (number % 64 ≡ number - 64 * i)
row_of number i low high =
    let pos : 0 < 64 = omega arith in
    let column = mod-lt number pos in
    let whole = div-add-mod number 64 in
    let row : number / 64 ≡ i = omega (arith, low, high, whole, column) in
    (row, omega (arith, low, high, whole, column, row))

bit_of : (words : List ℕ) (number i word : ℕ) → get_or words i 0 ≡ word → 64 * i ≤ number → number < 64 * i + 64 → is_set words number ≡ (bit_at word (number - 64 * i) == 1)
bit_of words number i word is low high =
    let at = row_of number i low high in
    ap (λ r. bit_at (get_or words r 0) (number % 64) == 1) at.0 ∙ ap (λ c. bit_at (get_or words i 0) c == 1) at.1 ∙ ap (λ w. bit_at w (number - 64 * i) == 1) is

-- all numbers of a word are set whose bits are
pub full_row : (words : List ℕ) (i : ℕ) → get_or words i 0 ≡ 2 ^ 64 - 1 → (number : ℕ) → 64 * i ≤ number → number < 64 * i + 64 → is_set words number ≡ true
full_row words i is number low high =
    bit_of words number i (2 ^ 64 - 1) is low high ∙ ap (λ b. b == 1) (bit_at_ones 64 (number - 64 * i) (omega (arith, low, high)))

pub ones_within : (word : ℕ) → word + 1 < 2 ^ 64 → trailing_ones w64 word < 64
ones_within word small = (bit_at-trailing_ones w64 word small).0

-- and else those below the word's trailing ones, and not the one behind them
pub row_free : (words : List ℕ) (i word : ℕ) → get_or words i 0 ≡ word → word + 1 < 2 ^ 64 → is_set words (64 * i + trailing_ones w64 word) ≡ false
row_free words i word is small =
    let (within, unset, below) = bit_at-trailing_ones w64 word small in
    bit_of words (64 * i + trailing_ones w64 word) i word is (omega arith) (omega (arith, ones_within word small))
    ∙ ap (λ c. bit_at word c == 1) (let back : 64 * i + trailing_ones w64 word - 64 * i ≡ trailing_ones w64 word = omega arith in back) ∙ ap (λ b. b == 1) unset

pub row_below : (words : List ℕ) (i word : ℕ) → get_or words i 0 ≡ word → word + 1 < 2 ^ 64 → (number : ℕ) → 64 * i ≤ number → number < 64 * i + trailing_ones w64 word → is_set words number ≡ true
row_below words i word is small number low high =
    let (within, unset, below) = bit_at-trailing_ones w64 word small in
    bit_of words number i word is low (omega (arith, high, ones_within word small)) ∙ ap (λ b. b == 1) (below (number - 64 * i) (omega (arith, low, high)))

-- nothing is set behind the last word
pub unset_past : (words : List ℕ) (number : ℕ) → length words ≡ 4 → 256 ≤ number → is_set words number ≡ false
unset_past words number four past =
    let pos : 0 < 64 = omega arith in
    ap (λ w. bit_at w (number % 64) == 1) (get_or_past words (number / 64) 0 (omega (arith, four, past, div-add-mod number 64, mod-lt number pos)))
    ∙ ap (λ b. b == 1) (bit_at-zero (number % 64))

-- ---- counting

abbrev one : Bool → ℕ
one b = cond b 1 0

counted : (taken : List Bool) (n : ℕ) (b : Bool) → n < length taken → how_many (set taken n b) + one (get_or taken n false) ≡ how_many taken + one b
counted taken n b within = sum_by-set one taken n b false within

pub one_more : (taken : List Bool) (n : ℕ) → n < length taken → get_or taken n false ≡ false → how_many (set taken n true) ≡ how_many taken + 1
one_more taken n within is = omega (arith, counted taken n true within, ap one is)

pub one_less : (taken : List Bool) (n : ℕ) → n < length taken → get_or taken n false ≡ true → how_many (set taken n false) + 1 ≡ how_many taken
one_less taken n within is = omega (arith, counted taken n false within, ap one is)

pub many_at_most : (words : List ℕ) → how_many (taken_by words) ≤ 256
many_at_most words = omega (arith, count_by-le-length (λ (b : Bool). b) (taken_by words), taken_len words)

-- what a flip of a free number, or of a taken one, does to the list and to its count
pub taken_flip : (words now : List ℕ) (many n : ℕ) → n < 256 → get_or (taken_by words) n false ≡ false → taken_by now ≡ set (taken_by words) n (not (is_set words n)) →
    many ≡ how_many (taken_by words) → (taken_by now ≡ set (taken_by words) n true) × (many + 1 ≡ how_many (taken_by now))
taken_flip words now many n within free is count =
    let set_is : taken_by now ≡ set (taken_by words) n true = is ∙ ap (λ b. set (taken_by words) n (not b)) (sym (taken_at words n within) ∙ free) in
    (set_is, omega (arith, count, ap how_many set_is, one_more (taken_by words) n (omega (arith, within, taken_len words)) free))

pub given_flip : (words now : List ℕ) (many n : ℕ) → n < 256 → get_or (taken_by words) n false ≡ true → taken_by now ≡ set (taken_by words) n (not (is_set words n)) →
    many ≡ how_many (taken_by words) → (taken_by now ≡ set (taken_by words) n false) × (many - 1 ≡ how_many (taken_by now))
given_flip words now many n within taken is count =
    let set_is : taken_by now ≡ set (taken_by words) n false = is ∙ ap (λ b. set (taken_by words) n (not b)) (sym (taken_at words n within) ∙ taken) in
    (set_is, omega (arith, count, ap how_many set_is, one_less (taken_by words) n (omega (arith, within, taken_len words)) taken))

-- a taken number is below the limit
pub taken_within : (words : List ℕ) (n : ℕ) → get_or (taken_by words) n false ≡ true → n < 256
taken_within words n is = elim (cases_lt n 256) [
  | inl less ↦ less
  | inr past ↦ absurd (true≢false (sym is ∙ taken_past words n past))
]

-- the least number whose bit isn't set is the least that isn't taken
pub least_is : (words running : List ℕ) (n : ℕ) → length words ≡ 4 → ((number : ℕ) → number < n → is_set words number ≡ true) → is_set words n ≡ false →
    IsLeastFree (record { taken = taken_by words; running = running }) n
least_is words running n four below unset = record {
  below = λ number lt. elim (cases_lt number 256) [
    | inl less ↦ taken_at words number less ∙ below number lt
    | inr past ↦ absurd (true≢false (sym (below number lt) ∙ unset_past words number four past))
  ];
  free = elim (cases_lt n 256) [
    | inl less ↦ taken_at words n less ∙ unset
    | inr past ↦ taken_past words n past
  ];
}

-- ---- nothing to do

pub unwritten : {X : Type 0} (xs : List X) (n : ℕ) (y : X) → length xs ≤ n → set xs n y ≡ xs
unwritten xs n y past = set_past xs n y past

-- what stands there is written once more
pub rewritten : (taken : List Bool) (n : ℕ) (b : Bool) → get_or taken n false ≡ b → set taken n b ≡ taken
rewritten taken n b is = ap (set taken n) (sym is) ∙ set-get_or taken n false

-- ---- none

pub none_taken : (words : List ℕ) → words ≡ replicate 4 0 → taken_by words ≡ replicate 256 false
unfolding taken_by
none_taken words is = ap taken_by is

pub none_many : (words : List ℕ) → words ≡ replicate 4 0 → 0 ≡ how_many (taken_by words)
none_many words is = sym (ap how_many (none_taken words is))

pub one_bit : (n : ℕ) → 1 * 2 ^ (n % 64) % 2 ^ 64 ≡ 2 ^ (n % 64)
one_bit n = let pos : 0 < 64 = omega arith in ap (λ m. m % 2 ^ 64) (one-mul (2 ^ (n % 64))) ∙ mod-eq_of_lt (pow-lt (mod-lt n pos))

pub not_less : (n : ℕ) → 256 ≤ n → nat_lt n 256 ≡ false
not_less n past = grind arith
