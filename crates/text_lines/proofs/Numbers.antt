-- A word is a number up to a limit exactly where it is the number's decimal text.
use Rattle.std.proofs.Common.{◌≡◌, ◌≢◌, ℕ, ◌<◌, ◌≤◌, ◌^◌, Bool, true, false, ◌&&◌, cond, eqb, List, length, get_or, refl, sym, ap, ◌∙◌}
use Rattle.std.proofs.Common.{subst, arith, ◌||◌, ◌⊎◌, inl, inr, eq-eqb, Option, Some, None, Result, Ok, Err, zero, suc}
use Rattle.std.specs.Prelude.{nat_le, nat_lt}
use Rattle.std.specs.Str.{bytes_eq, all_ascii_digits, IsUtf8}
use Rattle.std.specs.Str.Parse.{digits_value, ParsesUnsigned}
use Rattle.std.specs.Result.{OkIff, MatchResult}
use Rattle.std.specs.Fmt.{decimal}
use Rattle.std.proofs.lemmas.Slice.Eq.{bytes_eq-Decides}
use Rattle.std.proofs.lemmas.Str.{IsUtf8-from_ascii}
use Rattle.std.proofs.lemmas.Str.Parse.{IsNumeralModel, numerals_by_value, tells_all_ascii_digits, parse_plain, not_in_digits}
use Rattle.std.proofs.lemmas.Fmt.{digits_decimal, digits_value-decimal, decimal-digits_value, decimal_nonempty, decimal_digit, first_decimal, IsAscii-decimal}
use Rattle.std.proofs.lemmas.Bool.{leb-true, le-leb, eqb-true, eqb-false}
use borrow.Author.Tests.{ltb-true, ltb-false}
use Rattle.text_lines.specs.Words.{number_of, is_odd}

abbrev pub IsDigits : List ℕ → Type 0
IsDigits ds = all_ascii_digits ds ≡ true

pub own : IsNumeralModel IsDigits (digits_value 10)
own = numerals_by_value _ tells_all_ascii_digits

some_of : (a b : Bool) (v n : ℕ) → cond (a && b) (Some v) None ≡ Some n → (a ≡ true) × (b ≡ true) × (v ≡ n)
some_of true true v n e = (refl, refl, cc)
some_of true false v n e = absurd cc
some_of false b v n e = absurd cc

-- what is read as a number is its text
pub number_is : (limit : ℕ) (w : List ℕ) (n : ℕ) → number_of limit w ≡ Some n → (w ≡ decimal n) × (n ≤ limit)
unfolding number_of
number_is limit w n e =
    let v : ℕ = digits_value 10 w in
    let p = some_of (bytes_eq (decimal v) w) (nat_le v limit) v n e in
    let same : decimal v ≡ w = (bytes_eq-Decides (decimal v) w).0 p.0 in
    let le : v ≤ limit = leb-true v limit p.1 in
    (sym same ∙ ap decimal p.2, omega (arith, p.2))

-- the text of a number is read so
pub number_again : (limit n : ℕ) → n ≤ limit → limit < 2 ^ 64 → number_of limit (decimal n) ≡ Some n
unfolding number_of
number_again limit n le fits =
    let v : digits_value 10 (decimal n) ≡ n = digits_value-decimal own n (omega arith) in
    rw (v, (bytes_eq-Decides (decimal n) (decimal n)).1 refl, le-leb n limit le) refl

none_of : (o : Option ℕ) → ((n : ℕ) → o ≡ Some n → ⊥) → o ≡ None
none_of None never = refl
none_of (Some n) never = absurd (never n refl)

-- what is the text of no number up to the limit is read as none
pub number_none : (limit : ℕ) (w : List ℕ) → ((n : ℕ) → n ≤ limit → w ≡ decimal n → ⊥) → number_of limit w ≡ None
number_none limit w never = none_of (number_of limit w) (λ n e. let p = number_is limit w n e in never n p.1 p.0)

-- The reasons for which a word is no number.

pub empty_none : (limit : ℕ) (w : List ℕ) → limit < 2 ^ 64 → length w ≡ 0 → number_of limit w ≡ None
empty_none limit w fits none = number_none limit w (λ n le e. let some = decimal_nonempty n (omega arith) in omega (arith, ap length e))

no_plus : (n : ℕ) → n < 2 ^ 64 → get_or (decimal n) 0 0 ≢ 43
no_plus n small = not_in_digits own (decimal n) 43 (digits_decimal own n small) (λ r. omega (arith, r)) 0 (decimal_nonempty n small)

pub plus_none : (limit : ℕ) (w : List ℕ) → limit < 2 ^ 64 → get_or w 0 0 ≡ 43 → number_of limit w ≡ None
plus_none limit w fits plus = number_none limit w (λ n le e. no_plus n (omega arith) (sym (ap (λ (x : List ℕ). get_or x 0 0) e) ∙ plus))

no_padding : (n : ℕ) → n < 2 ^ 64 → get_or (decimal n) 0 0 ≡ 48 → length (decimal n) ≡ 1
no_padding zero small e = ap length (decimal_digit 0 (omega arith))
no_padding (suc n) small e = absurd (omega (arith, first_decimal (suc n) (omega arith) small))

pub padded_none : (limit : ℕ) (w : List ℕ) → limit < 2 ^ 64 → get_or w 0 0 ≡ 48 → 1 < length w → number_of limit w ≡ None
padded_none limit w fits zero_first long =
    number_none limit w (λ n le e. let one = no_padding n (omega arith) (sym (ap (λ (x : List ℕ). get_or x 0 0) e) ∙ zero_first) in omega (arith, ap length e))

pub not_text_none : (limit : ℕ) (w : List ℕ) → limit < 2 ^ 64 → ¬ (IsUtf8 w) → number_of limit w ≡ None
not_text_none limit w fits bad = number_none limit w (λ n le e. bad (subst IsUtf8 (sym e) (IsUtf8-from_ascii (decimal n) (IsAscii-decimal n (omega arith)))))

odd_cases : (a b z : Bool) → (a || (b && z)) ≡ true → (a ≡ true) ⊎ ((b ≡ true) × (z ≡ true))
odd_cases true b z e = inl refl
odd_cases false true true e = inr (refl, refl)
odd_cases false true false e = absurd cc
odd_cases false false z e = absurd cc

pub odd_none : (limit : ℕ) (w : List ℕ) → limit < 2 ^ 64 → is_odd w ≡ true → number_of limit w ≡ None
odd_none limit w fits odd =
    elim (odd_cases (eqb (get_or w 0 0) 43) (eqb (get_or w 0 0) 48) (nat_lt 1 (length w)) odd)
    [ inl p ↦ plus_none limit w fits (eqb-true _ _ p) | inr p ↦ padded_none limit w fits (eqb-true _ _ p.0) (ltb-true _ _ p.1) ]

even_cases : (a b z : Bool) → (a || (b && z)) ≡ false → (a ≡ false) × (b ≡ true → z ≡ false)
even_cases true b z e = absurd cc
even_cases false true true e = absurd cc
even_cases false true false e = (refl, λ _. refl)
even_cases false false z e = (refl, λ p. absurd cc)

read_parsed : {E : Type 0} (limit : ℕ) (w : List ℕ) (r : Result ℕ E) → limit < 2 ^ 64 → 0 < length w → (get_or w 0 0 ≡ 48 → length w ≡ 1)
    → OkIff r (IsDigits w × (0 < length w) × (digits_value 10 w < 2 ^ 64)) (digits_value 10 w)
    → MatchResult r (λ v. number_of limit w ≡ cond (nat_le v limit) (Some v) None) (λ _. number_of limit w ≡ None)
unfolding number_of
read_parsed limit w (Ok v) fits some first h =
    let text : decimal (digits_value 10 w) ≡ w = decimal-digits_value own w h.0.0 some first h.0.2 in
    rw (h.1, (bytes_eq-Decides (decimal (digits_value 10 w)) w).1 text) refl
read_parsed limit w (Err e) fits some first h =
    number_none limit w (λ n le same. h (subst (λ (x : List ℕ). IsDigits x × (0 < length x) × (digits_value 10 x < 2 ^ 64)) (sym same)
    (digits_decimal own n (omega arith), decimal_nonempty n (omega arith), omega (arith, digits_value-decimal own n (omega arith)))))

-- what a word that begins as a number does is parsed to
pub parsed_number : {E : Type 0} (limit : ℕ) (w : List ℕ) (r : Result ℕ E) → limit < 2 ^ 64 → 0 < length w → is_odd w ≡ false
    → ParsesUnsigned 64 10 w r → MatchResult r (λ v. number_of limit w ≡ cond (nat_le v limit) (Some v) None) (λ _. number_of limit w ≡ None)
parsed_number limit w r fits some even h =
    let p = even_cases (eqb (get_or w 0 0) 43) (eqb (get_or w 0 0) 48) (nat_lt 1 (length w)) even in
    read_parsed limit w r fits some (λ e. let short = ltb-false 1 (length w) (p.1 (eq-eqb _ _ e)) in omega arith) (parse_plain own 64 w r h (eqb-false _ _ p.0))
