-- The words of a text, and the numbers among them, are read again.
use Rattle.std.proofs.Common.{◌≡◌, ℕ, ◌<◌, ◌≤◌, ◌^◌, List, [], ◌∷◌, length, refl, ap, ◌∙◌, Result, Ok, Some, Bool, true, false, eqb, arith}
use Rattle.std.specs.Prelude.{not}
use Rattle.std.specs.List.{list_all, onto_first, AllByRecursion}
use Rattle.std.specs.Str.{all_ascii_digits}
use Rattle.std.specs.Fmt.{decimal}
use borrow.Author.Tests.{le-ltb}
use Rattle.std.proofs.lemmas.Bool.{eqb-true}
use Rattle.std.proofs.lemmas.List.Splits.{slice_split-cons_no}
use Rattle.std.proofs.lemmas.Str.Parse.{tells_all_ascii_digits}
use Rattle.std.proofs.lemmas.Fmt.{digits_decimal, decimal_nonempty}
use Rattle.ctrie_base.specs.declared.refusals.Refusal.{Refusal}
use Rattle.text_lines.specs.Words.{words_of, spaced, number_of, number_word, number_from, wanted, both, largest}
use Rattle.text_lines.proofs.Numbers.{own, number_again}
use Rattle.text_lines.proofs.Lacking.{Lacks, lacks, first_cut}

-- no space stands in the word
abbrev pub IsClean : List ℕ → Type 0
IsClean w = Lacks 32 w

pub clean : (w : List ℕ) → list_all (λ b. not (eqb b 32)) w ≡ true → IsClean w
clean w e = lacks 32 w e

abbrev pub AreClean : List (List ℕ) → Type 0
AreClean ws = AllByRecursion IsClean ws

not_space : (c : ℕ) (b : Bool) → eqb c 32 ≡ b → 48 ≤ c → eqb c 32 ≡ false
not_space c true e le = absurd (let same : c ≡ 32 = eqb-true c 32 e in omega arith)
not_space c false e le = e

clean_digits : (ds : List ℕ) → all_ascii_digits ds ≡ true → IsClean ds
clean_digits [] h = tt
clean_digits (c ∷ cs) h =
    let p = tells_all_ascii_digits.parts c cs h in (not_space c (eqb c 32) refl (let r = p.0 in omega (arith, r)), clean_digits cs p.1)

pub clean_decimal : (n : ℕ) → n ≤ largest → IsClean (decimal n)
clean_decimal n le = clean_digits (decimal n) (digits_decimal own n (omega arith))

last_word : (w : List ℕ) → IsClean w → words_of w ≡ w ∷ []
last_word [] clean = refl
last_word (b ∷ bs) clean = slice_split-cons_no (λ x. eqb x 32) b bs clean.0 ∙ ap (onto_first b) (last_word bs clean.1)

-- the words of the text of words without spaces
pub words_again : (w : List ℕ) (ws : List (List ℕ)) → IsClean w → AreClean ws → words_of (spaced (w ∷ ws)) ≡ w ∷ ws
words_again w [] clean others = last_word w clean
words_again w (v ∷ ws) clean others = first_cut 32 w (spaced (v ∷ ws)) clean ∙ ap (λ (t : List (List ℕ)). w ∷ t) (words_again v ws others.0 others.1)

wanted_some : (w : List ℕ) (limit n : ℕ) → number_of limit w ≡ Some n → 0 < length w → number_word limit w ≡ Ok n
wanted_some [] limit n e some = absurd (omega arith)
wanted_some (b ∷ bs) limit n e some = ap wanted e

pub word_again : (limit n : ℕ) → n ≤ limit → limit < 2 ^ 64 → number_word limit (decimal n) ≡ Ok n
word_again limit n le fits = wanted_some (decimal n) limit n (number_again limit n le fits) (decimal_nonempty n (omega arith))

pub value_again : (n : ℕ) → n ≤ largest → number_word largest (decimal n) ≡ Ok n
value_again n le = word_again largest n le (omega arith)

pub wanted_again : (n : ℕ) → n ≤ largest → wanted (number_of largest (decimal n)) ≡ Ok n
wanted_again n le = ap wanted (number_again largest n le (omega arith))

pub both_again : {A B : Type 0} (r : Result A Refusal) (s : Result B Refusal) (x : A) (y : B) → r ≡ Ok x → s ≡ Ok y → both r s ≡ Ok (x, y)
both_again r s x y p q = rw (p, q) refl

pub range_again : (least limit n : ℕ) → least ≤ n → n ≤ limit → limit < 2 ^ 64 → number_from least limit (decimal n) ≡ Ok n
range_again least limit n low le fits = rw (word_again limit n le fits, le-ltb n least low) refl
