-- What follows where parts of a line are read: the word that each was.
use Rattle.std.proofs.Common.{◌≡◌, ℕ, ◌≤◌, List, [], ◌∷◌, refl, sym, ap, ◌∙◌, Result, Ok, Err, Option, Some, None, Bool, true, false, cond, arith}
use Rattle.std.specs.Prelude.{nat_lt}
use Rattle.std.specs.List.{find}
use Rattle.std.specs.Str.{bytes_eq}
use Rattle.std.specs.Fmt.{decimal}
use borrow.Author.Tests.{ltb-false}
use Rattle.std.proofs.lemmas.Slice.Eq.{bytes_eq-Decides}
use Rattle.ctrie_base.specs.declared.refusals.Refusal.{Refusal}
use Rattle.ctrie_base.specs.declared.refusals.Refusal.TheVariants.{BadNumber}
use Rattle.text_lines.specs.Words.{named, number_of, number_word, wanted, at_least, number_from, both, made, ◌>>=◌}
use Rattle.text_lines.proofs.Numbers.{number_is}

pub ok_is : {A E : Type 0} (r : Result A E) (x y : A) → r ≡ Ok x → r ≡ Ok y → x ≡ y
ok_is r x y d e = cc

pub both_ok : {A B : Type 0} (r : Result A Refusal) (s : Result B Refusal) (z : A × B) → both r s ≡ Ok z → (r ≡ Ok z.0) × (s ≡ Ok z.1)
both_ok {A} {B} (Ok a) (Ok b) z e =
    let same : (a, b) ≡ z = ok_is (both (Ok a) (Ok b)) (a, b) z refl e in (ap (λ (t : A × B). Ok t.0) same, ap (λ (t : A × B). Ok t.1) same)
both_ok (Ok a) (Err g) z e = absurd cc
both_ok (Err f) (Ok b) z e = absurd cc
both_ok (Err f) (Err g) z e = absurd cc

pub made_ok : {A B E : Type 0} (f : A → B) (r : Result A E) (y : B) → made f r ≡ Ok y → (x : A) × (r ≡ Ok x) × (f x ≡ y)
made_ok f (Ok x) y e = (x, refl, cc)
made_ok f (Err g) y e = absurd cc

pub bind_ok : {A B E : Type 0} (r : Result A E) (f : A → Result B E) (y : B) → (r >>= f) ≡ Ok y → (x : A) × (r ≡ Ok x) × (f x ≡ Ok y)
bind_ok (Ok x) f y e = (x, refl, e)
bind_ok (Err g) f y e = absurd cc

wanted_ok : (o : Option ℕ) (n : ℕ) → wanted o ≡ Ok n → o ≡ Some n
wanted_ok None n e = absurd cc
wanted_ok (Some m) n e = cc

-- a number where one must stand
pub wanted_is : (limit : ℕ) (w : List ℕ) (n : ℕ) → wanted (number_of limit w) ≡ Ok n → (w ≡ decimal n) × (n ≤ limit)
wanted_is limit w n e = number_is limit w n (wanted_ok (number_of limit w) n e)

pub word_is : (limit : ℕ) (w : List ℕ) (n : ℕ) → number_word limit w ≡ Ok n → (w ≡ decimal n) × (n ≤ limit)
word_is limit [] n e = absurd cc
word_is limit (b ∷ bs) n e = wanted_is limit (b ∷ bs) n e

not_less : (b : Bool) (m n : ℕ) → cond b (Err BadNumber) (Ok m) ≡ Ok n → (b ≡ false) × (m ≡ n)
not_less true m n e = absurd cc
not_less false m n e = (refl, cc)

least_ok : (least : ℕ) (r : Result ℕ Refusal) (n : ℕ) → at_least least r ≡ Ok n → (r ≡ Ok n) × (least ≤ n)
least_ok least (Ok m) n e = let p = not_less (nat_lt m least) m n e in (ap (λ (x : ℕ). Ok x) p.1, let low = ltb-false m least p.0 in let same = p.1 in omega arith)
least_ok least (Err f) n e = absurd cc

-- a number in a range
pub range_is : (least limit : ℕ) (w : List ℕ) (n : ℕ) → number_from least limit w ≡ Ok n → (w ≡ decimal n) × (least ≤ n) × (n ≤ limit)
range_is least limit w n e =
    let l = least_ok least (number_word limit w) n e in
    let p = word_is limit w n l.0 in
    (p.0, l.1, p.1)

first_passes : {N : Type 0} (test : N → Bool) (b : Bool) (x n : N) (rest : Option N) → (rest ≡ Some n → test n ≡ true) → test x ≡ b → cond b (Some x) rest ≡ Some n → test n ≡ true
first_passes test true x n rest later t e = let same : x ≡ n = cc in ap test (sym same) ∙ t
first_passes test false x n rest later t e = later e

find_passes : {N : Type 0} (test : N → Bool) (all : List N) (n : N) → find test all ≡ Some n → test n ≡ true
find_passes test [] n e = absurd cc
find_passes test (x ∷ xs) n e = first_passes test (test x) x n (find test xs) (find_passes test xs n) refl e

-- what is named by a word has it for its name
pub named_is : {N : Type 0} (name : N → List ℕ) (all : List N) (w : List ℕ) (n : N) → named name all w ≡ Some n → w ≡ name n
named_is name all w n e = (bytes_eq-Decides w (name n)).0 (find_passes (λ x. bytes_eq w (name x)) all n e)
