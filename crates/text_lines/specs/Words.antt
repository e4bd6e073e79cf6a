-- Words and numbers, and which fault of a line is told.
use Rattle.std.specs.Prelude.{ℕ, ◌&&◌, List, [], ◌∷◌, map, Option, Some, None, Result, Ok, Err, nat_le, nat_lt, ◌==◌, ◌||◌, Bool, slice_index, length, if◌then◌else◌}
use Rattle.std.specs.List.{slice_split, join_with_byte, find}
use Rattle.std.specs.Str.{bytes_eq}
use Rattle.std.specs.Str.Parse.{digits_value}
use Rattle.std.specs.Fmt.{decimal}
use denote.Ref.{Bor}
use Rattle.ctrie_base.specs.declared.refusals.Refusal.{Refusal}
use Rattle.ctrie_base.specs.declared.refusals.Refusal.TheVariants.{BadLine, BadNumber}

-- what slices have in them
abbrev pub nows : List (Bor (List ℕ)) → List (List ℕ)
nows words = map (λ word. word.now) words

-- the parts of a text that is cut at each of these bytes
abbrev pub cut_at : ℕ → List ℕ → List (List ℕ)
cut_at byte text = slice_split (λ b. b == byte) text

-- the words of a line: one space stands between each two
abbrev pub words_of : List ℕ → List (List ℕ)
words_of line = cut_at 32 line

-- the line of these words
abbrev pub spaced : List (List ℕ) → List ℕ
spaced words = join_with_byte 32 words

-- which of these is named by this word
abbrev pub named : {N : Type 0} → (N → List ℕ) → List N → List ℕ → Option N
named name all word = find (λ n. bytes_eq word (name n)) all

-- Numbers.

-- the number up to the limit whose decimal text the word is
unfoldable pub number_of : ℕ → List ℕ → Option ℕ
number_of limit word =
    if bytes_eq (decimal (digits_value 10 word)) word && nat_le (digits_value 10 word) limit then Some (digits_value 10 word) else None

-- whether a word begins with a sign, or with a zero before more
abbrev pub is_odd : List ℕ → Bool
is_odd word = (slice_index word 0 == 43) || ((slice_index word 0 == 48) && nat_lt 1 (length word))

-- the largest number
abbrev pub largest : ℕ
largest = 18446744073709551615

-- where a number must stand
abbrev pub wanted : Option ℕ → Result ℕ Refusal
wanted None = Err BadNumber
wanted (Some n) = Ok n

-- a word that must be a number up to the limit; an empty one is no word
abbrev pub number_word : ℕ → List ℕ → Result ℕ Refusal
number_word limit [] = Err BadLine
number_word limit (b ∷ bs) = wanted (number_of limit (b ∷ bs))

-- what must be this number or more
abbrev pub at_least : ℕ → Result ℕ Refusal → Result ℕ Refusal
at_least least (Ok n) = if nat_lt n least then Err BadNumber else Ok n
at_least least (Err e) = Err e

-- a word that must be a number in this range
abbrev pub number_from : ℕ → ℕ → List ℕ → Result ℕ Refusal
number_from least limit word = at_least least (number_word limit word)

-- Parts of a line.

-- of two faults of one line BadLine is told before another
abbrev pub first_told : Refusal → Refusal → Refusal
first_told BadLine other = BadLine
first_told first other = other

-- two parts of a line, and the fault that is told
abbrev pub both : {A B : Type 0} → Result A Refusal → Result B Refusal → Result (A × B) Refusal
both (Ok x) (Ok y) = Ok (x, y)
both (Ok x) (Err e) = Err e
both (Err d) (Ok y) = Err d
both (Err d) (Err e) = Err (first_told d e)

-- what is made of the parts
abbrev pub made : {A B E : Type 0} → (A → B) → Result A E → Result B E
made f (Ok x) = Ok (f x)
made f (Err e) = Err e

-- the first fault, or what goes on from there
infixl 10 ◌>>=◌
abbrev pub ◌>>=◌ : {A B E : Type 0} → Result A E → (A → Result B E) → Result B E
(Ok x) >>= f = f x
(Err e) >>= f = Err e
