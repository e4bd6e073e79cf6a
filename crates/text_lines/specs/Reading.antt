-- Reading a text line by line, up to the first fault.
use Rattle.std.specs.Prelude.{ℕ, ◌+◌, List, [], ◌∷◌, length, Result, Ok, Err, nat_lt, if◌then◌else◌}
use Rattle.ctrie_base.specs.declared.refusals.Refusal.{Refusal}
use Rattle.ctrie_base.specs.declared.refusals.Refusal.TheVariants.{TooLong}
use Rattle.text_lines.specs.Words.{words_of, ◌>>=◌}
use Rattle.text_lines.specs.Texts.{lines_of, is_ignored}

-- a fault and the number of its line, from 1
pub record LineFault : Type 0 where
  pub line : ℕ
  pub refusal : Refusal

-- A kind of text: how many lines it may have, where reading begins, what the words of a line that isn't ignored say
-- after what was read before, and what is read once no line is left.
pub record Format (P A : Type 0) : Type 0 where
  pub most_lines : ℕ
  pub start : P
  pub words_after : P → List (List ℕ) → Result P Refusal
  pub all_read : P → Result A Refusal

-- a line, ignored or not, after what was read before
unfoldable pub line_after : {P A : Type 0} → Format P A → ℕ → P → List ℕ → Result P Refusal
line_after format number before line =
    if nat_lt format.most_lines number then Err TooLong else (if is_ignored line then Ok before else format.words_after before (words_of line))

abbrev pub at_line : {A : Type 0} → ℕ → Result A Refusal → Result A LineFault
at_line number (Ok x) = Ok x
at_line number (Err e) = Err (record { line = number; refusal = e })

-- the lines, numbered from this number on, up to the first with a fault
unfoldable pub read_lines : {P A : Type 0} → Format P A → ℕ → P → List (List ℕ) → Result P LineFault
read_lines format number before [] = Ok before
read_lines format number before (line ∷ more) = at_line number (line_after format number before line) >>= λ after. read_lines format (number + 1) after more

-- what a text says, or the first line with a fault; what is missing is told at the line after the last
unfoldable pub text_of : {P A : Type 0} → Format P A → List ℕ → Result A LineFault
text_of format text = read_lines format 1 format.start (lines_of text) >>= λ read. at_line (length (lines_of text) + 1) (format.all_read read)
