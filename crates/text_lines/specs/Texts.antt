-- The lines of a text.
use Rattle.std.specs.Prelude.{ℕ, ◌≤◌, Bool, true, not, List, [], ◌∷◌, length, filter, ◌==◌}
use Rattle.text_lines.specs.Words.{cut_at}

-- lines end with a line feed; the last may lack it
abbrev pub without_empty_last : List (List ℕ) → List (List ℕ)
without_empty_last [] = []
without_empty_last ([] ∷ []) = []
without_empty_last ((b ∷ bs) ∷ []) = (b ∷ bs) ∷ []
without_empty_last (x ∷ y ∷ more) = x ∷ without_empty_last (y ∷ more)

unfoldable pub lines_of : List ℕ → List (List ℕ)
lines_of text = without_empty_last (cut_at 10 text)

-- empty lines and those that begin with `#`
abbrev pub is_ignored : List ℕ → Bool
is_ignored [] = true
is_ignored (b ∷ bs) = b == 35

-- the lines of a text that aren't ignored
unfoldable pub said_lines : List ℕ → List (List ℕ)
said_lines text = filter (λ line. not (is_ignored line)) (lines_of text)

-- no more lines than these, ignored ones among them
abbrev pub HasLines : ℕ → List ℕ → Type 0
HasLines most text = length (lines_of text) ≤ most
