-- The first line of a text.
use Rattle.std.proofs.Common.{◌≡◌, ℕ, ◌+◌, ◌<◌, ◌≤◌, List, [], ◌∷◌, length, take, drop, refl, ap, ◌∙◌, Some, None, Bool, true, false, eqb, ltb, arith, cond}
use Rattle.std.specs.List.{slice_split, position, position_or_len}
use Rattle.std.specs.Option.{MatchOption}
use Rattle.std.proofs.lemmas.List.Splits.{slice_split_first, slice_split_none, length-slice_split}
use Rattle.std.proofs.lemmas.List.Sums.{fails_before_first}
use borrow.Author.Tests.{ltb-true, ltb-false}
use Rattle.text_lines.specs.Words.{cut_at}
use Rattle.text_lines.specs.Texts.{lines_of, without_empty_last}

pub no_lines : lines_of [] ≡ []
unfolding lines_of
no_lines = refl

-- a line that isn't the last is kept
pub kept : (x : List ℕ) (parts : List (List ℕ)) → 0 < length parts → without_empty_last (x ∷ parts) ≡ x ∷ without_empty_last parts
kept x [] some = absurd (omega arith)
kept x (y ∷ more) some = refl

first_of_more : (text : List ℕ) (i : ℕ) → i ≡ position_or_len (λ b. eqb b 10) text → i < length text → lines_of text ≡ take i text ∷ lines_of (drop (i + 1) text)
unfolding lines_of
first_of_more text i e lt =
    let cut : cut_at 10 text ≡ take i text ∷ cut_at 10 (drop (i + 1) text) = rw e (slice_split_first (λ b. eqb b 10) text 0 (omega arith)) in
    ap without_empty_last cut ∙ kept (take i text) (cut_at 10 (drop (i + 1) text)) (omega (arith, length-slice_split (λ b. eqb b 10) (drop (i + 1) text)))

single : (text : List ℕ) → 0 < length text → without_empty_last (text ∷ []) ≡ text ∷ []
single [] some = absurd (omega arith)
single (b ∷ bs) some = refl

uncut : (p : ℕ → Bool) (text : List ℕ) → length text ≤ position_or_len p text → slice_split p text ≡ text ∷ []
uncut p text all = slice_split_none p text (λ k d lt. fails_before_first p text k d (omega arith))

only_line : (text : List ℕ) → 0 < length text → length text ≤ position_or_len (λ b. eqb b 10) text → lines_of text ≡ text ∷ lines_of []
unfolding lines_of
only_line text some all = ap without_empty_last (uncut (λ b. eqb b 10) text all) ∙ single text some

cases_position : (text : List ℕ) (b : Bool) (i : ℕ) (P : Type 0) (Q : ℕ → Type 0) → (b ≡ false → P) → (b ≡ true → Q i) → MatchOption (cond b (Some i) None) P Q
cases_position text true i P Q no_end at_end = at_end refl
cases_position text false i P Q no_end at_end = no_end refl

pub first_split : (text : List ℕ) → 0 < length text
    → MatchOption (position (λ b. eqb b 10) text) (lines_of text ≡ text ∷ lines_of []) (λ i. (lines_of text ≡ take i text ∷ lines_of (drop (i + 1) text)) × (i < length text))
first_split text some =
    cases_position text (ltb (position_or_len (λ b. eqb b 10) text) (length text)) (position_or_len (λ b. eqb b 10) text) _
    (λ i. (lines_of text ≡ take i text ∷ lines_of (drop (i + 1) text)) × (i < length text))
    (λ e. only_line text some (ltb-false _ _ e))
    (λ e. (first_of_more text (position_or_len (λ b. eqb b 10) text) refl (ltb-true _ _ e), ltb-true _ _ e))
