-- Reading lines one after the other, as a loop does.
use Rattle.std.proofs.Common.{◌≡◌, ◌≢◌, ℕ, ◌+◌, List, [], ◌∷◌, length, refl, sym, ap, ◌∙◌, Result, Ok, Err, arith}
use Rattle.ctrie_base.specs.declared.refusals.Refusal.{Refusal}
use Rattle.ctrie_base.specs.declared.refusals.Refusal.TheVariants.{Memory}
use Rattle.text_lines.specs.Texts.{lines_of}
use Rattle.text_lines.specs.Reading.{Format, LineFault, line_after, read_lines, at_line, text_of}
use Rattle.text_lines.specs.Views.{Tells, told_at}
use Rattle.text_lines.proofs.FirstLine.{no_lines}

module _ {P A : Type 0} (format : Format P A) where
  pub goes_on : (number : ℕ) (p q : P) (line : List ℕ) (more : List (List ℕ)) (total : Result P LineFault) → Ok q ≡ line_after format number p line
      → read_lines format number p (line ∷ more) ≡ total → read_lines format (number + 1) q more ≡ total
  unfolding read_lines
  goes_on number p q line more total h so_far =
      let one : read_lines format number p (line ∷ more) ≡ read_lines format (number + 1) q more = rw (sym h) refl in sym one ∙ so_far

  pub stops : (number : ℕ) (p : P) (line : List ℕ) (more : List (List ℕ)) (total : Result P LineFault) (f : Refusal) → Err f ≡ line_after format number p line
      → read_lines format number p (line ∷ more) ≡ total → total ≡ Err (record { line = number; refusal = f })
  unfolding read_lines
  stops number p line more total f h so_far =
      let one : read_lines format number p (line ∷ more) ≡ Err (record { line = number; refusal = f }) = rw (sym h) refl in sym so_far ∙ one

  pub text_fault : (text : List ℕ) (f : LineFault) → read_lines format 1 format.start (lines_of text) ≡ Err f → text_of format text ≡ Err f
  unfolding text_of
  text_fault text f h = rw h refl

  -- where no line is left, the whole text is read
  pub whole_read : (text rest : List ℕ) (p : P) (number : ℕ) → read_lines format number p (lines_of rest) ≡ read_lines format 1 format.start (lines_of text)
      → number + length (lines_of rest) ≡ length (lines_of text) + 1 → rest ≡ [] → text_of format text ≡ at_line number (format.all_read p)
  unfolding text_of read_lines
  whole_read text rest p number so_far counted empty =
      let none : lines_of rest ≡ [] = ap lines_of empty ∙ no_lines in
      let first : read_lines format 1 format.start (lines_of text) ≡ Ok p = sym so_far ∙ ap (read_lines format number p) none in
      let last : length (lines_of text) + 1 ≡ number = omega (arith, ap length none) in
      rw (first, last) refl

-- a refusal that the text has, unless memory ran out, is told rightly
pub told_rightly : {A : Type 0} (number : ℕ) (refusal : Refusal) (wanted : Result A LineFault) → (refusal ≢ Memory → wanted ≡ Err (record { line = number; refusal = refusal }))
    → Tells (told_at number refusal) wanted
told_rightly number Memory wanted h = tt
told_rightly number refusal wanted h = h (λ e. cc)

-- a refusal other than Memory is no answer Memory
pub other_refusal : {A : Type 0} (refusal : Refusal) → refusal ≢ Memory → ◌≢◌ {A = Result A Refusal} (Err refusal) (Err Memory)
other_refusal refusal n e = n cc
