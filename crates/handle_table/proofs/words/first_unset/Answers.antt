use Rattle.std.proofs.Common.{◌≡◌, ℕ, ◌+◌, ◌<◌, ◌^◌, inl, inr, refl, ap, ◌∙◌, arith}
use Rattle.std.proofs.Math.Facts.{Fits-lt-pow}
use Rattle.std.proofs.lemmas.Bool.{cases_lt}
use Rattle.handle_table.specs.Numbers.{is_set}
use Rattle.handle_table.proofs.Bits.{full_row, row_below, row_free}
use Rattle.handle_table.proofs.words.first_unset.Goals as goal

small : (word : ℕ) → word < 2 ^ 64 → (word ≡ 18446744073709551615 → ⊥) → word + 1 < 2 ^ 64
small word fits other = elim (cases_lt (word + 1) (2 ^ 64)) [
  | inl less ↦ less
  | inr not ↦ absurd (other (omega (arith, fits, not)))
]

pub returns-then-word-clause-below : goal.returns-then-word-clause-below
returns-then-word-clause-below c = λ number lt. elim (cases_lt number c.loop-word.first) [
  | inl less ↦ c.loop-word.invariant.below number less
  | inr past ↦ row_below c.args.words.now c.loop-word.word-index _ refl (small _ (Fits-lt-pow (c.type_inv.words c.loop-word.word-index)) c.if-word.true) number
      (omega (arith, past, c.loop-word.invariant.at)) (omega (arith, lt, c.loop-word.invariant.at, c.trailing_ones.ensures))
]

pub returns-then-word-clause-unset : goal.returns-then-word-clause-unset
returns-then-word-clause-unset c =
    ap (is_set c.args.words.now) (omega (arith, c.loop-word.invariant.at, c.trailing_ones.ensures))
    ∙ row_free c.args.words.now c.loop-word.word-index _ refl (small _ (Fits-lt-pow (c.type_inv.words c.loop-word.word-index)) c.if-word.true)

pub loop-word-preserved : goal.loop-word-preserved
loop-word-preserved c = record {
  at = omega (arith, c.loop-word.invariant.at);
  below = λ number lt. elim (cases_lt number c.loop-word.first) [
    | inl less ↦ c.loop-word.invariant.below number less
    | inr past ↦ full_row c.args.words.now c.loop-word.word-index c.if-word.false number (omega (arith, past, c.loop-word.invariant.at)) (omega (arith, lt, c.loop-word.invariant.at))
  ];
}
