use Rattle.std.proofs.Common.{◌≡◌, ◌*◌, ◌<◌, ℕ, true}
use Rattle.handle_table.specs.Numbers.{is_set}
use Rattle.handle_table.proofs.words.first_unset.Given as goal

abbrev pub invariant-loop-word : goal.invariant-loop-word
invariant-loop-word l = record { at : l.first ≡ 64 * l.word-index; below : (number : ℕ) → number < l.first → is_set l.words number ≡ true }
