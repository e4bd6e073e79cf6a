-- The numbers among the words of a text are read again.
use Rattle.std.proofs.Common.{◌≡◌, ℕ, ◌≤◌, ◌∷◌, refl, Ok, arith}
use Rattle.std.specs.Fmt.{decimal}
use Rattle.text_lines.specs.Words.{number_word, largest}
use Rattle.text_lines.proofs.Lacking.{lacks_append}
use Rattle.text_lines.proofs.Again.{IsClean, clean_decimal, word_again}
use Rattle.history_text.specs.Texts.{pair_text}

pub clean_pair : (x : ℕ × ℕ) → x.0 ≤ largest → x.1 ≤ largest → IsClean (pair_text x)
clean_pair x p q = lacks_append 32 (decimal x.0) (61 ∷ decimal x.1) (clean_decimal x.0 p) (refl, clean_decimal x.1 q)

pub handle_again : (n : ℕ) → n ≤ 65535 → number_word 65535 (decimal n) ≡ Ok n
handle_again n le = word_again 65535 n le (omega arith)

pub actor_again : (n : ℕ) → n ≤ 255 → number_word 255 (decimal n) ≡ Ok n
actor_again n le = word_again 255 n le (omega arith)
