-- What follows where a word is read that must stand a test.
use Rattle.std.proofs.Common.{◌≡◌, ℕ, refl, sym, ap, ◌∙◌, Result, Ok, Err, Bool, true, false, cond}
use Rattle.ctrie_base.specs.declared.refusals.Refusal.{Refusal}
use Rattle.ctrie_base.specs.declared.refusals.Refusal.TheVariants.{BadLine}
use Rattle.history_text.specs.Words.{passing}

passed : (b : Bool) (m n : ℕ) → cond b (Ok m) (Err BadLine) ≡ Ok n → (m ≡ n) × (b ≡ true)
passed true m n e = (cc, refl)
passed false m n e = absurd cc

pub passing_ok : (test : ℕ → Bool) (r : Result ℕ Refusal) (n : ℕ) → passing test r ≡ Ok n → (r ≡ Ok n) × (test n ≡ true)
passing_ok test (Ok m) n e = let p = passed (test m) m n e in (ap Ok p.0, ap test (sym p.0) ∙ p.1)
passing_ok test (Err g) n e = absurd cc
