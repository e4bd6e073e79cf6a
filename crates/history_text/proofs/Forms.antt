-- Lines of too few or too many words.
use Rattle.std.proofs.Common.{◌≡◌, ℕ, ◌<◌, ◌≤◌, List, [], ◌∷◌, length, refl, arith, Err}
use denote.Ref.{Bor}
use Rattle.ctrie_base.specs.declared.refusals.Refusal.TheVariants.{BadLine}
use Rattle.text_lines.specs.Words.{nows}
use Rattle.history_text.specs.Lines.{call_of}

pub short_call : (ws : List (Bor (List ℕ))) → length ws < 2 → call_of (nows ws) ≡ Err BadLine
unfolding call_of
short_call [] few = refl
short_call (a ∷ []) few = refl
short_call (a ∷ b ∷ ws) few = absurd (omega arith)

pub long_call : (ws : List (Bor (List ℕ))) → 6 ≤ length ws → call_of (nows ws) ≡ Err BadLine
unfolding call_of
long_call [] many = refl
long_call (a ∷ []) many = refl
long_call (a ∷ b ∷ []) many = absurd (omega arith)
long_call (a ∷ b ∷ c ∷ []) many = absurd (omega arith)
long_call (a ∷ b ∷ c ∷ d ∷ []) many = absurd (omega arith)
long_call (a ∷ b ∷ c ∷ d ∷ e ∷ []) many = absurd (omega arith)
long_call (a ∷ b ∷ c ∷ d ∷ e ∷ f ∷ ws) many = refl
