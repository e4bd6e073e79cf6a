-- What the map's contract says of its answer holds of what the code tells.
use Rattle.std.proofs.Common.{◌≡◌, ◌<◌, ℕ, sym, subst}
use Rattle.std.specs.Prelude.{Option, Some, Result}
use Rattle.shared_map.specs.Beneath.ctrie_map.specs.declared.errors.MapError.{MapError}
use Rattle.shared_map.specs.Beneath.ctrie_map.specs.Maps.{MapState}
use Rattle.ctrie_c.specs.Answers.{Does, code_limit}

-- the handle, and the map that was taken out of its box
pub carried : {A : Type 0} (Holds : ℕ → Result A MapError → MapState → MapState → Type 0)
    {handle named : ℕ} {before after : Option MapState} {old lent new : MapState} {code : ℕ} {told answer : Result A MapError}
    → named ≡ handle → lent ≡ old → before ≡ Some old → after ≡ Some new → code < code_limit → told ≡ answer → Holds named answer lent new → Does before after code (Holds handle told)
carried {A} Holds {handle} {named} {before} {after} {old} {lent} {new} {code} {told} {answer} names same was is low tells holds =
    subst (λ (b : Option MapState). Does b after code (Holds handle told)) (sym was)
    (subst (λ (a : Option MapState). Does (Some old) a code (Holds handle told)) (sym is)
    (low, subst (λ (h : ℕ). Holds h told old new) names (subst (λ (m : MapState). Holds named told m new) same (subst (λ (t : Result A MapError). Holds named t lent new) (sym tells) holds))))
