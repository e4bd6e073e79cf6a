-- What follows for bytes that may be known.
use Rattle.std.proofs.Common.{◌≡◌, ℕ, List, Option, None, Some, IfSome, subst}

-- What holds of the text that was read holds of the known bytes.
pub known_holds : (known : Option (List ℕ)) (P : List ℕ → Type 0) (text : List ℕ) → IfSome known (λ bytes. text ≡ bytes) → P text → IfSome known P
known_holds None P text same holds = tt
known_holds (Some x) P text same holds = subst P same holds
