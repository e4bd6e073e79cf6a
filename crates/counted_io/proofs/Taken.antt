-- What was read from bytes that may be known.
use Rattle.std.proofs.Common.{ℕ, List, [], ◌++◌, Option, None, Some, IfSome, ◌≡◌, sym, ap, ◌∙◌, append-nil}
use Rattle.std.specs.Io.KnownBytes.{Consumes, IsAtEnd}

-- A reader that is at its end after a call that took no byte gave all that it had.
pub all_taken : (a b c : Option (List ℕ)) (text : List ℕ) → Consumes a b text → Consumes b c [] → IsAtEnd c → IfSome a (λ bytes. text ≡ bytes)
all_taken None b c text taken none end = tt
all_taken (Some x) None c text taken none end = absurd taken
all_taken (Some x) (Some y) None text taken none end = absurd none
all_taken (Some x) (Some y) (Some z) text taken none end = sym (taken ∙ ap (λ l. text ++ l) (none ∙ end) ∙ append-nil text)
