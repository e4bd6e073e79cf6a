-- An account after one event more.
use Rattle.std.specs.Prelude.{◌≡◌, ℕ, ◌+◌, List, [], ◌∷◌, ◌++◌, length}
use Rattle.std.proofs.Common.{ap, ◌∙◌, arith}
use Rattle.lock_runner.specs.Vocabulary.{Event}
use Rattle.lock_runner.specs.ActorHistory.{Account, empty_account, account_after, account_from, account_of}

-- the last event is told last
from_push : (actor place : ℕ) (account : Account) (events : List Event) (event : Event) →
    account_from actor place account (events ++ event ∷ []) ≡ account_after actor (place + length events) (account_from actor place account events) event
unfolding account_from
from_push actor place account [] event = let here : place ≡ place + 0 = omega arith in ap (λ p. account_after actor p account event) here
from_push actor place account (e ∷ events) event =
    let next : place + 1 + length events ≡ place + length (e ∷ events) = omega arith in
    let rest = account_after actor place account e in
    from_push actor (place + 1) rest events event ∙ ap (λ p. account_after actor p (account_from actor (place + 1) rest events) event) next

pub account_push : (actor : ℕ) (history : List Event) (event : Event) →
    account_of actor (history ++ event ∷ []) ≡ account_after actor (length history) (account_of actor history) event
account_push actor history event =
    let here : 0 + length history ≡ length history = omega arith in
    from_push actor 0 empty_account history event ∙ ap (λ p. account_after actor p (account_of actor history) event) here
