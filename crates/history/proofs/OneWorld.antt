-- An order leads to at most one world, whatever it replies for operations that haven't ended.
use Rattle.std.proofs.Common.{◌≡◌, ℕ, List, [], ◌∷◌, Some, sym, ap, ◌∙◌, subst}
use Rattle.std.proofs.lemmas.Option.{some_pair_parts}
use Rattle.history.specs.declared.events.Event.{Event}
use Rattle.history.specs.declared.events.Event.TheVariants.{Begin}
use Rattle.history.specs.Worlds.{HandleMap, first_world}
use Rattle.history.specs.Effects.{effect, Effect}
use Rattle.history.specs.Histories.{Operation, BeginsAt, IsWellFormed}
use Rattle.history.specs.Orders.{Answered, Recalls, RecallsEach, Replays, Explains}
use Rattle.history.proofs.Begins.{begins_once}

-- an operation has one call
pub same_call : (history : List Event) (id : ℕ) (a b : Answered) → IsWellFormed history → Recalls history id a → Recalls history id b → (a.call ≡ b.call) × (a.opens ≡ b.opens)
same_call history id a b well recalls_a recalls_b =
    let p = recalls_a.0.0 in
    let q = recalls_b.0.0 in
    let x : Operation = recalls_a.0.1 in
    let y : Operation = recalls_b.0.1 in
    let same : p ≡ q = begins_once history p q id x y well recalls_a.0.2 recalls_b.0.2 in
    let here : BeginsAt history p id y = subst (λ k. BeginsAt history k id y) (sym same) recalls_b.0.2 in
    let events : Begin id x.actor x.call x.opens ≡ Begin id y.actor y.call y.opens = cc (here, recalls_a.0.2) in
    let calls : x.call ≡ y.call = cc events in
    let opens : x.opens ≡ y.opens = cc events in
    (sym recalls_a.0.3 ∙ calls ∙ recalls_b.0.3, sym recalls_a.0.4 ∙ opens ∙ recalls_b.0.4)

-- the same call in the same world leads to the same world
pub same_effect : (hash : ℕ → ℕ) (world v w : HandleMap) (a b : Answered) → a.call ≡ b.call → a.opens ≡ b.opens → Effect hash world a.call a.opens a.answer v
    → Effect hash world b.call b.opens b.answer w
    → (a.answer ≡ b.answer) × (v ≡ w)
same_effect hash world v w a b calls opens leads_a leads_b =
    let moved : effect hash world a.call a.opens ≡ effect hash world b.call b.opens = ap (λ call. effect hash world call a.opens) calls ∙ ap (λ h. effect hash world b.call h) opens in
    let pairs : Some (a.answer, v) ≡ Some (b.answer, w) = sym leads_a ∙ moved ∙ leads_b in
    some_pair_parts a.answer b.answer v w pairs

-- replays of the same operations from the same world end in the same world
pub one_world : (hash : ℕ → ℕ) (history : List Event) (ids : List ℕ) (xs ys : List Answered) (world v w : HandleMap) → IsWellFormed history
    → RecallsEach history ids xs → Replays hash xs world v → RecallsEach history ids ys → Replays hash ys world w → v ≡ w
one_world hash history [] [] [] world v w well rx px ry py = px ∙ sym py
one_world hash history [] [] (y ∷ ys) world v w well rx px ry py = absurd ry
one_world hash history [] (x ∷ xs) ys world v w well rx px ry py = absurd rx
one_world hash history (id ∷ ids) [] ys world v w well rx px ry py = absurd rx
one_world hash history (id ∷ ids) (x ∷ xs) [] world v w well rx px ry py = absurd ry
one_world hash history (id ∷ ids) (x ∷ xs) (y ∷ ys) world v w well rx px ry py =
    let calls = same_call history id x y well rx.0 ry.0 in
    let next = same_effect hash world px.0 py.0 x y calls.0 calls.1 px.1 py.1 in
    let rest : Replays hash ys px.0 w = subst (λ u. Replays hash ys u w) (sym next.1) py.2 in
    one_world hash history ids xs ys px.0 v w well rx.1 px.2 ry.1 rest

-- an order leads to at most one world
pub leads_to_one_world : (hash : ℕ → ℕ) (history : List Event) (order : List ℕ) (v w : HandleMap) → Explains hash history order v → Explains hash history order w → v ≡ w
leads_to_one_world hash history order v w a b =
    one_world hash history order a.replayed.0 b.replayed.0 first_world v w a.well_formed a.replayed.1 a.replayed.2 b.replayed.1 b.replayed.2
