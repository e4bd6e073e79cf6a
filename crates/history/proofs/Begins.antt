-- Well-formed histories.
use Rattle.std.proofs.Common.{cond, ◌≡◌, ℕ, zero, suc, ◌+◌, ◌<◌, ◌≤◌, inl, inr, List, [], ◌∷◌, ◌++◌, length, take, true, false, refl, sym, ap, ◌∙◌, arith}
use Rattle.std.proofs.lemmas.Bool.{cases_order}
use Rattle.std.proofs.lemmas.Option.{slice_get_within}
use Rattle.std.proofs.lemmas.List.{take_at, take-append-le}
use Rattle.std.proofs.lemmas.List.Sums.{sum_by-append}
use Rattle.history.specs.declared.events.Event.{Event}
use Rattle.history.specs.declared.events.Event.TheVariants.{Begin}
use Rattle.history.specs.Histories.{Operation, BeginsAt, is_begin, begun, MayFollow, IsWellFormed}
use Rattle.history.proofs.Places.{at_cases}

-- a history with one more event that may come is well formed
pub well_formed_push : (history : List Event) (event : Event) → IsWellFormed history → MayFollow history event → IsWellFormed (history ++ event ∷ [])
well_formed_push history event before follows = λ place other at.
    elim (at_cases history event place other at) [
      | inl old ↦
          let within : place < length history = slice_get_within history place other old in
          rw (take-append-le place history (event ∷ []) (omega arith)) (before place other old)
      | inr new ↦
          let all : take place (history ++ event ∷ []) ≡ history = take_at history (event ∷ []) place (sym new.0) in
          rw (all, ← new.1) follows
    ]

-- the first event counts by itself
begun_cons : (event : Event) (history : List Event) → begun (event ∷ history) ≡ begun (event ∷ []) + begun history
begun_cons event history = sum_by-append (λ x. cond (is_begin x) 1 0) (event ∷ []) history

-- at least as many operations have begun later
pub begun_grows : (history : List Event) (p q : ℕ) → p ≤ q → begun (take p history) ≤ begun (take q history)
begun_grows history zero q le = omega arith
begun_grows [] (suc p) q le = omega arith
begun_grows (e ∷ history) (suc p) zero le = absurd (omega (arith, le))
begun_grows (e ∷ history) (suc p) (suc q) le =
    let early : begun (take (suc p) (e ∷ history)) ≡ begun (e ∷ []) + begun (take p history) = begun_cons e (take p history) in
    let late : begun (take (suc q) (e ∷ history)) ≡ begun (e ∷ []) + begun (take q history) = begun_cons e (take q history) in
    let rest = begun_grows history p q (omega (arith, le)) in
    omega arith

-- one more operation has begun behind a begin
pub begun_more : (history : List Event) (place id : ℕ) (operation : Operation) → BeginsAt history place id operation → begun (take (suc place) history) ≡ suc (begun (take place history))
begun_more [] place id operation at = cc
begun_more (e ∷ history) zero id operation at =
    let same : e ≡ Begin id operation.actor operation.call operation.opens = cc in
    rw same refl
begun_more (e ∷ history) (suc place) id operation at =
    let before : begun (take (suc place) (e ∷ history)) ≡ begun (e ∷ []) + begun (take place history) = begun_cons e (take place history) in
    let behind : begun (take (suc (suc place)) (e ∷ history)) ≡ begun (e ∷ []) + begun (take (suc place) history) = begun_cons e (take (suc place) history) in
    let rest = begun_more history place id operation at in
    omega arith

-- one more has begun with a begin
pub begun_push : (history : List Event) (event : Event) → is_begin event ≡ true → begun (history ++ event ∷ []) ≡ begun history + 1
begun_push history event begins =
    sum_by-append (λ x. cond (is_begin x) 1 0) history (event ∷ []) ∙ ap (λ b. begun history + (0 + cond b 1 0)) begins

-- an end begins nothing
pub begun_same : (history : List Event) (event : Event) → is_begin event ≡ false → begun (history ++ event ∷ []) ≡ begun history
begun_same history event ends =
    sum_by-append (λ x. cond (is_begin x) 1 0) history (event ∷ []) ∙ ap (λ b. begun history + (0 + cond b 1 0)) ends ∙ omega arith

-- no id begins again later
not_again : (history : List Event) (p q id : ℕ) (a b : Operation) → IsWellFormed history → BeginsAt history p id a → BeginsAt history q id b → p < q → ⊥
not_again history p q id a b well at_p at_q lt =
    let first : id ≡ begun (take p history) = (well p (Begin id a.actor a.call a.opens) at_p).0 in
    let second : id ≡ begun (take q history) = (well q (Begin id b.actor b.call b.opens) at_q).0 in
    let more = begun_more history p id a at_p in
    let grows = begun_grows history (suc p) q (omega arith) in
    omega arith

-- an operation begins once
pub begins_once : (history : List Event) (p q id : ℕ) (a b : Operation) → IsWellFormed history → BeginsAt history p id a → BeginsAt history q id b → p ≡ q
begins_once history p q id a b well at_p at_q =
    elim (cases_order p q) [
      | inl same ↦ same
      | inr differ ↦ elim differ [
        | inl lt ↦ absurd (not_again history p q id a b well at_p at_q lt)
        | inr gt ↦ absurd (not_again history q p id b a well at_q at_p gt)
      ]
    ]
