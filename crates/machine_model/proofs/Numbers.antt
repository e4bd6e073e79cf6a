-- Numbers of handles: the one that a begin reserves is below the limit, and neither open nor reserved.
use Rattle.std.proofs.Common.{◌≡◌, ℕ, zero, suc, ◌+◌, ◌<◌, ◌≤◌, ◌⊎◌, inl, inr, Bool, true, false, cond, nat_lt, nat_le, not, ◌&&◌, Option, Some, None, Ok, refl, ap, ◌∙◌, subst}
use Rattle.std.proofs.Common.{add-one, leb-true, lt-ltb, arith}
use Rattle.std.proofs.lemmas.Bool.{cases_lt, le-ltb}
use Rattle.std.proofs.Math.Bool.{and-false}
use Rattle.std.proofs.lemmas.Option.{none-some, same_Some}
use Rattle.history.specs.declared.calls.Call.{Call}
use Rattle.machine_model.specs.declared.steps.Outcome.{Outcome}
use Rattle.machine_model.specs.Beneath.ctrie_base.specs.declared.refusals.Refusal.{Refusal}
use Rattle.machine_model.specs.declared.steps.Step.TheVariants as step
use Rattle.machine_model.specs.Calls.{opens_handle}
use Rattle.machine_model.specs.States.{State, handle_limit}
use Rattle.machine_model.specs.Machine.{is_taken, is_free, taken_below, handles_taken, least_from, least_free, number_for, lacks_number, begin_denial, begin_unless, begun_operation, next}

-- a number that is free
abbrev pub IsFree : State → ℕ → Type 0
IsFree state n = (n < handle_limit) × (is_taken state n ≡ false)

-- ---- the least number

-- of the numbers from n on, so many: one of them that isn't taken, or all are
abbrev Finds : State → ℕ → ℕ → ℕ → Type 0
Finds state left n found = ((found < n + left) × (is_taken state found ≡ false)) ⊎ (taken_below state (n + left) ≡ taken_below state n + left)

found_by : (state : State) (left n : ℕ) (taken : Bool) → is_taken state n ≡ taken → Finds state left (n + 1) (least_from state left (n + 1)) →
    Finds state (suc left) n (cond taken (least_from state left (n + 1)) n)
unfolding taken_below
found_by state left n false e rest = inl (omega arith, e)
found_by state left n true e (inl free) = inl (omega (arith, free.0), free.1)
found_by state left n true e (inr all) =
    let one : taken_below state (n + 1) ≡ taken_below state n + 1 = ap (taken_below state) (add-one n) ∙ ap (λ b. taken_below state n + cond b 1 0) e in
    let whole : taken_below state (n + suc left) ≡ taken_below state (n + 1 + left) = ap (taken_below state) (omega arith) in
    inr (omega (arith, whole, all, one))

least_found : (state : State) (left n : ℕ) → Finds state left n (least_from state left n)
unfolding least_from
least_found state zero n =
    let same : n + 0 ≡ n = omega arith in
    let whole : taken_below state (n + 0) ≡ taken_below state n = ap (taken_below state) same in
    inr (omega arith)
least_found state (suc left) n = found_by state left n (is_taken state n) refl (least_found state left (n + 1))

least_is_free : (state : State) → nat_le handle_limit (handles_taken state) ≡ false → IsFree state (least_free state)
unfolding taken_below
least_is_free state e = elim (least_found state 256 0) [
  | inl free ↦ free
  | inr all ↦ absurd (full (taken_below state 256) all e)
]
  where
    full : (n : ℕ) → n ≡ 0 + 256 → nat_le 256 n ≡ false → ⊥
    full n is e = grind arith

-- ---- what a begin reserves

free_as_said : (state : State) (number : Option ℕ) → lacks_number state number ≡ false → IsFree state (number_for state number)
free_as_said state None e = least_is_free state e
free_as_said state (Some n) e = grind arith

has_number : (state : State) (actor : ℕ) (call : Call) (number : Option ℕ) → begin_denial state actor call number ≡ None → opens_handle call ≡ true → lacks_number state number ≡ false
has_number state actor call number d o = grind arith

pub begun_opens : (state : State) (actor : ℕ) (call : Call) (number : Option ℕ) → begin_denial state actor call number ≡ None → (n : ℕ) →
    (begun_operation state call number).opens ≡ Some n → (opens_handle call ≡ true) × IsFree state n
begun_opens state actor call number d n e = by (opens_handle call) refl e
  where
    by : (b : Bool) → opens_handle call ≡ b → cond b (Some (number_for state number)) None ≡ Some n → (b ≡ true) × IsFree state n
    by true is e = (refl, subst (IsFree state) (same_Some _ _ e) (free_as_said state number (has_number state actor call number d is)))
    by false is e = absurd (none-some n e)

pub reserves_free : (state after : State) (actor : ℕ) (call : Call) (number : Option ℕ) (o : Outcome) → next state (step.Begin actor call number) ≡ Ok (o, after) →
    opens_handle call ≡ true → is_free state (number_for state number) ≡ true
unfolding next
reserves_free state after actor call number o e opening = by (begin_denial state actor call number) refl e
  where
    by : (denial : Option Refusal) → begin_denial state actor call number ≡ denial → begin_unless state actor call number denial ≡ Ok (o, after) → is_free state (number_for state number) ≡ true
    by None d e = let (low, free) = free_as_said state number (has_number state actor call number d opening) in grind (arith, low, free, lt-ltb)
    by (Some why) d e = let wrong : ⊥ = cc e in absurd wrong

-- ---- to choose the least is to choose none

taken_more : (state : State) (n : ℕ) → taken_below state (suc n) ≡ taken_below state n + cond (is_taken state n) 1 0
unfolding taken_below
taken_more state n = refl

-- no more are taken than there are
pub few_below : (state : State) (n : ℕ) → taken_below state n ≤ n
unfolding taken_below
few_below state zero = omega arith
few_below state (suc n) = omega (arith, few_below state n, one_most (is_taken state n))
  where
    one_most : (b : Bool) → cond b 1 0 ≤ 1
    one_most true = omega arith
    one_most false = omega arith

-- where as many are taken as there are, each is
all_next : (state : State) (n k : ℕ) (b : Bool) → is_taken state n ≡ b → suc n ≤ taken_below state (suc n) → k < suc n → (n ≤ taken_below state n → k < n → is_taken state k ≡ true) →
    is_taken state k ≡ true
all_next state n k false is all low below = absurd (omega (arith, all, taken_more state n, few_below state n, ap {B = ℕ} (λ x. cond x 1 0) is))
all_next state n k true is all low below = elim (cases_lt k n) [
  | inl less ↦ below (omega (arith, all, taken_more state n, ap {B = ℕ} (λ x. cond x 1 0) is)) less
  | inr past ↦ ap (is_taken state) (let same : k ≡ n = omega (arith, past, low) in same) ∙ is
]

all_taken : (state : State) (n k : ℕ) → n ≤ taken_below state n → k < n → is_taken state k ≡ true
all_taken state zero k all low = absurd (omega (arith, low))
all_taken state (suc n) k all low = all_next state n k (is_taken state n) refl all low (all_taken state n k)

lacks_alike : (state : State) → lacks_number state (Some (least_free state)) ≡ lacks_number state None
lacks_alike state = by (nat_le handle_limit (handles_taken state)) refl
  where
    free : IsFree state (least_free state) → lacks_number state (Some (least_free state)) ≡ false
    free h = grind (arith, h.0, h.1, lt-ltb)

    full : handle_limit ≤ handles_taken state → lacks_number state (Some (least_free state)) ≡ true
    full all = elim (cases_lt (least_free state) handle_limit) [
      | inl low ↦ ap not (ap (λ b. nat_lt (least_free state) handle_limit && not b) (all_taken state handle_limit (least_free state) all low) ∙ and-false (nat_lt (least_free state) handle_limit))
      | inr high ↦ ap (λ b. not (b && not (is_taken state (least_free state)))) (le-ltb (least_free state) handle_limit high)
    ]

    by : (b : Bool) → nat_le handle_limit (handles_taken state) ≡ b → lacks_number state (Some (least_free state)) ≡ b
    by false e = free (least_is_free state e)
    by true e = full (leb-true handle_limit (handles_taken state) e)

-- a begin that chooses the least number is one that chooses none
pub least_chosen : (state : State) (actor : ℕ) (call : Call) → next state (step.Begin actor call (Some (least_free state))) ≡ next state (step.Begin actor call None)
unfolding next
least_chosen state actor call = ap (λ d. begin_unless state actor call None d) (reasons_alike (lacks_alike state))
  where
    reasons_alike : lacks_number state (Some (least_free state)) ≡ lacks_number state None →
        begin_denial state actor call (Some (least_free state)) ≡ begin_denial state actor call None
    reasons_alike e = grind (arith, e)
