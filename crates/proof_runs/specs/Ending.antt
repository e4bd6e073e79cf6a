-- Operations and calls that are sure to end where their actor alone takes steps.
use Rattle.std.specs.Prelude.{◌≡◌, ◌≢◌, ℕ, zero, suc, ◌+◌, ◌≤◌, ◌⊎◌, length, Option, Some, None, Result, Ok, Err}
use Rattle.proof_runs.specs.Vocabulary.{Refusal, Call, Reply, NoSlots, Operation, Step, Go, begin_denial, State, operation_of, IsNoWalk, slots_of, most_steps_alone}
use Rattle.proof_runs.specs.Beneath.ctrie_base.specs.declared.refusals.Refusal.TheVariants.{Memory}
use Rattle.proof_runs.specs.Machines.{Taken, state_of, with_step, IsTaken}

-- such a call, while so many steps are left
abbrev pub IsSure : State → Call → ℕ → Type 0
IsSure state call steps = IsNoWalk call × (state.steps + steps ≤ state.limits.steps)

-- There is a reply, or a refusal: why the begin is denied, or want of memory. It isn't answered that the operation still runs.
abbrev pub IsAnswer : Option Refusal → Result (Option Reply) Refusal → Type 0
IsAnswer denial (Ok (Some answer)) = Unit {0}
IsAnswer denial (Ok None) = ⊥
IsAnswer denial (Err refusal) = (denial ≡ Some refusal) ⊎ (refusal ≡ Memory)

-- a call that is sure to end is answered, where its begin and the most steps that it takes alone are left
abbrev pub CompletesIfSure : Taken → ℕ → Call → Result (Option Reply) Refusal → Type 0
CompletesIfSure machine actor call result = IsSure (state_of machine) call (1 + most_steps_alone) → IsAnswer (begin_denial (state_of machine) actor call None) result

-- the same of the operation that the actor runs, without a begin
abbrev pub ResumesIfSure : Taken → ℕ → Result (Option Reply) Refusal → Type 0
ResumesIfSure machine actor result =
    (operation : Operation) → operation_of (state_of machine) actor ≡ Some operation → IsSure (state_of machine) operation.call most_steps_alone → IsAnswer None result

-- ---- slots

-- a call that is sure to end isn't refused for want of slots where so many are free
abbrev pub IsSpared : Taken → Call → Result (Option Reply) Refusal → Type 0
IsSpared machine call result = IsSure (state_of machine) call (1 + most_steps_alone) → slots_of call ≤ length (state_of machine).heap.free → result ≢ Ok (Some NoSlots)

-- ---- step by step

-- so many steps of the actor alone, none of which is denied, end its operation
unfoldable pub EndsIn : ℕ → ℕ → Taken → Type 0
EndsIn zero actor machine = operation_of (state_of machine) actor ≡ None
EndsIn (suc n) actor machine = IsTaken (state_of machine) (Go actor) × EndsIn n actor (with_step machine (Go actor))

-- an operation that is sure to end does so in so many steps of its actor alone: 3,962 at most
abbrev pub EndsIfSure : Taken → ℕ → Type 0
EndsIfSure machine actor =
    (operation : Operation) → operation_of (state_of machine) actor ≡ Some operation → IsSure (state_of machine) operation.call most_steps_alone →
    (n : ℕ) × (n ≤ most_steps_alone) × EndsIn n actor machine

-- once the actor has taken one of them, it is one less
abbrev pub IsNearer : Taken → Step → Taken → Type 0
IsNearer before step after = (actor n : ℕ) → step ≡ Go actor → EndsIn (suc n) actor before → EndsIn n actor after
