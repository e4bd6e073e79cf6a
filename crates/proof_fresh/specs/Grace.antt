-- What no root reaches any more can be put back by offers alone.
use Rattle.std.specs.Prelude.{◌≡◌, ℕ, ◌+◌, ◌≤◌, ◌<◌, List, ◌∷◌, ◌++◌, Contains, Some}
use Rattle.proof_fresh.specs.Vocabulary.{Ref, Operation, Descriptor, Bounds, Step, Go, AreBounds, run, next_state, State, operation_of, action_of}
use Rattle.proof_fresh.specs.Beneath.machine_model.specs.Contents.{IsReached}
use Rattle.proof_fresh.specs.Beneath.machine_model.specs.declared.actions.Action.TheVariants as act
use Rattle.proof_fresh.specs.Beneath.proof_memory.specs.Laws.{IsInUse}
use Rattle.proof_garbage.specs.Grace.{IsKnownSince, IsNotPutBack}
use Rattle.proof_garbage.specs.Live.{IsLive}

-- no operation that ran after the steps before offers so that this is known again to roots or to those who began since
abbrev pub IsNotOffered : Bounds → List Step → List Step → Ref → Type 0
IsNotOffered limits before since r =
    (a b : List Step) (actor : ℕ) (operation : Operation) (offer : Descriptor) → since ≡ a ++ Go actor ∷ b → operation_of (run limits (before ++ a)) actor ≡ Some operation →
    operation.id < (run limits before).begun → action_of (run limits (before ++ a)) operation ≡ act.Offer offer → ¬ IsKnownSince (run limits before) (run limits (before ++ a)) r →
    ¬ IsKnownSince (run limits before) (next_state (run limits (before ++ a)) (Go actor)) r

-- no running operation has it private
abbrev pub IsPrivateToNone : State → Ref → Type 0
IsPrivateToNone state r = (actor : ℕ) (operation : Operation) → operation_of state actor ≡ Some operation → ¬ Contains operation.private r

-- what is private to nobody isn't put back by who swaps a main node in
abbrev pub OnlyOffersPutBack : Type 0
OnlyOffersPutBack =
    (limits : Bounds) (before since : List Step) (r : Ref) → AreBounds limits → IsInUse (run limits before).heap r → IsPrivateToNone (run limits before) r → IsNotOffered limits before since r →
    IsNotPutBack limits before since r

-- So what no root reaches, and nobody has private, is dead once the epoch has grown twice, unless an offer puts it back.
abbrev pub DeadAfterTwoEpochs : Type 0
DeadAfterTwoEpochs =
    (limits : Bounds) (before since : List Step) (r : Ref) → AreBounds limits → IsInUse (run limits before).heap r → ¬ IsReached (run limits before) r → IsPrivateToNone (run limits before) r →
    IsNotOffered limits before since r → (run limits before).epoch + 2 ≤ (run limits (before ++ since)).epoch → ¬ IsLive (run limits (before ++ since)) r
