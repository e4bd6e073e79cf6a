-- What is below a fresh main node that is about to be swapped in, for every list of steps.
use Rattle.std.specs.Prelude.{◌≡◌, ◌⊎◌, ℕ, List, Contains, Some}
use Rattle.proof_fresh.specs.Vocabulary.{Ref, Operation, Purpose, Bounds, Step, AreBounds, run, operation_of}
use Rattle.proof_fresh.specs.Beneath.machine_model.specs.Swapping.{swapping}
use Rattle.proof_fresh.specs.Beneath.machine_model.specs.declared.lines.Line.TheVariants as line
use Rattle.proof_garbage.specs.Live.{IsBelow}

-- what is below a main node that an operation is about to swap in is below the one that it is to replace, or private to the operation
abbrev pub FreshIsBelow : Type 0
FreshIsBelow =
    (limits : Bounds) (steps : List Step) (actor : ℕ) (operation : Operation) (why : Purpose) (indirection replaced fresh x : Ref) → AreBounds limits →
    operation_of (run limits steps) actor ≡ Some operation → operation.line ≡ line.Swap why (swapping indirection replaced fresh) → IsBelow (run limits steps).heap fresh x →
    IsBelow (run limits steps).heap replaced x ⊎ Contains operation.private x
