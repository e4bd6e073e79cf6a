-- How often references are held in a state of a run.
use Rattle.std.proofs.Common.{◌≡◌, suc, ◌<◌, ◌≤◌, ◌^◌, get_or, Option, Some, None, refl, arith}
use Rattle.machine_core.specs.Vocabulary.{Ref, times, Operation, State, refs_of_root, refs_of_operation, IsOfRun}
use Rattle.epochs.specs.Memories.{Memory}
use Rattle.machine_core.specs.Beneath.rdcss_root.specs.Holding.{IsReady}
use Rattle.machine_core.specs.Ties.{IsTied}
use Rattle.machine_core.proofs.Tying.{times_most, root_few}
use Rattle.proof_core.proofs.Given.{private_once, sizes}

operation_few : (r : Ref) (found : Option Operation) → ((operation : Operation) → found ≡ Some operation → times r operation.private ≤ 1) → times r (refs_of_operation found) ≤ 1
operation_few r None each = omega arith
operation_few r (Some operation) each = each operation refl

pub few_held : (memory : Memory) (state : State) → IsOfRun state → IsTied memory state.roots state.actors → (r : Ref) → times r memory.outside < 2 ^ 30
few_held memory state h tied r =
    let (roots, actors) = sizes state h in
    let in_roots = times_most r refs_of_root state.roots None 4 (λ i. root_few r (get_or state.roots i None)) in
    let in_privates = times_most r refs_of_operation state.actors None 1 (λ i. operation_few r (get_or state.actors i None) (λ operation e. private_once state h (suc i) operation r e)) in
    omega (arith, tied.held r, in_roots, in_privates, roots, actors, h.actors)

pub ready_run : (memory : Memory) (state : State) → IsOfRun state → IsTied memory state.roots state.actors → IsReady memory state.roots 8
ready_run memory state h tied = record { held = λ r. omega (arith, tied.held r); room = λ r. omega (arith, few_held memory state h tied r) }
