-- In a run, an operation's programs can take its next step.
use Rattle.std.proofs.Common.{arith, ◌≡◌, ℕ, ◌-◌, ◌<◌, length, Option, Some, sym, ap, subst, ◌∙◌}
use Rattle.std.specs.Prelude.{option_and_then, slice_get}
use Rattle.std.proofs.lemmas.Option.{same_Some}
use Rattle.machine_core.specs.Vocabulary.{HashKind, IsLive, node_at, Operation, run, action_of, State, operation_of, IsInUse, action_wants, line_wants, CanStep, at_scene, scene, IsBounded, IsOfRun}
use Rattle.machine_model.proofs.Along.{limits_along}
use Rattle.machine_core.specs.Beneath.proof_memory.proofs.Claims.Uses.{all_carried, same_node}
use Rattle.machine_core.specs.Beneath.proof_memory.proofs.Holding.Lives.{in_use_lives}
use Rattle.machine_core.specs.Beneath.proof_memory.proofs.Safety.AtEachTime.{safe_along}
use Rattle.machine_core.specs.Beneath.proof_memory.proofs.Safety.AtTimes.{line_finds_in}
use Rattle.machine_core.specs.declared.parts.Actor.{Actor}
use Rattle.machine_core.specs.declared.parts.Parts.{Parts}
use Rattle.machine_core.specs.declared.parts.UnderWay.{UnderWay}
use Rattle.machine_core.specs.Keeping.{IsKept, IsSeated}
use Rattle.machine_core.specs.Seen.{actor_of, operation_at, operation_seen, seen, under_way_of}
use Rattle.machine_core.proofs.Able.{can_step}
use Rattle.proof_core.proofs.Bounded.{bounded}
use Rattle.proof_core.proofs.Claims.{Lives}
use Rattle.machine_core.specs.Beneath.proof_operations.specs.Laws.{MakesNode}
use Rattle.machine_core.proofs.Held.{few_held}
use Rattle.proof_core.proofs.Given.{claims, room_left}
use Rattle.machine_core.proofs.Kept.{Seat, operation_there, seat_of, found_operation}
use Rattle.machine_core.proofs.Tied.{operation_stands, private_held}

-- what a running operation's line takes its references for
pub line_claims : (state : State) (actor : ℕ) (operation : Operation) → IsOfRun state → operation_of state actor ≡ Some operation →
    Lives state.heap (line_wants state.limits.hash operation.call operation.access operation.line)
line_claims state actor operation h found =
    subst (λ (s : State). operation_of s actor ≡ Some operation → Lives s.heap (line_wants state.limits.hash operation.call operation.access operation.line)) (sym h.is) along found
  where
    along : operation_of (run state.limits h.steps) actor ≡ Some operation →
        Lives (run state.limits h.steps).heap (line_wants state.limits.hash operation.call operation.access operation.line)
    along e =
        let heap = (run state.limits h.steps).heap in
        all_carried (IsInUse heap) heap (IsLive heap) heap (λ r used. (in_use_lives heap r used, same_node (node_at heap r)))
        (line_wants state.limits.hash operation.call operation.access operation.line)
        (line_finds_in (run state.limits h.steps) (safe_along state.limits h.limits h.steps) state.limits (limits_along state.limits h.steps) actor operation e)

-- the hashes of an actor's programs are the machine's
pub there_is : (parts : Parts) (i : ℕ) (actor : Actor) → IsSeated parts.limits.hash i actor →
    at_scene (seen parts) (scene parts.heap parts.table parts.generations actor.programs) ≡ seen parts
there_is parts i actor seated = ap (λ (h : HashKind). record (seen parts) { limits = record parts.limits { hash = h } }) seated.hashes_are

can_there : (parts : Parts) (actor : ℕ) (u : UnderWay) → IsOfRun (seen parts) → IsKept parts → (seat : Seat parts actor u) →
    CanStep (scene parts.heap parts.table parts.generations seat.found.programs) u.program
can_there parts actor u h kept seat =
    let operation : Operation = operation_at parts.table seat.found.programs u in
    let found : operation_of (seen parts) actor ≡ Some operation = operation_there parts actor u seat in
    let seated : IsSeated parts.limits.hash (actor - 1) seat.found = kept.seats (actor - 1) seat.found seat.at in
    let there = there_is parts (actor - 1) seat.found seated in
    let bounds : IsBounded (seen parts) = bounded (seen parts) h in
    let at = operation_stands (seen parts) actor operation found in
    let attempt = bounds.attempts actor operation found in
    can_step (seen parts) parts.heap parts.table parts.generations seat.found.programs u
    (subst (λ (s : State). Lives parts.heap.heap (line_wants s.limits.hash operation.call operation.access operation.line)) (sym there) (line_claims (seen parts) actor operation h found))
    (subst (λ (s : State). Lives parts.heap.heap (action_wants (action_of s operation))) (sym there) (claims (seen parts) actor operation h found))
    (room_left (seen parts) actor operation h found).0
    (subst (λ (s : State). MakesNode (action_of s operation) → length operation.private < 33) (sym there) (room_left (seen parts) actor operation h found).1)
    (seated.sound u seat.runs)
    (record {
      held = λ r. private_held parts.heap parts.table.roots (seen parts).actors actor operation kept.tied at r;
      room = λ r. omega (arith, few_held parts.heap (seen parts) h kept.tied r);
    })
    (omega (arith, bounds.births, bounds.steps, bounds.slots))
    (omega (arith, attempt, bounds.steps))
    (omega (arith, bounds.generations, bounds.steps))

module _ (parts : Parts) (actor : ℕ) (u : UnderWay) (h : IsOfRun (seen parts)) (kept : IsKept parts) (runs : under_way_of parts actor ≡ Some u) (found : Actor)
    (at : slice_get parts.actors.items (actor - 1) ≡ Some found) where
  pub can : CanStep (scene parts.heap parts.table parts.generations found.programs) u.program
  can =
      let seat = seat_of parts actor u runs in
      let same : seat.found ≡ found = same_Some seat.found found (sym seat.at ∙ at) in
      subst (λ (a : Actor). CanStep (scene parts.heap parts.table parts.generations a.programs) u.program) same (can_there parts actor u h kept seat)

-- what the owner of this number runs
pub owner_runs : (parts : Parts) (n owner : ℕ) (found : Option Actor) → actor_of parts n ≡ found → n ≡ owner → operation_of (seen parts) owner ≡ option_and_then (operation_seen parts.table) found
owner_runs parts n owner found at is = ap (operation_of (seen parts)) (sym is) ∙ found_operation parts n ∙ ap (option_and_then (operation_seen parts.table)) at
