-- How little the parts of a step note and look at, and what that makes of the whole step.
use Rattle.std.proofs.Common.{arith, ◌≡◌, ℕ, ◌+◌, ◌-◌, ◌*◌, ◌≤◌, List, [], length, drop, Option, Some, None, refl, sym, ap, subst, ◌∙◌}
use Rattle.std.specs.Prelude.{slice_get}
use Rattle.std.proofs.lemmas.Option.{same_Some}
use Rattle.epochs.specs.Memories.{reclaimer_of}
use Rattle.machine_core.specs.Vocabulary.{TakesUpTo, Swept, Zeroed, limbo_after, newly_zero, freed_by, staying, swept_once, Operation, refs_of_operation, State, operation_of, Taken}
use Rattle.machine_core.specs.Vocabulary.{IsOfRun, NotesUpTo, WorksLittle, WorksUpTo, crossing, held_by, ticks_of_a_step}
use Rattle.epochs.specs.declared.limbo.Swept.TheVariants as swept
use Rattle.epochs.specs.Memories.{Memory}
use Rattle.machine_core.specs.Beneath.proof_operations.proofs.Privates.{privates_short}
use Rattle.machine_core.specs.declared.parts.Actor.{Actor}
use Rattle.machine_core.specs.declared.parts.Parts.{Parts}
use Rattle.machine_core.specs.declared.parts.UnderWay.{UnderWay}
use Rattle.machine_core.specs.Beginnings.{Leaves}
use Rattle.machine_core.specs.Going.{Steps}
use Rattle.machine_core.specs.Keeping.{Replaces}
use Rattle.machine_core.specs.Seen.{operation_at, seen, under_way_of}
use Rattle.machine_core.specs.Work.{ActsLittle, ticks_of_a_sweep, worked}
use Rattle.proof_core.proofs.Crossing.{sweeping_pays}
use Rattle.machine_core.proofs.Ends.{left}
use Rattle.machine_core.proofs.Kept.{operation_there, seat_of}

-- ---- parts of a step

-- limbo, notes and ticks are as before
pub still : (before after : Memory) → after.limbo ≡ before.limbo → after.noted ≡ before.noted → after.ticks ≡ before.ticks → NotesUpTo 0 0 before after
still before after limbo noted ticks = record { limbo = limbo; few = omega (arith, ap length noted); ticks = (omega (arith, ticks), omega (arith, ticks)) }

-- how many the actor's operation holds
held_there : (parts : Parts) (actor : ℕ) (u : UnderWay) → under_way_of parts actor ≡ Some u → (i : ℕ) (P : Actor → Actor → Type 0) (after : List Actor) → i ≡ actor - 1 →
    (r : Replaces parts.actors.items i P after) → held_by (seen parts) actor ≡ length r.was.programs.key.work.private
held_there parts actor u runs i P after at r =
    let seat = seat_of parts actor u runs in
    let found = subst (λ (k : ℕ). slice_get parts.actors.items k ≡ Some r.was) at r.found in
    ap (λ o. length (refs_of_operation o)) (operation_there parts actor u seat)
    ∙ ap (λ (a : Actor). length a.programs.key.work.private) (same_Some seat.found r.was (sym seat.at ∙ found))

-- never more than 33
pub held_few : (state : State) → IsOfRun state → (actor : ℕ) → held_by state actor ≤ 33
held_few state run actor = by (operation_of state actor) refl
  where
    by : (found : Option Operation) → operation_of state actor ≡ found → length (refs_of_operation found) ≤ 33
    by None is = omega arith
    by (Some operation) is = privates_short state.limits run.steps actor operation (subst (λ s. operation_of s actor ≡ Some operation) run.is is)

-- a step of the programs
pub steps_little : (before after : Parts) (actor : ℕ) (u : UnderWay) (taken : Taken) → under_way_of before actor ≡ Some u → Steps before actor u taken after → ActsLittle before actor after
steps_little before after actor u taken runs steps =
    let seat = seat_of before actor u runs in
    let held = held_there before actor u runs (actor - 1) _ _ refl steps.actors in
    let acts = (steps.actors.does.does.changes (seen before) (operation_at before.table seat.found.programs u)).acts in
    record { limbo = acts.epochs.0; few = omega (arith, acts.few, held); ticks = (acts.ticks.0, omega (arith, acts.ticks.1, held)) }

-- an end
pub left_little : (before : Parts) (actor : ℕ) (u : UnderWay) (middle after : Memory) (actors : List Actor) → under_way_of before actor ≡ Some u →
    Replaces before.actors.items (actor - 1) (Leaves before.heap middle) actors → NotesUpTo 0 0 middle after →
    NotesUpTo (32 + held_by (seen before) actor) (36 + held_by (seen before) actor) before.heap after
left_little before actor u middle after actors runs r same =
    let held = held_there before actor u runs (actor - 1) _ _ refl r in
    let work = r.does.work in
    record {
      limbo = same.limbo ∙ work.limbo;
      few = omega (arith, same.few, work.few, held);
      ticks = (omega (arith, same.ticks.0, work.ticks.0), omega (arith, same.ticks.1, work.ticks.1, held));
    }

-- ---- the whole step

pub settled_little : (most looks : ℕ) (before middle after : Memory) → before.noted ≡ [] → NotesUpTo most looks before middle →
    WorksUpTo (3 * length middle.noted) middle.ticks middle.limbo after.ticks after.limbo → WorksUpTo (looks + 3 * most) before.ticks before.limbo after.ticks after.limbo
settled_little most looks before middle after none little works = (
  omega (arith, little.ticks.0, works.0),
  omega (arith, works.1, little.few, little.ticks.1, ap length none, ap (λ l. crossing l after.limbo) little.limbo),
)

pub weaker : (few many work work' : ℕ) (limbo limbo' : List Zeroed) → few ≤ many → WorksUpTo few work limbo work' limbo' → WorksUpTo many work limbo work' limbo'
weaker few many work work' limbo limbo' less works = (works.0, omega (arith, works.1, less))

-- a step of an operation
pub operation_little : (before middle after : Parts) (actor : ℕ) → IsOfRun (seen before) → before.heap.noted ≡ [] → ActsLittle before actor middle →
    WorksUpTo (3 * length middle.heap.noted) middle.heap.ticks middle.heap.limbo after.heap.ticks after.heap.limbo → WorksLittle (worked before) (worked after)
operation_little before middle after actor run none little works =
    let held = held_by (seen before) actor in
    weaker (36 + held + 3 * (32 + held)) ticks_of_a_step before.heap.ticks after.heap.ticks before.heap.limbo after.heap.limbo (omega (arith, held_few (seen before) run actor))
    (settled_little (32 + held) (36 + held) before.heap middle.heap after.heap none little works)

one_freed : (did : Swept) → freed_by did ≤ 1
one_freed (swept.Scanned passed) = omega arith
one_freed (swept.Advanced epoch) = omega arith
one_freed swept.Freed = omega arith

-- a step of the sweep, whose freed slot leaves limbo before it is settled
pub swept_little : (before middle after : Memory) (did : Swept) →
    (did, record { heap = middle.heap; limbo = before.limbo; epoch = middle.epoch; cursor = middle.cursor }) ≡ swept_once before.pins (reclaimer_of before) →
    middle.limbo ≡ drop (freed_by did) before.limbo → length middle.noted ≤ 33 → TakesUpTo 43 before.ticks middle.ticks →
    after.limbo ≡ limbo_after middle.heap middle.outside middle.epoch middle.limbo → middle.ticks ≤ after.ticks →
    after.ticks + 12 * length (staying middle.heap middle.outside middle.limbo)
    ≤ middle.ticks + 3 * length middle.noted + 12 * length middle.limbo + 12 * length (newly_zero middle.heap middle.outside middle.limbo) →
    WorksUpTo ticks_of_a_sweep before.ticks before.limbo after.ticks after.limbo
swept_little before middle after did done left_out few ticks settled rises takes =
    let shorter : after.limbo ≡ limbo_after middle.heap middle.outside middle.epoch (drop (freed_by did) before.limbo) =
    settled ∙ ap (limbo_after middle.heap middle.outside middle.epoch) left_out in
    let whole : after.limbo ≡ limbo_after middle.heap middle.outside middle.epoch before.limbo =
    shorter ∙ left before.pins (reclaimer_of before) middle.outside did (record { heap = middle.heap; limbo = before.limbo; epoch = middle.epoch; cursor = middle.cursor }) done in
    let paid = sweeping_pays middle.heap middle.outside middle.epoch before.limbo after.limbo middle.ticks after.ticks (length middle.noted) (freed_by did) (one_freed did) shorter whole
    (subst
    (λ (l : List Zeroed). after.ticks + 12 * length (staying middle.heap middle.outside l)
    ≤ middle.ticks + 3 * length middle.noted + 12 * length l + 12 * length (newly_zero middle.heap middle.outside l)) left_out takes) in
    (omega (arith, ticks.0, rises), omega (arith, paid, few, ticks.1))
