use Rattle.std.proofs.Common.{List, [], ◌∷◌, refl, ap, ◌∙◌}
use Rattle.machine_core.specs.Vocabulary.{ref_to, Ref, Heap, limbo_after, first_heap}
use Rattle.machine_core.proofs.Starts.{AreFirst, first_limbo, kept_first, seen_first}
use Rattle.machine_core.proofs.starting.first_parts.Goals as goal

pub first_table-requires-clause-limbo : goal.first_table-requires-clause-limbo
first_table-requires-clause-limbo c =
    let m = c.in_ok-heap.heap in
    let is = c.in_ok-heap.ensures in
    let heap : Heap = first_heap c.args.bounds.slots in
    let held : List Ref = ref_to 2 1 ∷ [] in
    ap (λ h. limbo_after h m.outside m.epoch m.limbo) is.heap ∙ ap (λ o. limbo_after heap o m.epoch m.limbo) is.outside
    ∙ ap (λ e. limbo_after heap held e m.limbo) is.epoch ∙ ap (limbo_after heap held 0) is.limbo ∙ first_limbo c.args.bounds.slots c.requires.0.0

-- the parts are those of a machine that has taken no step
first : (c : goal.In_ok-handles) → AreFirst c.args.bounds (record {
  limits = c.args.bounds;
  heap = c.first_table.new.heap;
  generations = 1;
  table = c.in_ok-table.table;
  actors = c.in_ok-actors.actors;
  handles = c.in_ok-handles.handles;
  steps = 0;
  begun = 0;
  alloc = c.args.alloc;
})
first c =
    let memory = c.in_ok-heap.ensures in
    let table = c.in_ok-table.ensures in
    record {
      limits_are = refl;
      heap = table.heap ∙ memory.heap;
      limbo = table.limbo;
      epoch = table.epochs.0 ∙ memory.epoch;
      cursor = table.epochs.1 ∙ memory.cursor;
      pins = table.epochs.2 ∙ memory.pins;
      held = table.held;
      generations = refl;
      table = table.table;
      actors = c.in_ok-actors.ensures;
      handles = c.in_ok-handles.ensures;
      steps = refl;
      begun = refl;
    }

pub returns-clause-first : goal.returns-clause-first
returns-clause-first c = seen_first c.args.bounds _ (first c)

pub returns-clause-kept : goal.returns-clause-kept
returns-clause-kept c = kept_first c.args.bounds _ (first c)
