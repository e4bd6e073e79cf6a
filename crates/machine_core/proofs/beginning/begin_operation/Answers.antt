use Rattle.std.proofs.Common.{◌+◌, ◌-◌, ◌<◌, sym, length, ap, ◌∙◌, arith, subst}
use Rattle.std.proofs.lemmas.List.{length-map}
use Rattle.std.specs.Prelude.{slice_get, slice_set}
use Rattle.std.specs.Vec.{with_item}
use Rattle.handle_table.specs.Numbers.{Numbers, running_on}
use Rattle.machine_core.specs.Vocabulary.{Access, handle_of, begun_on}
use Rattle.machine_core.specs.Beneath.rdcss_root.proofs.Rewriting.{ready_less}
use Rattle.machine_core.specs.declared.parts.Parts.{Parts}
use Rattle.machine_core.specs.Beginnings.{Begins}
use Rattle.machine_core.specs.Seen.{operation_seen, seen}
use Rattle.machine_core.proofs.Begins.{BeginsAt, kept_begun, seen_begun}
use Rattle.proof_core.proofs.Bounded.{bounded}
use Rattle.machine_core.proofs.Held.{ready_run}
use Rattle.proof_core.proofs.Given.{begin_stands}
use Rattle.machine_core.proofs.Kept.{at_index}
use Rattle.proof_core.proofs.Reserved.{few_run}
use Rattle.machine_core.proofs.Tied.{pins_within}
use Rattle.machine_core.proofs.beginning.begin_operation.Goals as goal

pub close_handle-requires : goal.close_handle-requires
close_handle-requires c =
    let parts = c.args.parts.now in
    record { ready = ready_less (ready_run parts.heap (seen parts) c.requires.core.run c.requires.core.kept.tied) }

pub pin-requires : goal.pin-requires
pin-requires c =
    let parts = c.args.parts.now in
    let within = pins_within parts.heap parts.table.roots (seen parts).actors c.args.actor _ c.requires.core.kept.tied
    (begin_stands (seen parts) c.args.actor c.args.call c.requires.core.run c.requires.allowed) in
    record { actor = (within.0, omega (arith, within.1, ap length c.close_handle.ensures.moves.keeps.epochs.3)) }

pub index_mut-requires : goal.index_mut-requires
index_mut-requires c =
    let parts = c.args.parts.now in
    let at = begin_stands (seen parts) c.args.actor c.args.call c.requires.core.run c.requires.allowed in
    omega (
      arith,
      at.within,
      length-map parts.actors.items (operation_seen parts.table),
      ap (λ (p : Parts). length p.actors.items) c.close_handle.ensures.same,
      c.close_handle.new.parts.actors.ok.0,
    )

pub note_begin-requires : goal.note_begin-requires
note_begin-requires c =
    let parts = c.args.parts.now in
    subst (λ (n : Numbers). running_on n (handle_of c.args.call) < 255) (sym (ap (λ (p : Parts). p.handles) c.close_handle.ensures.same))
    (few_run parts.handles (seen parts) (handle_of c.args.call) c.requires.core.run c.requires.core.kept.numbers)

pub overflow_add-parts : goal.overflow_add-parts
overflow_add-parts c =
    let few = bounded (seen c.args.parts.now) c.requires.core.run in
    omega (arith, ap (λ (p : Parts). p.begun) c.close_handle.ensures.same, few.begins, few.steps)

-- what it comes to
begins : (c : goal.After-result-1) → BeginsAt c.args.parts.now c.close_handle.new.parts
    (record c.close_handle.new.parts {
      heap = c.pin.new.self;
      table = c.unmark.new.self;
      actors = with_item c.close_handle.new.parts.actors (c.args.actor - 1) c.set_out.new.self;
      handles = c.note_begin.new.handles;
      begun = c.close_handle.new.parts.begun + 1;
    }) c.args.actor c.args.call c.new_under_way-under_way.result
begins c =
    let parts = c.args.parts.now in
    let new = c.new_under_way-under_way.ensures in
    let closed = c.close_handle.ensures in
    let at = begin_stands (seen parts) c.args.actor c.args.call c.requires.core.run c.requires.allowed in
    let there = at_index c.close_handle.new.parts.actors.items (c.args.actor - 1) c.index_mut.result.now
    (omega (arith, at.within, length-map parts.actors.items (operation_seen parts.table), ap (λ (p : Parts). length p.actors.items) closed.same)) c.index_mut.ensures.value in
    record {
      new = record { job = new.job; call_is = new.call; epoch = new.epoch };
      closed = closed.closed;
      same = closed.same;
      words = closed.words;
      moves = closed.moves;
      seated = record {
        was = c.index_mut.result.now;
        is = c.set_out.new.self;
        found = sym (ap (λ (p : Parts). slice_get p.actors.items (c.args.actor - 1)) closed.same) ∙ there;
        set = ap (λ (p : Parts). slice_set p.actors.items (c.args.actor - 1) c.set_out.new.self) closed.same;
        does = subst (λ (a : Access). Begins c.new_under_way-under_way.result a c.index_mut.result.now c.set_out.new.self) c.access_for-access.ensures c.set_out.ensures;
      };
      heap = c.pin.ensures;
      table = c.unmark.ensures;
      rest = ap (λ n. record c.close_handle.new.parts {
        heap = c.pin.new.self;
        table = c.unmark.new.self;
        actors = with_item c.close_handle.new.parts.actors (c.args.actor - 1) c.set_out.new.self;
        handles = c.note_begin.new.handles;
        begun = n + 1;
      }) (ap (λ (p : Parts). p.begun) closed.same);
      numbers = c.note_begin.ensures ∙ ap (λ (p : Parts). begun_on p.handles c.args.call c.new_under_way-under_way.result.job.opens) closed.same;
    }

pub returns-clause-begun : goal.returns-clause-begun
returns-clause-begun c =
    seen_begun c.args.parts.now c.close_handle.new.parts _ c.args.actor c.args.call c.new_under_way-under_way.result (begins c) c.requires.core.kept c.requires.core.run c.requires.allowed

pub returns-clause-kept : goal.returns-clause-kept
returns-clause-kept c =
    kept_begun c.args.parts.now c.close_handle.new.parts _ c.args.actor c.args.call c.new_under_way-under_way.result (begins c) c.requires.core.kept c.requires.core.run c.requires.allowed
