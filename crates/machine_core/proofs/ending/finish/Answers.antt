use Rattle.std.proofs.Common.{◌≡◌, ◌-◌, Some, None, is_some, length, set, refl, sym, ap, ◌∙◌, arith}
use Rattle.std.specs.Vec.{with_item}
use Rattle.std.proofs.lemmas.Bool.{false≢true}
use Rattle.std.proofs.lemmas.Option.{same_Some, slice_get_within}
use Rattle.epochs.specs.Memories.{Memory}
use Rattle.machine_core.specs.Vocabulary.{answer_of, line_for, entrant_of, ended_on}
use Rattle.machine_core.specs.declared.parts.Actor.{Actor}
use Rattle.machine_core.specs.declared.parts.Parts.{Parts}
use Rattle.machine_core.specs.Seen.{operation_at, seen}
use Rattle.machine_core.proofs.Kept.{at_index, operation_there, seat_of}
use Rattle.machine_core.proofs.Left.{EndsAt, held_there, kept_ended, seen_ended}
use Rattle.machine_core.proofs.Tied.{operation_stands, pins_within}
use Rattle.machine_core.proofs.Took.{actor_there}
use Rattle.machine_core.proofs.Whole.{end_told, ends}
use Rattle.machine_core.proofs.Working.{left_little, still}
use Rattle.machine_core.proofs.ending.finish.Goals as goal

pub leave-reply-requires : goal.leave-reply-requires
leave-reply-requires c =
    let parts = c.args.parts.now in
    let seat = seat_of parts c.args.actor c.args.under_way c.requires.runs in
    held_there parts c.args.actor c.args.under_way c.requires.runs c.requires.core.kept c.index_mut.result.now
    (at_index parts.actors.items (c.args.actor - 1) c.index_mut.result.now (slice_get_within parts.actors.items (c.args.actor - 1) seat.found seat.at) c.index_mut.ensures.value)

pub unpin-requires : goal.unpin-requires
unpin-requires c =
    let parts = c.args.parts.now in
    let seat = seat_of parts c.args.actor c.args.under_way c.requires.runs in
    let stands = operation_stands (seen parts) c.args.actor (operation_at parts.table seat.found.programs c.args.under_way) (operation_there parts c.args.actor c.args.under_way seat) in
    let within = pins_within parts.heap parts.table.roots (seen parts).actors c.args.actor _ c.requires.core.kept.tied stands in
    record { actor = (within.0, omega (arith, within.1, ap length c.leave-reply.ensures.epochs.3)) }

pub unreachable-requires : goal.unreachable-requires
unreachable-requires c =
    let parts = c.args.parts.now in
    let seat = seat_of parts c.args.actor c.args.under_way c.requires.runs in
    let at = at_index parts.actors.items (c.args.actor - 1) c.index_mut.result.now (slice_get_within parts.actors.items (c.args.actor - 1) seat.found seat.at) c.index_mut.ensures.value in
    let here = actor_there parts c.args.actor c.args.under_way seat ∙ ap Some (same_Some seat.found c.index_mut.result.now (sym seat.at ∙ at)) in
    false≢true (sym (ap is_some (sym c.leave-reply.ensures.reply ∙ c.in-None.is)) ∙ c.requires.over c.index_mut.result.now here)

-- who left is who stood at the actor's place
same : (c : goal.In-Some) → c.index_mut.result.now ≡ (seat_of c.args.parts.now c.args.actor c.args.under_way c.requires.runs).found
same c =
    let parts = c.args.parts.now in
    let seat = seat_of parts c.args.actor c.args.under_way c.requires.runs in
    let within = slice_get_within parts.actors.items (c.args.actor - 1) seat.found seat.at in
    same_Some c.index_mut.result.now seat.found (sym (at_index parts.actors.items (c.args.actor - 1) c.index_mut.result.now within c.index_mut.ensures.value) ∙ seat.at)

same_read : (c : goal.In-Some) → c.index.result.now ≡ (seat_of c.args.parts.now c.args.actor c.args.under_way c.requires.runs).found
same_read c =
    let parts = c.args.parts.now in
    let seat = seat_of parts c.args.actor c.args.under_way c.requires.runs in
    let within = slice_get_within parts.actors.items (c.args.actor - 1) seat.found seat.at in
    same_Some c.index.result.now seat.found (sym (at_index parts.actors.items (c.args.actor - 1) c.index.result.now within c.index.ensures) ∙ seat.at)

-- what it comes to
ends_at : (c : goal.In-Some) → EndsAt c.args.parts.now
    (record c.args.parts.now { heap = c.unpin.new.self; actors = with_item c.args.parts.now.actors (c.args.actor - 1) c.leave-reply.new.self; handles = c.note_end.new.handles })
    c.args.actor c.args.under_way
ends_at c =
    let left = c.leave-reply.ensures in
    let is = c.unpin.ensures in
    let seat = seat_of c.args.parts.now c.args.actor c.args.under_way c.requires.runs in
    record {
      limits = refl;
      table = refl;
      middle = c.leave-reply.new.heap;
      left = record { was = c.index_mut.result.now; is = c.leave-reply.new.self; found = seat.at ∙ ap Some (sym (same c)); set = refl; does = left.leaves };
      outside = ap (λ (m : Memory). m.outside) is;
      pins = ap (λ (m : Memory). m.pins) is ∙ ap (λ ps. set ps (c.args.actor - 1) None) left.epochs.3;
      heap = ap (λ (m : Memory). m.heap) is ∙ left.heap;
      limbo = ap (λ (m : Memory). m.limbo) is ∙ left.epochs.0;
      epoch = ap (λ (m : Memory). m.epoch) is ∙ left.epochs.1;
      cursor = ap (λ (m : Memory). m.cursor) is ∙ left.epochs.2;
      generations = refl;
      numbers = c.note_end.ensures ∙ ap (ended_on c.args.parts.now.handles c.args.under_way.job.handle) (c.reserved_by-reserved.ensures c.index_mut.result.now.programs);
      begun = refl;
      steps = refl;
    }

pub returns-clause-ended : goal.returns-clause-ended
returns-clause-ended c =
    let parts = c.args.parts.now in
    let u = c.args.under_way in
    let seat = seat_of parts c.args.actor u c.requires.runs in
    let after : Parts =
    record parts { heap = c.unpin.new.self; actors = with_item parts.actors (c.args.actor - 1) c.leave-reply.new.self; handles = c.note_end.new.handles } in
    ends parts after c.args.actor (operation_at parts.table seat.found.programs u) (operation_there parts c.args.actor u seat)
    (record { entrant = c.entrant-entrant.result; reply = c.in-Some.reply })
    (ap (λ (a : Actor). answer_of (line_for u.program a.programs)) (sym (same c)) ∙ sym c.leave-reply.ensures.reply ∙ c.in-Some.is)
    (c.entrant-entrant.ensures parts.table ∙ ap (λ (a : Actor). entrant_of (operation_at parts.table a.programs u)) (same_read c))
    (seen_ended parts after c.args.actor u (ends_at c))

pub returns-clause-tells : goal.returns-clause-tells
returns-clause-tells c =
    let parts = c.args.parts.now in
    let u = c.args.under_way in
    let seat = seat_of parts c.args.actor u c.requires.runs in
    let after : Parts =
    record parts { heap = c.unpin.new.self; actors = with_item parts.actors (c.args.actor - 1) c.leave-reply.new.self; handles = c.note_end.new.handles } in
    end_told parts after c.args.actor (operation_at parts.table seat.found.programs u) (operation_there parts c.args.actor u seat)
    (record { entrant = c.entrant-entrant.result; reply = c.in-Some.reply })
    (ap (λ (a : Actor). answer_of (line_for u.program a.programs)) (sym (same c)) ∙ sym c.leave-reply.ensures.reply ∙ c.in-Some.is)
    (c.entrant-entrant.ensures parts.table ∙ ap (λ (a : Actor). entrant_of (operation_at parts.table a.programs u)) (same_read c))
    (seen_ended parts after c.args.actor u (ends_at c))

pub returns-clause-kept : goal.returns-clause-kept
returns-clause-kept c = kept_ended c.args.parts.now _ c.args.actor c.args.under_way (ends_at c) c.requires.runs c.requires.core.run c.requires.core.kept

pub returns-clause-work : goal.returns-clause-work
unfolding ends_at
returns-clause-work c =
    let is = c.unpin.ensures in
    left_little c.args.parts.now c.args.actor c.args.under_way c.leave-reply.new.heap c.unpin.new.self _ c.requires.runs (ends_at c).left
    (still c.leave-reply.new.heap c.unpin.new.self (ap (λ (m : Memory). m.limbo) is) (ap (λ (m : Memory). m.noted) is) (ap (λ (m : Memory). m.ticks) is))
