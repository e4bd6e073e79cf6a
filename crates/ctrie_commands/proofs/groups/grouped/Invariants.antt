-- The seats so far are those of the groups, and of the one that is begun.
use Rattle.std.proofs.Common.{◌≡◌, ◌++◌}
use Rattle.std.specs.Prelude.{All}
use Rattle.ctrie_commands.specs.Beneath.script_text.specs.Views.{read}
use Rattle.ctrie_commands.specs.Working.{HasWork, IsGroup, all_seats}
use Rattle.ctrie_commands.proofs.groups.grouped.Given as goal

abbrev pub invariant-loop-seat : goal.invariant-loop-seat
invariant-loop-seat l = record {
  so_far : all_seats l.groups.items ++ l.group.items ≡ l.yielded;
  apart : All (λ group. IsGroup (read l.fn.script) group.items) l.groups.items;
  idle : All (λ seat. ¬ HasWork (read l.fn.script) seat.actor) l.group.items;
  left : l.fn.seats.items ≡ l.yielded ++ l.seat-iterator.rest.items;
}
