-- What is to be done with the seats so far was done.
use Rattle.std.proofs.Common.{◌≡◌, ◌++◌}
use Rattle.ctrie_commands.specs.Beneath.script_text.specs.Views.{read}
use Rattle.ctrie_commands.specs.Working.{HaveWorked}
use Rattle.ctrie_commands.proofs.groups.work_group.Given as goal

abbrev pub invariant-loop-seat : goal.invariant-loop-seat
invariant-loop-seat g l = record {
  done : HaveWorked (read l.fn.script) l.yielded l.workers.items;
  left : l.fn.group.items ≡ l.yielded ++ l.seat-iterator.rest.items;
}
