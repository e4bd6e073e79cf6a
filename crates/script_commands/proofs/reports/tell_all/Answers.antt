use Rattle.std.proofs.Common.{◌≡◌, [], drop, sym, ◌∙◌}
use Rattle.std.proofs.lemmas.List.{drop_all}
use Rattle.std.specs.String.{string_bytes}
use Rattle.script_commands.specs.Recorded.{recorded_in}
use Rattle.script_commands.proofs.Telling.{carried_more, told_more, carried_all, told_all}
use Rattle.script_commands.proofs.reports.tell_all.Goals as goal

pub loop-command-preserved : goal.loop-command-preserved
loop-command-preserved c = record {
  carried = sym (
      carried_more c.args.commands.now c.loop-command.command-index _ (recorded_in c.loop-command.machine) (recorded_in c.tell.new.machine)
      c.loop-command-test.true c.in_ok-tell.ensures.state) ∙ c.loop-command.invariant.carried;
  told = sym (
      told_more c.args.commands.now c.loop-command.command-index _ (recorded_in c.loop-command.machine) (recorded_in c.tell.new.machine) (string_bytes c.loop-command.text)
      (string_bytes c.tell.new.text) c.loop-command-test.true c.in_ok-tell.ensures.state c.in_ok-tell.ensures.text) ∙ c.loop-command.invariant.told;
}

pub returns-clause-state : goal.returns-clause-state
returns-clause-state c =
    let none : drop c.loop-command.command-index c.args.commands.now ≡ [] = drop_all c.loop-command.command-index c.args.commands.now c.loop-command-test.false in
    sym (carried_all (recorded_in c.loop-command.machine)) ∙ (rw none at c.loop-command.invariant.carried)

pub returns-clause-text : goal.returns-clause-text
returns-clause-text c =
    let none : drop c.loop-command.command-index c.args.commands.now ≡ [] = drop_all c.loop-command.command-index c.args.commands.now c.loop-command-test.false in
    sym (told_all (recorded_in c.loop-command.machine) (string_bytes c.loop-command.text)) ∙ (rw none at c.loop-command.invariant.told)
