use Rattle.ctrie_words.proofs.Building.{program_built}
use Rattle.ctrie_words.proofs.arguments.program.Goals as goal

pub returns : goal.returns
returns c =
    program_built _ _ _ _ _ _ _ _ c.new.ensures.app c.subcommand_required-command.ensures c.in_ok-command.ensures c.in_ok-command-2.ensures c.in_ok-command-3.ensures
    c.in_ok-command-4.ensures c.in_ok-command-5.ensures c.with_steps.ensures
