use Rattle.std.proofs.Common.{sym, ◌∙◌}
use Rattle.lock_free.proofs.KeyFound.{answers, sets}
use Rattle.lock_free.proofs.descending.at_key.Goals as goal

pub returns-in-Answers-clause-found : goal.returns-in-Answers-clause-found
returns-in-Answers-clause-found c =
    answers c.args.actor.now.me.0 c.args.call c.args.path.now c.args.given c.args.position c.args.value c.requires.at c.in-Answers.reply (sym c.in-Answers.is ∙ c.when_found.ensures)

pub returns-in-Sets-clause-found : goal.returns-in-Sets-clause-found
returns-in-Sets-clause-found c =
    sets c.args.actor.now.me.0 c.args.call c.args.path.now c.args.given c.args.position c.args.value c.requires.at (sym c.in-Sets.is ∙ c.when_found.ensures)
