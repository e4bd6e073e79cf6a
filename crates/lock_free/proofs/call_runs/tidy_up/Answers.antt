use Rattle.lock_free.proofs.CellStock.{given_none}
use Rattle.lock_free.proofs.LetGo.{more_reclaimed, none_reclaimed}
use Rattle.lock_free.proofs.call_runs.tidy_up.Goals as goal

pub returns-then-not-is_due-clause-tidied : goal.returns-then-not-is_due-clause-tidied
returns-then-not-is_due-clause-tidied c =
    let v = c.args.actor.now.me.0 in
    (v, none_reclaimed v, given_none v)

pub returns-then-has_to_give-clause-tidied : goal.returns-then-has_to_give-clause-tidied
returns-then-has_to_give-clause-tidied c =
    let (mid, gathered, given) = c.give_over.ensures.tidied in
    (mid, more_reclaimed c.args.actor.now.me.0 c.make_free.new.actor.me.0 mid c.make_free.ensures.reclaimed gathered, given)
