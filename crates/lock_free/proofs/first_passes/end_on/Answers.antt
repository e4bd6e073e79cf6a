use Rattle.lock_free.proofs.first_passes.end_on.Goals as goal

pub returns-in-Gives-clause-ended : goal.returns-in-Gives-clause-ended
returns-in-Gives-clause-ended c = (c.in-Gives.field-0, (c.in-Gives.ensures {u = tt}).passed)

pub returns-in-Again-clause-ended : goal.returns-in-Again-clause-ended
returns-in-Again-clause-ended c = (c.in-Again.ensures {u = tt}).passed
