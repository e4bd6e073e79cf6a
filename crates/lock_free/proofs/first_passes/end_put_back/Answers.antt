use Rattle.std.proofs.Common.{refl}
use Rattle.lock_free.specs.declared.reading.Passed.TheVariants as passed
use Rattle.lock_free.proofs.first_passes.end_put_back.Goals as goal

pub end_on-requires-clause-way : goal.end_on-requires-clause-way
end_on-requires-clause-way c = (c.requires.next (passed.Again c.in-Again.next) c.put_back.new.actor.me.0 c.put_back.ensures.sound (c.in-Again.ensures {u = tt}).passed).0

pub end_on-requires-clause-passing : goal.end_on-requires-clause-passing
end_on-requires-clause-passing c = (c.requires.next (passed.Again c.in-Again.next) c.put_back.new.actor.me.0 c.put_back.ensures.sound (c.in-Again.ensures {u = tt}).passed).1

pub returns-in-Gives-clause-ended : goal.returns-in-Gives-clause-ended
returns-in-Gives-clause-ended c =
    (passed.Gives c.in-Gives.field-0, c.put_back.new.actor.me.0, c.put_back.ensures.sound, (c.in-Gives.ensures {u = tt}).passed, (refl, refl))

pub returns-in-Again-clause-ended : goal.returns-in-Again-clause-ended
returns-in-Again-clause-ended c =
    (passed.Again c.in-Again.next, c.put_back.new.actor.me.0, c.put_back.ensures.sound, (c.in-Again.ensures {u = tt}).passed, c.end_on.ensures.ended)
