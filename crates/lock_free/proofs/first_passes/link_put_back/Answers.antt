use Rattle.lock_free.proofs.first_passes.link_put_back.Goals as goal

pub link_after-requires-clause-next : goal.link_after-requires-clause-next
link_after-requires-clause-next c = c.requires.next c.put_back-passed.result c.put_back-passed.new.actor.me.0 c.put_back-passed.ensures.sound c.put_back-passed.ensures.passed

pub returns-clause-link : goal.returns-clause-link
returns-clause-link c = (c.put_back-passed.result, c.put_back-passed.new.actor.me.0, c.put_back-passed.ensures.sound, c.put_back-passed.ensures.passed, c.link_after.ensures.link)
