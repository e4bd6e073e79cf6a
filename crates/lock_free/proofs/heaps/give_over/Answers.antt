use Rattle.lock_free.proofs.CellStock.{reclaimed_unopened}
use Rattle.lock_free.proofs.LetGo.{more_reclaimed}
use Rattle.lock_free.proofs.heaps.give_over.Goals as goal

pub give_all-requires-clause-unopened : goal.give_all-requires-clause-unopened
give_all-requires-clause-unopened c =
    let v = c.args.actor.now.me.0 in
    let first = c.gather.new.actor.me.0 in
    let second = c.gather-2.new.actor.me.0 in
    reclaimed_unopened second c.gather-3.new.actor.me.0 c.gather-3.ensures.gathered
    (reclaimed_unopened first second c.gather-2.ensures.gathered (reclaimed_unopened v first c.gather.ensures.gathered c.requires.unopened))

pub returns-clause-tidied : goal.returns-clause-tidied
returns-clause-tidied c =
    let v = c.args.actor.now.me.0 in
    let first = c.gather.new.actor.me.0 in
    let second = c.gather-2.new.actor.me.0 in
    let third = c.gather-3.new.actor.me.0 in
    (third, more_reclaimed v second third (more_reclaimed v first second c.gather.ensures.gathered c.gather-2.ensures.gathered) c.gather-3.ensures.gathered, c.give_all.ensures.given)
