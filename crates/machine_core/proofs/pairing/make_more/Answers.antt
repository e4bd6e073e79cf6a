use Rattle.machine_core.proofs.Paired.{made_next, makes_one}
use Rattle.machine_core.proofs.pairing.make_more.Goals as goal

pub returns-clause-drafts : goal.returns-clause-drafts
returns-clause-drafts c state draft newest is =
    made_next state draft c.args.heap.now c.make-fresh.new.heap c.args.made.now.items c.push.new.self.items newest c.make-fresh.result c.args.node is c.make-fresh.ensures.made
    c.push.ensures.items (c.make-fresh.ensures.drafts state draft is.draft_is)

pub returns-clause-makes : goal.returns-clause-makes
returns-clause-makes c =
    let made = c.make-fresh.ensures in
    makes_one c.args.heap.now c.make-fresh.new.heap c.args.made.now.items c.push.new.self.items c.args.node c.make-fresh.result c.requires.can
    (record { heap = made.heap; outside = made.outside; stay = made.stay; records = made.records }) c.push.ensures.items
