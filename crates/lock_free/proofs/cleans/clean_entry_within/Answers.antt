use Rattle.std.proofs.Common.{ap, arith}
use Rattle.lock_free.proofs.CleanEntries.{single_cleaned, child_passing, child_way, tomb_ready, tomb_cleaned, link_cleaned, spent_cleaned}
use Rattle.lock_free.proofs.MainLooks.{kind_in}
use Rattle.lock_free.proofs.cleans.clean_entry_within.Goals as goal

pub returns-then-entry-clause-cleaned : goal.returns-then-entry-clause-cleaned
returns-then-entry-clause-cleaned c =
    single_cleaned c.args.words.now.table_id.words c.args.actor.now.me.0 c.look_over.new.actor.me.0 c.requires.sound c.args.entry c.requires.at c.look_over.ensures.looked c.if-entry.true

pub read_on-requires-clause-way : goal.read_on-requires-clause-way
read_on-requires-clause-way c =
    child_way c.args.words.now.table_id.words c.args.actor.now.me.0 c.look_over.new.actor.me.0 c.requires.sound c.args.entry c.requires.at c.look_over.ensures.looked c.if-entry.false c.args.way
    c.requires.way

pub read_on-requires-clause-passing : goal.read_on-requires-clause-passing
read_on-requires-clause-passing c =
    child_passing c.args.words.now.table_id.words c.args.actor.now.me.0 c.look_over.new.actor.me.0 c.requires.sound c.args.entry c.requires.at c.look_over.ensures.looked c.if-entry.false

pub look_at_main-requires-clause-looking : goal.look_at_main-requires-clause-looking
look_at_main-requires-clause-looking c =
    tomb_ready c.args.words.now.table_id.words c.args.actor.now.me.0 c.look_over.new.actor.me.0 c.requires.sound c.args.entry c.requires.at c.look_over.ensures.looked c.if-entry.false
    c.read_on.new.actor.me.0 c.read_on.ensures.sound c.in-Gives.below (c.in-Gives.ensures {u = tt}).passed

pub returns-in-Tomb-clause-cleaned : goal.returns-in-Tomb-clause-cleaned
returns-in-Tomb-clause-cleaned c =
    tomb_cleaned c.args.words.now.table_id.words c.args.actor.now.me.0 c.look_over.new.actor.me.0 c.requires.sound c.args.entry c.requires.at c.look_over.ensures.looked c.if-entry.false
    c.read_on.new.actor.me.0 c.read_on.ensures.sound c.in-Gives.below (c.in-Gives.ensures {u = tt}).passed c.look_at_main.new.actor.me.0 c.look_at_main.ensures.sound c.look_at_main.result
    c.look_at_main.ensures.read c.in-Tomb.single c.in-Tomb.is c.single_in-freed.result c.single_in-freed.ensures

pub returns-in-Branch-clause-cleaned : goal.returns-in-Branch-clause-cleaned
returns-in-Branch-clause-cleaned c =
    link_cleaned c.args.words.now.table_id.words c.args.actor.now.me.0 c.look_over.new.actor.me.0 c.requires.sound c.args.entry c.requires.at c.look_over.ensures.looked c.if-entry.false
    c.read_on.new.actor.me.0 c.read_on.ensures.sound c.in-Gives.below (c.in-Gives.ensures {u = tt}).passed c.look_at_main.new.actor.me.0 c.look_at_main.ensures.sound c.look_at_main.result
    c.look_at_main.ensures.read (λ one. absurd (omega (arith, one, (ap kind_in c.in-Branch.is))))

pub returns-in-List-clause-cleaned : goal.returns-in-List-clause-cleaned
returns-in-List-clause-cleaned c =
    link_cleaned c.args.words.now.table_id.words c.args.actor.now.me.0 c.look_over.new.actor.me.0 c.requires.sound c.args.entry c.requires.at c.look_over.ensures.looked c.if-entry.false
    c.read_on.new.actor.me.0 c.read_on.ensures.sound c.in-Gives.below (c.in-Gives.ensures {u = tt}).passed c.look_at_main.new.actor.me.0 c.look_at_main.ensures.sound c.look_at_main.result
    c.look_at_main.ensures.read (λ one. absurd (omega (arith, one, (ap kind_in c.in-List.is))))

pub returns-in-Again-clause-cleaned : goal.returns-in-Again-clause-cleaned
returns-in-Again-clause-cleaned c = spent_cleaned c.args.words.now.table_id.words c.args.actor.now.me.0 c.look_over.new.actor.me.0 c.requires.sound c.args.entry c.requires.at
    c.look_over.ensures.looked c.if-entry.false c.in-Again.field-0 c.read_on.new.actor.me.0
    (c.in-Again.ensures {u = tt}).passed
