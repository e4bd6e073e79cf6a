use Rattle.std.proofs.Common.{◌-◌, length, refl, ap, ◌∙◌}
use Rattle.lock_free.specs.declared.sizes.Sizes.{Sizes}
use Rattle.lock_free.proofs.KeyChanges.{gave_by, update_ready}
use Rattle.lock_free.proofs.OfTasks.{on_way}
use Rattle.lock_free.proofs.attempts.give_value.Goals as goal

pub update_within-requires-clause-way : goal.update_within-requires-clause-way
update_within-requires-clause-way c = on_way c.args.actor.now.me.0 c.args.task.now c.requires.task c.way-way.result c.way-way.ensures.0 c.way-way.ensures.1

pub update_within-requires-clause-at : goal.update_within-requires-clause-at
update_within-requires-clause-at c =
    let task = c.args.task.now in
    update_ready c.args.actor.now.me.0 task c.requires.task c.args.path.now c.requires.some c.args.given c.args.site c.args.former c.requires.at c.requires.small c.requires.short
    (record { key = task.key; value = c.value_of.result; hashes = c.sizes.result.hash; hash = task.hash; start = task.start; depth = length c.args.path.now - 1 }) refl c.value_of.ensures
    (ap (λ (z : Sizes). z.hash) (c.sizes.ensures ∙ c.requires.stock.sizes)) refl refl refl

pub returns-clause-attempted : goal.returns-clause-attempted
returns-clause-attempted c =
    let x = c.update_within in
    gave_by c.args.actor.now.me.0 c.args.task.now c.requires.task c.args.path.now c.requires.some c.args.given c.args.site c.args.former c.requires.at x.new.actor.me.0 x.result x.ensures.updated
    x.ensures.left
