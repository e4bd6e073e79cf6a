use Rattle.std.proofs.Common.{◌∙◌, true, false, refl, subst}
use Rattle.lock_free.specs.CopySteps.{HasTriedCopy}
use Rattle.lock_free.proofs.CopyAgain.{anew_left, copy_left, rootless, rootless_stock, at_original, at_root, copying_on, gave_out, none_tried, stock_on, tried_again, way_on, way_still}
use Rattle.lock_free.proofs.copies.make_copy_within.Goals as goal

pub loop-init : goal.loop-init
loop-init c = (refl, c.requires.sound, c.requires.stock, none_tried c.args.actor.now.me.0 c.requires.at)

pub root_within-requires-clause-table : goal.root_within-requires-clause-table
root_within-requires-clause-table c = c.loop.invariant.0 ∙ c.requires.table

pub root_within-requires-clause-sound : goal.root_within-requires-clause-sound
root_within-requires-clause-sound c = c.loop.invariant.1

pub root_within-requires-clause-way : goal.root_within-requires-clause-way
root_within-requires-clause-way c = way_still c.args.actor.now.me.0 c.loop.actor.me.0 c.requires.at c.loop.invariant.3 c.args.way c.requires.way

pub root_within-requires-clause-at : goal.root_within-requires-clause-at
root_within-requires-clause-at c = at_root c.args.actor.now.me.0 c.loop.actor.me.0 c.requires.at c.loop.invariant.3

pub try_copy_within-requires-clause-table : goal.try_copy_within-requires-clause-table
try_copy_within-requires-clause-table c = c.root_within.ensures.table ∙ c.loop.invariant.0 ∙ c.requires.table

pub try_copy_within-requires-clause-stock : goal.try_copy_within-requires-clause-stock
try_copy_within-requires-clause-stock c =
    stock_on c.args.actor.now.me.0 c.loop.actor.me.0 c.requires.at c.loop.invariant.3 c.args.words.now.table_id.words c.loop.invariant.1 c.in-Ok.rooted c.root_within.new.actor.me.0
    (c.in-Ok.ensures {u = tt}).rooted
    c.loop.stock c.loop.invariant.2

pub try_copy_within-requires-clause-way : goal.try_copy_within-requires-clause-way
try_copy_within-requires-clause-way c =
    way_on c.args.actor.now.me.0 c.loop.actor.me.0 c.requires.at c.loop.invariant.3 c.args.words.now.table_id.words c.loop.invariant.1 c.in-Ok.rooted c.root_within.new.actor.me.0
    (c.in-Ok.ensures {u = tt}).rooted
    c.args.way c.requires.way

pub try_copy_within-requires-clause-copying : goal.try_copy_within-requires-clause-copying
try_copy_within-requires-clause-copying c =
    copying_on c.args.actor.now.me.0 c.loop.actor.me.0 c.requires.at c.loop.invariant.3 c.args.words.now.table_id.words c.loop.invariant.1 c.in-Ok.rooted c.root_within.new.actor.me.0
    (c.in-Ok.ensures {u = tt}).rooted
    c.args.which c.args.way.handle c.args.opens c.requires.copying

pub try_copy_within-requires-clause-at : goal.try_copy_within-requires-clause-at
try_copy_within-requires-clause-at c =
    at_original c.args.actor.now.me.0 c.loop.actor.me.0 c.requires.at c.loop.invariant.3 c.args.words.now.table_id.words c.loop.invariant.1 c.in-Ok.rooted c.root_within.new.actor.me.0
    (c.in-Ok.ensures {u = tt}).rooted

pub returns-in-Done-clause-table : goal.returns-in-Done-clause-table
returns-in-Done-clause-table c = c.try_copy_within.ensures.table ∙ c.root_within.ensures.table ∙ c.loop.invariant.0

pub returns-in-Done-clause-made : goal.returns-in-Done-clause-made
returns-in-Done-clause-made c =
    tried_again c.args.actor.now.me.0 c.loop.actor.me.0 c.requires.at c.loop.invariant.3 c.args.words.now.table_id.words c.loop.invariant.1 c.in-Ok.rooted c.root_within.new.actor.me.0
    (c.in-Ok.ensures {u = tt}).rooted
    c.try_copy_within.new.actor.me.0 true (subst (λ x. HasTriedCopy c.root_within.new.actor.me.0 x c.try_copy_within.new.actor.me.0) c.in-Done.is (c.in-Ok-try_copy_within.ensures {u = tt}).tried)

pub loop-preserved : goal.loop-preserved
loop-preserved c = (
  c.try_copy_within.ensures.table ∙ c.root_within.ensures.table ∙ c.loop.invariant.0,
  c.try_copy_within.ensures.sound,
  c.try_copy_within.ensures.stock,
  tried_again c.args.actor.now.me.0 c.loop.actor.me.0 c.requires.at c.loop.invariant.3 c.args.words.now.table_id.words c.loop.invariant.1 c.in-Ok.rooted c.root_within.new.actor.me.0
      (c.in-Ok.ensures {u = tt}).rooted
      c.try_copy_within.new.actor.me.0 false (subst (λ x. HasTriedCopy c.root_within.new.actor.me.0 x c.try_copy_within.new.actor.me.0) c.in-Again.is (c.in-Ok-try_copy_within.ensures {u = tt}).tried),
)

pub returns-in-Full-clause-table : goal.returns-in-Full-clause-table
returns-in-Full-clause-table c = c.try_copy_within.ensures.table ∙ c.root_within.ensures.table ∙ c.loop.invariant.0

pub returns-in-Full-clause-made : goal.returns-in-Full-clause-made
returns-in-Full-clause-made c =
    gave_out c.args.actor.now.me.0 c.loop.actor.me.0 c.requires.at c.loop.invariant.3 c.args.words.now.table_id.words c.loop.invariant.1 c.in-Ok.rooted c.root_within.new.actor.me.0
    (c.in-Ok.ensures {u = tt}).rooted
    c.try_copy_within.new.actor.me.0 (subst (λ x. HasTriedCopy c.root_within.new.actor.me.0 x c.try_copy_within.new.actor.me.0) c.in-Full.is (c.in-Ok-try_copy_within.ensures {u = tt}).tried)

pub returns-in-Err-clause-table : goal.returns-in-Err-clause-table
returns-in-Err-clause-table c = c.root_within.ensures.table ∙ c.loop.invariant.0

pub returns-in-Err-clause-stock : goal.returns-in-Err-clause-stock
returns-in-Err-clause-stock c =
    rootless_stock c.args.actor.now.me.0 c.loop.actor.me.0 c.requires.at c.loop.invariant.3 c.in-Err.field-0 c.root_within.new.actor.me.0 (c.in-Err.ensures {u = tt}).left
    c.args.words.now.table_id.words c.loop.invariant.1 c.loop.stock c.loop.invariant.2

pub returns-in-Err-clause-left : goal.returns-in-Err-clause-left
returns-in-Err-clause-left c = rootless c.args.actor.now.me.0 c.loop.actor.me.0 c.requires.at c.loop.invariant.3 c.in-Err.field-0 c.root_within.new.actor.me.0 (c.in-Err.ensures {u = tt}).left

pub returns-in-Err-try_copy_within-clause-table : goal.returns-in-Err-try_copy_within-clause-table
returns-in-Err-try_copy_within-clause-table c = c.try_copy_within.ensures.table ∙ c.root_within.ensures.table ∙ c.loop.invariant.0

pub returns-in-Err-try_copy_within-clause-left : goal.returns-in-Err-try_copy_within-clause-left
returns-in-Err-try_copy_within-clause-left c =
    copy_left c.args.actor.now.me.0 c.loop.actor.me.0 c.requires.at c.loop.invariant.3 c.args.words.now.table_id.words c.loop.invariant.1 c.in-Ok.rooted c.root_within.new.actor.me.0
    (c.in-Ok.ensures {u = tt}).rooted c.try_copy_within.new.actor.me.0 c.args.which c.args.way.handle c.args.opens c.in-Err-try_copy_within.next
    (c.in-Err-try_copy_within.ensures {u = tt}).left

pub returns-clause-table : goal.returns-clause-table
returns-clause-table c = c.loop.invariant.0

pub returns-clause-sound : goal.returns-clause-sound
returns-clause-sound c = c.loop.invariant.1

pub returns-clause-stock : goal.returns-clause-stock
returns-clause-stock c = c.loop.invariant.2

pub returns-clause-left : goal.returns-clause-left
returns-clause-left c = anew_left c.args.actor.now.me.0 c.loop.actor.me.0 c.requires.at c.loop.invariant.3
