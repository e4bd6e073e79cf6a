use Rattle.lock_free.proofs.ClimbOver.{over_spent, over_spent_stock, parent_left, over_passing, over_stock, over_way}
use Rattle.lock_free.proofs.ClimbOver.{over_start, parent_branch, branch_climbed, over_ready, tomb_stock, tomb_climbed, none_listed}
use Rattle.lock_free.specs.Climbs.{HasClimbed, HasClimbedBranch, HasLeftBranch, HasLeftParent}
use Rattle.lock_free.proofs.Leavings.{if_err, if_ok}
use Rattle.lock_free.proofs.climbs.climb_over_within.Goals as goal

pub read_on-requires-clause-passing : goal.read_on-requires-clause-passing
read_on-requires-clause-passing c =
    over_passing c.args.words.now.table_id.words c.args.actor.now.me.0 c.requires.sound c.args.parent c.args.tombed c.args.flag c.args.single c.args.is_below_root c.requires.at

pub climb_branch_within-requires-clause-stock : goal.climb_branch_within-requires-clause-stock
climb_branch_within-requires-clause-stock c =
    over_stock c.args.words.now.table_id.words c.args.actor.now.me.0 c.requires.sound c.args.parent c.args.tombed c.args.flag c.args.single c.args.is_below_root c.requires.at
    c.read_on.new.actor.me.0 c.read_on.ensures.sound c.in-Gives.given (c.in-Gives.ensures {u = tt}).passed c.args.stock.now c.requires.stock

pub climb_branch_within-requires-clause-way : goal.climb_branch_within-requires-clause-way
climb_branch_within-requires-clause-way c =
    over_way c.args.words.now.table_id.words c.args.actor.now.me.0 c.requires.sound c.args.parent c.args.tombed c.args.flag c.args.single c.args.is_below_root c.requires.at
    c.read_on.new.actor.me.0 c.read_on.ensures.sound c.in-Gives.given (c.in-Gives.ensures {u = tt}).passed c.args.way c.requires.way

pub climb_branch_within-requires-clause-start : goal.climb_branch_within-requires-clause-start
climb_branch_within-requires-clause-start c =
    over_start c.args.words.now.table_id.words c.args.actor.now.me.0 c.requires.sound c.args.parent c.args.tombed c.args.flag c.args.single c.args.is_below_root c.requires.at
    c.read_on.new.actor.me.0 c.read_on.ensures.sound c.in-Gives.given (c.in-Gives.ensures {u = tt}).passed c.args.start c.requires.start

pub climb_branch_within-requires-clause-at : goal.climb_branch_within-requires-clause-at
climb_branch_within-requires-clause-at c =
    parent_branch c.args.words.now.table_id.words c.args.actor.now.me.0 c.requires.sound c.args.parent c.args.tombed c.args.flag c.args.single c.args.is_below_root c.requires.at
    c.read_on.new.actor.me.0 c.read_on.ensures.sound c.in-Gives.given (c.in-Gives.ensures {u = tt}).passed c.in-Branch.bitmap c.in-Branch.is

pub returns-in-Branch-clause-climbed : goal.returns-in-Branch-clause-climbed
returns-in-Branch-clause-climbed c =
    if_ok (λ r. HasClimbedBranch c.read_on.new.actor.me.0 r c.climb_branch_within.new.actor.me.0) (λ r. HasClimbed c.args.actor.now.me.0 r c.climb_branch_within.new.actor.me.0)
    (λ r h. branch_climbed c.args.words.now.table_id.words c.args.actor.now.me.0 c.requires.sound c.args.parent c.args.tombed c.args.flag c.args.single c.args.is_below_root c.requires.at
    c.read_on.new.actor.me.0 c.read_on.ensures.sound c.in-Gives.given (c.in-Gives.ensures {u = tt}).passed c.climb_branch_within.new.actor.me.0 r h) c.climb_branch_within.result
    c.climb_branch_within.ensures.climbed

pub returns-in-Branch-clause-left : goal.returns-in-Branch-clause-left
returns-in-Branch-clause-left c =
    if_err (λ s. HasLeftBranch c.read_on.new.actor.me.0 s c.climb_branch_within.new.actor.me.0) (λ s. HasLeftParent c.args.actor.now.me.0 s c.climb_branch_within.new.actor.me.0)
    (λ s h. parent_left c.args.words.now.table_id.words c.args.actor.now.me.0 c.requires.sound c.args.parent c.args.tombed c.args.flag c.args.single c.args.is_below_root c.requires.at
    c.read_on.new.actor.me.0 c.read_on.ensures.sound c.in-Gives.given (c.in-Gives.ensures {u = tt}).passed s c.climb_branch_within.new.actor.me.0 h) c.climb_branch_within.result
    c.climb_branch_within.ensures.left

pub returns-in-Again-clause-stock : goal.returns-in-Again-clause-stock
returns-in-Again-clause-stock c =
    over_spent_stock c.args.words.now.table_id.words c.args.actor.now.me.0 c.requires.sound c.args.parent c.args.tombed c.args.flag c.args.single c.args.is_below_root c.requires.at
    c.in-Again.field-0 c.read_on.new.actor.me.0 (c.in-Again.ensures {u = tt}).passed c.args.stock.now c.requires.stock

pub returns-in-Again-clause-climbed : goal.returns-in-Again-clause-climbed
returns-in-Again-clause-climbed c =
    over_spent c.args.words.now.table_id.words c.args.actor.now.me.0 c.requires.sound c.args.parent c.args.tombed c.args.flag c.args.single c.args.is_below_root c.requires.at c.in-Again.field-0
    c.read_on.new.actor.me.0 (c.in-Again.ensures {u = tt}).passed

pub look_at_main-requires-clause-looking : goal.look_at_main-requires-clause-looking
look_at_main-requires-clause-looking c =
    over_ready c.args.words.now.table_id.words c.args.actor.now.me.0 c.requires.sound c.args.parent c.args.tombed c.args.flag c.args.single c.args.is_below_root c.requires.at
    c.read_on.new.actor.me.0 c.read_on.ensures.sound c.in-Gives.given (c.in-Gives.ensures {u = tt}).passed

pub look_at_main-requires-in-List-clause-looking : goal.look_at_main-requires-in-List-clause-looking
look_at_main-requires-in-List-clause-looking c =
    over_ready c.args.words.now.table_id.words c.args.actor.now.me.0 c.requires.sound c.args.parent c.args.tombed c.args.flag c.args.single c.args.is_below_root c.requires.at
    c.read_on.new.actor.me.0 c.read_on.ensures.sound c.in-Gives.given (c.in-Gives.ensures {u = tt}).passed

pub returns-in-Tomb-clause-stock : goal.returns-in-Tomb-clause-stock
returns-in-Tomb-clause-stock c =
    tomb_stock c.args.words.now.table_id.words c.args.actor.now.me.0 c.requires.sound c.args.parent c.args.tombed c.args.flag c.args.single c.args.is_below_root c.requires.at
    c.read_on.new.actor.me.0 c.read_on.ensures.sound c.in-Gives.given (c.in-Gives.ensures {u = tt}).passed
    c.look_at_main.new.actor.me.0 c.look_at_main.ensures.sound c.look_at_main.result c.look_at_main.ensures.read c.in-Tomb.entry c.in-Tomb.is c.args.stock.now c.requires.stock

pub returns-in-Tomb-clause-climbed : goal.returns-in-Tomb-clause-climbed
returns-in-Tomb-clause-climbed c =
    tomb_climbed c.args.words.now.table_id.words c.args.actor.now.me.0 c.requires.sound c.args.parent c.args.tombed c.args.flag c.args.single c.args.is_below_root c.requires.at
    c.read_on.new.actor.me.0 c.read_on.ensures.sound c.in-Gives.given (c.in-Gives.ensures {u = tt}).passed
    c.look_at_main.new.actor.me.0 c.look_at_main.ensures.sound c.look_at_main.result c.look_at_main.ensures.read c.in-Tomb.entry c.in-Tomb.is c.single_in.result c.single_in.ensures

pub returns-in-List-clause-stock : goal.returns-in-List-clause-stock
returns-in-List-clause-stock c =
    none_listed c.args.words.now.table_id.words c.args.actor.now.me.0 c.requires.sound c.args.parent c.args.tombed c.args.flag c.args.single c.args.is_below_root c.requires.at
    c.read_on.new.actor.me.0 c.read_on.ensures.sound c.in-Gives.given (c.in-Gives.ensures {u = tt}).passed
    c.look_at_main-in-List.new.actor.me.0 c.look_at_main-in-List.ensures.sound c.look_at_main-in-List.result c.look_at_main-in-List.ensures.read _ c.in-List.is

pub returns-in-List-clause-climbed : goal.returns-in-List-clause-climbed
returns-in-List-clause-climbed c =
    none_listed c.args.words.now.table_id.words c.args.actor.now.me.0 c.requires.sound c.args.parent c.args.tombed c.args.flag c.args.single c.args.is_below_root c.requires.at
    c.read_on.new.actor.me.0 c.read_on.ensures.sound c.in-Gives.given (c.in-Gives.ensures {u = tt}).passed
    c.look_at_main-in-List.new.actor.me.0 c.look_at_main-in-List.ensures.sound c.look_at_main-in-List.result c.look_at_main-in-List.ensures.read _ c.in-List.is
