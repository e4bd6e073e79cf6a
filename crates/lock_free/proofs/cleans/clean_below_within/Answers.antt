use Rattle.std.proofs.Common.{ap, arith}
use Rattle.lock_free.proofs.CleanBelow.{below_stock, below_way, branch_ready, branch_cleaned, main_ready, other_stock, other_cleaned, below_spent, below_spent_stock, branch_left}
use Rattle.lock_free.proofs.MainLooks.{kind_in}
use Rattle.lock_free.specs.Leaving.{IsRepair, LeavesSwap}
use Rattle.lock_free.specs.Repairing.{HasCleanedBelow, HasCleanedBranch}
use Rattle.lock_free.proofs.Leavings.{if_err, if_ok}
use Rattle.lock_free.proofs.cleans.clean_below_within.Goals as goal

pub clean_branch_within-requires-clause-stock : goal.clean_branch_within-requires-clause-stock
clean_branch_within-requires-clause-stock c =
    below_stock c.args.words.now.table_id.words c.args.actor.now.me.0 c.read_on.new.actor.me.0 c.requires.sound c.read_on.ensures.sound c.args.indirection c.args.is_below_root c.requires.at
    c.in-Gives.given (c.in-Gives.ensures {u = tt}).passed c.args.stock.now c.requires.stock

pub clean_branch_within-requires-clause-way : goal.clean_branch_within-requires-clause-way
clean_branch_within-requires-clause-way c =
    below_way c.args.words.now.table_id.words c.args.actor.now.me.0 c.read_on.new.actor.me.0 c.requires.sound c.read_on.ensures.sound c.args.indirection c.args.is_below_root c.requires.at
    c.in-Gives.given (c.in-Gives.ensures {u = tt}).passed c.args.way c.requires.way

pub clean_branch_within-requires-clause-at : goal.clean_branch_within-requires-clause-at
clean_branch_within-requires-clause-at c =
    branch_ready c.args.words.now.table_id.words c.args.actor.now.me.0 c.read_on.new.actor.me.0 c.requires.sound c.read_on.ensures.sound c.args.indirection c.args.is_below_root c.requires.at
    c.in-Gives.given (c.in-Gives.ensures {u = tt}).passed c.in-Branch.bitmap c.in-Branch.is

pub look_at_main-requires-clause-looking : goal.look_at_main-requires-clause-looking
look_at_main-requires-clause-looking c =
    main_ready c.args.words.now.table_id.words c.args.actor.now.me.0 c.read_on.new.actor.me.0 c.requires.sound c.read_on.ensures.sound c.args.indirection c.args.is_below_root c.requires.at
    c.in-Gives.given (c.in-Gives.ensures {u = tt}).passed

pub look_at_main-requires-in-List-clause-looking : goal.look_at_main-requires-in-List-clause-looking
look_at_main-requires-in-List-clause-looking c =
    main_ready c.args.words.now.table_id.words c.args.actor.now.me.0 c.read_on.new.actor.me.0 c.requires.sound c.read_on.ensures.sound c.args.indirection c.args.is_below_root c.requires.at
    c.in-Gives.given (c.in-Gives.ensures {u = tt}).passed

pub returns-in-Branch-clause-cleaned : goal.returns-in-Branch-clause-cleaned
returns-in-Branch-clause-cleaned c =
    if_ok (λ b. HasCleanedBranch c.read_on.new.actor.me.0 b c.clean_branch_within.new.actor.me.0) (λ b. HasCleanedBelow c.args.actor.now.me.0 b c.clean_branch_within.new.actor.me.0)
    (λ b h. branch_cleaned c.args.words.now.table_id.words c.args.actor.now.me.0 c.read_on.new.actor.me.0 c.requires.sound c.read_on.ensures.sound c.args.indirection c.args.is_below_root
    c.requires.at c.in-Gives.given (c.in-Gives.ensures {u = tt}).passed c.in-Branch.bitmap c.in-Branch.is c.clean_branch_within.new.actor.me.0 b h) c.clean_branch_within.result
    c.clean_branch_within.ensures.cleaned

pub returns-in-Branch-clause-left : goal.returns-in-Branch-clause-left
returns-in-Branch-clause-left c =
    if_err (λ s. LeavesSwap IsRepair c.read_on.new.actor.me.0 s c.clean_branch_within.new.actor.me.0) (λ s. LeavesSwap IsRepair c.args.actor.now.me.0 s c.clean_branch_within.new.actor.me.0)
    (λ s h. branch_left c.args.words.now.table_id.words c.args.actor.now.me.0 c.read_on.new.actor.me.0 c.requires.sound c.read_on.ensures.sound c.args.indirection c.args.is_below_root
    c.requires.at c.in-Gives.given (c.in-Gives.ensures {u = tt}).passed s c.clean_branch_within.new.actor.me.0 h) c.clean_branch_within.result c.clean_branch_within.ensures.left

pub returns-in-Again-clause-stock : goal.returns-in-Again-clause-stock
returns-in-Again-clause-stock c =
    below_spent_stock c.args.words.now.table_id.words c.args.actor.now.me.0 c.requires.sound c.args.indirection c.args.is_below_root c.requires.at c.in-Again.field-0 c.read_on.new.actor.me.0
    (c.in-Again.ensures {u = tt}).passed c.args.stock.now c.requires.stock

pub returns-in-Again-clause-cleaned : goal.returns-in-Again-clause-cleaned
returns-in-Again-clause-cleaned c =
    below_spent c.args.words.now.table_id.words c.args.actor.now.me.0 c.requires.sound c.args.indirection c.args.is_below_root c.requires.at c.in-Again.field-0 c.read_on.new.actor.me.0
    (c.in-Again.ensures {u = tt}).passed

pub returns-in-Tomb-clause-stock : goal.returns-in-Tomb-clause-stock
returns-in-Tomb-clause-stock c =
    other_stock c.args.words.now.table_id.words c.args.actor.now.me.0 c.read_on.new.actor.me.0 c.requires.sound c.read_on.ensures.sound c.args.indirection c.args.is_below_root c.requires.at
    c.in-Gives.given (c.in-Gives.ensures {u = tt}).passed
    (λ one. absurd (omega (arith, one, (ap kind_in c.in-Tomb.is)))) c.look_at_main.new.actor.me.0 c.look_at_main.ensures.sound c.look_at_main.result c.look_at_main.ensures.read
    c.args.stock.now c.requires.stock

pub returns-in-Tomb-clause-cleaned : goal.returns-in-Tomb-clause-cleaned
returns-in-Tomb-clause-cleaned c =
    other_cleaned c.args.words.now.table_id.words c.args.actor.now.me.0 c.read_on.new.actor.me.0 c.requires.sound c.read_on.ensures.sound c.args.indirection c.args.is_below_root
    c.requires.at c.in-Gives.given (c.in-Gives.ensures {u = tt}).passed
    (λ one. absurd (omega (arith, one, (ap kind_in c.in-Tomb.is)))) c.look_at_main.new.actor.me.0 c.look_at_main.ensures.sound c.look_at_main.result c.look_at_main.ensures.read

pub returns-in-List-clause-stock : goal.returns-in-List-clause-stock
returns-in-List-clause-stock c =
    other_stock c.args.words.now.table_id.words c.args.actor.now.me.0 c.read_on.new.actor.me.0 c.requires.sound c.read_on.ensures.sound c.args.indirection c.args.is_below_root c.requires.at
    c.in-Gives.given (c.in-Gives.ensures {u = tt}).passed
    (λ one. absurd (omega (arith, one, (ap kind_in c.in-List.is)))) c.look_at_main-in-List.new.actor.me.0 c.look_at_main-in-List.ensures.sound c.look_at_main-in-List.result
    c.look_at_main-in-List.ensures.read c.args.stock.now c.requires.stock

pub returns-in-List-clause-cleaned : goal.returns-in-List-clause-cleaned
returns-in-List-clause-cleaned c =
    other_cleaned c.args.words.now.table_id.words c.args.actor.now.me.0 c.read_on.new.actor.me.0 c.requires.sound c.read_on.ensures.sound c.args.indirection c.args.is_below_root
    c.requires.at c.in-Gives.given (c.in-Gives.ensures {u = tt}).passed
    (λ one. absurd (omega (arith, one, (ap kind_in c.in-List.is)))) c.look_at_main-in-List.new.actor.me.0 c.look_at_main-in-List.ensures.sound c.look_at_main-in-List.result
    c.look_at_main-in-List.ensures.read
