use Rattle.std.proofs.Common.{subst, sym, ◌∙◌}
use Rattle.lock_free.specs.Limbos.{IsNewestOrNone}
use Rattle.lock_free.proofs.SwapsChecked.{check_ready, checked_on, checked_sizes, newest}
use Rattle.lock_free.proofs.swapping.check_on.Goals as goal

pub check_swap-decided-requires-clause-checking : goal.check_swap-decided-requires-clause-checking
check_swap-decided-requires-clause-checking c = check_ready c.args.actor.now.me.0 c.args.swapping c.requires.checking

pub hang_replaced-requires-clause-sizes : goal.hang_replaced-requires-clause-sizes
hang_replaced-requires-clause-sizes c =
    c.requires.sizes ∙ sym (checked_sizes c.args.actor.now.me.0 c.args.swapping c.requires.checking c.args.words.now.table_id.words c.requires.sound c.check_swap-decided.result
    c.check_swap-decided.new.actor.me.0 c.check_swap-decided.ensures.sound c.check_swap-decided.ensures.checked)

pub hang_replaced-requires-clause-newest : goal.hang_replaced-requires-clause-newest
hang_replaced-requires-clause-newest c =
    subst (IsNewestOrNone c.args.stock.now.limbo c.check_swap-decided.new.actor.me.0) (sym c.retired_by.ensures)
    (newest c.args.actor.now.me.0 c.args.swapping c.requires.checking c.args.words.now.table_id.words c.requires.sound c.check_swap-decided.result c.check_swap-decided.new.actor.me.0
    c.check_swap-decided.ensures.sound c.check_swap-decided.ensures.checked c.args.stock.now.limbo c.requires.limbo)

pub returns-clause-checked : goal.returns-clause-checked
returns-clause-checked c =
    checked_on c.args.actor.now.me.0 c.args.swapping c.requires.checking c.args.words.now.table_id.words c.requires.sound c.check_swap-decided.result c.check_swap-decided.new.actor.me.0
    c.check_swap-decided.ensures.sound c.check_swap-decided.ensures.checked c.hang_replaced.new.actor.me.0 c.hang_replaced.ensures.hung
