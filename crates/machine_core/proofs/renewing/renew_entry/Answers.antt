use Rattle.std.proofs.Common.{sym, ◌∙◌}
use Rattle.machine_core.proofs.Renewed.{kept_so_far, made_so_far, makes_none}
use Rattle.machine_core.proofs.renewing.renew_entry.Goals as goal

pub returns-then-not-is_old-clause-draft : goal.returns-then-not-is_old-clause-draft
returns-then-not-is_old-clause-draft c state root so_far entries is g same =
    kept_so_far state root so_far c.args.heap.now c.args.made.now.items entries c.args.generation c.args.entry is g same (sym c.is_old.ensures ∙ c.if-not-is_old.true)

pub returns-then-not-is_old-clause-makes : goal.returns-then-not-is_old-clause-makes
returns-then-not-is_old-clause-makes c = makes_none c.args.heap.now c.args.made.now.items

pub returns-clause-draft : goal.returns-clause-draft
returns-clause-draft c state root so_far entries is g same =
    made_so_far state root so_far c.args.heap.now c.make_more.new.heap c.args.made.now.items c.make_more.new.made.items entries c.args.generation c.args.entry c.main_at-main.result
    c.make_more.result is g same (sym c.is_old.ensures ∙ c.if-not-is_old.false) c.main_at-main.ensures (λ draft newest made. c.make_more.ensures.drafts state draft newest made)
