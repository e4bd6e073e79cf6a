use Rattle.std.proofs.Common.{◌∙◌, sym, subst₂, ap₂}
use Rattle.std.specs.Prelude.{bit_or}
use Rattle.lock_free.specs.BuildingUp.{by_rising}
use Rattle.lock_free.specs.SeenEntries.{IsAtBranch}
use Rattle.lock_free.proofs.Pairs.{list_pair, branch_pair}
use Rattle.lock_free.proofs.building.make_pair.Goals as goal

pub make_list-requires-clause-making : goal.make_list-requires-clause-making
make_list-requires-clause-making c = list_pair c.args.actor.now.me.0 c.args.by c.args.depth c.args.old_hash c.args.old c.args.single c.requires.making
    (c.if-depth-list_depth.true ∙ c.list_depth.ensures.depth)

pub make_branch-requires-clause-making : goal.make_branch-requires-clause-making
make_branch-requires-clause-making c =
    subst₂ (IsAtBranch c.args.actor.now.me.0) (sym (ap₂ bit_or c.flag_of.ensures.flag c.flag_of-2.ensures.flag))
    (sym (c.by_index-entries.ensures ∙ ap₂ (λ a b. by_rising a b c.args.old c.args.single) c.index_in-old_index.ensures.index c.index_in.ensures.index))
    (branch_pair c.args.actor.now.me.0 c.args.by c.args.depth c.args.old_hash c.args.old c.args.single c.requires.making
    (λ e. c.if-depth-list_depth.false (e ∙ sym c.list_depth.ensures.depth)))
