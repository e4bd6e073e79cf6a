use Rattle.std.proofs.Common.{refl, sym, subst}
use Rattle.machine_model.specs.Beneath.slot_arena.specs.Heaps.{empty_branch}
use Rattle.machine_model.specs.declared.copying.CopyLine.TheVariants as copy
use Rattle.lock_free.specs.declared.copy_roots.CopyKind.TheVariants as kind
use Rattle.lock_free.specs.CopySteps.{HasRootsOrNone}
use Rattle.lock_free.proofs.CopyRoots.{at_cleared, at_empty, cleared_made, root_missing, root_over_it, stopped, unchanged}
use Rattle.lock_free.proofs.RaisedLines.{raised_cleared, raised_empty}
use Rattle.lock_free.proofs.copy_roots.make_cleared.Goals as goal

pub make_branch-requires-clause-raised : goal.make_branch-requires-clause-raised
make_branch-requires-clause-raised c = let (root, main, at) = c.requires.at in raised_empty c.args.actor.now.me.0 root main at

pub make_new_root-requires-clause-raised : goal.make_new_root-requires-clause-raised
make_new_root-requires-clause-raised c =
    let (root, main, at) = c.requires.at in
    let before = c.args.actor.now.me.0 in
    let middle = c.make_branch.new.actor.me.0 in
    let branch = (c.in_ok-branch.ensures {u = tt}).made in
    let made = (branch empty_branch (at_empty before root main at)).made in
    raised_cleared middle root main made (at_cleared before root main at c.in_ok-branch.branch middle branch)

pub returns-in_err-branch-clause-made : goal.returns-in_err-branch-clause-made
returns-in_err-branch-clause-made c root main at =
    let before = c.args.actor.now.me.0 in
    let after = c.make_branch.new.actor.me.0 in
    subst (λ x. HasRootsOrNone before kind.Clear root main x after) (sym c.from_residual.ensures)
    (stopped before (copy.Empty root main) at refl after (unchanged before after ((c.in_err-branch.ensures {u = tt}).made empty_branch (at_empty before root main at))))

pub make_new_root-requires-clause-making : goal.make_new_root-requires-clause-making
make_new_root-requires-clause-making c =
    let (root, main, at) = c.requires.at in
    root_over_it c.args.actor.now.me.0 root main at c.in_ok-branch.branch c.make_branch.new.actor.me.0 (c.in_ok-branch.ensures {u = tt}).made

pub returns-in_err-successor-clause-made : goal.returns-in_err-successor-clause-made
returns-in_err-successor-clause-made c root main at =
    let before = c.args.actor.now.me.0 in
    let middle = c.make_branch.new.actor.me.0 in
    let after = c.make_new_root.new.actor.me.0 in
    let branch = (c.in_ok-branch.ensures {u = tt}).made in
    let made = (branch empty_branch (at_empty before root main at)).made in
    subst (λ x. HasRootsOrNone before kind.Clear root main x after) (sym c.from_residual-in_err-successor.ensures)
    (root_missing before root main at c.in_ok-branch.branch middle branch after
    ((c.in_err-successor.ensures {u = tt}).made (copy.Cleared root main made) made (at_cleared before root main at c.in_ok-branch.branch middle branch) refl))

pub returns-clause-made : goal.returns-clause-made
returns-clause-made c root main at =
    cleared_made c.args.actor.now.me.0 root main at c.in_ok-branch.branch c.make_branch.new.actor.me.0 (c.in_ok-branch.ensures {u = tt}).made c.make_new_root.new.actor.me.0
    c.in_ok-successor.successor (c.in_ok-successor.ensures {u = tt}).made
