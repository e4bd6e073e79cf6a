use Rattle.std.proofs.lemmas.Bool.{false≢true}
use Rattle.std.proofs.Common.{refl, sym, subst}
use Rattle.machine_model.specs.declared.copying.CopyLine.TheVariants as copy
use Rattle.lock_free.specs.declared.copy_roots.CopyKind.TheVariants as kind
use Rattle.lock_free.specs.CopySteps.{HasRootsOrNone}
use Rattle.lock_free.proofs.CopyRoots.{one_root_made, stopped_rested}
use Rattle.lock_free.proofs.CopyMains.{successor_holds}
use Rattle.lock_free.proofs.copy_roots.make_one.Goals as goal

pub returns-in_err-successor-clause-made : goal.returns-in_err-successor-clause-made
returns-in_err-successor-clause-made c root main at =
    let before = c.args.actor.now.me.0 in
    let after = c.make_shared_root.new.actor.me.0 in
    subst (λ x. HasRootsOrNone before kind.Freeze root main x after) (sym c.from_residual.ensures)
    (stopped_rested before (copy.Successor root main) at refl after ((c.in_err-successor.ensures {u = tt}).made (copy.Successor root main) main at refl))

pub returns-clause-made : goal.returns-clause-made
returns-clause-made c root main at =
    one_root_made c.args.actor.now.me.0 root main at c.in_ok-successor.successor c.make_shared_root.new.actor.me.0 (c.in_ok-successor.ensures {u = tt}).made c.requires.which

pub make_shared_root-requires-clause-making : goal.make_shared_root-requires-clause-making
make_shared_root-requires-clause-making c =
    let (root, main, at, there) = c.requires.given in (copy.Successor root main, main, at, refl, ((there.slot, there.used), there.place), (λ own. absurd (false≢true own), λ built. absurd built))

pub make_shared_root-requires-clause-holds : goal.make_shared_root-requires-clause-holds
make_shared_root-requires-clause-holds c =
    let (root, main, at, there) = c.requires.given in successor_holds c.args.words.now.table_id.words c.args.actor.now.me.0 c.requires.sound root main c.args.class c.args.main there at
