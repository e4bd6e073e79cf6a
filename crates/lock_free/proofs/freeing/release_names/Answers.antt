use Rattle.std.proofs.Common.{sym, subst}
use Rattle.machine_model.specs.Beneath.slot_arena.specs.Heaps.{refs_of_node}
use Rattle.lock_free.specs.declared.reclaiming.Kind.{Kind}
use Rattle.lock_free.specs.LeftNodes.{beside, MayLetGo}
use Rattle.lock_free.specs.Raising.{HasReleasedAll}
use Rattle.lock_free.proofs.freeing.release_names.Goals as goal

pub returns-in-Indirection-clause-released : goal.returns-in-Indirection-clause-released
returns-in-Indirection-clause-released c =
    let v = c.args.actor.now.me.0 in
    let out = c.args.left_out.now in
    subst (λ (k : Kind). (h : MayLetGo v c.args.slot k out) → HasReleasedAll v (beside v out (refs_of_node h.slot.node)) c.release_link.new.actor.me.0) (sym c.in-Indirection.is)
    c.release_link.ensures.released

pub returns-in-Main-clause-released : goal.returns-in-Main-clause-released
returns-in-Main-clause-released c =
    let v = c.args.actor.now.me.0 in
    let out = c.args.left_out.now in
    subst (λ (k : Kind). (h : MayLetGo v c.args.slot k out) → HasReleasedAll v (beside v out (refs_of_node h.slot.node)) c.release_main.new.actor.me.0) (sym c.in-Main.is)
    c.release_main.ensures.released
