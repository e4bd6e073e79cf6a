use Rattle.std.proofs.Common.{None, sym, ap, subst, ◌∙◌}
use Rattle.machine_model.specs.Beneath.slot_arena.specs.Heaps.{entries_of}
use Rattle.lock_free.specs.Halves.{entries_of_halves}
use Rattle.lock_free.specs.LeftNodes.{beside, HasSeenHalves}
use Rattle.lock_free.specs.Raising.{MayRelease}
use Rattle.lock_free.proofs.LeftNames.{may_release, released_from}
use Rattle.lock_free.proofs.freeing.release_left.Goals as goal

pub release_entries-requires-clause-owed : goal.release_entries-requires-clause-owed
release_entries-requires-clause-owed c =
    let v = c.args.actor.now.me.0 in
    let m = c.requires.left in
    let entries = entries_of_halves c.deref.result.now in
    let seen = subst (λ hs. HasSeenHalves v c.args.slot c.args.count (entries_of_halves hs)) (sym c.deref.ensures.0) c.see_left_halves.ensures.seen in
    let refs = beside v c.args.left_out.now (entries_of m.slot.node) in (
      refs,
      subst (λ (me : _). MayRelease me.0 (entries_of_halves c.deref-2.result.now) None refs) (sym c.see_left_halves.ensures.same)
          (subst (λ es. MayRelease v es None refs) (sym (ap entries_of_halves c.deref-2.ensures.0 ∙ c.beside-others.ensures))
          (may_release c.args.words.now.table_id.words v c.requires.sound c.args.slot c.args.left_out.now c.args.count entries m seen)),
    )

pub returns-clause-released : goal.returns-clause-released
returns-clause-released c m =
    let v = c.args.actor.now.me.0 in
    let u = c.see_left_halves.new.actor.me.0 in
    let entries = entries_of_halves c.deref.result.now in
    let seen = subst (λ hs. HasSeenHalves v c.args.slot c.args.count (entries_of_halves hs)) (sym c.deref.ensures.0) c.see_left_halves.ensures.seen in
    let refs = beside v c.args.left_out.now (entries_of m.slot.node) in
    released_from v u c.release_entries.new.actor.me.0 refs (ap (λ (me : _). me.0) c.see_left_halves.ensures.same)
    (c.release_entries.ensures.released refs
    (subst (λ (me : _). MayRelease me.0 (entries_of_halves c.deref-2.result.now) None refs) (sym c.see_left_halves.ensures.same)
    (subst (λ es. MayRelease v es None refs) (sym (ap entries_of_halves c.deref-2.ensures.0 ∙ c.beside-others.ensures))
    (may_release c.args.words.now.table_id.words v c.requires.sound c.args.slot c.args.left_out.now c.args.count entries m seen))))
