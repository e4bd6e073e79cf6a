use Rattle.std.proofs.Common.{None, List, refl, sym, subst, ◌∙◌}
use Rattle.machine_model.specs.Beneath.slot_arena.specs.declared.refs.Ref.{Ref}
use Rattle.lock_free.specs.Halves.{entries_of_halves}
use Rattle.lock_free.specs.Raising.{MayRelease}
use Rattle.lock_free.proofs.Elsewhere.{may_release}
use Rattle.lock_free.proofs.LeftNames.{let_go_by}
use Rattle.lock_free.proofs.letting_go.release_others.Goals as goal

pub release_entries-requires-clause-owed : goal.release_entries-requires-clause-owed
release_entries-requires-clause-owed c =
    subst (λ hs. (refs : List Ref) × MayRelease c.args.actor.now.me.0 (entries_of_halves hs) None refs) (sym (c.deref.ensures.0 ∙ c.elsewhere-apart.ensures))
    (may_release c.args.actor.now.me.0 c.args.others.now c.args.halves.now c.requires.holds)

pub returns-clause-let_go : goal.returns-clause-let_go
returns-clause-let_go c =
    let v = c.args.actor.now.me.0 in
    let may = subst (λ hs. (refs : List Ref) × MayRelease v (entries_of_halves hs) None refs) (sym (c.deref.ensures.0 ∙ c.elsewhere-apart.ensures))
    (may_release v c.args.others.now c.args.halves.now c.requires.holds) in
    let_go_by v v c.release_entries.new.actor.me.0 refl _ (c.release_entries.ensures.released may.0 may.1).kept
