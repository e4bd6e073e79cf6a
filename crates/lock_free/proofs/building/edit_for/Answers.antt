use Rattle.std.proofs.Common.{Some, None, false, sym, subst}
use Rattle.lock_free.specs.declared.changing.Edit.TheVariants as edit
use Rattle.lock_free.specs.BuildingUp.{HasEdit, IsAtSite}
use Rattle.lock_free.proofs.SingleSites.{absent_edit, at_edit, pair_at, beside_none, beside_edit}
use Rattle.lock_free.proofs.building.edit_for.Goals as goal

pub returns-in-Absent-clause-edit : goal.returns-in-Absent-clause-edit
returns-in-Absent-clause-edit c =
    subst (λ s. HasEdit c.args.actor.now.me.0 s c.args.former (Some (edit.Insert c.args.single)) c.args.actor.now.me.0) (sym c.in-Absent.is)
    (absent_edit c.args.actor.now.me.0 c.args.by c.args.given c.args.former c.args.single
    (subst (λ s. IsAtSite c.args.actor.now.me.0 c.args.by c.args.given s c.args.former c.args.single) c.in-Absent.is c.requires.at))

pub returns-in-At-clause-edit : goal.returns-in-At-clause-edit
returns-in-At-clause-edit c =
    subst (λ s. HasEdit c.args.actor.now.me.0 s c.args.former (Some (edit.Update c.in-At.position c.args.single)) c.args.actor.now.me.0) (sym c.in-At.is)
    (at_edit c.args.actor.now.me.0 c.args.by c.args.given c.args.former c.args.single c.in-At.position
    (subst (λ s. IsAtSite c.args.actor.now.me.0 c.args.by c.args.given s c.args.former c.args.single) c.in-At.is c.requires.at))

pub build_beside-requires-clause-at : goal.build_beside-requires-clause-at
build_beside-requires-clause-at c =
    pair_at c.args.actor.now.me.0 c.args.by c.args.given c.args.former c.args.single c.in-Beside.position
    (subst (λ s. IsAtSite c.args.actor.now.me.0 c.args.by c.args.given s c.args.former c.args.single) c.in-Beside.is c.requires.at)

pub returns-in_err-slot-in-Beside-clause-edit : goal.returns-in_err-slot-in-Beside-clause-edit
returns-in_err-slot-in-Beside-clause-edit c =
    subst (λ r. HasEdit c.args.actor.now.me.0 c.args.site c.args.former r c.build_beside.new.actor.me.0) (sym c.from_residual.ensures)
    (subst (λ s. HasEdit c.args.actor.now.me.0 s c.args.former None c.build_beside.new.actor.me.0) (sym c.in-Beside.is)
    (beside_none c.args.actor.now.me.0 c.args.by c.args.given c.args.former c.args.single c.in-Beside.position c.build_beside.new.actor.me.0 (c.in_err-slot-in-Beside.ensures {u = tt}).paired))

pub returns-in_ok-slot-in-Beside-clause-edit : goal.returns-in_ok-slot-in-Beside-clause-edit
returns-in_ok-slot-in-Beside-clause-edit c =
    subst (λ s. HasEdit c.args.actor.now.me.0 s c.args.former (Some (edit.Update c.in-Beside.position (record { slot = c.in_ok-slot-in-Beside.slot; own = false; is_single = false })))
    c.build_beside.new.actor.me.0) (sym c.in-Beside.is)
    (beside_edit c.args.actor.now.me.0 c.args.by c.args.given c.args.former c.args.single c.in-Beside.position c.build_beside.new.actor.me.0 c.in_ok-slot-in-Beside.slot
    (c.in_ok-slot-in-Beside.ensures {u = tt}).paired)
