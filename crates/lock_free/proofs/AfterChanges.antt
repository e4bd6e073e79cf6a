-- What comes after the SWAP of a changed main node.
use Rattle.std.proofs.Common.{◌≡◌, ℕ, true, List, Option, refl, sym}
use Rattle.std.proofs.lemmas.Bool.{true≢false}
use Rattle.machine_model.specs.Beneath.slot_arena.specs.declared.refs.Ref.{Ref}
use Rattle.machine_model.specs.Beneath.slot_arena.specs.declared.nodes.Node.{Node}
use Rattle.machine_model.specs.Beneath.slot_arena.specs.declared.nodes.Node.TheVariants.{Branch, Indirection, List as Listed, Single, Tomb}
use Rattle.machine_model.specs.declared.building.Change.{Change}
use Rattle.machine_model.specs.declared.building.Change.TheVariants as change
use Rattle.machine_model.specs.declared.lines.Line.{Line}
use Rattle.machine_model.specs.declared.operations.Operation.{Operation}
use Rattle.machine_model.specs.Building.{changed}
use Rattle.machine_model.specs.Climbing.{climbed}
use Rattle.machine_model.specs.Operations.{after_update}
use Rattle.proof_memory.specs.Wants.{is_branch_or_list}
use Rattle.lock_free.specs.declared.changing.Edit.{Edit}
use Rattle.lock_free.specs.declared.changing.Edit.TheVariants as edit
use Rattle.lock_free.specs.declared.rules.View.{View}
use Rattle.lock_free.specs.BuildingUp.{grown}
use Rattle.lock_free.specs.Changing.{IsChange, IsNoTomb}
use Rattle.lock_free.specs.Updating.{changed_to}

module _ (o : Operation) (path : List Ref) (former : Option ℕ) where
  pub after_changed : (flag : ℕ) (node : Node) (c : Change) → is_branch_or_list node ≡ true → after_update o path former (changed flag node c) ≡ changed_to path former c o
  after_changed flag (Branch bitmap es) (change.Insert single) branch = refl
  after_changed flag (Branch bitmap es) (change.Update position other) branch = refl
  after_changed flag (Branch bitmap es) (change.Remove position) branch = refl
  after_changed flag (Branch bitmap es) (change.Entomb single) branch = refl
  after_changed flag (Listed es) (change.Insert single) list = refl
  after_changed flag (Listed es) (change.Update position other) list = refl
  after_changed flag (Listed es) (change.Remove position) list = refl
  after_changed flag (Listed es) (change.Entomb single) list = refl
  after_changed flag (Single key value) c none = absurd (true≢false (sym none))
  after_changed flag (Indirection generation main) c none = absurd (true≢false (sym none))
  after_changed flag (Tomb single) c none = absurd (true≢false (sym none))

  -- a change that makes no tomb is answered
  pub is_answered : (v : View) (e : Edit) (c : Change) → IsChange v e c → IsNoTomb e → changed_to path former c o ≡ climbed o former
  is_answered v e (change.Insert single) is kept = refl
  is_answered v e (change.Update position other) is kept = refl
  is_answered v e (change.Remove position) is kept = refl
  is_answered v (edit.Entomb name) (change.Entomb single) is kept = absurd kept
  is_answered v (edit.Insert entry) (change.Entomb single) is kept = absurd is
  is_answered v (edit.Update position entry) (change.Entomb single) is kept = absurd is
  is_answered v (edit.Remove position) (change.Entomb single) is kept = absurd is

  -- whatever it has made
  pub grown_to : (more : List Ref) (l : Line) (c : Change) → changed_to path former c (grown more l o) ≡ changed_to path former c o
  grown_to more l (change.Insert single) = refl
  grown_to more l (change.Update position other) = refl
  grown_to more l (change.Remove position) = refl
  grown_to more l (change.Entomb single) = refl
