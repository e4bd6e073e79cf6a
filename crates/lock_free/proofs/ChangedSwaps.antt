-- From a changed main node to the end of its SWAP.
use Rattle.std.proofs.Common.{◌≡◌, ℕ, true, List, [], Option, Some, None, refl, sym, ap, subst, ◌∙◌}
use Rattle.machine_model.specs.Beneath.slot_arena.specs.declared.refs.Ref.{Ref}
use Rattle.machine_model.specs.Beneath.slot_arena.specs.Heaps.{no_ref, node_at}
use Rattle.machine_model.specs.declared.building.BuildLine.TheVariants as build
use Rattle.machine_model.specs.declared.lines.Line.{Line}
use Rattle.machine_model.specs.declared.lines.Line.TheVariants as line
use Rattle.machine_model.specs.declared.lines.Purpose.TheVariants as purpose
use Rattle.machine_model.specs.declared.operations.Operation.{Operation}
use Rattle.machine_model.specs.Paths.{current}
use Rattle.machine_model.specs.Swapping.{swapping}
use Rattle.lock_free.specs.declared.reading.Given.{Given}
use Rattle.lock_free.specs.declared.reading.Way.{Way}
use Rattle.lock_free.specs.declared.rules.View.{View}
use Rattle.lock_free.specs.declared.swapping.Swapped.{Swapped}
use Rattle.lock_free.specs.declared.swapping.Swapped.TheVariants.{Commits, Fails, Misses}
use Rattle.lock_free.specs.BuildingUp.{grown}
use Rattle.lock_free.specs.Loading.{now, Runs}
use Rattle.lock_free.specs.Passing.{IsOnWay}
use Rattle.lock_free.specs.Stocks.{HasSwapped}
use Rattle.lock_free.specs.Swaps.{is_done, swap_done, IsAtSwap, IsSwapping, SwapDrops}
use Rattle.lock_free.proofs.Followings.{follows_both, link_on, main_node_on, placed_on}
use Rattle.lock_free.proofs.Reachings.{reached_new, way_then}
use Rattle.machine_model.specs.Beneath.slot_arena.specs.declared.nodes.Node.{Node}
use Rattle.machine_model.specs.declared.building.Change.{Change}
use Rattle.machine_model.specs.declared.building.Change.TheVariants as change
use Rattle.machine_model.specs.Operations.{after_update}
use Rattle.machine_model.specs.Paths.{flag_in}
use Rattle.proof_memory.specs.Wants.{is_branch_or_list}
use Rattle.lock_free.specs.declared.changing.Edit.{Edit}
use Rattle.lock_free.specs.Becoming.{HasNew}
use Rattle.lock_free.specs.BuildingUp.{HasReached}
use Rattle.lock_free.specs.Changing.{drops_of, HasBuilt, IsChanging}
use Rattle.lock_free.specs.Loading.{IsSound}
use Rattle.lock_free.specs.Updating.{changed_by, HasChanged, HasChangedBy, IsAtChange}
use Rattle.lock_free.proofs.AfterChanges.{after_changed, grown_to}
use Rattle.lock_free.proofs.ChangedMains.{at_make, its_node, kind, known_node}
use Rattle.lock_free.proofs.OnLines.{line_is}
use Rattle.lock_free.specs.Leaving.{HasLeftSwap, IsUpdate, LeavesChange, LeavesSwap}
use Rattle.lock_free.specs.declared.leaving.Swapping.{Swapping}
use Rattle.lock_free.proofs.RunningOn.{runs_on_become}
use Rattle.lock_free.proofs.SwapsBegun.{leaves_swap, told_so}
use Rattle.lock_free.specs.declared.leaving.Drops.{Drops}
use Rattle.lock_free.specs.Dropping.{AreDropped}
use Rattle.lock_free.proofs.DroppedEntries.{drops_new}
use Rattle.lock_free.specs.Classes.{shape_class}
use Rattle.lock_free.proofs.MainClasses.{class_known}
use Rattle.lock_free.proofs.NewNodes.{class_on}

parts_in : Line → List Ref × Change × Option ℕ
parts_in (line.Build (build.Main path main its former)) = (path, its, former)
parts_in l = ([], change.Insert no_ref, None)

module _ (n : ℕ) (v w : View) (sound : IsSound n v) (indirection : ℕ) (given : Given) (flag : ℕ) (e : Edit) (at : IsAtChange v indirection given flag e) where
  abbrev h : IsChanging v given.link.main given.header.shape flag e
  h = at.changing

  abbrev now_line : Line
  now_line = line.Build (build.Main h.path h.main h.its h.former)

  abbrev node : Node
  node = its_node n v sound given.link.main given.header.shape flag e h

  pub no_change : HasBuilt v None w → HasChanged v None w
  no_change built path main its former other = built node (at_make n v sound given.link.main given.header.shape flag e h)

  module _ (name : ℕ) (built : HasBuilt v (Some name) w) where
    abbrev new : HasNew v node name w
    new = built node (at_make n v sound given.link.main given.header.shape flag e h)

    abbrev next : Line
    next = line.Swap (purpose.Update h.path h.former) (swapping (current h.path) h.main new.made)

    reached : HasReached v next w
    reached = reached_new v w now_line h.on node name new next (λ o r. refl)

    pub change_way : (way : Way) → IsOnWay v way → IsOnWay w way
    change_way = way_then v w now_line next h.on reached

    swaps : IsSwapping w (purpose.Update h.path h.former) (current h.path) h.main new.made
    swaps = (grown reached.more next h.on.0, reached.become.comes h.on.0 h.on.1, refl)

    pub change_ready : (class : ℕ) → class ≡ shape_class given.header.shape → IsAtSwap w indirection given.link class name
    change_ready class is = (
      purpose.Update h.path h.former,
      current h.path,
      h.main,
      new.made,
      swaps,
      placed_on v w new.become.follows (current h.path) indirection at.placed,
      link_on v w new.become.follows (current h.path) h.main given.link at.link,
      new.placed,
      class_on v w new.become.follows h.main at.link.main_used ∙ class_known n v sound h.main h.header h.known ∙ ap shape_class h.is_shape ∙ sym is,
    )

    -- what it drops
    pub change_told : (d : Drops) → d ≡ drops_of e → SwapDrops w d
    change_told d is =
        told_so w (purpose.Update h.path h.former) (current h.path) h.main new.made swaps d
        (subst (AreDropped w h.main new.made) (sym is)
        (drops_new n v sound given.link.main given.header.shape flag e h w new.made (flag_in (now v) (record h.on.0 { is_marked = h.on.1.0 }) h.path) new.node_is
        (main_node_on v w new.become.follows h.main h.known.slot h.known.used h.known.is_main)))

    comes_by : (s : Swapped) (o : Operation) → swap_done (purpose.Update h.path h.former) (node_at (now w).heap new.made) (is_done s) (grown reached.more next o) ≡ changed_by h.path h.former h.its s o
    comes_by (Commits had) o =
        ap (λ l. record o { private = []; line = l })
        (ap (after_update (grown reached.more next o) h.path h.former) new.node_is
        ∙ after_changed (grown reached.more next o) h.path h.former (flag_in (now v) (record h.on.0 { is_marked = h.on.1.0 }) h.path) (node_at (now v).heap h.main) h.its
        (subst (λ x. is_branch_or_list x ≡ true) (sym (known_node n v sound given.link.main given.header.shape flag e h)) (kind n v sound given.link.main given.header.shape flag e h))
        ∙ grown_to o h.path h.former reached.more next h.its)
    comes_by (Fails r) o = refl
    comes_by Misses o = refl

    pub change_done : (s : Swapped) (after : View) → HasSwapped w s after → HasChanged v (Some s) after
    unfolding parts_in
    change_done s after swapped path main its former other =
        let done = swapped (purpose.Update h.path h.former) (current h.path) h.main new.made swaps in
        subst (λ (z : List Ref × Change × Option ℕ). HasChangedBy v z.0 z.2 z.1 (Some s) after) (ap parts_in (sym (line_is v now_line h.on other.0 other.1) ∙ other.2))
        (record {
          follows = follows_both v w after new.become.follows done.follows;
          comes = λ o r. subst (Runs after) (comes_by s o) (done.comes (grown reached.more next o) (reached.become.comes o r));
        })

    -- its SWAP is under way
    pub change_left : (s : Swapping) (x : View) → HasLeftSwap w s x → LeavesChange v s x
    unfolding parts_in
    change_left s x left path main its former other =
        subst (λ (z : List Ref × Change × Option ℕ). LeavesSwap (IsUpdate z.2) v s x) (ap parts_in (sym (line_is v now_line h.on other.0 other.1) ∙ other.2))
        (leaves_swap (IsUpdate h.former) v w x s (runs_on_become v w (grown reached.more next) (λ o. refl) reached.become) (purpose.Update h.path h.former) (current h.path) h.main new.made swaps refl
        left)
