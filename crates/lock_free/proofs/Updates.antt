-- From BUILD to the end of the SWAP after it.
use Rattle.std.proofs.Common.{◌≡◌, ℕ, List, [], Option, Some, None, refl, sym, ap, subst, ◌∙◌}
use Rattle.machine_model.specs.Beneath.slot_arena.specs.declared.refs.Ref.{Ref}
use Rattle.machine_model.specs.Beneath.slot_arena.specs.Heaps.{node_at}
use Rattle.machine_model.specs.declared.building.BuildLine.TheVariants as build
use Rattle.machine_model.specs.declared.building.Site.{Site}
use Rattle.machine_model.specs.declared.lines.Line.{Line}
use Rattle.machine_model.specs.declared.lines.Line.TheVariants as line
use Rattle.machine_model.specs.declared.lines.Purpose.TheVariants as purpose
use Rattle.machine_model.specs.declared.operations.Operation.{Operation}
use Rattle.machine_model.specs.Paths.{current}
use Rattle.machine_model.specs.Swapping.{swapping}
use Rattle.lock_free.specs.declared.building.Builder.{Builder}
use Rattle.lock_free.specs.declared.reading.Given.{Given}
use Rattle.lock_free.specs.declared.reading.Way.{Way}
use Rattle.lock_free.specs.declared.rules.View.{View}
use Rattle.lock_free.specs.declared.swapping.Swapped.{Swapped}
use Rattle.lock_free.specs.declared.swapping.Swapped.TheVariants.{Commits, Fails, Misses}
use Rattle.lock_free.specs.BuildingUp.{drops_at, grown, HasBuiltSingle, HasFresh}
use Rattle.lock_free.specs.Holding.{IsOn}
use Rattle.lock_free.specs.Loading.{now, Runs}
use Rattle.lock_free.specs.Passing.{IsOnWay}
use Rattle.lock_free.specs.Stocks.{HasSwapped}
use Rattle.lock_free.specs.Swaps.{is_done, swap_done, IsAtSwap, IsSwapping, SwapDrops}
use Rattle.lock_free.specs.Updating.{updated, HasUpdated, IsAtUpdate}
use Rattle.lock_free.proofs.Followings.{follows_both, placed_on}
use Rattle.lock_free.proofs.Reachings.{main_then, way_then}
use Rattle.lock_free.specs.Leaving.{HasLeftSwap, IsUpdate, LeavesSwap}
use Rattle.lock_free.specs.declared.leaving.Swapping.{Swapping}
use Rattle.lock_free.proofs.RunningOn.{runs_on_become}
use Rattle.lock_free.proofs.SwapsBegun.{leaves_swap, told_so}
use Rattle.lock_free.specs.declared.leaving.Drops.{Drops}
use Rattle.lock_free.specs.Dropping.{AreDropped}
use Rattle.lock_free.specs.Classes.{shape_class}
use Rattle.lock_free.specs.Loading.{IsSound}
use Rattle.lock_free.proofs.MainClasses.{class_known}
use Rattle.lock_free.proofs.NewNodes.{class_on}

module _ (v w : View) (by : Builder) (given : Given) (place : Site) (former : Option ℕ) (indirection : ℕ) (at : IsAtUpdate v by given place former indirection) where
  abbrev path : List Ref
  path = at.0.0

  abbrev main : Ref
  main = at.0.1

  abbrev first : Line
  first = line.Build (build.Single path main place former)

  abbrev on : IsOn v first
  on = at.0.2

  pub no_update : HasBuiltSingle v place former None w → HasUpdated v former None w
  no_update g = g path main on

  module _ (name : ℕ) (g : HasBuiltSingle v place former (Some name) w) where
    abbrev f : HasFresh v path main place former name w
    f = g path main on

    abbrev then : Line
    then = line.Swap (purpose.Update path former) (swapping (current path) main f.fresh)

    pub way_on : (way : Way) → IsOnWay v way → IsOnWay w way
    way_on = way_then v w first then on f.reached

    this : IsSwapping w (purpose.Update path former) (current path) main f.fresh
    this = (grown f.reached.more then on.0, f.reached.become.comes on.0 on.1, refl)

    pub swap_ready : (n : ℕ) → IsSound n v → (class : ℕ) → class ≡ shape_class given.header.shape → IsAtSwap w indirection given.link class name
    swap_ready n sound class is = (
      purpose.Update path former,
      current path,
      main,
      f.fresh,
      this,
      placed_on v w f.reached.become.follows (current path) indirection at.1,
      (main_then v w first then on f.reached path main given at.0.4).link,
      f.placed,
      class_on v w f.reached.become.follows main at.0.4.link.main_used ∙ class_known n v sound main given.header at.0.4.header ∙ sym is,
    )

    -- what it drops
    pub update_told : (d : Drops) → d ≡ drops_at place → SwapDrops w d
    update_told d is = told_so w (purpose.Update path former) (current path) main f.fresh this d (subst (AreDropped w main f.fresh) (sym is) f.drops)

    comes_to : (s : Swapped) (o : Operation) → swap_done (purpose.Update path former) (node_at (now w).heap f.fresh) (is_done s) (grown f.reached.more then o) ≡ updated former s o
    comes_to (Commits had) o = ap (λ l. record o { private = []; line = l }) (f.answers (grown f.reached.more then o))
    comes_to (Fails r) o = refl
    comes_to Misses o = refl

    pub update_done : (s : Swapped) (after : View) → HasSwapped w s after → HasUpdated v former (Some s) after
    update_done s after swapped =
        let done = swapped (purpose.Update path former) (current path) main f.fresh this in
        record {
          follows = follows_both v w after f.reached.become.follows done.follows;
          comes = λ o r. subst (Runs after) (comes_to s o) (done.comes (grown f.reached.more then o) (f.reached.become.comes o r));
        }

    -- its SWAP is under way
    pub update_left : (s : Swapping) (x : View) → HasLeftSwap w s x → LeavesSwap (IsUpdate former) v s x
    update_left s x h =
        leaves_swap (IsUpdate former) v w x s (runs_on_become v w (grown f.reached.more then) (λ o. refl) f.reached.become) (purpose.Update path former) (current path) main f.fresh this refl h
