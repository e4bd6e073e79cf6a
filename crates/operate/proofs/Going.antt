-- What each line of a call on one key is told, asks and does.
use Rattle.std.specs.Prelude.{◌≡◌, ℕ, List, Option, Some, None, refl}
use Rattle.operate.specs.Vocabulary.{Access, Writable, ReadOnly, Reply, Ref, Node, Action, Line, Purpose, Operation, Climb, attempt_after, line_action, read_action, State, ReadAt, SwapAt, IsAsking}
use Rattle.operate.specs.Vocabulary.{line_of, swap_with, IsAskingLine, Table, acted_table, with_read, ChangeAt, CleanAt, ClimbAt, RenewAt, clean_line_at, climb_line_at, renew_line_at}
use Rattle.operate.specs.Beneath.machine_model.specs.declared.actions.Action.TheVariants as act
use Rattle.operate.specs.Beneath.machine_model.specs.declared.lines.Line.TheVariants as line
use Rattle.operate.specs.Beneath.machine_model.specs.declared.lines.Purpose.TheVariants as purpose
use Rattle.operate.specs.Beneath.gcas.specs.declared.read.Read.{Read}
use Rattle.operate.specs.Beneath.gcas.specs.declared.read.ReadAt.TheVariants as read
use Rattle.operate.specs.Beneath.gcas.specs.declared.swap.Swap.{Swap}
use Rattle.operate.specs.Beneath.gcas.specs.declared.swap.SwapAt.TheVariants as swap
use Rattle.operate.specs.Beneath.gcas.specs.Reads.{line_at}
use Rattle.operate.specs.Beneath.key_change.specs.declared.building.Building.TheVariants as building
use Rattle.operate.specs.Beneath.key_change.specs.declared.change.ChangeAt.TheVariants as change
use Rattle.operate.specs.Beneath.key_change.specs.Lines.{line_at as change_at}
use Rattle.contract.specs.declared.clean.CleanAt.TheVariants as clean
use Rattle.contract.specs.declared.climb.ClimbAt.TheVariants as climb
use Rattle.contract.specs.declared.renew.RenewAt.TheVariants as renew
use Rattle.operate.specs.Places.{answer_of}
use Rattle.operate.specs.Reach.{SwapsNoRoot}

-- ---- actions

abbrev pub LeavesRoots : Action → Type 0
LeavesRoots (act.Abort offer) = ⊥
LeavesRoots (act.Offer offer) = ⊥
LeavesRoots (act.Complete offer main) = ⊥
LeavesRoots (act.MakeRoot main) = ⊥
LeavesRoots action = Unit {0}

-- an action that changes no root word
pub record IsCalm (action : Action) : Type 0 where
  pub words : (roots : Table) (handle actor : ℕ) → acted_table roots handle actor action ≡ roots
  pub tries : (attempt : ℕ) → attempt_after attempt action ≡ attempt
  pub beside : SwapsNoRoot action
  pub leaves : LeavesRoots action

pub looks : (at : Ref) → IsCalm (act.Look at)
looks at = record { words = λ roots handle actor. refl; tries = λ attempt. refl; beside = tt; leaves = tt }

pub makes : (node : Node) → IsCalm (act.Make node)
makes node = record { words = λ roots handle actor. refl; tries = λ attempt. refl; beside = tt; leaves = tt }

pub ends : (answer : Reply) → IsCalm (act.End answer)
ends answer = record { words = λ roots handle actor. refl; tries = λ attempt. refl; beside = tt; leaves = tt }

pub reads_root : IsCalm act.ReadRoot
reads_root = record { words = λ roots handle actor. refl; tries = λ attempt. refl; beside = tt; leaves = tt }

reads_main : (i : Ref) → IsCalm (act.ReadMain i)
reads_main i = record { words = λ roots handle actor. refl; tries = λ attempt. refl; beside = tt; leaves = tt }

reads_prev : (m : Ref) → IsCalm (act.ReadPrev m)
reads_prev m = record { words = λ roots handle actor. refl; tries = λ attempt. refl; beside = tt; leaves = tt }

decides : (i m p : Ref) (told : Option ℕ) → IsCalm (act.Decide i m p told)
decides i m p told = record { words = λ roots handle actor. refl; tries = λ attempt. refl; beside = tt; leaves = tt }

restores : (i m p : Ref) → IsCalm (act.Restore i m p)
restores i m p = record { words = λ roots handle actor. refl; tries = λ attempt. refl; beside = tt; leaves = tt }

publishes : (i m p : Ref) → IsCalm (act.Publish i m p)
publishes i m p = record { words = λ roots handle actor. refl; tries = λ attempt. refl; beside = tt; leaves = tt }

-- ---- a READ

pub reads : (i : Ref) (access : Access) (told : Option ℕ) (place : ReadAt) → IsCalm (read_action i (line_at access told place))
reads i access told read.Main = reads_main i
reads i access told (read.Prev main) = reads_prev main
reads i ReadOnly told (read.Decide main previous) = decides i main previous None
reads i Writable None (read.Decide main previous) = reads_root
reads i Writable (Some generation) (read.Decide main previous) = decides i main previous (Some generation)
reads i access told (read.Restore main previous) = restores i main previous
reads i access told (read.Given main) = reads_main i

pub told_on : (access : Access) (generation : ℕ) (place : ReadAt) → IsAsking (line_at access (Some generation) place) → ⊥
told_on access generation read.Main asks = asks
told_on access generation (read.Prev main) asks = asks
told_on Writable generation (read.Decide main previous) asks = asks
told_on ReadOnly generation (read.Decide main previous) asks = asks
told_on access generation (read.Restore main previous) asks = asks
told_on access generation (read.Given main) asks = asks

-- ---- lines

-- what a program comes to by its READ, which may have been told the generation of the root
pub record IsKnown (r : Read) (lines : Option ℕ → Line) : Type 0 where
  pub tells : (told : Option ℕ) → lines told ≡ with_read (line_of r told) (lines None)
  pub untold : (generation : ℕ) → IsAskingLine (lines (Some generation)) → ⊥
  pub calm : (state : State) (operation : Operation) (told : Option ℕ) → IsCalm (line_action state operation (lines told))
  pub goes_on : (told : Option ℕ) → answer_of (lines told) ≡ None

pub swaps : (why : Purpose) (r : Read) (replaced fresh : Ref) (place : SwapAt) → IsKnown r (λ told. line.Swap why (swap_with r replaced fresh place (line_of r told)))
swaps why r replaced fresh swap.Publish =
    record { tells = λ told. refl; untold = λ generation asks. asks; calm = λ state operation told. publishes r.indirection replaced fresh; goes_on = λ told. refl }
swaps why r replaced fresh swap.Deciding =
    record {
      tells = λ told. refl;
      untold = λ generation asks. told_on r.access generation r.at asks;
      calm = λ state operation told. reads r.indirection r.access told r.at;
      goes_on = λ told. refl;
    }
swaps why r replaced fresh swap.Check =
    record { tells = λ told. refl; untold = λ generation asks. asks; calm = λ state operation told. reads_prev fresh; goes_on = λ told. refl }

pub changes : (path : List Ref) (s : Swap) (main : Ref) (place : ChangeAt) → IsKnown s.read (λ told. change_at path s told main place)
changes path s main (change.Sibling position former) =
    record { tells = λ told. refl; untold = λ generation asks. asks; calm = λ state operation told. looks _; goes_on = λ told. refl }
changes path s main (change.Build (building.Single site former)) =
    record { tells = λ told. refl; untold = λ generation asks. asks; calm = λ state operation told. makes _; goes_on = λ told. refl }
changes path s main (change.Build (building.Pair position single depth)) =
    record { tells = λ told. refl; untold = λ generation asks. asks; calm = λ state operation told. makes _; goes_on = λ told. refl }
changes path s main (change.Build (building.Link position below depth)) =
    record { tells = λ told. refl; untold = λ generation asks. asks; calm = λ state operation told. makes _; goes_on = λ told. refl }
changes path s main (change.Build (building.Rung position below depth)) =
    record { tells = λ told. refl; untold = λ generation asks. asks; calm = λ state operation told. makes _; goes_on = λ told. refl }
changes path s main (change.Build (building.Main c former)) =
    record { tells = λ told. refl; untold = λ generation asks. asks; calm = λ state operation told. makes _; goes_on = λ told. refl }
changes path s main (change.Swap former) = swaps (purpose.Update path former) s.read s.replaced s.fresh s.at

pub renews : (path : List Ref) (s : Swap) (main : Ref) (done : List Ref) (place : RenewAt) → IsKnown s.read (λ told. renew_line_at path s told main done place)
renews path s main done renew.Entry =
    record { tells = λ told. refl; untold = λ generation asks. asks; calm = λ state operation told. looks _; goes_on = λ told. refl }
renews path s main done renew.Read =
    record {
      tells = λ told. refl;
      untold = λ generation asks. told_on s.read.access generation s.read.at asks;
      calm = λ state operation told. reads s.read.indirection s.read.access told s.read.at;
      goes_on = λ told. refl;
    }
renews path s main done (renew.Link child) =
    record { tells = λ told. refl; untold = λ generation asks. asks; calm = λ state operation told. makes _; goes_on = λ told. refl }
renews path s main done renew.Branch =
    record { tells = λ told. refl; untold = λ generation asks. asks; calm = λ state operation told. makes _; goes_on = λ told. refl }
renews path s main done renew.Swap = swaps (purpose.Renew path) s.read s.replaced s.fresh s.at

pub cleans : (path : List Ref) (s : Swap) (main : Ref) (done : List Ref) (place : CleanAt) → IsKnown s.read (λ told. clean_line_at path s told main done place)
cleans path s main done clean.Read =
    record {
      tells = λ told. refl;
      untold = λ generation asks. told_on s.read.access generation s.read.at asks;
      calm = λ state operation told. reads s.read.indirection s.read.access told s.read.at;
      goes_on = λ told. refl;
    }
cleans path s main done clean.Main =
    record { tells = λ told. refl; untold = λ generation asks. asks; calm = λ state operation told. looks _; goes_on = λ told. refl }
cleans path s main done clean.Entry =
    record { tells = λ told. refl; untold = λ generation asks. asks; calm = λ state operation told. looks _; goes_on = λ told. refl }
cleans path s main done clean.Child =
    record {
      tells = λ told. refl;
      untold = λ generation asks. told_on s.read.access generation s.read.at asks;
      calm = λ state operation told. reads s.read.indirection s.read.access told s.read.at;
      goes_on = λ told. refl;
    }
cleans path s main done (clean.Tomb child) =
    record { tells = λ told. refl; untold = λ generation asks. asks; calm = λ state operation told. looks _; goes_on = λ told. refl }
cleans path s main done clean.Contracted =
    record { tells = λ told. refl; untold = λ generation asks. asks; calm = λ state operation told. makes _; goes_on = λ told. refl }
cleans path s main done clean.Swap = swaps purpose.Clean s.read s.replaced s.fresh s.at

pub climbs : (s : Swap) (c : Climb) (place : ClimbAt) → IsKnown s.read (λ told. climb_line_at s told c place)
climbs s c climb.Read =
    record {
      tells = λ told. refl;
      untold = λ generation asks. told_on s.read.access generation s.read.at asks;
      calm = λ state operation told. reads s.read.indirection s.read.access told s.read.at;
      goes_on = λ told. refl;
    }
climbs s c (climb.Main main) =
    record { tells = λ told. refl; untold = λ generation asks. asks; calm = λ state operation told. looks _; goes_on = λ told. refl }
climbs s c (climb.Contracted main) =
    record { tells = λ told. refl; untold = λ generation asks. asks; calm = λ state operation told. makes _; goes_on = λ told. refl }
climbs s c climb.Swap = swaps (purpose.Climb c) s.read s.replaced s.fresh s.at
