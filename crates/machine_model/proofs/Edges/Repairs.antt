-- A step of RENEW, CLEAN or CLIMB is one of its ways.
use Rattle.std.proofs.Common.{◌≡◌, nat_lt, nat_eq, List, length, Option, Some, None, refl}
use Rattle.std.specs.Cmp.Lexicographic.{pointwise}
use Rattle.std.proofs.lemmas.Bool.{cond_both}
use Rattle.machine_model.specs.Beneath.slot_arena.specs.declared.refs.Ref.{Ref}
use Rattle.machine_model.specs.Beneath.slot_arena.specs.declared.nodes.Node.{Node}
use Rattle.machine_model.specs.Beneath.slot_arena.specs.declared.nodes.Node.TheVariants.{Indirection, Branch, Single, Tomb}
use Rattle.machine_model.specs.Beneath.slot_arena.specs.Heaps.{node_at, entries_of, generation_at, next_ref}
use Rattle.machine_model.specs.declared.operations.Operation.{Operation}
use Rattle.machine_model.specs.declared.reading.After.{After}
use Rattle.machine_model.specs.declared.reading.After.TheVariants.{Goes, Gives}
use Rattle.machine_model.specs.declared.reading.Read.{Read}
use Rattle.machine_model.specs.declared.repairs.Climb.{Climb}
use Rattle.machine_model.specs.declared.repairs.CleanLine.{CleanLine}
use Rattle.machine_model.specs.declared.repairs.CleanLine.TheVariants as clean
use Rattle.machine_model.specs.declared.repairs.ClimbLine.{ClimbLine}
use Rattle.machine_model.specs.declared.repairs.ClimbLine.TheVariants as climb
use Rattle.machine_model.specs.declared.repairs.RenewLine.{RenewLine}
use Rattle.machine_model.specs.declared.repairs.RenewLine.TheVariants as renew
use Rattle.machine_model.specs.declared.roots.RootLine.{RootLine}
use Rattle.machine_model.specs.States.{State}
use Rattle.machine_model.specs.Paths.{is_below_root, is_start}
use Rattle.machine_model.specs.Reading.{read_step}
use Rattle.machine_model.specs.Renewing.{next_entry, renew_next, renew_after, renew_after_branch, renew_after_entry, renew_after_link, renew_after_read}
use Rattle.machine_model.specs.Cleaning.{clean_next, clean_after, clean_after_read, clean_after_main, clean_after_entry, after_child, clean_after_tomb, clean_after_contracted}
use Rattle.machine_model.specs.Climbing.{climbing, holds_it, climb_after, climb_after_read, climb_after_main, climb_after_contracted, climb_after_root}
use Rattle.machine_model.specs.Edges.Roots.{root_step}
use Rattle.machine_model.specs.Edges.Repairs.{RenewNext, RenewEdge, CleanNext, CleanEdge, ClimbingEdge, ClimbEdge, all_done, unchanged, differs, meets_older, keeps_own, links, branches, no_branch}
use Rattle.machine_model.specs.Edges.Repairs.{meets_link, child_on, child_given, untombs, keeps_link, climbs, tops, goes_up, holds, is_gone, gives_up, root_on, again, other_root}

-- ---- where they go on

pub renew_next_edge : (state : State) (path : List Ref) (main : Ref) (done : List Ref) → RenewNext state path main done (renew_next state path main done)
renew_next_edge state path main done =
    cond_both (nat_lt (length done) (length (entries_of (node_at state.heap main)))) _ _ (RenewNext state path main done) RenewNext.more all_done

pub clean_next_edge : (state : State) (path : List Ref) (main : Ref) (done : List Ref) → CleanNext state path main done (clean_next state path main done)
clean_next_edge state path main done =
    cond_both (nat_lt (length done) (length (entries_of (node_at state.heap main)))) _ _ (CleanNext state path main done) CleanNext.more
    (λ last. cond_both (pointwise nat_eq done (entries_of (node_at state.heap main))) _ _ (CleanNext state path main done) (unchanged last) (differs last))

pub climbing_edge : (operation : Operation) (c : Climb) → ClimbingEdge operation c (climbing operation c)
climbing_edge operation c = cond_both (is_below_root c.path) _ _ (ClimbingEdge operation c) climbs tops

module _ (state : State) (operation : Operation) where
  -- ---- RENEW, by what was seen or made

  renew_entry : (path : List Ref) (main : Ref) (done : List Ref) (n : Node) → node_at state.heap (next_entry state main done) ≡ n →
      RenewEdge state operation (renew.Entry path main done) (renew_after_entry state operation path main done (next_entry state main done) n)
  renew_entry path main done (Indirection g w) e =
      cond_both (is_start operation g) _ _ (RenewEdge state operation (renew.Entry path main done)) (λ own. keeps_own path main done g w _ e own (renew_next_edge state path main _))
      (meets_older path main done g w e)
  renew_entry path main done (Single k v) e = RenewEdge.keeps_single path main done k v _ e (renew_next_edge state path main _)
  renew_entry path main done n e = RenewEdge.strays _

  renew_read : (path : List Ref) (main : Ref) (done : List Ref) (r : Read) (a : After Read Ref) → read_step state operation r ≡ a →
      RenewEdge state operation (renew.Read path main done r) (renew_after_read path main done a)
  renew_read path main done r (Goes next) e = RenewEdge.reads_on path main done r next e
  renew_read path main done r (Gives child) e = RenewEdge.gives path main done r child e

  renew_link : (path : List Ref) (main : Ref) (done : List Ref) (child : Ref) (o : Option Ref) → next_ref state.heap ≡ o →
      RenewEdge state operation (renew.Link path main done child) (renew_after_link state path main done o)
  renew_link path main done child None e = RenewEdge.no_slot _ e
  renew_link path main done child (Some made) e = links path main done child made _ e (renew_next_edge state path main _)

  renew_branch : (path : List Ref) (main : Ref) (done : List Ref) (o : Option Ref) → next_ref state.heap ≡ o →
      RenewEdge state operation (renew.Branch path main done) (renew_after_branch path main o)
  renew_branch path main done None e = RenewEdge.no_slot _ e
  renew_branch path main done (Some made) e = branches path main done made e

  pub renew_edge : (l : RenewLine) → RenewEdge state operation l (renew_after state operation l)
  renew_edge (renew.Entry path main done) = renew_entry path main done _ refl
  renew_edge (renew.Read path main done r) = renew_read path main done r _ refl
  renew_edge (renew.Link path main done child) = renew_link path main done child _ refl
  renew_edge (renew.Branch path main done) = renew_branch path main done _ refl

  -- ---- CLEAN

  clean_read : (path : List Ref) (r : Read) (a : After Read Ref) → read_step state operation r ≡ a → CleanEdge state operation (clean.Read path r) (clean_after_read path a)
  clean_read path r (Goes next) e = CleanEdge.reads_on path r next e
  clean_read path r (Gives main) e = CleanEdge.gives path r main e

  clean_main : (path : List Ref) (main : Ref) (n : Node) → node_at state.heap main ≡ n → CleanEdge state operation (clean.Main path main) (clean_after_main state path main n)
  clean_main path main (Branch b es) e = CleanEdge.begins path main b es _ e (clean_next_edge state path main _)
  clean_main path main n e = no_branch path main

  clean_entry : (path : List Ref) (main : Ref) (done : List Ref) (n : Node) → node_at state.heap (next_entry state main done) ≡ n →
      CleanEdge state operation (clean.Entry path main done) (clean_after_entry state path main done (next_entry state main done) n)
  clean_entry path main done (Indirection g w) e = meets_link path main done g w e
  clean_entry path main done (Single k v) e = CleanEdge.keeps_single path main done k v _ e (clean_next_edge state path main _)
  clean_entry path main done n e = CleanEdge.strays _

  clean_child : (path : List Ref) (main : Ref) (done : List Ref) (r : Read) (a : After Read Ref) → read_step state operation r ≡ a →
      CleanEdge state operation (clean.Child path main done r) (after_child path main done a)
  clean_child path main done r (Goes next) e = child_on path main done r next e
  clean_child path main done r (Gives child) e = child_given path main done r child e

  clean_tomb : (path : List Ref) (main : Ref) (done : List Ref) (child : Ref) (n : Node) → node_at state.heap child ≡ n →
      CleanEdge state operation (clean.Tomb path main done child) (clean_after_tomb state path main done n)
  clean_tomb path main done child (Tomb single) e = untombs path main done child single _ e (clean_next_edge state path main _)
  clean_tomb path main done child n e = keeps_link path main done child _ (clean_next_edge state path main _)

  clean_contracted : (path : List Ref) (main : Ref) (done : List Ref) (o : Option Ref) → next_ref state.heap ≡ o →
      CleanEdge state operation (clean.Contracted path main done) (clean_after_contracted path main o)
  clean_contracted path main done None e = CleanEdge.no_slot _ e
  clean_contracted path main done (Some made) e = CleanEdge.contracts path main done made e

  pub clean_edge : (l : CleanLine) → CleanEdge state operation l (clean_after state operation l)
  clean_edge (clean.Read path r) = clean_read path r _ refl
  clean_edge (clean.Main path main) = clean_main path main _ refl
  clean_edge (clean.Entry path main done) = clean_entry path main done _ refl
  clean_edge (clean.Child path main done r) = clean_child path main done r _ refl
  clean_edge (clean.Tomb path main done child) = clean_tomb path main done child _ refl
  clean_edge (clean.Contracted path main done) = clean_contracted path main done _ refl

  -- ---- CLIMB

  climb_read : (c : Climb) (r : Read) (a : After Read Ref) → read_step state operation r ≡ a → ClimbEdge state operation (climb.Read c r) (climb_after_read c a)
  climb_read c r (Goes next) e = ClimbEdge.reads_on c r next e
  climb_read c r (Gives main) e = ClimbEdge.gives c r main e

  climb_main : (c : Climb) (main : Ref) (n : Node) → node_at state.heap main ≡ n → ClimbEdge state operation (climb.Main c main) (climb_after_main state operation c main n)
  climb_main c main (Tomb single) e = goes_up c main single _ e (climbing_edge operation _)
  climb_main c main (Branch b es) e = cond_both (holds_it state operation c main b es.items) _ _ (ClimbEdge state operation (climb.Main c main)) (holds c main b es e) (is_gone c main b es e)
  climb_main c main n e = ClimbEdge.strays _

  climb_contracted : (c : Climb) (main : Ref) (o : Option Ref) → next_ref state.heap ≡ o →
      ClimbEdge state operation (climb.Contracted c main) (climb_after_contracted operation c main o)
  climb_contracted c main None e = gives_up c main e
  climb_contracted c main (Some made) e = ClimbEdge.contracts c main made e

  climb_root : (c : Climb) (l : RootLine) (a : After RootLine Ref) → root_step state operation l ≡ a → ClimbEdge state operation (climb.Root c l) (climb_after_root state operation c a)
  climb_root c l (Goes next) e = root_on c l next e
  climb_root c l (Gives r) e =
      cond_both (is_start operation (generation_at state.heap r)) _ _ (ClimbEdge state operation (climb.Root c l)) (λ own. again c l r _ e own (climbing_edge operation c)) (other_root c l r e)

  pub climb_edge : (l : ClimbLine) → ClimbEdge state operation l (climb_after state operation l)
  climb_edge (climb.Read c r) = climb_read c r _ refl
  climb_edge (climb.Main c main) = climb_main c main _ refl
  climb_edge (climb.Contracted c main) = climb_contracted c main _ refl
  climb_edge (climb.Root c l) = climb_root c l _ refl
