-- RENEW, CLEAN and CLIMB.
use Rattle.std.specs.Prelude.{◌≡◌, ℕ, true, false, nat_lt, nat_eq, List, [], ◌∷◌, ◌++◌, length, Some, None}
use Rattle.std.specs.Cmp.Lexicographic.{pointwise}
use Rattle.history.specs.declared.replies.Reply.TheVariants as reply
use Rattle.machine_model.specs.Beneath.slot_arena.specs.declared.refs.Ref.{Ref}
use Rattle.machine_model.specs.Beneath.slot_arena.specs.declared.nodes.Node.TheVariants.{Indirection, Branch, Single, Tomb}
use Rattle.machine_model.specs.Beneath.slot_arena.specs.Heaps.{node_at, entries_of, generation_at, next_ref}
use Rattle.machine_model.specs.declared.operations.Operation.{Operation}
use Rattle.machine_model.specs.declared.lines.Line.{Line}
use Rattle.machine_model.specs.declared.lines.Line.TheVariants as line
use Rattle.machine_model.specs.declared.lines.Purpose.TheVariants as purpose
use Rattle.machine_model.specs.declared.reading.After.TheVariants.{Goes, Gives}
use Rattle.machine_model.specs.declared.reading.Read.{Read}
use Rattle.machine_model.specs.declared.repairs.Climb.{Climb}
use Rattle.machine_model.specs.declared.repairs.CleanLine.{CleanLine}
use Rattle.machine_model.specs.declared.repairs.CleanLine.TheVariants as clean
use Rattle.machine_model.specs.declared.repairs.ClimbLine.{ClimbLine}
use Rattle.machine_model.specs.declared.repairs.ClimbLine.TheVariants as climb
use Rattle.machine_model.specs.declared.repairs.RenewLine.{RenewLine}
use Rattle.machine_model.specs.declared.repairs.RenewLine.TheVariants as renew
use Rattle.machine_model.specs.declared.roots.RootLine.{RootLine}
use Rattle.machine_model.specs.States.{State}
use Rattle.machine_model.specs.Lines.{new_try}
use Rattle.machine_model.specs.Paths.{above, current, is_below_root, is_start}
use Rattle.machine_model.specs.Reading.{read_step, reading}
use Rattle.machine_model.specs.Swapping.{swapping}
use Rattle.machine_model.specs.Renewing.{next_entry}
use Rattle.machine_model.specs.Climbing.{climbed, higher, holds_it}
use Rattle.machine_model.specs.Edges.Roots.{root_step}

-- ---- RENEW

-- after the entries that are done
pub data RenewNext (state : State) (path : List Ref) (main : Ref) (done : List Ref) : Line → Type 0 where
  more : nat_lt (length done) (length (entries_of (node_at state.heap main))) ≡ true → RenewNext state path main done (line.Renew (renew.Entry path main done))
  all_done : nat_lt (length done) (length (entries_of (node_at state.heap main))) ≡ false → RenewNext state path main done (line.Renew (renew.Branch path main done))

pub data RenewEdge (state : State) (operation : Operation) : RenewLine → Line → Type 0 where
  meets_older : (path : List Ref) (main : Ref) (done : List Ref) (g w : ℕ) → node_at state.heap (next_entry state main done) ≡ Indirection g w →
      is_start operation g ≡ false → RenewEdge state operation (renew.Entry path main done) (line.Renew (renew.Read path main done (reading (next_entry state main done))))
  keeps_own : (path : List Ref) (main : Ref) (done : List Ref) (g w : ℕ) (next : Line) → node_at state.heap (next_entry state main done) ≡ Indirection g w →
      is_start operation g ≡ true → RenewNext state path main (done ++ next_entry state main done ∷ []) next → RenewEdge state operation (renew.Entry path main done) next
  keeps_single : (path : List Ref) (main : Ref) (done : List Ref) (k v : ℕ) (next : Line) → node_at state.heap (next_entry state main done) ≡ Single k v →
      RenewNext state path main (done ++ next_entry state main done ∷ []) next → RenewEdge state operation (renew.Entry path main done) next
  reads_on : (path : List Ref) (main : Ref) (done : List Ref) (r next : Read) → read_step state operation r ≡ Goes next →
      RenewEdge state operation (renew.Read path main done r) (line.Renew (renew.Read path main done next))
  gives : (path : List Ref) (main : Ref) (done : List Ref) (r : Read) (child : Ref) → read_step state operation r ≡ Gives child →
      RenewEdge state operation (renew.Read path main done r) (line.Renew (renew.Link path main done child))
  links : (path : List Ref) (main : Ref) (done : List Ref) (child made : Ref) (next : Line) → next_ref state.heap ≡ Some made →
      RenewNext state path main (done ++ made ∷ []) next → RenewEdge state operation (renew.Link path main done child) next
  branches : (path : List Ref) (main : Ref) (done : List Ref) (made : Ref) → next_ref state.heap ≡ Some made →
      RenewEdge state operation (renew.Branch path main done) (line.Swap (purpose.Renew path) (swapping (current path) main made))
  no_slot : (l : RenewLine) → next_ref state.heap ≡ None → RenewEdge state operation l (line.End reply.NoSlots)
  strays : (l : RenewLine) → RenewEdge state operation l line.Impossible

-- ---- CLEAN

-- after the entries that are done
pub data CleanNext (state : State) (path : List Ref) (main : Ref) (done : List Ref) : Line → Type 0 where
  more : nat_lt (length done) (length (entries_of (node_at state.heap main))) ≡ true → CleanNext state path main done (line.Clean (clean.Entry path main done))
  unchanged : nat_lt (length done) (length (entries_of (node_at state.heap main))) ≡ false → pointwise nat_eq done (entries_of (node_at state.heap main)) ≡ true →
      CleanNext state path main done new_try
  differs : nat_lt (length done) (length (entries_of (node_at state.heap main))) ≡ false → pointwise nat_eq done (entries_of (node_at state.heap main)) ≡ false →
      CleanNext state path main done (line.Clean (clean.Contracted path main done))

pub data CleanEdge (state : State) (operation : Operation) : CleanLine → Line → Type 0 where
  reads_on : (path : List Ref) (r next : Read) → read_step state operation r ≡ Goes next → CleanEdge state operation (clean.Read path r) (line.Clean (clean.Read path next))
  gives : (path : List Ref) (r : Read) (main : Ref) → read_step state operation r ≡ Gives main → CleanEdge state operation (clean.Read path r) (line.Clean (clean.Main path main))
  begins : (path : List Ref) (main : Ref) (b : ℕ) (es : _) (next : Line) → node_at state.heap main ≡ Branch b es → CleanNext state path main [] next →
      CleanEdge state operation (clean.Main path main) next
  no_branch : (path : List Ref) (main : Ref) → CleanEdge state operation (clean.Main path main) new_try
  meets_link : (path : List Ref) (main : Ref) (done : List Ref) (g w : ℕ) → node_at state.heap (next_entry state main done) ≡ Indirection g w →
      CleanEdge state operation (clean.Entry path main done) (line.Clean (clean.Child path main done (reading (next_entry state main done))))
  keeps_single : (path : List Ref) (main : Ref) (done : List Ref) (k v : ℕ) (next : Line) → node_at state.heap (next_entry state main done) ≡ Single k v →
      CleanNext state path main (done ++ next_entry state main done ∷ []) next → CleanEdge state operation (clean.Entry path main done) next
  child_on : (path : List Ref) (main : Ref) (done : List Ref) (r next : Read) → read_step state operation r ≡ Goes next →
      CleanEdge state operation (clean.Child path main done r) (line.Clean (clean.Child path main done next))
  child_given : (path : List Ref) (main : Ref) (done : List Ref) (r : Read) (child : Ref) → read_step state operation r ≡ Gives child →
      CleanEdge state operation (clean.Child path main done r) (line.Clean (clean.Tomb path main done child))
  untombs : (path : List Ref) (main : Ref) (done : List Ref) (child single : Ref) (next : Line) → node_at state.heap child ≡ Tomb single →
      CleanNext state path main (done ++ single ∷ []) next → CleanEdge state operation (clean.Tomb path main done child) next
  keeps_link : (path : List Ref) (main : Ref) (done : List Ref) (child : Ref) (next : Line) → CleanNext state path main (done ++ next_entry state main done ∷ []) next →
      CleanEdge state operation (clean.Tomb path main done child) next
  contracts : (path : List Ref) (main : Ref) (done : List Ref) (made : Ref) → next_ref state.heap ≡ Some made →
      CleanEdge state operation (clean.Contracted path main done) (line.Swap purpose.Clean (swapping (current path) main made))
  no_slot : (l : CleanLine) → next_ref state.heap ≡ None → CleanEdge state operation l (line.End reply.NoSlots)
  strays : (l : CleanLine) → CleanEdge state operation l line.Impossible

-- ---- CLIMB

-- where a climb begins or goes on, below a root or at one
pub data ClimbingEdge (operation : Operation) (c : Climb) : Line → Type 0 where
  climbs : is_below_root c.path ≡ true → ClimbingEdge operation c (line.Climb (climb.Read c (reading (current (above c.path)))))
  tops : is_below_root c.path ≡ false → ClimbingEdge operation c (climbed operation c.former)

pub data ClimbEdge (state : State) (operation : Operation) : ClimbLine → Line → Type 0 where
  reads_on : (c : Climb) (r next : Read) → read_step state operation r ≡ Goes next → ClimbEdge state operation (climb.Read c r) (line.Climb (climb.Read c next))
  gives : (c : Climb) (r : Read) (main : Ref) → read_step state operation r ≡ Gives main → ClimbEdge state operation (climb.Read c r) (line.Climb (climb.Main c main))
  goes_up : (c : Climb) (main single : Ref) (next : Line) → node_at state.heap main ≡ Tomb single → ClimbingEdge operation (higher c single) next →
      ClimbEdge state operation (climb.Main c main) next
  holds : (c : Climb) (main : Ref) (b : ℕ) (es : _) → node_at state.heap main ≡ Branch b es → holds_it state operation c main b es.items ≡ true →
      ClimbEdge state operation (climb.Main c main) (line.Climb (climb.Contracted c main))
  is_gone : (c : Climb) (main : Ref) (b : ℕ) (es : _) → node_at state.heap main ≡ Branch b es → holds_it state operation c main b es.items ≡ false →
      ClimbEdge state operation (climb.Main c main) (climbed operation c.former)
  contracts : (c : Climb) (main made : Ref) → next_ref state.heap ≡ Some made →
      ClimbEdge state operation (climb.Contracted c main) (line.Swap (purpose.Climb c) (swapping (current (above c.path)) main made))
  gives_up : (c : Climb) (main : Ref) → next_ref state.heap ≡ None → ClimbEdge state operation (climb.Contracted c main) (climbed operation c.former)
  root_on : (c : Climb) (l next : RootLine) → root_step state operation l ≡ Goes next → ClimbEdge state operation (climb.Root c l) (line.Climb (climb.Root c next))
  again : (c : Climb) (l : RootLine) (r : Ref) (next : Line) → root_step state operation l ≡ Gives r → is_start operation (generation_at state.heap r) ≡ true →
      ClimbingEdge operation c next → ClimbEdge state operation (climb.Root c l) next
  other_root : (c : Climb) (l : RootLine) (r : Ref) → root_step state operation l ≡ Gives r → is_start operation (generation_at state.heap r) ≡ false →
      ClimbEdge state operation (climb.Root c l) (climbed operation c.former)
  strays : (l : ClimbLine) → ClimbEdge state operation l line.Impossible
