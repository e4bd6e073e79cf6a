-- How a seat's view goes on where more than its line changes: what it knew of nodes is so still, and its operation becomes another.
use Rattle.std.specs.Prelude.{◌≡◌, ℕ, Bool, ◌++◌, ◌∷◌, [], Some}
use Rattle.machine_model.specs.Beneath.slot_arena.specs.declared.refs.Ref.{Ref}
use Rattle.machine_model.specs.Beneath.slot_arena.specs.declared.nodes.Node.{Node}
use Rattle.machine_model.specs.Beneath.slot_arena.specs.declared.nodes.Slot.{Slot}
use Rattle.machine_model.specs.Beneath.slot_arena.specs.Heaps.{node_at}
use Rattle.machine_model.specs.declared.repairs.CleanLine.{CleanLine}
use Rattle.machine_model.specs.declared.repairs.CleanLine.TheVariants as clean
use Rattle.machine_model.specs.declared.repairs.ClimbLine.{ClimbLine}
use Rattle.machine_model.specs.declared.repairs.ClimbLine.TheVariants as climb
use Rattle.machine_model.specs.declared.repairs.RenewLine.{RenewLine}
use Rattle.machine_model.specs.declared.repairs.RenewLine.TheVariants as renew
use Rattle.machine_model.specs.declared.lines.Line.{Line}
use Rattle.machine_model.specs.declared.lines.Line.TheVariants as line
use Rattle.machine_model.specs.declared.operations.Operation.{Operation}
use Rattle.machine_model.specs.Building.{build_if_made}
use Rattle.machine_model.specs.Cleaning.{clean_after_contracted}
use Rattle.machine_model.specs.Climbing.{climb_after_contracted}
use Rattle.machine_model.specs.Copying.{copy_if_made}
use Rattle.machine_model.specs.Renewing.{renew_after_link, renew_after_branch}
use Rattle.machine_model.specs.Lines.{impossible}
use Rattle.machine_model.specs.States.{State}
use Rattle.proof_memory.specs.Laws.{SameNode}
use Rattle.lock_free.specs.declared.rules.View.{View}
use Rattle.lock_free.specs.Accounts.{place_of, IsOwn}
use Rattle.lock_free.specs.Loading.{now, Runs, IsUsed}
use Rattle.lock_free.specs.Passing.{IsPlaced}
use Rattle.lock_free.specs.Telling.{GoesOn}

-- more has happened, and the seat's own slots and those that it has retired are others, as are their links, the references that it holds itself and what it
-- has seen of the epoch; what it knew of nodes is so
pub record Follows (v w : View) : Type 0 where
  pub is : w ≡ record v { account = w.account; epoch = w.epoch; passed = w.passed; pool = w.pool; drafts = w.drafts; retired = w.retired; owed = w.owed; links = w.links }
  pub places : (r : Ref) (slot : Slot) → IsUsed v r slot → place_of w.account r ≡ place_of v.account r
  pub owns : (a b : Ref) (c : Bool) → IsOwn v.account a b c → IsOwn w.account a b c
  pub nodes : (r : Ref) (slot : Slot) → IsUsed v r slot → (later : Slot) × IsUsed w r later × SameNode slot.node later.node
  pub goes_on : GoesOn v.account.steps w.account.steps

-- each operation that ran runs on as this one
pub record HasBecome (next : Operation → Operation) (v w : View) : Type 0 where
  pub follows : Follows v w
  pub comes : (operation : Operation) → Runs v operation → Runs w (next operation)

-- each stays where it was
abbrev pub HasRested : View → View → Type 0
HasRested = HasBecome (λ operation. operation)

-- ---- the operation once it has made a node

abbrev pub renew_made : State → RenewLine → Ref → Line
renew_made state (renew.Link path main done child) made = renew_after_link state path main done (Some made)
renew_made state (renew.Branch path main done) made = renew_after_branch path main (Some made)
renew_made state l made = impossible

abbrev pub clean_made : CleanLine → Ref → Line
clean_made (clean.Contracted path main done) made = clean_after_contracted path main (Some made)
clean_made l made = impossible

abbrev pub climb_made : Operation → ClimbLine → Ref → Line
climb_made operation (climb.Contracted c main) made = climb_after_contracted operation c main (Some made)
climb_made operation l made = impossible

-- the line that comes after this one, which makes a node
abbrev pub line_made : State → Operation → Line → Ref → Line
line_made state operation (line.Build l) made = build_if_made state operation l (Some made)
line_made state operation (line.Renew l) made = renew_made state l made
line_made state operation (line.Clean l) made = clean_made l made
line_made state operation (line.Climb l) made = climb_made operation l made
line_made state operation (line.Copy l) made = copy_if_made operation l (Some made)
line_made state operation l made = impossible

-- with one node more of its own
abbrev pub made_on : State → Ref → Operation → Operation
made_on state made operation = record operation { private = operation.private ++ made ∷ []; line = line_made state operation operation.line made }

-- The operation has made this node, in this slot.
pub record HasNew (before : View) (node : Node) (name : ℕ) (after : View) : Type 0 where
  pub made : Ref
  pub placed : IsPlaced after made name
  pub node_is : node_at (now after).heap made ≡ node
  pub become : HasBecome (made_on (now before) made) before after
