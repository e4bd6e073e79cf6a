-- The branch over which a clear is to make its root it made last.
use Rattle.std.proofs.Common.{◌≡◌, Option, Some, None, ap, sym, arith, false, refl}
use Rattle.std.proofs.lemmas.Bool.{false≢true}
use Rattle.proof_followed.specs.Beneath.history.specs.declared.calls.Call.{Call}
use Rattle.proof_followed.specs.Beneath.slot_arena.specs.declared.refs.Ref.{Ref}
use Rattle.proof_followed.specs.Beneath.slot_arena.specs.Heaps.{next_ref}
use Rattle.proof_followed.specs.Beneath.machine_model.specs.declared.copying.CopyLine.{CopyLine}
use Rattle.proof_followed.specs.Beneath.machine_model.specs.declared.copying.CopyLine.TheVariants as copy
use Rattle.proof_followed.specs.Beneath.machine_model.specs.declared.lines.Line.{Line}
use Rattle.proof_followed.specs.Beneath.machine_model.specs.declared.lines.Line.TheVariants as line
use Rattle.proof_followed.specs.Beneath.machine_model.specs.declared.operations.Operation.{Operation}
use Rattle.proof_followed.specs.Beneath.machine_model.specs.declared.reading.After.{After}
use Rattle.proof_followed.specs.Beneath.machine_model.specs.declared.reading.After.TheVariants.{Goes, Gives}
use Rattle.proof_followed.specs.Beneath.machine_model.specs.declared.roots.RootLine.{RootLine}
use Rattle.proof_followed.specs.Beneath.machine_model.specs.Calls.{handle_of}
use Rattle.proof_followed.specs.Beneath.machine_model.specs.Copying.{after_successor, copy_if_made}
use Rattle.proof_followed.specs.Beneath.machine_model.specs.Operations.{after_root, first_line, from_root, line_after}
use Rattle.proof_followed.specs.Beneath.machine_model.specs.States.{State, word_at}
use Rattle.proof_followed.specs.Beneath.machine_model.specs.Swapping.{root_after}
use Rattle.proof_followed.specs.Beneath.proof_generations.proofs.Lines.Copy.{is_copy, no_copy_after}
use Rattle.proof_order.proofs.Openings.Branches.{IsCleared}

no_copy : (l : Line) (b : Ref) → is_copy l ≡ false → IsCleared l b → ⊥
no_copy (line.Copy l) b e is = false≢true (sym e)
no_copy l b e is = is

pub first_uncleared : (call : Call) (b : Ref) → IsCleared (first_line call) b → ⊥
first_uncleared call b is = grind arith

module _ (state : State) (operation : Operation) (b : Ref) where
  root_not : (call : Call) (r : Ref) → IsCleared (from_root call r) b → ⊥
  root_not call r is = grind arith

  successor_not : (call : Call) (root found made : Ref) → IsCleared (after_successor operation call root found made) b → ⊥
  successor_not call root found made is = grind arith

  copy_cleared : (l : CopyLine) → IsCleared (line_after state operation (line.Copy l)) b → next_ref state.heap ≡ Some b
  copy_cleared (copy.Empty root found) is = by (next_ref state.heap) is
    where
      by : (o : Option Ref) → IsCleared (copy_if_made operation (copy.Empty root found) o) b → o ≡ Some b
      by None is = absurd is
      by (Some made) is = ap Some is
  copy_cleared (copy.Successor root found) is = absurd (by (next_ref state.heap) is)
    where
      by : (o : Option Ref) → IsCleared (copy_if_made operation (copy.Successor root found) o) b → ⊥
      by None is = is
      by (Some made) is = successor_not operation.call root found made is
  copy_cleared l is = absurd (grind arith)

  root_uncleared : (l : RootLine) → IsCleared (line_after state operation (line.Root l)) b → ⊥
  root_uncleared l is = by (root_after state.heap operation.access (word_at state (handle_of operation.call)) l) is
    where
      by : (a : After RootLine Ref) → IsCleared (after_root operation a) b → ⊥
      by (Goes next) is = is
      by (Gives r) is = root_not operation.call r is

  pub cleared_made : (l : Line) → IsCleared (line_after state operation l) b → next_ref state.heap ≡ Some b
  cleared_made (line.Copy l) is = copy_cleared l is
  cleared_made (line.Root l) is = absurd (root_uncleared l is)
  cleared_made l is = absurd (no_copy (line_after state operation l) b (no_copy_after state operation l refl refl) is)
