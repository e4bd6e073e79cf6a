-- The branch over which a clear makes its new root is empty.
use Rattle.std.proofs.Common.{◌≡◌, ℕ, suc, ◌<◌, ◌≤◌, false, inl, inr, Option, Some, None, refl, sym, ap, subst, arith}
use Rattle.std.proofs.lemmas.Bool.{false≢true}
use Rattle.proof_order.specs.Vocabulary.{Call, Ref, empty_branch, next_ref, CopyLine, Line, Operation, After, Gives, RootLine, Bounds, Outcome, Step, handle_of, State, word_at, copy_if_made}
use Rattle.proof_order.specs.Vocabulary.{after_successor, root_after, line_action, line_after, first_line, after_root, node_under, Moves, IsRun, made_node}
use Rattle.proof_order.specs.Beneath.machine_model.specs.declared.copying.CopyLine.TheVariants as copy
use Rattle.proof_order.specs.Beneath.machine_model.specs.declared.lines.Line.TheVariants as line
use Rattle.proof_order.specs.Beneath.machine_model.specs.declared.reading.After.TheVariants.{Goes as Continues}
use Rattle.proof_order.specs.Beneath.machine_model.specs.declared.steps.Step.TheVariants as step
use Rattle.proof_order.specs.Beneath.machine_model.specs.Operations.{from_root}
use Rattle.proof_order.specs.Beneath.proof_memory.proofs.Safety.AtEachTime.{safe_at}
use Rattle.proof_generations.proofs.Handles.Running.{comes}
use Rattle.proof_generations.specs.Running.{Runs}
use Rattle.proof_generations.proofs.Lines.Copy.{is_copy, no_copy_after}
use Rattle.proof_generations.proofs.Handles.Operations.{ran_or_began}
use Rattle.proof_generations.proofs.Roots.Along.{ordered_at}
use Rattle.proof_order.proofs.Openings.AlongMoves.{along_moves}
use Rattle.proof_order.proofs.Openings.Fresh.{stands_made}
use Rattle.proof_order.proofs.Openings.InUse.{node_for_ever}

-- a line that is about to make a clear's root over this branch
abbrev pub IsCleared : Line → Ref → Type 0
IsCleared (line.Copy (copy.Cleared root found branch)) b = branch ≡ b
IsCleared l b = ⊥

no_copy : (l : Line) (b : Ref) → is_copy l ≡ false → IsCleared l b → ⊥
no_copy (line.Copy l) b e is = false≢true (sym e)
no_copy l b e is = is

-- it has just made it
MadeEmpty : State → Operation → Line → Ref → Type 0
MadeEmpty state operation l b = (made_node state (line_action state operation l) ≡ Some empty_branch) × (next_ref state.heap ≡ Some b)

module _ (state : State) (operation : Operation) (b : Ref) where
  first_not : (call : Call) → IsCleared (first_line call) b → ⊥
  first_not call is = grind arith

  root_not : (call : Call) (r : Ref) → IsCleared (from_root call r) b → ⊥
  root_not call r is = grind arith

  successor_not : (call : Call) (root found made : Ref) → IsCleared (after_successor operation call root found made) b → ⊥
  successor_not call root found made is = grind arith

  copy_makes : (l : CopyLine) → IsCleared (line_after state operation (line.Copy l)) b → MadeEmpty state operation (line.Copy l) b
  unfolding MadeEmpty
  copy_makes (copy.Read root r) is = absurd (grind arith)
  copy_makes (copy.Successor root found) is = absurd (by (next_ref state.heap) is)
    where
      by : (o : Option Ref) → IsCleared (copy_if_made operation (copy.Successor root found) o) b → ⊥
      by None is = is
      by (Some made) is = successor_not operation.call root found made is
  copy_makes (copy.Second root found successor) is = absurd (grind arith)
  copy_makes (copy.Empty root found) is = (refl, by (next_ref state.heap) is)
    where
      by : (o : Option Ref) → IsCleared (copy_if_made operation (copy.Empty root found) o) b → o ≡ Some b
      by None is = absurd is
      by (Some made) is = ap Some is
  copy_makes (copy.Cleared root found branch) is = absurd (grind arith)
  copy_makes (copy.Offer o) is = absurd (grind arith)
  copy_makes (copy.Complete c) is = absurd (grind arith)

  root_makes : (l : RootLine) → IsCleared (line_after state operation (line.Root l)) b → ⊥
  root_makes l is = by (root_after state.heap operation.access (word_at state (handle_of operation.call)) l) is
    where
      by : (a : After RootLine Ref) → IsCleared (after_root operation a) b → ⊥
      by (Continues next) is = is
      by (Gives r) is = root_not operation.call r is

  cleared_makes : (l : Line) → IsCleared (line_after state operation l) b → MadeEmpty state operation l b
  cleared_makes (line.Copy l) is = copy_makes l is
  cleared_makes (line.Root l) is = absurd (root_makes l is)
  cleared_makes l is = absurd (no_copy (line_after state operation l) b (no_copy_after state operation l refl refl) is)

module _ {limits : Bounds} {states : ℕ → State} {last : ℕ} (run : IsRun limits states last) where
  abbrev AllEmpty : ℕ → Type 0
  AllEmpty t = (k : ℕ) (operation : Operation) (b : Ref) → Runs (states t) k operation → IsCleared operation.line b → node_under states last b ≡ empty_branch

  module _ (t : ℕ) (within : t < last) (so_far : AllEmpty t) (s : Step) (o : Outcome) (m : Moves (states t) s o (states (suc t))) where
    empty_by : (k : ℕ) (was : Operation) (b : Ref) → Runs (states t) k was → s ≡ step.Go (suc k) → MadeEmpty (states t) was was.line b → node_under states last b ≡ empty_branch
    unfolding MadeEmpty
    empty_by k was b at_k go (makes, n) =
        let made = stands_made (states t) (safe_at run t (omega arith)) s o (states (suc t)) m k was go at_k empty_branch b makes n in
        node_for_ever run (suc t) b empty_branch within made.0 made.1 (λ g w e. let wrong : ⊥ = cc e in wrong)

    empty_next : AllEmpty (suc t)
    empty_next k found b now is =
        let I = ordered_at run t (omega arith) in
        elim (ran_or_began (states t) I.offers I.handles s k found (comes (states t) s o (states (suc t)) m k found now)) [
          | inl ran ↦ elim ran.line [
            | inl same ↦ so_far k ran.was b ran.at_k (subst (λ l. IsCleared l b) same is)
            | inr (inl goes) ↦ empty_by k ran.was b ran.at_k goes.0 (cleared_makes (states t) ran.was b ran.was.line (subst (λ l. IsCleared l b) goes.1 is))
            | inr (inr ended) ↦ absurd (subst (λ l. IsCleared l b) ended.1 is)
          ]
          | inr (call, number, begins, d, it) ↦ absurd (first_not (states t) found b call (subst (λ (x : Operation). IsCleared x.line b) it is))
        ]

  pub empty_at : (t : ℕ) → t ≤ last → AllEmpty t
  empty_at = along_moves run AllEmpty (λ none k operation b at_k. absurd (none k operation at_k)) (λ t h so_far s o m notes. empty_next t h so_far s o m)
