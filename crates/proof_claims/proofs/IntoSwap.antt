-- Who is in a SWAP after its step was in it before, or has made its fresh node.
use Rattle.std.proofs.Common.{◌≡◌, ℕ, Bool, true, false, List, Option, Some, None, refl, sym, ap, ◌∙◌, arith}
use Rattle.std.proofs.lemmas.Bool.{true≢false}
use Rattle.proof_claims.specs.Beneath.slot_arena.specs.declared.refs.Ref.{Ref}
use Rattle.proof_claims.specs.Beneath.slot_arena.specs.Heaps.{next_ref, node_at}
use Rattle.proof_claims.specs.Beneath.machine_model.specs.declared.building.BuildLine.{BuildLine}
use Rattle.proof_claims.specs.Beneath.machine_model.specs.declared.building.BuildLine.TheVariants as build
use Rattle.proof_claims.specs.Beneath.machine_model.specs.declared.copying.CopyLine.{CopyLine}
use Rattle.proof_claims.specs.Beneath.machine_model.specs.declared.finding.KeyLine.{KeyLine}
use Rattle.proof_claims.specs.Beneath.machine_model.specs.declared.lines.Line.{Line}
use Rattle.proof_claims.specs.Beneath.machine_model.specs.declared.lines.Line.TheVariants as line
use Rattle.proof_claims.specs.Beneath.machine_model.specs.declared.lines.Purpose.{Purpose}
use Rattle.proof_claims.specs.Beneath.machine_model.specs.declared.operations.Operation.{Operation}
use Rattle.proof_claims.specs.Beneath.machine_model.specs.declared.reading.After.{After}
use Rattle.proof_claims.specs.Beneath.machine_model.specs.declared.reading.After.TheVariants.{Goes, Gives}
use Rattle.proof_claims.specs.Beneath.machine_model.specs.declared.reading.Swap.{Swap}
use Rattle.proof_claims.specs.Beneath.machine_model.specs.declared.reading.SwapLine.TheVariants as swap
use Rattle.proof_claims.specs.Beneath.machine_model.specs.declared.repairs.CleanLine.{CleanLine}
use Rattle.proof_claims.specs.Beneath.machine_model.specs.declared.repairs.CleanLine.TheVariants as clean
use Rattle.proof_claims.specs.Beneath.machine_model.specs.declared.repairs.ClimbLine.{ClimbLine}
use Rattle.proof_claims.specs.Beneath.machine_model.specs.declared.repairs.ClimbLine.TheVariants as climb
use Rattle.proof_claims.specs.Beneath.machine_model.specs.declared.repairs.RenewLine.{RenewLine}
use Rattle.proof_claims.specs.Beneath.machine_model.specs.declared.repairs.RenewLine.TheVariants as renew
use Rattle.proof_claims.specs.Beneath.machine_model.specs.declared.roots.RootLine.{RootLine}
use Rattle.proof_claims.specs.Beneath.machine_model.specs.declared.walking.WalkLine.{WalkLine}
use Rattle.proof_claims.specs.Beneath.machine_model.specs.declared.lines.Purpose.TheVariants as purpose
use Rattle.proof_claims.specs.Beneath.machine_model.specs.Building.{after_link, after_single, build_if_made}
use Rattle.proof_claims.specs.Beneath.machine_model.specs.Calls.{handle_of}
use Rattle.proof_claims.specs.Beneath.machine_model.specs.Cleaning.{clean_after, clean_after_contracted}
use Rattle.proof_claims.specs.Beneath.machine_model.specs.Climbing.{climb_after, climb_after_contracted}
use Rattle.proof_claims.specs.Beneath.machine_model.specs.Operations.{after_swap, line_after, swapped}
use Rattle.proof_claims.specs.Beneath.machine_model.specs.Paths.{above, current}
use Rattle.proof_claims.specs.Beneath.machine_model.specs.Renewing.{renew_after, renew_after_branch}
use Rattle.proof_claims.specs.Beneath.machine_model.specs.States.{State, word_at}
use Rattle.proof_claims.specs.Beneath.machine_model.specs.Swapping.{swap_after, swapping}
use Rattle.proof_claims.specs.Changes.{goal_of}

abbrev is_swap : Line → Bool
is_swap (line.Swap why s) = true
is_swap l = false

module _ (state : State) (operation : Operation) where
  root_no : (l : RootLine) → is_swap (line_after state operation (line.Root l)) ≡ false
  root_no l = grind arith

  key_no : (l : KeyLine) → is_swap (line_after state operation (line.Key l)) ≡ false
  key_no l = grind arith

  copy_no : (l : CopyLine) → is_swap (line_after state operation (line.Copy l)) ≡ false
  copy_no l = grind arith

  walk_no : (l : WalkLine) → is_swap (line_after state operation (line.Walk l)) ≡ false
  walk_no l = grind arith

  swapped_no : (why : Purpose) (s : Swap) (done : Bool) → is_swap (swapped operation (node_at state.heap s.fresh) why done) ≡ false
  swapped_no why s done = grind arith

-- how who stands in this SWAP after its step came there
pub data SwapFrom (state : State) (operation : Operation) (l : Line) (s : Swap) : Type 0 where
  built : goal_of l ≡ Some (s.indirection, s.replaced) → next_ref state.heap ≡ Some s.fresh → s.line ≡ swap.Publish → SwapFrom state operation l s
  went_on : (why : Purpose) (was : Swap) → l ≡ line.Swap why was → swap_after state.heap operation.access (word_at state (handle_of operation.call)) was ≡ Goes s → SwapFrom state operation l s

module _ (state : State) (operation : Operation) (why : Purpose) (s : Swap) where
  abbrev From : Line → Type 0
  From l = SwapFrom state operation l s

  not_so : {P : Type 0} (l : Line) → is_swap l ≡ false → l ≡ line.Swap why s → P
  not_so l no_swap e = absurd (true≢false (ap is_swap (sym e) ∙ no_swap))

  same_line : {w v : Purpose} {a b : Swap} → line.Swap w a ≡ line.Swap v b → a ≡ b
  same_line e = cc e

  -- a line that goes on to the SWAP of what it made
  by_made : (l : Line) (i m x : Ref) (because : Purpose) → goal_of l ≡ Some (i, m) → next_ref state.heap ≡ Some x → line.Swap because (swapping i m x) ≡ line.Swap why s → From l
  by_made l i m x because goal drawn e =
      let same = same_line e in
      built (goal ∙ ap (λ (q : Swap). Some (q.indirection, q.replaced)) same) (drawn ∙ ap (λ (q : Swap). Some q.fresh) same) (ap (λ (q : Swap). q.line) (sym same))

  build_from : (l : BuildLine) (n : Option Ref) → next_ref state.heap ≡ n → build_if_made state operation l n ≡ line.Swap why s → From (line.Build l)
  build_from l None drawn e = not_so _ refl e
  build_from (build.Main path main c former) (Some x) drawn e = by_made (line.Build (build.Main path main c former)) (current path) main x (purpose.Update path former) refl drawn e
  build_from (build.Single path main site former) (Some x) drawn e = not_so _ (single_no path main site former x) e
    where
      single_no : (path : List Ref) (main : Ref) (site : _) (former : Option ℕ) (x : Ref) → is_swap (after_single state operation path main former site x) ≡ false
      single_no path main site former x = grind arith
  build_from (build.Pair path main position single depth) (Some x) drawn e = not_so _ refl e
  build_from (build.Link path main position below depth) (Some x) drawn e = not_so _ (link_no path main position depth x) e
    where
      link_no : (path : List Ref) (main : Ref) (position depth : ℕ) (x : Ref) → is_swap (after_link path main position depth x) ≡ false
      link_no path main position depth x = grind arith
  build_from (build.Rung path main position below depth) (Some x) drawn e = not_so _ refl e

  renew_from : (l : RenewLine) → renew_after state operation l ≡ line.Swap why s → From (line.Renew l)
  renew_from (renew.Branch path main done) e = by_drawn (next_ref state.heap) refl e
    where
      by_drawn : (n : Option Ref) → next_ref state.heap ≡ n → renew_after_branch path main n ≡ line.Swap why s → From (line.Renew (renew.Branch path main done))
      by_drawn None drawn e = not_so _ refl e
      by_drawn (Some x) drawn e = by_made (line.Renew (renew.Branch path main done)) (current path) main x (purpose.Renew path) refl drawn e
  renew_from (renew.Entry path main done) e = not_so _ (grind arith) e
  renew_from (renew.Read path main done r) e = not_so _ (grind arith) e
  renew_from (renew.Link path main done child) e = not_so _ (grind arith) e

  clean_from : (l : CleanLine) → clean_after state operation l ≡ line.Swap why s → From (line.Clean l)
  clean_from (clean.Contracted path main done) e = by_drawn (next_ref state.heap) refl e
    where
      by_drawn : (n : Option Ref) → next_ref state.heap ≡ n → clean_after_contracted path main n ≡ line.Swap why s → From (line.Clean (clean.Contracted path main done))
      by_drawn None drawn e = not_so _ refl e
      by_drawn (Some x) drawn e = by_made (line.Clean (clean.Contracted path main done)) (current path) main x purpose.Clean refl drawn e
  clean_from (clean.Read path r) e = not_so _ (grind arith) e
  clean_from (clean.Main path main) e = not_so _ (grind arith) e
  clean_from (clean.Entry path main done) e = not_so _ (grind arith) e
  clean_from (clean.Child path main done r) e = not_so _ (grind arith) e
  clean_from (clean.Tomb path main done child) e = not_so _ (grind arith) e

  climb_from : (l : ClimbLine) → climb_after state operation l ≡ line.Swap why s → From (line.Climb l)
  climb_from (climb.Contracted c main) e = by_drawn (next_ref state.heap) refl e
    where
      by_drawn : (n : Option Ref) → next_ref state.heap ≡ n → climb_after_contracted operation c main n ≡ line.Swap why s → From (line.Climb (climb.Contracted c main))
      by_drawn None drawn e = not_so _ refl e
      by_drawn (Some x) drawn e = by_made (line.Climb (climb.Contracted c main)) (current (above c.path)) main x (purpose.Climb c) refl drawn e
  climb_from (climb.Read c r) e = not_so _ (grind arith) e
  climb_from (climb.Main c main) e = not_so _ (grind arith) e
  climb_from (climb.Root c l) e = not_so _ (grind arith) e

  swap_from_swap : (because : Purpose) (was : Swap) (a : After Swap Bool) → swap_after state.heap operation.access (word_at state (handle_of operation.call)) was ≡ a →
      after_swap state operation because was a ≡ line.Swap why s → From (line.Swap because was)
  swap_from_swap because was (Goes next) is e = went_on because was refl (is ∙ ap Goes (same_line e))
  swap_from_swap because was (Gives done) is e = not_so _ (swapped_no state operation because was done) e

  pub swap_from : (l : Line) → line_after state operation l ≡ line.Swap why s → From l
  swap_from (line.Root l) e = not_so _ (root_no state operation l) e
  swap_from (line.Key l) e = not_so _ (key_no state operation l) e
  swap_from (line.Build l) e = build_from l (next_ref state.heap) refl e
  swap_from (line.Swap because was) e = swap_from_swap because was _ refl e
  swap_from (line.Renew l) e = renew_from l e
  swap_from (line.Clean l) e = clean_from l e
  swap_from (line.Climb l) e = climb_from l e
  swap_from (line.Copy l) e = not_so _ (copy_no state operation l) e
  swap_from (line.Walk l) e = not_so _ (walk_no state operation l) e
  swap_from (line.End answer) e = not_so _ refl e
  swap_from line.Impossible e = not_so _ refl e
