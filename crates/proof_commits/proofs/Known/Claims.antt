-- What memory gives of a run: what the action of an operation finds, what is drawn, what is built from, and what main words name.
use Rattle.std.proofs.Common.{◌≡◌, ℕ, ◌+◌, ◌<◌, ◌≤◌, true, Some, sym, ◌∙◌, ap, subst, arith, false, None}
use Rattle.std.proofs.lemmas.Bool.{true≢false}
use Rattle.proof_commits.specs.Vocabulary.{Ref, Node, Indirection, Branch, Single, Tomb, List as Listed, Slot, next_ref, main_of, taken, Action, Line, Operation, Bounds, State, operation_of}
use Rattle.proof_commits.specs.Vocabulary.{action_of, IsRun, standing, grown}
use Rattle.proof_commits.specs.Beneath.machine_model.specs.declared.actions.Action.TheVariants as act
use Rattle.proof_commits.specs.Beneath.machine_model.specs.declared.building.BuildLine.TheVariants as build
use Rattle.proof_commits.specs.Beneath.machine_model.specs.declared.lines.Line.TheVariants as line
use Rattle.proof_commits.specs.Beneath.machine_model.specs.declared.repairs.RenewLine.TheVariants as renew
use Rattle.proof_commits.specs.Beneath.machine_model.specs.declared.repairs.CleanLine.TheVariants as clean
use Rattle.proof_commits.specs.Beneath.machine_model.specs.declared.repairs.ClimbLine.TheVariants as climb
use Rattle.proof_memory.specs.Wants.{Wanted, AnIndirection, AMain, ABranch, BranchOrList, line_wants, meets, Is, Holds, AllHold, action_wants, node_wants, prev_wants}
use Rattle.proof_memory.specs.Wants.{is_indirection, is_branch_or_list}
use Rattle.proof_memory.specs.Laws.{IsInUse}
use Rattle.proof_memory.proofs.Claims.Uses.{safe_of, meets_of, first_hold}
use Rattle.proof_memory.proofs.Heap.Under.{taken_all}
use Rattle.proof_memory.proofs.Safety.States.{IsSafe}
use Rattle.proof_memory.proofs.Safety.AtEachTime.{safe_at}
use Rattle.proof_memory.proofs.Safety.AtTimes.{action_at, line_at}
use Rattle.proof_memory.proofs.Heap.Moves.{not_yet_drawn}
use Rattle.proof_commits.proofs.Known.Given.{BuildsFrom, HasSolid}
use Rattle.proof_memory.proofs.Claims.Nodes.{main_plain}
use Rattle.proof_memory.proofs.Claims.Named.{main_claim, past_climb, third_claim}
use Rattle.proof_commits.specs.Beneath.machine_model.proofs.Grown.{node_standing}
use Rattle.proof_commits.specs.Beneath.slot_arena.specs.declared.nodes.Prev.TheVariants as over

-- an indirection stands under the reference
pub record HasLink (state : State) (i : Ref) : Type 0 where
  pub slot : Slot
  pub stands : standing state.heap i ≡ Some slot
  pub link : is_indirection slot.node ≡ true

-- what stands there isn't one
pub record HasMain (state : State) (m : Ref) : Type 0 where
  pub slot : Slot
  pub stands : standing state.heap m ≡ Some slot
  pub no_link : is_indirection slot.node ≡ false

-- the words that an action reads or writes are there
abbrev pub Finds : State → Action → Type 0
Finds state (act.ReadMain i) = HasLink state i
Finds state (act.ReadPrev m) = HasMain state m
Finds state (act.Publish i a f) = HasLink state i × HasMain state f
Finds state (act.Restore i m p) = HasLink state i
Finds state (act.Decide i m p told) = HasLink state i × HasMain state m
Finds state action = Unit {0}

-- the reference that is drawn for a node was never drawn before, and what stands under any other stays
pub record Draws (states : ℕ → State) (t : ℕ) (node : Node) (n : Ref) : Type 0 where
  pub new : grown states t n ≡ None
  pub birth : ℕ
  pub here : standing (taken (states t).heap node) n ≡ Some (record { birth = birth; node = node; prev = over.None })
  pub elsewhere : (q : Ref) → (q ≡ n → ⊥) → standing (taken (states t).heap node) q ≡ standing (states t).heap q

built_solid : (node : Node) → meets BranchOrList node ≡ true → is_branch_or_list node ≡ true
built_solid node e = grind arith

branch_solid : (node : Node) → meets ABranch node ≡ true → is_branch_or_list node ≡ true
branch_solid node e = grind arith

has_solid : (state : State) (m : Ref) (wanted : Wanted) → ((node : Node) → meets wanted node ≡ true → is_branch_or_list node ≡ true) →
    Holds (IsInUse state.heap) state.heap (Is m wanted) → HasSolid state m
has_solid state m wanted f h =
    let (slot, found) = safe_of h in
    record { slot = slot; stands = found; solid = f slot.node (ap (meets wanted) (sym (node_standing state.heap m slot found)) ∙ meets_of h) }

has_link : (state : State) (i : Ref) → Holds (IsInUse state.heap) state.heap (Is i AnIndirection) → HasLink state i
has_link state i h =
    let (slot, found) = safe_of h in
    record { slot = slot; stands = found; link = ap is_indirection (sym (node_standing state.heap i slot found)) ∙ meets_of h }

has_main : (state : State) (m : Ref) → Holds (IsInUse state.heap) state.heap (Is m AMain) → HasMain state m
has_main state m h =
    let (slot, found) = safe_of h in
    record { slot = slot; stands = found; no_link = main_plain slot.node (ap (meets AMain) (sym (node_standing state.heap m slot found)) ∙ meets_of h) }

finds_so : (state : State) (a : Action) → AllHold (IsInUse state.heap) state.heap (action_wants a) → Finds state a
finds_so state (act.ReadMain i) h = has_link state i h.0
finds_so state (act.ReadPrev m) h = has_main state m h.0
finds_so state (act.Publish i a f) h = (has_link state i h.0, has_main state f (third_claim h))
finds_so state (act.Restore i m p) h = has_link state i h.0
finds_so state (act.Decide i m p told) h = (has_link state i h.0, has_main state m h.1.0)
finds_so state a h = tt

module _ {limits : Bounds} {states : ℕ → State} {last : ℕ} (run : IsRun limits states last) where
  pub finds : (t : ℕ) → t < last → (actor : ℕ) (operation : Operation) → operation_of (states t) actor ≡ Some operation → Finds (states t) (action_of (states t) operation)
  finds t h actor operation is = finds_so (states t) (action_of (states t) operation) (action_at run t (omega arith) actor operation is)

  pub draws : (t : ℕ) → t < last → (node : Node) (n : Ref) → next_ref (states t).heap ≡ Some n → Draws states t node n
  draws t h node n e =
      let I : IsSafe (states t) = safe_at run t (omega arith) in
      let all = taken_all (states t).limits.slots (states t).heap (I.sound.heap) node n e in
      record { new = not_yet_drawn run t (omega arith) n e; birth = (states t).heap.births + 1; here = all.0; elsewhere = all.2 }

  pub mains_stand : (t : ℕ) → t ≤ last → (i : Ref) (slot : Slot) → standing (states t).heap i ≡ Some slot → is_indirection slot.node ≡ true →
      (main : Slot) × (standing (states t).heap (main_of slot.node) ≡ Some main)
  mains_stand t h i slot e l =
      by_node slot.node l (first_hold (IsInUse (states t).heap) (states t).heap (node_wants slot.node) (prev_wants slot.prev) ((safe_at run t h).nodes i slot e).0)
    where
      by_node : (node : Node) → is_indirection node ≡ true → AllHold (IsInUse (states t).heap) (states t).heap (node_wants node) →
          (main : Slot) × (standing (states t).heap (main_of node) ≡ Some main)
      by_node (Indirection g m) l w = safe_of w.0
      by_node (Branch b es) l w = absurd (true≢false (sym l))
      by_node (Single k v) l w = absurd (true≢false (sym l))
      by_node (Tomb s) l w = absurd (true≢false (sym l))
      by_node (Listed s) l w = absurd (true≢false (sym l))

  pub built_from : (t : ℕ) → t < last → (actor : ℕ) (operation : Operation) → operation_of (states t) actor ≡ Some operation → (main : Ref) →
      BuildsFrom operation.line main → HasSolid (states t) main
  built_from t h actor operation is main b = by_line operation.line main b (line_at run t (omega arith) actor operation is)
    where
      S : Ref → Type 0
      S = IsInUse (states t).heap

      by_line : (l : Line) (m : Ref) → BuildsFrom l m → AllHold S (states t).heap (line_wants limits.hash operation.call operation.access l) → HasSolid (states t) m
      by_line (line.Build (build.Main path main c former)) m b wants =
          subst (λ x. HasSolid (states t) x) b (has_solid (states t) main BranchOrList built_solid (main_claim wants))
      by_line (line.Renew (renew.Branch path main done)) m b wants = subst (λ x. HasSolid (states t) x) b (has_solid (states t) main ABranch branch_solid (main_claim wants))
      by_line (line.Clean (clean.Contracted path main done)) m b wants = subst (λ x. HasSolid (states t) x) b (has_solid (states t) main ABranch branch_solid (main_claim wants))
      by_line (line.Climb (climb.Contracted c main)) m b wants = subst (λ x. HasSolid (states t) x) b (has_solid (states t) main ABranch branch_solid (past_climb wants).0)
      by_line l m b wants = absurd b
