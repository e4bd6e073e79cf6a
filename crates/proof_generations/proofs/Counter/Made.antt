-- Of which generation the nodes are that a step makes: none has another than the root that ROOT gave last, but for a new root, whose generation is drawn.
use Rattle.std.proofs.Common.{◌≡◌, ℕ, ◌==◌, Bool, true, List, Some, refl, sym, ap, ◌∙◌, arith}
use Rattle.std.proofs.lemmas.Bool.{false≢true, cond_both}
use Rattle.std.proofs.lemmas.Option.{none-some, same_Some}
use Rattle.proof_generations.specs.Vocabulary.{HashKind, Ref, Node, Indirection, Branch, List as Listed, node_at, generation_of, list_depth, pair, contracted, Action, Change, BuildLine, CopyLine}
use Rattle.proof_generations.specs.Vocabulary.{KeyLine, Line, Operation, ReadLine, Swap, Purpose, CleanLine, ClimbLine, RenewLine, Complete, RootLine, WalkLine, State, start_of, flag_in}
use Rattle.proof_generations.specs.Vocabulary.{read_action, complete_action, changed, line_action, BranchOrList, meets, AllHold, line_wants, made_node}
use Rattle.proof_generations.specs.Beneath.machine_model.specs.declared.actions.Action.TheVariants as act
use Rattle.proof_generations.specs.Beneath.machine_model.specs.declared.building.Change.TheVariants as change
use Rattle.proof_generations.specs.Beneath.machine_model.specs.declared.building.BuildLine.TheVariants as build
use Rattle.proof_generations.specs.Beneath.machine_model.specs.declared.copying.CopyLine.TheVariants as copy
use Rattle.proof_generations.specs.Beneath.machine_model.specs.declared.lines.Line.TheVariants as line
use Rattle.proof_generations.specs.Beneath.machine_model.specs.declared.repairs.CleanLine.TheVariants as clean
use Rattle.proof_generations.specs.Beneath.machine_model.specs.declared.repairs.ClimbLine.TheVariants as climb
use Rattle.proof_generations.specs.Beneath.machine_model.specs.declared.repairs.RenewLine.TheVariants as renew
use Rattle.proof_generations.specs.Beneath.proof_memory.proofs.Claims.Uses.{meets_of}
use Rattle.proof_generations.specs.Beneath.proof_memory.proofs.Claims.Named.{main_claim}

-- what is made is no indirection, or of the start generation, or a root of the generation that is drawn
pub data MadeOf (state : State) (operation : Operation) (action : Action) (node : Node) : Type 0 where
  plain : generation_of node ≡ 0 → MadeOf state operation action node
  started : generation_of node ≡ start_of operation → MadeOf state operation action node
  drawn : (main : Ref) → action ≡ act.MakeRoot main → generation_of node ≡ state.generations → MadeOf state operation action node

changed_plain : (flag : ℕ) (node : Node) (c : Change) → meets BranchOrList node ≡ true → generation_of (changed flag node c) ≡ 0
changed_plain flag (Branch bitmap entries) (change.Insert single) e = refl
changed_plain flag (Branch bitmap entries) (change.Update position entry) e = refl
changed_plain flag (Branch bitmap entries) (change.Remove position) e = refl
changed_plain flag (Branch bitmap entries) (change.Entomb single) e = refl
changed_plain flag (Listed singles) (change.Insert single) e = refl
changed_plain flag (Listed singles) (change.Update position entry) e = refl
changed_plain flag (Listed singles) (change.Remove position) e = refl
changed_plain flag (Listed singles) (change.Entomb single) e = refl
changed_plain flag node c e = absurd (false≢true e)

pair_plain : (kind : HashKind) (depth a b : ℕ) (x y : Ref) → generation_of (pair kind depth a b x y) ≡ 0
pair_plain kind depth a b x y = cond_both (depth == list_depth kind) _ _ (λ node. generation_of node ≡ 0) (λ e. refl) (λ e. refl)

contracted_plain : (may : Bool) (bitmap : ℕ) (entries : List Ref) → generation_of (contracted may bitmap entries) ≡ 0
contracted_plain may bitmap entries = grind arith

pub read_makes : (state : State) (i : Ref) (l : ReadLine) (node : Node) → made_node state (read_action i l) ≡ Some node → ⊥
read_makes state i l node e = grind arith

pub complete_makes : (state : State) (c : Complete) (node : Node) → made_node state (complete_action c) ≡ Some node → ⊥
complete_makes state c node e = grind arith

pub root_makes : (state : State) (operation : Operation) (l : RootLine) (made : Node) → made_node state (line_action state operation (line.Root l)) ≡ Some made → ⊥
root_makes state operation l made e = grind arith

pub key_makes : (state : State) (operation : Operation) (l : KeyLine) (made : Node) → made_node state (line_action state operation (line.Key l)) ≡ Some made → ⊥
key_makes state operation l made e = grind arith

pub swap_makes : (state : State) (operation : Operation) (why : Purpose) (s : Swap) (made : Node) → made_node state (line_action state operation (line.Swap why s)) ≡ Some made → ⊥
swap_makes state operation why s made e = grind arith

pub walk_makes : (state : State) (operation : Operation) (l : WalkLine) (made : Node) → made_node state (line_action state operation (line.Walk l)) ≡ Some made → ⊥
walk_makes state operation l made e = grind arith

module _ (state : State) (operation : Operation) (S : Ref → Type 0) where
  abbrev Of : Line → Node → Type 0
  Of l node = MadeOf state operation (line_action state operation l) node

  plain_is : (action : Action) (node made : Node) → generation_of node ≡ 0 → Some node ≡ Some made → MadeOf state operation action made
  plain_is action node made e same = plain (ap generation_of (sym (same_Some _ _ same)) ∙ e)

  start_is : (action : Action) (node made : Node) → generation_of node ≡ start_of operation → Some node ≡ Some made → MadeOf state operation action made
  start_is action node made e same = started (ap generation_of (sym (same_Some _ _ same)) ∙ e)

  root_is : (action : Action) (main : Ref) (made : Node) → action ≡ act.MakeRoot main → Some (Indirection state.generations main) ≡ Some made → MadeOf state operation action made
  root_is action main made e same = drawn main e (ap generation_of (sym (same_Some _ _ same)))

  build_made : (l : BuildLine) → AllHold S state.heap (line_wants state.limits.hash operation.call operation.access (line.Build l)) → (made : Node) →
      made_node state (line_action state operation (line.Build l)) ≡ Some made → Of (line.Build l) made
  build_made (build.Single path main site former) h made e = plain_is _ _ made refl e
  build_made (build.Pair path main position single depth) h made e = plain_is _ _ made (pair_plain _ depth _ _ _ single) e
  build_made (build.Link path main position below depth) h made e = start_is _ _ made refl e
  build_made (build.Rung path main position below depth) h made e = plain_is _ _ made refl e
  build_made (build.Main path main c former) h made e = plain_is _ _ made (changed_plain (flag_in state operation path) (node_at state.heap main) c (meets_of (main_claim h))) e

  renew_made : (l : RenewLine) (made : Node) → made_node state (line_action state operation (line.Renew l)) ≡ Some made → Of (line.Renew l) made
  renew_made (renew.Entry path main done) made e = absurd (none-some made e)
  renew_made (renew.Read path main done r) made e = absurd (read_makes state r.indirection r.line made e)
  renew_made (renew.Link path main done child) made e = start_is _ _ made refl e
  renew_made (renew.Branch path main done) made e = plain_is _ _ made refl e

  clean_made : (l : CleanLine) (made : Node) → made_node state (line_action state operation (line.Clean l)) ≡ Some made → Of (line.Clean l) made
  clean_made (clean.Read path r) made e = absurd (read_makes state r.indirection r.line made e)
  clean_made (clean.Main path main) made e = absurd (none-some made e)
  clean_made (clean.Entry path main done) made e = absurd (none-some made e)
  clean_made (clean.Child path main done r) made e = absurd (read_makes state r.indirection r.line made e)
  clean_made (clean.Tomb path main done child) made e = absurd (none-some made e)
  clean_made (clean.Contracted path main done) made e = plain_is _ _ made (contracted_plain _ _ done) e

  climb_made : (l : ClimbLine) (made : Node) → made_node state (line_action state operation (line.Climb l)) ≡ Some made → Of (line.Climb l) made
  climb_made (climb.Read c r) made e = absurd (read_makes state r.indirection r.line made e)
  climb_made (climb.Main c main) made e = absurd (none-some made e)
  climb_made (climb.Contracted c main) made e = plain_is _ _ made (contracted_plain _ _ _) e
  climb_made (climb.Root c l) made e = absurd (by l e)
    where
      by : (l : RootLine) → made_node state (line_action state operation (line.Root l)) ≡ Some made → ⊥
      by l e = grind arith

  copy_made : (l : CopyLine) (made : Node) → made_node state (line_action state operation (line.Copy l)) ≡ Some made → Of (line.Copy l) made
  copy_made (copy.Read root r) made e = absurd (read_makes state r.indirection r.line made e)
  copy_made (copy.Successor root main) made e = root_is (act.MakeRoot main) main made refl e
  copy_made (copy.Second root main successor) made e = root_is (act.MakeRoot main) main made refl e
  copy_made (copy.Empty root main) made e = plain_is _ _ made refl e
  copy_made (copy.Cleared root main branch) made e = root_is (act.MakeRoot branch) branch made refl e
  copy_made (copy.Offer offer) made e = absurd (none-some made e)
  copy_made (copy.Complete c) made e = absurd (complete_makes state c made e)

  pub made_of : (l : Line) → AllHold S state.heap (line_wants state.limits.hash operation.call operation.access l) → (made : Node) →
      made_node state (line_action state operation l) ≡ Some made → Of l made
  made_of (line.Root l) h made e = absurd (root_makes state operation l made e)
  made_of (line.Key l) h made e = absurd (key_makes state operation l made e)
  made_of (line.Build l) h made e = build_made l h made e
  made_of (line.Swap why s) h made e = absurd (swap_makes state operation why s made e)
  made_of (line.Renew l) h made e = renew_made l made e
  made_of (line.Clean l) h made e = clean_made l made e
  made_of (line.Climb l) h made e = climb_made l made e
  made_of (line.Copy l) h made e = copy_made l made e
  made_of (line.Walk l) h made e = absurd (walk_makes state operation l made e)
  made_of (line.End answer) h made e = absurd (none-some made e)
  made_of line.Impossible h made e = absurd (none-some made e)
