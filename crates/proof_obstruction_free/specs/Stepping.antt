-- One step of an actor that is alone: what it leaves, and what it finds.
use Rattle.std.specs.Prelude.{◌≡◌, ℕ, suc, ◌<◌, ◌≤◌, false, Option, Some}
use Rattle.proof_obstruction_free.specs.Vocabulary.{Reply, Ref, Node, Indirection, node_at, next_ref, Action, Line, line_action, line_after, generation_from, IsInUse, AllHold, line_wants}
use Rattle.proof_obstruction_free.specs.Beneath.machine_model.specs.declared.actions.Action.TheVariants as act
use Rattle.proof_obstruction_free.specs.Beneath.machine_model.specs.declared.lines.Line.TheVariants as line
use Rattle.proof_obstruction_free.specs.Beneath.proof_memory.specs.Wants.{is_indirection}
use Rattle.proof_obstruction_free.specs.Alone.{Lone, Stands, Keeps, IsQuiet, word, node}

-- the line isn't an end
abbrev pub IsNoEnd : Line → Type 0
IsNoEnd (line.End answer) = ⊥
IsNoEnd l = Unit {0}

-- the action leaves root words
abbrev pub LeavesWords : Action → Type 0
LeavesWords (act.Abort offer) = ⊥
LeavesWords (act.Offer offer) = ⊥
LeavesWords (act.Complete offer main) = ⊥
LeavesWords action = Unit {0}

pub record Stepping (a : Lone) : Type 0 where
  -- the operation stands on the line that comes after
  pub next : (t : ℕ) (g : Option ℕ) (l : Line) (s : Stands a t g l) → t < a.last → IsNoEnd l →
      Stands a (suc t) (generation_from (a.states t) s.operation l) (line_after (a.states t) s.operation l)
  -- it doesn't end
  pub ends : (t : ℕ) (g : Option ℕ) (answer : Reply) → Stands a t g (line.End answer) → t < a.last → ⊥
  -- a quiet step leaves main nodes alone
  pub keeps : (t : ℕ) (g : Option ℕ) (l : Line) (s : Stands a t g l) → t < a.last → IsNoEnd l → IsQuiet (line_action (a.states t) s.operation l) → Keeps a t (suc t)
  -- and most leave the root word
  pub words : (t : ℕ) (g : Option ℕ) (l : Line) (s : Stands a t g l) → t < a.last → IsNoEnd l → LeavesWords (line_action (a.states t) s.operation l) →
      word a (suc t) ≡ word a t
  -- what a line takes its references for they are
  pub wants : (t : ℕ) (g : Option ℕ) (l : Line) → Stands a t g l →
      AllHold (IsInUse (a.states t).heap) (a.states t).heap (line_wants a.limits.hash a.own.call a.own.access l)
  -- what stands in use is the node of its reference, but for the main word of an indirection
  pub node_found : (t : ℕ) (r : Ref) → t ≤ a.last → IsInUse (a.states t).heap r → is_indirection (node_at (a.states t).heap r) ≡ false →
      node_at (a.states t).heap r ≡ node a r
  pub link_found : (t : ℕ) (r : Ref) (g : ℕ) (m : Ref) → t ≤ a.last → IsInUse (a.states t).heap r → node_at (a.states t).heap r ≡ Indirection g m →
      (n : Ref) × (node a r ≡ Indirection g n)
  -- what is made is there
  pub made : (t : ℕ) (g : Option ℕ) (l : Line) (s : Stands a t g l) → t < a.last → IsNoEnd l → (n : Node) (r : Ref) → line_action (a.states t) s.operation l ≡ act.Make n →
      is_indirection n ≡ false → next_ref (a.states t).heap ≡ Some r → node a r ≡ n
  pub made_link : (t : ℕ) (g : Option ℕ) (l : Line) (s : Stands a t g l) → t < a.last → IsNoEnd l → (h : ℕ) (m r : Ref) →
      line_action (a.states t) s.operation l ≡ act.Make (Indirection h m) → next_ref (a.states t).heap ≡ Some r → (n : Ref) × (node a r ≡ Indirection h n)
