-- Lines that hold nothing that their operations made.
use Rattle.std.proofs.Common.{◌≡◌, ℕ, ◌+◌, ◌==◌, nat_lt, length, Bool, true, false, cond, List, refl, sym, arith}
use Rattle.std.proofs.lemmas.Bool.{true≢false}
use Rattle.proof_shape.specs.Vocabulary.{Call, Ref, Node, Indirection, Branch, Single, Tomb, List as Listed, node_at, entries_of, Line, Purpose, Operation, Bounds, key_of, State, key_after_entry}
use Rattle.proof_shape.specs.Vocabulary.{after_listed, found, absent_listed, swapped, IsRun}
use Rattle.proof_shape.specs.Beneath.machine_model.specs.declared.building.BuildLine.TheVariants as build
use Rattle.proof_shape.specs.Beneath.machine_model.specs.declared.building.Change.TheVariants as change
use Rattle.proof_shape.specs.Beneath.machine_model.specs.declared.finding.KeyLine.TheVariants as key
use Rattle.proof_shape.specs.Beneath.machine_model.specs.declared.lines.Line.TheVariants as line
use Rattle.proof_shape.specs.Beneath.machine_model.specs.declared.lines.Purpose.TheVariants as purpose
use Rattle.proof_shape.specs.Beneath.machine_model.specs.declared.repairs.CleanLine.TheVariants as clean
use Rattle.proof_shape.proofs.Lines.Leads.{holds_nothing}
use Rattle.proof_shape.proofs.Held.Lines.{HeldIn}

-- ---- what leads to them

pub key_single_free : (state : State) (operation : Operation) (path : List Ref) (main : Ref) (position k v : ℕ) → holds_nothing (key_after_entry state operation path main position (Single k v)) ≡ true
key_single_free state operation path main position k v = grind arith

pub found_free : (state : State) (operation : Operation) (path : List Ref) (main : Ref) (position v : ℕ) → holds_nothing (found state operation path main position v) ≡ true
found_free state operation path main position v = grind arith

pub absent_free : (operation : Operation) (path : List Ref) (main : Ref) (singles : ℕ) → holds_nothing (absent_listed operation path main singles) ≡ true
absent_free operation path main singles = grind arith

pub key_listed_free : (state : State) (operation : Operation) (path : List Ref) (main : Ref) (position : ℕ) (node : Node) → holds_nothing (after_listed state operation path main position node) ≡ true
key_listed_free state operation path main position (Single k v) = by_key (k == key_of operation.call) (nat_lt (position + 1) (length (entries_of (node_at state.heap main))))
  where
    by_key : (a b : Bool) →
        holds_nothing (cond a (found state operation path main position v)
        (cond b (line.Key (key.Listed path main (position + 1))) (absent_listed operation path main (length (entries_of (node_at state.heap main)))))) ≡ true
    by_key true b = found_free state operation path main position v
    by_key false true = refl
    by_key false false = absent_free operation path main (length (entries_of (node_at state.heap main)))
key_listed_free state operation path main position (Indirection g w) = refl
key_listed_free state operation path main position (Branch b es) = refl
key_listed_free state operation path main position (Tomb s) = refl
key_listed_free state operation path main position (Listed ss) = refl

pub swapped_free : (operation : Operation) (node : Node) (why : Purpose) (done : Bool) → holds_nothing (swapped operation node why done) ≡ true
swapped_free operation node why done = grind arith

module _ {limits : Bounds} {states : ℕ → State} {last : ℕ} (run : IsRun limits states last) where
  -- such a line holds nothing
  pub free_holds : (t k id start : ℕ) (call : Call) (l : Line) → holds_nothing l ≡ true → HeldIn run t k id start call l
  free_holds t k id start call (line.Build (build.Single path main s former)) e = tt
  free_holds t k id start call (line.Build (build.Pair path main position s depth)) e = tt
  free_holds t k id start call (line.Build (build.Main path main (change.Remove position) former)) e = tt
  free_holds t k id start call (line.Build (build.Main path main (change.Entomb s) former)) e = tt
  free_holds t k id start call (line.Build (build.Main path main (change.Insert s) former)) e = absurd (true≢false (sym e))
  free_holds t k id start call (line.Build (build.Main path main (change.Update position entry) former)) e = absurd (true≢false (sym e))
  free_holds t k id start call (line.Build (build.Link path main position below depth)) e = absurd (true≢false (sym e))
  free_holds t k id start call (line.Build (build.Rung path main position below depth)) e = absurd (true≢false (sym e))
  free_holds t k id start call (line.Swap (purpose.Climb c) s) e = tt
  free_holds t k id start call (line.Swap (purpose.Update path former) s) e = absurd (true≢false (sym e))
  free_holds t k id start call (line.Swap (purpose.Renew path) s) e = absurd (true≢false (sym e))
  free_holds t k id start call (line.Swap purpose.Clean s) e = absurd (true≢false (sym e))
  free_holds t k id start call (line.Renew l) e = absurd (true≢false (sym e))
  free_holds t k id start call (line.Clean (clean.Read path r)) e = tt
  free_holds t k id start call (line.Clean (clean.Main path main)) e = tt
  free_holds t k id start call (line.Clean (clean.Entry path main done)) e = absurd (true≢false (sym e))
  free_holds t k id start call (line.Clean (clean.Child path main done r)) e = absurd (true≢false (sym e))
  free_holds t k id start call (line.Clean (clean.Tomb path main done child)) e = absurd (true≢false (sym e))
  free_holds t k id start call (line.Clean (clean.Contracted path main done)) e = absurd (true≢false (sym e))
  free_holds t k id start call (line.Root l) e = tt
  free_holds t k id start call (line.Key l) e = tt
  free_holds t k id start call (line.Climb l) e = tt
  free_holds t k id start call (line.Copy l) e = tt
  free_holds t k id start call (line.Walk l) e = tt
  free_holds t k id start call (line.End answer) e = tt
  free_holds t k id start call line.Impossible e = tt
