-- At each time of a run each line knows of the entries of its repair that are done.
use Rattle.std.proofs.Common.{◌≡◌, ℕ, suc, ◌<◌, Bool, true, Some, refl, subst, arith}
use Rattle.proof_shape.specs.Vocabulary.{Call, Ref, Node, node_at, BuildLine, CopyLine, Line, Purpose, Operation, After, Gives, Swap, SwapLine, ClimbLine, RootLine, Bounds, WalkLine, State, on_line}
use Rattle.proof_shape.specs.Vocabulary.{build_after, climb_after, copy_after, walk_after, first_line, swapped, line_after, generation_from, node_under, IsRun, Record, KnowsLine, KnowsRepair}
use Rattle.proof_shape.specs.Beneath.machine_model.specs.declared.lines.Line.TheVariants as line
use Rattle.proof_shape.specs.Beneath.machine_model.specs.declared.lines.Purpose.TheVariants as purpose
use Rattle.proof_shape.specs.Beneath.machine_model.specs.declared.reading.After.TheVariants.{Goes}
use Rattle.proof_shape.specs.Beneath.machine_model.specs.Operations.{after_swap}
use Rattle.proof_shape.specs.Lines.Given.{Gave, GaveBelow}
use Rattle.proof_shape.specs.Lines.Knowing.{known_with, first_main, RepairsAt}
use Rattle.proof_shape.proofs.Runs.EachAt.{GoesAt, each_at}
use Rattle.proof_shape.proofs.Lines.Knows.{knows_at}
use Rattle.proof_shape.proofs.Lines.RepairMore.{repair_more, is_unrepairing, unrepairing_knows}
use Rattle.proof_shape.proofs.Lines.Repair.{key_repairs, renew_repairs, clean_repairs}

-- ---- programs that lead to no repair

first_not : (call : Call) → is_unrepairing (first_line call) ≡ true
first_not call = grind arith

root_not : (state : State) (operation : Operation) (l : RootLine) → is_unrepairing (line_after state operation (line.Root l)) ≡ true
root_not state operation l = grind arith

build_not : (state : State) (operation : Operation) (l : BuildLine) → is_unrepairing (build_after state operation l) ≡ true
build_not state operation l = grind arith

swapped_not : (operation : Operation) (node : Node) (why : Purpose) (done : Bool) → is_unrepairing (swapped operation node why done) ≡ true
swapped_not operation node why done = grind arith

climb_not : (state : State) (operation : Operation) (l : ClimbLine) → is_unrepairing (climb_after state operation l) ≡ true
climb_not state operation l = grind arith

copy_not : (state : State) (operation : Operation) (l : CopyLine) → is_unrepairing (copy_after state operation l) ≡ true
copy_not state operation l = grind arith

walk_not : (state : State) (operation : Operation) (l : WalkLine) → is_unrepairing (walk_after state operation l) ≡ true
walk_not state operation l = grind arith

-- what was given stays given
pub gave_later : (states : ℕ → State) (records : ℕ → Record) (last t actor id : ℕ) (i m : Ref) → Gave states records last t actor id i m → Gave states records last (suc t) actor id i m
gave_later states records last t actor id i m g = record {
  began = g.began;
  first = g.first;
  from = g.from;
  counts = g.counts;
  moment = g.moment;
  at = g.at;
  past = omega (arith, g.past);
  line = g.line;
  gave = g.gave;
  gives = g.gives;
  is_moment = g.is_moment;
  is = g.is;
}

pub gave_below_later : (states : ℕ → State) (records : ℕ → Record) (last t actor id start : ℕ) (i m : Ref) → GaveBelow states records last t actor id start i m →
    GaveBelow states records last (suc t) actor id start i m
gave_below_later states records last t actor id start i m g = record {
  gave = gave_later states records last t actor id i m g.gave;
  at = g.at;
  past = omega (arith, g.past);
  outcome = g.outcome;
  moves = g.moves;
  operation = g.operation;
  runs = g.runs;
  its = g.its;
  below = g.below;
  read = g.read;
  reads = g.reads;
  of = g.of;
  gives = g.gives;
  notes = g.notes;
}

module _ {limits : Bounds} {states : ℕ → State} {last : ℕ} (run : IsRun limits states last) where
  -- what a line knows at a time
  abbrev Repairs : ℕ → ℕ → ℕ → ℕ → Line → Type 0
  Repairs t actor id start l = KnowsRepair (node_under states last) (first_main states last) (GaveBelow states run.records last t actor id start) start l

  repairs_later : (t actor id start : ℕ) (l : Line) → Repairs t actor id start l → Repairs (suc t) actor id start l
  repairs_later t actor id start l k =
      repair_more (node_under states last) (first_main states last) (GaveBelow states run.records last t actor id start) (GaveBelow states run.records last (suc t) actor id start)
      (gave_below_later states run.records last t actor id start) start l k

  not_repairing : (t actor id start : ℕ) (l : Line) → is_unrepairing l ≡ true → Repairs t actor id start l
  not_repairing t actor id start l e = unrepairing_knows (node_under states last) (first_main states last) (GaveBelow states run.records last t actor id start) start l e

  swap_stays : (t actor id start : ℕ) (why : Purpose) (s : Swap) (l : SwapLine) → Repairs t actor id start (line.Swap why s) → Repairs t actor id start (line.Swap why (record s { line = l }))
  swap_stays t actor id start (purpose.Update path former) s l k = tt
  swap_stays t actor id start (purpose.Renew path) s l k = k
  swap_stays t actor id start purpose.Clean s l k = k
  swap_stays t actor id start (purpose.Climb c) s l k = tt

  swap_repairs : (t actor : ℕ) (operation : Operation) (start : ℕ) (why : Purpose) (s : Swap) → Repairs (suc t) actor operation.id start (line.Swap why s) → (out : After SwapLine Bool) →
      Repairs (suc t) actor operation.id start (after_swap (states t) operation why s (on_line s out))
  swap_repairs t actor operation start why s k (Goes l) = swap_stays (suc t) actor operation.id start why s l k
  swap_repairs t actor operation start why s k (Gives done) = not_repairing (suc t) actor operation.id start _ (swapped_not operation (node_at (states t).heap s.fresh) why done)

  module _ (t : ℕ) (h : t < last) (actor : ℕ) (operation : Operation) (go : GoesAt states run.records t actor operation) (start : ℕ) where
    step_repairs : (l : Line) → operation.line ≡ l → generation_from (states t) operation l ≡ Some start → (operation.generation ≡ Some start → Repairs (suc t) actor operation.id start l) →
        Repairs (suc t) actor operation.id start (line_after (states t) operation l)
    step_repairs (line.Key l) e begun k =
        key_repairs run t h actor operation go start begun l e
        (subst (λ x. KnowsLine (known_with limits states last (first_main states last)) operation.call x) e (knows_at run t (omega arith) actor operation go.runs))
    step_repairs (line.Renew l) e begun k = renew_repairs run t h actor operation go start begun l e (k begun)
    step_repairs (line.Clean l) e begun k = clean_repairs run t h actor operation go start begun l e (k begun)
    step_repairs (line.Swap why s) e begun k = swap_repairs t actor operation start why s (k begun) _
    step_repairs (line.Root l) e begun k = not_repairing (suc t) actor operation.id start _ (root_not (states t) operation l)
    step_repairs (line.Build l) e begun k = not_repairing (suc t) actor operation.id start _ (build_not (states t) operation l)
    step_repairs (line.Climb l) e begun k = not_repairing (suc t) actor operation.id start _ (climb_not (states t) operation l)
    step_repairs (line.Copy l) e begun k = not_repairing (suc t) actor operation.id start _ (copy_not (states t) operation l)
    step_repairs (line.Walk l) e begun k = not_repairing (suc t) actor operation.id start _ (walk_not (states t) operation l)
    step_repairs (line.End answer) e begun k = tt
    step_repairs line.Impossible e begun k = tt

  pub repairs_at : RepairsAt states run.records last
  repairs_at =
      each_at (λ t actor operation. (start : ℕ) → operation.generation ≡ Some start → Repairs t actor operation.id start operation.line) (λ t actor operation k. k) run
      (λ t h actor call number d start begun. not_repairing (suc t) actor _ start _ (first_not call))
      (λ t h actor operation go k start begun.
      step_repairs t h actor operation go start operation.line refl begun (λ b. repairs_later t actor operation.id start operation.line (k start b)))
      (λ t h actor operation answer is may k start begun. tt)
      (λ t h actor operation is k start begun. repairs_later t actor operation.id start operation.line (k start begun))
