-- At each time of a run each line knows of its key, its change and its swap what it should.
use Rattle.std.proofs.Common.{◌≡◌, ℕ, ◌<◌, Bool, true, false, refl, sym, arith}
use Rattle.std.proofs.lemmas.Bool.{true≢false}
use Rattle.proof_shape.specs.Vocabulary.{Call, Node, node_at, CopyLine, Line, Purpose, Operation, After, Gives, Swap, SwapLine, CleanLine, ClimbLine, RenewLine, RootLine, Bounds, WalkLine, State}
use Rattle.proof_shape.specs.Vocabulary.{on_line, renew_after, clean_after, climb_after, copy_after, walk_after, first_line, swapped, line_after, IsRun, Known, KnowsLine}
use Rattle.proof_shape.specs.Beneath.machine_model.specs.declared.finding.KeyLine.TheVariants as key
use Rattle.proof_shape.specs.Beneath.machine_model.specs.declared.lines.Line.TheVariants as line
use Rattle.proof_shape.specs.Beneath.machine_model.specs.declared.lines.Purpose.TheVariants as purpose
use Rattle.proof_shape.specs.Beneath.machine_model.specs.declared.reading.After.TheVariants.{Goes}
use Rattle.proof_shape.specs.Beneath.machine_model.specs.Operations.{after_swap}
use Rattle.proof_shape.specs.Lines.Knowing.{known_with, first_main, KnowsAt}
use Rattle.proof_shape.proofs.Runs.EachAt.{GoesAt, each_at}
use Rattle.proof_shape.proofs.Lines.Key.{key_step}
use Rattle.proof_shape.proofs.Lines.Build.{build_step}

-- a line that knows nothing of a key's place
abbrev is_blank : Line → Bool
is_blank (line.Key (key.Read path r)) = true
is_blank (line.Key (key.Main path main)) = true
is_blank (line.Key l) = false
is_blank (line.Build l) = false
is_blank (line.Swap (purpose.Update path former) s) = false
is_blank l = true

blank_knows : (known : Known) (call : Call) (l : Line) → is_blank l ≡ true → KnowsLine known call l
blank_knows known call (line.Key (key.Read path r)) e = tt
blank_knows known call (line.Key (key.Main path main)) e = tt
blank_knows known call (line.Key (key.Entry path main position)) e = absurd (true≢false (sym e))
blank_knows known call (line.Key (key.Listed path main position)) e = absurd (true≢false (sym e))
blank_knows known call (line.Key (key.Sibling path main position former)) e = absurd (true≢false (sym e))
blank_knows known call (line.Build l) e = absurd (true≢false (sym e))
blank_knows known call (line.Swap (purpose.Update path former) s) e = absurd (true≢false (sym e))
blank_knows known call (line.Swap (purpose.Renew path) s) e = tt
blank_knows known call (line.Swap purpose.Clean s) e = tt
blank_knows known call (line.Swap (purpose.Climb c) s) e = tt
blank_knows known call (line.Root l) e = tt
blank_knows known call (line.Renew l) e = tt
blank_knows known call (line.Clean l) e = tt
blank_knows known call (line.Climb l) e = tt
blank_knows known call (line.Copy l) e = tt
blank_knows known call (line.Walk l) e = tt
blank_knows known call (line.End answer) e = tt
blank_knows known call line.Impossible e = tt

first_blank : (call : Call) → is_blank (first_line call) ≡ true
first_blank call = grind arith

root_blank : (state : State) (operation : Operation) (l : RootLine) → is_blank (line_after state operation (line.Root l)) ≡ true
root_blank state operation l = grind arith

swapped_blank : (operation : Operation) (node : Node) (why : Purpose) (done : Bool) → is_blank (swapped operation node why done) ≡ true
swapped_blank operation node why done = grind arith

renew_blank : (state : State) (operation : Operation) (l : RenewLine) → is_blank (renew_after state operation l) ≡ true
renew_blank state operation l = grind arith

clean_blank : (state : State) (operation : Operation) (l : CleanLine) → is_blank (clean_after state operation l) ≡ true
clean_blank state operation l = grind arith

climb_blank : (state : State) (operation : Operation) (l : ClimbLine) → is_blank (climb_after state operation l) ≡ true
climb_blank state operation l = grind arith

copy_blank : (state : State) (operation : Operation) (l : CopyLine) → is_blank (copy_after state operation l) ≡ true
copy_blank state operation l = grind arith

walk_blank : (state : State) (operation : Operation) (l : WalkLine) → is_blank (walk_after state operation l) ≡ true
walk_blank state operation l = grind arith

-- a swap's nodes stay until it is done
swap_stays : (known : Known) (call : Call) (why : Purpose) (s : Swap) (l : SwapLine) → KnowsLine known call (line.Swap why s) → KnowsLine known call (line.Swap why (record s { line = l }))
swap_stays known call (purpose.Update path former) s l knows = knows
swap_stays known call (purpose.Renew path) s l knows = tt
swap_stays known call purpose.Clean s l knows = tt
swap_stays known call (purpose.Climb c) s l knows = tt

swap_knows : (state : State) (operation : Operation) (known : Known) (why : Purpose) (s : Swap) → KnowsLine known operation.call (line.Swap why s) → (out : After SwapLine Bool) →
    KnowsLine known operation.call (after_swap state operation why s (on_line s out))
swap_knows state operation known why s knows (Goes l) = swap_stays known operation.call why s l knows
swap_knows state operation known why s knows (Gives done) = blank_knows known operation.call _ (swapped_blank operation (node_at state.heap s.fresh) why done)

module _ {limits : Bounds} {states : ℕ → State} {last : ℕ} (run : IsRun limits states last) where
  abbrev K : Known
  K = known_with limits states last (first_main states last)

  step_knows : (t : ℕ) → t < last → (actor : ℕ) (operation : Operation) → GoesAt states run.records t actor operation → (l : Line) → operation.line ≡ l → KnowsLine K operation.call l →
      KnowsLine K operation.call (line_after (states t) operation l)
  step_knows t h actor operation go (line.Key l) e knows = key_step run t h actor operation go l e knows
  step_knows t h actor operation go (line.Build l) e knows = build_step run t h actor operation go l e knows
  step_knows t h actor operation go (line.Swap why s) e knows = swap_knows (states t) operation K why s knows _
  step_knows t h actor operation go (line.Root l) e knows = blank_knows K operation.call _ (root_blank (states t) operation l)
  step_knows t h actor operation go (line.Renew l) e knows = blank_knows K operation.call _ (renew_blank (states t) operation l)
  step_knows t h actor operation go (line.Clean l) e knows = blank_knows K operation.call _ (clean_blank (states t) operation l)
  step_knows t h actor operation go (line.Climb l) e knows = blank_knows K operation.call _ (climb_blank (states t) operation l)
  step_knows t h actor operation go (line.Copy l) e knows = blank_knows K operation.call _ (copy_blank (states t) operation l)
  step_knows t h actor operation go (line.Walk l) e knows = blank_knows K operation.call _ (walk_blank (states t) operation l)
  step_knows t h actor operation go (line.End answer) e knows = tt
  step_knows t h actor operation go line.Impossible e knows = tt

  pub knows_at : KnowsAt limits states last
  knows_at =
      each_at (λ t actor operation. KnowsLine K operation.call operation.line) (λ t actor operation k. k) run
      (λ t h actor call number d. blank_knows K call _ (first_blank call)) (λ t h actor operation go k. step_knows t h actor operation go operation.line refl k)
      (λ t h actor operation answer is may k. tt)
      (λ t h actor operation is k. k)
