-- Only a SWAP's first line swaps a main node in.
use Rattle.std.proofs.Common.{◌≡◌, Bool, true, false, sym, ap, ◌∙◌, arith}
use Rattle.std.proofs.lemmas.Bool.{true≢false}
use Rattle.proof_fresh.specs.Vocabulary.{Ref, Action, Line, Operation, Purpose, State, SwapLine, RootLine, KeyLine, BuildLine, RenewLine, CleanLine}
use Rattle.proof_fresh.specs.Vocabulary.{ClimbLine, CopyLine, WalkLine, action_at, line_action, action_of}
use Rattle.proof_fresh.specs.Beneath.machine_model.specs.Swapping.{swapping}
use Rattle.proof_fresh.specs.Beneath.machine_model.specs.declared.actions.Action.TheVariants as act
use Rattle.proof_fresh.specs.Beneath.machine_model.specs.declared.lines.Line.TheVariants as line
use Rattle.proof_fresh.specs.Beneath.machine_model.specs.declared.reading.SwapLine.TheVariants as swap

abbrev publishes : Action → Bool
publishes (act.Publish i a f) = true
publishes action = false

module _ (state : State) (operation : Operation) where
  root_not : (l : RootLine) → publishes (line_action state operation (line.Root l)) ≡ false
  root_not l = grind arith

  key_not : (l : KeyLine) → publishes (line_action state operation (line.Key l)) ≡ false
  key_not l = grind arith

  build_not : (l : BuildLine) → publishes (line_action state operation (line.Build l)) ≡ false
  build_not l = grind arith

  renew_not : (l : RenewLine) → publishes (line_action state operation (line.Renew l)) ≡ false
  renew_not l = grind arith

  clean_not : (l : CleanLine) → publishes (line_action state operation (line.Clean l)) ≡ false
  clean_not l = grind arith

  climb_not : (l : ClimbLine) → publishes (line_action state operation (line.Climb l)) ≡ false
  climb_not l = grind arith

  copy_not : (l : CopyLine) → publishes (line_action state operation (line.Copy l)) ≡ false
  copy_not l = grind arith

  walk_not : (l : WalkLine) → publishes (line_action state operation (line.Walk l)) ≡ false
  walk_not l = grind arith

  module _ (i a f : Ref) where
    -- in a SWAP it is the first line
    swap_at : (j b g : Ref) (l : SwapLine) → action_at j b g l ≡ act.Publish i a f → record { indirection = j; replaced = b; fresh = g; line = l } ≡ swapping i a f
    swap_at j b g swap.Publish e =
        let at : j ≡ i = cc e in
        let old : b ≡ a = cc e in
        let new : g ≡ f = cc e in
        ap (λ q. swapping q b g) at ∙ ap (λ q. swapping i q g) old ∙ ap (swapping i a) new
    swap_at j b g swap.Check e = let wrong : ⊥ = cc e in absurd wrong
    swap_at j b g (swap.Deciding l) e = absurd (true≢false (sym (ap publishes e) ∙ no_read j l))
      where
        no_read : (j : Ref) (l : _) → publishes (action_at j b g (swap.Deciding l)) ≡ false
        no_read j l = grind arith

    by_line : (l : Line) → line_action state operation l ≡ act.Publish i a f → (why : Purpose) × (l ≡ line.Swap why (swapping i a f))
    by_line (line.Swap why s) e = (why, ap (line.Swap why) (swap_at s.indirection s.replaced s.fresh s.line e))
    by_line (line.Root l) e = absurd (true≢false (sym (ap publishes e) ∙ root_not l))
    by_line (line.Key l) e = absurd (true≢false (sym (ap publishes e) ∙ key_not l))
    by_line (line.Build l) e = absurd (true≢false (sym (ap publishes e) ∙ build_not l))
    by_line (line.Renew l) e = absurd (true≢false (sym (ap publishes e) ∙ renew_not l))
    by_line (line.Clean l) e = absurd (true≢false (sym (ap publishes e) ∙ clean_not l))
    by_line (line.Climb l) e = absurd (true≢false (sym (ap publishes e) ∙ climb_not l))
    by_line (line.Copy l) e = absurd (true≢false (sym (ap publishes e) ∙ copy_not l))
    by_line (line.Walk l) e = absurd (true≢false (sym (ap publishes e) ∙ walk_not l))
    by_line (line.End answer) e = absurd (true≢false (sym (ap publishes e)))
    by_line line.Impossible e = absurd (true≢false (sym (ap publishes e)))

  pub publishing : (i a f : Ref) → action_of state operation ≡ act.Publish i a f → (why : Purpose) × (operation.line ≡ line.Swap why (swapping i a f))
  publishing i a f = by_line i a f operation.line
