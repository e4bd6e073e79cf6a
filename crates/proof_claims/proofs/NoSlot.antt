-- Who is to make a node and finds no slot is about to end.
use Rattle.std.proofs.Common.{◌≡◌, ◌∙◌, Bool, true, false, None, sym, ap, arith}
use Rattle.std.proofs.lemmas.Bool.{true≢false}
use Rattle.proof_claims.specs.Beneath.history.specs.declared.replies.Reply.{Reply}
use Rattle.proof_claims.specs.Beneath.history.specs.declared.replies.Reply.TheVariants as reply
use Rattle.proof_claims.specs.Beneath.slot_arena.specs.Heaps.{next_ref}
use Rattle.proof_claims.specs.Beneath.machine_model.specs.declared.actions.Action.{Action}
use Rattle.proof_claims.specs.Beneath.machine_model.specs.declared.actions.Action.TheVariants as act
use Rattle.proof_claims.specs.Beneath.machine_model.specs.declared.copying.CopyLine.TheVariants as copy
use Rattle.proof_claims.specs.Beneath.machine_model.specs.declared.lines.Line.{Line}
use Rattle.proof_claims.specs.Beneath.machine_model.specs.declared.lines.Line.TheVariants as line
use Rattle.proof_claims.specs.Beneath.machine_model.specs.declared.operations.Operation.{Operation}
use Rattle.proof_claims.specs.Beneath.machine_model.specs.declared.repairs.CleanLine.TheVariants as clean
use Rattle.proof_claims.specs.Beneath.machine_model.specs.declared.repairs.ClimbLine.TheVariants as climb
use Rattle.proof_claims.specs.Beneath.machine_model.specs.declared.repairs.RenewLine.TheVariants as renew
use Rattle.proof_claims.specs.Beneath.machine_model.specs.Building.{build_if_made}
use Rattle.proof_claims.specs.Beneath.machine_model.specs.Calls.{changed_reply}
use Rattle.proof_claims.specs.Beneath.machine_model.specs.Cleaning.{clean_after_contracted}
use Rattle.proof_claims.specs.Beneath.machine_model.specs.Climbing.{climb_after_contracted}
use Rattle.proof_claims.specs.Beneath.machine_model.specs.Copying.{copy_if_made}
use Rattle.proof_claims.specs.Beneath.machine_model.specs.Operations.{line_action, line_after}
use Rattle.proof_claims.specs.Beneath.machine_model.specs.Renewing.{renew_after_branch, renew_after_link}
use Rattle.proof_claims.specs.Beneath.machine_model.specs.States.{State}

-- it is to make a node
abbrev pub is_making : Action → Bool
is_making (act.Make node) = true
is_making (act.MakeRoot main) = true
is_making action = false

module _ (state : State) (operation : Operation) (none : next_ref state.heap ≡ None) where
  abbrev pub EndsNow : Line → Type 0
  EndsNow l = (answer : Reply) × (line_after state operation l ≡ line.End answer)

  not_making : (l : Line) → is_making (line_action state operation l) ≡ false → is_making (line_action state operation l) ≡ true → EndsNow l
  not_making l none_made makes = absurd (true≢false (sym makes ∙ none_made))

  key_not : (l : _) → is_making (line_action state operation (line.Key l)) ≡ false
  key_not l = grind arith

  root_not : (l : _) → is_making (line_action state operation (line.Root l)) ≡ false
  root_not l = grind arith

  swap_not : (why : _) (s : _) → is_making (line_action state operation (line.Swap why s)) ≡ false
  swap_not why s = grind arith

  walk_not : (l : _) → is_making (line_action state operation (line.Walk l)) ≡ false
  walk_not l = grind arith

  read_not : (path : _) (main : _) (done : _) (r : _) → is_making (line_action state operation (line.Renew (renew.Read path main done r))) ≡ false
  read_not path main done r = grind arith

  clean_not : (path : _) (r : _) → is_making (line_action state operation (line.Clean (clean.Read path r))) ≡ false
  clean_not path r = grind arith

  child_not : (path : _) (main : _) (done : _) (r : _) → is_making (line_action state operation (line.Clean (clean.Child path main done r))) ≡ false
  child_not path main done r = grind arith

  climb_not : (c : _) (r : _) → is_making (line_action state operation (line.Climb (climb.Read c r))) ≡ false
  climb_not c r = grind arith

  top_not : (c : _) (l : _) → is_making (line_action state operation (line.Climb (climb.Root c l))) ≡ false
  top_not c l = grind arith

  copy_not : (root : _) (r : _) → is_making (line_action state operation (line.Copy (copy.Read root r))) ≡ false
  copy_not root r = grind arith

  complete_not : (c : _) → is_making (line_action state operation (line.Copy (copy.Complete c))) ≡ false
  complete_not c = grind arith

  pub ends_now : (l : Line) → is_making (line_action state operation l) ≡ true → EndsNow l
  ends_now (line.Build l) e = (reply.NoSlots, ap (build_if_made state operation l) none)
  ends_now (line.Renew (renew.Link path main done child)) e = (reply.NoSlots, ap (renew_after_link state path main done) none)
  ends_now (line.Renew (renew.Branch path main done)) e = (reply.NoSlots, ap (renew_after_branch path main) none)
  ends_now (line.Renew (renew.Entry path main done)) e = absurd (true≢false (sym e))
  ends_now (line.Renew (renew.Read path main done r)) e = not_making (line.Renew (renew.Read path main done r)) (read_not path main done r) e
  ends_now (line.Clean (clean.Contracted path main done)) e = (reply.NoSlots, ap (clean_after_contracted path main) none)
  ends_now (line.Clean (clean.Read path r)) e = not_making (line.Clean (clean.Read path r)) (clean_not path r) e
  ends_now (line.Clean (clean.Main path main)) e = absurd (true≢false (sym e))
  ends_now (line.Clean (clean.Entry path main done)) e = absurd (true≢false (sym e))
  ends_now (line.Clean (clean.Child path main done r)) e = not_making (line.Clean (clean.Child path main done r)) (child_not path main done r) e
  ends_now (line.Clean (clean.Tomb path main done child)) e = absurd (true≢false (sym e))
  ends_now (line.Climb (climb.Contracted c main)) e = (changed_reply operation.call c.former, ap (climb_after_contracted operation c main) none)
  ends_now (line.Climb (climb.Read c r)) e = not_making (line.Climb (climb.Read c r)) (climb_not c r) e
  ends_now (line.Climb (climb.Main c main)) e = absurd (true≢false (sym e))
  ends_now (line.Climb (climb.Root c l)) e = not_making (line.Climb (climb.Root c l)) (top_not c l) e
  ends_now (line.Copy (copy.Successor root main)) e = (reply.NoSlots, ap (copy_if_made operation (copy.Successor root main)) none)
  ends_now (line.Copy (copy.Second root main successor)) e = (reply.NoSlots, ap (copy_if_made operation (copy.Second root main successor)) none)
  ends_now (line.Copy (copy.Empty root main)) e = (reply.NoSlots, ap (copy_if_made operation (copy.Empty root main)) none)
  ends_now (line.Copy (copy.Cleared root main branch)) e = (reply.NoSlots, ap (copy_if_made operation (copy.Cleared root main branch)) none)
  ends_now (line.Copy (copy.Read root r)) e = not_making (line.Copy (copy.Read root r)) (copy_not root r) e
  ends_now (line.Copy (copy.Offer offer)) e = absurd (true≢false (sym e))
  ends_now (line.Copy (copy.Complete c)) e = not_making (line.Copy (copy.Complete c)) (complete_not c) e
  ends_now (line.Root l) e = not_making (line.Root l) (root_not l) e
  ends_now (line.Key l) e = not_making (line.Key l) (key_not l) e
  ends_now (line.Swap why s) e = not_making (line.Swap why s) (swap_not why s) e
  ends_now (line.Walk l) e = not_making (line.Walk l) (walk_not l) e
  ends_now (line.End answer) e = absurd (true≢false (sym e))
  ends_now line.Impossible e = absurd (true≢false (sym e))
