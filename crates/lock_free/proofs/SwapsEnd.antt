-- What an operation comes to once its SWAP, which was under way, has come to its end: it is to be answered, or may give up.
use Rattle.std.proofs.Common.{◌≡◌, ◌⊎◌, ℕ, Bool, true, false, Option, Some, if◌then◌else◌, inl, inr, refl, sym, ap, subst}
use Rattle.history.specs.declared.replies.Reply.{Reply}
use Rattle.history.specs.declared.replies.Reply.TheVariants as reply
use Rattle.machine_model.specs.Beneath.slot_arena.specs.declared.nodes.Node.{Node}
use Rattle.machine_model.specs.Beneath.slot_arena.specs.declared.nodes.Node.TheVariants.{Indirection, Branch, Single, Tomb, List as Listed}
use Rattle.machine_model.specs.Beneath.slot_arena.specs.Heaps.{node_at}
use Rattle.machine_model.specs.declared.lines.Line.{Line}
use Rattle.machine_model.specs.declared.lines.Line.TheVariants as line
use Rattle.machine_model.specs.declared.lines.Purpose.{Purpose}
use Rattle.machine_model.specs.declared.lines.Purpose.TheVariants as purpose
use Rattle.machine_model.specs.declared.operations.Operation.{Operation}
use Rattle.machine_model.specs.declared.repairs.Climb.{Climb}
use Rattle.machine_model.specs.Calls.{changed_reply}
use Rattle.machine_model.specs.Climbing.{climbed, climbing}
use Rattle.machine_model.specs.GivingUp.{given_up}
use Rattle.machine_model.specs.Operations.{swapped}
use Rattle.machine_model.specs.Paths.{is_below_root}
use Rattle.lock_free.specs.declared.leaving.Swapping.{Swapping}
use Rattle.lock_free.specs.declared.rules.View.{View}
use Rattle.lock_free.specs.declared.reclaiming.Decided.{Decided}
use Rattle.lock_free.specs.Calling.{cut_short}
use Rattle.lock_free.specs.Climbs.{at_parent}
use Rattle.lock_free.specs.Leaving.{EndsOrMay, HasDecidedSwap, IsClimbAfter, IsRepair, IsSwapLeft, IsUpdate}
use Rattle.lock_free.specs.Loading.{now, Runs}
use Rattle.lock_free.specs.RunningOn.{MayAnswer, RunsOn}
use Rattle.lock_free.specs.Swaps.{is_done, swap_done, swapped_by}
use Rattle.lock_free.proofs.Retirings.{still_retiring}

-- it ends with this, or gives up so
abbrev LineTells : Operation → Line → Reply → Type 0
LineTells o l answer = (l ≡ line.End answer) ⊎ (cut_short o.call l ≡ Some answer)

repair_line : (o : Operation) (node : Node) (why : Purpose) (done : Bool) → IsRepair why → given_up o.call (swapped o node why done) ≡ Some reply.NoSlots
repair_line o node (purpose.Renew path) true is = refl
repair_line o node (purpose.Renew path) false is = refl
repair_line o node purpose.Clean done is = refl
repair_line o node (purpose.Update path former) done is = absurd is
repair_line o node (purpose.Climb c) done is = absurd is

climbing_by : (o : Operation) (c : Climb) (b : Bool) → LineTells o (if b then at_parent c else climbed o c.former) (changed_reply o.call c.former)
climbing_by o c true = inr refl
climbing_by o c false = inl refl

climbing_line : (o : Operation) (c : Climb) → LineTells o (climbing o c) (changed_reply o.call c.former)
climbing_line o c = climbing_by o c (is_below_root c.path)

update_line : (o : Operation) (node : Node) (why : Purpose) (former : Option ℕ) → IsUpdate former why → LineTells o (swapped o node why true) (changed_reply o.call former)
update_line o (Tomb single) (purpose.Update path before) former is =
    subst (λ f. LineTells o (climbing o (record { path = path; single = single; former = before })) (changed_reply o.call f)) is (climbing_line o (record {
      path = path;
      single = single;
      former =
          before;
    }))
update_line o (Indirection g m) (purpose.Update path before) former is = inl (ap (λ f. line.End (changed_reply o.call f)) is)
update_line o (Branch b es) (purpose.Update path before) former is = inl (ap (λ f. line.End (changed_reply o.call f)) is)
update_line o (Single k v) (purpose.Update path before) former is = inl (ap (λ f. line.End (changed_reply o.call f)) is)
update_line o (Listed ss) (purpose.Update path before) former is = inl (ap (λ f. line.End (changed_reply o.call f)) is)
update_line o node (purpose.Renew path) former is = absurd is
update_line o node purpose.Clean former is = absurd is
update_line o node (purpose.Climb c) former is = absurd is

refused_line : (o : Operation) (node : Node) (why : Purpose) (former : Option ℕ) → IsUpdate former why → given_up o.call (swapped o node why false) ≡ Some reply.NoSlots
refused_line o node (purpose.Update path before) former is = refl
refused_line o node (purpose.Renew path) former is = absurd is
refused_line o node purpose.Clean former is = absurd is
refused_line o node (purpose.Climb c) former is = absurd is

climb_line : (o : Operation) (node : Node) (why : Purpose) (done : Bool) (former : Option ℕ) → IsClimbAfter former why → LineTells o (swapped o node why done) (changed_reply o.call former)
climb_line o (Tomb single) (purpose.Climb c) true former is = subst (λ f. LineTells o (swapped o (Tomb single) (purpose.Climb c) true) (changed_reply o.call f)) is (climbing_line o _)
climb_line o (Indirection g m) (purpose.Climb c) true former is = inl (ap (λ f. line.End (changed_reply o.call f)) is)
climb_line o (Branch b es) (purpose.Climb c) true former is = inl (ap (λ f. line.End (changed_reply o.call f)) is)
climb_line o (Single k v) (purpose.Climb c) true former is = inl (ap (λ f. line.End (changed_reply o.call f)) is)
climb_line o (Listed ss) (purpose.Climb c) true former is = inl (ap (λ f. line.End (changed_reply o.call f)) is)
climb_line o node (purpose.Climb c) false former is = inr (ap (λ f. Some (changed_reply o.call f)) is)
climb_line o node (purpose.Update path before) done former is = absurd is
climb_line o node (purpose.Renew path) done former is = absurd is
climb_line o node purpose.Clean done former is = absurd is

module _ (v : View) (s : Swapping) (left : IsSwapLeft v s) (result : Decided) (w : View) (h : HasDecidedSwap v s result w) where
  abbrev done : Bool
  done = is_done (swapped_by result)

  abbrev node : Node
  node = node_at (now v).heap left.made

  abbrev next : Operation → Operation
  next o = swap_done left.why node done o

  comes : (o : Operation) → Runs v o → Runs w (next o)
  comes o r = h.comes left.why left.i left.replaced left.made left.its o r

  pub decided_runs_on : RunsOn v w
  decided_runs_on = record { still = still_retiring v w h.later; runs = λ o r. (next o, comes o r, refl) }

  tells : (o : Operation) → Runs v o → (answer : Reply) → LineTells o (swapped o node left.why done) answer → EndsOrMay w answer
  tells o r answer is = (next o, comes o r, is)

  module _ (o : Operation) (r : Runs v o) where
    -- a repair's: a new try begins, or the branch is read again
    pub repair_ends : IsRepair left.why → MayAnswer w reply.NoSlots
    repair_ends aim = (next o, comes o r, repair_line o node left.why done aim)

    -- a change's that was committed is answered, or climbs
    pub update_ends : (former : Option ℕ) → IsUpdate former left.why → done ≡ true → EndsOrMay w (changed_reply o.call former)
    update_ends former aim is =
        tells o r (changed_reply o.call former) (subst (λ b. LineTells o (swapped o node left.why b) (changed_reply o.call former)) (sym is) (update_line o node left.why former aim))

    -- one that was refused begins a new try
    pub update_again : (former : Option ℕ) → IsUpdate former left.why → done ≡ false → MayAnswer w reply.NoSlots
    update_again former aim is =
        (next o, comes o r, subst (λ b. given_up o.call (swapped o node left.why b) ≡ Some reply.NoSlots) (sym is) (refused_line o node left.why former aim))

    -- a climb's is answered, or climbs on
    pub climb_ends : (former : Option ℕ) → IsClimbAfter former left.why → EndsOrMay w (changed_reply o.call former)
    climb_ends former aim = tells o r (changed_reply o.call former) (climb_line o node left.why done former aim)
