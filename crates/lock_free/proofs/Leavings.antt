-- A program ends that is out of tries: how that is composed.
use Rattle.std.proofs.Common.{◌≡◌, ◌∙◌, ℕ, arith, refl, ap, subst, sym, Some, None, Ok, Err, Result, IfOk, IfErr}
use Rattle.std.proofs.lemmas.Option.{none-some}
use Rattle.history.specs.declared.calls.Call.{Call}
use Rattle.history.specs.declared.replies.Reply.{Reply}
use Rattle.machine_model.specs.Beneath.slot_arena.specs.declared.refs.Ref.{Ref}
use Rattle.machine_model.specs.declared.copying.CopyLine.TheVariants as copy
use Rattle.machine_model.specs.declared.lines.Line.{Line}
use Rattle.machine_model.specs.declared.lines.Line.TheVariants as line
use Rattle.machine_model.specs.declared.lines.Purpose.{Purpose}
use Rattle.machine_model.specs.declared.lines.Purpose.TheVariants as purpose
use Rattle.machine_model.specs.declared.operations.Operation.{Operation}
use Rattle.machine_model.specs.declared.reading.After.TheVariants.{Goes}
use Rattle.machine_model.specs.declared.reading.Read.{Read}
use Rattle.machine_model.specs.declared.reading.ReadLine.{ReadLine}
use Rattle.machine_model.specs.declared.reading.SwapLine.{SwapLine}
use Rattle.machine_model.specs.declared.reading.SwapLine.TheVariants as swap
use Rattle.machine_model.specs.declared.repairs.ClimbLine.{ClimbLine}
use Rattle.machine_model.specs.declared.repairs.ClimbLine.TheVariants as climb
use Rattle.machine_model.specs.Calls.{changed_reply}
use Rattle.machine_model.specs.GivingUp.{given_up, swap_given_up, former_of}
use Rattle.machine_model.specs.Operations.{read_of, swapping_read}
use Rattle.lock_free.specs.declared.leaving.Left.{Left}
use Rattle.lock_free.specs.declared.leaving.Left.TheVariants as left
use Rattle.lock_free.specs.declared.reading.ReadFrom.{ReadFrom}
use Rattle.lock_free.specs.declared.rules.View.{View}
use Rattle.lock_free.specs.Holding.{IsOn}
use Rattle.lock_free.specs.Leaving.{Halts, HasLeftOff, IsLeft, Leaves, MayLeave}
use Rattle.lock_free.specs.GoingDown.{HasMoved}
use Rattle.lock_free.specs.Loading.{IsSound, Runs}
use Rattle.lock_free.specs.Repairing.{GivesUp}
use Rattle.lock_free.specs.Stocks.{Stocked, IsStock}
use Rattle.lock_free.specs.OfReads.{climb_on, on_read, read_to}
use Rattle.lock_free.specs.Passing.{HasCome, HasPassed, IsReading}
use Rattle.lock_free.specs.RunningOn.{RunsOn}
use Rattle.lock_free.specs.declared.reading.Passed.TheVariants as passed
use Rattle.lock_free.proofs.Comings.{all_read, runs_one}
use Rattle.lock_free.proofs.BecomesOn.{stock_moved}
use Rattle.lock_free.proofs.Followings.{follows_later}
use Rattle.lock_free.proofs.Laters.{later_both}
use Rattle.lock_free.proofs.OnLines.{line_is}
use Rattle.lock_free.proofs.OnePass.{line_from}
use Rattle.lock_free.proofs.RunningOn.{runs_on_both, runs_on_moved, still_later}
use Rattle.lock_free.specs.declared.leaving.Swapping.{Swapping}
use Rattle.lock_free.specs.Leaving.{LeavesSwap}

-- ---- how an operation gives up doesn't change in a READ

swap_none : (call : Call) (why : Purpose) (x : ReadLine) → swap_given_up call why (swap.Deciding x) ≡ None
swap_none call (purpose.Update path former) x = refl
swap_none call (purpose.Renew path) x = refl
swap_none call purpose.Clean x = refl
swap_none call (purpose.Climb c) x = refl

swap_same : (call : Call) (why : Purpose) (i : Ref) (l : SwapLine) (x : ReadLine) (r : Read) → swapping_read i l ≡ Some r → swap_given_up call why (swap.Deciding x) ≡ swap_given_up call why l
swap_same call why i swap.Publish x r is = absurd (none-some r is)
swap_same call why i (swap.Deciding y) x r is = swap_none call why x ∙ sym (swap_none call why y)
swap_same call why i swap.Check x r is = absurd (none-some r is)

former_same : (l : ClimbLine) (x : ReadLine) → former_of (climb_on l x) ≡ former_of l
former_same (climb.Read c r) x = refl
former_same (climb.Main c main) x = refl
former_same (climb.Contracted c main) x = refl
former_same (climb.Root c l) x = refl

pub read_gives_up : (call : Call) (l : Line) (x : ReadLine) (r : Read) → read_of l ≡ Some r → given_up call (on_read l x) ≡ given_up call l
read_gives_up call (line.Root l) x r is = refl
read_gives_up call (line.Key l) x r is = refl
read_gives_up call (line.Build l) x r is = absurd (none-some r is)
read_gives_up call (line.Swap why s) x r is = swap_same call why s.indirection s.line x r is
read_gives_up call (line.Renew l) x r is = refl
read_gives_up call (line.Clean l) x r is = refl
read_gives_up call (line.Climb l) x r is = ap (λ f. Some (changed_reply call f)) (former_same l x)
read_gives_up call (line.Copy (copy.Read at q)) x r is = refl
read_gives_up call (line.Copy (copy.Complete c)) x r is = refl
read_gives_up call (line.Copy l) x r is = absurd (grind arith)
read_gives_up call (line.Walk l) x r is = refl
read_gives_up call (line.End answer) x r is = absurd (none-some r is)
read_gives_up call line.Impossible x r is = absurd (none-some r is)

-- ---- who may give up

pub may_on : (answers : Call → Reply) (v : View) (l : Line) → IsOn v l → ((call : Call) → given_up call l ≡ Some (answers call)) → MayLeave answers v
may_on answers v l at is o r =
    ap (λ (z : Operation). given_up z.call z.line) (runs_one v o at.0 r at.1) ∙ ap (given_up at.0.call) at.2 ∙ is at.0.call ∙ ap (λ (z : Operation). Some (answers z.call)) (runs_one v at.0 o at.1 r)

-- ---- a READ is out of tries

module _ (v : View) (i : Ref) (x y : ReadLine) (reading : IsReading v i x) (w : View) (come : HasCome (Goes y) v w) where
  pub come_on_runs : RunsOn v w
  come_on_runs = record { still = still_later v w come.later; runs = λ o r. (read_to (Goes y) o, come.comes o r, refl) }

-- ---- one program in another

pub left_off : (answers : Call → Reply) (aims : Purpose → Type 0) (v : View) (result : Left) (w : View) → HasLeftOff v result w → MayLeave answers v → Leaves answers aims v result w
left_off answers aims v result w h may = record { on = runs_on_moved v w h.next h.moved; is = subst (λ l. IsLeft answers aims l w) (sym h.is) (h.leaves answers may) }

pub left_stock : (n : ℕ) (v : View) (sound : IsSound n v) (l : Line) → IsOn v l → (result : Left) (w : View) → HasLeftOff v result w → (stock : Stocked) → IsStock stock v → IsStock stock w
left_stock n v sound l at result w h stock is = stock_moved n v w sound l at h.next h.moved stock is

pub swap_leaves : (answers : Call → Reply) (aims : Purpose → Type 0) (u v w : View) (s : Swapping) → RunsOn u v → LeavesSwap aims v s w → Leaves answers aims u (left.Swapping s) w
swap_leaves answers aims u v w s on h = record { on = runs_on_both u v w on h.on; is = (h.its, h.aim) }

-- ---- it halts

pub read_halts : (answer : Operation → Reply) (v w : View) (i : Ref) (x : ReadLine) → IsReading v i x → (place : ReadFrom) → HasPassed v (passed.Again place) w →
    ((o : Operation) → Runs v o → given_up o.call o.line ≡ Some (answer o)) → Halts answer v w
read_halts answer v w i x reading place h may =
    let come = line_from v w i place (h i x reading) in
    record {
      next = λ o. on_read o.line come.0;
      moved = record { later = come.1.later; comes = come.1.comes };
      gives_up = λ o r. read_gives_up o.call o.line come.0 (record { indirection = i; line = x }) (all_read v i x reading o r) ∙ may o r;
    }

pub halts_later : (answer : Reply) (u v w : View) (f : Operation → Line) → HasMoved f u v → Halts (λ o. answer) v w → Halts (λ o. answer) u w
halts_later answer u v w f m h = record {
  next = λ o. h.next (record o { line = f o });
  moved = record { later = later_both u v w m.later h.moved.later; comes = λ o r. h.moved.comes (record o { line = f o }) (m.comes o r) };
  gives_up = λ o r. h.gives_up (record o { line = f o }) (m.comes o r);
}

pub off_halts : (answers : Call → Reply) (v : View) (result : Left) (w : View) → HasLeftOff v result w → MayLeave answers v → Halts (λ o. answers o.call) v w
off_halts answers v result w h may = record { next = h.next; moved = h.moved; gives_up = λ o r. h.leaves answers may (record o { line = h.next o }) (h.moved.comes o r) }

pub halts_gives : (answer : Operation → Reply) (v w : View) → Halts answer v w → GivesUp answer v w
halts_gives answer v w h = record { follows = follows_later v w h.moved.later; runs = λ o r. (o.private, h.next o, h.moved.comes o r, h.gives_up o r) }

pub halts_stock : (answer : Operation → Reply) (n : ℕ) (v w : View) (sound : IsSound n v) (l : Line) → IsOn v l → Halts answer v w → (stock : Stocked) → IsStock stock v → IsStock stock w
halts_stock answer n v w sound l at h stock is = stock_moved n v w sound l at h.next h.moved stock is

-- who is on this line may give up so
pub line_may : (answer : Operation → Reply) (v : View) (l : Line) → IsOn v l → ((o : Operation) → given_up o.call l ≡ Some (answer o)) → (o : Operation) → Runs v o →
    given_up o.call o.line ≡ Some (answer o)
line_may answer v l at is o r = ap (given_up o.call) (line_is v l at o r) ∙ is o

-- ---- what comes of a program

pub if_ok : {A E : Type 0} (P Q : A → Type 0) → ((x : A) → P x → Q x) → (r : Result A E) → IfOk r P → IfOk r Q
if_ok P Q f (Ok x) h = f x h
if_ok P Q f (Err e) h = h

pub if_err : {A E : Type 0} (P Q : E → Type 0) → ((x : E) → P x → Q x) → (r : Result A E) → IfErr r P → IfErr r Q
if_err P Q f (Ok x) h = h
if_err P Q f (Err e) h = f e h
