-- What each step of a call on one key below its root commits, and what that does to contents.
use Rattle.std.specs.Prelude.{◌≡◌, ℕ, Option, Some, None, refl}
use Rattle.std.proofs.Common.{◌∙◌, ap, sym, subst}
use Rattle.std.proofs.lemmas.Option.{none-some}
use Rattle.proof_calls.specs.Beneath.history.specs.declared.calls.Call.{Call}
use Rattle.proof_calls.specs.Beneath.history.specs.declared.calls.Call.TheVariants.{Close}
use Rattle.proof_calls.specs.Beneath.slot_arena.specs.declared.refs.Ref.{Ref}
use Rattle.proof_calls.specs.Beneath.machine_model.specs.declared.lines.Line.TheVariants as line
use Rattle.proof_calls.specs.Beneath.machine_model.specs.declared.lines.Purpose.{Purpose}
use Rattle.proof_calls.specs.Beneath.machine_model.specs.declared.lines.Purpose.TheVariants as purpose
use Rattle.proof_calls.specs.Beneath.machine_model.specs.declared.operations.Operation.{Operation}
use Rattle.proof_calls.specs.Beneath.machine_model.specs.declared.steps.Step.{Step}
use Rattle.proof_calls.specs.Beneath.machine_model.specs.declared.steps.Step.TheVariants as step
use Rattle.proof_calls.specs.Beneath.machine_model.specs.Machine.{run}
use Rattle.proof_calls.specs.Beneath.machine_model.specs.Operations.{action_of, line_action, read_of}
use Rattle.proof_calls.specs.Beneath.machine_model.specs.Tellings.{committed_in}
use Rattle.proof_calls.specs.Beneath.machine_model.specs.Paths.{above}
use Rattle.proof_calls.specs.Beneath.machine_model.specs.States.{State, operation_of}
use Rattle.proof_calls.specs.Beneath.gcas.specs.Swaps.{swap_of}
use Rattle.proof_calls.specs.Beneath.proof_order.specs.Facts.{committed_by_step, committed_of}
use Rattle.proof_updates.specs.Touching.{CommitsUpdate, Reaches, Touches}
use Rattle.proof_updates.specs.Touching.Touches.{updates, clears, closes}
use Rattle.proof_updates.proofs.Handles.OfLists.{one_update, untouched_stay, updates_change, repairs_stay}
use Rattle.proof_calls.specs.Beneath.key_change.specs.Lines.{line_at as change_at}
use Rattle.proof_calls.specs.Beneath.contract.specs.Cleaning.{clean_line_at}
use Rattle.proof_calls.specs.Beneath.contract.specs.Climbing.{climb_line_at, climb_of}
use Rattle.proof_calls.specs.Beneath.contract.specs.Renewing.{renew_line_at}
use Rattle.operate.specs.declared.key_op.BelowAt.{BelowAt}
use Rattle.operate.specs.declared.key_op.BelowAt.TheVariants as at
use Rattle.operate.specs.declared.key_op.KeyOp.{KeyOp}
use Rattle.operate.specs.Places.{below_line}
use Rattle.operate.proofs.Going.{LeavesRoots}
use Rattle.operate.proofs.Wherever.{calm_below}
use Rattle.proof_calls.specs.Standing.{StepsBelow, SwapsChanged, SwapsRepaired, committed}
use Rattle.proof_calls.specs.Laws.{ChangesItsKey, LeavesOthers, OfEachKeyStep, OnlyCommitsChange, RepairsLeave}

module _ (before : State) (s : Step) (op : KeyOp) (told : Option ℕ) (place : BelowAt) (operation : Operation) (x : StepsBelow before s op told place operation) where
  -- what the step commits is what the call's READ does
  commits : committed_by_step before s ≡ committed before op told place
  commits = ap (committed_by_step before) x.is_step ∙ ap (committed_of before) x.runs ∙ ap (λ l. committed_in before (read_of l)) x.stands

  leaves : LeavesRoots (action_of before operation)
  leaves = subst (λ l. LeavesRoots (line_action before operation l)) (sym x.stands) (calm_below before operation op told place).leaves

  -- another step than the call's
  begins : (actor : ℕ) (handle : ℕ) (number : Option ℕ) → s ≡ step.Begin actor (Close handle) number → ⊥
  begins actor handle number e = cc

  same_operation : (actor : ℕ) (other : Operation) → s ≡ step.Go actor → operation_of before actor ≡ Some other → other ≡ operation
  same_operation actor other is runs = cc

  -- what it touches it touches by an update
  touches_by : (handle : ℕ) → ((i : Ref) (call : Call) (former : Option ℕ) → CommitsUpdate before s i call former → Reaches before handle i → ⊥) → Touches before s handle → ⊥
  touches_by handle none (updates i call former u reaches) = none i call former u reaches
  touches_by handle none (clears opens c) =
      let carries = c.carries in
      let same = same_operation carries.0 carries.1 carries.3 carries.4 in
      subst LeavesRoots (ap (action_of before) (sym same) ∙ carries.5) leaves
  touches_by handle none (closes actor number e) = begins actor handle number e

  touches_none : committed before op told place ≡ None → (handle : ℕ) → Touches before s handle → ⊥
  touches_none none handle = touches_by handle (λ i call former u reaches. none-some u.swap.fresh (sym (commits ∙ none) ∙ u.commits))

pub only_commits : OfEachKeyStep OnlyCommitsChange
only_commits limits steps s outcome after ok fit taken op told place operation x none handle access pairs holds =
    untouched_stay limits steps s outcome after ok fit taken handle access pairs holds (touches_none _ s op told place operation x none handle)

-- ---- what it made itself

-- it swaps in what it made, for this
record Swapping (op : KeyOp) (told : Option ℕ) (place : BelowAt) : Type 0 where
  why : Purpose
  stands : below_line op told place ≡ line.Swap why (swap_of op.work.swap told)
  repairs : (path : _) (former : Option ℕ) → why ≡ purpose.Update path former → ⊥

repairing : (op : KeyOp) (told : Option ℕ) (place : BelowAt) → SwapsRepaired op place → Swapping op told place
repairing op told at.Renew e =
    record { why = purpose.Renew op.path; stands = ap (renew_line_at op.path op.work.swap told op.renew.main op.renew.done.items) e; repairs = λ path former h. cc }
repairing op told at.Clean e =
    record { why = purpose.Clean; stands = ap (clean_line_at (above op.path) op.work.swap told op.clean.main op.clean.done.items) e; repairs = λ path former h. cc }
repairing op told at.Climb e =
    record { why = purpose.Climb (climb_of op.path op.climb); stands = ap (climb_line_at op.work.swap told (climb_of op.path op.climb)) e; repairs = λ path former h. cc }
repairing op told at.Read e = absurd e
repairing op told (at.Main main) e = absurd e
repairing op told (at.Entry main position) e = absurd e
repairing op told (at.Listed main position) e = absurd e
repairing op told at.Change e = absurd e
repairing op told at.End e = absurd e
repairing op told at.Impossible e = absurd e

pub repairs_leave : OfEachKeyStep RepairsLeave
repairs_leave limits steps s outcome after ok fit taken op told place operation x repaired own handle access pairs holds =
    let w = repairing op told place repaired in
    repairs_stay limits steps s outcome after ok fit taken handle access pairs holds (record {
      actor = x.actor;
      operation = operation;
      runs = x.runs;
      why = w.why;
      swap = swap_of op.work.swap told;
      swaps = x.stands ∙ w.stands;
      repairs = w.repairs;
      commits = commits _ s op told place operation x ∙ own;
    })

changing : (op : KeyOp) (told : Option ℕ) (place : BelowAt) (former : Option ℕ) → SwapsChanged op place former →
    below_line op told place ≡ line.Swap (purpose.Update op.path former) (swap_of op.work.swap told)
changing op told at.Change former e = ap (change_at op.path op.work.swap told op.change.main) e
changing op told at.Read former e = absurd e
changing op told (at.Main main) former e = absurd e
changing op told (at.Entry main position) former e = absurd e
changing op told (at.Listed main position) former e = absurd e
changing op told at.Renew former e = absurd e
changing op told at.Clean former e = absurd e
changing op told at.Climb former e = absurd e
changing op told at.End former e = absurd e
changing op told at.Impossible former e = absurd e

-- the call's own commit, as an update of its key
update : (before : State) (s : Step) (op : KeyOp) (told : Option ℕ) (place : BelowAt) (operation : Operation) → StepsBelow before s op told place operation → (former : Option ℕ) →
    SwapsChanged op place former → committed before op told place ≡ Some op.work.swap.fresh → CommitsUpdate before s op.work.swap.read.indirection operation.call former
update before s op told place operation x former changed own = record {
  actor = x.actor;
  operation = operation;
  runs = x.runs;
  calls = refl;
  path = op.path;
  swap = swap_of op.work.swap told;
  swaps = x.stands ∙ changing op told place former changed;
  into = refl;
  commits = commits before s op told place operation x ∙ own;
}

pub changes_its_key : OfEachKeyStep ChangesItsKey
changes_its_key limits steps s outcome after ok fit taken op told place operation x former changed own handle access pairs holds =
    updates_change limits steps s outcome after ok fit taken handle access pairs op.work.swap.read.indirection operation.call former holds
    (update _ s op told place operation x former changed own)

pub leaves_others : OfEachKeyStep LeavesOthers
leaves_others limits steps s outcome after ok fit taken op told place operation x former changed own handle access pairs holds misses =
    untouched_stay limits steps s outcome after ok fit taken handle access pairs holds
    (touches_by _ s op told place operation x handle (λ i call known u reaches. misses (subst (Reaches (run limits steps) handle) (same i call known u) reaches)))
  where
    same : (i : Ref) (call : Call) (known : Option ℕ) → CommitsUpdate (run limits steps) s i call known → i ≡ op.work.swap.read.indirection
    same i call known u =
        one_update limits steps s outcome after ok fit taken i op.work.swap.read.indirection call operation.call known former u
        (update _ s op told place operation x former changed own)
