-- What the programs of a call come to: the operation runs on, and is on this line, or may give up.
use Rattle.std.proofs.Common.{◌≡◌, ℕ, List, Bool, true, false, Option, Some, None, refl, ap}
use Rattle.history.specs.declared.replies.Reply.{Reply}
use Rattle.history.specs.declared.replies.Reply.TheVariants as reply
use Rattle.machine_model.specs.Beneath.slot_arena.specs.declared.refs.Ref.{Ref}
use Rattle.machine_model.specs.declared.actions.Action.TheVariants as act
use Rattle.machine_model.specs.declared.building.BuildLine.TheVariants as build
use Rattle.machine_model.specs.declared.building.Change.{Change}
use Rattle.machine_model.specs.declared.lines.Line.{Line}
use Rattle.machine_model.specs.declared.lines.Line.TheVariants as line
use Rattle.machine_model.specs.declared.operations.Operation.{Operation}
use Rattle.machine_model.specs.declared.repairs.Climb.{Climb}
use Rattle.machine_model.specs.Calls.{changed_reply}
use Rattle.machine_model.specs.Climbing.{climbed, climbing}
use Rattle.machine_model.specs.Copying.{copied_reply}
use Rattle.machine_model.specs.GivingUp.{given_up}
use Rattle.machine_model.specs.Lines.{new_try}
use Rattle.machine_model.specs.Operations.{action_of}
use Rattle.machine_model.specs.Walking.{walked_reply}
use Rattle.lock_free.specs.declared.rules.View.{View}
use Rattle.lock_free.specs.declared.seeking.Sought.{Sought}
use Rattle.lock_free.specs.declared.seeking.Sought.TheVariants as sought
use Rattle.lock_free.specs.declared.swapping.Swapped.{Swapped}
use Rattle.lock_free.specs.declared.swapping.Swapped.TheVariants.{Commits, Fails, Misses}
use Rattle.lock_free.specs.declared.tasks.Task.{Task}
use Rattle.lock_free.specs.BuildingUp.{grown}
use Rattle.lock_free.specs.Calling.{MayGiveUp}
use Rattle.lock_free.specs.Climbs.{HasClimbedUp}
use Rattle.lock_free.specs.CopySteps.{HasMadeCopy, tried_on, copied_line}
use Rattle.lock_free.specs.Descending.{line_updated}
use Rattle.lock_free.specs.Holding.{IsOn}
use Rattle.lock_free.specs.Loading.{now, IsAt, Runs}
use Rattle.lock_free.specs.Repairing.{GivesUp, HasEndedAt}
use Rattle.lock_free.specs.RunningOn.{RunsOn, IsSame, MayAnswer}
use Rattle.lock_free.specs.Seeking.{HasSought, HasTried}
use Rattle.lock_free.specs.Updating.{HasChanged, HasUpdated, changed_by, changed_to, updated}
use Rattle.lock_free.specs.Walks.{HasAllPairs, IsLeft}
use Rattle.lock_free.proofs.RunningOn.{runs_on_become, runs_on_both, runs_on_ended, runs_on_left, runs_on_moved, runs_on_rooted}
use Rattle.lock_free.specs.declared.reclaiming.Retiree.{Retiree}

-- ---- it is to end, or may give up

pub at_end : (v : View) (answer : Reply) → IsOn v (line.End answer) → IsAt v (act.End answer)
at_end v answer at = record {
  operation = record at.0 { is_marked = at.1.0 };
  runs = at.1.1;
  acts = ap (λ l. action_of (now v) (record at.0 { is_marked = at.1.0; line = l })) at.2;
}

pub may_give_up : (v : View) (answer : Reply) → MayAnswer v answer → MayGiveUp v
may_give_up v answer m = (m.0, answer, m.1, m.2)

pub left_may : (v w : View) (answer : Operation → Reply) → GivesUp answer v w → (o : Operation) → Runs v o → MayAnswer w (answer o)
left_may v w answer g o r = let x = g.runs o r in (record o { private = x.0; line = x.1 }, x.2, x.3)

pub ended_on : (v w : View) (l : Line) → HasEndedAt l v w → (o : Operation) → Runs v o → IsOn w l
ended_on v w l e o r = let x = e.comes o r in (record o { private = x.0; line = l }, x.1, refl)

-- ---- a try of a call on a key

pub sought_runs_on : (v w : View) (slots : List ℕ) (result : Sought) → HasSought v slots result w → RunsOn v w
sought_runs_on v w slots (sought.Answers answer) h = runs_on_ended v w (λ o. line.End answer) h
sought_runs_on v w slots (sought.Changes update given) h = runs_on_ended v w (λ o. line_updated h.path h.main h.other update) h.ended
sought_runs_on v w slots sought.Again h = runs_on_ended v w (λ o. new_try) h
sought_runs_on v w slots sought.Full h = runs_on_left v w (λ o. reply.NoSlots) h

module _ (v w : View) (slots : List ℕ) (task : Task) where
  pub tried_runs_on : (result : Sought) → HasTried v slots (task, result) w → RunsOn v w
  tried_runs_on result (middle, slot, rooted, its, h) =
      runs_on_both v middle w (runs_on_rooted v middle (record { slot = slot; generation = task.start }) rooted) (sought_runs_on middle w slots result h)

  module _ (o : Operation) (r : Runs v o) where
    -- it is to be answered
    pub tried_answers : (answer : Reply) → HasTried v slots (task, sought.Answers answer) w → IsOn w (line.End answer)
    tried_answers answer (middle, slot, rooted, its, h) =
        let x = (runs_on_rooted v middle (record { slot = slot; generation = task.start }) rooted).runs o r in ended_on middle w (line.End answer) h x.0 x.1

    -- it begins a new try
    pub tried_again : HasTried v slots (task, sought.Again) w → IsOn w new_try
    tried_again (middle, slot, rooted, its, h) =
        let x = (runs_on_rooted v middle (record { slot = slot; generation = task.start }) rooted).runs o r in ended_on middle w new_try h x.0 x.1

    -- it has no slot
    pub tried_full : HasTried v slots (task, sought.Full) w → MayAnswer w reply.NoSlots
    tried_full (middle, slot, rooted, its, h) =
        let x = (runs_on_rooted v middle (record { slot = slot; generation = task.start }) rooted).runs o r in left_may middle w (λ q. reply.NoSlots) h x.0 x.1

-- ---- a change with a new single

updated_same : (former : Option ℕ) (result : Swapped) (o : Operation) → IsSame o (updated former result o)
updated_same former (Commits had) o = refl
updated_same former (Fails r) o = refl
updated_same former Misses o = refl

module _ (v w : View) (former : Option ℕ) where
  pub updated_runs_on : (result : Option Swapped) → HasUpdated v former result w → RunsOn v w
  updated_runs_on None (l, reached) = runs_on_become v w (grown reached.more (line.Build l)) (λ o. refl) reached.become
  updated_runs_on (Some result) h = runs_on_become v w (updated former result) (updated_same former result) h

  module _ (o : Operation) (r : Runs v o) where
    pub updated_full : HasUpdated v former None w → MayAnswer w reply.NoSlots
    updated_full (l, reached) = (grown reached.more (line.Build l) o, reached.become.comes o r, refl)

    pub updated_commits : (had : Option Retiree) → HasUpdated v former (Some (Commits had)) w → IsOn w (line.End (changed_reply o.call former))
    updated_commits had h = (updated former (Commits had) o, h.comes o r, refl)

    pub updated_fails : (had : Retiree) → HasUpdated v former (Some (Fails had)) w → IsOn w new_try
    updated_fails had h = (updated former (Fails had) o, h.comes o r, refl)

    pub updated_misses : HasUpdated v former (Some Misses) w → IsOn w new_try
    updated_misses h = (updated former Misses o, h.comes o r, refl)

-- ---- a change of one main node alone

changed_same : (path : List Ref) (former : Option ℕ) (c : Change) (result : Swapped) (o : Operation) → IsSame o (changed_by path former c result o)
changed_same path former c (Commits had) o = refl
changed_same path former c (Fails r) o = refl
changed_same path former c Misses o = refl

module _ (v w : View) (path : List Ref) (main : Ref) (its : Change) (former : Option ℕ) (on : IsOn v (line.Build (build.Main path main its former))) where
  pub changed_runs_on : (result : Option Swapped) → HasChanged v result w → RunsOn v w
  changed_runs_on None h = runs_on_become v w (λ o. o) (λ o. refl) (h path main its former on)
  changed_runs_on (Some result) h = runs_on_become v w (changed_by path former its result) (changed_same path former its result) (h path main its former on)

  pub changed_full : HasChanged v None w → MayAnswer w reply.NoSlots
  changed_full h = (on.0, (h path main its former on).comes on.0 on.1, ap (given_up on.0.call) on.2)

  module _ (o : Operation) (r : Runs v o) where
    -- it is to be answered, or to climb
    pub changed_commits : (had : Option Retiree) → HasChanged v (Some (Commits had)) w → IsOn w (changed_to path former its o)
    changed_commits had h = (changed_by path former its (Commits had) o, (h path main its former on).comes o r, refl)

    pub changed_fails : (had : Retiree) → HasChanged v (Some (Fails had)) w → IsOn w new_try
    changed_fails had h = (changed_by path former its (Fails had) o, (h path main its former on).comes o r, refl)

    pub changed_misses : HasChanged v (Some Misses) w → IsOn w new_try
    changed_misses h = (changed_by path former its Misses o, (h path main its former on).comes o r, refl)

-- ---- a climb

module _ (v w : View) (c : Climb) (climbs : (o : Operation) → Runs v o → o.line ≡ climbing o c) where
  pub climbed_runs_on : (done : Bool) → HasClimbedUp v done w → RunsOn v w
  climbed_runs_on true h = runs_on_ended v w (λ o. climbed o c.former) (h c climbs)
  climbed_runs_on false h = runs_on_left v w (λ o. changed_reply o.call c.former) (h c climbs)

  module _ (o : Operation) (r : Runs v o) where
    pub climbed_up : HasClimbedUp v true w → IsOn w (line.End (changed_reply o.call c.former))
    climbed_up h = let x = (h c climbs).comes o r in (record o { private = x.0; line = climbed o c.former }, x.1, refl)

    -- it has no slot for the rest of the climb: it is answered all the same
    pub climb_left : HasClimbedUp v false w → MayAnswer w (changed_reply o.call c.former)
    climb_left h = left_may v w (λ q. changed_reply q.call c.former) (h c climbs) o r

-- ---- a copy

module _ (v w : View) where
  pub copied_runs_on : (done : Bool) → HasMadeCopy v done w → RunsOn v w
  copied_runs_on true h =
      record { still = h.still; runs = λ o r. (let x = h.comes o r in (tried_on x.0 x.1 x.2 (copied_line true o) o, x.3, refl)) }
  copied_runs_on false h =
      record { still = h.still; runs = λ o r. (let x = h.stops o r in (tried_on x.0 x.1 x.2 (line.Copy x.3) o, x.4, refl)) }

  module _ (o : Operation) (r : Runs v o) where
    pub copied : HasMadeCopy v true w → IsOn w (line.End (copied_reply o.call o.opens))
    copied h = let x = h.comes o r in (tried_on x.0 x.1 x.2 (copied_line true o) o, x.3, refl)

    pub copy_full : HasMadeCopy v false w → MayAnswer w reply.NoSlots
    copy_full h = let x = h.stops o r in (tried_on x.0 x.1 x.2 (line.Copy x.3) o, x.4, x.5)

  -- ---- a walk

  pub walked_runs_on : (pairs : List (ℕ × ℕ)) → HasAllPairs v pairs w → RunsOn v w
  walked_runs_on pairs h = runs_on_moved v w (λ o. line.End (walked_reply o.call pairs)) h

  pub walked : (pairs : List (ℕ × ℕ)) → HasAllPairs v pairs w → (o : Operation) → Runs v o → IsOn w (line.End (walked_reply o.call pairs))
  walked pairs h o r = (record o { line = line.End (walked_reply o.call pairs) }, h.comes o r, refl)

  -- it has no memory, or no slot
  pub left_runs_on : IsLeft v w → RunsOn v w
  left_runs_on g = runs_on_moved v w g.0 g.2

  pub walk_left : IsLeft v w → (o : Operation) → Runs v o → MayAnswer w reply.NoSlots
  walk_left g o r = (record o { line = g.0 o }, g.2.comes o r, g.1 o)
