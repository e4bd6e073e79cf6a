-- A removal leaves a tomb and climbs.
use Rattle.std.proofs.Common.{◌≡◌, ◌<◌, ◌-◌, ℕ, false, true, get_or, length, List, [], Option, Some, None, refl, sym, ap, ap₂, subst, ◌∙◌}
use Rattle.history.specs.declared.replies.Reply.{Reply}
use Rattle.trie_words.specs.declared.entries.Entry.{Entry}
use Rattle.machine_model.specs.Beneath.ctrie_base.specs.Hashes.{hash_of}
use Rattle.machine_model.specs.Beneath.slot_arena.specs.Heaps.{node_at}
use Rattle.machine_model.specs.declared.building.BuildLine.TheVariants as build
use Rattle.machine_model.specs.declared.building.Change.TheVariants as change
use Rattle.machine_model.specs.declared.lines.Line.{Line}
use Rattle.machine_model.specs.declared.lines.Line.TheVariants as line
use Rattle.machine_model.specs.declared.operations.Operation.{Operation}
use Rattle.machine_model.specs.declared.repairs.Climb.{Climb}
use Rattle.machine_model.specs.Calls.{changed_reply, key_of}
use Rattle.machine_model.specs.Climbing.{climbing}
use Rattle.machine_model.specs.GivingUp.{gave_up}
use Rattle.nodes.specs.Levels.{flag_of}
use Rattle.proof_memory.proofs.Claims.Uses.{meets_of}
use Rattle.lock_free.specs.declared.attempts.Attempt.TheVariants as attempt
use Rattle.lock_free.specs.declared.changing.Edit.{Edit}
use Rattle.lock_free.specs.declared.descending.Update.TheVariants as update
use Rattle.lock_free.specs.declared.leaving.Swapping.{Swapping}
use Rattle.lock_free.specs.declared.parking.Came.{Came}
use Rattle.lock_free.specs.declared.parking.Came.TheVariants as came
use Rattle.lock_free.specs.declared.parking.Parked.TheVariants as parked
use Rattle.lock_free.specs.declared.reading.Given.{Given}
use Rattle.lock_free.specs.declared.rules.View.{View}
use Rattle.lock_free.specs.declared.swapping.Swapped.TheVariants.{Commits, Fails, Misses}
use Rattle.lock_free.specs.declared.tasks.Task.{Task}
use Rattle.lock_free.specs.Attempts.{HasAttempted, IsToChange, IsToClimb}
use Rattle.lock_free.specs.Becoming.{HasBecome}
use Rattle.lock_free.specs.LettingMadeGo.{GivesAllUp, HasGivenAllUp}
use Rattle.lock_free.specs.Changing.{IsChange}
use Rattle.lock_free.specs.Climbs.{HasClimbedUp, HasLeftClimb}
use Rattle.lock_free.specs.Descending.{IsTask}
use Rattle.lock_free.specs.Holding.{IsOn}
use Rattle.lock_free.specs.Leaving.{IsClimbAfter, LeavesChange}
use Rattle.lock_free.specs.Loading.{now, Runs, IsSound}
use Rattle.lock_free.specs.Nodes.{is_single}
use Rattle.lock_free.specs.Parking.{HasRunTo}
use Rattle.lock_free.specs.RunningOn.{MayAnswer}
use Rattle.lock_free.specs.SeenEntries.{entry_to, unowned}
use Rattle.lock_free.specs.Updating.{changed_by, HasChanged, IsAtChange}
use Rattle.lock_free.proofs.CallsRunOn.{changed_fails, changed_full, changed_misses, changed_runs_on, climb_left, climbed_runs_on, climbed_up}
use Rattle.lock_free.proofs.Comings.{runs_one}
use Rattle.lock_free.proofs.EntriesTo.{entry_to_on}
use Rattle.lock_free.proofs.Followings.{used_on}
use Rattle.lock_free.proofs.KeyChanges.{change_by}
use Rattle.lock_free.proofs.OnLines.{finds_now}
use Rattle.lock_free.proofs.FreesOn.{let_go_becomes}
use Rattle.lock_free.proofs.RunningOn.{runs_on_become, runs_on_both, runs_on_given_up}
use Rattle.lock_free.proofs.Seekings.{are_at_on}
use Rattle.lock_free.proofs.TombSingles.{same_kind}
use Rattle.lock_free.specs.declared.reclaiming.Retiree.{Retiree}

-- ---- a tomb

module _ (n : ℕ) (v : View) (sound : IsSound n v) (task : Task) (t : IsTask v task) (slots : List ℕ) (some : 0 < length slots) (given : Given) (single : Entry) (former : ℕ)
    (at : IsToChange v slots given (update.Entombs single former)) where
  abbrev first : Line
  first = line.Build (build.Main at.path at.main (change.Entomb at.other) (Some former))

  abbrev first_on : IsOn v first
  first_on = at.on

  pub tomb_ready : (flag : ℕ) → flag ≡ flag_of task.hash (length slots - 1) → (e : Edit) → IsChange v e (change.Entomb at.other) → IsAtChange v (get_or slots (length slots - 1) 0) given flag e
  tomb_ready flag is e same = change_by v task t slots some given (update.Entombs single former) at (change.Entomb at.other) (Some former) at.on e same flag is

  kind : is_single (node_at (now v).heap at.other) ≡ true
  kind = same_kind (node_at (now v).heap at.other) (meets_of (finds_now v first at.on n sound).1.1.1.0)

  entry_is : entry_to v at.other ≡ record { slot = single.slot; own = false; is_single = single.is_single }
  entry_is = ap₂ (λ s b. record { slot = s; own = false; is_single = b }) at.knows.0.1 (kind ∙ sym at.knows.1)

  module _ (w : View) where
    pub tomb_full : HasChanged v None w → HasAttempted v (attempt.Comes came.Spent) w
    tomb_full h = (changed_runs_on v w at.path at.main (change.Entomb at.other) (Some former) at.on None h, changed_full v w at.path at.main (change.Entomb at.other) (Some former) at.on h)

    pub tomb_fails : (had : Retiree) → HasChanged v (Some (Fails had)) w → HasAttempted v attempt.Again w
    tomb_fails had h = (
      changed_runs_on v w at.path at.main (change.Entomb at.other) (Some former) at.on (Some (Fails had)) h,
      changed_fails v w at.path at.main (change.Entomb at.other) (Some former) at.on first_on.0 first_on.1 had h,
    )

    pub tomb_misses : HasChanged v (Some Misses) w → HasAttempted v attempt.Again w
    tomb_misses h = (
      changed_runs_on v w at.path at.main (change.Entomb at.other) (Some former) at.on (Some Misses) h,
      changed_misses v w at.path at.main (change.Entomb at.other) (Some former) at.on first_on.0 first_on.1 h,
    )

    pub tomb_parked : (s : Swapping) → LeavesChange v s w → HasAttempted v (attempt.Comes (came.Parked (parked.Changes s (Some former)))) w
    tomb_parked s h = let l = h at.path at.main (change.Entomb at.other) (Some former) at.on in (l.on, (l.its, l.aim))

    -- it is committed
    module _ (had : Option Retiree) (h : HasChanged v (Some (Commits had)) w) where
      abbrev climb : Climb
      climb = record { path = at.path; single = at.other; former = Some former }

      become : HasBecome (changed_by at.path (Some former) (change.Entomb at.other) (Commits had)) v w
      become = h at.path at.main (change.Entomb at.other) (Some former) at.on

      abbrev then : Operation
      then = record first_on.0 { private = []; line = climbing first_on.0 climb }

      runs_then : Runs w then
      runs_then = become.comes first_on.0 first_on.1

      pub task_then : IsTask w task
      task_then = record {
        calls = λ q r.
            (let same = runs_one w q then r runs_then in
            let its = t.calls first_on.0 first_on.1 in
            (ap (λ (z : Operation). z.call) same ∙ its.0, ap (λ (z : Operation). z.access) same ∙ its.1, ap (λ (z : Operation). z.generation) same ∙ its.2));
        key = t.key;
        hash = t.hash ∙ ap (λ (x : View). hash_of x.sizes.hash task.key) (sym become.follows.is);
      }

      pub to_climb : (one : Entry) → unowned one ≡ unowned single → one.is_single ≡ single.is_single → IsToClimb w slots task.hash one (Some former)
      to_climb one same alone = record {
        climbing = record {
          climb = climb;
          operation = then;
          runs = runs_then;
          on = refl;
          places = are_at_on v w become.follows at.path slots at.place.places;
          names = same ∙ sym entry_is ∙ sym (entry_to_on v w become.follows at.other at.knows.0.0);
          used = used_on v w become.follows at.other at.knows.0.0;
          alone = alone ∙ at.knows.1;
          hash_is = task_then.hash ∙ ap (hash_of w.sizes.hash) (t.key ∙ ap key_of (sym (t.calls first_on.0 first_on.1).0));
        };
        its = refl;
      }

      pub climbed_from : (after : View) (result : Came) → HasRunTo w result after → HasAttempted v (attempt.Comes result) after
      climbed_from after result a =
          (runs_on_both v w after (changed_runs_on v w at.path at.main (change.Entomb at.other) (Some former) at.on (Some (Commits had)) h) a.0, a.1)

-- ---- the climb

module _ (v : View) (task : Task) (t : IsTask v task) (slots : List ℕ) (single : Entry) (former : Option ℕ) (at : IsToClimb v slots task.hash single former) where
  abbrev c : Climb
  c = at.climbing.climb

  abbrev o : Operation
  o = at.climbing.operation

  abbrev runs : Runs v o
  runs = at.climbing.runs

  climbs : (q : Operation) → Runs v q → q.line ≡ climbing q c
  climbs q r = subst (λ (z : Operation). z.line ≡ climbing z c) (sym (runs_one v q o r runs)) at.climbing.on

  reply_is : changed_reply o.call c.former ≡ changed_reply task.call former
  reply_is = ap₂ changed_reply (t.calls o runs).0 at.its

  pub climbed_out : (w : View) → HasClimbedUp v true w → HasRunTo v (came.Answered (changed_reply task.call former)) w
  climbed_out w h = (climbed_runs_on v w c climbs true h, subst (λ answer. IsOn w (line.End answer)) reply_is (climbed_up v w c climbs o runs h))

  module _ (w : View) (h : HasClimbedUp v false w) where
    pub left : MayAnswer w (changed_reply task.call former)
    left = subst (MayAnswer w) reply_is (climb_left v w c climbs o runs h)

    pub left_out : (result : Came) (after : View) → HasRunTo w result after → HasRunTo v result after
    left_out result after a = (runs_on_both v w after (climbed_runs_on v w c climbs false h) a.0, a.1)

  -- its SWAP is under way
  pub climb_parked : (s : Swapping) (w : View) → HasLeftClimb v slots task.hash single s w → HasRunTo v (came.Parked (parked.Climbs s former)) w
  climb_parked s w h = let l = h at.climbing in (l.on, (l.its, subst (λ f. IsClimbAfter f l.its.why) at.its l.aim))

-- ---- the climb is given up

module _ (w : View) (answer : Reply) (may : MayAnswer w answer) (after : View) (gave : GivesAllUp w after) where
  given : HasGivenAllUp w may.0 answer after
  given = gave may.0 answer may.1 may.2

  pub climb_given_up : HasRunTo w (came.Answered answer) after
  climb_given_up = (
    runs_on_both w given.at after (runs_on_given_up w given.at may.0 answer may.1 given.gave)
        (runs_on_become given.at after (λ o. o) (λ o. refl) (let_go_becomes given.at after given.let_go)),
    (gave_up may.0 answer, (let_go_becomes given.at after given.let_go).comes (gave_up may.0 answer) given.gave.runs, refl),
  )
