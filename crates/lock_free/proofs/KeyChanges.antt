-- A call on a key comes to a change of a main node, and makes it.
use Rattle.std.proofs.Common.{◌≡◌, ◌<◌, ◌≤◌, ◌-◌, ◌^◌, ℕ, true, nat_lt, get_or, length, List, Option, Some, None, Result, Ok, Err, IfOk, IfErr, refl, sym, ap, subst, ◌∙◌, arith, ltb-true, unwrap_or}
use Rattle.machine_model.specs.Beneath.ctrie_base.specs.Hashes.{hash_of}
use Rattle.machine_model.specs.declared.building.BuildLine.TheVariants as build
use Rattle.machine_model.specs.declared.building.Change.{Change}
use Rattle.machine_model.specs.declared.building.Change.TheVariants as change
use Rattle.machine_model.specs.declared.building.Site.{Site}
use Rattle.machine_model.specs.declared.lines.Line.TheVariants as line
use Rattle.machine_model.specs.Calls.{changed_reply, key_of, value_of}
use Rattle.nodes.specs.Levels.{flag_of}
use Rattle.proof_memory.proofs.Claims.Uses.{fact_of}
use Rattle.lock_free.specs.declared.attempts.Attempt.TheVariants as attempt
use Rattle.lock_free.specs.declared.building.Builder.{Builder}
use Rattle.lock_free.specs.declared.changing.Edit.{Edit}
use Rattle.lock_free.specs.declared.descending.Update.{Update}
use Rattle.lock_free.specs.declared.descending.Update.TheVariants as update
use Rattle.lock_free.specs.declared.leaving.Swapping.{Swapping}
use Rattle.lock_free.specs.declared.parking.Came.TheVariants as came
use Rattle.lock_free.specs.declared.parking.Parked.TheVariants as parked
use Rattle.lock_free.specs.declared.reading.Given.{Given}
use Rattle.lock_free.specs.declared.rules.View.{View}
use Rattle.lock_free.specs.declared.swapping.Swapped.{Swapped}
use Rattle.lock_free.specs.declared.swapping.Swapped.TheVariants.{Commits, Fails, Misses}
use Rattle.lock_free.specs.declared.tasks.Task.{Task}
use Rattle.lock_free.specs.Attempts.{attempted, attempted_by, HasAttempted, IsToChange}
use Rattle.lock_free.specs.BuildingUp.{IsBuilder}
use Rattle.lock_free.specs.Changing.{IsChange}
use Rattle.lock_free.specs.Descending.{IsTask}
use Rattle.lock_free.specs.GoingDown.{IsFlag}
use Rattle.lock_free.specs.Holding.{IsOn}
use Rattle.lock_free.specs.Leaving.{IsUpdate, LeavesChange, LeavesSwap}
use Rattle.lock_free.specs.Loading.{IsSound}
use Rattle.lock_free.specs.Updating.{HasChanged, HasUpdated, IsAtChange, IsAtUpdate}
use Rattle.lock_free.proofs.CallsRunOn.{changed_commits, changed_fails, changed_full, changed_misses, changed_runs_on, updated_commits, updated_fails, updated_full, updated_misses, updated_runs_on}
use Rattle.lock_free.proofs.Descents.{as_long}
use Rattle.lock_free.proofs.LevelPassed.{placed_last}
use Rattle.lock_free.proofs.OnLines.{finds_now}

-- ---- where it is

module _ (n : ℕ) (v : View) (sound : IsSound n v) (slots : List ℕ) (given : Given) where
  -- a path has an indirection at least
  some_path : (c : Update) (at : IsToChange v slots given c) → nat_lt 0 (length at.path) ≡ true
  some_path (update.Builds place former) at = fact_of (finds_now v (line.Build (build.Single at.path at.main place former)) at.on n sound).1.0
  some_path (update.Removes position former) at = fact_of (finds_now v (line.Build (build.Main at.path at.main (change.Remove position) (Some former))) at.on n sound).1.0
  some_path (update.Entombs single former) at = fact_of (finds_now v (line.Build (build.Main at.path at.main (change.Entomb at.other) (Some former))) at.on n sound).1.0

  pub some_there : (c : Update) → IsToChange v slots given c → 0 < length slots
  some_there c at = subst (λ k. 0 < k) (as_long v at.path slots at.place.places) (ltb-true 0 (length at.path) (some_path c at))

module _ (v : View) (task : Task) (t : IsTask v task) (slots : List ℕ) (some : 0 < length slots) (given : Given) where
  module _ (c : Update) (at : IsToChange v slots given c) where
    long : length at.path ≡ length slots
    long = as_long v at.path slots at.place.places

    its_flag : (flag : ℕ) → flag ≡ flag_of task.hash (length slots - 1) → IsFlag v at.path flag
    its_flag flag is o r =
        is ∙ ap (λ h. flag_of h (length slots - 1)) (t.hash ∙ ap (hash_of v.sizes.hash) (t.key ∙ ap key_of (sym (t.calls o r).0)))
        ∙ ap (λ k. flag_of (hash_of v.sizes.hash (key_of o.call)) (k - 1)) (sym long)

    its_builder : task.start < 2 ^ 36 → length slots ≤ 14 → (by : Builder) → by.key ≡ task.key → by.value ≡ value_of task.call → by.hashes ≡ v.sizes.hash → by.hash ≡ task.hash →
        by.start ≡ task.start → by.depth ≡ length slots - 1 → IsBuilder v by at.path
    its_builder small short by key value hashes hash start depth = record {
      calls = λ o r.
          (let its = t.calls o r in
          (ap key_of its.0 ∙ sym t.key ∙ sym key, ap value_of its.0 ∙ sym value, ap (λ g. unwrap_or g 0) its.2 ∙ sym start));
      hashes = hashes;
      hash = hash ∙ t.hash ∙ ap (hash_of v.sizes.hash) (sym key);
      depth = depth ∙ ap (λ k. k - 1) (sym long);
      short = (let d = depth in let few = short in let one = some in omega (arith, d, few, one));
      low = subst (λ k. k < 2 ^ 36) (sym start) small;
    }

  -- ---- a new single

  module _ (place : Site) (former : Option ℕ) (at : IsToChange v slots given (update.Builds place former)) where
    pub update_ready : task.start < 2 ^ 36 → length slots ≤ 14 → (by : Builder) → by.key ≡ task.key → by.value ≡ value_of task.call → by.hashes ≡ v.sizes.hash → by.hash ≡ task.hash →
        by.start ≡ task.start → by.depth ≡ length slots - 1 → IsAtUpdate v by given place former (get_or slots (length slots - 1) 0)
    update_ready small short by key value hashes hash start depth = (
      (
        at.path,
        at.main,
        at.on,
        its_builder (update.Builds place former) at small short by key value hashes hash start depth,
        record { link = at.place.link; header = at.place.header },
      ),
      placed_last v at.path slots at.place.places some,
    )

    pub gave : (w : View) (result : Option Swapped) → HasUpdated v former result w → HasAttempted v (attempted result task.call former) w
    gave w None h = (updated_runs_on v w former None h, updated_full v w former at.on.0 at.on.1 h)
    gave w (Some (Commits had)) h = (
      updated_runs_on v w former (Some (Commits had)) h,
      subst (λ call. IsOn w (line.End (changed_reply call former))) (t.calls at.on.0 at.on.1).0
          (updated_commits v w former at.on.0 at.on.1 had h),
    )
    gave w (Some (Fails had)) h = (updated_runs_on v w former (Some (Fails had)) h, updated_fails v w former at.on.0 at.on.1 had h)
    gave w (Some Misses) h = (updated_runs_on v w former (Some Misses) h, updated_misses v w former at.on.0 at.on.1 h)

    pub gave_parked : (w : View) (s : Swapping) → LeavesSwap (IsUpdate former) v s w → HasAttempted v (attempt.Comes (came.Parked (parked.Changes s former))) w
    gave_parked w s h = (h.on, (h.its, h.aim))

    pub gave_by : (w : View) (r : Result (Option Swapped) Swapping) → IfOk r (λ x. HasUpdated v former x w) → IfErr r (λ s. LeavesSwap (IsUpdate former) v s w) → HasAttempted v
        (attempted_by r task.call former) w
    gave_by w (Ok result) h k = gave w result h
    gave_by w (Err s) h k = gave_parked w s k

  -- ---- an entry is taken out

  pub change_by : (c : Update) (at : IsToChange v slots given c) (its : Change) (former : Option ℕ) → IsOn v (line.Build (build.Main at.path at.main its former)) → (e : Edit) → IsChange v e its →
      (flag : ℕ) → flag ≡ flag_of task.hash (length slots - 1) → IsAtChange v (get_or slots (length slots - 1) 0) given flag e
  change_by c at its former on e is flag flag_is = record {
    changing = record {
      path = at.path;
      main = at.main;
      its = its;
      former = former;
      on = on;
      names = at.place.link.is.names;
      header = given.header;
      known = at.place.header;
      is_shape = refl;
      is_flag = its_flag c at flag flag_is;
      is_change = is;
    };
    link = at.place.link;
    placed = placed_last v at.path slots at.place.places some;
  }

  module _ (position former : ℕ) (at : IsToChange v slots given (update.Removes position former)) where
    pub removal_ready : (flag : ℕ) → flag ≡ flag_of task.hash (length slots - 1) → (e : Edit) → IsChange v e (change.Remove position) →
        IsAtChange v (get_or slots (length slots - 1) 0) given flag e
    removal_ready flag is e same = change_by (update.Removes position former) at (change.Remove position) (Some former) at.on e same flag is

    pub removed : (w : View) (result : Option Swapped) → HasChanged v result w → HasAttempted v (attempted result task.call (Some former)) w
    removed w None h =
        (changed_runs_on v w at.path at.main (change.Remove position) (Some former) at.on None h, changed_full v w at.path at.main (change.Remove position) (Some former) at.on h)
    removed w (Some (Commits had)) h = (
      changed_runs_on v w at.path at.main (change.Remove position) (Some former) at.on (Some (Commits had)) h,
      subst (λ call. IsOn w (line.End (changed_reply call (Some former)))) (t.calls at.on.0 at.on.1).0
          (changed_commits v w at.path at.main (change.Remove position) (Some former) at.on at.on.0 at.on.1 had h),
    )
    removed w (Some (Fails had)) h = (
      changed_runs_on v w at.path at.main (change.Remove position) (Some former) at.on (Some (Fails had)) h,
      changed_fails v w at.path at.main (change.Remove position) (Some former) at.on at.on.0 at.on.1 had h,
    )
    removed w (Some Misses) h = (
      changed_runs_on v w at.path at.main (change.Remove position) (Some former) at.on (Some Misses) h,
      changed_misses v w at.path at.main (change.Remove position) (Some former) at.on at.on.0 at.on.1 h,
    )

    pub removal_parked : (w : View) (s : Swapping) → LeavesChange v s w → HasAttempted v (attempt.Comes (came.Parked (parked.Changes s (Some former)))) w
    removal_parked w s h = let l = h at.path at.main (change.Remove position) (Some former) at.on in (l.on, (l.its, l.aim))

    pub removed_by : (w : View) (r : Result (Option Swapped) Swapping) → IfOk r (λ x. HasChanged v x w) → IfErr r (λ s. LeavesChange v s w) → HasAttempted v
        (attempted_by r task.call (Some former)) w
    removed_by w (Ok result) h k = removed w result h
    removed_by w (Err s) h k = removal_parked w s k
