-- Where an actor's walk was given room the parts are seen as before, and all is kept.
use Rattle.std.proofs.Common.{◌≡◌, ℕ, ◌-◌, ◌<◌, true, length, List, set, Option, Some, None, refl, sym, ap, subst, arith, ◌∙◌}
use Rattle.std.specs.Prelude.{option_map, slice_get, OnErr, OnOk, Result, Ok, Err}
use Rattle.std.proofs.lemmas.Option.{same_Some}
use Rattle.history.proofs.Places.{at_set}
use Rattle.machine_core.specs.Vocabulary.{needs_read_only, operation_of, HashKind, State, Program, Key, Copy, call_for, IsWalk, Walks, Table, Programs, line_for, KnowsNumbers}
use Rattle.machine_core.specs.Beneath.snapshot.specs.declared.tasks.WalkCall.TheVariants as walk
use Rattle.running.specs.declared.job.Program.TheVariants.{Walk, Close}
use Rattle.std.proofs.Math.Seq.{map-set_same}
use Rattle.std.proofs.lemmas.Option.{get_or_from_slice_get}
use Rattle.running.proofs.Roomy.{generation_same}
use Rattle.machine_core.specs.declared.parts.Actor.{Actor}
use Rattle.machine_core.specs.declared.parts.Parts.{Parts}
use Rattle.machine_core.specs.declared.parts.UnderWay.{UnderWay}
use Rattle.machine_core.specs.Keeping.{IsKept, IsSeated, KnowsOfferers, Replaces}
use Rattle.machine_core.specs.Rooming.{GivesRoom, HasRoomToStep, IsWalking}
use Rattle.machine_core.specs.Seen.{actors_seen, operation_at, operation_seen, seen}
use Rattle.machine_core.specs.Ties.{IsTied}
use Rattle.machine_core.proofs.Kept.{operation_under_way, replaced_seated}

module _ (was is : Actor) (g : GivesRoom was is) where
  abbrev roomy : Programs
  roomy = record was.programs { walk = is.programs.walk }

  its : is.programs ≡ roomy
  its = ap (λ (a : Actor). a.programs) g.rest

  operation_same : (table : Table) (u : UnderWay) → operation_at table is.programs u ≡ operation_at table was.programs u
  operation_same table u =
      let own = operation_at table was.programs u in
      let line = sym (ap (line_for u.program) its) ∙ g.lines u.program in
      ap (λ (p : Programs). operation_at table p u) its
      ∙ ap (λ n. record own { generation = n; line = line_for u.program roomy }) (generation_same was.programs is.programs.walk u.program)
      ∙ ap (λ l. record own { line = l }) line

  under : is.under_way ≡ was.under_way
  under = ap (λ (a : Actor). a.under_way) g.rest

  seen_of : (table : Table) → operation_seen table is ≡ operation_seen table was
  seen_of table = by is.under_way ∙ ap (option_map (operation_at table was.programs)) under
    where
      by : (o : Option UnderWay) → option_map (operation_at table is.programs) o ≡ option_map (operation_at table was.programs) o
      by None = refl
      by (Some u) = ap Some (operation_same table u)

  seated_of : (hashes : HashKind) (i : ℕ) → IsSeated hashes i was → IsSeated hashes i is
  seated_of hashes i w =
      record {
        hashes_are = ap (λ (a : Actor). a.programs.key.task.hashes) g.rest ∙ w.hashes_are;
        number = λ u runs. w.number u (sym under ∙ runs);
        sound = λ u runs. g.sound u.program (w.sound u (sym under ∙ runs));
        idle = λ none. ap (λ (a : Actor). a.programs.key.work.private) g.rest ∙ w.idle (sym under ∙ none);
      }

module _ (before after : Parts) (i : ℕ) (r : Replaces before.actors.items i GivesRoom after.actors.items) (rest : after ≡ record before { actors = after.actors }) where
  here : seen (record before { actors = after.actors }) ≡ seen before
  here =
      ap (λ os. record (seen before) { actors = os })
      (
      ap (actors_seen before.table) r.set
      ∙ map-set_same (operation_seen before.table) before.actors.items i r.is r.was
      (seen_of r.was r.is r.does before.table ∙ ap (operation_seen before.table) (sym (get_or_from_slice_get before.actors.items i r.was r.was r.found)))
      )

  pub seen_roomed : seen after ≡ seen before
  seen_roomed = ap seen rest ∙ here

  pub kept_roomed : IsKept before → IsKept after
  kept_roomed kept =
      subst IsKept (sym rest)
      (record {
        tied = subst (λ (s : State). IsTied before.heap s.roots s.actors) (sym here) kept.tied;
        seats = replaced_seated before.limits.hash before.actors.items after.actors.items i GivesRoom r kept.seats
            (seated_of r.was r.is r.does before.limits.hash i (kept.seats i r.was r.found));
        noted = kept.noted;
        offerers = subst (KnowsOfferers before.table) (sym here) kept.offerers;
        numbers = subst (KnowsNumbers before.handles) (sym here) kept.numbers;
      })

-- ---- what comes of room, and of none

pub on_ok : {A E : Type 0} (r : Result A E) (P Q : Type 0) → (P → Q) → OnOk r P → OnOk r Q
on_ok (Ok value) P Q then h = then h
on_ok (Err refusal) P Q then h = tt

pub on_err : {A E : Type 0} (r : Result A E) (P Q : Type 0) → (P → Q) → OnErr r P → OnErr r Q
on_err (Ok value) P Q then h = tt
on_err (Err refusal) P Q then h = then h

pub room_there : (actors : List Actor) (i : ℕ) (is : Actor) → i < length actors → HasRoomToStep is → (found : Actor) → slice_get (set actors i is) i ≡ Some found → HasRoomToStep found
room_there actors i is within room found at = subst HasRoomToStep (same_Some is found (sym (at_set actors i is within) ∙ at)) room

-- only a walk is refused room
read_only : (handle : ℕ) (program : Program) → IsWalk program → needs_read_only (call_for handle program) ≡ true
read_only handle (Walk walk.Entries) is = refl
read_only handle (Walk walk.Count) is = refl
read_only handle (Key call) is = absurd is
read_only handle (Copy call) is = absurd is
read_only handle Close is = absurd is

pub walks_there : (parts : Parts) (actor : ℕ) (found : Actor) → 0 < actor → slice_get parts.actors.items (actor - 1) ≡ Some found → IsWalking found.under_way →
    Walks (operation_of (seen parts) actor)
walks_there parts actor found counts at walking = subst Walks (sym (operation_under_way parts actor found (omega (arith, counts)) at)) (by found.under_way walking)
  where
    by : (o : Option UnderWay) → IsWalking o → Walks (option_map (operation_at parts.table found.programs) o)
    by None is = absurd is
    by (Some u) is = read_only u.job.handle u.program is
