-- What the parts of a machine keep, they keep where only the heap and the count of steps change, and where an operation ends or begins.
use Rattle.std.proofs.Common.{◌≡◌, ◌≢◌, length, ℕ, zero, suc, ◌-◌, ◌<◌, ◌≤◌, ◌⊎◌, inl, inr, List, set, get_or, map, Option, Some, None, refl, sym, ap, ◌∙◌, subst, arith}
use Rattle.std.specs.Prelude.{false, is_some, option_and_then, option_map, slice_get}
use Rattle.std.proofs.lemmas.Option.{none-some, slice_get-get_or}
use Rattle.machine_core.specs.Vocabulary.{HashKind, Ref, times, Offer, is_running, pin_of, operation_of, root_refs, Table, word_in, Programs, IsSound, KnowsNumbers}
use Rattle.handle_table.specs.Numbers.{Numbers}
use Rattle.history.proofs.Places.{at_set_cases}
use Rattle.machine_core.specs.declared.parts.Actor.{Actor}
use Rattle.machine_core.specs.declared.parts.Parts.{Parts}
use Rattle.machine_core.specs.declared.parts.UnderWay.{UnderWay}
use Rattle.machine_core.specs.Keeping.{AreSeated, IsKept, IsNoted, IsSeated, Replaces}
use Rattle.machine_core.specs.Seen.{actor_of, actors_seen, operation_at, operation_seen, seen, under_way_of}
use Rattle.machine_core.specs.Ties.{private_refs}
use Rattle.machine_core.proofs.Knows.{offerers_over, runs_same}
use Rattle.proof_core.proofs.Mapped.{found_mapped, map_replaced}
use Rattle.proof_core.proofs.Numbering.{known_same}

-- ---- the heap alone changed

-- these parts are as those were but for the heap and what is counted
pub record Alike (before after : Parts) : Type 0 where
  pub limits : after.limits ≡ before.limits
  pub table : after.table ≡ before.table
  pub actors : after.actors.items ≡ before.actors.items
  pub handles : after.handles ≡ before.handles
  pub outside : (r : Ref) → times r after.heap.outside ≡ times r before.heap.outside
  pub pins : after.heap.pins ≡ before.heap.pins

actors_alike : (before after : Parts) → Alike before after → (seen after).actors ≡ (seen before).actors
actors_alike before after a = ap (λ t. actors_seen t after.actors.items) a.table ∙ ap (actors_seen before.table) a.actors

pub kept_alike : (before after : Parts) → Alike before after → IsKept before → IsKept after
kept_alike before after a h =
    let actors = actors_alike before after a in
    let roots : after.table.roots ≡ before.table.roots = ap (λ (t : Table). t.roots) a.table in
    record {
      tied = record {
        held = λ r. omega (arith, a.outside r, h.tied.held r, ap (λ rs. times r (root_refs rs)) roots, ap (λ os. times r (private_refs os)) actors);
        pins = a.pins ∙ h.tied.pins ∙ ap (map pin_of) (sym actors);
      };
      seats = subst (λ (hashes : HashKind). AreSeated hashes after.actors.items) (sym (ap (λ l. l.hash) a.limits)) (subst (AreSeated before.limits.hash) (sym a.actors) h.seats);
      noted = subst (λ (t : Table). IsNoted t after.limits.actors) (sym a.table) (subst (λ l. IsNoted before.table l.actors) (sym a.limits) h.noted);
      offerers = offerers_over before.table after.table (seen before) (seen after) (ap (λ (t : Table). t.offerers) a.table)
          (λ handle offer stands. subst (λ (t : Table). word_in t handle ≡ Offer offer) a.table stands)
          (λ handle offer stands actor operation found is. sym (runs_same (seen before) (seen after) actors actor) ∙ found) h.offerers;
      numbers = subst (λ (n : Numbers). KnowsNumbers n (seen after)) (sym a.handles) (known_same before.handles (seen before) (seen after) roots actors h.numbers);
    }

-- ---- an actor's place

-- the actor's place, and what it has under way
pub record Seat (parts : Parts) (actor : ℕ) (u : UnderWay) : Type 0 where
  pub found : Actor
  pub counts : 1 ≤ actor
  pub at : slice_get parts.actors.items (actor - 1) ≡ Some found
  pub runs : found.under_way ≡ Some u

pub seat_of : (parts : Parts) (actor : ℕ) (u : UnderWay) → under_way_of parts actor ≡ Some u → Seat parts actor u
seat_of parts zero u e = absurd (none-some u e)
seat_of parts (suc n) u e = by (slice_get parts.actors.items n) refl e
  where
    by : (o : Option Actor) → slice_get parts.actors.items n ≡ o → option_and_then (λ (found : Actor). found.under_way) o ≡ Some u → Seat parts (suc n) u
    by None is runs = absurd (none-some u runs)
    by (Some found) is runs = record {
      found = found;
      counts = omega arith;
      at = ap (slice_get parts.actors.items) (let same : suc n - 1 ≡ n = omega arith in same) ∙ is;
      runs = runs;
    }

pub operation_under_way : (parts : Parts) (actor : ℕ) (found : Actor) → 1 ≤ actor → slice_get parts.actors.items (actor - 1) ≡ Some found →
    operation_of (seen parts) actor ≡ operation_seen parts.table found
operation_under_way parts zero found counts at = absurd (omega (arith, counts))
operation_under_way parts (suc n) found counts at =
    let here : slice_get parts.actors.items n ≡ Some found = ap (slice_get parts.actors.items) (let same : n ≡ suc n - 1 = omega arith in same) ∙ at in
    found_mapped (operation_seen parts.table) parts.actors.items n ∙ ap (option_and_then (operation_seen parts.table)) here

-- the actor's operation, where this is under way
pub operation_there : (parts : Parts) (actor : ℕ) (u : UnderWay) (seat : Seat parts actor u) → operation_of (seen parts) actor ≡ Some (operation_at parts.table seat.found.programs u)
operation_there parts actor u seat =
    operation_under_way parts actor seat.found seat.counts seat.at ∙ ap (option_map (operation_at parts.table seat.found.programs)) seat.runs

-- one actor gave way to another, and the others are seen as before
pub replaced_seen : (table now : Table) (actors after : List Actor) (i : ℕ) (P : Actor → Actor → Type 0) (r : Replaces actors i P after) →
    ((j : ℕ) (actor : Actor) → (j ≡ i → ⊥) → slice_get actors j ≡ Some actor → operation_seen now actor ≡ operation_seen table actor) →
    actors_seen now after ≡ set (actors_seen table actors) i (operation_seen now r.is)
replaced_seen table now actors after i P r same = ap (actors_seen now) r.set ∙ map_replaced (operation_seen table) (operation_seen now) actors i r.is same

-- then each is seated still, if the new one is
pub replaced_seated : (hashes : HashKind) (actors after : List Actor) (i : ℕ) (P : Actor → Actor → Type 0) (r : Replaces actors i P after) → AreSeated hashes actors → IsSeated hashes i r.is →
    AreSeated hashes after
replaced_seated hashes actors after i P r seats new j actor at = by (at_set_cases actors i j r.is actor (ap (λ xs. slice_get xs j) (sym r.set) ∙ at))
  where
    by : (((j ≡ i) × (r.is ≡ actor)) ⊎ ((j ≢ i) × (slice_get actors j ≡ Some actor))) → IsSeated hashes j actor
    by (inl (here, same)) = subst (IsSeated hashes j) same (subst (λ k. IsSeated hashes k r.is) (sym here) new)
    by (inr (apart, there)) = seats j actor there

-- what stands at an index within the list
pub at_index : {X : Type 0} (xs : List X) (i : ℕ) (x : X) → i < length xs → x ≡ get_or xs i x → slice_get xs i ≡ Some x
at_index xs i x within is = slice_get-get_or xs i x within ∙ ap Some (sym is)

-- ---- who runs

pub found_operation : (parts : Parts) (actor : ℕ) → operation_of (seen parts) actor ≡ option_and_then (operation_seen parts.table) (actor_of parts actor)
found_operation parts zero = refl
found_operation parts (suc n) = found_mapped (operation_seen parts.table) parts.actors.items n

some_seen : (table : Table) (programs : Programs) (o : Option UnderWay) → is_some o ≡ is_some (option_map (operation_at table programs) o)
some_seen table programs None = refl
some_seen table programs (Some u) = refl

-- an actor that isn't there runs nothing; any other runs what it has under way
pub nobody_there : (parts : Parts) (actor : ℕ) → None ≡ actor_of parts actor → false ≡ is_running (seen parts) actor
nobody_there parts actor e = ap (λ o. is_some (option_and_then (operation_seen parts.table) o)) e ∙ ap is_some (sym (found_operation parts actor))

pub runs_there : (parts : Parts) (actor : ℕ) (found : Actor) → Some found ≡ actor_of parts actor → is_some found.under_way ≡ is_running (seen parts) actor
runs_there parts actor found e =
    some_seen parts.table found.programs found.under_way ∙ ap (λ o. is_some (option_and_then (operation_seen parts.table) o)) e ∙ ap is_some (sym (found_operation parts actor))

-- its programs are sound
pub sound_there : (parts : Parts) (hashes : HashKind) (actor : ℕ) (found : Actor) → AreSeated hashes parts.actors.items → Some found ≡ actor_of parts actor → (u : UnderWay) →
    found.under_way ≡ Some u → IsSound u.program found.programs
sound_there parts hashes zero found seats e u runs = absurd (none-some found (sym e))
sound_there parts hashes (suc n) found seats e u runs = (seats n found (sym e)).sound u runs
