-- What an actor has under way whose next step isn't denied.
use Rattle.std.proofs.Common.{arith, ◌≡◌, ℕ, ◌-◌, ◌<◌, Option, Some, None, length, refl, sym, ap, ◌∙◌}
use Rattle.std.specs.Prelude.{true, false, not, is_some, IsSome, option_and_then, option_map, slice_get}
use Rattle.std.proofs.lemmas.Option.{none-some, same_Some, slice_get_within}
use Rattle.machine_core.specs.Vocabulary.{Reply, go_denial, next_kind, Operation, line_for, CanStep, scene, IsOfRun, answer_of, goes_on}
use Rattle.machine_core.specs.declared.parts.Actor.{Actor}
use Rattle.machine_core.specs.declared.parts.Parts.{Parts}
use Rattle.machine_core.specs.declared.parts.UnderWay.{UnderWay}
use Rattle.machine_core.specs.Keeping.{IsKept}
use Rattle.machine_core.specs.Seen.{actor_of, operation_at, operation_seen, seen, under_way_of}
use Rattle.machine_core.proofs.Allowed.{can, owner_runs}
use Rattle.machine_core.proofs.Kept.{Seat, seat_of}
use Rattle.machine_core.proofs.Onward.{line_onward, onward_of, onward_there}
use Rattle.machine_core.proofs.Steps.{running}
use Rattle.machine_core.proofs.Took.{actor_there}

pub by_actor : (parts : Parts) (found : Option Actor) (operation : Operation) → option_and_then (operation_seen parts.table) found ≡ Some operation →
    (u : UnderWay) × (option_and_then (λ (a : Actor). a.under_way) found ≡ Some u)
by_actor parts None operation e = absurd (none-some operation e)
by_actor parts (Some found) operation e = by_held found.under_way refl e
  where
    by_held : (held : Option UnderWay) → found.under_way ≡ held → operation_seen parts.table found ≡ Some operation → (u : UnderWay) × (found.under_way ≡ Some u)
    by_held None is seen = absurd (none-some operation (sym (ap (λ w. operation_seen parts.table (record found { under_way = w })) is) ∙ seen))
    by_held (Some u) is seen = (u, is)

-- it has something under way
pub at_work : (parts : Parts) (actor : ℕ) → go_denial (seen parts) actor ≡ None → (u : UnderWay) × (under_way_of parts actor ≡ Some u)
at_work parts actor allowed =
    let (operation, runs) = running (seen parts) actor allowed in
    by_actor parts (actor_of parts actor) operation (sym (owner_runs parts actor actor (actor_of parts actor) refl refl) ∙ runs)

pub seated : (parts : Parts) (actor : ℕ) → go_denial (seen parts) actor ≡ None → (u : UnderWay) × Seat parts actor u
seated parts actor allowed = let (u, runs) = at_work parts actor allowed in (u, seat_of parts actor u runs)

pub within_of : (parts : Parts) (actor : ℕ) → go_denial (seen parts) actor ≡ None → actor - 1 < length parts.actors.items
within_of parts actor allowed = let (u, seat) = seated parts actor allowed in slice_get_within parts.actors.items (actor - 1) seat.found seat.at

pub counts_of : (parts : Parts) (actor : ℕ) → go_denial (seen parts) actor ≡ None → 0 < actor
counts_of parts actor allowed = let (u, seat) = seated parts actor allowed in let counts = seat.counts in omega (arith, counts)

-- it is what stands at the actor's place
pub is_under_way : (parts : Parts) (actor : ℕ) → go_denial (seen parts) actor ≡ None → (found : Actor) (u : UnderWay) → slice_get parts.actors.items (actor - 1) ≡ Some found →
    found.under_way ≡ Some u → under_way_of parts actor ≡ Some u
is_under_way parts actor allowed found u at runs =
    let (own, seat) = seated parts actor allowed in
    let same = same_Some seat.found found (sym seat.at ∙ at) in
    ap (option_and_then (λ (a : Actor). a.under_way)) (actor_there parts actor own seat) ∙ ap (λ (a : Actor). a.under_way) same ∙ runs

pub can_of : (parts : Parts) (actor : ℕ) → IsOfRun (seen parts) → IsKept parts → go_denial (seen parts) actor ≡ None → (found : Actor) (u : UnderWay) →
    slice_get parts.actors.items (actor - 1) ≡ Some found → found.under_way ≡ Some u → CanStep (scene parts.heap parts.table parts.generations found.programs) u.program
can_of parts actor run kept allowed found u at runs = can parts actor u run kept (is_under_way parts actor allowed found u at runs) found at

-- whether it goes on is whether it tells no reply
onward : (parts : Parts) (actor : ℕ) (u : UnderWay) → under_way_of parts actor ≡ Some u → (found : Actor) → actor_of parts actor ≡ Some found →
    not (is_some (answer_of (line_for u.program found.programs))) ≡ goes_on (next_kind (seen parts) actor)
onward parts actor u runs found at =
    let seat = seat_of parts actor u runs in
    let same = same_Some seat.found found (sym (actor_there parts actor u seat) ∙ at) in
    let own = operation_at parts.table found.programs u in
    let held : found.under_way ≡ Some u = ap (λ (a : Actor). a.under_way) (sym same) ∙ seat.runs in
    line_onward (seen parts) own own.line ∙ ap (λ o. onward_of (seen parts) (option_map (operation_at parts.table found.programs) o)) (sym held)
    ∙ onward_there parts actor (Some found) (sym at)

no_answer : (answer : Option Reply) → not (is_some answer) ≡ true → answer ≡ None
no_answer None e = refl
no_answer (Some reply) e = absurd (grind (arith, e))

-- where it goes on it tells no reply
pub tells_none : (parts : Parts) (actor : ℕ) → goes_on (next_kind (seen parts) actor) ≡ true → (u : UnderWay) → under_way_of parts actor ≡ Some u →
    (found : Actor) → actor_of parts actor ≡ Some found → answer_of (line_for u.program found.programs) ≡ None
tells_none parts actor on u runs found at = no_answer (answer_of (line_for u.program found.programs)) (onward parts actor u runs found at ∙ on)

some_answer : (answer : Option Reply) → not (is_some answer) ≡ false → IsSome answer
some_answer None e = absurd (grind (arith, e))
some_answer (Some reply) e = refl

-- where it ends it tells one
pub tells_some : (parts : Parts) (actor : ℕ) → goes_on (next_kind (seen parts) actor) ≡ false → (u : UnderWay) → under_way_of parts actor ≡ Some u →
    (found : Actor) → actor_of parts actor ≡ Some found → IsSome (answer_of (line_for u.program found.programs))
tells_some parts actor over u runs found at = some_answer (answer_of (line_for u.program found.programs)) (onward parts actor u runs found at ∙ over)
