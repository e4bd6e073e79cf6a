-- Why a step of an operation is denied that goes on behind it: only where all steps are taken.
use Rattle.std.proofs.Common.{◌≡◌, ℕ, ◌-◌, not, true, [], ◌∷◌, Bool, Option, Some, None, if◌then◌else◌, refl, sym, ap, ◌∙◌, arith}
use Rattle.std.specs.Prelude.{is_some, option_map}
use Rattle.std.proofs.lemmas.List.{length-map}
use Rattle.std.proofs.lemmas.Option.{slice_get_within}
use Rattle.ctrie_base.specs.declared.refusals.Refusal.TheVariants as refuse
use Rattle.machine_core.specs.Vocabulary.{first_reason, go_denial, is_actor, is_running, is_spent, next_kind, action_of, kind_of, operation_of, Operation, IsOfRun, goes_on}
use Rattle.machine_model.proofs.Actors.{actor_by}
use Rattle.machine_core.specs.declared.parts.Parts.{Parts}
use Rattle.machine_core.specs.Seen.{actor_of, operation_seen, seen}
use Rattle.machine_core.proofs.Allowed.{owner_runs}
use Rattle.proof_core.proofs.Given.{sizes}
use Rattle.machine_core.proofs.Kept.{seat_of}
use Rattle.machine_core.proofs.Underway.{by_actor}

spent_alone : (own running spent : Bool) → own ≡ true → running ≡ true →
    (if spent then Some refuse.Spent else None) ≡ first_reason ((not own, refuse.NoActor) ∷ (not running, refuse.Idle) ∷ (spent, refuse.Spent) ∷ [])
spent_alone own running spent a b = grind (arith, a, b)

-- who runs an operation is one of the machine's actors
own_actor : (parts : Parts) (actor : ℕ) → IsOfRun (seen parts) → (operation : Operation) → operation_of (seen parts) actor ≡ Some operation → is_actor (seen parts) actor ≡ true
own_actor parts actor run operation runs =
    let (u, under) = by_actor parts (actor_of parts actor) operation (sym (owner_runs parts actor actor (actor_of parts actor) refl refl) ∙ runs) in
    let seat = seat_of parts actor u under in
    let low = seat.counts in
    let within = slice_get_within parts.actors.items (actor - 1) seat.found seat.at in
    let many = sym (length-map parts.actors.items (operation_seen parts.table)) ∙ (sizes (seen parts) run).1 in
    actor_by actor parts.limits.actors low (omega (arith, low, within, many))

pub spent_denied : (parts : Parts) (actor : ℕ) → IsOfRun (seen parts) → goes_on (next_kind (seen parts) actor) ≡ true →
    (if is_spent (seen parts) then Some refuse.Spent else None) ≡ go_denial (seen parts) actor
spent_denied parts actor run on = by (operation_of (seen parts) actor) refl on
  where
    by : (found : Option Operation) → operation_of (seen parts) actor ≡ found → goes_on (option_map (λ o. kind_of (action_of (seen parts) o)) found) ≡ true →
        (if is_spent (seen parts) then Some refuse.Spent else None) ≡ go_denial (seen parts) actor
    by None is none = absurd (grind (arith, none))
    by (Some operation) is next =
        spent_alone (is_actor (seen parts) actor) (is_running (seen parts) actor) (is_spent (seen parts)) (own_actor parts actor run operation is) (ap is_some is)
