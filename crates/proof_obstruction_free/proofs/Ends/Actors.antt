-- Who runs an operation is one of the machine's actors.
use Rattle.std.proofs.Common.{◌≡◌, ℕ, suc, ◌&&◌, true, List, Some, sym, ap, ◌∙◌, subst}
use Rattle.std.specs.Prelude.{nat_lt, nat_le}
use Rattle.proof_obstruction_free.specs.Vocabulary.{Operation, Bounds, Step, is_actor, run, State, first_state, operation_of}
use Rattle.proof_obstruction_free.specs.Beneath.machine_model.proofs.Along.{along}
use Rattle.proof_obstruction_free.specs.Beneath.machine_model.proofs.Found.{none_found}
use Rattle.proof_obstruction_free.specs.Beneath.machine_model.proofs.Frames.{limits_kept}
use Rattle.proof_obstruction_free.specs.Beneath.proof_generations.proofs.Handles.Running.{Comes, began, comes, place_of_actor, rested, went, gave}
use Rattle.proof_obstruction_free.specs.Beneath.proof_generations.specs.Running.{Runs}
use Rattle.proof_obstruction_free.specs.Beneath.machine_model.proofs.Actors.{begin_actor}

abbrev AllActors : State → Type 0
AllActors state = (k : ℕ) (operation : Operation) → Runs state k operation → is_actor state (suc k) ≡ true

same_actors : (before after : State) → after.limits ≡ before.limits → (actor : ℕ) → is_actor before actor ≡ true → is_actor after actor ≡ true
same_actors before after same actor own = ap (λ (l : Bounds). nat_lt 0 actor && nat_le actor l.actors) same ∙ own

by_coming : (before : State) (s : Step) (k : ℕ) (found : Operation) → Comes before s k found → AllActors before → is_actor before (suc k) ≡ true
by_coming before s k found (began call number e d same) all = begin_actor before (suc k) call number d
by_coming before s k found (rested was runs same other_step) all = all k was runs
by_coming before s k found (went was e runs g same) all = all k was runs
by_coming before s k found (gave was answer e runs may same) all = all k was runs

at_first : (limits : Bounds) → AllActors (first_state limits)
unfolding first_state
at_first limits k operation runs = absurd (none_found limits.actors k operation runs)

pub actors_known : (limits : Bounds) (steps : List Step) → AllActors (run limits steps)
actors_known limits =
    along limits AllActors (at_first limits)
    (λ steps s o after m all k operation runs. same_actors (run limits steps) after (limits_kept (run limits steps) s o after m) (suc k)
    (by_coming (run limits steps) s k operation (comes (run limits steps) s o after m k operation runs) all))

pub is_one : (limits : Bounds) (steps : List Step) (actor : ℕ) (operation : Operation) → operation_of (run limits steps) actor ≡ Some operation → is_actor (run limits steps) actor ≡ true
is_one limits steps actor operation runs =
    let (k, place, found) = place_of_actor (run limits steps) actor operation runs in
    subst (λ x. is_actor (run limits steps) x ≡ true) (sym place) (actors_known limits steps k operation found)
