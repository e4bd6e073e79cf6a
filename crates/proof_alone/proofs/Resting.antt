-- From rest one actor alone takes steps, and the end of its operation leaves rest.
use Rattle.std.specs.Prelude.{None, ◌≡◌, ℕ, false}
use Rattle.std.proofs.Common.{refl}
use Rattle.proof_alone.specs.Vocabulary.{Call, Reply, Ended, Go, is_busy, State, Comes, starts, walks}
use Rattle.proof_alone.specs.Beneath.machine_model.specs.declared.steps.Step.TheVariants.{Begin}
use Rattle.proof_alone.specs.Beneath.proof_commits.proofs.Resting.{OnlyRuns, idle_behind, only_at_rest, rest_if_idle, still_only}
use Rattle.proof_straight.specs.Running.{GoesOn}

goes_alone : (state : State) (actor : ℕ) (call : Call) → is_busy state ≡ false → (n : ℕ) (now : State) → GoesOn state actor call n now → OnlyRuns actor now
goes_alone state actor call rest n now (starts is) = still_only actor state (Begin actor call None) _ now is refl (only_at_rest state rest actor)
goes_alone state actor call rest n now (walks {n = m} {before} earlier is) = still_only actor before (Go actor) _ now is refl (goes_alone state actor call rest m before earlier)

-- so its end leaves rest
pub comes_to_rest : (state : State) (actor : ℕ) (call : Call) → is_busy state ≡ false → (n : ℕ) (answer : Reply) (after : State) → Comes state actor call n answer after →
    is_busy after ≡ false
comes_to_rest state actor call rest n answer after h =
    rest_if_idle actor after (still_only actor h.last (Go actor) (Ended state.begun answer) after h.ends refl (goes_alone state actor call rest n h.last h.goes))
    (idle_behind h.last actor state.begun answer after h.ends)
