-- The laws of contents, from what holds over a run.
use Rattle.std.specs.Prelude.{ℕ}
use Rattle.proof_updates.specs.Vocabulary.{Bounds, Step, State, IsRun, states_of, last_of, Record, Trie, trie_of_run, TakesSteps, StepsFit}
use Rattle.proof_updates.specs.Beneath.machine_model.proofs.Times.{run_is}
use Rattle.proof_shape.specs.Sites.Nodes.{steps_of}
use Rattle.proof_shape.proofs.Sites.Fixed.{keys_fit}
use Rattle.proof_shape.proofs.Sites.Stepped.{takes_steps}
use Rattle.proof_updates.specs.Updates.{StepsDo, PathsLie, KeysLook, StepsKeep, UpdatesFollow, RepliesRight}
use Rattle.proof_updates.specs.Laws.Tries.{OfEachRun, EachStepDoes, OthersKeepContents, UpdatesLeadOn, PathsLieOnKeys, EndsAreSeen, RepliesAreRight}
use Rattle.proof_updates.proofs.Tries.OfRuns as whole

of_each_run : (Law : Bounds → (ℕ → State) → (ℕ → Record) → ℕ → Trie → Type 0) →
    ((limits : Bounds) (states : ℕ → State) (steps : ℕ → Step) (last : ℕ) (run : IsRun limits states last) → TakesSteps states steps last → StepsFit steps last →
    Law limits states run.records last (trie_of_run limits states steps last)) → OfEachRun Law
of_each_run Law holds limits steps ok fit =
    holds limits (states_of limits steps) (steps_of limits steps) (last_of limits steps) (run_is limits steps ok) (takes_steps limits steps) (keys_fit limits steps fit)

pub each_step_does : EachStepDoes
each_step_does = of_each_run (λ limits states records last trie. StepsDo trie) (λ limits states steps last run takes keys. (whole.is_trie steps run takes keys).does)

pub others_keep_contents : OthersKeepContents
others_keep_contents = of_each_run (λ limits states records last trie. StepsKeep states records last trie) (λ limits states steps last run. whole.steps_keep steps run)

pub updates_lead_on : UpdatesLeadOn
updates_lead_on = of_each_run UpdatesFollow (λ limits states steps last run. whole.updates_follow steps run)

pub paths_lie_on_keys : PathsLieOnKeys
paths_lie_on_keys = of_each_run (λ limits states records last trie. PathsLie states last trie) (λ limits states steps last run. whole.paths_lie steps run)

pub ends_are_seen : EndsAreSeen
ends_are_seen = of_each_run (λ limits states records last trie. KeysLook states records last trie) (λ limits states steps last run. whole.keys_look steps run)

pub replies_are_right : RepliesAreRight
replies_are_right = of_each_run RepliesRight (λ limits states steps last run. whole.replies_right steps run)
