-- Laws of contents, for every list of steps whose keys have 64 bits.
use Rattle.std.specs.Prelude.{ℕ, List}
use Rattle.proof_updates.specs.Vocabulary.{Bounds, Step, State, AreBounds, states_of, last_of, records_of, KeysFit, Record, Trie, trie_of_run}
use Rattle.proof_shape.specs.Sites.Nodes.{steps_of}
use Rattle.proof_updates.specs.Updates.{StepsDo, PathsLie, KeysLook, StepsKeep, UpdatesFollow, RepliesRight}

-- the trie of the run of these steps
abbrev pub trie_after : Bounds → List Step → Trie
trie_after limits steps = trie_of_run limits (states_of limits steps) (steps_of limits steps) (last_of limits steps)

-- of each run: of its states before each step, what is recorded then, the number of its steps, and its trie
abbrev pub OfEachRun : (Bounds → (ℕ → State) → (ℕ → Record) → ℕ → Trie → Type 0) → Type 0
OfEachRun Law = (limits : Bounds) (steps : List Step) → AreBounds limits → KeysFit steps →
    Law limits (states_of limits steps) (records_of limits steps) (last_of limits steps) (trie_after limits steps)

abbrev pub EachStepDoes : Type 0
EachStepDoes = OfEachRun (λ limits states records last trie. StepsDo trie)

abbrev pub OthersKeepContents : Type 0
OthersKeepContents = OfEachRun (λ limits states records last trie. StepsKeep states records last trie)

abbrev pub UpdatesLeadOn : Type 0
UpdatesLeadOn = OfEachRun UpdatesFollow

abbrev pub PathsLieOnKeys : Type 0
PathsLieOnKeys = OfEachRun (λ limits states records last trie. PathsLie states last trie)

abbrev pub EndsAreSeen : Type 0
EndsAreSeen = OfEachRun (λ limits states records last trie. KeysLook states records last trie)

abbrev pub RepliesAreRight : Type 0
RepliesAreRight = OfEachRun RepliesRight
