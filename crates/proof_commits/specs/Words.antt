-- The words of a machine's run, and what its steps do to them.
use Rattle.std.specs.Prelude.{ℕ, ◌==◌, Option, option_map, find}
use Rattle.std.specs.Prelude.{is_some}
use Rattle.proof_commits.specs.Vocabulary.{Ref, generation_of, Commit, State, operation_of, Record, moment_at, grown, node_under, main_word, prev_word}
use Rattle.proof_commits.specs.Protocol.{Words}
use Rattle.proof_commits.specs.Stages.{stage_of_actor}
use Rattle.proof_memory.specs.Wants.{is_indirection, is_branch_or_list}

-- the step in which a main node was committed, if it was
abbrev pub commit_of : Record → Ref → Option ℕ
commit_of past m = option_map (λ (c : Commit). c.step) (find (λ (c : Commit). c.main == m) past.commits)

-- the words of a run, where this tells which step closes a generation
abbrev pub words_of : (ℕ → State) → (ℕ → Record) → ℕ → (ℕ → Option ℕ) → Words
words_of states records last closing = record {
  main = λ t i. main_word states t i;
  prev = λ t m. prev_word states t m;
  generation = λ i. generation_of (node_under states last i);
  made = λ t r. is_some (grown states t r);
  link = λ t r. is_indirection (node_under states t r);
  solid = λ r. is_branch_or_list (node_under states last r);
  commit = λ t m. commit_of (records t) m;
  closing = closing;
  stage = λ t k. stage_of_actor (operation_of (states t) k);
  from = λ t k. (moment_at (records t) k).read_at;
}
