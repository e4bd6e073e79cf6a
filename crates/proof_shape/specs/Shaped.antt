-- The trie of a run has its shape at each time.
use Rattle.std.specs.Prelude.{◌≡◌, ℕ, ◌*◌, ◌^◌, ◌<◌, ◌≤◌, Contains}
use Rattle.proof_shape.specs.Vocabulary.{Ref, Single, Bounds, Step, State, IsRun, node_under, Trie, IsShaped, node_in, trie_of}
use Rattle.proof_shape.specs.Sites.Lines.{bare}
use Rattle.proof_shape.specs.Sites.At.{TakesSteps, StepsFit}
use Rattle.proof_shape.specs.Sites.Nodes.{depth_of_run, path_of_run}

-- what IsTrie asks of the shape of a trie
pub record HasShape (trie : Trie) : Type 0 where
  pub has_key : (r : Ref) (key value : ℕ) → trie.node r ≡ Single key value → Contains trie.keys key
  pub root_depth : (g : ℕ) → trie.depth (trie.root g) ≡ 0
  pub root_path : (g : ℕ) → trie.path (trie.root g) ≡ 0
  pub path_fits : (i : Ref) → trie.path i < 2 ^ (5 * trie.depth i)
  pub shaped : (t : ℕ) (i : Ref) → t ≤ trie.last → IsShaped trie i (node_in trie t i)

-- the trie of a run, where depths and paths are fixed as nodes are made
abbrev pub trie_of_run : Bounds → (ℕ → State) → (ℕ → Step) → ℕ → Trie
trie_of_run limits states steps last = trie_of limits states last (depth_of_run states steps last) (path_of_run states steps last)

-- the same with no generations
abbrev pub bare_trie_of_run : Bounds → (ℕ → State) → (ℕ → Step) → ℕ → Trie
bare_trie_of_run limits states steps last = record (trie_of_run limits states steps last) { node = λ r. bare (node_under states last r) }

abbrev pub BareRunsHaveShape : Type 0
BareRunsHaveShape =
    (limits : Bounds) (states : ℕ → State) (steps : ℕ → Step) (last : ℕ) → IsRun limits states last → TakesSteps states steps last → StepsFit steps last →
    HasShape (bare_trie_of_run limits states steps last)

-- and with them
abbrev pub RunsHaveShape : Type 0
RunsHaveShape =
    (limits : Bounds) (states : ℕ → State) (steps : ℕ → Step) (last : ℕ) → IsRun limits states last → TakesSteps states steps last → StepsFit steps last →
    HasShape (trie_of_run limits states steps last)
