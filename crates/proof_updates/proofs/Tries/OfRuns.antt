-- The laws of contents over a run whose keys have 64 bits.
use Rattle.std.specs.Prelude.{ℕ, ◌<◌, ◌≤◌, ◌^◌}
use Rattle.proof_updates.specs.Vocabulary.{Ref, Operation, Bounds, Step, key_of, State, IsRun, depth_of_run, path_of_run, TakesSteps, StepsFit, HasShape, trie_of_run}
use Rattle.proof_updates.specs.Beneath.proof_contents.specs.Steps.{IsTrie}
use Rattle.proof_updates.specs.Beneath.proof_generations.specs.Running.{Runs}
use Rattle.proof_shape.proofs.Shaped.Trie.{runs_have_shape}
use Rattle.proof_updates.specs.Commits.{SitesOfUpdates}
use Rattle.proof_updates.specs.Updates as law
use Rattle.proof_updates.proofs.Tries.Commits.{sites_of_updates, keys_of_operations}
use Rattle.proof_updates.proofs.Tries.Updates.{trie_ok}
use Rattle.proof_updates.proofs.Tries.Updates as updates
use Rattle.proof_updates.proofs.Tries.Facts as facts
use Rattle.proof_updates.proofs.Routes.Paths as paths
use Rattle.proof_updates.proofs.Answers.Replies as replies

module _ {limits : Bounds} {states : ℕ → State} (steps : ℕ → Step) {last : ℕ} (run : IsRun limits states last) (takes : TakesSteps states steps last) (keys : StepsFit steps last) where
  abbrev depth : Ref → ℕ
  depth = depth_of_run states steps last

  abbrev path : Ref → ℕ
  path = path_of_run states steps last

  sites : SitesOfUpdates limits states run.records last (depth_of_run states steps last)
  sites = sites_of_updates run steps takes keys

  shape : HasShape (trie_of_run limits states steps last)
  shape = runs_have_shape limits states steps last run takes keys

  fits : (t : ℕ) → t ≤ last → (k : ℕ) (operation : Operation) → Runs (states t) k operation → key_of operation.call < 2 ^ 64
  fits = keys_of_operations run steps takes keys

  -- the trie is as contents ask for it: each step leaves the main nodes, repairs one, or updates a key in one
  pub is_trie : IsTrie (trie_of_run limits states steps last)
  is_trie = trie_ok limits states last depth path run sites shape

  pub paths_lie : law.PathsLie states last (trie_of_run limits states steps last)
  paths_lie = paths.paths_lie limits states last depth path run is_trie

  pub keys_look : law.KeysLook states run.records last (trie_of_run limits states steps last)
  keys_look = paths.keys_look limits states last depth path run is_trie

  pub updates_at : law.UpdatesAt limits states run.records last (trie_of_run limits states steps last)
  updates_at = updates.updates_at limits states last depth path run sites shape fits

  pub steps_keep : law.StepsKeep states run.records last (trie_of_run limits states steps last)
  steps_keep = facts.steps_keep limits states last depth path run sites shape

  pub updates_follow : law.UpdatesFollow limits states run.records last (trie_of_run limits states steps last)
  updates_follow = facts.updates_follow limits states last depth path run sites shape fits

  pub replies_right : law.RepliesRight limits states run.records last (trie_of_run limits states steps last)
  replies_right = replies.replies_right limits states last depth path run is_trie fits
