-- The last step of a run, and the values of keys below the roots that stood before it: it keeps them, but for the commit of an own update in an indirection that is
-- reached.
use Rattle.std.proofs.Common.{◌≡◌, ℕ, suc, List, Option, Some, ◌⊎◌, inl, inr, refl, sym, ap, ◌∙◌, arith}
use Rattle.std.specs.FinMap.{entries}
use Rattle.proof_updates.specs.Vocabulary.{Ref, Root, Bounds, Outcome, Step, content_at, State, root_at, root_of, node_under, Moves, IsRun, IsRepair, Trie, generation, node_in, OwnCommit, CommitsAt}
use Rattle.proof_updates.specs.Vocabulary.{MainStep, stays, changes, assigned_at, HasShape, trie_of_run, depth_of_run, path_of_run, TakesSteps, StepsFit, Notes}
use Rattle.proof_updates.specs.Beneath.machine_model.specs.declared.lines.Purpose.TheVariants as purpose
use Rattle.proof_updates.specs.Beneath.proof_contents.specs.Steps.{IsTrie}
use Rattle.proof_updates.specs.Beneath.proof_contents.specs.Tries.{most_levels}
use Rattle.proof_updates.specs.Beneath.proof_contents.proofs.Values.Contents.{map_of-same}
use Rattle.proof_shape.proofs.Held.Commits.{fresh_commits_at}
use Rattle.proof_updates.specs.Beneath.proof_generations.proofs.Lines.ReaderKnows.{indirection_is}
use Rattle.proof_shape.proofs.Shaped.Trie.{runs_have_shape}
use Rattle.proof_updates.proofs.Tries.Does.{own_does}
use Rattle.proof_updates.proofs.Tries.Commits.{sites_of_updates}
use Rattle.proof_updates.proofs.Tries.OfRuns as whole
use Rattle.proof_updates.specs.Touching.{Reaches}
use Rattle.proof_updates.proofs.Handles.Reaching.{reach_from}
use Rattle.proof_updates.proofs.Handles.Showing.{root_deep, root_link, content_shown}
use Rattle.proof_updates.proofs.Handles.Values.{value_below, nothing_below, repair_below}
use Rattle.proof_updates.proofs.Handles.Ways.{itself, missed_below}

module _ (limits : Bounds) (states : ℕ → State) (steps : ℕ → Step) (t : ℕ) (run : IsRun limits states (suc t)) (takes : TakesSteps states steps (suc t)) (keys : StepsFit steps (suc t))
    (s : Step) (o : Outcome) (m : Moves (states t) s o (states (suc t))) (notes : Notes states run.records t s) where
  abbrev pub trie : Trie
  trie = trie_of_run limits states steps (suc t)

  abbrev pub Own : Type 0
  Own = OwnCommit limits states run.records (suc t) (assigned_at states (suc t)) t s

  pub ok : IsTrie (trie_of_run limits states steps (suc t))
  ok = whole.is_trie steps run takes keys

  all : CommitsAt limits states run.records (suc t) (assigned_at states (suc t))
  all = fresh_commits_at run

  pub main_step : MainStep limits states run.records (suc t) (assigned_at states (suc t)) t s
  main_step = all t (omega arith) s o m notes

  shape : HasShape (trie_of_run limits states steps (suc t))
  shape = runs_have_shape limits states steps (suc t) run takes keys

  module _ (handle : ℕ) (root : Root) (at : root_at (states t) handle ≡ Some root) where
    abbrev r : Ref
    r = root_of root.word

    -- what its root leads to keeps each value, but for updates of what it reaches
    pub values_stay : ((own : Own) (path : List Ref) (former : Option ℕ) → own.why ≡ purpose.Update path former → Reaches (states t) handle own.indirection → ⊥) → (key : ℕ) →
        value_below trie (suc t) (root_of root.word) key ≡ value_below trie t (root_of root.word) key
    values_stay misses key = by_step main_step
      where
        deep : trie.depth r ≡ 0
        deep = root_deep steps run takes keys t (omega arith) handle root at

        by_own : (own : Own) → ((p : List Ref) × (former : Option ℕ) × (own.why ≡ purpose.Update p former))
            ⊎ IsRepair trie (generation trie own.indirection) t (node_in trie t own.indirection) (node_in trie (suc t) own.indirection) →
            value_below trie (suc t) r key ≡ value_below trie t r key
        by_own own (inl (p, former, e)) =
            let link = indirection_is (node_under states (suc t) r) (root_link steps run takes keys t (omega arith) handle root at) in
            missed_below trie t own.indirection r (λ j. shape.shaped t j (omega arith)) own.others
            (λ from. misses own p former e (reach_from steps run takes keys t (omega arith) handle root at own.indirection from))
            key most_levels 0 r link.1 link.0 deep itself link.2
        by_own own (inr repair) = repair_below trie ok t refl own.indirection own.others repair r deep key

        by_step : MainStep limits states run.records (suc t) (assigned_at states (suc t)) t s → value_below trie (suc t) r key ≡ value_below trie t r key
        by_step (stays none same) = nothing_below trie ok t refl same r key
        by_step (changes own) =
            by_own own
            (own_does limits states (suc t) (depth_of_run states steps (suc t)) (path_of_run states steps (suc t)) run
            (sites_of_updates run steps takes keys) t s (omega arith) own)

    -- a handle over a root with these values has this content behind the step
    pub content_later : (other : ℕ) (now : Root) → root_at (states (suc t)) other ≡ Some now →
        ((key : ℕ) → value_below trie (suc t) (root_of now.word) key ≡ value_below trie t (root_of root.word) key) → content_at (states (suc t)) other ≡ content_at (states t) handle
    content_later other now at_now same =
        content_shown steps run takes keys (suc t) (omega arith) other now at_now
        ∙ ap entries (map_of-same trie.keys (value_below trie (suc t) (root_of now.word)) (value_below trie t (root_of root.word)) same)
        ∙ sym (content_shown steps run takes keys t (omega arith) handle root at)
