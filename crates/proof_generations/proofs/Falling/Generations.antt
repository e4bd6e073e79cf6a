-- Generations fall below each indirection, at each time of a run.
use Rattle.std.proofs.Common.{◌≡◌, ℕ, ◌≤◌, Bool, true, false, Contains, refl, sym, ap, ◌∙◌, subst, arith}
use Rattle.std.specs.List.{All}
use Rattle.std.proofs.lemmas.List.Elements.{All-contains, All-nil}
use Rattle.proof_generations.specs.Vocabulary.{Ref, entries_of, Bounds, State, IsRun, node_under, main_before}
use Rattle.proof_commits.proofs.Course.Mains.{main_decided}
use Rattle.proof_commits.proofs.Known.Sounds.{sound_at}
use Rattle.proof_commits.proofs.Words.Stood.{Stood}
use Rattle.proof_generations.specs.Falling.{NoneIsNewer}
use Rattle.proof_generations.proofs.Falling.KnownRoots.{words, protocol_of}
use Rattle.proof_generations.proofs.Falling.Nodes.{told_generation}
use Rattle.proof_generations.proofs.Falling.Runs.{gen_of, NotNewer}
use Rattle.proof_generations.proofs.Falling.NoRef.{no_node, no_main_before, counts_at}
use Rattle.proof_generations.proofs.Falling.Along.{all_falls}
use Rattle.proof_generations.specs.Beneath.proof_memory.specs.Wants.{is_indirection}

module _ {limits : Bounds} {states : ℕ → State} {last : ℕ} (run : IsRun limits states last) where
  -- the main node that counts stood in the word
  pub main_stood : (t : ℕ) → t ≤ last → (i : Ref) → (words states run.records last).link t i ≡ true → Stood (words states run.records last) t i (main_before states t i)
  main_stood t within i link = (main_decided (words states run.records last) t (sound_at (protocol_of run) t within).words i link).stood

  -- ---- in the trie

  older_by : (t : ℕ) → t ≤ last → (i : Ref) (b : Bool) → is_indirection (node_under states t i) ≡ b →
      All (NotNewer states last (gen_of states last i)) (entries_of (node_under states last (main_before states t i)))
  older_by t within i true e = (all_falls run t within).mains.older i (main_before states t i) (main_stood t within i e)
  older_by t within i false e =
      subst (All (NotNewer states last (gen_of states last i))) (sym (ap (λ m. entries_of (node_under states last m)) (no_main_before run t within i e)
      ∙ ap entries_of (no_node run last (omega arith)))) (All-nil (NotNewer states last (gen_of states last i)))

  pub none_is_newer : NoneIsNewer limits states last
  none_is_newer depth path t within i child h word among is =
      let c = counts_at run t within i in
      let all = older_by c.at c.within i (is_indirection (node_under states c.at i)) refl in
      let here = subst (λ m. Contains (entries_of (node_under states last m)) child) c.is among in
      let le = All-contains (NotNewer states last (gen_of states last i)) (entries_of (node_under states last (main_before states c.at i))) child all here h (word, is) in
      omega (arith, le, told_generation states last h child (word, is))
