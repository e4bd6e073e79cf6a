-- What handles show: at the end each open one the content of its root's generation, and at first the first generation nothing.
use Rattle.std.proofs.Common.{◌≡◌, ℕ, true, refl, sym, ◌∙◌, arith}
use Rattle.std.specs.FinMap as map
use Rattle.proof_order.specs.Vocabulary.{Ref, node_at, generation_at, RootWord, Plain, Offer, Bounds, State, root_of, IsRun, IsInUse, AnIndirection, AllHold, meets, word_wants, trie_of, content}
use Rattle.proof_order.specs.Beneath.proof_memory.proofs.Safety.AtEachTime.{safe_at}
use Rattle.proof_order.specs.Beneath.proof_memory.proofs.Safety.AtTimes.{node_found}
use Rattle.proof_order.specs.Beneath.proof_memory.proofs.Claims.Uses.{meets_of}
use Rattle.proof_order.specs.Beneath.proof_contents.specs.Steps.{IsTrie}
use Rattle.proof_order.specs.Beneath.proof_contents.proofs.Pairs.Heap.{content_is}
use Rattle.proof_order.specs.Beneath.proof_contents.proofs.Values.Started.{starts_empty}
use Rattle.proof_generations.proofs.Lines.ReaderKnows.{indirection_is}
use Rattle.proof_order.specs.Openings.{IsRootOf, HandlesShow}
use Rattle.proof_order.proofs.Openings.InUse.{reaches_in_use}
use Rattle.proof_order.proofs.Openings.RootOf.{roots_are_one, root_in_use}
use Rattle.proof_generations.proofs.Falling.Nodes.{nodes_stay}

module _ {limits : Bounds} {states : ℕ → State} {last : ℕ} (run : IsRun limits states last) where
  pub handles_show : HandlesShow limits states last
  handles_show depth path ok handle root e =
      let g = generation_at (states last).heap (root_of root.word) in
      let stands : IsRootOf states last handle (root_of root.word) g = record { root = root; is_open = e; is = refl; its = refl } in
      let used = root_in_use run last handle (root_of root.word) g (omega arith) stands in
      let node = indirection_is (node_at (states last).heap (root_of root.word)) (by root.word ((safe_at run last (omega arith)).words handle root e)) in
      content_is states last (reaches_in_use run last (omega arith)) limits depth path ok handle root g node.0 node.1 e
      (roots_are_one run last handle (root_of root.word) g (omega arith) stands).0 (sym (node_found states last (root_of root.word) used) ∙ node.2)
    where
      by : (word : RootWord) → AllHold (IsInUse (states last).heap) (states last).heap (word_wants word) → meets AnIndirection (node_at (states last).heap (root_of word)) ≡ true
      by (Plain r) h = meets_of h.0
      by (Offer offer) h = meets_of h.0

  pub starts_so : (depth path : Ref → ℕ) → IsTrie (trie_of limits states last depth path) → content (trie_of limits states last depth path) 0 0 ≡ map.empty
  starts_so depth path ok = starts_empty run (nodes_stay run) depth path ok
