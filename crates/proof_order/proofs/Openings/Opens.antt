-- What a call opens by a root swap, as the contents of generations go: a clear an empty map, a snapshot and a freeze the old root's content, as it is in the end.
use Rattle.std.proofs.Common.{◌≡◌, ℕ, suc, false, sym, ap, ◌∙◌, arith}
use Rattle.proof_order.specs.Vocabulary.{Call, Ref, generation_at, generation_of, Operation, Descriptor, Bounds, State, node_under, IsRun, is_placed, counting_main}
use Rattle.proof_order.specs.Vocabulary.{root_of_generation, trie_of, Trie, content}
use Rattle.proof_order.specs.Beneath.proof_contents.specs.Steps as steps
use Rattle.proof_order.specs.Beneath.proof_contents.specs.Steps.{IsTrie}
use Rattle.proof_order.specs.Beneath.proof_contents.proofs.Changes.Openings.{copy_opens, empty_opens}
use Rattle.proof_order.specs.Facts as facts
use Rattle.proof_order.specs.Facts.{Opens, Runs}
use Rattle.proof_order.specs.Openings.{IsSwap, IsNewRoot, Brings, clears, snapshots, freezes, SwapsOpen}
use Rattle.proof_order.proofs.Openings.Carried.{swap_stands, swap_is_fresh, second_is_fresh, second_differs}
use Rattle.proof_order.proofs.Openings.RootOf.{roots_are_one}
use Rattle.proof_order.proofs.Openings.SwapState.{old_stands}
use Rattle.proof_order.proofs.Openings.NoLateCommit.{no_late_commit}
use Rattle.proof_order.proofs.Openings.Brings.{swaps_bring}

module _ {limits : Bounds} {states : ℕ → State} {last : ℕ} (run : IsRun limits states last) (depth path : Ref → ℕ) (t handle : ℕ) (offer : Descriptor)
    (swap : IsSwap states run.records last t handle offer) where
  abbrev pub trie : Trie
  trie = trie_of limits states last depth path

  abbrev old : ℕ
  old = generation_at (states t).heap offer.root

  abbrev gen : Ref → ℕ
  gen r = generation_at (states t).heap r

  old_one : (root_of_generation states last old ≡ offer.root) × (generation_of (node_under states last offer.root) ≡ old)
  old_one = roots_are_one run t handle offer.root old (omega (arith, swap.taken)) (old_stands run t handle offer swap)

  -- a new root over the expected node shows, when it is opened, what the old one shows in the end
  pub opens_over : (r : Ref) → IsNewRoot states last t offer r → counting_main states last (suc t) r ≡ offer.expected → steps.Opens trie t old (gen r)
  opens_over r new main = record {
    newer = new.newer;
    old_root = ap (λ q. generation_of (node_under states last q)) old_one.0 ∙ old_one.1;
    new_root = ap (λ q. generation_of (node_under states last q)) new.is_root ∙ new.keeps;
    in_range = swap.taken;
    same =
        ap (λ q. counting_main states last (suc t) q) new.is_root ∙ main ∙ sym (no_late_commit run t handle offer swap last (omega (arith, swap.taken)) (omega arith))
        ∙ ap (λ q. counting_main states last last q) (sym old_one.0);
  }

  module _ (ok : IsTrie trie) where
    opens_by : (call : Call) → Brings states last t handle offer call → Opens states run.records last (content trie) t handle old offer call
    opens_by call (clears opens new empty) =
        facts.clears opens
        (empty_opens trie ok (suc t) (gen offer.successor) (ap (λ q. generation_of (node_under states last q)) new.is_root ∙ new.keeps)
        (ap (λ q. node_under states last (counting_main states last (suc t) q)) new.is_root ∙ empty))
    opens_by call (snapshots n second opens is first main copy its) =
        facts.snapshots n second opens is (second_is_fresh run t handle offer swap second is) (second_differs run t handle offer swap second is)
        (copy_opens trie ok t old (gen offer.successor) (opens_over offer.successor first main)) (copy_opens trie ok t old (gen second) (opens_over second copy its))
    opens_by call (freezes n opens none first main) = facts.freezes n opens none (copy_opens trie ok t old (gen offer.successor) (opens_over offer.successor first main))

pub swaps_open : {limits : Bounds} {states : ℕ → State} {last : ℕ} (run : IsRun limits states last) → SwapsOpen limits states run.records last
swaps_open {limits} {states} {last} run depth path ok t handle offer swap actor offerer is id =
    opens_by run depth path t handle offer swap ok offerer.call (swaps_bring run t handle offer swap actor offerer is id)

-- a step that carries an offer out is a swap as the order takes it, where the operation that offered has no place yet
module _ {limits : Bounds} {states : ℕ → State} {last : ℕ} (run : IsRun limits states last) (depth path : Ref → ℕ) (ok : IsTrie (trie_of limits states last depth path)) where
  pub swap_so : (t handle : ℕ) (offer : Descriptor) → IsSwap states run.records last t handle offer → (k : ℕ) (offerer : Operation) → Runs (states t) k offerer → offerer.id ≡ offer.operation →
      is_placed (run.records t) offer.operation ≡ false → facts.Swap states run.records last (content (trie_of limits states last depth path)) t handle offer offerer.call
  swap_so t handle offer swap k offerer runs id unplaced =
      record {
        unplaced = unplaced;
        stands = swap_stands run t handle offer swap;
        is_fresh = swap_is_fresh run t handle offer swap;
        opens = swaps_open run depth path ok t handle offer swap (suc k) offerer runs id;
      }
