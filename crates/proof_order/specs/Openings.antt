-- What the swap of a root opens, over a run: which reference is the root of a generation, that nothing commits at a closed root, and what the new roots show.
use Rattle.std.specs.Prelude.{◌≡◌, ℕ, suc, ◌≤◌, ◌<◌, Some, None}
use Rattle.std.specs.FinMap as map
use Rattle.proof_order.specs.Vocabulary.{Ref, generation_of, generation_at, empty_branch, Operation, Descriptor, Root, Bounds, Outcome, Step, Call, Clear, Snapshot, Freeze, content_at, State}
use Rattle.proof_order.specs.Vocabulary.{root_of, operation_of, node_under, Moves, Record, counting_main, trie_of, content}
use Rattle.proof_order.specs.Beneath.machine_model.specs.States as state
use Rattle.proof_order.specs.Beneath.proof_contents.specs.Runs as trie
use Rattle.proof_order.specs.Beneath.proof_contents.specs.Steps.{IsTrie}
use Rattle.proof_order.specs.Facts.{CarriesOut, Opens, Notes}

-- ---- roots of generations

-- at this time the handle is open over this root, which has this generation
pub record IsRootOf (states : ℕ → State) (t handle : ℕ) (r : Ref) (generation : ℕ) : Type 0 where
  pub root : Root
  pub is_open : state.root_at (states t) handle ≡ Some root
  pub is : root_of root.word ≡ r
  pub its : generation_at (states t).heap r ≡ generation

-- whatever handle has a root of a generation, at whatever time, it is this one, and has this generation for ever
abbrev pub RootsAreOne : (ℕ → State) → ℕ → Type 0
RootsAreOne states last =
    (t handle : ℕ) (r : Ref) (generation : ℕ) → t ≤ last → IsRootOf states t handle r generation →
    (trie.root_of_generation states last generation ≡ r) × (generation_of (node_under states last r) ≡ generation)

-- ---- root swaps

-- step t carries this offer out, on this handle
pub record IsSwap (states : ℕ → State) (records : ℕ → Record) (last t handle : ℕ) (offer : Descriptor) : Type 0 where
  pub taken : t < last
  pub step : Step
  pub outcome : Outcome
  pub moves : Moves (states t) step outcome (states (suc t))
  pub notes : Notes states records t step
  pub carries : CarriesOut (states t) step handle offer

-- at a root swap the expected node is the old root's main node, and it stays so for ever
abbrev pub NoLateCommit : (ℕ → State) → (ℕ → Record) → ℕ → Type 0
NoLateCommit states records last =
    (t handle : ℕ) (offer : Descriptor) → IsSwap states records last t handle offer → (u : ℕ) → t ≤ u → u ≤ last → counting_main states last u offer.root ≡ offer.expected

-- a root that the swap brings: it is that of its generation, which is newer than the old root's
pub record IsNewRoot (states : ℕ → State) (last t : ℕ) (offer : Descriptor) (r : Ref) : Type 0 where
  pub newer : generation_at (states t).heap offer.root < generation_at (states t).heap r
  pub is_root : trie.root_of_generation states last (generation_at (states t).heap r) ≡ r
  pub keeps : generation_of (node_under states last r) ≡ generation_at (states t).heap r

-- What a call's offer brings: a clear a root over an empty branch, a snapshot and a freeze roots over the expected node.
pub data Brings (states : ℕ → State) (last t handle : ℕ) (offer : Descriptor) : Call → Type 0 where
  clears : offer.opens ≡ None → IsNewRoot states last t offer offer.successor → node_under states last (counting_main states last (suc t) offer.successor) ≡ empty_branch →
      Brings states last t handle offer (Clear handle)
  snapshots : (n : ℕ) (second : Ref) → offer.opens ≡ Some n → offer.second ≡ Some second → IsNewRoot states last t offer offer.successor →
      counting_main states last (suc t) offer.successor ≡ offer.expected → IsNewRoot states last t offer second → counting_main states last (suc t) second ≡ offer.expected →
      Brings states last t handle offer (Snapshot handle)
  freezes : (n : ℕ) → offer.opens ≡ Some n → offer.second ≡ None → IsNewRoot states last t offer offer.successor → counting_main states last (suc t) offer.successor ≡ offer.expected →
      Brings states last t handle offer (Freeze handle)

-- what the offer of a running operation brings where it is carried out
abbrev pub SwapsBring : (ℕ → State) → (ℕ → Record) → ℕ → Type 0
SwapsBring states records last =
    (t handle : ℕ) (offer : Descriptor) → IsSwap states records last t handle offer → (actor : ℕ) (offerer : Operation) → operation_of (states t) actor ≡ Some offerer →
    offerer.id ≡ offer.operation → Brings states last t handle offer offerer.call

-- what the call of the operation that offered opens, by the content of the run's trie
abbrev pub SwapsOpen : Bounds → (ℕ → State) → (ℕ → Record) → ℕ → Type 0
SwapsOpen limits states records last =
    (depth path : Ref → ℕ) → IsTrie (trie_of limits states last depth path) → (t handle : ℕ) (offer : Descriptor) → IsSwap states records last t handle offer →
    (actor : ℕ) (offerer : Operation) → operation_of (states t) actor ≡ Some offerer → offerer.id ≡ offer.operation →
    Opens states records last (content (trie_of limits states last depth path)) t handle (generation_at (states t).heap offer.root) offer offerer.call

-- ---- contents

-- at the end the content of each open handle is the map of its root's generation
abbrev pub HandlesShow : Bounds → (ℕ → State) → ℕ → Type 0
HandlesShow limits states last =
    (depth path : Ref → ℕ) → IsTrie (trie_of limits states last depth path) → (handle : ℕ) (root : Root) → state.root_at (states last) handle ≡ Some root →
    content_at (states last) handle ≡ map.entries (content (trie_of limits states last depth path) (generation_at (states last).heap (root_of root.word)) last)
