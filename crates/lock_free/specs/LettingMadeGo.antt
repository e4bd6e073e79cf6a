-- What a seat lets go of once its operation has given up what it had made.
use Rattle.std.specs.Prelude.{◌≡◌, ◌⊎◌, ◌*◌, ℕ, Bool, true, false, List, [], Contains, Option, None, Some, map}
use Rattle.history.specs.declared.replies.Reply.{Reply}
use Rattle.trie_words.specs.Codes.{entry_of, header_of}
use Rattle.trie_words.specs.declared.headers.Previous.TheVariants as previous
use Rattle.machine_model.specs.Beneath.slot_arena.specs.declared.refs.Ref.{Ref}
use Rattle.machine_model.specs.declared.lines.Line.{Line}
use Rattle.machine_model.specs.declared.lines.Purpose.{Purpose}
use Rattle.machine_model.specs.declared.operations.Operation.{Operation}
use Rattle.machine_model.specs.GivingUp.{given_up}
use Rattle.lock_free.specs.declared.reclaiming.Kind.TheVariants as kinds
use Rattle.lock_free.specs.declared.rules.View.{View}
use Rattle.lock_free.specs.declared.stock.OwnNode.{OwnNode}
use Rattle.lock_free.specs.Accounts.{place_of}
use Rattle.lock_free.specs.Calling.{GaveUp}
use Rattle.lock_free.specs.Freeing.{HasLetGo, HasSeenDraft}
use Rattle.lock_free.specs.GivingUp.{HasDropped}
use Rattle.lock_free.specs.LettingGo.{names_of, HasItself}
use Rattle.lock_free.specs.Loading.{Runs}
use Rattle.lock_free.specs.Stocks.{made_of}
use Rattle.lock_free.specs.Swaps.{IsSwapping}

-- ---- slots whose nodes aren't let go of

abbrev pub slots_made : List OwnNode → List ℕ
slots_made made = map (λ (own : OwnNode). own.slot) made

abbrev pub slots_kept : List ℕ → List ℕ
slots_kept halves = map (λ (half : ℕ). (entry_of half).slot) halves

-- if it was a main node, its header says that it isn't over another one
abbrev pub SaysOverNone : View → OwnNode → Type 0
SaysOverNone v own = own.kind ≡ kinds.Main → (found : ℕ) × HasSeenDraft v (2 * own.slot) found × ((header_of found).previous ≡ previous.None)

-- So many are left out of what the node named: all of them, of a SWAP's fresh main node; else those of what was made, where the node takes nothing over.
abbrev pub LeavesOut : View → OwnNode → Option ℕ → ℕ → ℕ → ℕ → Type 0
LeavesOut v own fresh made all count = ((fresh ≡ Some own.slot) × (count ≡ all)) ⊎ (SaysOverNone v own × (count ≡ made))

-- ---- once all that was made is given up

-- These are the nodes. What the fresh one, in this slot, was to take over stands in those that are kept.
pub record MayLetMadeGo (v : View) (made : List OwnNode) (fresh : Option ℕ) (kept : List ℕ) : Type 0 where
  pub before : View
  pub private : List Ref
  pub on : Line
  pub made_is : made ≡ map (made_of before) private
  pub dropped : HasDropped before private on v
  pub covers : (x k : Ref) → Contains private x → fresh ≡ Some (place_of before.account x) → Contains (names_of before x) k → ¬ Contains kept (place_of v.account k) → HasItself before on x k

-- of these entries' halves those which a SWAP's fresh main node was to take over: all, where it was to replace the indirection's own
abbrev pub kept_over : Bool → List ℕ → List ℕ
kept_over true kept = kept
kept_over false kept = []

-- the fresh main node, unless what it was to take over isn't known
abbrev pub fresh_left : Bool → List ℕ → ℕ → Option ℕ
fresh_left true [] fresh = None
fresh_left true kept fresh = Some fresh
fresh_left false kept fresh = Some fresh

-- if there are any, they lead to all that the main node names which is to be replaced
abbrev pub KeepsNamed : View → List ℕ → Type 0
KeepsNamed v [] = Unit {0}
KeepsNamed v kept =
    (why : Purpose) (i replaced made : Ref) → IsSwapping v why i replaced made → (k : Ref) → Contains (names_of v replaced) k → Contains (slots_kept kept) (place_of v.account k)

-- ---- an operation gives up, and its seat lets go of what it held by that

pub record HasGivenAllUp (before : View) (operation : Operation) (answer : Reply) (after : View) : Type 0 where
  pub at : View
  pub gave : GaveUp before operation answer at
  pub let_go : HasLetGo at after

abbrev pub GivesAllUp : View → View → Type 0
GivesAllUp before after = (operation : Operation) (answer : Reply) → Runs before operation → given_up operation.call operation.line ≡ Some answer → HasGivenAllUp before operation answer after
