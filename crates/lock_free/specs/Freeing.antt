-- A slot that was retired since its node had no reference any more becomes free: from then on the seat holds what the node held, and lets go of it.
use Rattle.history.specs.declared.calls.Call.{Call}
use Rattle.std.specs.Prelude.{◌≡◌, ◌+◌, ◌++◌, ◌&&◌, ◌≤◌, ℕ, true, List, [], ◌∷◌, Contains, filter, map}
use Rattle.atomic_table.specs.Table.{Me, Step}
use Rattle.machine_model.specs.Beneath.slot_arena.specs.declared.nodes.Slot.{Slot}
use Rattle.machine_model.specs.Beneath.slot_arena.specs.declared.refs.Ref.{Ref}
use Rattle.machine_model.specs.Beneath.slot_arena.specs.Heaps.{node_at, refs_of_node}
use Rattle.proof_claims.specs.Held.{Claim, is_by_nodes, is_in}
use Rattle.lock_free.specs.declared.accounts.Account.{Account}
use Rattle.lock_free.specs.declared.rules.Retired.{Retired}
use Rattle.lock_free.specs.declared.rules.View.{View}
use Rattle.lock_free.specs.Accounts.{state_of}
use Rattle.lock_free.specs.Becoming.{HasBecome}
use Rattle.lock_free.specs.Claims.{held_now, HoldsAll}
use Rattle.lock_free.specs.LeftNodes.{LeavesNode}
use Rattle.lock_free.specs.Links.{link_in}
use Rattle.lock_free.specs.Loading.{IsSound, Waited}
use Rattle.lock_free.specs.Nodes.{class_of}
use Rattle.lock_free.specs.Places.{count_word, words_of}
use Rattle.lock_free.specs.Raising.{HasKept}
use Rattle.lock_free.specs.Reclaiming.{kind_of, kind_of_node, reclaiming}

-- what the node holds of these by all steps so far
abbrev pub held_by : List Ref → Ref → List Claim → List Ref
held_by names j claims = map (λ (c : Claim). c.on) (filter (λ (c : Claim). is_by_nodes (j ∷ []) c.by && is_in names c.on) claims)

-- the seat has retired this slot, whose node had no reference any more, and the epoch that it has seen is so much later
abbrev pub IsRipeDeep : View → ℕ → ℕ → Type 0
IsRipeDeep v class name = (x : Retired) × Contains v.retired x × (x.class ≡ class) × (x.name ≡ name) × (x.stamp + 3 ≤ v.epoch) × (x.deep ≡ true)

-- it is free for the seat, which knows what its words say, and holds what the node named and held
abbrev pub freeing : View → Account → ℕ → ℕ → Ref → List (ℕ × ℕ) → View
freeing v account class name j known =
    record (reclaiming v class name) {
      account = account;
      owed = held_by (refs_of_node (node_at (state_of v.sizes account).heap j)) j (held_now v.sizes account).claims ++ v.owed;
      drafts = known ++ v.drafts;
    }

-- The node stood in this slot, and the seat holds a reference to each node that it named.
pub record HasLeft (v : View) (name : ℕ) (node : Ref) (slot : Slot) : Type 0 where
  pub left : LeavesNode v name node slot
  pub holds : HoldsAll (refs_of_node slot.node) v.owed

-- ---- the access

pub record HasFreed (before : View) (class name link : ℕ) (after : View) : Type 0 where
  pub account : Account
  pub waited : Waited before account
  pub known : List (ℕ × ℕ)
  pub node : Ref
  pub slot : Slot
  pub is : after ≡ freeing before account class name node known
  pub left : HasLeft after name node slot
  pub in_class : class_of slot.node ≡ class
  pub kind : (x : Retired) → Contains before.retired x → x.class ≡ class → x.name ≡ name → kind_of before.sizes x ≡ kind_of_node slot.node
  -- and this was its link, where the seat knew it
  pub its_link : (n : ℕ) → Contains before.links (count_word before.sizes class name, n) → link ≡ n

-- by adding to the count's word
abbrev pub has_freed : Step Call → Me Call View → ℕ → Me Call View → Type 0
has_freed step before found after =
    ((class name : ℕ) → IsRipeDeep before.0 class name → step.word ≡ count_word before.0.sizes class name → HasFreed before.0 class name (link_in found) after.0)
    × IsSound (words_of before.0.sizes) after.0 × (after.1 ≡ before.1)

-- ---- the words of a slot that is free

-- what the seat knows of this word is so
abbrev pub HasSeenDraft : View → ℕ → ℕ → Type 0
HasSeenDraft v word found = (value : ℕ) → Contains v.drafts (word, value) → found ≡ value

-- by a load
abbrev pub has_seen_draft : Step Call → Me Call View → ℕ → Me Call View → Type 0
has_seen_draft step before found after = HasSeenDraft before.0 step.word found × (after ≡ before)

-- ---- what the program does

-- the seat holds some references less, and may have retired what has none any more
abbrev pub HasLetGo : View → View → Type 0
HasLetGo before after = HasKept before after.owed after

-- some of what it has retired may be free, and its operation goes on
abbrev pub HasFreedSome : View → View → Type 0
HasFreedSome before after = HasBecome (λ operation. operation) before after
