-- What exchanges of nodes' words ask and tell.
use Rattle.std.specs.Prelude.{◌≡◌, ◌≢◌, ◌⊎◌, ℕ, ◌==◌, Bool, true, false, Option}
use Rattle.trie_words.specs.declared.headers.Header.{Header}
use Rattle.trie_words.specs.declared.headers.Previous.{Previous}
use Rattle.trie_words.specs.declared.headers.Previous.TheVariants as previous
use Rattle.trie_words.specs.declared.links.Link.{Link}
use Rattle.trie_words.specs.declared.names.Name.{Name}
use Rattle.machine_model.specs.Beneath.slot_arena.specs.declared.refs.Ref.{Ref}
use Rattle.machine_model.specs.Beneath.slot_arena.specs.declared.nodes.Slot.{Slot}
use Rattle.machine_model.specs.Beneath.slot_arena.specs.Heaps.{main_at, prev_at, generation_at}
use Rattle.machine_model.specs.Beneath.slot_arena.specs.Refs.{slot_of}
use Rattle.machine_model.specs.declared.actions.Action.TheVariants as act
use Rattle.machine_model.specs.Reading.{is_licensed, is_pending}
use Rattle.lock_free.specs.declared.rules.View.{View}
use Rattle.lock_free.specs.Accounts.{place_of, IsOwn}
use Rattle.lock_free.specs.Loading.{now, seen, IsAt, Stores, Went}
use Rattle.lock_free.specs.Nodes.{SaysShape}

-- ---- what a seat knows of words

-- this is the name of that main node in the indirection
pub record IsNamed (v : View) (i main : Ref) (name : Name) : Type 0 where
  pub place : place_of v.account main ≡ name.slot
  pub is_own : IsOwn v.account i main name.own

-- this is the header of the main node while it is pending over that one in the indirection
pub record IsPendingOver (v : View) (i main replaced : Ref) (header : Header) : Type 0 where
  pub name : Name
  pub says : header.previous ≡ previous.Pending name
  pub names : IsNamed v i replaced name
  pub slot : Slot
  pub stores : Stores (now v) main slot
  pub is_shape : SaysShape v.account (slot_of main) slot.node header.shape

-- this is the indirection's word while that main node stands there
pub record IsLinkTo (v : View) (i main : Ref) (link : Link) : Type 0 where
  pub generation : link.generation ≡ generation_at (now v).heap i
  pub names : IsNamed v i main link.main

-- ---- a pending main node is decided

-- with a licence it is committed, without one it fails
abbrev pub decided_previous : Bool → Previous → Previous
decided_previous true p = previous.None
decided_previous false (previous.Pending name) = previous.Failed name
decided_previous false p = p

abbrev pub decided_header : Bool → Header → Header
decided_header licensed header = record { previous = decided_previous licensed header.previous; shape = header.shape }

abbrev pub IsAtDecide : View → ℕ → Header → Bool → Type 0
IsAtDecide v name header licensed =
    (i : Ref) × (main : Ref) × (replaced : Ref) × (told : Option ℕ) × IsAt v (act.Decide i main replaced told) × (place_of v.account main ≡ name) × IsPendingOver v i main replaced header
    × (is_licensed (now v).heap i told ≡ licensed)

-- whether it was pending still
abbrev pub HasDecided : View → Bool → View → Type 0
HasDecided before stood after =
    (w : Went before after) × ((i main replaced : Ref) (told : Option ℕ) → IsAt before (act.Decide i main replaced told) →
    (is_pending (prev_at (now (seen before w.account)).heap main) replaced ≡ stood) × (is_licensed (now (seen before w.account)).heap i told ≡ is_licensed (now before).heap i told))

-- ---- the main node before a failed one is put back

-- this is the name of the node before, or the failed one stands there no more
abbrev pub IsNamedOrGone : View → Ref → Ref → Ref → Name → Type 0
IsNamedOrGone v i main former name = IsNamed v i former name ⊎ (main_at (now v).heap i ≢ main)

abbrev pub IsAtRestore : View → ℕ → Link → Name → Type 0
IsAtRestore v name link former =
    (i : Ref) × (main : Ref) × (replaced : Ref) × IsAt v (act.Restore i main replaced) × (place_of v.account i ≡ name) × IsLinkTo v i main link × IsNamedOrGone v i main replaced former

-- whether the failed one stood there still
abbrev pub HasRestored : View → Bool → View → Type 0
HasRestored before stood after =
    (w : Went before after) × ((i main replaced : Ref) → IsAt before (act.Restore i main replaced) → (main_at (now (seen before w.account)).heap i == main) ≡ stood)
