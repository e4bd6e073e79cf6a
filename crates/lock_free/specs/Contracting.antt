-- What comes to a branch's place once tombs have given way to their singles: a branch, or a tomb of the single that alone is left.
use Rattle.std.specs.Prelude.{◌≡◌, ℕ, ◌&&◌, Bool, true, false, List, [], ◌∷◌, Option, Some, None}
use Rattle.nodes.specs.Builders.{contracted}
use Rattle.trie_words.specs.declared.entries.Entry.{Entry}
use Rattle.machine_model.specs.Beneath.slot_arena.specs.declared.refs.Ref.{Ref}
use Rattle.machine_model.specs.Beneath.slot_arena.specs.declared.nodes.Slot.{Slot}
use Rattle.machine_model.specs.Beneath.slot_arena.specs.Heaps.{node_at}
use Rattle.machine_model.specs.declared.actions.Action.TheVariants as act
use Rattle.lock_free.specs.declared.rules.View.{View}
use Rattle.lock_free.specs.Loading.{now, IsAt, IsUsed}
use Rattle.lock_free.specs.Nodes.{is_single}
use Rattle.lock_free.specs.SeenEntries.{AreEntriesTo}

-- the only entry, if it is a single, of which a tomb may be made
abbrev pub IsLone : Bool → List Entry → Option Entry → Type 0
IsLone may entries (Some e) = (may ≡ true) × (entries ≡ e ∷ []) × (e.is_single ≡ true)
IsLone may entries None = (e : Entry) → entries ≡ e ∷ [] → (may && e.is_single) ≡ false

-- The entries whose nodes the seat counts before: where the main node before is its indirection's own the singles of tombs alone, since it leaves all else to this one.
abbrev pub counted_in : Bool → List Entry → List Entry → List Entry
counted_in true entries singles = singles
counted_in false entries singles = entries

-- Its next step makes the main node with these entries. A tomb is made where one is left that is a single, and that may be.
pub record IsAtContracted (v : View) (may : Bool) (bitmap : ℕ) (entries : List Entry) : Type 0 where
  pub refs : List Ref
  pub entombs : Bool
  pub making : IsAt v (act.Make (contracted entombs bitmap refs))
  pub names : AreEntriesTo v entries refs
  pub lone : (r : Ref) → refs ≡ r ∷ [] → ((slot : Slot) × IsUsed v r slot) × (entombs ≡ (may && is_single (node_at (now v).heap r)))
