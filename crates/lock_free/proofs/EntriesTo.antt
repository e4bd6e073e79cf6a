-- Entries to nodes that a seat knows stay so, whatever it has seen or made since.
use Rattle.std.proofs.Common.{◌≡◌, false, List, [], ◌∷◌, All, map, refl, sym, ap, ap₂, ◌∙◌}
use Rattle.std.proofs.lemmas.List.Elements.{All-head, All-tail}
use Rattle.trie_words.specs.declared.entries.Entry.{Entry}
use Rattle.machine_model.specs.Beneath.slot_arena.specs.declared.refs.Ref.{Ref}
use Rattle.machine_model.specs.Beneath.slot_arena.specs.declared.nodes.Node.{Node}
use Rattle.machine_model.specs.Beneath.slot_arena.specs.declared.nodes.Node.TheVariants.{Indirection, Branch, Single, Tomb, List as Listed}
use Rattle.machine_model.specs.Beneath.slot_arena.specs.declared.nodes.Slot.{Slot}
use Rattle.machine_model.specs.Beneath.slot_arena.specs.Heaps.{node_at}
use Rattle.proof_memory.specs.Laws.{SameNode}
use Rattle.lock_free.specs.declared.rules.View.{View}
use Rattle.lock_free.specs.Becoming.{Follows}
use Rattle.lock_free.specs.Entries.{IsEntryIn, entry_in}
use Rattle.lock_free.specs.Loading.{now, IsUsed}
use Rattle.lock_free.specs.Nodes.{is_single}
use Rattle.lock_free.specs.SeenEntries.{AreEntriesTo, entry_to, unowned}
use Rattle.lock_free.proofs.GivenBack.{node_is}

single_kept : (a b : Node) → SameNode a b → is_single b ≡ is_single a
single_kept (Indirection generation main) b same = ap is_single same.1
single_kept (Branch bitmap entries) b same = ap is_single same.1
single_kept (Single key value) b same = ap is_single same.1
single_kept (Tomb single) b same = ap is_single same.1
single_kept (Listed singles) b same = ap is_single same.1

abbrev pub Used : View → Ref → Type 0
Used v r = (slot : Slot) × IsUsed v r slot

module _ (v w : View) (f : Follows v w) where
  pub single_on : (r : Ref) → Used v r → is_single (node_at (now w).heap r) ≡ is_single (node_at (now v).heap r)
  single_on r u =
      let y = f.nodes r u.0 u.1 in
      ap is_single (node_is (now w) r y.0 y.1) ∙ single_kept u.0.node y.0.node y.2 ∙ sym (ap is_single (node_is (now v) r u.0 u.1))

  pub entry_to_on : (r : Ref) → Used v r → entry_to w r ≡ entry_to v r
  entry_to_on r u = ap₂ (λ s b. record { slot = s; own = false; is_single = b }) (f.places r u.0 u.1) (single_on r u)

  each_on : (refs : List Ref) → All (Used v) refs → map (entry_to w) refs ≡ map (entry_to v) refs
  each_on [] all = refl
  each_on (r ∷ rs) all = ap₂ (λ (x : Entry) xs. x ∷ xs) (entry_to_on r (All-head (Used v) r rs all)) (each_on rs (All-tail (Used v) r rs all))

  pub entries_on : (entries : List Entry) (refs : List Ref) → All (Used v) refs → AreEntriesTo v entries refs → AreEntriesTo w entries refs
  entries_on entries refs all h = h ∙ sym (each_on refs all)

-- an entry that is seen in a main node
pub entry_named : (v : View) (main : Ref) (position : _) (e : Entry) → IsEntryIn v main position e.slot e.is_single → unowned e ≡ entry_to v (entry_in v main position)
entry_named v main position e h = ap₂ (λ s b. record { slot = s; own = false; is_single = b }) (sym h.placed.1) (sym h.kind)
