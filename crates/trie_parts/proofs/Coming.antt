-- The entry that comes stands in the changed branch.
use Rattle.std.specs.Prelude.{◌≡◌, ℕ, ◌<◌, ◌≤◌, List, [], ◌∷◌, length, take, insert, slice_set, All}
use Rattle.std.proofs.Common.{arith, get_or, subst}
use Rattle.std.proofs.lemmas.List.{get_or-set_same, length-set, take_all}
use Rattle.std.proofs.lemmas.List.Edits.{get_or-insert_at, length-insert}
use Rattle.std.proofs.lemmas.List.Elements.{All-cons, All-nil}
use Rattle.trie_parts.specs.Beneath.slot_arena.specs.declared.refs.Ref.{Ref}
use Rattle.trie_parts.specs.Beneath.slot_arena.specs.declared.entries.EntryChange.{EntryChange}
use Rattle.trie_parts.specs.Beneath.slot_arena.specs.declared.entries.EntryChange.TheVariants.{Set, Insert, Remove}
use Rattle.trie_parts.specs.Beneath.slot_arena.specs.Entries.{Fits, coming, entries_after}
use Rattle.trie_parts.specs.Beneath.slot_arena.specs.Heaps.{no_ref}

module _ (P : Ref → Type 0) where
  here : (entry : Ref) (es : List Ref) (i : ℕ) → i < length es → length es ≤ 32 → get_or es i no_ref ≡ entry → All P (take 32 es) → All P (entry ∷ [])
  here entry es i within few is all =
      let whole : All P es = subst (λ rs. All P rs) (take_all 32 es few) all in
      All-cons P entry [] (subst P is (whole i no_ref within)) (All-nil P)

  pub coming_stands : (change : EntryChange) (es : List Ref) → Fits change es → length es ≤ 32 → All P (take 32 (entries_after change es)) → All P (coming change)
  coming_stands (Set position entry) es within few all =
      let size = length-set es position entry in
      here entry (slice_set es position entry) position (omega arith) (omega arith) (get_or-set_same es position entry no_ref within) all
  coming_stands (Insert position entry) es (within, room) few all =
      let size = length-insert es position entry within in
      here entry (insert es position entry) position (omega arith) (omega arith) (get_or-insert_at es position entry no_ref within) all
  coming_stands (Remove position) es within few all = All-nil P
