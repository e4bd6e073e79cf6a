-- A word of a slot is replaced: which references come and go, and what stands in the slots then.
use Rattle.std.specs.Prelude.{◌≡◌, true, List, [], ◌∷◌}
use Rattle.slot_arena.specs.declared.refs.Ref.{Ref}
use Rattle.slot_arena.specs.declared.nodes.Slot.{Slot}
use Rattle.slot_arena.specs.declared.word_swaps.WordSwap.{WordSwap}
use Rattle.slot_arena.specs.declared.word_swaps.WordSwap.TheVariants as word
use Rattle.slot_arena.specs.Heaps.{Heap, node_at, prev_at, main_at, with_main, with_prev, main_changed, prev_changed, refs_of_prev}
use Rattle.slot_arena.specs.Arenas.{is_indirection}

-- the references of what is to stand there
abbrev pub coming : WordSwap → List Ref
coming (word.Main from to) = to ∷ []
coming (word.Prev from to) = refs_of_prev to

-- the references of what stands there
abbrev pub going : WordSwap → List Ref
going (word.Main from to) = from ∷ []
going (word.Prev from to) = refs_of_prev from

-- the word that is to be replaced stands in the slot
abbrev pub StandsIn : Heap → Ref → WordSwap → Type 0
StandsIn heap r (word.Main from to) = (is_indirection (node_at heap r) ≡ true) × (main_at heap r ≡ from)
StandsIn heap r (word.Prev from to) = prev_at heap r ≡ from

-- the slot with the other word
abbrev pub word_changed : WordSwap → Slot → Slot
word_changed (word.Main from to) = main_changed to
word_changed (word.Prev from to) = prev_changed to

-- the heap with the other word
abbrev pub with_word : Heap → Ref → WordSwap → Heap
with_word heap r (word.Main from to) = with_main heap r to
with_word heap r (word.Prev from to) = with_prev heap r to
