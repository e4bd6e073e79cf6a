-- Which word is what: counters, a word for each handle and each seat, three parts with slots of one size each, a word for each small slot, and cells. A slot is named by its first word, halved.
use Rattle.std.specs.Prelude.{◌≡◌, ℕ, ◌+◌, ◌*◌, ◌^◌, ◌<◌, ◌≤◌, ◌==◌, if◌then◌else◌, nat_le, List, slice_index}
use Rattle.lock_free.specs.declared.sizes.Sizes.{Sizes}

-- 16 words are two lines of the cache, so that who writes one counter doesn't take another from a processor
abbrev pub epoch_word : ℕ
epoch_word = 0

-- which counts up where the epoch may grow or a handle be closed: who glances looks whether it is what it was
abbrev pub glance_word : ℕ
glance_word = 1

abbrev pub generation_word : ℕ
generation_word = 16

-- how many slots of a class were ever handed out
abbrev pub taken_word : ℕ → ℕ
taken_word class = 32 + 16 * class

-- handle 0 has a line of its own
abbrev pub root_word : ℕ → ℕ
root_word handle = if handle == 0 then 80 else 87 + handle

abbrev pub pin_word : ℕ → ℕ
pin_word actor = 336 + 16 * actor

-- ---- slots

-- three classes: what is small, branches of up to 12 entries, and those of up to 32
abbrev pub small_class : ℕ
small_class = 0

-- a slot takes so many words
abbrev pub stride : ℕ → ℕ
stride class = if class == 0 then 2 else (if class == 1 then 8 else 24)

-- so many of them a node or an offer has: the last word of a medium or wide slot is its count's
abbrev pub words_in : ℕ → ℕ
words_in class = if class == 0 then 2 else (if class == 1 then 7 else 23)

abbrev pub slots_in : Sizes → ℕ → ℕ
slots_in sizes class = if class == 0 then sizes.small else (if class == 1 then sizes.medium else sizes.wide)

abbrev pub first_slot_word : Sizes → ℕ
first_slot_word sizes = 352 + 16 * sizes.seats

abbrev pub part_of : Sizes → ℕ → ℕ
part_of sizes class =
    if class == 0 then first_slot_word sizes
    else (if class == 1 then first_slot_word sizes + 2 * sizes.small else first_slot_word sizes + 2 * sizes.small + 8 * sizes.medium)

-- small slots have no room for counts: these have a part of their own, and cells come after it
abbrev pub first_cell_word : Sizes → ℕ
first_cell_word sizes = first_slot_word sizes + 3 * sizes.small + 8 * sizes.medium + 24 * sizes.wide

-- 32 cells for each class
abbrev pub words_of : Sizes → ℕ
words_of sizes = first_cell_word sizes + 96

abbrev pub cell_word : Sizes → ℕ → ℕ → ℕ
cell_word sizes class number = first_cell_word sizes + 32 * class + number

-- there is a slot of this class with this name
pub record IsSlot (sizes : Sizes) (class : ℕ) (name : ℕ) : Type 0 where
  pub number : ℕ
  pub few : number < slots_in sizes class
  pub first : 2 * name ≡ part_of sizes class + stride class * number

-- the word that counts references to what stands in the slot
abbrev pub count_word : Sizes → ℕ → ℕ → ℕ
count_word sizes class name =
    if class == 0 then 176 + 8 * sizes.seats + 2 * sizes.small + 8 * sizes.medium + 24 * sizes.wide + name else 2 * name + words_in class

-- the name of a slot of this class that was handed out
pub record IsTaken (sizes : Sizes) (words : List ℕ) (class : ℕ) (name : ℕ) : Type 0 where
  pub number : ℕ
  pub few : number < slice_index words (taken_word class)
  pub first : 2 * name ≡ part_of sizes class + stride class * number

-- no more were handed out than there are
abbrev pub HaveTaken : Sizes → List ℕ → Type 0
HaveTaken sizes words = (class : ℕ) → class < 3 → slice_index words (taken_word class) ≤ slots_in sizes class

-- the class of a main node with so many entries, and of what is no main node
abbrev pub class_for : ℕ → ℕ
class_for entries = if nat_le entries 2 then 0 else (if nat_le entries 12 then 1 else 2)

-- the first small slots have the first branch and the root over it
abbrev pub branch_slot : Sizes → ℕ
branch_slot sizes = 176 + 8 * sizes.seats

abbrev pub root_slot : Sizes → ℕ
root_slot sizes = 177 + 8 * sizes.seats

-- the sizes are in range
pub record AreSizes (sizes : Sizes) : Type 0 where
  pub some : 1 ≤ sizes.seats
  pub many : sizes.seats ≤ 255
  pub root : 2 ≤ sizes.small
  pub within : words_of sizes ≤ 2 ^ 28
