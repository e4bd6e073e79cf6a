-- The words of a new map, and why there is none.
use Rattle.std.specs.Prelude.{ℕ, ◌*◌, List, replicate, slice_set, true}
use Rattle.trie_words.specs.Codes.{link_code, root_code}
use Rattle.trie_words.specs.declared.roots.RootWord.TheVariants.{Writable}
use Rattle.lock_free.specs.declared.opening.OpenError.{OpenError}
use Rattle.lock_free.specs.declared.opening.OpenError.TheVariants.{BadSizes, Memory}
use Rattle.lock_free.specs.declared.sizes.Sizes.{Sizes}
use Rattle.lock_free.specs.Places.{AreSizes, words_of, branch_slot, root_slot, root_word, generation_word, taken_word}

-- the first root has the first branch, of which it is the owner
abbrev pub first_link : Sizes → ℕ
first_link sizes = link_code (record { generation = 0; main = record { slot = branch_slot sizes; own = true } })

-- handle 0 has the first root
abbrev pub first_handle : Sizes → ℕ
first_handle sizes = root_code (Writable (root_slot sizes))

-- one generation was given out, and two small slots
abbrev pub counted_words : Sizes → List ℕ
counted_words sizes = slice_set (slice_set (replicate (words_of sizes) 0) generation_word 1) (taken_word 0) 2

-- the header of an empty branch is 0
abbrev pub first_words : Sizes → List ℕ
first_words sizes = slice_set (slice_set (counted_words sizes) (root_word 0) (first_handle sizes)) (2 * root_slot sizes) (first_link sizes)

-- the sizes are out of range, or memory was lacking for what is in range
abbrev pub Refuses : Sizes → OpenError → Type 0
Refuses sizes BadSizes = ¬ AreSizes sizes
Refuses sizes Memory = AreSizes sizes
