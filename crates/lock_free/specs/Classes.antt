-- How many entries a main node of a shape has, and in which class of slots it stands.
use Rattle.std.specs.Prelude.{ℕ, count_ones}
use Rattle.trie_words.specs.declared.headers.Shape.{Shape}
use Rattle.trie_words.specs.declared.headers.Shape.TheVariants as shape
use Rattle.lock_free.specs.Places.{class_for}

abbrev pub entries_in : Shape → ℕ
entries_in (shape.Branch bitmap) = count_ones bitmap
entries_in (shape.Tomb single) = 0
entries_in (shape.List count) = count

abbrev pub shape_class : Shape → ℕ
shape_class (shape.Branch bitmap) = class_for (count_ones bitmap)
shape_class (shape.Tomb single) = 0
shape_class (shape.List count) = class_for count
