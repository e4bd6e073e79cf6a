-- Parts whose root words and next generation a call changes that runs alone.
use Rattle.std.specs.Prelude.{◌≡◌, ℕ, ◌+◌, ◌<◌, ◌≤◌, ◌^◌, List, Option, Some}
use Rattle.machine_core.specs.Vocabulary.{Writable, Indirection, Ref, Heap, node_at, prev_at, times, Root, RootWord, Course, root_refs, IsDraft}
use Rattle.slot_arena.specs.declared.nodes.Prev.TheVariants as prev
use Rattle.epochs.specs.Memories.{Memory}
use Rattle.machine_core.specs.declared.parts.Parts.{Parts}

-- the parts have come as far as this course of a call
pub record IsCourse (course : Course) (parts : Parts) : Type 0 where
  pub draft : IsDraft course.base course.draft parts.heap
  pub roots : course.base.roots ≡ parts.table.roots
  pub generations : course.base.generations ≡ parts.generations

-- what stands in root words, and these slots beside it, is held, and each reference can be held so many times more
pub record HoldsBeside (memory : Memory) (roots : List (Option Root)) (made : List Ref) (spare : ℕ) : Type 0 where
  pub held : (r : Ref) → times r (root_refs roots) + times r made ≤ times r memory.outside
  pub room : (r : Ref) → times r memory.outside + spare < 2 ^ 31

-- a writable handle with this root word
abbrev pub writable : RootWord → Option Root
writable word = Some (record { access = Writable; word = word })

-- the root is an indirection over this main node, which is decided
pub record IsOverDecided (heap : Heap) (root main : Ref) : Type 0 where
  pub generation : ℕ
  pub indirection : node_at heap root ≡ Indirection generation main
  pub decided : prev_at heap main ≡ prev.None
