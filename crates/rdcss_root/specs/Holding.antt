-- Holding and releasing references, and what root words hold.
use Rattle.std.specs.Prelude.{◌≡◌, ℕ, ◌+◌, ◌*◌, ◌<◌, ◌≤◌, ◌^◌, List, length, flat_map, Option}
use Rattle.rdcss_root.specs.Vocabulary.{Ref, times, TakesUpTo, KeepsEpochs, Root, refs_of_root}
use Rattle.rdcss_root.specs.Beneath.epochs.specs.Memories.{Memory}

-- all but the references from outside, the notes and the ticks is as before, and at most so many were noted and looked at
pub record KeepsMemory (before after : Memory) (most : ℕ) : Type 0 where
  pub heap : after.heap ≡ before.heap
  pub epochs : KeepsEpochs before after
  pub few : length after.noted ≤ length before.noted + most
  pub ticks : TakesUpTo most before.ticks after.ticks

-- each of these references is held once more
pub record HoldsMore (refs : List Ref) (before after : Memory) : Type 0 where
  pub outside : (r : Ref) → times r after.outside ≡ times r before.outside + times r refs
  pub keeps : KeepsMemory before after (length refs)

-- each of these references is held once less
pub record Releases (refs : List Ref) (before after : Memory) : Type 0 where
  pub outside : (r : Ref) → times r after.outside + times r refs ≡ times r before.outside
  pub keeps : KeepsMemory before after (length refs)

-- the references in root words
abbrev pub root_refs : List (Option Root) → List Ref
root_refs roots = flat_map refs_of_root roots

-- what stands in root words is held, and each reference can be held so many times more
pub record IsReady (memory : Memory) (roots : List (Option Root)) (spare : ℕ) : Type 0 where
  pub held : (r : Ref) → times r (root_refs roots) ≤ times r memory.outside
  pub room : (r : Ref) → times r memory.outside + spare < 2 ^ 31

-- from these root words to those, what is held changed by what stands in them, no reference by more than so many times
pub record Moves (before after : Memory) (roots now : List (Option Root)) (most : ℕ) : Type 0 where
  pub outside : (r : Ref) → times r after.outside + times r (root_refs roots) ≡ times r before.outside + times r (root_refs now)
  pub more : (r : Ref) → times r after.outside ≤ times r before.outside + most
  pub keeps : KeepsMemory before after (2 * most)
