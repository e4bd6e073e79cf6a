-- How often a number stands in a list, and taking it out once.
use Rattle.std.specs.Prelude.{ℕ, ◌==◌, not, List, [], ◌∷◌, count_by, filter, if◌then◌else◌}
use Rattle.slot_arena.specs.Refs.{slot_of}

-- how often n stands in the list
abbrev pub times : ℕ → List ℕ → ℕ
times n ns = count_by (λ m. m == n) ns

-- the references of the list that name other slots
abbrev pub other_slots : ℕ → List ℕ → List ℕ
other_slots slot rs = filter (λ r. not (slot_of r == slot)) rs

-- the list with the first n in it taken out
abbrev pub without : ℕ → List ℕ → List ℕ
without n [] = []
without n (m ∷ ms) = if m == n then ms else m ∷ without n ms
