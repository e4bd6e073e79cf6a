-- All shards visited, one after another.
use Rattle.std.specs.Prelude.{◌≡◌, List, [], ◌∷◌}

-- these have become those, and the visitor has seen each once, in their order
abbrev pub VisitedEach : {V O : Type 0} → (V → O → V → O → Type 0) → V → List O → V → List O → Type 0
VisitedEach does before [] after [] = after ≡ before
VisitedEach does before [] after (t ∷ ts) = ⊥
VisitedEach does before (s ∷ ss) after [] = ⊥
VisitedEach {V} does before (s ∷ ss) after (t ∷ ts) = (between : V) × does before s between t × VisitedEach does between ss after ts
