-- A chain through links: each link leads to the next slot of the chain, and the last one to the end.
use Rattle.std.specs.Prelude.{◌≡◌, ℕ, ◌<◌, Bool, List, [], ◌∷◌, slice_index}
use Rattle.slot_arena.specs.Times.{times}

-- links by number
pub record Linked : Type 0 where
  pub words : List ℕ
  -- how often one was read or written
  pub ticks : ℕ

-- flags by number
pub record Flagged : Type 0 where
  pub marks : List Bool
  -- how often one was read or written
  pub ticks : ℕ

pub record Chain : Type 0 where
  -- the slots of the chain, the first one first
  pub slots : List ℕ
  -- slots are below this number
  pub size : ℕ
  -- how often a link was read or written
  pub ticks : ℕ

-- from this link the chain leads through these slots, each once, to the end
abbrev pub LeadsTo : List ℕ → ℕ → ℕ → List ℕ → Type 0
LeadsTo links end from [] = slice_index links from ≡ end
LeadsTo links end from (slot ∷ slots) = (slice_index links from ≡ slot) × (slot < end) × (times slot slots ≡ 0) × LeadsTo links end slot slots
