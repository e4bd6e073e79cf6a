-- The lines of a change of one key in a pass that was under way when its actor was left alone: each comes to a new try, or the operation ends.
use Rattle.std.specs.Prelude.{ℕ, ◌+◌, ◌*◌, List, Option, slice_index_or}
use Rattle.proof_obstruction_free.specs.Vocabulary.{Ref, no_ref, entries_of, BuildLine, Operation, Swap, Climb, absent, new_try}
use Rattle.proof_obstruction_free.specs.Beneath.machine_model.specs.declared.finding.KeyLine.TheVariants as key
use Rattle.proof_obstruction_free.specs.Beneath.machine_model.specs.declared.lines.Line.TheVariants as line
use Rattle.proof_obstruction_free.specs.Beneath.machine_model.specs.declared.lines.Purpose.TheVariants as purpose
use Rattle.proof_obstruction_free.specs.Alone.{Lone, Stands, Within, node}
use Rattle.proof_obstruction_free.specs.Keys.{IsOf}

module _ (a : Lone) (weight : ℕ → ℕ) (c : ℕ) where
  abbrev W : (ℕ → Type 0) → ℕ → ℕ → Type 0
  W = Within a weight

  -- a try begins
  abbrev pub Tries : Option ℕ → ℕ → Type 0
  Tries g u = Stands a u g new_try

  -- ---- SWAP

  -- from any line of a SWAP for a change of the key
  abbrev pub UpdatesOn : Type 0
  UpdatesOn =
      (path : List Ref) (former : Option ℕ) (s : Swap) (t : ℕ) (g : Option ℕ) → Stands a t g (line.Swap (purpose.Update path former) s) → W (Tries g) (14 * (c + 12) + c + 13) t

  -- a SWAP of CLIMB ends
  abbrev pub ClimbSwapsOn : Type 0
  ClimbSwapsOn = (x : Climb) (s : Swap) (t : ℕ) (g : Option ℕ) → Stands a t g (line.Swap (purpose.Climb x) s) → W (λ u. ⊥) (14 * (c + 12) + 3 * c + 40) t

  -- ---- BUILD

  abbrev pub BuildsAgain : Type 0
  BuildsAgain = (l : BuildLine) (t : ℕ) (g : Option ℕ) → Stands a t g (line.Build l) → W (Tries g) (14 * (c + 12) + 43) t

  -- ---- KEY, where its path ended

  -- behind a main node that has no place for the key
  abbrev pub AbsentAgain : Type 0
  AbsentAgain =
      (operation : Operation) (path : List Ref) (main : Ref) (t : ℕ) (g : Option ℕ) → Stands a t g (absent operation path main) → W (Tries g) (14 * (c + 12) + 43) t

  -- in a list, or in a tomb for a reader
  abbrev pub ListsAgain : Type 0
  ListsAgain = (path : List Ref) (main : Ref) (position t : ℕ) (g : Option ℕ) → Stands a t g (line.Key (key.Listed path main position)) → W (Tries g) (14 * (c + 12) + 76) t

  -- at the other entry of a branch of two
  abbrev pub SiblingsAgain : Type 0
  SiblingsAgain =
      (path : List Ref) (main : Ref) (position former t : ℕ) (g : Option ℕ) → Stands a t g (line.Key (key.Sibling path main position former)) → W (Tries g) (14 * (c + 12) + 44) t

  -- at an entry of a branch that is no indirection
  abbrev pub EntriesAgain : Type 0
  EntriesAgain =
      (path : List Ref) (main : Ref) (position t : ℕ) (g : Option ℕ) → Stands a t g (line.Key (key.Entry path main position)) →
      ((h : ℕ) → IsOf a (slice_index_or (entries_of (node a main)) position no_ref) h → ⊥) → W (Tries g) (14 * (c + 12) + 45) t
