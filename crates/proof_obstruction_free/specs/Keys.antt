-- The programs of a call on one key on a writable handle, where one actor alone takes steps: how many steps each part takes, and what it leaves.
use Rattle.std.specs.Prelude.{◌≡◌, ℕ, suc, ◌+◌, ◌-◌, ◌*◌, ◌<◌, ◌≤◌, ◌⊎◌, ◌&&◌, Bool, true, false, List, ◌∷◌, ◌++◌, length, slice_index_or, Option, Some, []}
use Rattle.arrayvec.specs.ArrayVec.{ArrayVec}
use Rattle.proof_obstruction_free.specs.Vocabulary.{hash_of, position_of, Call, Clear, Snapshot, Freeze, Close, Entries, Count, Ref, Node, Indirection, Branch, Single, Tomb, no_ref, entries_of}
use Rattle.proof_obstruction_free.specs.Vocabulary.{bitmap_of, has_flag, flag_of, BuildLine, ClimbLine, CleanLine, RenewLine, key_of, going_down, new_try, is_single, current, depth_of}
use Rattle.proof_obstruction_free.specs.Vocabulary.{is_below_root, reading, swapping, renewed, contracted, build_path, main_of_build, renew_path}
use Rattle.proof_obstruction_free.specs.Beneath.machine_model.specs.declared.finding.KeyLine.TheVariants as key
use Rattle.proof_obstruction_free.specs.Beneath.machine_model.specs.declared.lines.Line.TheVariants as line
use Rattle.proof_obstruction_free.specs.Beneath.machine_model.specs.declared.lines.Purpose.TheVariants as purpose
use Rattle.proof_obstruction_free.specs.Beneath.machine_model.specs.declared.repairs.CleanLine.TheVariants as clean
use Rattle.proof_obstruction_free.specs.Beneath.machine_model.specs.declared.repairs.RenewLine.TheVariants as renew
use Rattle.proof_obstruction_free.specs.Alone.{Lone, Stands, Has, Keeps, WordStays, IsCurrent, Within, node}

-- a call on one key
abbrev pub IsOnKey : Call → Type 0
IsOnKey (Clear h) = ⊥
IsOnKey (Snapshot h) = ⊥
IsOnKey (Freeze h) = ⊥
IsOnKey (Close h) = ⊥
IsOnKey (Entries h) = ⊥
IsOnKey (Count h) = ⊥
IsOnKey call = Unit {0}

module _ (a : Lone) where
  -- the flag of the call's key at a depth
  abbrev pub flag_at : ℕ → ℕ
  flag_at depth = flag_of (hash_of a.limits.hash (key_of a.own.call)) depth

  -- the entry of a branch for the call's key at this depth
  abbrev pub entry_for : ℕ → List Ref → ℕ → Ref
  entry_for bitmap entries depth = slice_index_or entries (position_of (flag_at depth) bitmap) no_ref

  -- a main node at this depth leads on to this indirection
  pub record Leads (depth : ℕ) (main below : Ref) : Type 0 where
    pub bitmap : ℕ
    pub entries : ArrayVec Ref
    pub branch : node a main ≡ Branch bitmap entries
    pub flagged : has_flag bitmap (flag_at depth) ≡ true
    pub entry : entry_for bitmap entries.items depth ≡ below

  -- this indirection is of that generation
  abbrev pub IsOf : Ref → ℕ → Type 0
  IsOf i g = (m : Ref) × (node a i ≡ Indirection g m)

  -- the main node at this depth leads on to no indirection: the key's path ends there
  abbrev pub IsEnd : ℕ → Ref → Type 0
  IsEnd depth main = (below : Ref) (g : ℕ) → Leads depth main below → IsOf below g → ⊥

  -- Before step t the key's path leads from this root through these indirections, all of this generation: each but the last has a decided main node that
  -- leads on to the next.
  pub record Chain (t : ℕ) (r : Ref) (g : ℕ) (path : List Ref) : Type 0 where
    pub long : 1 ≤ length path
    pub first : slice_index_or path 0 no_ref ≡ r
    pub own : (k : ℕ) → k < length path → IsOf (slice_index_or path k no_ref) g
    pub links : (k : ℕ) → suc k < length path → (m : Ref) × Has a t (slice_index_or path k no_ref) m × Leads k m (slice_index_or path (suc k) no_ref)

  -- and there it ends
  pub record Ended (t : ℕ) (r : Ref) (g : ℕ) (path : List Ref) (main : Ref) : Type 0 where
    pub chain : Chain t r g path
    pub has : Has a t (current path) main
    pub ends : IsEnd (depth_of path) main

  -- a new indirection or an old one of this generation, or a single
  abbrev pub IsRenewed : ℕ → Ref → Type 0
  IsRenewed g entry = IsOf entry g ⊎ ((k : ℕ) × (v : ℕ) × (node a entry ≡ Single k v))

  -- the main node of each is for the entry of the same number: the tomb's single where that is a tombed indirection, else the very entry
  abbrev pub IsCleaned : ℕ → Ref → Ref → Type 0
  IsCleaned u entry done =
      ((m : Ref) (single : Ref) → Has a u entry m → node a m ≡ Tomb single → done ≡ single)
      × ((done ≡ entry) ⊎ ((k : ℕ) × (v : ℕ) × (node a done ≡ Single k v)))

  -- one single alone is left
  abbrev pub leaves_single : List Ref → Bool
  leaves_single (entry ∷ []) = is_single (node a entry)
  leaves_single entries = false

  -- the node is no tomb
  abbrev pub IsNoTomb : Node → Type 0
  IsNoTomb (Tomb single) = ⊥
  IsNoTomb n = Unit {0}

  module _ (weight : ℕ → ℕ) (c : ℕ) where
    abbrev W : (ℕ → Type 0) → ℕ → ℕ → Type 0
    W = Within a weight

    -- ---- RENEW

    -- RENEW comes to the SWAP of the branch in which each entry that wasn't done yet is renewed
    pub record IsRenewing (t g : ℕ) (path : List Ref) (main : Ref) (from : ℕ) (u : ℕ) : Type 0 where
      pub fresh : Ref
      pub stands : Stands a u (Some g) (line.Swap (purpose.Renew path) (swapping (current path) main fresh))
      pub done : List Ref
      pub same_length : length done ≡ length (entries_of (node a main))
      pub branch : node a fresh ≡ renewed (bitmap_of (node a main)) done
      pub each : (k : ℕ) → from ≤ k → k < length done → IsRenewed g (slice_index_or done k no_ref)
      pub keeps : Keeps a t u
      pub word : WordStays a t u

    abbrev pub RenewsFrom : Type 0
    RenewsFrom =
        (path : List Ref) (main : Ref) (done : List Ref) (t g left : ℕ) → Stands a t (Some g) (line.Renew (renew.Entry path main done)) →
        length done + left ≡ length (entries_of (node a main)) → W (IsRenewing t g path main (length done)) (left * (c + 2) + 2) t

    -- the same from a RENEW without entries
    abbrev pub RenewsBranch : Type 0
    RenewsBranch =
        (path : List Ref) (main : Ref) (done : List Ref) (t g : ℕ) → Stands a t (Some g) (line.Renew (renew.Branch path main done)) →
        W (IsRenewing t g path main (length done)) 2 t

    -- from any line of RENEW
    pub record WasRenewing (path : List Ref) (g : Option ℕ) (u : ℕ) : Type 0 where
      pub main : Ref
      pub fresh : Ref
      pub stands : Stands a u g (line.Swap (purpose.Renew path) (swapping (current path) main fresh))

    abbrev pub RenewsOn : Type 0
    RenewsOn =
        (l : RenewLine) (t g : ℕ) → Stands a t (Some g) (line.Renew l) → W (WasRenewing (renew_path l) (Some g)) (32 * (c + 2) + 10) t

    -- ---- CLEAN

    pub record IsContracted (g : Option ℕ) (path : List Ref) (main : Ref) (done : List Ref) (u : ℕ) : Type 0 where
      pub fresh : Ref
      pub stands : Stands a u g (line.Swap purpose.Clean (swapping (current path) main fresh))
      pub branch : node a fresh ≡ contracted (is_below_root path && leaves_single done) (bitmap_of (node a main)) done

    -- CLEAN comes to a new try, where no entry changes, or to the SWAP of a main node with these entries
    pub record IsCleaning (t : ℕ) (g : Option ℕ) (path : List Ref) (main : Ref) (from : ℕ) (u : ℕ) : Type 0 where
      pub done : List Ref
      pub same_length : length done ≡ length (entries_of (node a main))
      pub each : (k : ℕ) → from ≤ k → k < length done → IsCleaned u (slice_index_or (entries_of (node a main)) k no_ref) (slice_index_or done k no_ref)
      pub so : (Stands a u g new_try × (done ≡ entries_of (node a main))) ⊎ IsContracted g path main done u
      pub keeps : Keeps a t u
      pub word : WordStays a t u

    -- Where the operation's root is the handle's, and the key's path ends in a tomb below: CLEAN puts an end to the path one level higher. That end is
    -- another tomb only where the branch had that one entry.
    pub record IsCleanedUp (r : Ref) (g : ℕ) (path : List Ref) (entries u : ℕ) : Type 0 where
      pub main : Ref
      pub stands : Stands a u (Some g) new_try
      pub current_root : IsCurrent a u r (Some g)
      pub ended : Ended u r g path main
      pub alone : (IsNoTomb (node a main) → ⊥) → entries ≡ 1

    abbrev pub CleansCurrent : Type 0
    CleansCurrent =
        (path : List Ref) (r main below tomb single : Ref) (t g : ℕ) → Stands a t (Some g) (line.Clean (clean.Read path (reading (current path)))) → IsCurrent a t r (Some g) →
        Chain t r g path → Has a t (current path) main → Leads (depth_of path) main below → IsOf below g → Has a t below tomb → node a tomb ≡ Tomb single →
        (entries : ℕ) × (entries ≤ 32) × W (IsCleanedUp r g path entries) (c + 8 + entries * (c + 2)) t

    -- from any line CLEAN comes to a new try
    abbrev pub CleansOn : Type 0
    CleansOn = (l : CleanLine) (t : ℕ) (g : Option ℕ) → Stands a t g (line.Clean l) → W (λ u. Stands a u g new_try) (33 * (c + 2) + 20) t

    -- ---- a change of the key

    -- BUILD comes to the SWAP of the changed main node
    pub record IsBuilt (t : ℕ) (g : Option ℕ) (path : List Ref) (main : Ref) (u : ℕ) : Type 0 where
      pub fresh : Ref
      pub former : Option ℕ
      pub stands : Stands a u g (line.Swap (purpose.Update path former) (swapping (current path) main fresh))
      pub keeps : Keeps a t u
      pub word : WordStays a t u

    abbrev pub BuildsOn : Type 0
    BuildsOn = (l : BuildLine) (t : ℕ) (g : Option ℕ) → Stands a t g (line.Build l) → W (IsBuilt t g (build_path l) (main_of_build l)) 30 t

    abbrev pub ClimbsOn : Type 0
    ClimbsOn = (l : ClimbLine) (t : ℕ) (g : Option ℕ) → Stands a t g (line.Climb l) → W (λ u. ⊥) (14 * (c + 12) + 3 * c + 40) t

    -- ---- KEY, where the operation's root is the handle's

    -- from where the key's path ends, in no tomb, the operation ends
    abbrev pub BottomEnds : Type 0
    BottomEnds =
        (path : List Ref) (r main : Ref) (t g : ℕ) → Stands a t (Some g) (line.Key (key.Main path main)) → IsCurrent a t r (Some g) → Has a t (current path) main →
        IsEnd (depth_of path) main → IsNoTomb (node a main) → W (λ u. ⊥) (14 * (c + 12) + 80) t

    -- a level further down, or the end of the key's path
    pub record IsDown (r : Ref) (g : ℕ) (path : List Ref) (u : ℕ) : Type 0 where
      pub below : Ref
      pub stands : Stands a u (Some g) (going_down path below)
      pub current_root : IsCurrent a u r (Some g)
      pub chain : Chain u r g (path ++ below ∷ [])

    pub record IsBottom (r : Ref) (g : ℕ) (path : List Ref) (u : ℕ) : Type 0 where
      pub main : Ref
      pub stands : Stands a u (Some g) (line.Key (key.Main path main))
      pub current_root : IsCurrent a u r (Some g)
      pub ended : Ended u r g path main

    abbrev pub GoesDown : Type 0
    GoesDown =
        (path : List Ref) (r : Ref) (t g : ℕ) → Stands a t (Some g) (line.Key (key.Read path (reading (current path)))) → IsCurrent a t r (Some g) → Chain t r g path →
        W (λ u. IsDown r g path u ⊎ IsBottom r g path u) (34 * (c + 2) + 10) t

    -- a whole pass; the path has 14 indirections at most
    abbrev pub PassEnds : Type 0
    PassEnds =
        (path : List Ref) (r : Ref) (t g : ℕ) → Stands a t (Some g) (line.Key (key.Read path (reading (current path)))) → IsCurrent a t r (Some g) → Chain t r g path →
        W (λ u. (to : List Ref) × IsBottom r g to u) ((15 - length path) * (34 * (c + 2) + 10)) t

    -- a pass along a path that is known comes to its main node
    abbrev pub PassAlong : Type 0
    PassAlong =
        (path : List Ref) (r main : Ref) (t g : ℕ) → Stands a t (Some g) new_try → IsCurrent a t r (Some g) → Ended t r g path main →
        W (λ u. (bottom : IsBottom r g path u) × (bottom.main ≡ main)) (1 + length path * (c + 2)) t
