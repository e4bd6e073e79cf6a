-- A call on one key, where one actor alone takes steps: what the pass that was under way as it was left alone spares the first fresh pass.
use Rattle.std.specs.Prelude.{◌≡◌, ℕ, suc, ◌+◌, ◌-◌, ◌*◌, ◌<◌, ◌≤◌, List, length, slice_index_or, Some}
use Rattle.proof_obstruction_free.specs.Vocabulary.{Writable, Ref, no_ref, new_try, current, depth_of}
use Rattle.proof_obstruction_free.specs.Beneath.machine_model.specs.declared.finding.KeyLine.TheVariants as key
use Rattle.proof_obstruction_free.specs.Beneath.machine_model.specs.declared.lines.Line.TheVariants as line
use Rattle.proof_obstruction_free.specs.Alone.{Lone, Stands, Has, Keeps, IsCurrent, Within}
use Rattle.proof_obstruction_free.specs.Bounds.{level_most, tombs_most}
use Rattle.proof_obstruction_free.specs.Keys.{Chain, IsBottom, IsOf, Leads}

-- ---- both passes together

-- from the first level that the inherited pass renewed to the end: each further level is renewed in it or in the fresh pass after it
abbrev pub once_most : ℕ → ℕ
once_most c = 14 * level_most c + (46 * (c + 2) + 10 + tombs_most c 13)

-- with that level, or where it comes to a new try with its first RENEW or none
abbrev pub first_most : ℕ → ℕ
first_most c = 34 * (c + 2) + 60 + once_most c

-- from any line
abbrev pub fine_most : ℕ → ℕ
fine_most c = 32 * (c + 2) + 22 + (14 * (c + 2) + first_most c)

module _ (a : Lone) where
  -- ---- no level is older

  -- From step t on, as long as main nodes stay, the key's path leads from this root through this generation alone, for so many levels.
  abbrev pub NoneOlder : ℕ → ℕ → Ref → ℕ → Type 0
  NoneOlder n t r g =
      (u : ℕ) → t ≤ u → u ≤ a.last → Keeps a t u → (path : List Ref) (main below : Ref) (h : ℕ) → Chain a u r g path → length path ≤ n → Has a u (current path) main →
      Leads a (depth_of path) main below → IsOf a below h → h ≡ g

  -- the k-th indirection of this path has a decided main node that leads on to the next one, which is of this generation
  pub record IsLinked (t g k : ℕ) (path : List Ref) : Type 0 where
    pub main : Ref
    pub has : Has a t (slice_index_or path k no_ref) main
    pub leads : Leads a k main (slice_index_or path (suc k) no_ref)
    pub own : IsOf a (slice_index_or path (suc k) no_ref) g

  -- An operation that stands at the end of its path went along that path. Where it is linked behind the k-th indirection no level down to there is older.
  abbrev pub LinkedIsNotOlder : Type 0
  LinkedIsNotOlder =
      a.own.access ≡ Writable → (path : List Ref) (main r : Ref) (t u g k : ℕ) → Stands a t (Some g) (line.Key (key.Main path main)) → IsCurrent a t r (Some g) → t ≤ u → u ≤ a.last →
      suc k < length path → IsLinked u g k path → NoneOlder (suc k) u r g

  module _ (weight : ℕ → ℕ) (c : ℕ) where
    abbrev W : (ℕ → Type 0) → ℕ → ℕ → Type 0
    W = Within a weight

    -- ---- a fresh pass of which so many levels are known

    abbrev pub known_most : ℕ → ℕ
    known_most n = 1 + n * (c + 2) + (14 - n) * (34 * (c + 2) + 10)

    abbrev pub PassKnown : Type 0
    PassKnown =
        (n : ℕ) (r : Ref) (t g : ℕ) → n ≤ 13 → Stands a t (Some g) new_try → IsCurrent a t r (Some g) → NoneOlder n t r g → W (λ u. (to : List Ref) × IsBottom a weight c r g to u) (known_most n) t

    -- ---- a call on one key, on a writable handle, ends

    abbrev pub FineEnds : Type 0
    FineEnds = W (λ u. ⊥) (fine_most c) a.start
