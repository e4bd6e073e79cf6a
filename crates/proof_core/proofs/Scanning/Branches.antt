-- What lies below the entries of a branch, place by place: before a place smaller indices, behind it greater ones.
use Rattle.std.proofs.Common.{◌≡◌, ℕ, zero, suc, ◌+◌, ◌<◌, ◌≤◌, Bool, false, List, [], ◌∷◌, ◌++◌, take, drop, Option, Some, None, refl, subst, arith}
use Rattle.std.specs.List.{flat_map}
use Rattle.std.proofs.lemmas.Option.{none-some}
use Rattle.proof_core.specs.Vocabulary.{Ref, at_place}
use Rattle.proof_core.specs.Beneath.ctrie_base.proofs.Sorting.{Rises}
use Rattle.proof_core.specs.Beneath.proof_contents.specs.Nodes.Branches.{standing}
use Rattle.proof_core.specs.Beneath.proof_contents.proofs.Nodes.Branches.{before}
use Rattle.proof_core.specs.Beneath.proof_contents.proofs.Pairs.Lists.{EachKey, Pairs, each-append, each-weaker}

-- ---- lists of pairs

-- what rises, and behind it what rises too and isn't before any of it
pub rises_append : (less : ℕ × ℕ → ℕ × ℕ → Bool) (P Q : ℕ → Type 0) → ((p q : ℕ × ℕ) → P p.0 → Q q.0 → less q p ≡ false) → (ps qs : Pairs) →
    EachKey P ps → EachKey Q qs → Rises less ps → Rises less qs → Rises less (ps ++ qs)
rises_append less P Q apart [] qs a b up other = other
rises_append less P Q apart (p ∷ []) [] a b up other = tt
rises_append less P Q apart (p ∷ []) (q ∷ qs) a b up other = (apart p q a.0 b.0, other)
rises_append less P Q apart (p ∷ r ∷ ps) qs a b up other = (up.0, rises_append less P Q apart (r ∷ ps) qs a.1 b up.1 other)

-- ---- places

module _ (below : Ref → Pairs) (index : ℕ → ℕ) (Keeps : ℕ → Type 0) where
  -- where the first of these places has this number, each key below an entry has the number of its place as its index, and keeps this
  abbrev pub StandApart : ℕ → List (Option Ref) → Type 0
  StandApart first places = (x : ℕ) (entry : Ref) → at_place places x ≡ Some entry → EachKey (λ key. (index key ≡ first + x) × Keeps key) (below entry)

  abbrev pub From : ℕ → ℕ → Type 0
  From first key = (first ≤ index key) × Keeps key

  abbrev pub Before : ℕ → ℕ → Type 0
  Before x key = (index key < x) × Keeps key

  abbrev pub Behind : ℕ → ℕ → Type 0
  Behind x key = (x < index key) × Keeps key

  rest_apart : (first : ℕ) (place : Option Ref) (places : List (Option Ref)) → StandApart first (place ∷ places) → StandApart (suc first) places
  rest_apart first place places apart x entry at =
      each-weaker (λ key. (index key ≡ first + suc x) × Keeps key) (λ key. (index key ≡ suc first + x) × Keeps key) (λ key h. (omega (arith, h.0), h.1)) (below entry) (apart (suc x) entry at)

  -- below all of them
  pub from_first : (first : ℕ) (places : List (Option Ref)) → StandApart first places → EachKey (From first) (flat_map below (standing places))
  from_first first [] apart = tt
  from_first first (None ∷ places) apart =
      each-weaker (From (suc first)) (From first) (λ key h. (omega (arith, h.0), h.1)) (flat_map below (standing places)) (from_first (suc first) places (rest_apart first None places apart))
  from_first first (Some entry ∷ places) apart =
      each-append (From first) (below entry) (flat_map below (standing places))
      (each-weaker (λ key. (index key ≡ first + zero) × Keeps key) (From first) (λ key h. (omega (arith, h.0), h.1)) (below entry) (apart zero entry refl))
      (each-weaker (From (suc first)) (From first) (λ key h. (omega (arith, h.0), h.1)) (flat_map below (standing places))
      (from_first (suc first) places (rest_apart first (Some entry) places apart)))

  -- below the entries before a place
  pub before_place : (first : ℕ) (places : List (Option Ref)) (x : ℕ) → StandApart first places →
      EachKey (Before (first + x)) (flat_map below (take (before places x) (standing places)))
  before_place first [] x apart = tt
  before_place first (place ∷ places) zero apart = tt
  before_place first (None ∷ places) (suc x) apart =
      each-weaker (Before (suc first + x)) (Before (first + suc x)) (λ key h. (omega (arith, h.0), h.1)) (flat_map below (take (before places x) (standing places)))
      (before_place (suc first) places x (rest_apart first None places apart))
  before_place first (Some entry ∷ places) (suc x) apart =
      let rest = flat_map below (take (before places x) (standing places)) in
      each-append (Before (first + suc x)) (below entry) rest
      (each-weaker (λ key. (index key ≡ first + zero) × Keeps key) (Before (first + suc x)) (λ key h. (omega (arith, h.0), h.1)) (below entry) (apart zero entry refl))
      (each-weaker (Before (suc first + x)) (Before (first + suc x)) (λ key h. (omega (arith, h.0), h.1)) rest
      (before_place (suc first) places x (rest_apart first (Some entry) places apart)))

  later : (first : ℕ) (place : Option Ref) (places : List (Option Ref)) → StandApart first (place ∷ places) → EachKey (Behind (first + zero)) (flat_map below (standing places))
  later first place places apart =
      each-weaker (From (suc first)) (Behind (first + zero)) (λ key h. (omega (arith, h.0), h.1)) (flat_map below (standing places))
      (from_first (suc first) places (rest_apart first place places apart))

  deeper : (first x : ℕ) (ps : Pairs) → EachKey (Behind (suc first + x)) ps → EachKey (Behind (first + suc x)) ps
  deeper first x ps each = each-weaker (Behind (suc first + x)) (Behind (first + suc x)) (λ key h. (omega (arith, h.0), h.1)) ps each

  -- below the entries behind that of a place
  pub behind_entry : (first : ℕ) (places : List (Option Ref)) (x : ℕ) (entry : Ref) → at_place places x ≡ Some entry → StandApart first places →
      EachKey (Behind (first + x)) (flat_map below (drop (before places x + 1) (standing places)))
  behind_entry first [] x entry at apart = absurd (none-some entry at)
  behind_entry first (None ∷ places) zero entry at apart = absurd (none-some entry at)
  behind_entry first (Some other ∷ places) zero entry at apart = later first (Some other) places apart
  behind_entry first (None ∷ places) (suc x) entry at apart =
      deeper first x (flat_map below (drop (before places x + 1) (standing places))) (behind_entry (suc first) places x entry at (rest_apart first None places apart))
  behind_entry first (Some other ∷ places) (suc x) entry at apart =
      let one_more : suc (before places x + 1) ≡ suc (before places x) + 1 = omega arith in
      subst (λ n. EachKey (Behind (first + suc x)) (flat_map below (drop n (other ∷ standing places)))) one_more
      (deeper first x (flat_map below (drop (before places x + 1) (standing places))) (behind_entry (suc first) places x entry at (rest_apart first (Some other) places apart)))

  -- and where none stands there, below those from there on
  pub behind_place : (first : ℕ) (places : List (Option Ref)) (x : ℕ) → at_place places x ≡ None → StandApart first places →
      EachKey (Behind (first + x)) (flat_map below (drop (before places x) (standing places)))
  behind_place first [] x at apart = tt
  behind_place first (None ∷ places) zero at apart = later first None places apart
  behind_place first (Some other ∷ places) zero at apart = absurd (let bad : Some other ≡ None = at in cc)
  behind_place first (None ∷ places) (suc x) at apart =
      deeper first x (flat_map below (drop (before places x) (standing places))) (behind_place (suc first) places x at (rest_apart first None places apart))
  behind_place first (Some other ∷ places) (suc x) at apart =
      deeper first x (flat_map below (drop (before places x) (standing places))) (behind_place (suc first) places x at (rest_apart first (Some other) places apart))

  -- all of it rises where what is below each entry does, and a smaller index comes first
  module _ (less : ℕ × ℕ → ℕ × ℕ → Bool) (parts : (p q : ℕ × ℕ) → index p.0 < index q.0 → Keeps p.0 → Keeps q.0 → less q p ≡ false) where
    pub standing_rises : (first : ℕ) (places : List (Option Ref)) → StandApart first places → ((x : ℕ) (entry : Ref) → at_place places x ≡ Some entry → Rises less (below entry)) →
        Rises less (flat_map below (standing places))
    standing_rises first [] apart rises = tt
    standing_rises first (None ∷ places) apart rises = standing_rises (suc first) places (rest_apart first None places apart) (λ x entry at. rises (suc x) entry at)
    standing_rises first (Some entry ∷ places) apart rises =
        rises_append less (λ key. (index key ≡ first + zero) × Keeps key) (From (suc first)) (λ p q h k. parts p q (omega (arith, h.0, k.0)) h.1 k.1) (below entry)
        (flat_map below (standing places)) (apart zero entry refl) (from_first (suc first) places (rest_apart first (Some entry) places apart)) (rises zero entry refl)
        (standing_rises (suc first) places (rest_apart first (Some entry) places apart) (λ x other at. rises (suc x) other at))
