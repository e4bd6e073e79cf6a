-- What all shards count, from what each does.
use Rattle.std.proofs.Common.{◌≡◌, ℕ, ◌+◌, ◌*◌, ◌^◌, ◌<◌}
use Rattle.std.proofs.Common.{Bool, true, false, ◌||◌, List, [], ◌∷◌, length, Option, Some, None}
use Rattle.std.proofs.Common.{Ok, Err, refl, sym, ap, ap₂, subst, ◌∙◌, arith, length-append, suc-mul}
use Rattle.std.specs.FinMap as maps
use Rattle.std.specs.List.{list_any}
use Rattle.std.proofs.lemmas.List.Sums.{sum_by-cons}
use Rattle.shared_map.specs.Vocabulary.{Call, HandleState}
use Rattle.ctrie_map.specs.declared.errors.MapError.{MapError}
use Rattle.ctrie_map.specs.Maps.{MapState, free_of, handles_of}
use Rattle.ctrie_map.specs.Reading.{read_of}
use Rattle.ctrie_map.specs.Sharding.{may_lack_slots}
use Rattle.shared_map.specs.Asking.{Measures, is_worn_out_for}
use Rattle.shared_map.specs.Shards.{free_of_all, worlds_of}
use Rattle.shared_map.specs.Summing.{Counts, Frees}
use Rattle.shared_map.specs.Turning.{HasTurned, HaveTurned, IsDue, Turns}
use Rattle.shared_map.specs.Uniting.{pairs_at, pairs_of}
use Rattle.shared_map.specs.Visits.{VisitedEach}
use Rattle.shared_map.specs.declared.asking.Measuring.{Measuring}
use Rattle.shared_map.specs.declared.reading.Counting.{Counting}
use Rattle.shared_map.specs.declared.reading.Freeing.{Freeing}
use Rattle.shared_map.specs.declared.turning.Turn.{Turn}
use Rattle.shared_map.specs.declared.turning.Turning.{Turning}

-- a count that is read is that of the pairs; where none is read there are no pairs
pub counted_pairs : (o : Option HandleState) (keys : ℕ) → read_of (λ m. maps.len m) o ≡ Ok keys → keys ≡ length (pairs_of o)
counted_pairs None keys e = cc
counted_pairs (Some shown) keys e = let same : keys ≡ maps.len shown.pairs = cc in same ∙ maps.len-entries shown.pairs

pub no_pairs : (o : Option HandleState) (why : MapError) → read_of (λ m. maps.len m) o ≡ Err why → length (pairs_of o) ≡ 0
no_pairs None why e = refl
no_pairs (Some shown) why e = cc

-- ---- counted

pub counted_all : (before after : Counting) (ss ts : List MapState) → VisitedEach Counts before ss after ts →
    (ts ≡ ss) × (before.keys + length ss * 2 ^ 32 < 2 ^ 64 → after.keys ≡ before.keys + length (pairs_at before.handle (worlds_of ss)))
counted_all before after [] [] each = (refl, λ small. ap (λ (l : Counting). l.keys) each ∙ omega arith)
counted_all before after [] (t ∷ ts) each = absurd each
counted_all before after (s ∷ ss) [] each = absurd each
counted_all before after (s ∷ ss) (t ∷ ts) (between, did, each) =
    let (same, more) = counted_all between after ss ts each in (
      ap₂ (λ x xs. x ∷ xs) did.0 same,
      λ small.
          let both = length-append (pairs_of (maps.get (handles_of s) before.handle)) (pairs_at before.handle (worlds_of ss)) in
          let there = ap (λ h. length (pairs_at h (worlds_of ss))) did.1 in
          let many = suc-mul (length ss) (2 ^ 32) in
          let now = did.2 in
          let few = did.3 in
          let rest = more (omega (arith, small, many, now, few)) in
          omega (arith, rest, now, few, both, there, small, many),
    )

-- ---- free slots

pub freed : (before after : Freeing) (ss ts : List MapState) → VisitedEach Frees before ss after ts →
    (ts ≡ ss) × (before.slots + length ss * 2 ^ 32 < 2 ^ 64 → after.slots ≡ before.slots + free_of_all ss)
freed before after [] [] each = (refl, λ small. ap (λ (l : Freeing). l.slots) each ∙ omega arith)
freed before after [] (t ∷ ts) each = absurd each
freed before after (s ∷ ss) [] each = absurd each
freed before after (s ∷ ss) (t ∷ ts) (between, did, each) =
    let (same, more) = freed between after ss ts each in (
      ap₂ (λ x xs. x ∷ xs) did.0 same,
      λ small.
          let sum = sum_by-cons free_of s ss in
          let many = suc-mul (length ss) (2 ^ 32) in
          let now = did.1 in
          let few = did.2 in
          let rest = more (omega (arith, small, many, now, few)) in
          omega (arith, rest, now, few, sum, small, many),
    )

-- ---- measured

-- one of these may have no slots for the call
abbrev pub is_any_tight : Call → List MapState → Bool
is_any_tight call shards = list_any (may_lack_slots call) shards

or_assoc : (a b c : Bool) → ((a || b) || c) ≡ (a || (b || c))
or_assoc true b c = refl
or_assoc false b c = refl

or_none : (a : Bool) → (a || false) ≡ a
or_none true = refl
or_none false = refl

pub measured : (before after : Measuring) (ss ts : List MapState) → VisitedEach Measures before ss after ts →
    (ts ≡ ss) × (after.is_worn_out ≡ (before.is_worn_out || list_any (is_worn_out_for before.restores) ss)) × (after.is_tight ≡ (before.is_tight || is_any_tight before.call ss))
measured before after [] [] each = (
  refl,
  ap (λ (l : Measuring). l.is_worn_out) each ∙ sym (or_none before.is_worn_out),
  ap (λ (l : Measuring). l.is_tight) each ∙ sym (or_none before.is_tight),
)
measured before after [] (t ∷ ts) each = absurd each
measured before after (s ∷ ss) [] each = absurd each
measured before after (s ∷ ss) (t ∷ ts) (between, did, each) =
    let (same, worn, tight) = measured between after ss ts each in (
      ap₂ (λ x xs. x ∷ xs) did.0 same,
      worn ∙ ap₂ (λ b r. b || list_any (is_worn_out_for r) ss) did.3 did.2
          ∙ or_assoc before.is_worn_out (is_worn_out_for before.restores s) (list_any (is_worn_out_for before.restores) ss),
      tight ∙ ap₂ (λ b c. b || is_any_tight c ss) did.4 did.1 ∙ or_assoc before.is_tight (may_lack_slots before.call s) (is_any_tight before.call ss),
    )

-- ---- turned

-- nothing stands in the way of any
abbrev pub AreDue : Turn → List MapState → Type 0
AreDue turn [] = Unit {0}
AreDue turn (s ∷ ss) = IsDue turn s × AreDue turn ss

pub turned_each : (turn : Turn) (before after : Turning) (ss ts : List MapState) → before.turn ≡ turn → VisitedEach Turns before ss after ts → AreDue turn ss →
    HaveTurned turn ss ts
turned_each turn before after [] [] is each due = tt
turned_each turn before after [] (t ∷ ts) is each due = absurd each
turned_each turn before after (s ∷ ss) [] is each due = absurd each
turned_each turn before after (s ∷ ss) (t ∷ ts) is (between, did, each) due = (
  subst (λ u. HasTurned u s t) is (did.1 (subst (λ u. IsDue u s) (sym is) due.0)),
  turned_each turn between after ss ts (ap (λ (v : Turning). v.turn) did.0 ∙ is) each due.1,
)
