-- What is told of a core at rest by walks over it is what the finite maps say.
use Rattle.std.specs.Prelude.{◌≡◌, ◌⊎◌, ◌≤◌, ℕ, nat_eq, length, Bool, true, false, List, Contains, Option, Some, None, Ok, Err, IsOk, IsSome, is_some, is_none, not}
use Rattle.std.specs.FinMap as map
use Rattle.std.specs.List.{filter}
use Rattle.std.specs.Ordering.{nat_cmp}
use Rattle.std.proofs.lemmas.List.{length-take}
use Rattle.std.proofs.Common.{refl, sym, ap, subst, inl, inr, eq-eqb, eqb-true, arith, ◌∙◌}
use Rattle.ctrie_map.specs.Vocabulary.{sorted_by, HashKind, Refusal, HandleState, KeyMap, content_at, State, root_at}
use Rattle.machine_core.specs.Comparing.{AreDifferences, RefusesEither}
use Rattle.machine_core.specs.declared.differing.Difference.{Difference}
use Rattle.machine_core.specs.Finding.{found_along}
use Rattle.ctrie_map.specs.Beneath.proof_core.specs.Reading as core
use Rattle.ctrie_map.specs.Beneath.proof_core.specs.Scanning.{is_behind, scan_order, scanned}
use Rattle.ctrie_map.specs.Beneath.proof_core.proofs.Found.{found_there}
use Rattle.ctrie_map.specs.Beneath.proof_contents.proofs.Values.Crowds.{sorted_distinct}
use Rattle.ctrie_map.specs.Beneath.proof_straight.specs.Resting.{IsOfRun}
use Rattle.ctrie_map.specs.declared.errors.MapError.{MapError}
use Rattle.ctrie_map.specs.declared.errors.MapError.TheVariants as error
use Rattle.ctrie_map.specs.Beneath.map_worlds.specs.Worlds.{world_of}
use Rattle.ctrie_map.specs.Maps.{MapState}
use Rattle.ctrie_map.specs.Performing.{of_refusal}
use Rattle.ctrie_map.specs.Reading.{ComparesOf, IsOneOf, Reads, ReadsOf, RefusesComparingOf, core_reading, read_of, reading}
use Rattle.ctrie_map.proofs.Lookups.{closed, entries_read, len_by, mapped, mapped_by, same_told, value_read}

-- ---- one pair

one_in : (m : KeyMap) (pairs : List (ℕ × ℕ)) (first : Option (ℕ × ℕ)) → map.entries m ≡ pairs → core.IsOneOf pairs first → IsOneOf m first
one_in m pairs None same none = map.empty_of_len m (map.len-entries m ∙ ap length (same ∙ none))
one_in m pairs (Some pair) same there =
    map.get-entries m pair.0
    ∙ found_there (map.entries m) pair.0 pair.1 (sorted_distinct (map.entries m) (map.entries_sorted m)) (subst (λ ps. Contains ps pair) (sym same) there)

one_by : (shown : Option HandleState) (pairs : List (ℕ × ℕ)) (first : Option (ℕ × ℕ)) → read_of (λ m. map.entries m) shown ≡ Ok pairs → core.IsOneOf pairs first →
    (m : KeyMap) × (read_of (λ s. s) shown ≡ Ok m) × IsOneOf m first
one_by None pairs first e one = absurd (cc e)
one_by (Some shown) pairs first e one = (shown.pairs, refl, one_in shown.pairs pairs first (cc e) one)

-- whether there is one tells whether the map is empty
counts_none : (m : KeyMap) (first : Option (ℕ × ℕ)) → IsOneOf m first → nat_eq (map.len m) 0 ≡ is_none first
counts_none m None none = eq-eqb (map.len m) 0 (ap map.len none ∙ map.len-empty nat_cmp ℕ)
counts_none m (Some pair) there = by_test (nat_eq (map.len m) 0) refl
  where
    by_test : (b : Bool) → nat_eq (map.len m) 0 ≡ b → b ≡ false
    by_test false e = refl
    by_test true e =
        absurd (cc (sym there ∙ ap (λ (n : KeyMap). map.get n pair.0) (map.empty_of_len m (eqb-true (map.len m) 0 e)) ∙ map.get-empty nat_cmp pair.0))

none_told : (first : Option (ℕ × ℕ)) (r : Bool) → is_some first ≡ not r → is_none first ≡ r
none_told first true e = ap not e
none_told first false e = ap not e

pub empty_read : (state : MapState) (h : ℕ) (first : Option (ℕ × ℕ)) (r : Bool) → is_some first ≡ not r → Reads state h IsOneOf (Ok first) →
    reading state h (λ m. nat_eq (map.len m) 0) ≡ Ok r
empty_read state h first r e (m, at, one) =
    mapped (λ (n : KeyMap). nat_eq (map.len n) 0) state h (λ s. s) m at ∙ ap Ok (counts_none m first one ∙ none_told first r e)

-- ---- the next pairs

pub few_next : (after : Option ℕ) (room : ℕ) (pairs part : List (ℕ × ℕ)) → part ≡ core.next_of after room pairs → length part ≤ room
few_next after room pairs part is =
    let most = length-take room (filter (λ (pair : ℕ × ℕ). core.is_after after pair.0) pairs) in
    let same : length part ≡ length (core.next_of after room pairs) = ap length is in
    omega (arith, most, same)

pub few_scanned : (kind : HashKind) (after : Option ℕ) (room : ℕ) (pairs part : List (ℕ × ℕ)) → part ≡ scanned kind after room pairs → length part ≤ room
few_scanned kind after room pairs part is =
    let most = length-take room (filter (λ (pair : ℕ × ℕ). is_behind kind after pair.0) (sorted_by (scan_order kind) pairs)) in
    let same : length part ≡ length (scanned kind after room pairs) = ap length is in
    omega (arith, most, same)

-- ---- of a core

shown_map : (shown : Option HandleState) (pairs : List (ℕ × ℕ)) → read_of (λ m. map.entries m) shown ≡ Ok pairs → (m : KeyMap) × (read_of (λ s. s) shown ≡ Ok m)
shown_map None pairs e = absurd (cc e)
shown_map (Some shown) pairs e = (shown.pairs, refl)

module _ (state : State) (run : IsOfRun state) where
  pub counted : (h : ℕ) → IsSome (root_at state h) → core_reading state h (λ m. map.len m) ≡ Ok (length (content_at state h))
  counted h some = len_by (map.get (world_of state) h) (content_at state h) (entries_read state run h some)

  pub one_read : (h : ℕ) (first : Option (ℕ × ℕ)) → IsSome (root_at state h) → core.IsOneOf (content_at state h) first → ReadsOf (core_reading state h (λ s. s)) IsOneOf (Ok first)
  one_read h first some one = one_by (map.get (world_of state) h) (content_at state h) first (entries_read state run h some) one

  map_read : (h : ℕ) → IsSome (root_at state h) → (m : KeyMap) × (core_reading state h (λ s. s) ≡ Ok m)
  map_read h some = shown_map (map.get (world_of state) h) (content_at state h) (entries_read state run h some)

  looked_up : (h : ℕ) (some : IsSome (root_at state h)) → found_along state h ≡ map.get (map_read h some).0
  looked_up h some =
      let m = map_read h some in
      let each : (key : ℕ) → found_along state h key ≡ map.get m.0 key = λ key.
      same_told (core_reading state h (λ (n : KeyMap). map.get n key)) (found_along state h key) (map.get m.0 key) (value_read state run h key some)
      (mapped_by (λ (n : KeyMap). map.get n key) (map.get (world_of state) h) (λ s. s) m.0 m.1) in
      λ i key. each key i

  pub compares : (older newer : ℕ) (differences : List Difference) → IsSome (root_at state older) → IsSome (root_at state newer) →
      AreDifferences (found_along state older) (found_along state newer) differences →
      ComparesOf (core_reading state older (λ s. s)) (core_reading state newer (λ s. s)) differences
  compares older newer differences one other are =
      let m = map_read older one in
      let n = map_read newer other in (
        m.0,
        n.0,
        m.1,
        n.1,
        subst (λ f. AreDifferences f (map.get n.0) differences) (looked_up older one)
            (subst (λ g. AreDifferences (found_along state older) g differences) (looked_up newer other) are),
      )

  pub refuses_comparing : (older newer : ℕ) (why : Refusal) (told : MapError) → told ≡ of_refusal why → RefusesEither state older newer why →
      RefusesComparingOf (core_reading state older (λ s. s)) (core_reading state newer (λ s. s)) told
  refuses_comparing older newer why told e (inl (none, which)) = inl (e ∙ ap of_refusal none, by_handle which)
    where
      by_handle : (root_at state older ≡ None) ⊎ (root_at state newer ≡ None) →
          (core_reading state older (λ s. s) ≡ Err error.NoHandle) ⊎ (core_reading state newer (λ s. s) ≡ Err error.NoHandle)
      by_handle (inl at) = inl (closed state run older (λ s. s) at)
      by_handle (inr at) = inr (closed state run newer (λ s. s) at)
  refuses_comparing older newer why told e (inr (lacking, one, other)) =
      inr (e ∙ ap of_refusal lacking, subst IsOk (sym (map_read older one).1) refl, subst IsOk (sym (map_read newer other).1) refl)
