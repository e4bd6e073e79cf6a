-- A new map.
use Rattle.std.specs.Prelude.{◌≡◌, ◌≢◌, ◌+◌, ◌≤◌, ◌||◌, ℕ, zero, suc, Bool, true, false, nat_lt, List, Option, Some, None, IsSome, is_some, option_map, length, replicate}
use Rattle.std.specs.FinMap as map
use Rattle.std.specs.FinMap.{get-empty, len-empty}
use Rattle.std.proofs.Common.{refl, sym, ap, subst, cond, get_or, length-set, ltb-false, ltb-true, nat_cmp, ne_eqb, inl, inr, arith, ◌∙◌}
use Rattle.std.proofs.lemmas.Bool.{cases_eq, cases_lt, true≢false}
use Rattle.std.proofs.lemmas.List.{get_or-replicate, get_or_past, length-replicate}
use Rattle.std.proofs.lemmas.List.Folds.{sum_by-replicate}
use Rattle.std.proofs.lemmas.Option.{same_Some}
use Rattle.ctrie_map.specs.Vocabulary.{Writable, HandleState, first_world, HashKind, Refusal, Bounds, longest_life, run_from, State, first_heap, first_state, taken, handle_limit}
use Rattle.std.proofs.lemmas.List.FromFn.{length-range_with_len}
use Rattle.ctrie_map.specs.Beneath.map_worlds.proofs.First.{first_is_shown}
use Rattle.ctrie_map.specs.Beneath.proof_core.specs.Bounds.{AreInRange, RefusesBounds}
use Rattle.ctrie_map.specs.declared.errors.MapError.{MapError}
use Rattle.ctrie_map.specs.Beneath.proof_straight.specs.Resting.{IsOfRun}
use Rattle.proof_sizes.specs.Nodes.{HandlesUseSlots}
use Rattle.ctrie_map.specs.Cores.{IsCalm, LeavesRoom, reserve}
use Rattle.ctrie_map.specs.Beneath.map_worlds.specs.Worlds.{world_of}
use Rattle.ctrie_map.specs.declared.names.Name.{Name}
use Rattle.ctrie_map.specs.Maps.{AreSlots, IsNew, IsWhole, MapState, RefusesSizes, map_with}
use Rattle.ctrie_map.specs.Names.{AreNamesOf, NameTable, first_names, handles_under, how_many, name_at, shown_by}
use Rattle.ctrie_map.proofs.Named.{at_other, at_same, len_new, same_handles, shows, state_of}
use Rattle.ctrie_map.proofs.Renaming.{counted, found_set}
use Rattle.ctrie_map.specs.Performing.{of_refusal}

-- the first state takes two slots
free_first : (slots : ℕ) → 2 ≤ slots → length (first_heap slots).free + 2 ≡ slots
unfolding taken
free_first zero low = absurd (omega (arith, low))
free_first (suc zero) low = absurd (omega (arith, low))
free_first (suc (suc n)) low = let left = length-range_with_len 2 n in omega (arith, left)

-- ---- the first name

abbrev first_name : Name
first_name = record { core = 0; access = Writable }

abbrev no_names : List (Option Name)
no_names = replicate handle_limit None

none_in : (number : ℕ) → get_or no_names number None ≡ None
none_in number = elim (cases_lt number handle_limit) [
  | inl low ↦ get_or-replicate handle_limit number None None low
  | inr past ↦ get_or_past no_names number None (omega (arith, past, length-replicate {A = Option Name} handle_limit None))
]

one_named : how_many first_names ≡ 1
one_named =
    let more = counted no_names 0 (Some first_name) (omega arith) in
    let none = ap {B = ℕ} (λ o. cond (is_some o) 1 0) (none_in 0) in
    omega (arith, more, none, sum_by-replicate {X = Option Name} (λ o. cond (is_some o) 1 0) handle_limit None)

at_zero : name_at first_names 0 ≡ Some first_name
at_zero = found_set no_names 0 (Some first_name) (omega arith) 0

-- no other number has one
none_other : (number : ℕ) → number ≢ 0 → name_at first_names number ≡ None
none_other number other =
    found_set no_names 0 (Some first_name) (omega arith) number ∙ ap (λ b. cond b (Some first_name) (get_or no_names number None)) (ne_eqb number 0 other) ∙ none_in number

zero_alone : (number : ℕ) (name : Name) → name_at first_names number ≡ Some name → number ≡ 0
zero_alone number name at = elim (cases_eq number 0) [
  | inl same ↦ same
  | inr other ↦ cc (sym at ∙ none_other number other)
]

is_first_name : (number : ℕ) (name : Name) → name_at first_names number ≡ Some name → name ≡ first_name
is_first_name number name at = same_Some name first_name (sym at ∙ ap (name_at first_names) (zero_alone number name at) ∙ at_zero)

stands_by : (number : ℕ) (name : Name) → name_at first_names number ≡ Some name → map.get first_world name.core ≡ Some (state_of Writable map.empty)
stands_by number name at = ap (λ (n : Name). map.get first_world n.core) (is_first_name number name at) ∙ at_same map.empty 0 (state_of Writable map.empty)

-- no other handle is open in the core
first_alone : (core : ℕ) → IsSome (map.get first_world core) → core ≡ 0
first_alone core some = elim (cases_eq core 0) [
  | inl same ↦ same
  | inr other ↦ absurd (true≢false (sym some ∙ ap is_some (at_other map.empty 0 (state_of Writable map.empty) core other ∙ get-empty nat_cmp core)))
]

-- its handle is the first one
first_handles : handles_under first_names first_world ≡ first_world
first_handles = same_handles (handles_under first_names first_world) first_world (λ q. shows first_world first_names q ∙ elim (cases_eq q 0) [
  | inl same ↦
      ap (shown_by first_world) (ap (name_at first_names) same ∙ at_zero)
      ∙ ap (option_map (λ shown. state_of Writable shown.pairs)) (at_same map.empty 0 (state_of Writable map.empty))
      ∙ sym (ap (map.get first_world) same ∙ at_same map.empty 0 (state_of Writable map.empty))
  | inr other ↦
      ap (shown_by first_world) (none_other q other) ∙ sym (at_other map.empty 0 (state_of Writable map.empty) q other ∙ get-empty nat_cmp q)
])

module _ (slots : ℕ) (hash : HashKind) where
  abbrev sizes : Bounds
  sizes = record { slots = slots + reserve; actors = 1; hash = hash; steps = longest_life }

  first_room : HandlesUseSlots → IsOfRun (first_state sizes) → LeavesRoom (first_state sizes)
  unfolding first_state
  first_room uses run handle root e =
      let used = uses (first_state sizes) handle root run e in let free = free_first (slots + reserve) (omega arith) in omega (arith, used, free)

  first_calm : HandlesUseSlots → IsOfRun (first_state sizes) → IsCalm (first_state sizes)
  unfolding first_state
  first_calm uses run = record { one = refl; life = refl; rest = refl; clean = refl; room = first_room uses run }

  is_first : AreInRange sizes → world_of (first_state sizes) ≡ first_world
  unfolding run_from first_state
  is_first ok = first_is_shown sizes ok.0

  -- it has one name
  named : AreNamesOf first_world first_names
  named = record {
    stands = λ number name at. (map.empty, stands_by number name at);
    own = λ number other name same at by is. zero_alone number name at ∙ sym (zero_alone other same by);
    all = λ core some. (0, first_name, at_zero, sym (first_alone core some));
    many = one_named ∙ sym (len_new map.empty 0 (state_of Writable map.empty) (get-empty nat_cmp 0) ∙ ap (λ n. n + 1) (len-empty nat_cmp HandleState));
    size = length-set no_names 0 (Some first_name) ∙ length-replicate {A = Option Name} handle_limit None;
  }

  abbrev map_of : MapState
  map_of = map_with (first_state sizes) first_names

  first_new : AreInRange sizes → AreSlots slots → IsNew slots hash map_of
  unfolding run_from first_state
  first_new ok asked = (
    refl,
    refl,
    ap (handles_under first_names) (is_first ok) ∙ first_handles,
    refl,
    let free = free_first (slots + reserve) (omega arith) in let low = asked.0 in omega (arith, free, low),
  )

  first_whole : AreInRange sizes → HandlesUseSlots → IsOfRun (first_state sizes) → IsWhole map_of
  first_whole ok uses run = record { calm = first_calm uses run; named = subst (λ w. AreNamesOf w first_names) (sym (is_first ok)) named }

  same_map : (state : State) → state ≡ first_state sizes → (names : NameTable) → names ≡ first_names → map_with state names ≡ map_of
  same_map state is names same = ap (λ s. map_with s names) is ∙ ap (map_with (first_state sizes)) same

  pub whole : (state : State) → state ≡ first_state sizes → AreInRange sizes → HandlesUseSlots → IsOfRun state → (names : NameTable) → names ≡ first_names →
      IsWhole (map_with state names)
  whole state is ok uses run names same = subst IsWhole (sym (same_map state is names same)) (first_whole ok uses (subst IsOfRun is run))

  pub is_new : (state : State) → state ≡ first_state sizes → AreInRange sizes → AreSlots slots → (names : NameTable) → names ≡ first_names → IsNew slots hash (map_with state names)
  is_new state is ok asked names same = subst (IsNew slots hash) (sym (same_map state is names same)) (first_new ok asked)

  pub refuses : AreSlots slots → (why : Refusal) (told : MapError) → told ≡ of_refusal why → RefusesBounds sizes why → RefusesSizes slots told
  refuses asked why told e (inl (bad, is)) =
      let low = asked.0 in let high = asked.1 in absurd (bad ((omega (arith, low), omega arith, omega arith), omega arith, omega arith, omega (arith, high)))
  refuses asked why told e (inr (ok, is)) = inr (asked, e ∙ ap of_refusal is)

-- ---- how many slots may be asked for

abbrev pub is_no_size : ℕ → Bool
is_no_size slots = nat_lt slots 3 || nat_lt 1000000 slots

pub in_range : (slots : ℕ) → is_no_size slots ≡ false → AreSlots slots
in_range slots e = by_low (nat_lt slots 3) refl
  where
    by_low : (b : Bool) → nat_lt slots 3 ≡ b → AreSlots slots
    by_low true low = absurd (true≢false (sym (ap (λ b. b || nat_lt 1000000 slots) low) ∙ e))
    by_low false low = (ltb-false slots 3 low, ltb-false 1000000 slots (sym (ap (λ b. b || nat_lt 1000000 slots) low) ∙ e))

pub out_of_range : (slots : ℕ) → is_no_size slots ≡ true → ¬ AreSlots slots
out_of_range slots e = λ ok. by_low ok (nat_lt slots 3) refl
  where
    by_low : AreSlots slots → (b : Bool) → nat_lt slots 3 ≡ b → ⊥
    by_low ok true low = let few = ltb-true slots 3 low in let least = ok.0 in omega (arith, few, least)
    by_low ok false low =
        let many = ltb-true 1000000 slots (sym (ap (λ b. b || nat_lt 1000000 slots) low) ∙ e) in let most = ok.1 in omega (arith, many, most)
