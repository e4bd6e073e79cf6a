-- The map of shards that belong together.
use Rattle.std.proofs.Common.{◌≡◌, ℕ, Bool, true, false, cond, List, [], ◌∷◌, ◌++◌, Option, Some, None, nat_cmp, option_map}
use Rattle.std.proofs.Common.{sym, refl, ap, ap₂, ◌∙◌, arith}
use Rattle.std.specs.Ordering.{eq_by_cmp}
use Rattle.std.specs.FinMap as maps
use Rattle.shared_map.specs.Vocabulary.{HashKind, Writable, HandleState, KeyMap, first_world}
use Rattle.ctrie_map.specs.Maps.{MapState, handles_of}
use Rattle.shared_map.specs.Laws.{NewShardsAreEmpty, ShardsMakeTheMap}
use Rattle.shared_map.specs.Opening.{AreNew}
use Rattle.shared_map.specs.Shards.{world_of_all, worlds_of}
use Rattle.shared_map.specs.Uniting.{kind_of, pairs_at, pairs_of, united_at, value_of, with_pairs}
use Rattle.shared_map.proofs.New.{first_at, no_handles}
use Rattle.shared_map.proofs.OfShards as shards
use Rattle.shared_map.proofs.TurnAll.{empty_pairs}
use Rattle.shared_map.proofs.United.{get_united, same_world, shown_as, shown_kind}

-- ---- new ones

first_pairs : (h : ℕ) → pairs_of (maps.get first_world h) ≡ []
first_pairs h = ap pairs_of (first_at h) ∙ by_test (eq_by_cmp nat_cmp h 0)
  where
    by_test : (b : Bool) → pairs_of (cond b (Some (shown_as maps.empty Writable)) (maps.get no_handles h)) ≡ []
    by_test true = empty_pairs
    by_test false = ap pairs_of (maps.get-empty nat_cmp h)

abbrev first_shown : ℕ → Bool → Option HandleState
first_shown h b = cond b (Some (shown_as maps.empty Writable)) (maps.get no_handles h)

first_alike : (h : ℕ) → option_map (with_pairs maps.empty) (maps.get first_world h) ≡ maps.get first_world h
first_alike h = ap (option_map (with_pairs maps.empty)) (first_at h) ∙ by_test (eq_by_cmp nat_cmp h 0) ∙ sym (first_at h)
  where
    by_test : (b : Bool) → option_map (with_pairs maps.empty) (first_shown h b) ≡ first_shown h b
    by_test true = refl
    by_test false = ap (option_map (with_pairs maps.empty)) (maps.get-empty nat_cmp h) ∙ sym (maps.get-empty nat_cmp h)

no_pairs_at : (slots : ℕ) (hash : HashKind) (ms : List MapState) → AreNew slots hash ms → (h : ℕ) → pairs_at h (worlds_of ms) ≡ []
no_pairs_at slots hash [] new h = refl
no_pairs_at slots hash (m ∷ ms) new h =
    ap₂ (λ ps qs. ps ++ qs) (ap (λ w. pairs_of (maps.get w h)) new.0.2 ∙ first_pairs h) (no_pairs_at slots hash ms new.1 h)

pub new_shards_are_empty : NewShardsAreEmpty
new_shards_are_empty slots hash shards [] some new = absurd (omega (arith, some, new.1))
new_shards_are_empty slots hash shards (m ∷ ms) some new =
    same_world (world_of_all (m ∷ ms)) first_world
    (λ h. get_united (handles_of m) (worlds_of ms) h
    ∙ ap₂ (λ (n : KeyMap) w. option_map (with_pairs n) (maps.get w h)) (ap maps.from_entries (no_pairs_at slots hash (m ∷ ms) new.0 h)) new.0.0.2
    ∙ first_alike h)

-- ---- any

value_shown : (k : ℕ) (m : KeyMap) (o : Option HandleState) → maps.get m k ≡ value_of k o → value_of k (option_map (shown_as m) (kind_of o)) ≡ value_of k o
value_shown k m None e = refl
value_shown k m (Some s) e = e

pub shards_make_the_map : ShardsMakeTheMap
shards_make_the_map hash ss are i s at h =
    let m = united_at (worlds_of ss) h in
    let shown = shards.shown hash ss are i s at h in (
      ap kind_of shown ∙ shown_kind m (kind_of (maps.get (handles_of s) h)),
      (λ k here. ap (value_of k) shown ∙ value_shown k m (maps.get (handles_of s) h) (shards.value_here hash ss are i s at h k here)),
    )
