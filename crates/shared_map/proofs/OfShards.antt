-- One of the shards of a map, and the world of the whole.
use Rattle.std.proofs.Common.{◌≡◌, ℕ, zero, suc, ◌<◌, ◌≤◌, Bool}
use Rattle.std.proofs.Common.{false, List, [], ◌∷◌, length, map, Option, Some, None, IsSome}
use Rattle.std.proofs.Common.{option_map, Ok, refl, sym, ap, subst, ◌∙◌, arith, slice_get, slice_set}
use Rattle.std.specs.FinMap as maps
use Rattle.std.proofs.lemmas.List.Sums.{sum_by-set}
use Rattle.std.proofs.lemmas.Option.{get_or_from_slice_get, same_Some, slice_get-map, slice_get_within}
use Rattle.shared_map.specs.Vocabulary.{hash_of, HashKind, HandleMap, HandleState, KeyMap}
use Rattle.ctrie_map.specs.Costs.{WorksUpTo}
use Rattle.ctrie_map.specs.Denials.{denial_by}
use Rattle.ctrie_map.specs.Maps.{MapState, handles_of}
use Rattle.ctrie_map.specs.Reading.{read_of}
use Rattle.shared_map.specs.Answering.{WorkUpTo}
use Rattle.shared_map.specs.Asks.{place_of}
use Rattle.shared_map.specs.Shards.{AreHashed, AreShards, last_given, world_of_all, worlds_of}
use Rattle.shared_map.specs.Uniting.{AreOfKinds, AreOwnFrom, kind_of, united, united_at, value_at}
use Rattle.shared_map.proofs.OnePlace.{shard_within}
use Rattle.shared_map.proofs.Places.{map_set, set_found}
use Rattle.shared_map.proofs.Turned.{kind_at, kinds_set, own_at, own_set, united_shows}
use Rattle.shared_map.proofs.United.{has_at, length_mapped, shown_as, shown_kind}

length_set : {X : Type 0} (xs : List X) (i : ℕ) (x : X) → length (slice_set xs i x) ≡ length xs
length_set [] i x = refl
length_set (y ∷ xs) zero x = refl
length_set (y ∷ xs) (suc i) x = ap suc (length_set xs i x)

hashed_at : (hash : HashKind) (ss : List MapState) (i : ℕ) (s : MapState) → AreHashed hash ss → slice_get ss i ≡ Some s → s.core.limits.hash ≡ hash
hashed_at hash [] i s are at = cc
hashed_at hash (x ∷ ss) zero s are at = ap (λ o. hash_in o) (sym at) ∙ are.0
  where
    hash_in : Option MapState → HashKind
    hash_in None = x.core.limits.hash
    hash_in (Some y) = y.core.limits.hash
hashed_at hash (x ∷ ss) (suc i) s are at = hashed_at hash ss i s are.1 at

hashed_set : (hash : HashKind) (ss : List MapState) (i : ℕ) (t : MapState) → AreHashed hash ss → t.core.limits.hash ≡ hash → AreHashed hash (slice_set ss i t)
hashed_set hash [] i t are is = tt
hashed_set hash (x ∷ ss) zero t are is = (is, are.1)
hashed_set hash (x ∷ ss) (suc i) t are is = (are.0, hashed_set hash ss i t are.1 is)

last_set : (ss : List MapState) (i : ℕ) (s t : MapState) → slice_get ss i ≡ Some s → t.names.last ≡ s.names.last → last_given (slice_set ss i t) ≡ last_given ss
last_set [] i s t at same = refl
last_set (x ∷ ss) zero s t at same = same ∙ ap (λ (s : MapState). s.names.last) (sym (same_Some x s at))
last_set (x ∷ ss) (suc i) s t at same = refl

-- a call that opens no handle is denied by the kind of its handle alone
pub denied_alike : (writes : Bool) (one other : ℕ) (m : KeyMap) (o : Option HandleState) →
    denial_by writes false (option_map (shown_as m) (kind_of o)) one ≡ denial_by writes false o other
denied_alike writes one other m None = refl
denied_alike writes one other m (Some s) = refl

module _ (hash : HashKind) (before : List MapState) (are : AreShards hash before) where
  abbrev pub place : ℕ → ℕ
  place = place_of hash (length before)

  abbrev pub worlds : List HandleMap
  worlds = worlds_of before

  pub many : length worlds ≡ length before
  many = length_mapped handles_of before

  pub any : 1 ≤ length worlds
  any = omega (arith, many, are.some)

  pub within : (k : ℕ) → place k < length worlds
  within k =
      let lt : place k < length before = shard_within (length before) (hash_of hash k) (omega (arith, are.some)) in omega (arith, many, lt)

  pub shown_in_all : (h : ℕ) → maps.get (world_of_all before) h ≡ option_map (shown_as (united_at worlds h)) (are.kinds h)
  shown_in_all h = united_shows are.kinds worlds any are.alike h

  pub kind_in_all : (h : ℕ) → kind_of (maps.get (world_of_all before) h) ≡ are.kinds h
  kind_in_all h = ap kind_of (shown_in_all h) ∙ shown_kind (united_at worlds h) (are.kinds h)

  module _ (i : ℕ) (s : MapState) (at : slice_get before i ≡ Some s) where
    pub world_at : slice_get worlds i ≡ Some (handles_of s)
    world_at = slice_get-map handles_of before i ∙ ap (option_map handles_of) at

    pub low : i < length worlds
    low = slice_get_within worlds i (handles_of s) world_at

    pub low_so : i < length before
    low_so = slice_get_within before i s at

    pub hash_is : s.core.limits.hash ≡ hash
    hash_is = hashed_at hash before i s are.hashed at

    pub kind_is : (h : ℕ) → kind_of (maps.get (handles_of s) h) ≡ are.kinds h
    kind_is h = kind_at are.kinds worlds i (handles_of s) are.alike world_at h

    -- the whole shows the same handles
    pub shown : (h : ℕ) → maps.get (world_of_all before) h ≡ option_map (shown_as (united_at worlds h)) (kind_of (maps.get (handles_of s) h))
    shown h = shown_in_all h ∙ ap (option_map (shown_as (united_at worlds h))) (sym (kind_is h))

    pub own_here : (h k : ℕ) → IsSome (value_at (handles_of s) h k) → place k ≡ i
    own_here h k some = let e = own_at place 0 worlds i (handles_of s) are.own world_at h k some in omega (arith, e)

    pub value_here : (h k : ℕ) → place k ≡ i → maps.get (united_at worlds h) k ≡ value_at (handles_of s) h k
    value_here h k is = has_at place worlds are.own h k (handles_of s) (ap (slice_get worlds) is ∙ world_at)

    -- what is read of a handle, where it is alike of its map here and of that in all
    pub read_alike : {A : Type 0} (h : ℕ) (f : KeyMap → A) → ((m : HandleState) → maps.get (handles_of s) h ≡ Some m → f m.pairs ≡ f (united_at worlds h)) →
        read_of f (maps.get (handles_of s) h) ≡ read_of f (maps.get (world_of_all before) h)
    read_alike h f same = by_shown (maps.get (handles_of s) h) refl ∙ ap (read_of f) (sym (shown h))
      where
        by_shown : (o : Option HandleState) → maps.get (handles_of s) h ≡ o → read_of f o ≡ read_of f (option_map (shown_as (united_at worlds h)) (kind_of o))
        by_shown None is = refl
        by_shown (Some m) is = ap Ok (same m is)

    pub denial_alike : (writes : Bool) (h taken all : ℕ) → denial_by writes false (maps.get (world_of_all before) h) all ≡ denial_by writes false (maps.get (handles_of s) h) taken
    denial_alike writes h taken all =
        ap (λ o. denial_by writes false o all) (shown h) ∙ denied_alike writes all taken (united_at worlds h) (maps.get (handles_of s) h)

    -- ---- the shard is another one

    module _ (t : MapState) where
      abbrev pub after : List MapState
      after = slice_set before i t

      pub worlds_after : worlds_of after ≡ slice_set worlds i (handles_of t)
      worlds_after = map_set handles_of before i t

      pub any_after : 1 ≤ length (slice_set worlds i (handles_of t))
      any_after = let e = length_set worlds i (handles_of t) in omega (arith, e, any)

      -- it has given no number
      pub last_after : t.names.last ≡ s.names.last → last_given after ≡ last_given before
      last_after same = last_set before i s t at same

      -- the kinds of its handles are as before, and its keys are its own
      pub shards_after : t.core.limits ≡ s.core.limits → ((h : ℕ) → kind_of (maps.get (handles_of t) h) ≡ are.kinds h) →
          ((h k : ℕ) → IsSome (value_at (handles_of t) h k) → place k ≡ i) → AreShards hash after
      shards_after limits kinds own = record {
        kinds = are.kinds;
        some = (let e = length_set before i t in omega (arith, e, are.some));
        few = (let e = length_set before i t in omega (arith, e, are.few));
        hashed = hashed_set hash before i t are.hashed (ap (λ (l : _). l.hash) limits ∙ hash_is);
        alike = subst (AreOfKinds are.kinds) (sym worlds_after) (kinds_set are.kinds worlds i (handles_of t) are.alike kinds);
        own = subst (λ n. AreOwnFrom (place_of hash n) 0 (worlds_of after)) (sym (length_set before i t))
            (subst (AreOwnFrom place 0) (sym worlds_after)
            (own_set place 0 worlds i (handles_of t) are.own (λ h k some. let e = own h k some in omega (arith, e))));
      }

      pub limits_after : t.core.limits ≡ s.core.limits → map (λ (s : MapState). s.core.limits) after ≡ map (λ (s : MapState). s.core.limits) before
      limits_after same =
          map_set (λ (s : MapState). s.core.limits) before i t ∙ ap (slice_set (map (λ (s : MapState). s.core.limits) before) i) same
          ∙ set_found (map (λ (s : MapState). s.core.limits) before) i s.core.limits (slice_get-map (λ (s : MapState). s.core.limits) before i
          ∙ ap (option_map (λ (s : MapState). s.core.limits)) at)

      -- nothing has changed, or no handle
      pub same_after : t ≡ s → after ≡ before
      same_after same = ap (slice_set before i) same ∙ set_found before i s at

      pub world_stays : handles_of t ≡ handles_of s → world_of_all after ≡ world_of_all before
      world_stays same =
          ap united (worlds_after ∙ ap (slice_set worlds i) same ∙ set_found worlds i (handles_of s) world_at)

      pub shards_stay : t.core.limits ≡ s.core.limits → handles_of t ≡ handles_of s → AreShards hash after
      shards_stay limits same =
          shards_after limits (λ h. ap (λ w. kind_of (maps.get w h)) same ∙ kind_is h)
          (λ h k some. own_here h k (subst (λ w. IsSome (value_at w h k)) same some))

      pub works_after : (most : ℕ) → WorksUpTo most s t → WorkUpTo most before after
      works_after most works =
          let steps = sum_by-set (λ (s : MapState). s.core.steps) before i t s low_so in
          let free = sum_by-set (λ (s : MapState). length s.core.heap.free) before i t s low_so in
          let its = get_or_from_slice_get before i s s at in
          let steps_is = ap (λ (s : MapState). s.core.steps) its in
          let free_is = ap (λ (s : MapState). length s.core.heap.free) its in
          (omega (arith, steps, steps_is, works.0), omega (arith, steps, steps_is, free, free_is, works.1))
