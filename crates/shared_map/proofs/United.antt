-- Worlds that belong together, as one: what is found there.
use Rattle.std.proofs.Common.{◌≡◌, ◌≢◌, ℕ, zero, suc, ◌+◌, ◌<◌, Bool, true, false, cond, ◌&&◌}
use Rattle.std.proofs.Common.{T, List, [], ◌∷◌, length, map, Option, Some, None, IsSome, is_some, option_map}
use Rattle.std.proofs.Common.{nat_cmp, is_lt, eqb-true, refl, sym, ap, ap₂, subst, ◌∙◌, arith, slice_get}
use Rattle.std.specs.Cmp.{nat_cmp_total, unsigned_tied}
use Rattle.std.specs.Ordering.{eq_by_cmp}
use Rattle.std.specs.FinMap as maps
use Rattle.std.specs.FinMap.{find, nat_cmp-IsAntisymmetric}
use Rattle.std.specs.FinMap.Entries.{below_all}
use Rattle.std.proofs.lemmas.Option.{same_Some}
use Rattle.shared_map.specs.Vocabulary.{Access, HandleMap, HandleState, KeyMap, by_key}
use Rattle.shared_map.specs.Beneath.proof_contents.proofs.Pairs.Lists.{AreApart, EachKey, Pairs, apart-append}
use Rattle.shared_map.specs.Beneath.proof_contents.proofs.Pairs.Lists.{count_is, entries_are, found-first, found_in}
use Rattle.shared_map.specs.Uniting.{AreOfKinds, AreOwnFrom, kind_of, pairs_at, pairs_of, united, united_at, value_at, value_of, with_pairs}
use Rattle.shared_map.proofs.Finding.{entries_apart, found_append, not_found_apart, or_else, some_none}

abbrev pub shown_as : KeyMap → Access → HandleState
shown_as m access = record { access = access; pairs = m }

pub shown_kind : (m : KeyMap) (o : Option Access) → kind_of (option_map (shown_as m) o) ≡ o
shown_kind m None = refl
shown_kind m (Some a) = refl

-- ---- maps of entries

-- what is found where each value has become another one
find_mapped : {X Y : Type 0} (f : ℕ → X → Y) (q : ℕ) (es : List (ℕ × X)) → find nat_cmp q (map (λ e. (e.0, f e.0 e.1)) es) ≡ option_map (f q) (find nat_cmp q es)
find_mapped f q [] = refl
find_mapped {X} f q (e ∷ es) = by_test (eq_by_cmp nat_cmp q e.0) refl (find_mapped f q es)
  where
    by_test : (b : Bool) → eq_by_cmp nat_cmp q e.0 ≡ b → find nat_cmp q (map (λ e. (e.0, f e.0 e.1)) es) ≡ option_map (f q) (find nat_cmp q es) →
        cond b (Some (f e.0 e.1)) (find nat_cmp q (map (λ e. (e.0, f e.0 e.1)) es)) ≡ option_map (f q) (cond b (Some e.1) (find nat_cmp q es))
    by_test true t rest = ap (λ k. Some (f k e.1)) (sym (eqb-true q e.0 (sym (unsigned_tied q e.0) ∙ t)))
    by_test false t rest = rest

below_mapped : {X Y : Type 0} (f : ℕ → X → Y) (k : ℕ) (es : List (ℕ × X)) → below_all nat_cmp k (map (λ e. (e.0, f e.0 e.1)) es) ≡ below_all nat_cmp k es
below_mapped f k [] = refl
below_mapped f k (e ∷ es) = ap (λ b. is_lt (nat_cmp k e.0) && b) (below_mapped f k es)

sorted_mapped : {X Y : Type 0} (f : ℕ → X → Y) (es : List (ℕ × X)) → maps.is_sorted nat_cmp (map (λ e. (e.0, f e.0 e.1)) es) ≡ maps.is_sorted nat_cmp es
sorted_mapped f [] = refl
sorted_mapped f (e ∷ es) = ap₂ (λ a b. a && b) (below_mapped f e.0 es) (sorted_mapped f es)

len_of_sorted : {X : Type 0} (es : List (ℕ × X)) → T (maps.is_sorted nat_cmp es) → maps.len (maps.from_entries {R = nat_cmp} es) ≡ length es
len_of_sorted es sorted =
    ap maps.len (maps.same_map nat_cmp_total nat_cmp-IsAntisymmetric (maps.from_entries es) (maps.from_sorted es)
    (λ q. maps.get-from_entries nat_cmp_total es q ∙ sym (maps.get-from_sorted nat_cmp es q sorted)))
    ∙ maps.len-entries (maps.from_sorted es) ∙ ap length (maps.entries-from_sorted nat_cmp es sorted)

pub length_mapped : {X Y : Type 0} (f : X → Y) (es : List X) → length (map f es) ≡ length es
length_mapped f [] = refl
length_mapped f (e ∷ es) = ap suc (length_mapped f es)

pub same_world : (w v : HandleMap) → ((h : ℕ) → maps.get w h ≡ maps.get v h) → w ≡ v
same_world w v same = maps.same_map nat_cmp_total nat_cmp-IsAntisymmetric w v same

-- ---- the handles of worlds as one

module _ (w : HandleMap) (ws : List HandleMap) where
  pub get_united : (h : ℕ) → maps.get (united (w ∷ ws)) h ≡ option_map (with_pairs (united_at (w ∷ ws) h)) (maps.get w h)
  unfolding united
  get_united h =
      maps.get-from_entries nat_cmp_total (map (λ e. (e.0, with_pairs (united_at (w ∷ ws) e.0) e.1)) (maps.entries w)) h
      ∙ find_mapped (λ k. with_pairs (united_at (w ∷ ws) k)) h (maps.entries w) ∙ ap (option_map (with_pairs (united_at (w ∷ ws) h))) (sym (maps.get-entries w h))

  -- they are as many as in the first
  pub len_united : maps.len (united (w ∷ ws)) ≡ maps.len w
  unfolding united
  len_united =
      len_of_sorted (map (λ e. (e.0, with_pairs (united_at (w ∷ ws) e.0) e.1)) (maps.entries w))
      (subst T (sym (sorted_mapped (λ k. with_pairs (united_at (w ∷ ws) k)) (maps.entries w))) (maps.entries_sorted w))
      ∙ length_mapped (λ e. (e.0, with_pairs (united_at (w ∷ ws) e.0) e.1)) (maps.entries w) ∙ sym (maps.len-entries w)

  shown_by_kind : (m : KeyMap) (o : Option HandleState) → option_map (with_pairs m) o ≡ option_map (shown_as m) (kind_of o)
  shown_by_kind m None = refl
  shown_by_kind m (Some s) = refl

  -- by the kinds that they have in each
  pub get_by_kind : (kinds : ℕ → Option Access) → AreOfKinds kinds (w ∷ ws) → (h : ℕ) → maps.get (united (w ∷ ws)) h ≡ option_map (shown_as (united_at (w ∷ ws) h)) (kinds h)
  get_by_kind kinds are h =
      get_united h ∙ shown_by_kind (united_at (w ∷ ws) h) (maps.get w h) ∙ ap (option_map (shown_as (united_at (w ∷ ws) h))) (are.0 h)

-- worlds whose handles are of the same kinds have as many
abbrev bare : HandleMap → HandleMap
bare w = maps.from_entries (map (λ e. (e.0, with_pairs maps.empty e.1)) (maps.entries w))

get_bare : (w : HandleMap) (h : ℕ) → maps.get (bare w) h ≡ option_map (shown_as maps.empty) (kind_of (maps.get w h))
get_bare w h =
    maps.get-from_entries nat_cmp_total (map (λ e. (e.0, with_pairs maps.empty e.1)) (maps.entries w)) h
    ∙ find_mapped (λ k. with_pairs maps.empty) h (maps.entries w) ∙ ap (option_map (with_pairs maps.empty)) (sym (maps.get-entries w h)) ∙ by_kind (maps.get w h)
  where
    by_kind : (o : Option HandleState) → option_map (with_pairs maps.empty) o ≡ option_map (shown_as maps.empty) (kind_of o)
    by_kind None = refl
    by_kind (Some s) = refl

len_bare : (w : HandleMap) → maps.len (bare w) ≡ maps.len w
len_bare w =
    len_of_sorted (map (λ e. (e.0, with_pairs maps.empty e.1)) (maps.entries w))
    (subst T (sym (sorted_mapped (λ k. with_pairs maps.empty) (maps.entries w))) (maps.entries_sorted w))
    ∙ length_mapped (λ e. (e.0, with_pairs maps.empty e.1)) (maps.entries w) ∙ sym (maps.len-entries w)

pub same_len : (kinds : ℕ → Option Access) (w v : HandleMap) → ((h : ℕ) → kind_of (maps.get w h) ≡ kinds h) → ((h : ℕ) → kind_of (maps.get v h) ≡ kinds h) →
    maps.len w ≡ maps.len v
same_len kinds w v one other =
    sym (len_bare w)
    ∙ ap maps.len (same_world (bare w) (bare v) (λ h. get_bare w h ∙ ap (option_map (shown_as maps.empty)) (one h ∙ sym (other h)) ∙ sym (get_bare v h))) ∙ len_bare v

-- ---- the maps of a handle as one

found_pairs : (k : ℕ) (o : Option HandleState) → found_in k (pairs_of o) ≡ value_of k o
found_pairs k None = refl
found_pairs k (Some s) = sym (maps.get-entries s.pairs k)

pub get_at : (ws : List HandleMap) (h k : ℕ) → maps.get (united_at ws h) k ≡ found_in k (pairs_at h ws)
get_at ws h k = maps.get-from_entries nat_cmp_total (pairs_at h ws) k

nothing : (o : Option ℕ) → (IsSome o → ⊥) → o ≡ None
nothing None never = refl
nothing (Some x) never = absurd (never refl)

else_none : (o : Option ℕ) → or_else o None ≡ o
else_none None = refl
else_none (Some x) = refl

module _ (place : ℕ → ℕ) where
  none_in : (n : ℕ) (w : HandleMap) → ((h k : ℕ) → IsSome (value_at w h k) → place k ≡ n) → (h k : ℕ) → place k ≢ n → value_at w h k ≡ None
  none_in n w own h k apart = nothing (value_at w h k) (λ some. apart (own h k some))

  found_first : (k h : ℕ) (w : HandleMap) (ws : List HandleMap) → found_in k (pairs_at h (w ∷ ws)) ≡ or_else (value_at w h k) (found_in k (pairs_at h ws))
  found_first k h w ws =
      found_append k (pairs_of (maps.get w h)) (pairs_at h ws) ∙ ap (λ o. or_else o (found_in k (pairs_at h ws))) (found_pairs k (maps.get w h))

  none_from : (n : ℕ) (ws : List HandleMap) → AreOwnFrom place n ws → (h k : ℕ) → place k < n → found_in k (pairs_at h ws) ≡ None
  none_from n [] own h k lt = refl
  none_from n (w ∷ ws) own h k lt =
      found_first k h w ws
      ∙ ap (λ o. or_else o (found_in k (pairs_at h ws))) (none_in n w own.0 h k (λ e. omega (arith, e, lt))) ∙ none_from (suc n) ws own.1 h k (omega (arith, lt))

  -- a key has what the world of its place has
  found_at : (n : ℕ) (ws : List HandleMap) → AreOwnFrom place n ws → (i h k : ℕ) (w : HandleMap) → slice_get ws i ≡ Some w → place k ≡ n + i →
      found_in k (pairs_at h ws) ≡ value_at w h k
  found_at n [] own i h k w at e = absurd (some_none w (sym at))
  found_at n (v ∷ ws) own zero h k w at e =
      found_first k h v ws ∙ ap (or_else (value_at v h k)) (none_from (suc n) ws own.1 h k (omega (arith, e))) ∙ else_none (value_at v h k)
      ∙ ap (λ u. value_at u h k) (same_Some v w at)
  found_at n (v ∷ ws) own (suc i) h k w at e =
      found_first k h v ws
      ∙ ap (λ o. or_else o (found_in k (pairs_at h ws))) (none_in n v own.0 h k (λ same. omega (arith, e, same)))
      ∙ found_at (suc n) ws own.1 i h k w at (omega (arith, e))

  pub has_at : (ws : List HandleMap) → AreOwnFrom place 0 ws → (h k : ℕ) (w : HandleMap) → slice_get ws (place k) ≡ Some w → maps.get (united_at ws h) k ≡ value_at w h k
  has_at ws own h k w at = get_at ws h k ∙ found_at 0 ws own (place k) h k w at (omega arith)

  -- ---- no key stands twice

  each_found : (P : ℕ → Type 0) (ps : Pairs) → ((k : ℕ) → IsSome (found_in k ps) → P k) → EachKey P ps
  each_found P [] all = tt
  each_found P (p ∷ ps) all = (
    all p.0 (ap is_some (found-first p.0 p.1 ps)),
    each_found P ps (λ k some. all k (still (eq_by_cmp nat_cmp k p.0) p.1 (found_in k ps) some)),
  )
    where
      still : (b : Bool) (v : ℕ) (o : Option ℕ) → IsSome o → IsSome (cond b (Some v) o)
      still true v o some = refl
      still false v o some = some

  apart_pairs : (o : Option HandleState) → AreApart (pairs_of o)
  apart_pairs None = tt
  apart_pairs (Some s) = entries_apart s.pairs

  pub apart_from : (n : ℕ) (ws : List HandleMap) → AreOwnFrom place n ws → (h : ℕ) → AreApart (pairs_at h ws)
  apart_from n [] own h = tt
  apart_from n (w ∷ ws) own h =
      apart-append (pairs_of (maps.get w h)) (pairs_at h ws) (apart_pairs (maps.get w h)) (apart_from (suc n) ws own.1 h)
      (each_found (λ k. EachKey (λ l. l ≢ k) (pairs_at h ws)) (pairs_of (maps.get w h))
      (λ k some. not_found_apart k (pairs_at h ws)
      (none_from (suc n) ws own.1 h k (let e = own.0 h k (subst IsSome (found_pairs k (maps.get w h)) some) in omega (arith, e)))))

  -- all pairs, sorted, are the entries; and so many
  pub entries_at : (ws : List HandleMap) → AreOwnFrom place 0 ws → (h : ℕ) → by_key (pairs_at h ws) ≡ maps.entries (united_at ws h)
  entries_at ws own h = entries_are (united_at ws h) (pairs_at h ws) (apart_from 0 ws own h) (λ q. sym (get_at ws h q))

  pub count_at : (ws : List HandleMap) → AreOwnFrom place 0 ws → (h : ℕ) → length (pairs_at h ws) ≡ maps.len (united_at ws h)
  count_at ws own h = count_is (united_at ws h) (pairs_at h ws) (apart_from 0 ws own h) (λ q. sym (get_at ws h q))

-- one world alone is itself
pub united_one : (w : HandleMap) → united (w ∷ []) ≡ w
united_one w = same_world (united (w ∷ [])) w (λ h. get_united w [] h ∙ by_shown h (maps.get w h) refl)
  where
    only : (h : ℕ) (s : HandleState) → maps.get w h ≡ Some s → united_at (w ∷ []) h ≡ s.pairs
    only h s at = maps.same_map nat_cmp_total nat_cmp-IsAntisymmetric (united_at (w ∷ []) h) s.pairs
        (λ k. has_at (λ _. 0) (w ∷ []) ((λ h k some. refl), tt) h k w refl ∙ ap (value_of k) at)

    by_shown : (h : ℕ) (o : Option HandleState) → maps.get w h ≡ o → option_map (with_pairs (united_at (w ∷ []) h)) o ≡ o
    by_shown h None at = refl
    by_shown h (Some s) at = ap (λ m. Some (shown_as m s.access)) (only h s at)
