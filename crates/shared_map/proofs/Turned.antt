-- What becomes of worlds as one where one of them changes at one key, or each at one handle.
use Rattle.std.proofs.Common.{◌≡◌, ◌≢◌, ℕ, zero, suc, ◌+◌, ◌<◌, ◌≤◌, Bool, true}
use Rattle.std.proofs.Common.{false, cond, List, [], ◌∷◌, length, map, Option, Some, None, IsSome, option_map, ◌++◌}
use Rattle.std.proofs.Common.{eqb, eqb-true, eq-eqb, refl, sym, ap, ap₂, subst, ◌∙◌, arith, slice_get, slice_set}
use Rattle.std.specs.Cmp.{nat_cmp_total, unsigned_tied}
use Rattle.std.specs.FinMap as maps
use Rattle.std.specs.FinMap.{nat_cmp-IsAntisymmetric}
use Rattle.std.proofs.lemmas.Bool.{true≢false}
use Rattle.std.proofs.lemmas.Option.{same_Some}
use Rattle.shared_map.specs.Vocabulary.{Access, naming, HandleMap, KeyMap}
use Rattle.shared_map.specs.Uniting.{AreOfKinds, AreOwnFrom, kind_of, pairs_at, pairs_of, united, united_at, value_at}
use Rattle.shared_map.proofs.Places.{get_set_other, get_set_same, within_get}
use Rattle.shared_map.proofs.United.{get_by_kind, has_at, same_world, shown_as}

-- ---- one handle is another one

-- the handles of both are of these kinds
module _ (kinds later : ℕ → Option Access) (w v : HandleMap) (ws vs : List HandleMap) (are : AreOfKinds kinds (w ∷ ws)) (come : AreOfKinds later (v ∷ vs)) (n : ℕ)
    (kept : (h : ℕ) → h ≢ n → later h ≡ kinds h) (stay : (h : ℕ) → h ≢ n → united_at (v ∷ vs) h ≡ united_at (w ∷ ws) h) where
  other : (h : ℕ) → h ≢ n → maps.get (united (v ∷ vs)) h ≡ maps.get (united (w ∷ ws)) h
  other h apart =
      get_by_kind v vs later come h ∙ ap₂ (λ m k. option_map (shown_as m) k) (stay h apart) (kept h apart) ∙ sym (get_by_kind w ws kinds are h)

  -- it names this map
  pub named_so : (access : Access) (m : KeyMap) → later n ≡ Some access → united_at (v ∷ vs) n ≡ m → united (v ∷ vs) ≡ naming (united (w ∷ ws)) n access m
  named_so access m kind same =
      same_world (united (v ∷ vs)) (naming (united (w ∷ ws)) n access m)
      (λ h. by_handle h (eqb h n) refl ∙ ap (λ b. cond b (Some (shown_as m access)) (maps.get (united (w ∷ ws)) h)) (sym (unsigned_tied h n))
      ∙ sym (maps.get-insert nat_cmp_total (united (w ∷ ws)) n (shown_as m access) h))
    where
      at_it : maps.get (united (v ∷ vs)) n ≡ Some (shown_as m access)
      at_it = get_by_kind v vs later come n ∙ ap₂ (λ m k. option_map (shown_as m) k) same kind

      by_handle : (h : ℕ) (b : Bool) → eqb h n ≡ b → maps.get (united (v ∷ vs)) h ≡ cond (eqb h n) (Some (shown_as m access)) (maps.get (united (w ∷ ws)) h)
      by_handle h true e =
          ap (maps.get (united (v ∷ vs))) (eqb-true h n e) ∙ at_it ∙ sym (ap (λ b. cond b (Some (shown_as m access)) (maps.get (united (w ∷ ws)) h)) e)
      by_handle h false e =
          other h (λ same. true≢false (sym (eq-eqb h n same) ∙ e)) ∙ sym (ap (λ b. cond b (Some (shown_as m access)) (maps.get (united (w ∷ ws)) h)) e)

  -- it isn't open
  pub closed_so : later n ≡ None → united (v ∷ vs) ≡ maps.remove (united (w ∷ ws)) n
  closed_so none =
      same_world (united (v ∷ vs)) (maps.remove (united (w ∷ ws)) n)
      (λ h. by_handle h (eqb h n) refl ∙ ap (λ b. cond b None (maps.get (united (w ∷ ws)) h)) (sym (unsigned_tied h n))
      ∙ sym (maps.get-remove nat_cmp_total (united (w ∷ ws)) n h))
    where
      at_it : maps.get (united (v ∷ vs)) n ≡ None
      at_it = get_by_kind v vs later come n ∙ ap (option_map (shown_as (united_at (v ∷ vs) n))) none

      by_handle : (h : ℕ) (b : Bool) → eqb h n ≡ b → maps.get (united (v ∷ vs)) h ≡ cond (eqb h n) None (maps.get (united (w ∷ ws)) h)
      by_handle h true e = ap (maps.get (united (v ∷ vs))) (eqb-true h n e) ∙ at_it ∙ sym (ap (λ b. cond b None (maps.get (united (w ∷ ws)) h)) e)
      by_handle h false e = other h (λ same. true≢false (sym (eq-eqb h n same) ∙ e)) ∙ sym (ap (λ b. cond b None (maps.get (united (w ∷ ws)) h)) e)

-- the same of lists that have some
module _ (kinds later : ℕ → Option Access) (ws vs : List HandleMap) (some : 1 ≤ length ws) (many : 1 ≤ length vs) (are : AreOfKinds kinds ws)
    (come : AreOfKinds later vs) (n : ℕ) (kept : (h : ℕ) → h ≢ n → later h ≡ kinds h) (stay : (h : ℕ) → h ≢ n → united_at vs h ≡ united_at ws h) where
  pub names_now : (access : Access) (m : KeyMap) → later n ≡ Some access → united_at vs n ≡ m → united vs ≡ naming (united ws) n access m
  names_now access m kind same =
      elim ws as (λ ws. 1 ≤ length ws → AreOfKinds kinds ws → ((h : ℕ) → h ≢ n → united_at vs h ≡ united_at ws h) → united vs ≡ naming (united ws) n access m) [
        | [] ↦ λ some are stay. absurd (omega (arith, some))
        | w ∷ ws ↦ λ _ are stay. elim vs as (λ vs. 1 ≤ length vs → AreOfKinds later vs → ((h : ℕ) → h ≢ n → united_at vs h ≡ united_at (w ∷ ws) h) →
            united_at vs n ≡ m → united vs ≡ naming (united (w ∷ ws)) n access m) [
              | [] ↦ λ many come stay same. absurd (omega (arith, many))
              | v ∷ vs ↦ λ _ come stay same. named_so kinds later w v ws vs are come n kept stay access m kind same
            ] many come stay same
      ] some are stay

  pub closes_now : later n ≡ None → united vs ≡ maps.remove (united ws) n
  closes_now none =
      elim ws as (λ ws. 1 ≤ length ws → AreOfKinds kinds ws → ((h : ℕ) → h ≢ n → united_at vs h ≡ united_at ws h) → united vs ≡ maps.remove (united ws) n) [
        | [] ↦ λ some are stay. absurd (omega (arith, some))
        | w ∷ ws ↦ λ _ are stay. elim vs as (λ vs. 1 ≤ length vs → AreOfKinds later vs → ((h : ℕ) → h ≢ n → united_at vs h ≡ united_at (w ∷ ws) h) →
            united vs ≡ maps.remove (united (w ∷ ws)) n) [
              | [] ↦ λ many come stay. absurd (omega (arith, many))
              | v ∷ vs ↦ λ _ come stay. closed_so kinds later w v ws vs are come n kept stay none
            ] many come stay
      ] some are stay

-- what a handle is there
pub united_shows : (kinds : ℕ → Option Access) (ws : List HandleMap) → 1 ≤ length ws → AreOfKinds kinds ws → (h : ℕ) →
    maps.get (united ws) h ≡ option_map (shown_as (united_at ws h)) (kinds h)
united_shows kinds [] some are h = absurd (omega (arith, some))
united_shows kinds (w ∷ ws) some are h = get_by_kind w ws kinds are h

-- ---- one world is another one

pub kinds_set : (kinds : ℕ → Option Access) (ws : List HandleMap) (i : ℕ) (v : HandleMap) → AreOfKinds kinds ws → ((h : ℕ) → kind_of (maps.get v h) ≡ kinds h) →
    AreOfKinds kinds (slice_set ws i v)
kinds_set kinds [] i v are is = tt
kinds_set kinds (w ∷ ws) zero v are is = (is, are.1)
kinds_set kinds (w ∷ ws) (suc i) v are is = (are.0, kinds_set kinds ws i v are.1 is)

pub own_set : (place : ℕ → ℕ) (n : ℕ) (ws : List HandleMap) (i : ℕ) (v : HandleMap) → AreOwnFrom place n ws →
    ((h k : ℕ) → IsSome (value_at v h k) → place k ≡ n + i) → AreOwnFrom place n (slice_set ws i v)
own_set place n [] i v own its = tt
own_set place n (w ∷ ws) zero v own its = ((λ h k some. let e = its h k some in omega (arith, e)), own.1)
own_set place n (w ∷ ws) (suc i) v own its = (own.0, own_set place (suc n) ws i v own.1 (λ h k some. let e = its h k some in omega (arith, e)))

pub own_at : (place : ℕ → ℕ) (n : ℕ) (ws : List HandleMap) (i : ℕ) (w : HandleMap) → AreOwnFrom place n ws → slice_get ws i ≡ Some w → (h k : ℕ) →
    IsSome (value_at w h k) → place k ≡ n + i
own_at place n [] i w own at h k some = cc
own_at place n (v ∷ ws) zero w own at h k some =
    let e = own.0 h k (subst (λ u. IsSome (value_at u h k)) (sym (same_Some v w at)) some) in omega (arith, e)
own_at place n (v ∷ ws) (suc i) w own at h k some = let e = own_at place (suc n) ws i w own.1 at h k some in omega (arith, e)

pub kind_at : (kinds : ℕ → Option Access) (ws : List HandleMap) (i : ℕ) (w : HandleMap) → AreOfKinds kinds ws → slice_get ws i ≡ Some w → (h : ℕ) →
    kind_of (maps.get w h) ≡ kinds h
kind_at kinds [] i w are at h = cc
kind_at kinds (v ∷ ws) zero w are at h = ap (λ u. kind_of (maps.get u h)) (sym (same_Some v w at)) ∙ are.0 h
kind_at kinds (v ∷ ws) (suc i) w are at h = kind_at kinds ws i w are.1 at h

pairs_set : (h : ℕ) (ws : List HandleMap) (i : ℕ) (w v : HandleMap) → slice_get ws i ≡ Some w → maps.get v h ≡ maps.get w h →
    pairs_at h (slice_set ws i v) ≡ pairs_at h ws
pairs_set h [] i w v at same = refl
pairs_set h (u ∷ ws) zero w v at same =
    ap (λ o. pairs_of o ++ pairs_at h ws) (same ∙ ap (λ x. maps.get x h) (sym (same_Some u w at)))
pairs_set h (u ∷ ws) (suc i) w v at same = ap (λ ps. pairs_of (maps.get u h) ++ ps) (pairs_set h ws i w v at same)

pub stay_set : (h : ℕ) (ws : List HandleMap) (i : ℕ) (w v : HandleMap) → slice_get ws i ≡ Some w → maps.get v h ≡ maps.get w h →
    united_at (slice_set ws i v) h ≡ united_at ws h
stay_set h ws i w v at same = ap maps.from_entries (pairs_set h ws i w v at same)

-- The handle's map has changed in one of the worlds, so that all of them together have this one: what the world of a key's place has.
module _ (place : ℕ → ℕ) (ws : List HandleMap) (own : AreOwnFrom place 0 ws) (within : (k : ℕ) → place k < length ws) (i : ℕ) (low : i < length ws) (v : HandleMap)
    (its : (h k : ℕ) → IsSome (value_at v h k) → place k ≡ i) where
  pub own_next : AreOwnFrom place 0 (slice_set ws i v)
  own_next = own_set place 0 ws i v own (λ h k some. let e = its h k some in omega (arith, e))

  pub united_set : (h : ℕ) (m : KeyMap) → ((q : ℕ) → place q ≡ i → maps.get m q ≡ value_at v h q) →
      ((q : ℕ) → place q ≢ i → maps.get m q ≡ maps.get (united_at ws h) q) → united_at (slice_set ws i v) h ≡ m
  united_set h m here there =
      maps.same_map nat_cmp_total nat_cmp-IsAntisymmetric (united_at (slice_set ws i v) h) m (λ q. by_place q (eqb (place q) i) refl)
    where
      by_place : (q : ℕ) (b : Bool) → eqb (place q) i ≡ b → maps.get (united_at (slice_set ws i v) h) q ≡ maps.get m q
      by_place q true e =
          let at = eqb-true (place q) i e in
          has_at place (slice_set ws i v) own_next h q v (ap (slice_get (slice_set ws i v)) at ∙ get_set_same ws i v low) ∙ sym (here q at)
      by_place q false e =
          let apart : place q ≢ i = λ same. true≢false (sym (eq-eqb (place q) i same) ∙ e) in
          let (w, at) = within_get ws (place q) (within q) in
          has_at place (slice_set ws i v) own_next h q w (get_set_other ws i (place q) v apart ∙ at) ∙ sym (has_at place ws own h q w at) ∙ sym (there q apart)

-- ---- each world is turned

pub kinds_turned : (kinds later : ℕ → Option Access) (turn : HandleMap → HandleMap) →
    ((w : HandleMap) → ((h : ℕ) → kind_of (maps.get w h) ≡ kinds h) → (h : ℕ) → kind_of (maps.get (turn w) h) ≡ later h) → (ws : List HandleMap) → AreOfKinds kinds ws →
    AreOfKinds later (map turn ws)
kinds_turned kinds later turn each [] are = tt
kinds_turned kinds later turn each (w ∷ ws) are = (each w are.0, kinds_turned kinds later turn each ws are.1)

-- each has no keys that it hadn't under one of its handles
pub own_turned : (place : ℕ → ℕ) (turn : HandleMap → HandleMap) →
    ((w : HandleMap) (h k : ℕ) → IsSome (value_at (turn w) h k) → (g : ℕ) × IsSome (value_at w g k)) → (n : ℕ) (ws : List HandleMap) → AreOwnFrom place n ws →
    AreOwnFrom place n (map turn ws)
own_turned place turn none_new n [] own = tt
own_turned place turn none_new n (w ∷ ws) own =
    ((λ h k some. let (g, was) = none_new w h k some in own.0 g k was), own_turned place turn none_new (suc n) ws own.1)

pairs_turned : (turn : HandleMap → HandleMap) (h g : ℕ) → ((w : HandleMap) → pairs_of (maps.get (turn w) h) ≡ pairs_of (maps.get w g)) → (ws : List HandleMap) →
    pairs_at h (map turn ws) ≡ pairs_at g ws
pairs_turned turn h g same [] = refl
pairs_turned turn h g same (w ∷ ws) = ap₂ (λ ps qs. ps ++ qs) (same w) (pairs_turned turn h g same ws)

-- a handle has what this one had in each
pub turned_at : (turn : HandleMap → HandleMap) (h g : ℕ) → ((w : HandleMap) → pairs_of (maps.get (turn w) h) ≡ pairs_of (maps.get w g)) → (ws : List HandleMap) →
    united_at (map turn ws) h ≡ united_at ws g
turned_at turn h g same ws = ap maps.from_entries (pairs_turned turn h g same ws)

pairs_emptied : (turn : HandleMap → HandleMap) (h : ℕ) → ((w : HandleMap) → pairs_of (maps.get (turn w) h) ≡ []) → (ws : List HandleMap) → pairs_at h (map turn ws) ≡ []
pairs_emptied turn h none [] = refl
pairs_emptied turn h none (w ∷ ws) = ap₂ (λ ps qs. ps ++ qs) (none w) (pairs_emptied turn h none ws)

pub emptied_at : (turn : HandleMap → HandleMap) (h : ℕ) → ((w : HandleMap) → pairs_of (maps.get (turn w) h) ≡ []) → (ws : List HandleMap) →
    united_at (map turn ws) h ≡ maps.empty
emptied_at turn h none ws = ap maps.from_entries (pairs_emptied turn h none ws)
