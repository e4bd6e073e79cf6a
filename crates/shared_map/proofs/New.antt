-- New maps are the shards of one.
use Rattle.std.proofs.Common.{◌≡◌, ℕ, suc, ◌+◌, ◌≤◌, Bool, true, false, cond, List, []}
use Rattle.std.proofs.Common.{◌∷◌, ◌++◌, length, Some, None, is_some, nat_cmp, refl, sym, ap, ◌∙◌, arith}
use Rattle.std.specs.Cmp.{nat_cmp_total}
use Rattle.std.specs.Ordering.{eq_by_cmp}
use Rattle.std.specs.FinMap as maps
use Rattle.std.proofs.lemmas.Bool.{true≢false}
use Rattle.shared_map.specs.Vocabulary.{HashKind, Writable, HandleMap, first_world}
use Rattle.ctrie_map.specs.Maps.{IsNew, MapState}
use Rattle.shared_map.specs.Asks.{place_of}
use Rattle.shared_map.specs.Opening.{AreNew, AreNewMaps}
use Rattle.shared_map.specs.Shards.{AreHashed, AreShards, worlds_of}
use Rattle.shared_map.specs.Uniting.{AreOfKinds, AreOwnFrom, kind_of, value_at, value_of}
use Rattle.shared_map.proofs.United.{shown_as}

abbrev pub no_handles : HandleMap
no_handles = maps.empty

pub first_at : (h : ℕ) → maps.get first_world h ≡ cond (eq_by_cmp nat_cmp h 0) (Some (shown_as maps.empty Writable)) (maps.get no_handles h)
first_at h = maps.get-insert nat_cmp_total maps.empty 0 (shown_as maps.empty Writable) h

-- no key has a value in the first world
no_value : (h k : ℕ) → value_at first_world h k ≡ None
no_value h k = ap (value_of k) (first_at h) ∙ by_test (eq_by_cmp nat_cmp h 0)
  where
    by_test : (b : Bool) → value_of k (cond b (Some (shown_as maps.empty Writable)) (maps.get no_handles h)) ≡ None
    by_test true = maps.get-empty nat_cmp k
    by_test false = ap (value_of k) (maps.get-empty nat_cmp h)

module _ (slots : ℕ) (hash : HashKind) where
  hashed : (ms : List MapState) → AreNew slots hash ms → AreHashed hash ms
  hashed [] new = tt
  hashed (m ∷ ms) new = (ap (λ (l : _). l.hash) new.0.0, hashed ms new.1)

  alike : (ms : List MapState) → AreNew slots hash ms → AreOfKinds (λ h. kind_of (maps.get first_world h)) (worlds_of ms)
  alike [] new = tt
  alike (m ∷ ms) new = ((λ h. ap (λ w. kind_of (maps.get w h)) new.0.2), alike ms new.1)

  own : (place : ℕ → ℕ) (n : ℕ) (ms : List MapState) → AreNew slots hash ms → AreOwnFrom place n (worlds_of ms)
  own place n [] new = tt
  own place n (m ∷ ms) new = (
    (λ h k some. absurd (true≢false (sym some ∙ ap is_some (ap (λ w. value_at w h k) new.0.2 ∙ no_value h k)))),
    own place (suc n) ms new.1,
  )

  pub new_are : (shards : ℕ) (ms : List MapState) → 1 ≤ shards → shards ≤ 64 → AreNewMaps slots hash shards ms → AreShards hash ms
  new_are shards ms some few new = record {
    kinds = λ h. kind_of (maps.get first_world h);
    some = omega (arith, some, new.1);
    few = omega (arith, few, new.1);
    hashed = hashed ms new.0;
    alike = alike ms new.0;
    own = own (place_of hash (length ms)) 0 ms new.0;
  }

  more : (ms : List MapState) (m : MapState) → AreNew slots hash ms → IsNew slots hash m → AreNew slots hash (ms ++ m ∷ [])
  more [] m new one = (one, tt)
  more (x ∷ ms) m new one = (new.0, more ms m new.1 one)

  longer : (ms : List MapState) (m : MapState) → length (ms ++ m ∷ []) ≡ suc (length ms)
  longer [] m = refl
  longer (x ∷ ms) m = ap suc (longer ms m)

  pub one_more_new : (n : ℕ) (ms : List MapState) (m : MapState) → AreNewMaps slots hash n ms → IsNew slots hash m → AreNewMaps slots hash (n + 1) (ms ++ m ∷ [])
  one_more_new n ms m new one = (more ms m new.0 one, (let long = longer ms m in omega (arith, long, new.1)))
