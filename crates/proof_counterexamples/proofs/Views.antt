-- What a world shows, as functions that compute: a finite map of the library answers by laws alone.
use Rattle.std.specs.Prelude.{◌≡◌, ℕ, Bool, true, false, cond, Option, Some, None}
use Rattle.std.specs.Ordering.{nat_cmp, eq_by_cmp}
use Rattle.std.specs.Cmp.{nat_cmp_total}
use Rattle.std.specs.FinMap as map
use Rattle.std.specs.FinMap.{get-insert, get-remove, get-empty}
use Rattle.std.proofs.Common.{refl, ap, ◌∙◌}
use Rattle.proof_counterexamples.specs.Vocabulary.{Access, Writable, KeyMap, HandleState, HandleMap, first_world}

-- the value of each key, if it has one
abbrev pub Keys : Type 0
Keys = ℕ → Option ℕ

-- for each handle that is open its kind and its keys
abbrev pub View : Type 0
View = ℕ → Option (Access × Keys)

abbrev pub seen : Option HandleState → Option (Access × Keys)
seen None = None
seen (Some s) = Some (s.access, λ k. map.get s.pairs k)

abbrev pub shown : HandleMap → View
shown w h = seen (map.get w h)

-- the function that gives this at one number
abbrev pub written : {X : Type 0} → (ℕ → X) → ℕ → X → ℕ → X
written f k x q = cond (eq_by_cmp nat_cmp q k) x (f q)

seen_cond : (b : Bool) (s : HandleState) (o : Option HandleState) → seen (cond b (Some s) o) ≡ cond b (seen (Some s)) (seen o)
seen_cond true s o = refl
seen_cond false s o = refl

-- a handle that names another map
pub shown_insert : (w : HandleMap) (h : ℕ) (s : HandleState) → shown (map.insert w h s) ≡ written (shown w) h (seen (Some s))
shown_insert w h s = λ i q. (ap seen (get-insert nat_cmp_total w h s q) ∙ seen_cond (eq_by_cmp nat_cmp q h) s (map.get w q)) i

pub keys_insert : (m : KeyMap) (k v : ℕ) → ◌≡◌ {A = Keys} (λ q. map.get (map.insert m k v) q) (written (λ q. map.get m q) k (Some v))
keys_insert m k v = λ i q. get-insert nat_cmp_total m k v q i

pub keys_remove : (m : KeyMap) (k : ℕ) → ◌≡◌ {A = Keys} (λ q. map.get (map.remove m k) q) (written (λ q. map.get m q) k None)
keys_remove m k = λ i q. get-remove nat_cmp_total m k q i

-- at first handle 0 is open, and no key has a value
abbrev pub first_view : View
first_view = written (λ h. None) 0 (Some (Writable, λ k. None))

pub shown_first : shown first_world ≡ first_view
shown_first =
    shown_insert map.empty 0 (record { access = Writable; pairs = map.empty })
    ∙ (λ i. written (λ h. seen (get-empty nat_cmp h i)) 0 (Some (Writable, λ k. get-empty nat_cmp k i)))
