-- The map of the values of a list of keys.
use Rattle.std.proofs.Common.{◌≡◌, ◌≢◌, ℕ, zero, suc, ◌==◌, Bool, true, false, cond, List, [], ◌∷◌, Contains, Option, Some, None, ◌⊎◌, inl, inr, nat_cmp, refl, sym, ap, ◌∙◌, arith, eqb-true}
use Rattle.std.specs.Cmp.{nat_cmp_total}
use Rattle.std.specs.FinMap.{get, get-empty, same_map, nat_cmp-IsAntisymmetric}
use Rattle.proof_contents.specs.Vocabulary.{KeyMap}
use Rattle.proof_contents.proofs.Nodes.Branches.{differ}
use Rattle.proof_contents.proofs.Nodes.Maps.{get-inserted}
use Rattle.proof_contents.specs.Tries.{put_value, map_of}

-- maps that answer alike are one
pub same_answers : (m n : KeyMap) → ((q : ℕ) → get m q ≡ get n q) → m ≡ n
same_answers m n = same_map nat_cmp_total nat_cmp-IsAntisymmetric m n

-- a key of a list is the first or one of the others
in_rest : (key q : ℕ) (keys : List ℕ) → q ≢ key → Contains (key ∷ keys) q → Contains keys q
in_rest key q keys apart (zero, lt, e) = absurd (apart (sym e))
in_rest key q keys apart (suc n, lt, e) = (n, omega arith, e)

in_none : (q : ℕ) → Contains [] q → ⊥
in_none q (n, lt, e) = omega arith

-- the map has each value whose key is listed
pub get-map_of : (keys : List ℕ) (value : ℕ → Option ℕ) (q : ℕ) → (value q ≡ None) ⊎ Contains keys q → get (map_of keys value) q ≡ value q
get-map_of [] value q (inl none) = get-empty nat_cmp q ∙ sym none
get-map_of [] value q (inr has) = absurd (in_none q has)
get-map_of (key ∷ keys) value q known = by_value (get-map_of keys value q) (value key) refl (q == key) refl
  where
    rest : (value q ≡ None) ⊎ Contains (key ∷ keys) q → q ≢ key → (value q ≡ None) ⊎ Contains keys q
    rest (inl none) apart = inl none
    rest (inr has) apart = inr (in_rest key q keys apart has)

    by_value : ((value q ≡ None) ⊎ Contains keys q → get (map_of keys value) q ≡ value q) → (o : Option ℕ) → value key ≡ o → (b : Bool) → (q == key) ≡ b →
        get (put_value key o (map_of keys value)) q ≡ value q
    by_value ih None e true at = ih (inl (ap value (eqb-true q key at) ∙ e))
    by_value ih None e false at = ih (rest known (differ q key at))
    by_value ih (Some v) e true at = get-inserted (map_of keys value) key v q ∙ ap (λ b. cond b (Some v) (get (map_of keys value) q)) at ∙ sym (ap value (eqb-true q key at) ∙ e)
    by_value ih (Some v) e false at =
        get-inserted (map_of keys value) key v q ∙ ap (λ b. cond b (Some v) (get (map_of keys value) q)) at ∙ ih (rest known (differ q key at))
