-- All differences of two maps are found among keys that cover them.
use Rattle.std.proofs.Common.{◌≡◌, ◌≢◌, ◌⊎◌, ℕ, zero, suc, ◌+◌, ◌<◌, ◌≤◌, ◌==◌, not, Bool, true, false, cond, List, Contains, [], ◌∷◌, ◌++◌, map, length, drop, get_or}
use Rattle.std.proofs.Common.{Option, Some, None, refl, sym, ap, ap₂, subst, inl, inr, ◌∙◌}
use Rattle.std.proofs.Common.{append-nil, append_assoc, arith, eqb-true, eq-eqb}
use Rattle.std.specs.FinMap.{find}
use Rattle.std.specs.List.{All, filter, flat_map}
use Rattle.std.specs.List.Sorted.{IsStrictlySortedBy}
use Rattle.std.specs.Ordering.{nat_cmp}
use Rattle.std.proofs.lemmas.List.{at_drop_more, at_drop_all, map-append}
use Rattle.std.proofs.lemmas.List.Elements.{All-append, All-cons, All-nil}
use Rattle.std.proofs.lemmas.List.Kept.{IsStrictlySortedBy-filter}
use Rattle.machine_core.specs.declared.differing.Difference.{Difference}
use Rattle.machine_core.specs.Beneath.proof_contents.proofs.Values.Crowds.{AreDistinct}
use Rattle.machine_core.specs.Comparing.{AreDifferences, difference_of, key_of}
use Rattle.machine_core.specs.Vocabulary.{Covers}
use Rattle.proof_core.proofs.Found.{found_there, keys, there_found}

-- ---- one key after the other

pub add_more : (f : ℕ → List Difference) (ks : List ℕ) (i : ℕ) (d : ℕ) → i < length ks → flat_map f (drop i ks) ≡ f (get_or ks i d) ++ flat_map f (drop (i + 1) ks)
add_more f ks i d within = at_drop_more (flat_map f) ks i d within

pub add_none : (f : ℕ → List Difference) (ks : List ℕ) (i : ℕ) → length ks ≤ i → flat_map f (drop i ks) ≡ []
add_none f ks i past = at_drop_all (flat_map f) ks i past

pub ruleset adding = (arith, add_more, add_none, append-nil, append_assoc)

-- ---- what is found of keys

-- whether two values differ
abbrev differ : Option ℕ → Option ℕ → Bool
differ None None = false
differ (Some v) (Some w) = not (v == w)
differ before after = true

keys_by : (key : ℕ) (b a : Option ℕ) → map key_of (difference_of key b a) ≡ cond (differ b a) (key ∷ []) []
keys_by key None None = refl
keys_by key None (Some w) = refl
keys_by key (Some v) None = refl
keys_by key (Some v) (Some w) = by_test (v == w)
  where
    by_test : (t : Bool) → map key_of (cond t [] (record { key = key; before = Some v; after = Some w } ∷ [])) ≡ cond (not t) (key ∷ []) []
    by_test true = refl
    by_test false = refl

same_by : (b a : Option ℕ) → differ b a ≡ false → b ≡ a
same_by None None e = refl
same_by None (Some w) e = cc e
same_by (Some v) None e = cc e
same_by (Some v) (Some w) e = ap Some (eqb-true v w (by_test (v == w) e))
  where
    by_test : (t : Bool) → not t ≡ false → t ≡ true
    by_test true e = refl
    by_test false e = cc e

contains_passed : (p : ℕ → Bool) (ks : List ℕ) (i key : ℕ) → i < length ks → get_or ks i key ≡ key → p key ≡ true → Contains (filter p ks) key
contains_passed p [] i key within is passes = absurd (omega (arith, within))
contains_passed p (k ∷ ks) zero key within is passes =
    subst (λ b. Contains (cond b (k ∷ filter p ks) (filter p ks)) key) (sym (ap p is ∙ passes)) (0, omega arith, is)
contains_passed p (k ∷ ks) (suc i) key within is passes = by_test (p k) (contains_passed p ks i key (omega (arith, within)) is passes)
  where
    by_test : (b : Bool) → Contains (filter p ks) key → Contains (cond b (k ∷ filter p ks) (filter p ks)) key
    by_test true (n, below, at) = (suc n, omega (arith, below), at)
    by_test false there = there

module _ (f g : ℕ → Option ℕ) where
  abbrev pub differing : List ℕ → List Difference
  differing ks = flat_map (λ key. difference_of key (f key) (g key)) ks

  abbrev Holds : Difference → Type 0
  Holds d = (d.before ≡ f d.key) × (d.after ≡ g d.key) × (d.before ≢ d.after)

  holds_by : (key : ℕ) (b a : Option ℕ) → f key ≡ b → g key ≡ a → All Holds (difference_of key b a)
  holds_by key None None fb ga = All-nil Holds
  holds_by key None (Some w) fb ga = All-cons Holds _ [] (sym fb, sym ga, (λ e. cc e)) (All-nil Holds)
  holds_by key (Some v) None fb ga = All-cons Holds _ [] (sym fb, sym ga, (λ e. cc e)) (All-nil Holds)
  holds_by key (Some v) (Some w) fb ga = by_test (v == w) refl
    where
      apart : (v == w) ≡ false → Some v ≢ Some w
      apart e same = let one : v ≡ w = cc same in absurd (cc (sym e ∙ eq-eqb v w one))

      by_test : (t : Bool) → (v == w) ≡ t → All Holds (cond t [] (record { key = key; before = Some v; after = Some w } ∷ []))
      by_test true e = All-nil Holds
      by_test false e = All-cons Holds _ [] (sym fb, sym ga, apart e) (All-nil Holds)

  each_holds : (ks : List ℕ) → All Holds (differing ks)
  each_holds [] = All-nil Holds
  each_holds (k ∷ ks) = All-append Holds (difference_of k (f k) (g k)) (differing ks) (holds_by k (f k) (g k) refl refl) (each_holds ks)

  abbrev differs : ℕ → Bool
  differs key = differ (f key) (g key)

  keys_are : (ks : List ℕ) → map key_of (differing ks) ≡ filter differs ks
  keys_are [] = refl
  keys_are (k ∷ ks) =
      map-append key_of (difference_of k (f k) (g k)) (differing ks) ∙ ap₂ (λ xs ys. xs ++ ys) (keys_by k (f k) (g k)) (keys_are ks) ∙ by_test (differs k)
    where
      by_test : (b : Bool) → cond b (k ∷ []) [] ++ filter differs ks ≡ cond b (k ∷ filter differs ks) (filter differs ks)
      by_test true = refl
      by_test false = refl

  known_by : (ks : List ℕ) (key : ℕ) → Contains ks key → f key ≢ g key → (b : Bool) → differs key ≡ b → Contains (filter differs ks) key
  known_by ks key there apart true e = contains_passed differs ks there.0 key there.1 there.2 e
  known_by ks key there apart false e = absurd (apart (same_by (f key) (g key) e))

  pub are_differences : (ks : List ℕ) → IsStrictlySortedBy nat_cmp ks → ((key : ℕ) → f key ≢ g key → Contains ks key) → AreDifferences f g (differing ks)
  are_differences ks rising covered = record {
    rising = subst (IsStrictlySortedBy nat_cmp) (sym (keys_are ks)) (IsStrictlySortedBy-filter nat_cmp differs ks rising);
    each = each_holds ks;
    all = λ key apart. subst (λ ls. Contains ls key) (sym (keys_are ks)) (known_by ks key (covered key apart) apart (differs key) refl);
  }

-- a key of which two contents have different values is covered
module _ (ks : List ℕ) (olds news : List (ℕ × ℕ)) (old_apart : AreDistinct (keys olds)) (new_apart : AreDistinct (keys news)) (covers : Covers ks olds news) where
  covered_by : (key : ℕ) (b a : Option ℕ) → find nat_cmp key olds ≡ b → find nat_cmp key news ≡ a → b ≢ a → Contains ks key
  covered_by key None None fb ga apart = absurd (apart refl)
  covered_by key (Some v) a fb ga apart = by_cases (covers.0 (key, v) (there_found olds key v fb))
    where
      by_cases : Contains news (key, v) ⊎ Contains ks key → Contains ks key
      by_cases (inl there) = absurd (apart (sym (found_there news key v new_apart there) ∙ ga))
      by_cases (inr known) = known
  covered_by key None (Some w) fb ga apart = by_cases (covers.1 (key, w) (there_found news key w ga))
    where
      by_cases : Contains olds (key, w) ⊎ Contains ks key → Contains ks key
      by_cases (inl there) = absurd (cc (sym fb ∙ found_there olds key w old_apart there))
      by_cases (inr known) = known

  pub covered : (key : ℕ) → find nat_cmp key olds ≢ find nat_cmp key news → Contains ks key
  covered key apart = covered_by key (find nat_cmp key olds) (find nat_cmp key news) refl refl apart
