-- How many other keys of a hash a content has, counted by look-ups.
use Rattle.std.proofs.Common.{◌≡◌, ◌≢◌, ℕ, ◌≤◌, ◌==◌, ◌&&◌, Bool, true, false, cond, not, T, List, [], ◌∷◌, map, length, filter, is_some, Ordering, nat_cmp, is_eq, is_lt, Less}
use Rattle.std.proofs.Common.{Equal, Greater, refl, sym, ap, ap₂, subst, ◌∙◌, eqb-true, eq-eqb, ne_eqb}
use Rattle.std.specs.Cmp.{nat_cmp_total, eq_by_cmp_equiv, unsigned_tied}
use Rattle.std.specs.Ordering.{eq_by_cmp}
use Rattle.std.specs.List.{list_any, IsDistinct, AllByRecursion}
use Rattle.std.specs.FinMap.{get, keys, entries, entries_sorted, is_sorted, contains_key, contains_key-keys}
use Rattle.std.specs.FinMap.Entries.{below_all}
use Rattle.std.proofs.lemmas.Map.Made.{length-from_same_keys, length-le_from_is_member}
use Rattle.std.proofs.lemmas.Map.Views.{any-filter_same}
use Rattle.std.proofs.lemmas.List.Sums.{length-filter}
use Rattle.std.proofs.lemmas.Bool.{and_parts, not-true}
use Rattle.proof_contents.specs.Vocabulary.{KeyMap, others}
use Rattle.proof_contents.specs.Beneath.ctrie_base.proofs.SameTests.{same_tests}
use Rattle.proof_contents.proofs.Nodes.Branches.{differ}

-- a key stands in a list
abbrev pub is_among : List ℕ → ℕ → Bool
is_among ks q = list_any (eq_by_cmp nat_cmp q) ks

abbrev pub AreDistinct : List ℕ → Type 0
AreDistinct ks = IsDistinct (eq_by_cmp nat_cmp) ks

first : (a b : Bool) → T (a && b) → T a
first true b p = tt
first false b p = p

second : (a b : Bool) → T (a && b) → T b
second true b p = p
second false b p = absurd p

less_apart : (o : Ordering) → T (is_lt o) → is_eq o ≡ false
less_apart Less p = refl
less_apart Equal p = absurd p
less_apart Greater p = absurd p

keys_above : (k : ℕ) (es : List (ℕ × ℕ)) → T (below_all nat_cmp k es) → AllByRecursion (λ y. eq_by_cmp nat_cmp k y ≡ false) (map (λ (e : ℕ × ℕ). e.0) es)
keys_above k [] h = tt
keys_above k (e ∷ es) h = (less_apart (nat_cmp k e.0) (first _ _ h), keys_above k es (second _ _ h))

pub sorted_distinct : (es : List (ℕ × ℕ)) → T (is_sorted nat_cmp es) → AreDistinct (map (λ (e : ℕ × ℕ). e.0) es)
unfolding IsDistinct
sorted_distinct [] h = tt
sorted_distinct (e ∷ es) h = (keys_above e.0 es (first _ _ h), sorted_distinct es (second _ _ h))

keys_distinct : (m : KeyMap) → AreDistinct (keys m)
keys_distinct m = sorted_distinct (entries m) (entries_sorted m)

filter_apart : (p : ℕ → Bool) (k : ℕ) (ks : List ℕ) → AllByRecursion (λ y. eq_by_cmp nat_cmp k y ≡ false) ks → AllByRecursion (λ y. eq_by_cmp nat_cmp k y ≡ false) (filter p ks)
filter_apart p k [] h = tt
filter_apart p k (y ∷ ks) h = by_test (p y) (filter_apart p k ks h.1)
  where
    by_test : (b : Bool) → AllByRecursion (λ z. eq_by_cmp nat_cmp k z ≡ false) (filter p ks) → AllByRecursion (λ z. eq_by_cmp nat_cmp k z ≡ false) (cond b (y ∷ filter p ks) (filter p ks))
    by_test true rest = (h.0, rest)
    by_test false rest = rest

filter_distinct : (p : ℕ → Bool) (ks : List ℕ) → AreDistinct ks → AreDistinct (filter p ks)
unfolding IsDistinct
filter_distinct p [] h = tt
filter_distinct p (y ∷ ks) h = by_test (p y) (filter_distinct p ks h.1)
  where
    by_test : (b : Bool) → AreDistinct (filter p ks) → AreDistinct (cond b (y ∷ filter p ks) (filter p ks))
    by_test true rest = (filter_apart p y ks h.0, rest)
    by_test false rest = rest

module _ (hash : ℕ → ℕ) (m : KeyMap) (k : ℕ) where
  abbrev is_other : ℕ → Bool
  is_other q = (hash q == hash k) && not (q == k)

  among_others : (q : ℕ) → is_among (filter is_other (keys m)) q ≡ is_other q && contains_key m q
  among_others q =
      any-filter_same (eq_by_cmp nat_cmp q) is_other (is_other q) (λ x same. ap is_other (sym (eqb-true q x (sym (unsigned_tied q x) ∙ same)))) (keys m)
      ∙ ap (λ b. is_other q && b) (sym (contains_key-keys m q))

  -- what it is to be among the others
  of_others : (q : ℕ) → is_among (filter is_other (keys m)) q ≡ true → hash q ≡ hash k × q ≢ k × is_some (get m q) ≡ true
  of_others q e =
      let parts = and_parts (is_other q) (contains_key m q) (sym (among_others q) ∙ e) in
      let other = and_parts (hash q == hash k) (not (q == k)) parts.0 in
      (eqb-true (hash q) (hash k) other.0, differ q k (not-true (q == k) other.1), parts.1)

  -- there are no more than these, where each stands among them
  pub others_le : (ks : List ℕ) → ((q : ℕ) → hash q ≡ hash k → q ≢ k → is_some (get m q) ≡ true → is_among ks q ≡ true) → others hash m k ≤ length ks
  others_le ks each =
      subst (λ n. n ≤ length ks) (length-filter is_other (keys m))
      (length-le_from_is_member (eq_by_cmp_equiv nat_cmp_total) (filter is_other (keys m)) ks (filter_distinct is_other (keys m) (keys_distinct m))
      (λ q e. let o = of_others q e in each q o.0 o.1 o.2))

  -- there are just these
  pub others_are : (ks : List ℕ) → AreDistinct ks → ((q : ℕ) → hash q ≡ hash k → q ≢ k → is_some (get m q) ≡ true → is_among ks q ≡ true) →
      ((q : ℕ) → is_among ks q ≡ true → hash q ≡ hash k × q ≢ k × is_some (get m q) ≡ true) → others hash m k ≡ length ks
  others_are ks distinct each none_else =
      sym (length-filter is_other (keys m))
      ∙ length-from_same_keys (eq_by_cmp_equiv nat_cmp_total) (filter is_other (keys m)) ks (filter_distinct is_other (keys m) (keys_distinct m)) distinct
      (λ q. same_tests (is_among (filter is_other (keys m)) q) (is_among ks q) (λ e. let o = of_others q e in each q o.0 o.1 o.2)
      (λ e. let o = none_else q e in among_others q ∙ ap₂ (λ a b. a && b) (ap₂ (λ a b. a && not b) (eq-eqb (hash q) (hash k) o.0) (ne_eqb q k o.1)) o.2))
