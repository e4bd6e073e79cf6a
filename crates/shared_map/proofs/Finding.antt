-- Lists of pairs that finite maps have: what is found in them, that no key stands twice, and how many keys have a hash.
use Rattle.std.proofs.Common.{◌≡◌, ◌≢◌, ℕ, ◌+◌, Bool, true, false, cond, not, ◌&&◌, ◌==◌}
use Rattle.std.proofs.Common.{T, [], ◌∷◌, ◌++◌, length, map, count_by, Option, Some, None}
use Rattle.std.proofs.Common.{nat_cmp, is_lt, Equal, eqb-true, eq-eqb, refl, sym, ap, subst, ◌∙◌, arith}
use Rattle.std.specs.Cmp.{nat_cmp_total, unsigned_tied}
use Rattle.std.specs.Ordering.{eq_by_cmp}
use Rattle.std.specs.FinMap as maps
use Rattle.std.specs.FinMap.{nat_cmp-IsAntisymmetric}
use Rattle.std.specs.FinMap.Entries.{below_all, where_key, find-where_key, is_sorted-where_key, same_entries}
use Rattle.std.proofs.lemmas.Bool.{true≢false}
use Rattle.std.proofs.lemmas.List.Sums.{length-filter, sum_by-cons}
use Rattle.shared_map.specs.Vocabulary.{others, KeyMap, by_key}
use Rattle.shared_map.specs.Beneath.proof_contents.proofs.Pairs.Lists.{AreApart, EachKey, Pairs, entries_are, found_in}

-- the first, or where it has none the other
abbrev pub or_else : Option ℕ → Option ℕ → Option ℕ
or_else None o = o
or_else (Some x) o = Some x

one_of : (b : Bool) (v : ℕ) (o p : Option ℕ) → cond b (Some v) (or_else o p) ≡ or_else (cond b (Some v) o) p
one_of true v o p = refl
one_of false v o p = refl

pub found_append : (q : ℕ) (ps qs : Pairs) → found_in q (ps ++ qs) ≡ or_else (found_in q ps) (found_in q qs)
found_append q [] qs = refl
found_append q (p ∷ ps) qs = ap (λ o. cond (eq_by_cmp nat_cmp q p.0) (Some p.1) o) (found_append q ps qs) ∙ one_of (eq_by_cmp nat_cmp q p.0) p.1 (found_in q ps) (found_in q qs)

-- ---- no key stands twice

pub first_part : (a b : Bool) → T (a && b) → T a
first_part true b p = tt
first_part false b p = p

pub second_part : (a b : Bool) → T (a && b) → T b
second_part true b p = p
second_part false b p = absurd p

less_apart : (k q : ℕ) → T (is_lt (nat_cmp k q)) → q ≢ k
less_apart k q lt same = not_less (subst (λ x. T (is_lt (nat_cmp k x))) same lt)
  where
    not_less : T (is_lt (nat_cmp k k)) → ⊥
    not_less h = grind (arith, h)

-- pairs whose keys rise
sorted_apart : (es : Pairs) → T (maps.is_sorted nat_cmp es) → AreApart es
sorted_apart [] h = tt
sorted_apart (e ∷ es) h = (below es (first_part _ _ h), sorted_apart es (second_part _ _ h))
  where
    below : (fs : Pairs) → T (below_all nat_cmp e.0 fs) → EachKey (λ q. q ≢ e.0) fs
    below [] h = tt
    below (f ∷ fs) h = (less_apart e.0 f.0 (first_part _ _ h), below fs (second_part _ _ h))

pub entries_apart : (m : KeyMap) → AreApart (maps.entries m)
entries_apart m = sorted_apart (maps.entries m) (maps.entries_sorted m)

-- sorted by key they are as they stand
pub entries_by_key : (m : KeyMap) → by_key (maps.entries m) ≡ maps.entries m
entries_by_key m = entries_are m (maps.entries m) (entries_apart m) (λ q. sym (maps.get-entries m q))

pub some_none : {X : Type 0} (x : X) → Some x ≡ None → ⊥
some_none x h = cc

-- a key that isn't found stands nowhere
pub not_found_apart : (q : ℕ) (ps : Pairs) → found_in q ps ≡ None → EachKey (λ k. k ≢ q) ps
not_found_apart q [] none = tt
not_found_apart q (p ∷ ps) none = by_test (eq_by_cmp nat_cmp q p.0) refl (not_found_apart q ps)
  where
    by_test : (b : Bool) → eq_by_cmp nat_cmp q p.0 ≡ b → (found_in q ps ≡ None → EachKey (λ k. k ≢ q) ps) → EachKey (λ k. k ≢ q) (p ∷ ps)
    by_test true e rest = absurd (some_none p.1 (sym (ap (λ b. cond b (Some p.1) (found_in q ps)) e) ∙ none))
    by_test false e rest = (
      λ same. true≢false (sym (unsigned_tied q p.0 ∙ eq-eqb q p.0 (sym same)) ∙ e),
      rest (sym (ap (λ b. cond b (Some p.1) (found_in q ps)) e) ∙ none),
    )

-- ---- how many keys have a hash

-- the keys of two maps that answer alike where the test holds
module _ (p : ℕ → Bool) (m n : KeyMap) (same : (q : ℕ) → p q ≡ true → maps.get m q ≡ maps.get n q) where
  alike : (q k : ℕ) → nat_cmp q k ≡ Equal → p k ≡ p q
  alike q k tie = ap p (sym (nat_cmp-IsAntisymmetric q k tie))

  by_test : (q : ℕ) (b : Bool) → p q ≡ b → cond b (maps.get m q) None ≡ cond b (maps.get n q) None
  by_test q true e = same q e
  by_test q false e = refl

  pub same_where : where_key nat_cmp p (maps.entries m) ≡ where_key nat_cmp p (maps.entries n)
  same_where =
      same_entries nat_cmp nat_cmp_total nat_cmp-IsAntisymmetric (where_key nat_cmp p (maps.entries m)) (where_key nat_cmp p (maps.entries n))
      (is_sorted-where_key nat_cmp p (maps.entries m) (maps.entries_sorted m)) (is_sorted-where_key nat_cmp p (maps.entries n) (maps.entries_sorted n))
      (λ q. find-where_key nat_cmp p q (alike q) (maps.entries m) ∙ ap (λ o. cond (p q) o None) (sym (maps.get-entries m q)) ∙ by_test q (p q) refl
      ∙ ap (λ o. cond (p q) o None) (maps.get-entries n q) ∙ sym (find-where_key nat_cmp p q (alike q) (maps.entries n)))

  counted : (es : Pairs) → count_by p (map (λ e. e.0) es) ≡ count_by (λ e. p e.0) es
  counted [] = refl
  counted (e ∷ es) =
      sum_by-cons (λ q. cond (p q) 1 0) e.0 (map (λ e. e.0) es) ∙ ap (λ c. cond (p e.0) 1 0 + c) (counted es) ∙ sym (sum_by-cons (λ e. cond (p e.0) 1 0) e es)

  counted_where : (es : Pairs) → count_by p (map (λ e. e.0) es) ≡ length (where_key nat_cmp p es)
  counted_where es = counted es ∙ sym (length-filter (λ e. p e.0) es)

  pub same_count : count_by p (maps.keys m) ≡ count_by p (maps.keys n)
  same_count = counted_where (maps.entries m) ∙ ap length same_where ∙ sym (counted_where (maps.entries n))

-- as many other keys have the key's hash in maps that answer alike at all keys of this hash
pub same_others : (hash : ℕ → ℕ) (m n : KeyMap) (k : ℕ) → ((q : ℕ) → hash q ≡ hash k → maps.get m q ≡ maps.get n q) → others hash m k ≡ others hash n k
same_others hash m n k same = same_count (λ q. (hash q == hash k) && not (q == k)) m n (λ q e. same q (eqb-true (hash q) (hash k) (first_true (hash q == hash k) (not (q == k)) e)))
  where
    first_true : (a b : Bool) → (a && b) ≡ true → a ≡ true
    first_true true b e = refl
    first_true false b e = e
