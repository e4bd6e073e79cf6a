-- Lists of pairs of different keys: what is found in them, and that sorted by key they are the entries of a map.
use Rattle.std.proofs.Common.{◌≡◌, ◌≢◌, ℕ, suc, ◌<◌, ◌≤◌, ◌==◌, Bool, true, false, cond, T, nat_lt, List, [], ◌∷◌, ◌++◌, length, Option, Some, None, nat_cmp, is_lt, Less}
use Rattle.std.proofs.Common.{Equal, Greater, refl, sym, ap, subst, ◌∙◌, arith, eqb-true, eq-eqb, ne_eqb, lt-ltb, ltb-true, ltb-false}
use Rattle.std.specs.Cmp.{unsigned_tied}
use Rattle.std.specs.Ordering.{eq_by_cmp}
use Rattle.std.specs.FinMap.{get, entries, len, len-entries, from_sorted, find, is_sorted, get-from_sorted, entries-from_sorted}
use Rattle.std.specs.FinMap.Entries.{below_all}
use Rattle.proof_contents.specs.Vocabulary.{KeyMap, comes_before, put_pair, by_key}
use Rattle.proof_contents.specs.Beneath.history.proofs.EntryMaps.{both}
use Rattle.proof_contents.proofs.Values.Maps.{same_answers}

abbrev pub Pairs : Type 0
Pairs = List (ℕ × ℕ)

-- what is found of a key
abbrev pub found_in : ℕ → Pairs → Option ℕ
found_in q ps = find nat_cmp q ps

-- each key is such a one
abbrev pub EachKey : (ℕ → Type 0) → Pairs → Type 0
EachKey P [] = Unit {0}
EachKey P (p ∷ ps) = P p.0 × EachKey P ps

-- no key stands twice
abbrev pub AreApart : Pairs → Type 0
AreApart [] = Unit {0}
AreApart (p ∷ ps) = EachKey (λ k. k ≢ p.0) ps × AreApart ps

pub each-append : (P : ℕ → Type 0) (ps qs : Pairs) → EachKey P ps → EachKey P qs → EachKey P (ps ++ qs)
each-append P [] qs a b = b
each-append P (p ∷ ps) qs a b = (a.0, each-append P ps qs a.1 b)

pub each-weaker : (P Q : ℕ → Type 0) → ((k : ℕ) → P k → Q k) → (ps : Pairs) → EachKey P ps → EachKey Q ps
each-weaker P Q w [] a = tt
each-weaker P Q w (p ∷ ps) a = (w p.0 a.0, each-weaker P Q w ps a.1)

pub apart-append : (ps qs : Pairs) → AreApart ps → AreApart qs → EachKey (λ k. EachKey (λ l. l ≢ k) qs) ps → AreApart (ps ++ qs)
apart-append [] qs a b c = b
apart-append (p ∷ ps) qs a b c = (each-append (λ k. k ≢ p.0) ps qs a.0 c.0, apart-append ps qs a.1 b c.1)

-- ---- finding

pub found-first : (q v : ℕ) (ps : Pairs) → found_in q ((q, v) ∷ ps) ≡ Some v
found-first q v ps = ap (λ b. cond b (Some v) (found_in q ps)) (unsigned_tied q q ∙ eq-eqb q q refl)

pub found-later : (q k v : ℕ) (ps : Pairs) → q ≢ k → found_in q ((k, v) ∷ ps) ≡ found_in q ps
found-later q k v ps apart = ap (λ b. cond b (Some v) (found_in q ps)) (unsigned_tied q k ∙ ne_eqb q k apart)

pub found-none : (q : ℕ) (ps : Pairs) → EachKey (λ k. k ≢ q) ps → found_in q ps ≡ None
found-none q [] a = refl
found-none q (p ∷ ps) a = found-later q p.0 p.1 ps (λ e. a.0 (sym e)) ∙ found-none q ps a.1

pub found-append_left : (q : ℕ) (ps qs : Pairs) → EachKey (λ k. k ≢ q) qs → found_in q (ps ++ qs) ≡ found_in q ps
found-append_left q [] qs a = found-none q qs a
found-append_left q (p ∷ ps) qs a = ap (λ o. cond (eq_by_cmp nat_cmp q p.0) (Some p.1) o) (found-append_left q ps qs a)

pub found-append_right : (q : ℕ) (ps qs : Pairs) → EachKey (λ k. k ≢ q) ps → found_in q (ps ++ qs) ≡ found_in q qs
found-append_right q [] qs a = refl
found-append_right q (p ∷ ps) qs a = found-later q p.0 p.1 (ps ++ qs) (λ e. a.0 (sym e)) ∙ found-append_right q ps qs a.1

-- ---- sorting

-- a pair of another key comes before by its key
comes_by_key : (p q : ℕ × ℕ) → p.0 ≢ q.0 → comes_before p q ≡ nat_lt p.0 q.0
comes_by_key p q apart = ap (λ b. cond b (nat_lt p.1 q.1) (nat_lt p.0 q.0)) (ne_eqb p.0 q.0 apart)

put_each : (P : ℕ → Type 0) (p : ℕ × ℕ) (ps : Pairs) → P p.0 → EachKey P ps → EachKey P (put_pair p ps)
put_each P p [] a b = (a, tt)
put_each P p (q ∷ ps) a b = by_test (comes_before p q) (put_each P p ps a b.1)
  where
    by_test : (t : Bool) → EachKey P (put_pair p ps) → EachKey P (cond t (p ∷ q ∷ ps) (q ∷ put_pair p ps))
    by_test true rest = (a, b)
    by_test false rest = (b.0, rest)

pub by_key_each : (P : ℕ → Type 0) (ps : Pairs) → EachKey P ps → EachKey P (by_key ps)
by_key_each P [] a = tt
by_key_each P (p ∷ ps) a = put_each P p (by_key ps) a.0 (by_key_each P ps a.1)

put_length : (p : ℕ × ℕ) (ps : Pairs) → length (put_pair p ps) ≡ suc (length ps)
put_length p [] = refl
put_length p (q ∷ ps) = by_test (comes_before p q) (put_length p ps)
  where
    by_test : (t : Bool) → length (put_pair p ps) ≡ suc (length ps) → length (cond t (p ∷ q ∷ ps) (q ∷ put_pair p ps)) ≡ suc (suc (length ps))
    by_test true rest = refl
    by_test false rest = ap suc rest

pub by_key_length : (ps : Pairs) → length (by_key ps) ≡ length ps
by_key_length [] = refl
by_key_length (p ∷ ps) = put_length p (by_key ps) ∙ ap suc (by_key_length ps)

-- a new pair is found, and all others as before
put_found : (q : ℕ) (p : ℕ × ℕ) (ps : Pairs) → EachKey (λ k. k ≢ p.0) ps → found_in q (put_pair p ps) ≡ found_in q (p ∷ ps)
put_found q p [] a = refl
put_found q p (r ∷ ps) a = by_test (comes_before p r) (put_found q p ps a.1)
  where
    swapped : (b c : Bool) (x y : ℕ) (z : Option ℕ) → (b ≡ true → c ≡ true → ⊥) → cond c (Some y) (cond b (Some x) z) ≡ cond b (Some x) (cond c (Some y) z)
    swapped true true x y z no_both = absurd (no_both refl refl)
    swapped true false x y z no_both = refl
    swapped false c x y z no_both = refl

    tie : (k : ℕ) → eq_by_cmp nat_cmp q k ≡ true → q ≡ k
    tie k e = eqb-true q k (sym (unsigned_tied q k) ∙ e)

    by_test : (t : Bool) → found_in q (put_pair p ps) ≡ found_in q (p ∷ ps) → found_in q (cond t (p ∷ r ∷ ps) (r ∷ put_pair p ps)) ≡ found_in q (p ∷ r ∷ ps)
    by_test true rest = refl
    by_test false rest =
        ap (cond (eq_by_cmp nat_cmp q r.0) (Some r.1)) rest
        ∙ swapped (eq_by_cmp nat_cmp q p.0) (eq_by_cmp nat_cmp q r.0) p.1 r.1 (found_in q ps) (λ b c. a.0 (sym (tie r.0 c) ∙ tie p.0 b))

pub by_key_found : (q : ℕ) (ps : Pairs) → AreApart ps → found_in q (by_key ps) ≡ found_in q ps
by_key_found q [] a = refl
by_key_found q (p ∷ ps) a =
    put_found q p (by_key ps) (by_key_each (λ k. k ≢ p.0) ps a.0) ∙ ap (cond (eq_by_cmp nat_cmp q p.0) (Some p.1)) (by_key_found q ps a.1)

-- keys that rise
abbrev Rise : Pairs → Type 0
Rise [] = Unit {0}
Rise (p ∷ ps) = EachKey (λ k. p.0 < k) ps × Rise ps

put_rises : (p : ℕ × ℕ) (ps : Pairs) → EachKey (λ k. k ≢ p.0) ps → Rise ps → Rise (put_pair p ps)
put_rises p [] a r = (tt, tt)
put_rises p (q ∷ ps) a r = by_test (nat_lt p.0 q.0) refl (put_rises p ps a.1 r.1)
  where
    test_is : comes_before p q ≡ nat_lt p.0 q.0
    test_is = comes_by_key p q (λ e. a.0 (sym e))

    by_test : (t : Bool) → nat_lt p.0 q.0 ≡ t → Rise (put_pair p ps) → Rise (put_pair p (q ∷ ps))
    by_test true e rest =
        let lt : p.0 < q.0 = ltb-true p.0 q.0 e in
        subst (λ b. Rise (cond b (p ∷ q ∷ ps) (q ∷ put_pair p ps))) (sym (test_is ∙ e)) ((lt, each-weaker (λ k. q.0 < k) (λ k. p.0 < k) (λ k h. omega arith) ps r.0), r)
    by_test false e rest =
        let le : q.0 ≤ p.0 = ltb-false p.0 q.0 e in
        let apart : q.0 ≢ p.0 = a.0 in
        subst (λ b. Rise (cond b (p ∷ q ∷ ps) (q ∷ put_pair p ps))) (sym (test_is ∙ e)) (put_each (λ k. q.0 < k) p ps (omega arith) r.0, rest)

by_key_rises : (ps : Pairs) → AreApart ps → Rise (by_key ps)
by_key_rises [] a = tt
by_key_rises (p ∷ ps) a = put_rises p (by_key ps) (by_key_each (λ k. k ≢ p.0) ps a.0) (by_key_rises ps a.1)

rise_below : (x : ℕ) (ps : Pairs) → EachKey (λ k. x < k) ps → T (below_all nat_cmp x ps)
rise_below x [] a = tt
rise_below x (p ∷ ps) a = both _ _ (subst (λ b. T (is_lt (cond b Less (cond (x == p.0) Equal Greater)))) (sym (lt-ltb x p.0 a.0)) tt) (rise_below x ps a.1)

rise_sorted : (ps : Pairs) → Rise ps → T (is_sorted nat_cmp ps)
rise_sorted [] r = tt
rise_sorted (p ∷ ps) r = both _ _ (rise_below p.0 ps r.0) (rise_sorted ps r.1)

-- ---- a map of pairs

-- pairs of different keys in which is found what the map has are, sorted by key, its entries
pub entries_are : (m : KeyMap) (ps : Pairs) → AreApart ps → ((q : ℕ) → found_in q ps ≡ get m q) → by_key ps ≡ entries m
entries_are m ps apart same =
    let sorted = rise_sorted (by_key ps) (by_key_rises ps apart) in
    sym (entries-from_sorted nat_cmp (by_key ps) sorted)
    ∙ ap entries (same_answers (from_sorted (by_key ps)) m (λ q. get-from_sorted nat_cmp (by_key ps) q sorted ∙ by_key_found q ps apart ∙ same q))

pub count_is : (m : KeyMap) (ps : Pairs) → AreApart ps → ((q : ℕ) → found_in q ps ≡ get m q) → length ps ≡ len m
count_is m ps apart same = sym (by_key_length ps) ∙ ap length (entries_are m ps apart same) ∙ sym (len-entries m)
