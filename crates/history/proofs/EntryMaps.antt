-- Finite maps that are made of the entries of a `BTreeMap`.
use Rattle.std.proofs.Common.{◌≡◌, ℕ, Bool, true, false, cond, ◌&&◌, T, List, [], ◌∷◌, length, Option, Some, None, is_some, nat_cmp, is_lt, Less, sym, refl, ap, ◌∙◌, subst, eqb→eq}
use Rattle.std.specs.Cmp.{nat_cmp_total, eq_by_cmp_equiv, unsigned_tied}
use Rattle.std.specs.Ordering.{eq_by_cmp}
use Rattle.std.specs.List.{AllByRecursion}
use Rattle.std.specs.List.Sorted.{IsStrictlySortedBy}
use Rattle.std.specs.Map.{lookup, keys_of}
use Rattle.std.specs.BTreeMap.{is_at}
use Rattle.std.specs.FinMap.{FinMap, get, insert, remove, len, len-entries, entries, find, is_sorted, from_entries, same_map, get-insert}
use Rattle.std.specs.FinMap.{get-remove, get-from_entries, get-from_sorted, entries-from_sorted, nat_cmp-IsAntisymmetric}
use Rattle.std.specs.FinMap.Entries.{below_all}
use Rattle.std.proofs.lemmas.Map.Keys.{sorted_head, sorted_tail}

pub both : (a b : Bool) → T a → T b → T (a && b)
both true b p q = q
both false b p q = p

-- keys that compare alike are one
tied : (q k : ℕ) → T (eq_by_cmp nat_cmp q k) → q ≡ k
tied q k h = eqb→eq q k (subst T (unsigned_tied q k) h)

-- a test for a value that failed
pub none_from : {X : Type 0} (o : Option X) (b : Bool) → b ≡ is_some o → b ≡ false → o ≡ None
none_from None b e f = refl
none_from (Some x) b e f = absurd (let bad : true ≡ false = sym e ∙ f in cc)

module _ {X : Type 0} where
  -- the two words for a look-up are one
  find_is : (q : ℕ) (es : List (ℕ × X)) → find nat_cmp q es ≡ lookup (is_at (nat_cmp q)) es
  find_is q [] = refl
  find_is q (e ∷ es) = ap (cond (is_at (nat_cmp q) e.0) (Some e.1)) (find_is q es)

  -- what the map has at a key
  pub get_made : (es : List (ℕ × X)) (q : ℕ) → get (from_entries {R = nat_cmp} es) q ≡ lookup (is_at (nat_cmp q)) es
  get_made es q = get-from_entries nat_cmp_total es q ∙ find_is q es

  -- a key below all
  below : (k : ℕ) (es : List (ℕ × X)) → AllByRecursion (λ y. nat_cmp k y ≡ Less) (keys_of es) → T (below_all nat_cmp k es)
  below k [] h = tt
  below k (e ∷ es) h = both _ _ (subst (λ r. T (is_lt r)) (sym h.0) tt) (below k es h.1)

  -- a `BTreeMap`'s keys rise as a finite map's do
  rising : (es : List (ℕ × X)) → IsStrictlySortedBy nat_cmp (keys_of es) → T (is_sorted nat_cmp es)
  rising [] h = tt
  rising (e ∷ es) h = both _ _ (below e.0 es (sorted_head nat_cmp e.0 (keys_of es) h)) (rising es (sorted_tail nat_cmp e.0 (keys_of es) h))

  -- the map of entries in order has those entries
  pub entries_made : (es : List (ℕ × X)) → IsStrictlySortedBy nat_cmp (keys_of es) → entries (from_entries {R = nat_cmp} es) ≡ es
  entries_made es h =
      let s = rising es h in
      ap entries (same_map nat_cmp_total nat_cmp-IsAntisymmetric _ _ (λ q. get-from_entries nat_cmp_total es q ∙ sym (get-from_sorted nat_cmp es q s)))
      ∙ entries-from_sorted nat_cmp es s

  pub len_made : (es : List (ℕ × X)) → IsStrictlySortedBy nat_cmp (keys_of es) → len (from_entries {R = nat_cmp} es) ≡ length es
  len_made es h = len-entries (from_entries es) ∙ ap length (entries_made es h)

  -- entries that differ at one key make maps that differ there
  one_put : (es fs : List (ℕ × X)) (k : ℕ) (v : X) → ((q : ℕ) → lookup (is_at (nat_cmp q)) fs ≡ cond (is_at (nat_cmp k) q) (Some v) (lookup (is_at (nat_cmp q)) es))
      → from_entries {R = nat_cmp} fs ≡ insert (from_entries es) k v
  one_put es fs k v h = same_map nat_cmp_total nat_cmp-IsAntisymmetric _ _ (λ q.
      get_made fs q ∙ h q ∙ ap (λ b. cond b (Some v) (lookup (is_at (nat_cmp q)) es)) ((eq_by_cmp_equiv nat_cmp_total).symm k q)
      ∙ sym (get-insert nat_cmp_total (from_entries es) k v q ∙ ap (cond (eq_by_cmp nat_cmp q k) (Some v)) (get_made es q)))

  -- entries without one key make the map without it
  one_removed : (es fs : List (ℕ × X)) (k : ℕ) → ((q : ℕ) → lookup (is_at (nat_cmp q)) fs ≡ cond (is_at (nat_cmp k) q) None (lookup (is_at (nat_cmp q)) es))
      → from_entries {R = nat_cmp} fs ≡ remove (from_entries es) k
  one_removed es fs k h = same_map nat_cmp_total nat_cmp-IsAntisymmetric _ _ (λ q.
      get_made fs q ∙ h q ∙ ap (λ b. cond b None (lookup (is_at (nat_cmp q)) es)) ((eq_by_cmp_equiv nat_cmp_total).symm k q)
      ∙ sym (get-remove nat_cmp_total (from_entries es) k q ∙ ap (cond (eq_by_cmp nat_cmp q k) None) (get_made es q)))

  same_or : (b : Bool) (w o : Option X) → (T b → w ≡ o) → cond b w o ≡ o
  same_or true w o h = h tt
  same_or false w o h = refl

  -- what is there, put again, changes nothing
  pub put_again : (m : FinMap nat_cmp X) (k : ℕ) (v : X) → get m k ≡ Some v → insert m k v ≡ m
  put_again m k v is = same_map nat_cmp_total nat_cmp-IsAntisymmetric _ _ (λ q.
      get-insert nat_cmp_total m k v q ∙ same_or (eq_by_cmp nat_cmp q k) (Some v) (get m q) (λ t. sym is ∙ ap (get m) (sym (tied q k t))))

  -- The same of a map that is seen as these entries: what it has, what one put and one removal make of it.
  pub get_seen : (es : List (ℕ × X)) (m : FinMap nat_cmp X) (q : ℕ) (o : Option X) → from_entries es ≡ m → o ≡ lookup (is_at (nat_cmp q)) es → o ≡ get m q
  get_seen es m q o seen is = is ∙ sym (get_made es q) ∙ ap (λ (m : FinMap nat_cmp X). get m q) seen

  pub put_seen : (es fs : List (ℕ × X)) (m : FinMap nat_cmp X) (k : ℕ) (v : X) → from_entries es ≡ m
      → ((q : ℕ) → lookup (is_at (nat_cmp q)) fs ≡ cond (is_at (nat_cmp k) q) (Some v) (lookup (is_at (nat_cmp q)) es)) → from_entries fs ≡ insert m k v
  put_seen es fs m k v seen put = one_put es fs k v put ∙ ap (λ (m : FinMap nat_cmp X). insert m k v) seen

  pub removed_seen : (es fs : List (ℕ × X)) (m : FinMap nat_cmp X) (k : ℕ) → from_entries es ≡ m
      → ((q : ℕ) → lookup (is_at (nat_cmp q)) fs ≡ cond (is_at (nat_cmp k) q) None (lookup (is_at (nat_cmp q)) es)) → from_entries fs ≡ remove m k
  removed_seen es fs m k seen removed = one_removed es fs k removed ∙ ap (λ (m : FinMap nat_cmp X). remove m k) seen
