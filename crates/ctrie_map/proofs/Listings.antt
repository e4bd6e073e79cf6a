-- Parts of a scan, each behind the last key of the one before, are one listing.
use Rattle.std.proofs.Common.{◌≡◌, ◌≢◌, ℕ, zero, suc, ◌+◌, ◌&&◌, Bool, true, false, cond, is_lt, nat_lt, T, List, [], ◌∷◌, ◌++◌, length, take, drop, Contains, Option, Some, None}
use Rattle.std.proofs.Common.{refl, sym, ap, subst, ◌∙◌, arith, append_assoc, ne_eqb}
use Rattle.std.specs.FinMap as map
use Rattle.std.specs.FinMap.Entries.{below_all, is_sorted}
use Rattle.std.specs.List.{filter}
use Rattle.std.specs.Ordering.{nat_cmp}
use Rattle.std.proofs.lemmas.Bool.Decides.{nat_tests}
use Rattle.std.proofs.lemmas.List.{take-append-drop, take_all}
use Rattle.ctrie_map.specs.Vocabulary.{hash_of, put_by, sorted_by, HashKind, comes_before, list_depth}
use Rattle.ctrie_map.specs.Beneath.proof_core.specs.Scanning.{by_indices, is_behind, scan_order, scanned}
use Rattle.ctrie_map.specs.Beneath.proof_core.proofs.Firsts.{length_sorted}
use Rattle.ctrie_map.specs.Beneath.proof_core.proofs.Found.{there_found}
use Rattle.ctrie_map.specs.Beneath.proof_core.proofs.Scanning.Order.{scan_is_order}
use Rattle.ctrie_map.specs.Beneath.proof_core.proofs.Sorted.{into_sorted}
use Rattle.ctrie_map.specs.Beneath.proof_core.proofs.Taking.{filter_all}
use Rattle.ctrie_map.specs.Beneath.proof_contents.proofs.Pairs.Lists.{AreApart, EachKey, Pairs, each-weaker}
use Rattle.ctrie_map.specs.Listings.{AllAreListed, PartsJoin}

-- ---- lists of pairs

each_middle : (P : ℕ → Type 0) (before : Pairs) (key value : ℕ) (behind : Pairs) → EachKey P (before ++ (key, value) ∷ behind) → P key
each_middle P [] key value behind each = each.0
each_middle P (p ∷ before) key value behind each = each_middle P before key value behind each.1

each_filtered : (P : ℕ → Type 0) (test : ℕ → Bool) (ps : Pairs) → EachKey P ps → EachKey P (filter (λ (p : ℕ × ℕ). test p.0) ps)
each_filtered P test [] each = tt
each_filtered P test (p ∷ ps) each = by_test (test p.0) (each_filtered P test ps each.1)
  where
    by_test : (b : Bool) → EachKey P (filter (λ (p : ℕ × ℕ). test p.0) ps) → EachKey P (cond b (p ∷ filter (λ (p : ℕ × ℕ). test p.0) ps) (filter (λ (p : ℕ × ℕ). test p.0) ps))
    by_test true rest = (each.0, rest)
    by_test false rest = rest

each_passes : (test : ℕ → Bool) (ps : Pairs) → EachKey (λ k. test k ≡ true) (filter (λ (p : ℕ × ℕ). test p.0) ps)
each_passes test [] = tt
each_passes test (p ∷ ps) = by_test (test p.0) refl (each_passes test ps)
  where
    by_test : (b : Bool) → test p.0 ≡ b → EachKey (λ k. test k ≡ true) (filter (λ (p : ℕ × ℕ). test p.0) ps) →
        EachKey (λ k. test k ≡ true) (cond b (p ∷ filter (λ (p : ℕ × ℕ). test p.0) ps) (filter (λ (p : ℕ × ℕ). test p.0) ps))
    by_test true is rest = (is, rest)
    by_test false is rest = rest

all_pass : (test : ℕ → Bool) (ps : Pairs) → EachKey (λ k. test k ≡ true) ps → filter (λ (p : ℕ × ℕ). test p.0) ps ≡ ps
all_pass test [] each = refl
all_pass test (p ∷ ps) each = ap (λ b. cond b (p ∷ filter (λ (q : ℕ × ℕ). test q.0) ps) (filter (λ (q : ℕ × ℕ). test q.0) ps)) each.0 ∙ ap (λ qs. p ∷ qs) (all_pass test ps each.1)

-- a test that only passes what another one passes
filter_twice : (test other : ℕ → Bool) → ((k : ℕ) → test k ≡ true → other k ≡ true) → (ps : Pairs) →
    filter (λ (p : ℕ × ℕ). test p.0) (filter (λ (p : ℕ × ℕ). other p.0) ps) ≡ filter (λ (p : ℕ × ℕ). test p.0) ps
filter_twice test other passes [] = refl
filter_twice test other passes (p ∷ ps) = by_tests (other p.0) (test p.0) refl refl (filter_twice test other passes ps)
  where
    tested : Pairs → Pairs
    tested = filter (λ (q : ℕ × ℕ). test q.0)

    others : Pairs
    others = filter (λ (q : ℕ × ℕ). other q.0) ps

    by_tests : (b c : Bool) → other p.0 ≡ b → test p.0 ≡ c → tested others ≡ tested ps → tested (cond b (p ∷ others) others) ≡ cond c (p ∷ tested ps) (tested ps)
    by_tests true c is so rest = ap (λ t. cond t (p ∷ tested others) (tested others)) so ∙ ap (λ qs. cond c (p ∷ qs) qs) rest
    by_tests false false is so rest = rest
    by_tests false true is so rest = let bad : false ≡ true = sym is ∙ passes p.0 so in cc bad

take_plus : {A : Type 0} (n m : ℕ) (xs : List A) → take (n + m) xs ≡ take n xs ++ take m (drop n xs)
take_plus zero m xs = let none : zero + m ≡ m = omega arith in ap (λ k. take k xs) none
take_plus (suc n) zero [] = let more : suc n + zero ≡ suc n = omega arith in ap (λ k. take k []) more
take_plus (suc n) (suc m) [] = let more : suc n + suc m ≡ suc (n + suc m) = omega arith in ap (λ k. take k []) more
take_plus (suc n) m (x ∷ xs) = let more : suc n + m ≡ suc (n + m) = omega arith in ap (λ k. take k (x ∷ xs)) more ∙ ap (λ ys. x ∷ ys) (take_plus n m xs)

-- ---- the order of keys

other_key : (p q : ℕ × ℕ) → p.0 ≢ q.0 → comes_before p q ≡ nat_lt p.0 q.0
other_key p q apart = ap (λ b. cond b (nat_lt p.1 q.1) (nat_lt p.0 q.0)) (ne_eqb p.0 q.0 apart)

alone : (a b : ℕ) → comes_before (a, 0) (b, 0) ≡ nat_lt a b
alone a b = grind (arith, nat_tests)

module _ (kind : HashKind) where
  abbrev later : ℕ → ℕ → Bool
  later a b = is_behind kind (Some a) b

  abbrev less : ℕ × ℕ → ℕ × ℕ → Bool
  less = scan_order kind

  by_keys : (p q : ℕ × ℕ) → p.0 ≢ q.0 → less p q ≡ later p.0 q.0
  by_keys p q apart = ap (by_indices (list_depth kind) 0 (hash_of kind p.0) (hash_of kind q.0)) (other_key p q apart)

  of_keys : (a b : ℕ) → less (a, 0) (b, 0) ≡ later a b
  of_keys a b = ap (by_indices (list_depth kind) 0 (hash_of kind a) (hash_of kind b)) (alone a b)

  not_itself : (a : ℕ) → later a a ≡ false
  not_itself a = sym (of_keys a a) ∙ (scan_is_order kind).not_itself (a, 0)

  not_both : (a b : ℕ) → later a b ≡ true → later b a ≡ false
  not_both a b is = sym (of_keys b a) ∙ (scan_is_order kind).not_both (a, 0) (b, 0) (of_keys a b ∙ is)

  not_through : (a b c : ℕ) → later a b ≡ false → later b c ≡ false → later a c ≡ false
  not_through a b c h k = sym (of_keys a c) ∙ (scan_is_order kind).not_through (a, 0) (b, 0) (c, 0) (of_keys a b ∙ h) (of_keys b c ∙ k)

  one_of : (a b : ℕ) → a ≢ b → later a b ≡ false → later b a ≡ true
  one_of a b apart not = by_test (later b a) refl
    where
      by_test : (t : Bool) → later b a ≡ t → t ≡ true
      by_test true is = refl
      by_test false is = absurd (apart (ap (λ (p : ℕ × ℕ). p.0) ((scan_is_order kind).neither (a, 0) (b, 0) (of_keys a b ∙ not) (of_keys b a ∙ is))))

  through : (a b c : ℕ) → later a b ≡ true → later b c ≡ true → later a c ≡ true
  through a b c h k = by_test (later a c) refl
    where
      by_test : (t : Bool) → later a c ≡ t → t ≡ true
      by_test true is = refl
      by_test false is = let bad : false ≡ true = sym (not_through a c b is (not_both b c k)) ∙ h in cc bad

  -- ---- pairs of which each is behind all before it

  abbrev Climbs : Pairs → Type 0
  Climbs [] = Unit {0}
  Climbs (p ∷ ps) = EachKey (λ k. later p.0 k ≡ true) ps × Climbs ps

  put_each : (P : ℕ → Type 0) (p : ℕ × ℕ) (ps : Pairs) → P p.0 → EachKey P ps → EachKey P (put_by less p ps)
  put_each P p [] here each = (here, tt)
  put_each P p (q ∷ ps) here each = by_test (less p q) (put_each P p ps here each.1)
    where
      by_test : (t : Bool) → EachKey P (put_by less p ps) → EachKey P (cond t (p ∷ q ∷ ps) (q ∷ put_by less p ps))
      by_test true rest = (here, each)
      by_test false rest = (each.0, rest)

  sorted_each : (P : ℕ → Type 0) (ps : Pairs) → EachKey P ps → EachKey P (sorted_by less ps)
  sorted_each P [] each = tt
  sorted_each P (p ∷ ps) each = put_each P p (sorted_by less ps) each.0 (sorted_each P ps each.1)

  put_climbs : (p : ℕ × ℕ) (ps : Pairs) → EachKey (λ k. k ≢ p.0) ps → Climbs ps → Climbs (put_by less p ps)
  put_climbs p [] apart up = (tt, tt)
  put_climbs p (q ∷ ps) apart up = by_test (less p q) refl (put_climbs p ps apart.1 up.1)
    where
      other : p.0 ≢ q.0
      other same = apart.0 (sym same)

      by_test : (t : Bool) → less p q ≡ t → Climbs (put_by less p ps) → Climbs (cond t (p ∷ q ∷ ps) (q ∷ put_by less p ps))
      by_test true is rest =
          let here : later p.0 q.0 ≡ true = sym (by_keys p q other) ∙ is in
          ((here, each-weaker (λ k. later q.0 k ≡ true) (λ k. later p.0 k ≡ true) (λ k h. through p.0 q.0 k here h) ps up.0), up)
      by_test false is rest =
          let here : later q.0 p.0 ≡ true = one_of p.0 q.0 other (sym (by_keys p q other) ∙ is) in
          (put_each (λ k. later q.0 k ≡ true) p ps here up.0, rest)

  sorted_climbs : (ps : Pairs) → AreApart ps → Climbs (sorted_by less ps)
  sorted_climbs [] apart = tt
  sorted_climbs (p ∷ ps) apart = put_climbs p (sorted_by less ps) (sorted_each (λ k. k ≢ p.0) ps apart.0) (sorted_climbs ps apart.1)

  filter_climbs : (test : ℕ → Bool) (ps : Pairs) → Climbs ps → Climbs (filter (λ (p : ℕ × ℕ). test p.0) ps)
  filter_climbs test [] up = tt
  filter_climbs test (p ∷ ps) up = by_test (test p.0) (filter_climbs test ps up.1)
    where
      by_test : (b : Bool) → Climbs (filter (λ (q : ℕ × ℕ). test q.0) ps) → Climbs (cond b (p ∷ filter (λ (q : ℕ × ℕ). test q.0) ps) (filter (λ (q : ℕ × ℕ). test q.0) ps))
      by_test true rest = (each_filtered (λ k. later p.0 k ≡ true) test ps up.0, rest)
      by_test false rest = rest

  -- behind one of them is what comes after it
  behind_one : (before : Pairs) (last value : ℕ) (behind : Pairs) → Climbs (before ++ (last, value) ∷ behind) →
      filter (λ (p : ℕ × ℕ). later last p.0) (before ++ (last, value) ∷ behind) ≡ behind
  behind_one [] last value behind up =
      let passed = filter (λ (p : ℕ × ℕ). later last p.0) behind in
      ap (λ b. cond b ((last, value) ∷ passed) passed) (not_itself last) ∙ all_pass (later last) behind up.0
  behind_one (p ∷ before) last value behind up =
      let passed = filter (λ (q : ℕ × ℕ). later last q.0) (before ++ (last, value) ∷ behind) in
      let under = each_middle (λ k. later p.0 k ≡ true) before last value behind up.0 in
      ap (λ b. cond b (p ∷ passed) passed) (not_both p.0 last under) ∙ behind_one before last value behind up.1

  -- what is behind a key that is behind the cursor is too
  behind_both : (after : Option ℕ) (last k : ℕ) → is_behind kind after last ≡ true → later last k ≡ true → is_behind kind after k ≡ true
  behind_both None last k h g = refl
  behind_both (Some a) last k h g = through a last k h g

-- ---- entries

T_first : (a b : Bool) → T (a && b) → T a
T_first true b h = tt
T_first false b h = absurd h

T_second : (a b : Bool) → T (a && b) → T b
T_second true b h = h
T_second false b h = absurd h

unlike : (k q : ℕ) → T (is_lt (nat_cmp k q)) → q ≢ k
unlike k q h same = grind (arith, nat_tests)

entries_each : (k : ℕ) (ps : Pairs) → T (below_all nat_cmp k ps) → EachKey (λ q. q ≢ k) ps
entries_each k [] h = tt
entries_each k (p ∷ ps) h = (unlike k p.0 (T_first _ _ h), entries_each k ps (T_second _ _ h))

entries_apart : (ps : Pairs) → T (is_sorted nat_cmp ps) → AreApart ps
entries_apart [] h = tt
entries_apart (p ∷ ps) h = (entries_each p.0 ps (T_first _ _ h), entries_apart ps (T_second _ _ h))

-- ---- the laws

pub parts_join : PartsJoin
parts_join kind m after room more part last value is =
    take_plus room more passed ∙ ap (λ rest. take room passed ++ take more rest) (sym behind)
  where
    sorted : Pairs
    sorted = sorted_by (scan_order kind) (map.entries m)

    passed : Pairs
    passed = filter (λ (p : ℕ × ℕ). is_behind kind after p.0) sorted

    rest : Pairs
    rest = drop room passed

    whole : passed ≡ part ++ (last, value) ∷ rest
    whole = sym (take-append-drop room passed) ∙ ap (λ taken. taken ++ rest) is ∙ append_assoc part ((last, value) ∷ []) rest

    climbs : Climbs kind (part ++ (last, value) ∷ rest)
    climbs = subst (Climbs kind) whole (filter_climbs kind (is_behind kind after) sorted (sorted_climbs kind (map.entries m) (entries_apart (map.entries m) (map.entries_sorted m))))

    there : is_behind kind after last ≡ true
    there = each_middle (λ k. is_behind kind after k ≡ true) part last value rest (subst (EachKey (λ k. is_behind kind after k ≡ true)) whole (each_passes (is_behind kind after) sorted))

    behind : filter (λ (p : ℕ × ℕ). is_behind kind (Some last) p.0) sorted ≡ rest
    behind =
        sym (filter_twice (is_behind kind (Some last)) (is_behind kind after) (λ k. behind_both kind after last k there) sorted)
        ∙ ap (filter (λ (p : ℕ × ℕ). is_behind kind (Some last) p.0)) whole ∙ behind_one kind part last value rest climbs

pub all_are_listed : AllAreListed
all_are_listed kind m room enough =
    (ap length all ∙ long, λ key value at. subst (λ ps. Contains ps (key, value)) (sym all) (into_sorted (scan_order kind) (map.entries m) (key, value) (there key value at)))
  where
    sorted : Pairs
    sorted = sorted_by (scan_order kind) (map.entries m)

    long : length sorted ≡ map.len m
    long = length_sorted (scan_order kind) (map.entries m) ∙ sym (map.len-entries m)

    all : scanned kind None room (map.entries m) ≡ sorted
    all = ap (take room) (filter_all sorted) ∙ take_all room sorted (omega (arith, long, enough))

    there : (key value : ℕ) → map.get m key ≡ Some value → Contains (map.entries m) (key, value)
    there key value at = there_found (map.entries m) key value (sym (map.get-entries m key) ∙ at)
