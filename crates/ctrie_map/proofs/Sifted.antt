-- What a closure leaves of pairs.
use Rattle.std.specs.Prelude.{◌≡◌, ◌<◌, ◌≤◌, ◌+◌, ℕ, Bool, true, false, cond, T, ◌&&◌, ◌||◌, List, [], ◌∷◌, ◌++◌, length, if◌then◌else◌, Option, Some, None, slice_set}
use Rattle.std.specs.Cmp.{nat_cmp_total, unsigned_tied}
use Rattle.std.specs.FinMap as map
use Rattle.std.specs.FinMap.{same_map, nat_cmp-IsAntisymmetric}
use Rattle.std.specs.FinMap.Entries.{below_all, find, is_sorted}
use Rattle.std.specs.Ordering.{is_eq, is_lt, nat_cmp}
use Rattle.std.specs.declared.cmp.Ordering.{Ordering}
use Rattle.std.specs.declared.cmp.Ordering.TheVariants.{Less, Equal, Greater}
use Rattle.std.proofs.Common.{refl, sym, ap, subst, arith, drop, take, get_or, eqb, eqb-true, ◌∙◌}
use Rattle.std.proofs.lemmas.List.{append-nil, append_assoc, drop_all, drop_more, drop-set-lt, take_more_set}
use Rattle.ctrie_map.specs.Vocabulary.{KeyMap}
use Rattle.ctrie_map.specs.declared.batches.Batch.TheVariants.{Removes}
use Rattle.ctrie_map.specs.Batches.{changed_all}
use Rattle.ctrie_map.specs.Retaining.{CanBeAsked, Sifts}

abbrev Pairs : Type 0
Pairs = List (ℕ × ℕ)

-- ---- one after the other

module _ {F : Type 0} (asks : F → ℕ → ℕ → Bool → F → Type 0) where
  -- What is left from a place on decides over all: those before it that aren't wanted stand in front.
  abbrev pub IsSifting : F → Pairs → F → Pairs → ℕ → ℕ → Type 0
  IsSifting first all f left at many =
      (wanted unwanted : Pairs) → Sifts asks f (drop at left) wanted unwanted → (every : Pairs) × Sifts asks first all every (take many left ++ unwanted)

  abbrev settled : Bool → Pairs → ℕ → ℕ × ℕ → Pairs
  settled wants left many pair = if wants then left else slice_set left many pair

  abbrev counted : Bool → ℕ → ℕ
  counted wants many = if wants then many else many + 1

  module _ (first : F) (all : Pairs) (f next : F) (left : Pairs) (at many : ℕ) (within : at < length left) (few : many ≤ at) (sifting : IsSifting first all f left at many)
      (pair : ℕ × ℕ) (is : pair ≡ get_or left at pair) where
    split : pair ∷ drop (at + 1) left ≡ drop at left
    split = ap (λ p. p ∷ drop (at + 1) left) is ∙ sym (drop_more left at pair within)

    goes_on_by : (wants : Bool) → asks f pair.0 pair.1 wants next → IsSifting first all next (settled wants left many pair) (at + 1) (counted wants many)
    goes_on_by true asked wanted unwanted rest =
        sifting (pair ∷ wanted) unwanted (subst (λ xs. Sifts asks f xs (pair ∷ wanted) unwanted) split (true, next, wanted, unwanted, asked, rest, refl, refl))
    goes_on_by false asked wanted unwanted rest =
        let below : many < at + 1 = omega (arith, few) in
        let within_too : many < length left = omega (arith, few, within) in
        let here = subst (λ xs. Sifts asks next xs wanted unwanted) (drop-set-lt (at + 1) left many pair below) rest in
        let so = sifting wanted (pair ∷ unwanted) (subst (λ xs. Sifts asks f xs wanted (pair ∷ unwanted)) split (false, next, wanted, unwanted, asked, here, refl, refl)) in
        let joined : take many left ++ pair ∷ unwanted ≡ take (many + 1) (slice_set left many pair) ++ unwanted =
        sym (append_assoc (take many left) (pair ∷ []) unwanted) ∙ ap (λ xs. xs ++ unwanted) (sym (take_more_set left many pair within_too)) in
        (so.0, subst (Sifts asks first all so.0) joined so.1)

    pub goes_on : (wants : Bool) → asks f pair.0 pair.1 wants next → (after : Pairs) → after ≡ settled wants left many pair → (count : ℕ) → count ≡ counted wants many →
        IsSifting first all next after (at + 1) count
    goes_on wants asked after is_so count counts =
        subst (λ n. IsSifting first all next after (at + 1) n) (sym counts) (subst (λ xs. IsSifting first all next xs (at + 1) (counted wants many)) (sym is_so) (goes_on_by wants asked))

    -- where it may be asked of what is left, it may be of this pair, and then of those behind it
    module _ (Allows : F → ℕ → ℕ → Type 0) (can : CanBeAsked Allows asks f (drop at left)) where
      pub asked_now : Allows f pair.0 pair.1
      asked_now = can [] pair.0 pair.1 (drop (at + 1) left) f (sym split) refl

      behind : (wants : Bool) → drop (at + 1) (settled wants left many pair) ≡ drop (at + 1) left
      behind true = refl
      behind false = drop-set-lt (at + 1) left many pair (omega (arith, few))

      pub asked_then : (wants : Bool) → asks f pair.0 pair.1 wants next → (after : Pairs) → after ≡ settled wants left many pair → CanBeAsked Allows asks next (drop (at + 1) after)
      asked_then wants asked after is_so before key value rest now are folds =
          can (pair ∷ before) key value rest now (sym split ∙ ap (λ xs. pair ∷ xs) (sym (behind wants) ∙ sym (ap (drop (at + 1)) is_so) ∙ are)) (next, (wants, asked), folds)

  pub starts : (first : F) (all : Pairs) → IsSifting first all first all 0 0
  starts first all wanted unwanted sifts = (wanted, sifts)

  pub ends : (first : F) (all : Pairs) (f : F) (left : Pairs) (at many : ℕ) → length left ≤ at → IsSifting first all f left at many →
      (every : Pairs) × Sifts asks first all every (take many left)
  ends first all f left at many over sifting =
      let so = sifting [] [] (subst (λ xs. Sifts asks f xs [] []) (sym (drop_all at left over)) (refl, refl)) in
      (so.0, subst (Sifts asks first all so.0) (append-nil (take many left)) so.1)

  -- ---- in the order of keys

  both : (a b : Bool) → T a → T b → T (a && b)
  both true b p q = q
  both false b p q = p

  first_of : (a b : Bool) → T (a && b) → T a
  first_of true b p = tt
  first_of false b p = p

  second_of : (a b : Bool) → T (a && b) → T b
  second_of true b p = p
  second_of false b p = absurd p

  below_parts : (x : ℕ) (f : F) (pairs wanted unwanted : Pairs) → Sifts asks f pairs wanted unwanted → T (below_all nat_cmp x pairs) →
      T (below_all nat_cmp x wanted) × T (below_all nat_cmp x unwanted)
  below_parts x f [] wanted unwanted (none, others) below = (subst (λ xs. T (below_all nat_cmp x xs)) (sym none) tt, subst (λ xs. T (below_all nat_cmp x xs)) (sym others) tt)
  below_parts x f (pair ∷ pairs) wanted unwanted (true, next, more, less, asked, rest, are, others) below =
      let (p, q) = below_parts x next pairs more less rest (second_of (is_lt (nat_cmp x pair.0)) (below_all nat_cmp x pairs) below) in (
        subst (λ xs. T (below_all nat_cmp x xs)) (sym are)
            (both (is_lt (nat_cmp x pair.0)) (below_all nat_cmp x more) (first_of (is_lt (nat_cmp x pair.0)) (below_all nat_cmp x pairs) below) p),
        subst (λ xs. T (below_all nat_cmp x xs)) (sym others) q,
      )
  below_parts x f (pair ∷ pairs) wanted unwanted (false, next, more, less, asked, rest, are, others) below =
      let (p, q) = below_parts x next pairs more less rest (second_of (is_lt (nat_cmp x pair.0)) (below_all nat_cmp x pairs) below) in (
        subst (λ xs. T (below_all nat_cmp x xs)) (sym are) p,
        subst (λ xs. T (below_all nat_cmp x xs)) (sym others)
            (both (is_lt (nat_cmp x pair.0)) (below_all nat_cmp x less) (first_of (is_lt (nat_cmp x pair.0)) (below_all nat_cmp x pairs) below) q),
      )

  sorted_parts : (f : F) (pairs wanted unwanted : Pairs) → Sifts asks f pairs wanted unwanted → T (is_sorted nat_cmp pairs) → T (is_sorted nat_cmp wanted)
  sorted_parts f [] wanted unwanted (none, others) sorted = subst (λ xs. T (is_sorted nat_cmp xs)) (sym none) tt
  sorted_parts f (pair ∷ pairs) wanted unwanted (true, next, more, less, asked, rest, are, others) sorted =
      let under = first_of (below_all nat_cmp pair.0 pairs) (is_sorted nat_cmp pairs) sorted in
      subst (λ xs. T (is_sorted nat_cmp xs)) (sym are)
      (both (below_all nat_cmp pair.0 more) (is_sorted nat_cmp more) (below_parts pair.0 next pairs more less rest under).0
      (sorted_parts next pairs more less rest (second_of (below_all nat_cmp pair.0 pairs) (is_sorted nat_cmp pairs) sorted)))
  sorted_parts f (pair ∷ pairs) wanted unwanted (false, next, more, less, asked, rest, are, others) sorted =
      subst (λ xs. T (is_sorted nat_cmp xs)) (sym are)
      (sorted_parts next pairs more less rest (second_of (below_all nat_cmp pair.0 pairs) (is_sorted nat_cmp pairs) sorted))

  -- ---- what is found

  abbrev no_value : Option ℕ
  no_value = None

  -- the key is among these
  abbrev has_key : ℕ → Pairs → Bool
  has_key q [] = false
  has_key q (pair ∷ pairs) = eqb q pair.0 || has_key q pairs

  less_apart : (o : Ordering) → T (is_lt o) → is_eq o ≡ false
  less_apart Less p = refl
  less_apart Equal p = absurd p
  less_apart Greater p = absurd p

  apart : (x y : ℕ) → T (is_lt (nat_cmp x y)) → eqb x y ≡ false
  apart x y less = sym (unsigned_tied x y) ∙ less_apart (nat_cmp x y) less

  none_below : (x : ℕ) (pairs : Pairs) → T (below_all nat_cmp x pairs) → (find nat_cmp x pairs ≡ None) × (has_key x pairs ≡ false)
  none_below x [] below = (refl, refl)
  none_below x (pair ∷ pairs) below =
      let less = first_of (is_lt (nat_cmp x pair.0)) (below_all nat_cmp x pairs) below in
      let (none, lacks) = none_below x pairs (second_of (is_lt (nat_cmp x pair.0)) (below_all nat_cmp x pairs) below) in (
        ap (λ b. cond b (Some pair.1) (find nat_cmp x pairs)) (less_apart (nat_cmp x pair.0) less) ∙ none,
        ap (λ b. b || has_key x pairs) (apart x pair.0 less) ∙ lacks,
      )

  found_at : (q : ℕ) (pair : ℕ × ℕ) (pairs : Pairs) (b : Bool) → eqb q pair.0 ≡ b → find nat_cmp q (pair ∷ pairs) ≡ cond b (Some pair.1) (find nat_cmp q pairs)
  found_at q pair pairs b e = ap (λ t. cond t (Some pair.1) (find nat_cmp q pairs)) (unsigned_tied q pair.0 ∙ e)

  -- of what isn't wanted nothing is found
  left_by : (q : ℕ) (pair : ℕ × ℕ) (pairs more less : Pairs) → T (below_all nat_cmp pair.0 more) × T (below_all nat_cmp pair.0 less) →
      cond (has_key q less) no_value (find nat_cmp q pairs) ≡ find nat_cmp q more → (wants b : Bool) → eqb q pair.0 ≡ b →
      cond (has_key q (if wants then less else pair ∷ less)) no_value (find nat_cmp q (pair ∷ pairs)) ≡ find nat_cmp q (if wants then pair ∷ more else more)
  left_by q pair pairs more less under so true true e =
      let here : q ≡ pair.0 = eqb-true q pair.0 e in
      let none : has_key q less ≡ false = ap (λ k. has_key k less) here ∙ (none_below pair.0 less under.1).1 in
      ap (λ b. cond b no_value (find nat_cmp q (pair ∷ pairs))) none ∙ found_at q pair pairs true e ∙ sym (found_at q pair more true e)
  left_by q pair pairs more less under so true false e =
      ap (λ o. cond (has_key q less) no_value o) (found_at q pair pairs false e) ∙ so ∙ sym (found_at q pair more false e)
  left_by q pair pairs more less under so false true e =
      let here : q ≡ pair.0 = eqb-true q pair.0 e in
      ap (λ b. cond (b || has_key q less) no_value (find nat_cmp q (pair ∷ pairs))) e ∙ sym (ap (λ k. find nat_cmp k more) here ∙ (none_below pair.0 more under.0).0)
  left_by q pair pairs more less under so false false e =
      ap (λ b. cond (b || has_key q less) no_value (find nat_cmp q (pair ∷ pairs))) e ∙ ap (λ o. cond (has_key q less) no_value o) (found_at q pair pairs false e) ∙ so

  left_over : (f : F) (pairs wanted unwanted : Pairs) → Sifts asks f pairs wanted unwanted → T (is_sorted nat_cmp pairs) → (q : ℕ) →
      cond (has_key q unwanted) no_value (find nat_cmp q pairs) ≡ find nat_cmp q wanted
  left_over f [] wanted unwanted (none, others) sorted q = ap (λ xs. cond (has_key q xs) no_value None) others ∙ sym (ap (find nat_cmp q) none)
  left_over f (pair ∷ pairs) wanted unwanted (wants, next, more, less, asked, rest, are, others) sorted q =
      let so = left_over next pairs more less rest (second_of (below_all nat_cmp pair.0 pairs) (is_sorted nat_cmp pairs) sorted) q in
      let under = below_parts pair.0 next pairs more less rest (first_of (below_all nat_cmp pair.0 pairs) (is_sorted nat_cmp pairs) sorted) in
      ap (λ xs. cond (has_key q xs) no_value (find nat_cmp q (pair ∷ pairs))) others
      ∙ left_by q pair pairs more less under so wants (eqb q pair.0) refl ∙ sym (ap (find nat_cmp q) are)

  removed : (b c : Bool) (o : Option ℕ) → cond b no_value (cond c no_value o) ≡ cond (c || b) no_value o
  removed true true o = refl
  removed true false o = refl
  removed false true o = refl
  removed false false o = refl

  taken_out : (m : KeyMap) (unwanted : Pairs) (q : ℕ) → map.get (changed_all Removes m unwanted) q ≡ cond (has_key q unwanted) no_value (map.get m q)
  taken_out m [] q = refl
  taken_out m (pair ∷ pairs) q =
      taken_out (map.remove m pair.0) pairs q
      ∙ ap (λ o. cond (has_key q pairs) no_value o)
      (map.get-remove nat_cmp_total m pair.0 q ∙ ap (λ b. cond b no_value (map.get m q)) (unsigned_tied q pair.0)) ∙ removed (has_key q pairs) (eqb q pair.0) (map.get m q)

  -- the map has what is wanted of it, where the others are taken out
  pub wanted_left : (f : F) (m : KeyMap) (wanted unwanted : Pairs) → Sifts asks f (map.entries m) wanted unwanted → map.entries (changed_all Removes m unwanted) ≡ wanted
  wanted_left f m wanted unwanted sifts =
      let sorted : T (is_sorted nat_cmp wanted) = sorted_parts f (map.entries m) wanted unwanted sifts (map.entries_sorted m) in
      let same : changed_all Removes m unwanted ≡ map.from_sorted wanted =
      same_map nat_cmp_total nat_cmp-IsAntisymmetric (changed_all Removes m unwanted) (map.from_sorted wanted)
      (λ q. taken_out m unwanted q ∙ ap (λ o. cond (has_key q unwanted) no_value o) (map.get-entries m q)
      ∙ left_over f (map.entries m) wanted unwanted sifts (map.entries_sorted m) q ∙ sym (map.get-from_sorted nat_cmp wanted q sorted)) in
      ap map.entries same ∙ map.entries-from_sorted nat_cmp wanted sorted
