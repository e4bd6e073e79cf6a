-- How the numbers of keys with one hash change with the entries.
use Rattle.std.proofs.Common.{◌≡◌, ℕ, ◌+◌, ◌-◌, ◌<◌, Bool, true, false, cond, not, ◌&&◌, ◌==◌, List, [], ◌∷◌, Option, Some, None, is_some, IsSome, unwrap_or}
use Rattle.std.proofs.Common.{count_by, nat_cmp, is_eq, Less, Equal, Greater, sym, refl, ap, ap₂, ◌∙◌, arith, add_comm, zero-add, eqb-true, eq-eqb}
use Rattle.std.specs.Cmp.{unsigned_tied, nat_cmp_total, eq_by_cmp_equiv}
use Rattle.std.specs.Ordering.{match_ordering}
use Rattle.std.specs.List.Sorted.{IsStrictlySortedBy}
use Rattle.std.specs.Map.{lookup, keys_of, remove_entry}
use Rattle.std.specs.BTreeMap.{is_at, insert_entry}
use Rattle.std.specs.FinMap.{from_entries}
use Rattle.std.proofs.lemmas.Map.Lookups.{exact_unsigned}
use Rattle.std.proofs.lemmas.List.Sums.{sum_by-cons}
use Rattle.history.specs.Crowds.{crowd_of, kept_count, WritesCount, IsCounted}
use Rattle.history.specs.Effects.{others, is_crowded}
use Rattle.history.proofs.EntryMaps.{entries_made, get_made}

past_head : (a b x y x' y' : ℕ) → x' ≡ a + x → y' ≡ a + y → x ≡ b + y → x' ≡ b + y'
past_head a b x y x' y' p q r = omega arith

before_head : (a b x y x' y' : ℕ) → x' ≡ a + x → y' ≡ a + y → b + x ≡ y → b + x' ≡ y'
before_head a b x y x' y' p q r = omega arith

-- keys that don't compare alike differ
apart : (k q : ℕ) → is_eq (nat_cmp k q) ≡ false → (q == k) ≡ false
apart k q e = sym (unsigned_tied q k) ∙ (eq_by_cmp_equiv nat_cmp_total).symm q k ∙ e

one_other : (a b : Bool) (m n : ℕ) → b ≡ false → m ≡ n → cond (a && not b) 1 0 + m ≡ cond a 1 0 + n
one_other true true m n e f = absurd (let bad : true ≡ false = e in cc)
one_other true false m n e f = ap (λ x. 1 + x) f
one_other false b m n e f = ap (λ x. 0 + x) f

module _ (hash : ℕ → ℕ) where
  -- the first key, and the others
  crowd_of-cons : (h : ℕ) (e : ℕ × ℕ) (es : List (ℕ × ℕ)) → crowd_of hash (e ∷ es) h ≡ cond (hash e.0 == h) 1 0 + crowd_of hash es h
  crowd_of-cons h e es = sum_by-cons (λ q. cond (hash q == h) 1 0) e.0 (keys_of es)

  -- a new key counts once
  pub crowd_of-insert_entry : (h k v : ℕ) (es : List (ℕ × ℕ)) → lookup (is_at (nat_cmp k)) es ≡ None → crowd_of hash (insert_entry nat_cmp es k v) h ≡ cond (hash k == h) 1 0 + crowd_of hash es h
  crowd_of-insert_entry h k v [] none = crowd_of-cons h (k, v) []
  crowd_of-insert_entry h k v (e ∷ es) none =
      elim (nat_cmp k e.0) as (λ r. cond (is_eq r) (Some e.1) (lookup (is_at (nat_cmp k)) es) ≡ None
      → crowd_of hash (match_ordering r ((k, v) ∷ e ∷ es) ((e.0, v) ∷ es) (e ∷ insert_entry nat_cmp es k v)) h ≡ cond (hash k == h) 1 0 + crowd_of hash (e ∷ es) h) [
        | Less ↦ λ _. crowd_of-cons h (k, v) (e ∷ es)
        | Equal ↦ λ some. absurd (let bad : Some e.1 ≡ None = some in cc)
        | Greater ↦ λ rest. past_head _ _ _ _ _ _ (crowd_of-cons h e (insert_entry nat_cmp es k v)) (crowd_of-cons h e es) (crowd_of-insert_entry h k v es rest)
      ] none

  -- a key that is removed counts no more
  pub crowd_of-remove_entry : (h k v : ℕ) (es : List (ℕ × ℕ)) → lookup (is_at (nat_cmp k)) es ≡ Some v
      → cond (hash k == h) 1 0 + crowd_of hash (remove_entry (is_at (nat_cmp k)) es) h ≡ crowd_of hash es h
  crowd_of-remove_entry h k v [] some = absurd (let bad : None ≡ Some v = some in cc)
  crowd_of-remove_entry h k v (e ∷ es) some =
      elim (nat_cmp k e.0) as (λ r. nat_cmp k e.0 ≡ r → cond (is_eq r) (Some e.1) (lookup (is_at (nat_cmp k)) es) ≡ Some v
      → cond (hash k == h) 1 0 + crowd_of hash (cond (is_eq r) es (e ∷ remove_entry (is_at (nat_cmp k)) es)) h ≡ crowd_of hash (e ∷ es) h) [
        | Less ↦ λ _ rest. before_head _ _ _ _ _ _ (crowd_of-cons h e (remove_entry (is_at (nat_cmp k)) es)) (crowd_of-cons h e es) (crowd_of-remove_entry h k v es rest)
        | Equal ↦ λ tie _. ap (λ q. cond (hash q == h) 1 0 + crowd_of hash es h) (exact_unsigned k e.0 tie) ∙ sym (crowd_of-cons h e es)
        | Greater ↦ λ _ rest. before_head _ _ _ _ _ _ (crowd_of-cons h e (remove_entry (is_at (nat_cmp k)) es)) (crowd_of-cons h e es) (crowd_of-remove_entry h k v es rest)
      ] refl some

  -- the other keys with the hash of an absent key are all that have it
  others_of_absent : (k : ℕ) (es : List (ℕ × ℕ)) → lookup (is_at (nat_cmp k)) es ≡ None → count_by (λ q. (hash q == hash k) && not (q == k)) (keys_of es) ≡ crowd_of hash es (hash k)
  others_of_absent k [] none = refl
  others_of_absent k (e ∷ es) none =
      elim (nat_cmp k e.0) as (λ r. nat_cmp k e.0 ≡ r → cond (is_eq r) (Some e.1) (lookup (is_at (nat_cmp k)) es) ≡ None
      → count_by (λ q. (hash q == hash k) && not (q == k)) (keys_of (e ∷ es)) ≡ crowd_of hash (e ∷ es) (hash k)) [
        | Less ↦ λ r rest. sum_by-cons (λ q. cond ((hash q == hash k) && not (q == k)) 1 0) e.0 (keys_of es)
            ∙ one_other (hash e.0 == hash k) (e.0 == k) _ _ (apart k e.0 (ap is_eq r)) (others_of_absent k es rest) ∙ sym (crowd_of-cons (hash k) e es)
        | Equal ↦ λ _ some. absurd (let bad : Some e.1 ≡ None = some in cc)
        | Greater ↦ λ r rest. sum_by-cons (λ q. cond ((hash q == hash k) && not (q == k)) 1 0) e.0 (keys_of es)
            ∙ one_other (hash e.0 == hash k) (e.0 == k) _ _ (apart k e.0 (ap is_eq r)) (others_of_absent k es rest) ∙ sym (crowd_of-cons (hash k) e es)
      ] refl none

  -- what is counted of an absent key's hash are the other keys that have it
  pub others-crowd_of : (k : ℕ) (es : List (ℕ × ℕ)) → IsStrictlySortedBy nat_cmp (keys_of es) → lookup (is_at (nat_cmp k)) es ≡ None → others hash (from_entries es) k ≡ crowd_of hash es (hash k)
  others-crowd_of k es rising none =
      ap (λ (xs : List (ℕ × ℕ)). count_by (λ q. (hash q == hash k) && not (q == k)) (keys_of xs)) (entries_made es rising) ∙ others_of_absent k es none

one_count : (b : Bool) (n : ℕ) (o : Option ℕ) → unwrap_or (cond b (Some n) o) 0 ≡ cond b n (unwrap_or o 0)
one_count true n o = refl
one_count false n o = refl

-- the counts ds are cs with n at h
abbrev pub PutsCount : List (ℕ × ℕ) → List (ℕ × ℕ) → ℕ → ℕ → Type 0
PutsCount cs ds h n = (q : ℕ) → lookup (is_at (nat_cmp q)) ds ≡ cond (is_at (nat_cmp h) q) (Some n) (lookup (is_at (nat_cmp q)) cs)

-- what is kept after a count is written
pub kept_count-put : (es fs : List (ℕ × ℕ)) (h n : ℕ) → PutsCount es fs h n → WritesCount es fs h n
kept_count-put es fs h n put q =
    ap (λ o. unwrap_or o 0) (put q) ∙ one_count (is_at (nat_cmp h) q) n _ ∙ ap (λ b. cond b n (kept_count es q)) (unsigned_tied h q)

-- a count that is written at one hash: as it was, one more, one less
written_same : (f : ℕ → ℕ) (h q : ℕ) → cond (h == q) (f h) (f q) ≡ f q
written_same f h q = elim (h == q) as (λ b. (h == q) ≡ b → cond b (f h) (f q) ≡ f q) [
  | true ↦ λ e. ap f (eqb-true h q e)
  | false ↦ λ _. refl
] refl

written_more : (f : ℕ → ℕ) (h q : ℕ) → cond (h == q) (f h + 1) (f q) ≡ cond (h == q) 1 0 + f q
written_more f h q = elim (h == q) as (λ b. (h == q) ≡ b → cond b (f h + 1) (f q) ≡ cond b 1 0 + f q) [
  | true ↦ λ e. ap (λ x. f x + 1) (eqb-true h q e) ∙ add_comm (f q) 1
  | false ↦ λ _. sym (zero-add (f q))
] refl

written_less : (f : ℕ → ℕ) (h q n x : ℕ) → n + 1 ≡ f h → cond (h == q) 1 0 + x ≡ f q → cond (h == q) n (f q) ≡ x
written_less f h q n x one e = elim (h == q) as (λ b. (h == q) ≡ b → cond b 1 0 + x ≡ f q → cond b n (f q) ≡ x) [
  | true ↦ λ same e. let at : f h ≡ f q = ap f (eqb-true h q same) in omega arith
  | false ↦ λ _ e. sym e ∙ zero-add x
] refl e

module _ (hash : ℕ → ℕ) where
  -- a count that is written as it was
  pub IsCounted-room : (es cs ds : List (ℕ × ℕ)) (h n : ℕ) → IsCounted hash es cs → n ≡ kept_count cs h → PutsCount cs ds h n → IsCounted hash es ds
  IsCounted-room es cs ds h n is same put = record {
    rising = is.rising;
    counted = λ q. kept_count-put cs ds h n put q ∙ ap (λ x. cond (h == q) x (kept_count cs q)) same ∙ written_same (kept_count cs) h q ∙ is.counted q;
  }

  -- a new key, and its count
  pub IsCounted-insert : (es fs cs ds : List (ℕ × ℕ)) (k v h n : ℕ) → IsCounted hash es cs → lookup (is_at (nat_cmp k)) es ≡ None → fs ≡ insert_entry nat_cmp es k v
      → IsStrictlySortedBy nat_cmp (keys_of fs)
      → h ≡ hash k → n ≡ kept_count cs h + 1 → PutsCount cs ds h n → IsCounted hash fs ds
  IsCounted-insert es fs cs ds k v h n is none inserted rising at more put = record {
    rising = rising;
    counted = λ q. kept_count-put cs ds h n put q ∙ ap (λ x. cond (h == q) x (kept_count cs q)) more ∙ written_more (kept_count cs) h q
        ∙ ap₂ (λ a x. cond (a == q) 1 0 + x) at (is.counted q) ∙ sym (ap (λ xs. crowd_of hash xs q) inserted ∙ crowd_of-insert_entry hash q k v es none);
  }

  -- a key that is there counts
  pub kept_count-pos : (es cs : List (ℕ × ℕ)) (k v h : ℕ) → IsCounted hash es cs → lookup (is_at (nat_cmp k)) es ≡ Some v → h ≡ hash k → 0 < kept_count cs h
  kept_count-pos es cs k v h is some at =
      let own : cond {A = ℕ} (hash k == hash k) 1 0 ≡ 1 = ap (λ b. cond {A = ℕ} b 1 0) (eq-eqb (hash k) (hash k) refl) in
      let here : kept_count cs h ≡ crowd_of hash es (hash k) = ap (kept_count cs) at ∙ is.counted (hash k) in
      omega (arith, crowd_of-remove_entry hash (hash k) k v es some)

  -- a key that is removed, and its count
  pub IsCounted-remove : (es fs cs ds : List (ℕ × ℕ)) (k v h n : ℕ) → IsCounted hash es cs → lookup (is_at (nat_cmp k)) es ≡ Some v → fs ≡ remove_entry (is_at (nat_cmp k)) es
      → IsStrictlySortedBy nat_cmp (keys_of fs)
      → h ≡ hash k → n ≡ kept_count cs h - 1 → WritesCount cs ds h n → IsCounted hash fs ds
  IsCounted-remove es fs cs ds k v h n is some removed rising at less put = record {
    rising = rising;
    counted = λ q. put q ∙ written_less (kept_count cs) h q n _ (omega (arith, kept_count-pos es cs k v h is some at))
        (ap₂ (λ a xs. cond (a == q) 1 0 + crowd_of hash xs q) at removed ∙ crowd_of-remove_entry hash q k v es some ∙ sym (is.counted q));
  }

some_count : (o : Option ℕ) → 0 < unwrap_or o 0 → IsSome o
some_count None pos = absurd (omega (arith, pos))
some_count (Some n) pos = refl

-- a hash with a count has an entry
pub has_count : (cs : List (ℕ × ℕ)) (h : ℕ) → 0 < kept_count cs h → IsSome (lookup (is_at (nat_cmp h)) cs)
has_count cs h pos = some_count (lookup (is_at (nat_cmp h)) cs) pos

-- A pass over the keys: what is counted, and what is left, make up the whole.
pub counted_more : (hash : ℕ → ℕ) (cs ds : List (ℕ × ℕ)) (k h n : ℕ) (left rest : List ℕ) (whole : ℕ → ℕ) → ((q : ℕ) → kept_count cs q + count_by (λ x. hash x == q) left ≡ whole q)
    → left ≡ k ∷ rest → h ≡ hash k → n ≡ kept_count cs h + 1 → PutsCount cs ds h n → (q : ℕ) → kept_count ds q + count_by (λ x. hash x == q) rest ≡ whole q
counted_more hash cs ds k h n left rest whole so_far first at more put q =
    let new : kept_count ds q ≡ cond {A = ℕ} (hash k == q) 1 0 + kept_count cs q =
    kept_count-put cs ds h n put q ∙ ap (λ x. cond (h == q) x (kept_count cs q)) more ∙ written_more (kept_count cs) h q ∙ ap (λ a. cond (a == q) 1 0 + kept_count cs q) at in
    let now : count_by (λ x. hash x == q) left ≡ cond {A = ℕ} (hash k == q) 1 0 + count_by (λ x. hash x == q) rest =
    ap (count_by (λ x. hash x == q)) first ∙ sum_by-cons (λ x. cond (hash x == q) 1 0) k rest in
    omega (arith, so_far q)

-- A key that is there is not crowded.
pub is_crowded-present : (hash : ℕ → ℕ) (es : List (ℕ × ℕ)) (k : ℕ) → is_some (lookup (is_at (nat_cmp k)) es) ≡ true → is_crowded hash (from_entries es) k ≡ false
is_crowded-present hash es k there = ap (λ b. not b && (others hash (from_entries es) k == 32)) (ap is_some (get_made es k) ∙ there)

-- An absent one is where 32 keys have its hash.
pub is_crowded-absent : (hash : ℕ → ℕ) (es cs : List (ℕ × ℕ)) (k h : ℕ) → IsCounted hash es cs → lookup (is_at (nat_cmp k)) es ≡ None → h ≡ hash k
    → is_crowded hash (from_entries es) k ≡ (kept_count cs h == 32)
is_crowded-absent hash es cs k h is none at =
    ap (λ (o : Option ℕ). not (is_some o) && (others hash (from_entries es) k == 32)) (get_made es k ∙ none)
    ∙ ap (λ n. n == 32) (others-crowd_of hash k es is.rising none ∙ sym (is.counted (hash k)) ∙ ap (kept_count cs) (sym at))
