-- One indirection alone is on a key's path at each depth, and what is on it is reached through all those above.
use Rattle.std.proofs.Common.{◌≡◌, ℕ, zero, suc, ◌<◌, ◌==◌, Bool, true, false, refl, sym, ap, subst, ◌∙◌, arith, eqb-true}
use Rattle.proof_obstruction_free.specs.Vocabulary.{Ref, Below, Trie, On, at_below, generation, says}
use Rattle.proof_obstruction_free.specs.Beneath.proof_contents.proofs.Nodes.Branches.{differ}
use Rattle.proof_obstruction_free.specs.Beneath.proof_contents.specs.Tries.{at_root}

module _ (trie : Trie) (t g q : ℕ) where
  -- how it is on the path
  data Reached (depth : ℕ) (i : Ref) : Type 0 where
    is_root : depth ≡ 0 → i ≡ trie.root g → Reached depth i
    is_below : (d : ℕ) (above : Ref) → depth ≡ suc d → On trie t g q d above → says trie t q d above ≡ Below i → generation trie i ≡ g → Reached depth i

  reached : (depth : ℕ) (i : Ref) → On trie t g q depth i → Reached depth i
  reached depth i (at_root e) = is_root refl refl
  reached depth i (at_below d above below on leads e) = is_below d above refl on leads e

  below_one : (above other i j : Ref) (d : ℕ) → above ≡ other → says trie t q d above ≡ Below i → says trie t q d other ≡ Below j → i ≡ j
  below_one above other i j d same x y =
      let both : Below i ≡ Below j = sym x ∙ ap (says trie t q d) same ∙ y in
      cc both

  roots_one : (i j : Ref) → Reached 0 i → Reached 0 j → i ≡ j
  roots_one i j (is_root x e) (is_root y f) = e ∙ sym f
  roots_one i j (is_below d above e on leads own) y = absurd (omega (arith, e))
  roots_one i j x (is_below d above e on leads own) = absurd (omega (arith, e))

  next_one : (n : ℕ) → ((i j : Ref) → On trie t g q n i → On trie t g q n j → i ≡ j) → (i j : Ref) → Reached (suc n) i → Reached (suc n) j → i ≡ j
  next_one n one i j (is_root e x) y = absurd (omega (arith, e))
  next_one n one i j x (is_root e y) = absurd (omega (arith, e))
  next_one n one i j (is_below d above e on leads own) (is_below d' other e' on' leads' own') =
      let at : d ≡ n = omega (arith, e) in
      let at' : d' ≡ n = omega (arith, e') in
      below_one above other i j n (one above other (subst (λ k. On trie t g q k above) at on) (subst (λ k. On trie t g q k other) at' on'))
      (subst (λ k. says trie t q k above ≡ Below i) at leads) (subst (λ k. says trie t q k other ≡ Below j) at' leads')

  -- at each depth one alone
  pub on_one : (depth : ℕ) (i j : Ref) → On trie t g q depth i → On trie t g q depth j → i ≡ j
  on_one zero i j x y = roots_one i j (reached 0 i x) (reached 0 j y)
  on_one (suc n) i j x y = next_one n (on_one n) i j (reached (suc n) i x) (reached (suc n) j y)

  -- ---- what is above

  pub record Link (k : ℕ) : Type 0 where
    pub above : Ref
    pub below : Ref
    pub on : On trie t g q k above
    pub leads : says trie t q k above ≡ Below below
    pub own : generation trie below ≡ g

  above_next : (n : ℕ) → ((i : Ref) (k : ℕ) → On trie t g q n i → k < n → Link k) → (i : Ref) (k : ℕ) → Reached (suc n) i → k < suc n → Link k
  above_next n rest i k (is_root e x) lt = absurd (omega (arith, e))
  above_next n rest i k (is_below d above e on leads own) lt = by (k == n) refl
    where
      at : d ≡ n
      at = omega (arith, e)

      on_n : On trie t g q n above
      on_n = subst (λ m. On trie t g q m above) at on

      by : (b : Bool) → (k == n) ≡ b → Link k
      by true same =
          let is : n ≡ k = sym (eqb-true k n same) in
          record { above = above; below = i; on = subst (λ m. On trie t g q m above) is on_n; leads = subst (λ m. says trie t q m above ≡ Below i) (at ∙ is) leads; own = own }
      by false apart = let other = differ k n apart in rest above k on_n (omega (arith, other, lt))

  pub on_above : (depth : ℕ) (i : Ref) (k : ℕ) → On trie t g q depth i → k < depth → Link k
  on_above zero i k on lt = absurd (omega (arith, lt))
  on_above (suc n) i k on lt = above_next n (on_above n) i k (reached (suc n) i on) lt
