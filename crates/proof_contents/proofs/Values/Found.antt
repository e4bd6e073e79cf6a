-- How values are found, and when two assignments of main nodes give the same ones.
use Rattle.std.proofs.Common.{◌≡◌, ◌≢◌, ℕ, zero, suc, ◌+◌, ◌==◌, Bool, true, false, cond, Option, None, refl, sym, ap, subst, ◌∙◌, arith, eq-eqb, ne_eqb}
use Rattle.proof_contents.specs.Vocabulary.{hash_of, Ref}
use Rattle.proof_contents.specs.Nodes.Looking.{Found, Absent, Has, Below, value_by, find_at, value_in}
use Rattle.proof_contents.specs.Tries.{Trie, generation, assigned, most_levels}

-- a value by what is below depends on the indirection below alone
pub value_by-same : (f g : Ref → Option ℕ) (found : Found) → ((j : Ref) → found ≡ Below j → f j ≡ g j) → value_by f found ≡ value_by g found
value_by-same f g Absent h = refl
value_by-same f g (Has value) h = refl
value_by-same f g (Below j) h = h j refl

module _ (trie : Trie) where
  -- a generation's own main nodes are those of the time
  pub assigned-own : (g t : ℕ) (i : Ref) → generation trie i ≡ g → assigned trie g t i ≡ trie.main t i
  assigned-own g t i e = ap (λ b. cond b (trie.main t i) (trie.main trie.last i)) (eq-eqb (generation trie i) g e)

  -- all others are those of the end
  pub assigned-other : (g t : ℕ) (i : Ref) → generation trie i ≢ g → assigned trie g t i ≡ trie.main trie.last i
  assigned-other g t i e = ap (λ b. cond b (trie.main t i) (trie.main trie.last i)) (ne_eqb (generation trie i) g e)

  -- in the end there is no difference
  pub assigned-last : (g : ℕ) (i : Ref) → assigned trie g trie.last i ≡ trie.main trie.last i
  assigned-last g i = same (generation trie i == g)
    where
      same : (b : Bool) → cond b (trie.main trie.last i) (trie.main trie.last i) ≡ trie.main trie.last i
      same true = refl
      same false = refl

  -- the same main node before and after, whichever of the two it is
  pub assigned-still : (g t u : ℕ) (i : Ref) → trie.main t i ≡ trie.main u i → assigned trie g t i ≡ assigned trie g u i
  assigned-still g t u i e = ap (λ m. cond (generation trie i == g) m (trie.main trie.last i)) e

  -- an assignment by one more step
  pub found_below : (A : Ref → Ref) (q levels depth : ℕ) (i : Ref) →
      find_at trie.node A (hash_of trie.kind) q (suc levels) depth i ≡ value_in trie.node A (hash_of trie.kind) q levels depth (trie.node (A i))
  unfolding find_at
  found_below A q levels depth i = refl

  pub found_nothing : (A : Ref → Ref) (q depth : ℕ) (i : Ref) → find_at trie.node A (hash_of trie.kind) q zero depth i ≡ None
  unfolding find_at
  found_nothing A q depth i = refl

  -- two assignments find the same of a key below this indirection
  abbrev pub Agrees : (Ref → Ref) → (Ref → Ref) → ℕ → ℕ → ℕ → Ref → Type 0
  Agrees A B q levels depth i = find_at trie.node A (hash_of trie.kind) q levels depth i ≡ find_at trie.node B (hash_of trie.kind) q levels depth i

  -- where they do so at each indirection, if they do so at those below it, they do so everywhere
  abbrev pub AgreesIfBelow : (Ref → Ref) → (Ref → Ref) → ℕ → Type 0
  AgreesIfBelow A B q =
      (levels : ℕ) (i : Ref) → suc levels + trie.depth i ≡ most_levels → ((j : Ref) → trie.depth j ≡ suc (trie.depth i) → Agrees A B q levels (suc (trie.depth i)) j) →
      value_in trie.node A (hash_of trie.kind) q levels (trie.depth i) (trie.node (A i)) ≡ value_in trie.node B (hash_of trie.kind) q levels (trie.depth i) (trie.node (B i))

  pub agrees : (A B : Ref → Ref) (q : ℕ) → AgreesIfBelow A B q → (levels depth : ℕ) (i : Ref) → trie.depth i ≡ depth → levels + depth ≡ most_levels → Agrees A B q levels depth i
  agrees A B q each zero depth i at sum = found_nothing A q depth i ∙ sym (found_nothing B q depth i)
  agrees A B q each (suc levels) depth i at sum =
      found_below A q levels depth i
      ∙ subst (λ d. value_in trie.node A (hash_of trie.kind) q levels d (trie.node (A i)) ≡ value_in trie.node B (hash_of trie.kind) q levels d (trie.node (B i))) at
      (each levels i (omega (arith, at)) (λ j deeper. agrees A B q each levels (suc (trie.depth i)) j deeper (omega (arith, at))))
      ∙ sym (found_below B q levels depth i)
