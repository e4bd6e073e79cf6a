-- What is found through the chain to a pair of singles: their values alone.
use Rattle.std.proofs.Common.{◌≡◌, ◌≢◌, ℕ, zero, suc, ◌^◌, ◌<◌, Bool, true, false, cond, ◌==◌, nat_lt, List, [], ◌∷◌, length, take, set, replicate, insert, Option, Some, None}
use Rattle.std.proofs.Common.{bit_or, ⊎_elim, refl, sym, ap, ap₂, subst, subst₂, ◌∙◌, arith, eqb-true, lt-ltb, le-ltb, length-set}
use Rattle.std.proofs.lemmas.List.{get_or-set_same, get_or-set_other, length-replicate}
use Rattle.std.specs.Int.Bits.{or_zero_l}
use Rattle.std.proofs.lemmas.Bool.Decides.{nat_tests}
use Rattle.proof_contents.specs.Vocabulary.{hash_of, position_of, HashKind, Ref, Node, Branch, Single, List as Listed, entries_from, list_depth, index_in, by_index, pair}
use Rattle.proof_contents.specs.Nodes.Branches.{HasPlaces, at_place}
use Rattle.proof_contents.specs.Nodes.Looking.{Found, Absent, Has, look_at, or_else, value_by, find_at}
use Rattle.proof_contents.specs.Nodes.Changing.{look}
use Rattle.proof_contents.specs.Nodes.Chains.{Parts, LeadsToPair, at_pair, by_rung}
use Rattle.proof_contents.proofs.Nodes.Branches.{before, position-before, inserted-places, differ}
use Rattle.proof_contents.specs.Beneath.nodes.proofs.Indices.{index_below}
use Rattle.proof_contents.proofs.Nodes.Changes.{look_place, look_branch, look-other}
use Rattle.proof_contents.proofs.Nodes.Lists.{or_else-absent}

-- places with nothing
pub empty_places : ℕ → List (Option Ref)
empty_places n = replicate n None

none_before : (n x : ℕ) → before (empty_places n) x ≡ 0
unfolding empty_places
none_before zero x = refl
none_before (suc n) zero = refl
none_before (suc n) (suc x) = none_before n x

pub none_at : (n x : ℕ) → at_place (empty_places n) x ≡ None
unfolding empty_places
none_at zero x = refl
none_at (suc n) zero = refl
none_at (suc n) (suc x) = none_at n x

lt-step : (x y : ℕ) → nat_lt (suc x) (suc y) ≡ nat_lt x y
lt-step x y = grind (arith, nat_tests)

-- how many of one entry stand before a place
one_before : (n x y : ℕ) (a : Ref) → x < n → x ≢ y → before (set (empty_places n) x (Some a)) y ≡ cond (nat_lt x y) 1 0
unfolding empty_places
one_before zero x y a lt apart = absurd (omega arith)
one_before (suc n) zero zero a lt apart = absurd (apart refl)
one_before (suc n) zero (suc y) a lt apart = ap suc (none_before n y) ∙ sym (ap (λ b. cond {A = ℕ} b 1 0) (lt-ltb zero (suc y) (omega arith)))
one_before (suc n) (suc x) zero a lt apart = sym (ap (λ b. cond {A = ℕ} b 1 0) (le-ltb (suc x) zero (omega arith)))
one_before (suc n) (suc x) (suc y) a lt apart = one_before n x y a (omega arith) (λ e. apart (ap suc e)) ∙ sym (ap (λ b. cond {A = ℕ} b 1 0) (lt-step x y))

pub one_length : (n : ℕ) → length (empty_places n) ≡ n
unfolding empty_places
one_length n = length-replicate n None

pub nothing : HasPlaces 0 [] (empty_places 32)
unfolding empty_places
nothing = record { size = refl; bits = refl; stand = refl }

-- a branch of one entry
pub one-places : (x : ℕ) (entry : Ref) → x < 32 → HasPlaces (2 ^ x) (entry ∷ []) (set (empty_places 32) x (Some entry))
one-places x entry lt =
    let at : position_of (2 ^ x) 0 ≡ 0 = position-before 0 [] (empty_places 32) nothing x ∙ none_before 32 x in
    subst₂ (λ b es. HasPlaces b es (set (empty_places 32) x (Some entry))) (or_zero_l (2 ^ x)) (ap (λ n. take 32 (insert [] n entry)) at)
    (inserted-places 0 [] (empty_places 32) nothing x entry lt (none_at 32 x))

-- a branch of two
pub two-places : (x y : ℕ) (a b : Ref) → x < 32 → y < 32 → x ≢ y →
    HasPlaces (bit_or (2 ^ x) (2 ^ y)) (take 32 (by_index x y a b)) (set (set (empty_places 32) x (Some a)) y (Some b))
two-places x y a b lx ly apart =
    let one = one-places x a lx in
    let at : position_of (2 ^ y) (2 ^ x) ≡ cond (nat_lt x y) 1 0 = position-before (2 ^ x) (a ∷ []) (set (empty_places 32) x (Some a)) one y ∙ one_before 32 x y a lx apart in
    let none : at_place (set (empty_places 32) x (Some a)) y ≡ None = get_or-set_other (empty_places 32) x y (Some a) None (λ e. apart (sym e)) ∙ none_at 32 y in
    subst (λ es. HasPlaces (bit_or (2 ^ x) (2 ^ y)) es (set (set (empty_places 32) x (Some a)) y (Some b))) (ap (λ n. take 32 (insert (a ∷ []) n b)) at ∙ by_test (nat_lt x y))
    (inserted-places (2 ^ x) (a ∷ []) (set (empty_places 32) x (Some a)) one y b ly none)
  where
    by_test : (t : Bool) → take 32 (insert (a ∷ []) (cond t 1 0) b) ≡ take 32 (cond t (a ∷ b ∷ []) (b ∷ a ∷ []))
    by_test true = refl
    by_test false = refl

values_alone : (b c : Bool) (w v : ℕ) (below : Ref → Option ℕ) →
    value_by below (or_else (cond b (Has w) Absent) (cond c (Has v) Absent)) ≡ value_by (λ r. None) (or_else (cond b (Has w) Absent) (cond c (Has v) Absent))
values_alone true c w v below = refl
values_alone false true w v below = refl
values_alone false false w v below = refl

module _ (node : Ref → Node) (kind : HashKind) (former key : ℕ) (old single : Ref) (w v : ℕ) (is_old : node old ≡ Single former w) (is_new : node single ≡ Single key v) where
  -- what the two singles say
  abbrev both : ℕ → Found
  both q = or_else (look_at q old (node old)) (look_at q single (node single))

  -- what is said of a key of another index at a depth where the two have one
  neither : (q : ℕ) → q ≢ former → q ≢ key → both q ≡ Absent
  neither q a b = ap₂ or_else (look-other node q former w old is_old a) (look-other node q key v single is_new b)

  -- their main node says just that
  pub pair_says : (depth q : ℕ) → former ≢ key → Parts kind former key depth →
      look node (hash_of kind) depth q (pair kind depth (hash_of kind former) (hash_of kind key) old single) ≡ both q
  pair_says depth q apart parts = by_test (depth == list_depth kind) refl
    where
      hash : ℕ → ℕ
      hash k = hash_of kind k

      x : ℕ
      x = index_in (hash former) depth

      y : ℕ
      y = index_in (hash key) depth

      z : ℕ
      z = index_in (hash q) depth

      as_branch : x ≢ y → look node (hash_of kind) depth q (Branch (bit_or (2 ^ x) (2 ^ y)) (entries_from (by_index x y old single))) ≡ both q
      as_branch parted =
          look_branch node q (bit_or (2 ^ x) (2 ^ y)) z (entries_from (by_index x y old single)) places
          (two-places x y old single (index_below (hash former) depth) (index_below (hash key) depth) parted)
          ∙ at_key (z == y) refl
        where
          first : List (Option Ref)
          first = set (empty_places 32) x (Some old)

          places : List (Option Ref)
          places = set first y (Some single)

          size : length first ≡ 32
          size = length-set (empty_places 32) x (Some old) ∙ one_length 32

          at_former : z ≢ y → (b : Bool) → (z == x) ≡ b → look_place node q (at_place first z) ≡ both q
          at_former other true e =
              ap (λ n. look_place node q (at_place first n)) (eqb-true z x e)
              ∙ ap (look_place node q) (get_or-set_same (empty_places 32) x (Some old) None (omega (arith, one_length 32, index_below (hash former) depth)))
              ∙ sym (or_else-absent (look_at q old (node old))) ∙ ap (or_else (look_at q old (node old)))
              (sym (look-other node q key v single is_new (λ same. other (ap (λ k. index_in (hash k) depth) same))))
          at_former other false e =
              ap (look_place node q) (get_or-set_other (empty_places 32) x z (Some old) None (differ z x e) ∙ none_at 32 z)
              ∙ sym (neither q (λ same. differ z x e (ap (λ k. index_in (hash k) depth) same)) (λ same. other (ap (λ k. index_in (hash k) depth) same)))

          at_key : (b : Bool) → (z == y) ≡ b → look_place node q (at_place places z) ≡ both q
          at_key true e =
              ap (λ n. look_place node q (at_place places n)) (eqb-true z y e) ∙ ap (look_place node q) (get_or-set_same first y (Some single) None (omega (arith, size, index_below (hash key) depth)))
              ∙ sym (ap (λ f. or_else f (look_at q single (node single))) (look-other node q former w old is_old (λ same. parted (sym (ap (λ k. index_in (hash k) depth) same) ∙ eqb-true z y e))))
          at_key false e = ap (look_place node q) (get_or-set_other first y z (Some single) None (differ z y e)) ∙ at_former (differ z y e) (z == x) refl

      by_test : (b : Bool) → (depth == list_depth kind) ≡ b → look node (hash_of kind) depth q
          (cond b (Listed (entries_from (old ∷ single ∷ []))) (Branch (bit_or (2 ^ x) (2 ^ y)) (entries_from (by_index x y old single)))) ≡ both q
      by_test true e = ap (or_else (look_at q old (node old))) (or_else-absent (look_at q single (node single)))
      by_test false e = as_branch (⊎_elim (λ same. absurd (differ _ _ e same)) (λ parted. parted) parts)

  not_below : (q : ℕ) (below : Ref → Option ℕ) → value_by below (both q) ≡ value_by (λ r. None) (both q)
  not_below q below =
      ap₂ (λ a b. value_by below (or_else a b)) (ap (look_at q old) is_old) (ap (look_at q single) is_new) ∙ values_alone (former == q) (key == q) w v below
      ∙ sym (ap₂ (λ a b. value_by (λ r. None) (or_else a b)) (ap (look_at q old) is_old) (ap (look_at q single) is_new))

  -- the chain leads to that
  pub chain_says : (main : Ref → Ref) (levels depth : ℕ) (indirection : Ref) (q : ℕ) → former ≢ key → LeadsToPair node main kind former key old single levels depth indirection →
      find_at node main (hash_of kind) q levels depth indirection ≡ value_by (λ r. None) (both q)
  unfolding find_at
  chain_says main levels depth indirection q apart (at_pair left depth' indirection' is parts) =
      ap (λ n. value_by (find_at node main (hash_of kind) q left (suc depth)) (look node (hash_of kind) depth q n)) is
      ∙ ap (value_by (find_at node main (hash_of kind) q left (suc depth))) (pair_says depth q apart parts)
      ∙ not_below q (find_at node main (hash_of kind) q left (suc depth))
  chain_says main levels depth indirection q apart (by_rung left depth' indirection' below word generation is under same chain) =
      ap (λ n. value_by next (look node (hash_of kind) depth q n)) is
      ∙ ap (value_by next) (look_branch node q (2 ^ y) z (entries_from (below ∷ [])) places (one-places y below (index_below (hash_of kind key) depth)))
      ∙ at_key (chain_says main left (suc depth) below q apart chain) (z == y) refl
    where
      next : Ref → Option ℕ
      next = find_at node main (hash_of kind) q left (suc depth)

      y : ℕ
      y = index_in (hash_of kind key) depth

      z : ℕ
      z = index_in (hash_of kind q) depth

      places : List (Option Ref)
      places = set (empty_places 32) y (Some below)

      at_key : next below ≡ value_by (λ r. None) (both q) → (b : Bool) → (z == y) ≡ b →
          value_by next (look_place node q (at_place places z)) ≡ value_by (λ r. None) (both q)
      at_key rest true e =
          ap (λ n. value_by next (look_place node q (at_place places n))) (eqb-true z y e)
          ∙ ap (λ o. value_by next (look_place node q o)) (get_or-set_same (empty_places 32) y (Some below) None (omega (arith, one_length 32, index_below (hash_of kind key) depth)))
          ∙ ap (λ n. value_by next (look_at q below n)) under ∙ rest
      at_key rest false e =
          ap (λ o. value_by next (look_place node q o)) (get_or-set_other (empty_places 32) y z (Some below) None (differ z y e) ∙ none_at 32 z)
          ∙ sym (ap (value_by (λ r. None)) (neither q (λ k. differ z y e (ap (λ n. index_in (hash_of kind n) depth) k ∙ same)) (λ k. differ z y e (ap (λ n. index_in (hash_of kind n) depth) k))))
