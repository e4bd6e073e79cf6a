-- What a scan finds: a key behind another one by where their hashes part, entries of a branch in place, singles of a list.
use Rattle.std.proofs.Common.{◌≡◌, ◌≢◌, ℕ, zero, suc, ◌+◌, ◌*◌, ◌^◌, ◌<◌, ◌==◌, Bool, true, false, cond, nat_lt, List, [], ◌∷◌, ◌++◌, length, get_or, refl, sym, ap, ap₂, subst, ◌∙◌, arith}
use Rattle.std.specs.List.{flat_map}
use Rattle.arrayvec.specs.ArrayVec.{ArrayVec}
use Rattle.proof_core.specs.Vocabulary.{HashKind, pairs_at, pairs_below, index_in, parting, Branch, Single, Ref, Heap, node_at, AreSingles}
use Rattle.proof_core.specs.Beneath.proof_contents.specs.Nodes.Branches.{standing}
use Rattle.proof_core.specs.Beneath.proof_contents.proofs.Nodes.Tombs.{place_of}
use Rattle.proof_core.specs.Scanning.{IsMainPlaced, by_indices, walked, walked_at}

-- ---- where two hashes part

module _ (a b : ℕ) (alike : Bool) where
  -- at none of so many depths
  pub alike_below : (left depth : ℕ) → parting left a b depth ≡ depth + left → by_indices left depth a b alike ≡ alike
  alike_below zero depth same = refl
  alike_below (suc left) depth same =
      let deeper : suc depth ≡ depth + 1 = omega arith in
      by_test (index_in a depth == index_in b depth) (λ e. alike_below left (suc depth) (ap (parting left a b) deeper ∙ e ∙ omega arith)) same
    where
      by_test : (t : Bool) → (parting left a b (depth + 1) ≡ depth + suc left → by_indices left (suc depth) a b alike ≡ alike) → cond t (parting left a b (depth + 1)) depth ≡ depth + suc left →
          cond t (by_indices left (suc depth) a b alike) (nat_lt (index_in a depth) (index_in b depth)) ≡ alike
      by_test true rest e = rest e
      by_test false rest e = absurd (omega (arith, e))

  -- at one of them
  pub apart_below : (left depth p : ℕ) → parting left a b depth ≡ p → p ≢ depth + left → by_indices left depth a b alike ≡ nat_lt (index_in a p) (index_in b p)
  apart_below zero depth p is other = absurd (other (sym is ∙ omega arith))
  apart_below (suc left) depth p is other =
      let deeper : suc depth ≡ depth + 1 = omega arith in
      by_test (index_in a depth == index_in b depth) (λ e. apart_below left (suc depth) p (ap (parting left a b) deeper ∙ e) (λ same. other (same ∙ omega arith))) is
    where
      by_test : (t : Bool) → (parting left a b (depth + 1) ≡ p → by_indices left (suc depth) a b alike ≡ nat_lt (index_in a p) (index_in b p)) → cond t (parting left a b (depth + 1)) depth ≡ p →
          cond t (by_indices left (suc depth) a b alike) (nat_lt (index_in a depth) (index_in b depth)) ≡ nat_lt (index_in a p) (index_in b p)
      by_test true rest e = rest e
      by_test false rest e = ap (λ d. nat_lt (index_in a d) (index_in b d)) e

-- ---- entries and singles

-- each entry of a branch in place stands in place, one level deeper
pub entry_in_place : (kind : HashKind) (heap : Heap) (Below : ℕ → ℕ → Ref → Type 0) (depth path bitmap : ℕ) (entries : ArrayVec Ref) (i : ℕ) (d : Ref) → i < length entries.items →
    IsMainPlaced kind heap Below depth path (Branch bitmap entries) → (deeper : ℕ) × Below (suc depth) deeper (get_or entries.items i d)
entry_in_place kind heap Below depth path bitmap entries i d within (shallow, (places, has, children)) =
    let (x, at, before) = place_of places i d (subst (λ (es : List Ref). i < length es) has.stand within) in (
      path + x * 2 ^ (5 * depth),
      subst (Below (suc depth) (path + x * 2 ^ (5 * depth))) (sym (ap (λ es. get_or es i d) has.stand)) (children x (get_or (standing places) i d) at),
    )

-- a single is met within any level
single_met : (levels : ℕ) (heap : Heap) (r : Ref) (key value : ℕ) → node_at heap r ≡ Single key value → walked levels heap r ≡ pairs_below levels heap r
unfolding walked pairs_below
single_met zero heap r key value is = refl
single_met (suc levels) heap r key value is = ap (walked_at (walked levels heap) heap r) is ∙ sym (ap (pairs_at (pairs_below levels heap) heap r) is)

-- a walk meets just the singles of a list
pub singles_met : (levels : ℕ) (heap : Heap) (singles : List Ref) → AreSingles (node_at heap) singles → flat_map (walked levels heap) singles ≡ flat_map (pairs_below levels heap) singles
singles_met levels heap [] are = refl
singles_met levels heap (single ∷ singles) are =
    ap₂ (λ xs ys. xs ++ ys) (single_met levels heap single are.0.key are.0.value are.0.is) (singles_met levels heap singles are.1)
