-- Where the paths of two hashes part.
use Rattle.std.proofs.Common.{◌≡◌, ◌≢◌, ℕ, zero, suc, ◌+◌, ◌-◌, ◌<◌, ◌≤◌, ◌==◌, Bool, true, false, cond, ◌⊎◌, inl, inr, ⊎_elim, refl, sym, subst, ◌∙◌, arith, eqb-true}
use Rattle.proof_contents.specs.Vocabulary.{hash_of, HashKind, list_depth, index_in, parting}
use Rattle.proof_contents.specs.Nodes.Chains.{Parts}
use Rattle.proof_contents.proofs.Nodes.Branches.{differ}

-- The first of so many depths at which the hashes have different indices, or the one after these.
pub record IsParting (left a b depth p : ℕ) : Type 0 where
  pub from : depth ≤ p
  pub within : p ≤ depth + left
  pub alike : (d : ℕ) → depth ≤ d → d < p → index_in a d ≡ index_in b d
  pub apart : (p ≡ depth + left) ⊎ (index_in a p ≢ index_in b p)

pub parting_is : (left a b depth : ℕ) → IsParting left a b depth (parting left a b depth)
parting_is zero a b depth = record { from = omega arith; within = omega arith; alike = λ d le lt. absurd (omega arith); apart = inl (omega arith) }
parting_is (suc left) a b depth = by_test (parting_is left a b (depth + 1)) (index_in a depth == index_in b depth) refl
  where
    next : ℕ
    next = parting left a b (depth + 1)

    by_test : IsParting left a b (depth + 1) next → (t : Bool) → (index_in a depth == index_in b depth) ≡ t → IsParting (suc left) a b depth (cond t next depth)
    by_test rest false e = record { from = omega arith; within = omega arith; alike = λ d le lt. absurd (omega arith); apart = inr (differ _ _ e) }
    by_test rest true e = record {
      from = omega (arith, rest.from);
      within = omega (arith, rest.within);
      alike = λ d le lt. at d le lt (d == depth) refl;
      apart = ⊎_elim (λ last. inl (omega (arith, last))) (λ differ_. inr differ_) rest.apart;
    }
      where
        at : (d : ℕ) → depth ≤ d → d < next → (t : Bool) → (d == depth) ≡ t → index_in a d ≡ index_in b d
        at d le lt true same = subst (λ n. index_in a n ≡ index_in b n) (sym (eqb-true d depth same)) (eqb-true _ _ e)
        at d le lt false other = let away = differ d depth other in rest.alike d (omega arith) lt

-- two keys part where a change of one beside the other puts their main node
pub pair_parts : (kind : HashKind) (former key depth : ℕ) → depth < list_depth kind →
    Parts kind former key (parting (list_depth kind - (depth + 1)) (hash_of kind former) (hash_of kind key) (depth + 1))
pair_parts kind former key depth lt =
    ⊎_elim (λ last. inl (last ∙ sum)) (λ differ_. inr differ_) (parting_is (list_depth kind - (depth + 1)) (hash_of kind former) (hash_of kind key) (depth + 1)).apart
  where
    sum : depth + 1 + (list_depth kind - (depth + 1)) ≡ list_depth kind
    sum = omega arith
