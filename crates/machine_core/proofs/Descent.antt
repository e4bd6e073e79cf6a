-- The way down along a key's hash, level by level.
use Rattle.std.proofs.Common.{◌≡◌, ℕ, suc, ◌+◌, true, nat_eq, Some, refl, ap, sym, ◌∙◌, subst, eq-eqb, arith}
use Rattle.std.specs.Option.{option_eq}
use Rattle.machine_core.specs.Vocabulary.{Access, Writable, ReadOnly, Indirection, Ref, Heap, node_at, main_at, generation_at, passes, flag_of, to_root, below}
use Rattle.machine_core.specs.Beneath.proof_straight.specs.Places.{Leads}
use Rattle.machine_core.specs.Descending.{IsBelow}

-- the hash leads down there, whatever the handle's access
pub record Reaches (heap : Heap) (root : Ref) (hash depth : ℕ) (indirection : Ref) : Type 0 where
  pub leads : (access : Access) → Leads heap access hash root depth indirection

pub starts : (heap : Heap) (root : Ref) (hash : ℕ) {generation main : ℕ} → node_at heap root ≡ Indirection generation main → Reaches heap root hash 0 root
starts heap root hash is = record { leads = λ access. to_root is }

-- an indirection of the root's generation is passed
passed : (access : Access) (generation : ℕ) → passes access (option_eq nat_eq (Some generation) (Some generation)) ≡ true
passed ReadOnly generation = refl
passed Writable generation = eq-eqb generation generation refl

pub further : (heap : Heap) (root : Ref) (hash depth : ℕ) (indirection : Ref) (generation : ℕ) (next : Ref) → generation_at heap root ≡ generation →
    Reaches heap root hash depth indirection → IsBelow heap (main_at heap indirection) (flag_of hash depth) generation next → Reaches heap root hash (depth + 1) next
further heap root hash depth indirection generation next own so_far h = record {
  leads = λ access.
      subst (λ d. Leads heap access hash root d next) (let e : suc depth ≡ depth + 1 = omega arith in e)
      (subst (Leads heap access hash root (suc depth)) (sym h.entry) (below (so_far.leads access) (record { decided = h.decided; branch = h.branch; flagged = h.flagged })
      (ap (node_at heap) (sym h.entry) ∙ h.is)
      (ap (λ g. passes access (option_eq nat_eq (Some g) (Some generation))) own ∙ passed access generation)));
}
