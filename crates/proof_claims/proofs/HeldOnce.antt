-- A node names a reference once, and has one claim on it, where it has any.
use Rattle.std.proofs.Common.{◌≡◌, ◌==◌, ◌&&◌, Bool, true, List, [], ◌∷◌, Contains, refl, sym, ap, ◌∙◌, arith, eq-eqb, eqb-true}
use Rattle.std.proofs.lemmas.Bool.{true≢false}
use Rattle.proof_claims.specs.Beneath.slot_arena.specs.declared.refs.Ref.{Ref}
use Rattle.proof_claims.specs.Beneath.slot_arena.specs.Heaps.{node_at, refs_of_node}
use Rattle.proof_claims.specs.Beneath.machine_model.specs.Keys.{KeysFit}
use Rattle.proof_claims.specs.Beneath.machine_model.specs.declared.steps.Bounds.{Bounds}
use Rattle.proof_claims.specs.Beneath.machine_model.specs.declared.steps.Step.{Step}
use Rattle.proof_claims.specs.Beneath.machine_model.specs.Machine.{AreBounds, run}
use Rattle.proof_claims.specs.Beneath.proof_memory.specs.Laws.{IsInUse}
use Rattle.proof_claims.specs.Held.{Claim, Holder, OfHandle, OfNode, is_by_nodes}
use Rattle.proof_claims.specs.Claims.{Has, claims_by, claims_of, held_of, how_often}
use Rattle.proof_claims.proofs.ClaimsDiffer.{claims_fit}
use Rattle.proof_claims.proofs.Differing.{count_one}
use Rattle.proof_claims.proofs.Letting.{the_one}
use Rattle.proof_claims.proofs.Lists.{both_true, found_in}
use Rattle.proof_claims.proofs.NamesOnce.{names_once}

abbrev of_claim : Ref → Ref → Claim → Bool
of_claim j k c = is_by_nodes (j ∷ []) c.by && (c.on == k)

abbrev claim : Holder → Ref → Claim
claim by on = record { by = by; on = on }

-- the test finds this claim alone
its_claim : (j k : Ref) → of_claim j k (record { by = OfNode j; on = k }) ≡ true
its_claim j k = ap (λ b. b && (k == k)) (found_in (j ∷ []) j (0, omega arith, refl)) ∙ eq-eqb k k refl

that_claim : (j k : Ref) (by : Holder) (on : Ref) → of_claim j k (record { by = by; on = on }) ≡ true → claim by on ≡ claim (OfNode j) k
that_claim j k (OfHandle g) on e = absurd (true≢false (sym e))
that_claim j k (OfNode x) on e =
    let (at_j, on_k) = both_true (is_by_nodes (j ∷ []) (OfNode x)) (on == k) e in
    ap (λ r. claim (OfNode r) on) (sym (the_one j x at_j)) ∙ ap (claim (OfNode j)) (eqb-true on k on_k)

pub held_once : (limits : Bounds) → AreBounds limits → (steps : List Step) → KeysFit steps → (j k : Ref) → IsInUse (run limits steps).heap j →
    Contains (refs_of_node (node_at (run limits steps).heap j)) k → Has (held_of limits steps) (OfNode j) k →
    (how_often k (refs_of_node (node_at (run limits steps).heap j)) ≡ 1) × (claims_by j k (claims_of limits steps) ≡ 1)
held_once limits ok steps keys j k used names has = (
  count_one (λ (x : Ref). x == k) (refs_of_node (node_at (run limits steps).heap j)) (names_once limits ok steps keys j used) k names (eq-eqb k k refl) (λ y c e. eqb-true y k e),
  count_one (of_claim j k) (claims_of limits steps) (claims_fit limits ok steps keys).differ (record { by = OfNode j; on = k }) has (its_claim j k) (λ y c e. that_claim j k y.by y.on e),
)
