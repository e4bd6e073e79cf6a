-- A node names each of the nodes that it names once.
use Rattle.std.proofs.Common.{◌≡◌, ◌+◌, ◌*◌, ◌/◌, ◌^◌, ℕ, zero, suc, List, [], ◌∷◌, Contains, Option, Some, None, arith, refl, sym, ap, subst, ◌∙◌}
use Rattle.std.proofs.Common.{inl, inr, eq-eqb, cond}
use Rattle.std.proofs.Math.Nat.{mul-div_cancel}
use Rattle.std.proofs.lemmas.Nat.{pow_pos}
use Rattle.proof_claims.specs.Beneath.slot_arena.specs.declared.nodes.Node.{Node}
use Rattle.proof_claims.specs.Beneath.slot_arena.specs.declared.nodes.Node.TheVariants.{Indirection, Branch, Single, Tomb, List as Listed}
use Rattle.proof_claims.specs.Beneath.slot_arena.specs.declared.nodes.Slot.{Slot}
use Rattle.proof_claims.specs.Beneath.slot_arena.specs.declared.refs.Ref.{Ref}
use Rattle.proof_claims.specs.Beneath.slot_arena.specs.Heaps.{node_at, refs_of_node}
use Rattle.proof_claims.specs.Beneath.machine_model.specs.declared.steps.Bounds.{Bounds}
use Rattle.proof_claims.specs.Beneath.machine_model.specs.declared.steps.Step.{Step}
use Rattle.proof_claims.specs.Beneath.machine_model.specs.Grown.{standing}
use Rattle.proof_claims.specs.Beneath.machine_model.specs.Keys.{KeysFit}
use Rattle.proof_claims.specs.Beneath.machine_model.specs.Machine.{AreBounds, run}
use Rattle.proof_claims.specs.Beneath.machine_model.proofs.Grown.{node_standing}
use Rattle.proof_claims.specs.Beneath.proof_memory.specs.Laws.{IsInUse}
use Rattle.proof_claims.specs.Beneath.proof_contents.specs.Nodes.Branches.{at_place, standing as entries_at}
use Rattle.proof_claims.specs.Beneath.proof_contents.specs.Nodes.Lists.{AreSingles}
use Rattle.proof_claims.specs.Beneath.proof_contents.specs.Nodes.Looking.{Absent, Found, Has, look_among, look_at, or_else}
use Rattle.proof_claims.specs.Beneath.proof_shape.specs.Laws.{StandsAt, depth_of}
use Rattle.proof_claims.specs.Beneath.proof_shape.proofs.Shaped.OfLists.{branches_exact, lists_crowds}
use Rattle.proof_claims.specs.Different.{AreDifferent}
use Rattle.proof_claims.proofs.Differing.{in_cons, nothing_in}

pub one_alone : {A : Type 0} (x : A) → AreDifferent (x ∷ [])
one_alone x = (λ c. nothing_in x c, tt)

-- ---- places

-- each entry stands at a place
place_of : (places : List (Option Ref)) (e : Ref) → Contains (entries_at places) e → (x : ℕ) × (at_place places x ≡ Some e)
place_of [] e c = nothing_in e c
place_of (None ∷ places) e c = let (x, at) = place_of places e c in (suc x, at)
place_of (Some entry ∷ places) e c = elim (in_cons entry (entries_at places) e c) [
  | inl same ↦ (zero, ap Some same)
  | inr rest ↦ let (x, at) = place_of places e rest in (suc x, at)
]

zero_no_suc : (x : ℕ) → zero ≡ suc x → ⊥
zero_no_suc x e = omega (arith, e)

-- where each stands at one place
entries_differ : (places : List (Option Ref)) → ((x y : ℕ) (e : Ref) → at_place places x ≡ Some e → at_place places y ≡ Some e → x ≡ y) → AreDifferent (entries_at places)
entries_differ [] one = tt
entries_differ (None ∷ places) one = entries_differ places (λ x y e at_x at_y. let same = one (suc x) (suc y) e at_x at_y in omega (arith, same))
entries_differ (Some entry ∷ places) one = (
  λ c. let (x, at) = place_of places entry c in zero_no_suc x (one zero (suc x) entry refl at),
  entries_differ places (λ x y e at_x at_y. let same = one (suc x) (suc y) e at_x at_y in omega (arith, same)),
)

-- ---- lists

found_there : (node : Ref → Node) (singles : List Ref) (s : Ref) (key value : ℕ) → node s ≡ Single key value → Contains singles s → look_among node key singles ≡ Absent → ⊥
found_there node [] s key value is c e = nothing_in s c
found_there node (x ∷ singles) s key value is c e = elim (in_cons x singles s c) [
  | inl same ↦ has_not (sym first ∙ ap (λ n. or_else n (look_among node key singles)) (sym (ap (look_at key x) (ap node same ∙ is) ∙ ap (λ b. cond b (Has value) Absent) (eq-eqb key key refl))) ∙ e)
  | inr rest ↦ found_there node singles s key value is rest (later (look_at key x (node x)) e)
]
  where
    first : or_else (Has value) (look_among node key singles) ≡ Has value
    first = refl

    has_not : Has value ≡ Absent → ⊥
    has_not e = cc e

    later : (f : Found) → or_else f (look_among node key singles) ≡ Absent → look_among node key singles ≡ Absent
    later Absent e = e
    later (Has v) e = let bad : ⊥ = cc e in absurd bad
    later f e = let bad : ⊥ = cc e in absurd bad

singles_differ : (node : Ref → Node) (singles : List Ref) → AreSingles node singles → AreDifferent singles
singles_differ node [] are = tt
singles_differ node (s ∷ singles) are = (λ c. found_there node singles s are.0.key are.0.value are.0.is c are.0.none, singles_differ node singles are.1)

-- ---- each node

module _ (limits : Bounds) (ok : AreBounds limits) (steps : List Step) (fit : KeysFit steps) (r : Ref) (slot : Slot) (found : standing (run limits steps).heap r ≡ Some slot) where
  one_index : (base x y d : ℕ) → base + x * 2 ^ d ≡ base + y * 2 ^ d → x ≡ y
  one_index base x y d e =
      let same : x * 2 ^ d ≡ y * 2 ^ d = omega (arith, e) in
      sym (mul-div_cancel x (pow_pos d)) ∙ ap (λ n. n / (2 ^ d)) same ∙ mul-div_cancel y (pow_pos d)

  one_place : (x y : ℕ) (entry : Ref) (n : Node) → StandsAt limits steps r x entry n → StandsAt limits steps r y entry n → x ≡ y
  one_place x y entry (Single key value) a b = sym a.0 ∙ b.0
  one_place x y entry (Indirection g main) a b = one_index _ x y (5 * depth_of limits steps r) (sym a.1 ∙ b.1)
  one_place x y entry (Branch bitmap entries) a b = absurd a
  one_place x y entry (Tomb single) a b = absurd a
  one_place x y entry (Listed singles) a b = absurd a

  by_node : (n : Node) → slot.node ≡ n → AreDifferent (refs_of_node n)
  by_node (Indirection g main) e = one_alone main
  by_node (Branch bitmap entries) e =
      let (places, has, stand) = (branches_exact limits steps r slot bitmap entries ok fit found e).1 in
      subst (λ l. AreDifferent l) (sym has.stand) (entries_differ places (λ x y entry at_x at_y. one_place x y entry _ (stand x entry at_x) (stand y entry at_y)))
  by_node (Single key value) e = tt
  by_node (Tomb single) e = one_alone single
  by_node (Listed singles) e = singles_differ (node_at (run limits steps).heap) singles.items (lists_crowds limits steps r slot singles ok fit found e).3

pub names_once : (limits : Bounds) → AreBounds limits → (steps : List Step) → KeysFit steps → (r : Ref) → IsInUse (run limits steps).heap r →
    AreDifferent (refs_of_node (node_at (run limits steps).heap r))
names_once limits ok steps fit r (slot, found) =
    subst (λ n. AreDifferent (refs_of_node n)) (sym (node_standing (run limits steps).heap r slot found)) (by_node limits ok steps fit r slot found slot.node refl)
