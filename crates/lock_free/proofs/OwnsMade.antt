-- Of a node that is made it is said whether its main node is its own, as the steps say it.
use Rattle.std.proofs.Common.{◌≡◌, ◌==◌, ◌&&◌, ◌||◌, ◌⊎◌, inl, inr, ℕ, Bool, true, false, List, [], ◌∷◌, Contains, flat_map, if◌then◌else◌, refl, sym, ap, ◌∙◌, eq-eqb, ne_eqb}
use Rattle.std.proofs.lemmas.Bool.{cases_Bool, cases_eq, true≢false}
use Rattle.std.specs.List.{list_any}
use Rattle.machine_model.specs.Beneath.slot_arena.specs.declared.nodes.Node.{Node}
use Rattle.machine_model.specs.Beneath.slot_arena.specs.declared.nodes.Node.TheVariants.{Indirection, Branch, Single, Tomb, List as Listed}
use Rattle.machine_model.specs.Beneath.slot_arena.specs.declared.refs.Ref.{Ref}
use Rattle.machine_model.specs.Beneath.slot_arena.specs.Refs.{slot_of}
use Rattle.machine_model.specs.declared.building.BuildLine.TheVariants as build
use Rattle.machine_model.specs.declared.copying.CopyLine.TheVariants as copy
use Rattle.machine_model.specs.declared.lines.Line.{Line}
use Rattle.machine_model.specs.declared.lines.Line.TheVariants as line
use Rattle.proof_claims.specs.Changes.{claim_of_node, owned_at}
use Rattle.proof_claims.specs.Held.{Claim, OfNode, is_in}
use Rattle.proof_claims.proofs.Differing.{from_flat, in_cons, nothing_in}
use Rattle.proof_memory.specs.Wants.{is_indirection}
use Rattle.lock_free.specs.declared.accounts.Owned.{Owned}
use Rattle.lock_free.specs.Accounts.{OwnIs}
use Rattle.lock_free.specs.Making.{owned_with}
use Rattle.lock_free.specs.Owning.{IsBuilding}
use Rattle.lock_free.proofs.Owners.{it_or_before}

abbrev pub is_pair : Ref → Ref → Ref × Ref → Bool
is_pair i m pair = (pair.0 == i) && (pair.1 == m)

-- ---- by the steps

pub first_is : (x y i m : Ref) → (((x == i) && (y == m)) || false) ≡ true → i ≡ x
first_is x y i m e = elim (cases_eq x i) [
  | inl same ↦ sym same
  | inr differs ↦ absurd (true≢false (sym e ∙ ap (λ b. (b && (y == m)) || false) (ne_eqb x i differs)))
]

pub owned_first : (l : Line) (x i m : Ref) → list_any (is_pair i m) (owned_at l x) ≡ true → i ≡ x
owned_first (line.Build (build.Link path main position below depth)) x i m e = first_is x below i m e
owned_first (line.Copy (copy.Cleared root main branch)) x i m e = first_is x branch i m e
owned_first l x i m e = absurd (true≢false (sym e))

one_exact : (x y m : Ref) (own : Bool) → (own ≡ true → y ≡ m) → (y ≡ m → own ≡ true) → (((x == x) && (y == m)) || false) ≡ own
one_exact x y m own fits says = ap (λ b. (b && (y == m)) || false) (eq-eqb x x refl) ∙ elim (cases_eq y m) [
  | inl same ↦ ap (λ b. b || false) (eq-eqb y m same) ∙ sym (says same)
  | inr differs ↦ ap (λ b. b || false) (ne_eqb y m differs) ∙ elim (cases_Bool own) [ inl is ↦ absurd (differs (fits is)) | inr isnt ↦ sym isnt ]
]

none_exact : (own : Bool) → (own ≡ true → ⊥) → false ≡ own
none_exact true never = absurd (never refl)
none_exact false never = refl

pub owned_exact : (l : Line) (x m : Ref) (own : Bool) → (own ≡ true → IsBuilding l m) → (IsBuilding l m → own ≡ true) → list_any (is_pair x m) (owned_at l x) ≡ own
owned_exact (line.Build (build.Link path main position below depth)) x m own fits says = one_exact x below m own fits says
owned_exact (line.Copy (copy.Cleared root main branch)) x m own fits says = one_exact x branch m own fits says
owned_exact l x m own fits says = none_exact own fits

-- ---- what it holds by the steps

pub added_by : (over : List Ref) (x : Ref) (names : List Ref) (j k : Ref) → Contains (flat_map (claim_of_node over x) names) (record { by = OfNode j; on = k }) → j ≡ x
added_by over x names j k c = let (q, among, part) = from_flat (claim_of_node over x) names (record { by = OfNode j; on = k }) c in by q (is_in over q) part
  where
    by : (q : Ref) (b : Bool) → Contains {X = Claim} (if b then [] else record { by = OfNode x; on = q } ∷ []) (record { by = OfNode j; on = k }) → j ≡ x
    by q true part = absurd (nothing_in _ part)
    by q false part = elim (in_cons (record { by = OfNode x; on = q }) [] (record { by = OfNode j; on = k }) part) [
      | inl same ↦ (let holders : OfNode x ≡ OfNode j = ap (λ (c : Claim). c.by) same in let one : x ≡ j = cc holders in sym one)
      | inr none ↦ absurd (nothing_in _ none)
    ]

-- ---- by what is said

-- it was said before, or it is said of the new node
pub owned_or : (owned : List Owned) (k : ℕ) (own : Bool) (n : Node) (i m : ℕ) (b : Bool) → OwnIs (owned_with owned k own n) i m b →
    OwnIs owned i m b ⊎ ((i ≡ k) × ((is_indirection n ≡ false) ⊎ ((generation : ℕ) × (main : Ref) × (n ≡ Indirection generation main) × (slot_of main ≡ m) × (own ≡ b))))
owned_or owned k own (Indirection generation main) i m b h = elim (it_or_before (record { holder = k; held = slot_of main; is_own = own }) owned i m b h) [
  | inl new ↦ inr (sym new.0, inr (generation, main, refl, new.1, new.2))
  | inr old ↦ inl old
]
owned_or owned k own (Tomb single) i m b h = elim (it_or_before (record { holder = k; held = slot_of single; is_own = own }) owned i m b h) [
  | inl new ↦ inr (sym new.0, inl refl)
  | inr old ↦ inl old
]
owned_or owned k own (Branch bitmap entries) i m b h = inl h
owned_or owned k own (Single key value) i m b h = inl h
owned_or owned k own (Listed singles) i m b h = inl h
