-- Own updates of a key in a branch.
use Rattle.std.proofs.Common.{◌≡◌, ◌≢◌, ℕ, ◌^◌, ◌<◌, Bool, true, false, cond, ◌==◌, List, length, set, slice_index_or, Option, Some, None, is_some, refl, sym, ap, ap₂, ◌∙◌, arith}
use Rattle.std.proofs.Common.{eq-eqb, eqb-true, ne_eqb}
use Rattle.std.proofs.lemmas.List.{get_or-set_same, get_or-set_other}
use Rattle.arrayvec.specs.ArrayVec.{ArrayVec}
use Rattle.proof_contents.specs.Vocabulary.{position_of, Ref, Node, Branch, Single, no_ref, index_in, flag_of, inserted, updated, removed}
use Rattle.proof_contents.specs.Beneath.nodes.proofs.Indices.{index_below}
use Rattle.proof_contents.specs.Nodes.Branches.{HasPlaces, at_place}
use Rattle.proof_contents.specs.Nodes.Looking.{Found, Absent, Has, look_at, look_in}
use Rattle.proof_contents.specs.Nodes.Changing.{Changes}
use Rattle.proof_contents.proofs.Nodes.Branches.{has_flag-place, entry-place, inserted-places, updated-places, removed-places, differ}

-- what stands at a place says this of a key
abbrev pub look_place : (Ref → Node) → ℕ → Option Ref → Found
look_place node key None = Absent
look_place node key (Some entry) = look_at key entry (node entry)

module _ (node : Ref → Node) where
  -- a branch says what the place of the key's index says
  pub look_branch : (key bitmap x : ℕ) (entries : ArrayVec Ref) (places : List (Option Ref)) → HasPlaces bitmap entries.items places →
      look_in node (2 ^ x) key (Branch bitmap entries) ≡ look_place node key (at_place places x)
  look_branch key bitmap x entries places h = by_place (at_place places x) refl
    where
      by_place : (o : Option Ref) → at_place places x ≡ o → look_in node (2 ^ x) key (Branch bitmap entries) ≡ look_place node key o
      by_place None e =
          ap (λ b. cond b
          (look_at key (slice_index_or entries.items (position_of (2 ^ x) bitmap) no_ref) (node (slice_index_or entries.items (position_of (2 ^ x) bitmap) no_ref))) Absent)
          (has_flag-place bitmap entries.items places h x ∙ ap is_some e)
      by_place (Some entry) e =
          ap₂ (λ b r. cond b (look_at key r (node r)) Absent) (has_flag-place bitmap entries.items places h x ∙ ap is_some e)
          (entry-place bitmap entries.items places h x entry no_ref e)

  -- a single says its value of its own key, and nothing of any other
  pub look-same : (key value : ℕ) (entry : Ref) → node entry ≡ Single key value → look_at key entry (node entry) ≡ Has value
  look-same key value entry e = ap (look_at key entry) e ∙ ap (λ b. cond b (Has value) Absent) (eq-eqb key key refl)

  pub look-other : (q key value : ℕ) (entry : Ref) → node entry ≡ Single key value → q ≢ key → look_at q entry (node entry) ≡ Absent
  look-other q key value entry e apart = ap (look_at q entry) e ∙ ap (λ b. cond b (Has value) Absent) (ne_eqb key q (λ same. apart (sym same)))

  module _ (hash : ℕ → ℕ) (depth bitmap : ℕ) (entries : ArrayVec Ref) (places : List (Option Ref)) (h : HasPlaces bitmap entries.items places) where
    -- a branch that differs at one place alone, where neither says anything of other keys
    changed_place : (key bitmap' x : ℕ) (entries' : ArrayVec Ref) (o : Option Ref) (was is : Found) → x < 32 → x ≡ index_in (hash key) depth →
        HasPlaces bitmap' entries'.items (set places x o) → look_place node key (at_place places x) ≡ was → look_place node key o ≡ is →
        ((q : ℕ) → q ≢ key → look_place node q (at_place places x) ≡ look_place node q o) →
        Changes node hash depth key (Branch bitmap entries) (Branch bitmap' entries') was is
    changed_place key bitmap' x entries' o was is lt at h' w i others = record {
      before = look_branch key bitmap (index_in (hash key) depth) entries places h ∙ ap (λ y. look_place node key (at_place places y)) (sym at) ∙ w;
      after = look_branch key bitmap' (index_in (hash key) depth) entries' (set places x o) h' ∙ ap (λ y. look_place node key (at_place (set places x o) y)) (sym at)
          ∙ ap (look_place node key) (get_or-set_same places x o None lt') ∙ i;
      others = λ q apart.
          look_branch q bitmap' (index_in (hash q) depth) entries' (set places x o) h' ∙ at_index q apart (index_in (hash q) depth) (index_in (hash q) depth == x) refl
          ∙ sym (look_branch q bitmap (index_in (hash q) depth) entries places h);
    }
      where
        lt' : x < length places
        lt' = omega (arith, h.size)

        at_index : (q : ℕ) → q ≢ key → (y : ℕ) (b : Bool) → (y == x) ≡ b → look_place node q (at_place (set places x o) y) ≡ look_place node q (at_place places y)
        at_index q apart y true e =
            rw (eqb-true y x e) (ap (look_place node q) (get_or-set_same places x o None lt') ∙ sym (others q apart))
        at_index q apart y false e = ap (look_place node q) (get_or-set_other places x y o None (differ y x e))

    -- no key of the branch has the flag: the new single says its value
    pub inserted_changes : (key value : ℕ) (single : Ref) → at_place places (index_in (hash key) depth) ≡ None → node single ≡ Single key value →
        Changes node hash depth key (Branch bitmap entries) (inserted (flag_of (hash key) depth) bitmap entries.items single) Absent (Has value)
    inserted_changes key value single none is =
        let x = index_in (hash key) depth in
        changed_place key _ x _ (Some single) Absent (Has value) (index_below (hash key) depth) refl
        (inserted-places bitmap entries.items places h x single (index_below (hash key) depth) none)
        (ap (look_place node key) none) (look-same key value single is)
        (λ q apart. ap (look_place node q) none ∙ sym (look-other q key value single is apart))

    -- the key's single gives way to another one of the key
    pub updated_changes : (key former value : ℕ) (entry single : Ref) → at_place places (index_in (hash key) depth) ≡ Some entry → node entry ≡ Single key former →
        node single ≡ Single key value →
        Changes node hash depth key (Branch bitmap entries) (updated bitmap entries.items (position_of (flag_of (hash key) depth) bitmap) single) (Has former) (Has value)
    updated_changes key former value entry single at was is =
        let x = index_in (hash key) depth in
        changed_place key _ x _ (Some single) (Has former) (Has value) (index_below (hash key) depth) refl
        (updated-places bitmap entries.items places h x entry single at)
        (ap (look_place node key) at ∙ look-same key former entry was) (look-same key value single is)
        (λ q apart. ap (look_place node q) at ∙ look-other q key former entry was apart ∙ sym (look-other q key value single is apart))

    -- the key's single goes
    pub removed_changes : (key former : ℕ) (entry : Ref) → at_place places (index_in (hash key) depth) ≡ Some entry → node entry ≡ Single key former →
        Changes node hash depth key (Branch bitmap entries) (removed (flag_of (hash key) depth) bitmap entries.items (position_of (flag_of (hash key) depth) bitmap)) (Has former) Absent
    removed_changes key former entry at was =
        let x = index_in (hash key) depth in
        changed_place key _ x _ None (Has former) Absent (index_below (hash key) depth) refl
        (removed-places bitmap entries.items places h x entry at)
        (ap (look_place node key) at ∙ look-same key former entry was) refl
        (λ q apart. ap (look_place node q) at ∙ look-other q key former entry was apart)
