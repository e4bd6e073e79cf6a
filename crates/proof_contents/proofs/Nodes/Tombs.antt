-- A branch whose keys but one are gone, and the tomb of that one's single.
use Rattle.std.proofs.Common.{◌≡◌, ◌≢◌, ℕ, zero, suc, ◌-◌, ◌<◌, Bool, true, false, ◌==◌, List, [], ◌∷◌, length, get_or, slice_index_or, Option, Some, None, ◌⊎◌, inl, inr, ⊎_elim}
use Rattle.std.proofs.Common.{refl, sym, ap, ap₂, ◌∙◌, arith, eqb-true}
use Rattle.arrayvec.specs.ArrayVec.{ArrayVec}
use Rattle.proof_contents.specs.Vocabulary.{position_of, Ref, Node, Branch, Single, Tomb, no_ref, index_in, flag_of}
use Rattle.proof_contents.specs.Nodes.Branches.{standing, HasPlaces, at_place}
use Rattle.proof_contents.specs.Nodes.Looking.{Absent, Has, look_at}
use Rattle.proof_contents.specs.Nodes.Changing.{look, Changes, AreInPlace}
use Rattle.proof_contents.proofs.Nodes.Branches.{before, standing_at, position-before, differ}
use Rattle.proof_contents.proofs.Nodes.Changes.{look_place, look_branch, look-same, look-other}

-- an entry at a place has fewer before it than there are
pub before-lt : (places : List (Option Ref)) (x : ℕ) (entry : Ref) → at_place places x ≡ Some entry → before places x < length (standing places)
before-lt [] x entry e = absurd (let bad : None ≡ Some entry = e in cc)
before-lt (None ∷ places) zero entry e = absurd (let bad : None ≡ Some entry = e in cc)
before-lt (Some q ∷ places) zero entry e = omega arith
before-lt (None ∷ places) (suc x) entry e = before-lt places x entry e
before-lt (Some q ∷ places) (suc x) entry e = omega (arith, before-lt places x entry e)

-- each entry stands at a place
pub place_of : (places : List (Option Ref)) (i : ℕ) (d : Ref) → i < length (standing places) → (x : ℕ) × (at_place places x ≡ Some (get_or (standing places) i d)) × (before places x ≡ i)
place_of [] i d lt = absurd (omega arith)
place_of (None ∷ places) i d lt = let found = place_of places i d lt in (suc found.0, found.1, found.2)
place_of (Some q ∷ places) zero d lt = (zero, refl, refl)
place_of (Some q ∷ places) (suc i) d lt = let found = place_of places i d (omega arith) in (suc found.0, found.1, ap suc found.2)

module _ (node : Ref → Node) (hash : ℕ → ℕ) (depth bitmap : ℕ) (entries : ArrayVec Ref) (places : List (Option Ref)) (h : HasPlaces bitmap entries.items places) where
  -- where every entry is this single or says nothing of a key, the single's tomb says the same
  pub tomb_agrees : (z : ℕ) (single : Ref) (own value q : ℕ) → at_place places z ≡ Some single → node single ≡ Single own value → index_in (hash own) depth ≡ z →
      ((y : ℕ) (entry : Ref) → at_place places y ≡ Some entry → (entry ≡ single) ⊎ (look_at q entry (node entry) ≡ Absent)) →
      look node hash depth q (Tomb single) ≡ look node hash depth q (Branch bitmap entries)
  tomb_agrees z single own value q at is placed alone = by_key (q == own) refl ∙ sym (look_branch node q bitmap (index_in (hash q) depth) entries places h)
    where
      by_place : (y : ℕ) → q ≢ own → (o : Option Ref) → at_place places y ≡ o → Absent ≡ look_place node q o
      by_place y apart None e = refl
      by_place y apart (Some entry) e = ⊎_elim (λ same. sym (ap (λ r. look_at q r (node r)) same ∙ look-other node q own value single is apart)) (λ absent. sym absent) (alone y entry e)

      by_key : (b : Bool) → (q == own) ≡ b → look_at q single (node single) ≡ look_place node q (at_place places (index_in (hash q) depth))
      by_key true e = sym (ap (look_place node q) (ap (λ k. at_place places (index_in (hash k) depth)) (eqb-true q own e) ∙ ap (at_place places) placed ∙ at))
      by_key false e =
          look-other node q own value single is (differ q own e) ∙ by_place (index_in (hash q) depth) (differ q own e) (at_place places (index_in (hash q) depth)) refl

  -- of two entries, both singles, the other one is left
  pub entombed_changes : (key former own value : ℕ) (entry : Ref) → AreInPlace node hash depth places → length entries.items ≡ 2 →
      at_place places (index_in (hash key) depth) ≡ Some entry → node entry ≡ Single key former →
      node (slice_index_or entries.items (1 - position_of (flag_of (hash key) depth) bitmap) no_ref) ≡ Single own value →
      Changes node hash depth key (Branch bitmap entries) (Tomb (slice_index_or entries.items (1 - position_of (flag_of (hash key) depth) bitmap) no_ref)) (Has former) Absent
  entombed_changes key former own value entry in_place two at was is = record {
    before = look_branch node key bitmap x entries places h ∙ ap (look_place node key) at ∙ look-same node key former entry was;
    after = look-other node key own value single is differs;
    others = λ q apart. tomb_agrees z single own value q at_z is own_place (λ y e at_y. alone q apart y e at_y (before places y == p) refl);
  }
    where
      x : ℕ
      x = index_in (hash key) depth

      p : ℕ
      p = position_of (flag_of (hash key) depth) bitmap

      single : Ref
      single = slice_index_or entries.items (1 - p) no_ref

      p_is : p ≡ before places x
      p_is = position-before bitmap entries.items places h x

      count : length (standing places) ≡ 2
      count = ap length (sym h.stand) ∙ two

      p-lt : p < 2
      p-lt = omega (arith, p_is, before-lt places x entry at, count)

      found : (z : ℕ) × (at_place places z ≡ Some (get_or (standing places) (1 - p) no_ref)) × (before places z ≡ 1 - p)
      found = place_of places (1 - p) no_ref (omega (arith, count))

      z : ℕ
      z = found.0

      at_z : at_place places z ≡ Some single
      at_z = found.1 ∙ ap Some (ap (λ es. get_or es (1 - p) no_ref) (sym h.stand))

      own_place : index_in (hash own) depth ≡ z
      own_place = in_place z own value single at_z is

      differs : key ≢ own
      differs same =
          let met : x ≡ z = ap (λ k. index_in (hash k) depth) same ∙ own_place in
          let bad : before places x ≡ 1 - p = ap (before places) met ∙ found.2 in
          omega (arith, p_is, p-lt, bad)

      alone : (q : ℕ) → q ≢ key → (y : ℕ) (e : Ref) → at_place places y ≡ Some e → (b : Bool) → (before places y == p) ≡ b → (e ≡ single) ⊎ (look_at q e (node e) ≡ Absent)
      alone q apart y e at_y true same =
          let is_entry : e ≡ entry =
          sym (standing_at places y e no_ref at_y) ∙ ap (λ n. get_or (standing places) n no_ref) (eqb-true _ _ same ∙ p_is) ∙ standing_at places x entry no_ref at in
          inr (ap (λ r. look_at q r (node r)) is_entry ∙ look-other node q key former entry was apart)
      alone q apart y e at_y false other =
          let behind : before places y ≡ 1 - p = omega (arith, before-lt places y e at_y, count, p-lt, differ _ _ other) in
          inl (sym (standing_at places y e no_ref at_y) ∙ ap₂ (λ es n. get_or es n no_ref) (sym h.stand) behind)
