-- Own updates of a key in a list.
use Rattle.std.proofs.Common.{◌≡◌, ◌≢◌, ℕ, zero, suc, ◌-◌, ◌<◌, ◌≤◌, List, [], ◌∷◌, ◌++◌, length, take, get_or, set, remove, slice_index_or, refl, sym, ap, ap₂, ◌∙◌, arith}
use Rattle.std.proofs.Common.{take_all, length-append, length-set}
use Rattle.std.proofs.lemmas.List.Edits.{length-remove}
use Rattle.arrayvec.specs.ArrayVec.{ArrayVec}
use Rattle.proof_contents.specs.Vocabulary.{Ref, Node, Single, Tomb, List as Listed, no_ref, list_inserted, list_updated, list_removed}
use Rattle.proof_contents.specs.Nodes.Looking.{Found, Absent, Has, Below, look_at, or_else, look_among}
use Rattle.proof_contents.specs.Nodes.Lists.{IsNew, AreSingles}
use Rattle.proof_contents.specs.Nodes.Changing.{Changes}
use Rattle.proof_contents.proofs.Nodes.Changes.{look-same, look-other}

pub or_else-absent : (f : Found) → or_else f Absent ≡ f
or_else-absent Absent = refl
or_else-absent (Has value) = refl
or_else-absent (Below indirection) = refl

or_else-assoc : (f g h : Found) → or_else (or_else f g) h ≡ or_else f (or_else g h)
or_else-assoc Absent g h = refl
or_else-assoc (Has value) g h = refl
or_else-assoc (Below indirection) g h = refl

module _ (node : Ref → Node) where
  pub look_among-append : (key : ℕ) (xs ys : List Ref) → look_among node key (xs ++ ys) ≡ or_else (look_among node key xs) (look_among node key ys)
  look_among-append key [] ys = refl
  look_among-append key (x ∷ xs) ys =
      ap (or_else (look_at key x (node x))) (look_among-append key xs ys) ∙ sym (or_else-assoc (look_at key x (node x)) (look_among node key xs) (look_among node key ys))

  -- a key that a later single has isn't the first one's
  apart_from_first : (key value : ℕ) (single : Ref) (others : List Ref) → (new : IsNew node single others) → look_among node key others ≡ Has value → key ≢ new.key
  apart_from_first key value single others new has same = let bad : Has value ≡ Absent = sym has ∙ ap (λ k. look_among node k others) same ∙ new.none in cc

  -- the single at a position has its key alone
  pub listed_at : (singles : List Ref) (p key value : ℕ) (d : Ref) → AreSingles node singles → p < length singles → node (get_or singles p d) ≡ Single key value →
      look_among node key singles ≡ Has value
  listed_at [] p key value d are lt is = absurd (omega arith)
  listed_at (s ∷ singles) zero key value d are lt is = ap (λ f. or_else f (look_among node key singles)) (look-same node key value s is)
  listed_at (s ∷ singles) (suc p) key value d are lt is =
      let rest : look_among node key singles ≡ Has value = listed_at singles p key value d are.1 (omega arith) is in
      ap₂ or_else (look-other node key are.0.key are.0.value s are.0.is (apart_from_first key value s singles are.0 rest)) rest

  -- another single of the same key in its place
  pub set_same : (singles : List Ref) (p key former value : ℕ) (d single : Ref) → AreSingles node singles → p < length singles →
      node (get_or singles p d) ≡ Single key former → node single ≡ Single key value → look_among node key (set singles p single) ≡ Has value
  set_same [] p key former value d single are lt is new = absurd (omega arith)
  set_same (s ∷ singles) zero key former value d single are lt is new = ap (λ f. or_else f (look_among node key singles)) (look-same node key value single new)
  set_same (s ∷ singles) (suc p) key former value d single are lt is new =
      let rest : look_among node key singles ≡ Has former = listed_at singles p key former d are.1 (omega arith) is in
      ap₂ or_else (look-other node key are.0.key are.0.value s are.0.is (apart_from_first key former s singles are.0 rest))
      (set_same singles p key former value d single are.1 (omega arith) is new)

  pub set_others : (singles : List Ref) (p key former value q : ℕ) (d single : Ref) → p < length singles →
      node (get_or singles p d) ≡ Single key former → node single ≡ Single key value → q ≢ key → look_among node q (set singles p single) ≡ look_among node q singles
  set_others [] p key former value q d single lt is new apart = refl
  set_others (s ∷ singles) zero key former value q d single lt is new apart =
      ap (λ f. or_else f (look_among node q singles)) (look-other node q key value single new apart ∙ sym (look-other node q key former s is apart))
  set_others (s ∷ singles) (suc p) key former value q d single lt is new apart =
      ap (or_else (look_at q s (node s))) (set_others singles p key former value q d single (omega arith) is new apart)

  -- without it
  pub remove_same : (singles : List Ref) (p key former : ℕ) (d : Ref) → AreSingles node singles → p < length singles →
      node (get_or singles p d) ≡ Single key former → look_among node key (remove singles p) ≡ Absent
  remove_same [] p key former d are lt is = absurd (omega arith)
  remove_same (s ∷ singles) zero key former d are lt is =
      let same : are.0.key ≡ key = (let both : Single are.0.key are.0.value ≡ Single key former = sym are.0.is ∙ is in cc) in
      ap (λ k. look_among node k singles) (sym same) ∙ are.0.none
  remove_same (s ∷ singles) (suc p) key former d are lt is =
      let rest : look_among node key singles ≡ Has former = listed_at singles p key former d are.1 (omega arith) is in
      ap₂ or_else (look-other node key are.0.key are.0.value s are.0.is (apart_from_first key former s singles are.0 rest))
      (remove_same singles p key former d are.1 (omega arith) is)

  pub remove_others : (singles : List Ref) (p key former q : ℕ) (d : Ref) → p < length singles → node (get_or singles p d) ≡ Single key former → q ≢ key →
      look_among node q (remove singles p) ≡ look_among node q singles
  remove_others [] p key former q d lt is apart = absurd (omega arith)
  remove_others (s ∷ singles) zero key former q d lt is apart = ap (λ f. or_else f (look_among node q singles)) (sym (look-other node q key former s is apart))
  remove_others (s ∷ singles) (suc p) key former q d lt is apart = ap (or_else (look_at q s (node s))) (remove_others singles p key former q d (omega arith) is apart)

  -- the other one of two
  other_same : (singles : List Ref) (p key former : ℕ) (d e : Ref) → AreSingles node singles → p < length singles → length singles ≡ 2 →
      node (get_or singles p d) ≡ Single key former → look_at key (get_or singles (1 - p) e) (node (get_or singles (1 - p) e)) ≡ Absent
  other_same [] p key former d e are lt two is = absurd (omega arith)
  other_same (a ∷ []) p key former d e are lt two is = absurd (omega arith)
  other_same (a ∷ b ∷ []) zero key former d e are lt two is =
      sym (or_else-absent (look_at key b (node b))) ∙ remove_same (a ∷ b ∷ []) zero key former d are lt is
  other_same (a ∷ b ∷ []) (suc zero) key former d e are lt two is =
      sym (or_else-absent (look_at key a (node a))) ∙ remove_same (a ∷ b ∷ []) (suc zero) key former d are lt is
  other_same (a ∷ b ∷ []) (suc (suc p)) key former d e are lt two is = absurd (omega arith)
  other_same (a ∷ b ∷ c ∷ singles) p key former d e are lt two is = absurd (omega arith)

  other_others : (singles : List Ref) (p key former q : ℕ) (d e : Ref) → p < length singles → length singles ≡ 2 →
      node (get_or singles p d) ≡ Single key former → q ≢ key → look_at q (get_or singles (1 - p) e) (node (get_or singles (1 - p) e)) ≡ look_among node q singles
  other_others [] p key former q d e lt two is apart = absurd (omega arith)
  other_others (a ∷ []) p key former q d e lt two is apart = absurd (omega arith)
  other_others (a ∷ b ∷ []) zero key former q d e lt two is apart =
      sym (or_else-absent (look_at q b (node b))) ∙ remove_others (a ∷ b ∷ []) zero key former q d lt is apart
  other_others (a ∷ b ∷ []) (suc zero) key former q d e lt two is apart =
      sym (or_else-absent (look_at q a (node a))) ∙ remove_others (a ∷ b ∷ []) (suc zero) key former q d lt is apart
  other_others (a ∷ b ∷ []) (suc (suc p)) key former q d e lt two is apart = absurd (omega arith)
  other_others (a ∷ b ∷ c ∷ singles) p key former q d e lt two is apart = absurd (omega arith)

  -- ---- what the builders do

  module _ (hash : ℕ → ℕ) (depth : ℕ) (singles : ArrayVec Ref) where
    -- a list that has room, and not the key
    pub list_inserted_changes : (key value : ℕ) (single : Ref) → length singles.items < 32 → look_among node key singles.items ≡ Absent → node single ≡ Single key value →
        Changes node hash depth key (Listed singles) (list_inserted singles.items single) Absent (Has value)
    list_inserted_changes key value single room none is =
        let whole : take 32 (singles.items ++ single ∷ []) ≡ singles.items ++ single ∷ [] =
        take_all 32 (singles.items ++ single ∷ []) (omega (arith, length-append singles.items (single ∷ []))) in
        record {
          before = none;
          after = ap (look_among node key) whole ∙ look_among-append key singles.items (single ∷ []) ∙ ap₂ or_else none (ap (λ f. or_else f Absent) (look-same node key value single is));
          others = λ q apart. ap (look_among node q) whole ∙ look_among-append q singles.items (single ∷ [])
              ∙ ap (or_else (look_among node q singles.items)) (ap (λ f. or_else f Absent) (look-other node q key value single is apart))
              ∙ or_else-absent (look_among node q singles.items);
        }

    pub list_updated_changes : (p key former value : ℕ) (single : Ref) → AreSingles node singles.items → length singles.items ≤ 32 → p < length singles.items →
        node (slice_index_or singles.items p no_ref) ≡ Single key former → node single ≡ Single key value →
        Changes node hash depth key (Listed singles) (list_updated singles.items p single) (Has former) (Has value)
    list_updated_changes p key former value single are most lt was is =
        let whole : take 32 (set singles.items p single) ≡ set singles.items p single =
        take_all 32 (set singles.items p single) (omega (arith, length-set singles.items p single)) in
        record {
          before = listed_at singles.items p key former no_ref are lt was;
          after = ap (look_among node key) whole ∙ set_same singles.items p key former value no_ref single are lt was is;
          others = λ q apart. ap (look_among node q) whole ∙ set_others singles.items p key former value q no_ref single lt was is apart;
        }

    pub list_removed_changes : (p key former : ℕ) → AreSingles node singles.items → length singles.items ≤ 32 → p < length singles.items →
        node (slice_index_or singles.items p no_ref) ≡ Single key former →
        Changes node hash depth key (Listed singles) (list_removed singles.items p) (Has former) Absent
    list_removed_changes p key former are most lt was =
        let whole : take 32 (remove singles.items p) ≡ remove singles.items p =
        take_all 32 (remove singles.items p) (omega (arith, length-remove singles.items p lt)) in
        record {
          before = listed_at singles.items p key former no_ref are lt was;
          after = ap (look_among node key) whole ∙ remove_same singles.items p key former no_ref are lt was;
          others = λ q apart. ap (look_among node q) whole ∙ remove_others singles.items p key former q no_ref lt was apart;
        }

    -- of two singles the other one is left
    pub list_entombed_changes : (p key former : ℕ) → AreSingles node singles.items → length singles.items ≡ 2 → p < length singles.items →
        node (slice_index_or singles.items p no_ref) ≡ Single key former →
        Changes node hash depth key (Listed singles) (Tomb (slice_index_or singles.items (1 - p) no_ref)) (Has former) Absent
    list_entombed_changes p key former are two lt was = record {
      before = listed_at singles.items p key former no_ref are lt was;
      after = other_same singles.items p key former no_ref no_ref are lt two was;
      others = λ q apart. other_others singles.items p key former q no_ref no_ref lt two was apart;
    }
