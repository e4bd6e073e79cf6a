-- The builders keep the shape of main nodes.
use Rattle.std.proofs.Common.{◌≤◌, ◌≡◌, ◌≢◌, ℕ, ◌*◌, ◌^◌, ◌<◌, ◌==◌, Bool, true, false, cond, List, [], ◌∷◌, length, set, slice_index_or, Option, Some, None, bit_or, ⊎_elim, refl}
use Rattle.std.proofs.Common.{sym, ap, ap₂, subst, ◌∙◌, arith, eqb-true, length-set}
use Rattle.std.proofs.lemmas.List.{get_or-set_same, get_or-set_other}
use Rattle.arrayvec.specs.ArrayVec.{ArrayVec}
use Rattle.proof_contents.specs.Vocabulary.{hash_of, position_of, Ref, Node, Indirection, Branch, Single, Tomb, List as Listed, no_ref, empty_branch, entries_from, list_depth, index_in, flag_of}
use Rattle.proof_contents.specs.Vocabulary.{has_flag, inserted, updated, removed, renewed, pair, rung, by_index}
use Rattle.proof_contents.specs.Nodes.Branches.{standing, HasPlaces, at_place}
use Rattle.proof_contents.specs.Nodes.Looking.{Absent, Has, look_among, or_else}
use Rattle.proof_contents.specs.Nodes.Lists.{AreSingles}
use Rattle.proof_contents.specs.Nodes.Chains.{Parts}
use Rattle.proof_contents.proofs.Nodes.Branches.{before, standing_at, flagged, unflagged, inserted-places, updated-places, removed-places, differ}
use Rattle.proof_contents.specs.Beneath.nodes.proofs.Indices.{index_below}
use Rattle.proof_contents.proofs.Nodes.Changes.{look-other}
use Rattle.proof_contents.proofs.Nodes.Tombs.{before-lt, place_of}
use Rattle.proof_contents.proofs.Nodes.Refilling.{refilled, refilled-places, refilled-none, refilled-some}
use Rattle.proof_contents.proofs.Nodes.Chains.{empty_places, nothing, none_at, one-places, two-places, one_length}
use Rattle.proof_contents.specs.Tries.{Trie, IsChild, IsShaped, branch, list, tomb}
use Rattle.proof_contents.specs.Shapes.{LeadsTo, Fits, unchanged, stands_for, becomes_single}
use Rattle.proof_contents.proofs.Shapes.Nodes.{IsBranch, branch_shape}
use Rattle.proof_contents.proofs.Values.Parting.{parted}

module _ (trie : Trie) (fits : (i : Ref) → trie.path i < 2 ^ (5 * trie.depth i)) (i : Ref) where
  abbrev index : ℕ → ℕ
  index key = index_in (hash_of trie.kind key) (trie.depth i)

  -- what may stand at a place
  pub data MayStand (x : ℕ) (entry : Ref) : Type 0 where
    a_single : (key value : ℕ) → trie.node entry ≡ Single key value → index_in (hash_of trie.kind key) (trie.depth i) ≡ x → LeadsTo trie i key → MayStand x entry
    a_child : (g : ℕ) (word : Ref) → trie.node entry ≡ Indirection g word → IsChild trie i x entry → MayStand x entry
    another : ((key value : ℕ) → trie.node entry ≢ Single key value) → ((g : ℕ) (word : Ref) → trie.node entry ≢ Indirection g word) → MayStand x entry

  single_stands : (x k v : ℕ) (entry : Ref) → MayStand x entry → trie.node entry ≡ Single k v → (index_in (hash_of trie.kind k) (trie.depth i) ≡ x) × LeadsTo trie i k
  single_stands x k v entry (a_single key value is at led) e =
      let both : Single key value ≡ Single k v = sym is ∙ e in
      let key_is : key ≡ k = cc in
      (ap index (sym key_is) ∙ at, subst (λ n. LeadsTo trie i n) key_is led)
  single_stands x k v entry (a_child g word is c) e = absurd (let bad : Indirection g word ≡ Single k v = sym is ∙ e in cc)
  single_stands x k v entry (another a b) e = absurd (a k v e)

  child_stands : (x g : ℕ) (entry word : Ref) → MayStand x entry → trie.node entry ≡ Indirection g word → IsChild trie i x entry
  child_stands x g entry word (a_single key value is at led) e = absurd (let bad : Single key value ≡ Indirection g word = sym is ∙ e in cc)
  child_stands x g entry word (a_child h w is c) e = c
  child_stands x g entry word (another a b) e = absurd (b g word e)

  -- a branch of such entries
  pub branch_of : (bitmap : ℕ) (entries : ArrayVec Ref) (places : List (Option Ref)) → HasPlaces bitmap entries.items places → trie.depth i < list_depth trie.kind →
      ((x : ℕ) (entry : Ref) → at_place places x ≡ Some entry → MayStand x entry) → IsShaped trie i (Branch bitmap entries)
  branch_of bitmap entries places has shallow may =
      branch bitmap entries places refl has shallow (λ x k v e at is. (single_stands x k v e (may x e at) is).0) (λ x k v e at is. (single_stands x k v e (may x e at) is).1)
      (λ x g e w at is. child_stands x g e w (may x e at) is)

  -- what stands in a branch of the shape may stand there
  stood : (bitmap : ℕ) (entries : ArrayVec Ref) → (s : IsBranch trie i bitmap entries) → (x : ℕ) (entry : Ref) → at_place s.places x ≡ Some entry → MayStand x entry
  stood bitmap entries s x entry at = by_node (trie.node entry) refl
    where
      by_node : (n : Node) → trie.node entry ≡ n → MayStand x entry
      by_node (Single k v) is = a_single k v is (s.in_place x k v entry at is) (s.led x k v entry at is)
      by_node (Indirection g word) is = a_child g word is (s.children x g entry word at is)
      by_node (Branch b es) is = another (λ k v e. let bad : Branch b es ≡ Single k v = sym is ∙ e in cc) (λ g w e. let bad : Branch b es ≡ Indirection g w = sym is ∙ e in cc)
      by_node (Tomb t) is = another (λ k v e. let bad : Tomb t ≡ Single k v = sym is ∙ e in cc) (λ g w e. let bad : Tomb t ≡ Indirection g w = sym is ∙ e in cc)
      by_node (Listed ss) is = another (λ k v e. let bad : Listed ss ≡ Single k v = sym is ∙ e in cc) (λ g w e. let bad : Listed ss ≡ Indirection g w = sym is ∙ e in cc)

  -- with one place written
  written : (places : List (Option Ref)) (x : ℕ) (o : Option Ref) → x < length places → ((y : ℕ) (entry : Ref) → at_place places y ≡ Some entry → MayStand y entry) →
      ((entry : Ref) → o ≡ Some entry → MayStand x entry) → (y : ℕ) (entry : Ref) → at_place (set places x o) y ≡ Some entry → MayStand y entry
  written places x o lt may new y entry at = by_test (y == x) refl
    where
      by_test : (b : Bool) → (y == x) ≡ b → MayStand y entry
      by_test true e =
          let here = eqb-true y x e in
          subst (λ n. MayStand n entry) (sym here) (new entry (sym (get_or-set_same places x o None lt) ∙ ap (at_place (set places x o)) (sym here) ∙ at))
      by_test false e = may y entry (sym (get_or-set_other places x y o None (differ y x e)) ∙ at)

  module _ (bitmap : ℕ) (entries : ArrayVec Ref) (shape : IsShaped trie i (Branch bitmap entries)) (key : ℕ) where
    s : IsBranch trie i bitmap entries
    s = branch_shape trie i (Branch bitmap entries) bitmap entries shape refl

    abbrev x : ℕ
    x = index_in (hash_of trie.kind key) (trie.depth i)

    x-lt : x < length s.places
    x-lt = omega (arith, s.has.size, index_below (hash_of trie.kind key) (trie.depth i))

    -- a single more, in its place
    pub inserted_shaped : (value : ℕ) (new : Ref) → has_flag bitmap (flag_of (hash_of trie.kind key) (trie.depth i)) ≡ false → trie.node new ≡ Single key value → LeadsTo trie i key →
        IsShaped trie i (inserted (flag_of (hash_of trie.kind key) (trie.depth i)) bitmap entries.items new)
    inserted_shaped value new no_flag is led =
        branch_of _ _ (set s.places x (Some new))
        (inserted-places bitmap entries.items s.places s.has x new (index_below (hash_of trie.kind key) (trie.depth i)) (unflagged bitmap entries.items s.places s.has x no_flag)) s.shallow
        (written s.places x (Some new) x-lt (stood bitmap entries s)
        (λ e at. let same : Some new ≡ Some e = at in let e_is : new ≡ e = cc in subst (λ r. MayStand x r) e_is (a_single key value is refl led)))

    -- another entry in the place of one, if it may stand there
    updated_by : (new : Ref) → has_flag bitmap (flag_of (hash_of trie.kind key) (trie.depth i)) ≡ true → MayStand x new →
        IsShaped trie i (updated bitmap entries.items (position_of (flag_of (hash_of trie.kind key) (trie.depth i)) bitmap) new)
    updated_by new flag may =
        branch_of _ _ (set s.places x (Some new))
        (updated-places bitmap entries.items s.places s.has x _ new (flagged bitmap entries.items s.places s.has x no_ref flag)) s.shallow
        (written s.places x (Some new) x-lt (stood bitmap entries s) (λ e at. let same : Some new ≡ Some e = at in let e_is : new ≡ e = cc in subst (λ r. MayStand x r) e_is may))

    pub updated_shaped : (value : ℕ) (new : Ref) → has_flag bitmap (flag_of (hash_of trie.kind key) (trie.depth i)) ≡ true → trie.node new ≡ Single key value → LeadsTo trie i key →
        IsShaped trie i (updated bitmap entries.items (position_of (flag_of (hash_of trie.kind key) (trie.depth i)) bitmap) new)
    updated_shaped value new flag is led = updated_by new flag (a_single key value is refl led)

    -- an indirection, as a chain begins with
    pub linked_shaped : (g : ℕ) (link word : Ref) → has_flag bitmap (flag_of (hash_of trie.kind key) (trie.depth i)) ≡ true → trie.node link ≡ Indirection g word →
        IsChild trie i (index_in (hash_of trie.kind key) (trie.depth i)) link →
        IsShaped trie i (updated bitmap entries.items (position_of (flag_of (hash_of trie.kind key) (trie.depth i)) bitmap) link)
    linked_shaped g link word flag is child = updated_by link flag (a_child g word is child)

    pub removed_shaped : has_flag bitmap (flag_of (hash_of trie.kind key) (trie.depth i)) ≡ true →
        IsShaped trie i (removed (flag_of (hash_of trie.kind key) (trie.depth i)) bitmap entries.items (position_of (flag_of (hash_of trie.kind key) (trie.depth i)) bitmap))
    removed_shaped flag =
        branch_of _ _ (set s.places x None) (removed-places bitmap entries.items s.places s.has x _ (flagged bitmap entries.items s.places s.has x no_ref flag)) s.shallow
        (written s.places x None x-lt (stood bitmap entries s) (λ e at. absurd (let bad : None ≡ Some e = at in cc)))

  -- a single entry of a branch is fit for a tomb
  pub entombed_shaped : (bitmap n own value : ℕ) (entries : ArrayVec Ref) → IsShaped trie i (Branch bitmap entries) → n < length entries.items →
      trie.node (slice_index_or entries.items n no_ref) ≡ Single own value → IsShaped trie i (Tomb (slice_index_or entries.items n no_ref))
  entombed_shaped bitmap n own value entries shape lt is =
      let s = branch_shape trie i (Branch bitmap entries) bitmap entries shape refl in
      let found = place_of s.places n no_ref (omega (arith, ap length s.has.stand)) in
      tomb (slice_index_or entries.items n no_ref) own value refl is
      (s.led found.0 own value (slice_index_or entries.items n no_ref) (found.1 ∙ ap (λ es. Some (slice_index_or es n no_ref)) (sym s.has.stand)) is)

  -- an entry that fits may stand where the old one did
  pub fit_stands : (x : ℕ) (entry other : Ref) → MayStand x entry → Fits trie i entry other → MayStand x other
  fit_stands x entry other may (unchanged e) = subst (λ r. MayStand x r) e may
  fit_stands x entry other may (stands_for g h word word' is new for own) =
      let c = child_stands x g entry word may is in
      a_child h word' new (record {
        deeper = for.deep ∙ c.deeper;
        led = for.led ∙ c.led;
        older = own;
      })
  fit_stands x entry other may (becomes_single g key value word is new led) =
      let c = child_stands x g entry word may is in
      let both = parted trie fits i entry x key c led in
      a_single key value new both.0 both.1

  -- entries that fit one by one
  pub refilled_shaped : (bitmap : ℕ) (entries : ArrayVec Ref) (others : List Ref) → IsShaped trie i (Branch bitmap entries) → length others ≡ length entries.items →
      ((n : ℕ) → n < length entries.items → Fits trie i (slice_index_or entries.items n no_ref) (slice_index_or others n no_ref)) → IsShaped trie i (renewed bitmap others)
  refilled_shaped bitmap entries others shape count fit =
      branch_of bitmap (entries_from others) (refilled s.places others) (refilled-places bitmap entries.items others s.places s.has count) s.shallow may
    where
      s : IsBranch trie i bitmap entries
      s = branch_shape trie i (Branch bitmap entries) bitmap entries shape refl

      whole : length entries.items ≡ length (standing s.places)
      whole = ap length s.has.stand

      may : (x : ℕ) (entry : Ref) → at_place (refilled s.places others) x ≡ Some entry → MayStand x entry
      may x entry at = by_place (at_place s.places x) refl
        where
          by_place : (o : Option Ref) → at_place s.places x ≡ o → MayStand x entry
          by_place None none = absurd (let bad : None ≡ Some entry = sym (refilled-none s.places others x none) ∙ at in cc)
          by_place (Some old) some =
              let n = before s.places x in
              let here : slice_index_or entries.items n no_ref ≡ old = ap (λ es. slice_index_or es n no_ref) s.has.stand ∙ standing_at s.places x old no_ref some in
              let there : Some (slice_index_or others n no_ref) ≡ Some entry = sym (refilled-some s.places others x old no_ref (count ∙ whole) some) ∙ at in
              let entry_is : slice_index_or others n no_ref ≡ entry = cc in
              subst (λ r. MayStand x r) entry_is
              (fit_stands x old (slice_index_or others n no_ref) (stood bitmap entries s x old some)
              (subst (λ r. Fits trie i r (slice_index_or others n no_ref)) here (fit n (omega (arith, before-lt s.places x old some, whole)))))

  -- a tomb of what is left alone
  pub contracted_shaped : (bitmap own value : ℕ) (entries : ArrayVec Ref) (entry left : Ref) → IsShaped trie i (Branch bitmap entries) → entries.items ≡ entry ∷ [] →
      Fits trie i entry left → trie.node left ≡ Single own value → IsShaped trie i (Tomb left)
  contracted_shaped bitmap own value entries entry left shape one fit is =
      let s = branch_shape trie i (Branch bitmap entries) bitmap entries shape refl in
      let found = place_of s.places 0 no_ref (omega (arith, ap length (sym s.has.stand ∙ one))) in
      let at : at_place s.places found.0 ≡ Some entry = found.1 ∙ ap (λ es. Some (slice_index_or es 0 no_ref)) (sym s.has.stand ∙ one) in
      tomb left own value refl is (single_stands found.0 own value left (fit_stands found.0 entry left (stood bitmap entries s found.0 entry at) fit) is).1

  -- nothing stands in an empty branch
  pub empty_shaped : trie.depth i < list_depth trie.kind → IsShaped trie i empty_branch
  empty_shaped shallow = branch_of 0 (entries_from []) (empty_places 32) nothing shallow (λ x e at. absurd (let bad : None ≡ Some e = sym (none_at 32 x) ∙ at in cc))

  -- ---- chains

  -- the branch of one entry on the way down
  pub rung_shaped : (key g : ℕ) (below word : Ref) → trie.depth i < list_depth trie.kind → trie.node below ≡ Indirection g word →
      IsChild trie i (index_in (hash_of trie.kind key) (trie.depth i)) below →
      IsShaped trie i (rung (hash_of trie.kind key) (trie.depth i) below)
  rung_shaped key g below word shallow is child =
      let x = index_in (hash_of trie.kind key) (trie.depth i) in
      branch_of (2 ^ x) (entries_from (below ∷ [])) (set (empty_places 32) x (Some below)) (one-places x below (index_below (hash_of trie.kind key) (trie.depth i))) shallow
      (written (empty_places 32) x (Some below) (omega (arith, one_length 32, index_below (hash_of trie.kind key) (trie.depth i)))
      (λ y e at. absurd (let bad : None ≡ Some e = sym (none_at 32 y) ∙ at in cc))
      (λ e at. let same : Some below ≡ Some e = at in let e_is : below ≡ e = cc in subst (λ r. MayStand x r) e_is (a_child g word is child)))

  -- the main node of two singles
  pub pair_shaped : (former key own value : ℕ) (old new : Ref) → trie.node old ≡ Single former own → trie.node new ≡ Single key value → former ≢ key →
      trie.depth i ≤ list_depth trie.kind → Parts trie.kind former key (trie.depth i) → LeadsTo trie i former → LeadsTo trie i key →
      (trie.depth i ≡ list_depth trie.kind → (hash_of trie.kind former ≡ trie.path i) × (hash_of trie.kind key ≡ trie.path i)) →
      IsShaped trie i (pair trie.kind (trie.depth i) (hash_of trie.kind former) (hash_of trie.kind key) old new)
  pair_shaped former key own value old new is_old is_new apart most parts led_old led_new at_end = by_test (trie.depth i == list_depth trie.kind) refl
    where
      a : ℕ
      a = index_in (hash_of trie.kind former) (trie.depth i)

      b : ℕ
      b = index_in (hash_of trie.kind key) (trie.depth i)

      singles_of : AreSingles trie.node (old ∷ new ∷ [])
      singles_of = (
        record { key = former; value = own; is = is_old; none = ap (λ f. or_else f Absent) (look-other trie.node former key value new is_new apart) },
        (record { key = key; value = value; is = is_new; none = refl }, tt),
      )

      one_hash : (hash_of trie.kind former ≡ trie.path i) × (hash_of trie.kind key ≡ trie.path i) → (k v : ℕ) → look_among trie.node k (old ∷ new ∷ []) ≡ Has v → hash_of trie.kind k ≡ trie.path i
      one_hash ends k v e = by_former (k == former) refl
        where
          by_key : k ≢ former → (t : Bool) → (k == key) ≡ t → hash_of trie.kind k ≡ trie.path i
          by_key away true same = ap (hash_of trie.kind) (eqb-true k key same) ∙ ends.1
          by_key away false other =
              absurd (let bad : Absent ≡ Has v =
              sym (ap₂ or_else (look-other trie.node k former own old is_old away) (ap (λ f. or_else f Absent) (look-other trie.node k key value new is_new (differ k key other)))) ∙ e in cc)

          by_former : (t : Bool) → (k == former) ≡ t → hash_of trie.kind k ≡ trie.path i
          by_former true same = ap (hash_of trie.kind) (eqb-true k former same) ∙ ends.0
          by_former false away = by_key (differ k former away) (k == key) refl

      as_branch : trie.depth i < list_depth trie.kind → a ≢ b → IsShaped trie i (Branch (bit_or (2 ^ a) (2 ^ b)) (entries_from (by_index a b old new)))
      as_branch shallow split =
          branch_of (bit_or (2 ^ a) (2 ^ b)) (entries_from (by_index a b old new)) (set (set (empty_places 32) a (Some old)) b (Some new))
          (two-places a b old new (index_below (hash_of trie.kind former) (trie.depth i)) (index_below (hash_of trie.kind key) (trie.depth i)) split) shallow
          (written (set (empty_places 32) a (Some old)) b (Some new) (omega (arith, length-set (empty_places 32) a (Some old), one_length 32, index_below (hash_of trie.kind key) (trie.depth i)))
          (written (empty_places 32) a (Some old) (omega (arith, one_length 32, index_below (hash_of trie.kind former) (trie.depth i)))
          (λ y e at. absurd (let bad : None ≡ Some e = sym (none_at 32 y) ∙ at in cc))
          (λ e at. let same : Some old ≡ Some e = at in let e_is : old ≡ e = cc in subst (λ r. MayStand a r) e_is (a_single former own is_old refl led_old)))
          (λ e at. let same : Some new ≡ Some e = at in let e_is : new ≡ e = cc in subst (λ r. MayStand b r) e_is (a_single key value is_new refl led_new)))

      by_test : (t : Bool) → (trie.depth i == list_depth trie.kind) ≡ t →
          IsShaped trie i (cond t (Listed (entries_from (old ∷ new ∷ []))) (Branch (bit_or (2 ^ a) (2 ^ b)) (entries_from (by_index a b old new))))
      by_test true e =
          let deep = eqb-true (trie.depth i) (list_depth trie.kind) e in
          list (entries_from (old ∷ new ∷ [])) refl singles_of (omega arith) deep (one_hash (at_end deep))
      by_test false e = as_branch (let away = differ (trie.depth i) (list_depth trie.kind) e in omega arith) (⊎_elim (λ same. absurd (differ _ _ e same)) (λ split. split) parts)
