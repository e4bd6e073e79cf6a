-- What a walk meets, level by level: each key's hash leads there, and all of it is in the trie's order.
use Rattle.std.proofs.Common.{◌≡◌, ℕ, zero, suc, ◌+◌, ◌-◌, ◌*◌, ◌^◌, ◌<◌, ◌≤◌, ◌==◌, Bool, true, false, cond, nat_lt, List, [], ◌∷◌, Option, Some, None}
use Rattle.std.proofs.Common.{refl, sym, ap, subst, ◌∙◌, append-nil, arith, eqb-true, eq-eqb, le-ltb, ltb-true, ltb-false, length}
use Rattle.std.specs.List.{flat_map}
use Rattle.std.proofs.Math.Nat.{mul-le-mul_right}
use Rattle.std.proofs.lemmas.Nat.{pow-add}
use Rattle.std.proofs.lemmas.List.{get_or_past}
use Rattle.std.proofs.lemmas.Option.{none-some}
use Rattle.arrayvec.specs.ArrayVec.{ArrayVec}
use Rattle.proof_core.specs.Vocabulary.{hash_of, HashKind, by_key, comes_before, index_in, list_depth, Node, Branch, Indirection, Single, Tomb, List as Listed, Ref, Heap, logical_main, node_at}
use Rattle.proof_core.specs.Vocabulary.{at_place, AreSingles, Absent, Has, look_among, look_at, or_else, path_to}
use Rattle.proof_core.specs.Beneath.ctrie_base.proofs.Sorting.{Rises, sorted_rises}
use Rattle.proof_core.specs.Beneath.proof_contents.specs.Nodes.Branches.{standing}
use Rattle.proof_core.specs.Beneath.proof_contents.proofs.Pairs.Lists.{EachKey, Pairs, by_key_each, each-append, each-weaker}
use Rattle.proof_core.specs.Beneath.proof_shape.proofs.Sites.Ways.{path_again}
use Rattle.proof_core.specs.Scanning.{IsEntryPlaced, IsMainPlaced, IsPlaced, scan_order, walked, walked_at, walked_in}
use Rattle.proof_core.proofs.Scanning.Branches.{From, StandApart, from_first, standing_rises}
use Rattle.proof_core.proofs.Scanning.Order.{by_index, by_none, pairs_order, path_splits}

-- within no level nothing is met
pub none_walked : (heap : Heap) (r : Ref) → walked 0 heap r ≡ []
unfolding walked
none_walked heap r = refl

-- within one level more
pub some_walked : (levels : ℕ) (heap : Heap) (r : Ref) → 0 < levels → walked levels heap r ≡ walked_at (walked (levels - 1) heap) heap r (node_at heap r)
unfolding walked
some_walked zero heap r h = absurd (omega arith)
some_walked (suc levels) heap r h = let same : levels ≡ suc levels - 1 = omega arith in ap (λ n. walked_at (walked n heap) heap r (node_at heap r)) same

pub some_placed : (kind : HashKind) (levels : ℕ) (heap : Heap) (depth path : ℕ) (r : Ref) → 0 < levels → IsPlaced kind levels heap depth path r →
    IsEntryPlaced kind heap (IsPlaced kind (levels - 1) heap) depth path r (node_at heap r)
unfolding IsPlaced
some_placed kind zero heap depth path r h placed = absurd (omega arith)
some_placed kind (suc levels) heap depth path r h placed =
    let same : levels ≡ suc levels - 1 = omega arith in
    subst (λ n. IsEntryPlaced kind heap (IsPlaced kind n heap) depth path r (node_at heap r)) same placed

-- ---- singles

pub single_at : (levels : ℕ) (heap : Heap) (r : Ref) (key value : ℕ) → node_at heap r ≡ Single key value → EachKey (λ k. k ≡ key) (walked levels heap r)
unfolding walked
single_at zero heap r key value is = tt
single_at (suc levels) heap r key value is = subst (λ n. EachKey (λ k. k ≡ key) (walked_at (walked levels heap) heap r n)) (sym is) (refl, tt)

-- what holds of each key that is found in a list holds of each of its singles
module _ (node : Ref → Node) (below : Ref → Pairs) (P : ℕ → Type 0) (single : (r : Ref) (key value : ℕ) → node r ≡ Single key value → EachKey (λ k. k ≡ key) (below r)) where
  each_single : (singles : List Ref) → AreSingles node singles → ((key value : ℕ) → look_among node key singles ≡ Has value → P key) → EachKey P (flat_map below singles)
  each_single [] are found = tt
  each_single (r ∷ singles) are found =
      let own = are.0 in
      each-append P (below r) (flat_map below singles)
      (each-weaker (λ k. k ≡ own.key) P (λ k same. subst P (sym same) (found own.key own.value (here own.key own.value own.is))) (below r) (single r own.key own.value own.is))
      (each_single singles are.1 (λ key value there. later key value there (own.key == key) refl))
    where
      here : (key value : ℕ) → node r ≡ Single key value → look_among node key (r ∷ singles) ≡ Has value
      here key value is =
          ap (λ n. or_else (look_at key r n) (look_among node key singles)) is ∙ ap (λ b. or_else (cond b (Has value) Absent) (look_among node key singles)) (eq-eqb key key refl)

      later : (key value : ℕ) → look_among node key singles ≡ Has value → (b : Bool) → (are.0.key == key) ≡ b → P key
      later key value there true e =
          absurd (let bad : Absent ≡ Has value = sym are.0.none ∙ ap (λ k. look_among node k singles) (eqb-true are.0.key key e) ∙ there in cc)
      later key value there false e =
          found key value (ap (λ n. or_else (look_at key r n) (look_among node key singles)) are.0.is
          ∙ ap (λ b. or_else (cond b (Has are.0.value) Absent) (look_among node key singles)) e ∙ there)

-- ---- a main node in place

-- what stands at a place stands within
place_within : (places : List (Option Ref)) (x : ℕ) (entry : Ref) → at_place places x ≡ Some entry → x < length places
place_within places x entry at = by_test (nat_lt x (length places)) refl
  where
    by_test : (b : Bool) → nat_lt x (length places) ≡ b → x < length places
    by_test true e = ltb-true x (length places) e
    by_test false e = absurd (none-some entry (sym (get_or_past places x None (ltb-false x (length places) e)) ∙ at))

-- a path that is longer by one index has its bits
path_fits_on : (depth path x : ℕ) → path < 2 ^ (5 * depth) → x < 32 → path + x * 2 ^ (5 * depth) < 2 ^ (5 * suc depth)
path_fits_on depth path x fits within =
    let five : 5 * suc depth ≡ 5 + 5 * depth = omega arith in
    let longer : 2 ^ (5 * suc depth) ≡ 32 * 2 ^ (5 * depth) = ap (λ n. 2 ^ n) five ∙ pow-add 2 5 (5 * depth) in
    let most : x * 2 ^ (5 * depth) ≤ 31 * 2 ^ (5 * depth) = mul-le-mul_right (2 ^ (5 * depth)) (omega (arith, within)) in
    omega (arith, fits, longer, most)

module _ (kind : HashKind) where
  -- the hash of each key leads there, and all are in the trie's order
  abbrev pub IsInOrder : ℕ → ℕ → Pairs → Type 0
  IsInOrder depth path pairs = EachKey (λ key. path_to (hash_of kind key) depth ≡ path) pairs × Rises (scan_order kind) pairs

  -- keys of one hash are in it by key
  one_hash_rises : (hash : ℕ) (pairs : Pairs) → EachKey (λ key. hash_of kind key ≡ hash) pairs → Rises comes_before pairs → Rises (scan_order kind) pairs
  one_hash_rises hash [] each up = tt
  one_hash_rises hash (p ∷ []) each up = tt
  one_hash_rises hash (p ∷ q ∷ pairs) each up = (
    by_none (hash_of kind q.0) (hash_of kind p.0) (comes_before q p) (list_depth kind) (ap (λ h. path_to h (list_depth kind)) (each.1.0 ∙ sym each.0)) ∙ up.0,
    one_hash_rises hash (q ∷ pairs) each.1 up.1,
  )

  module _ (heap : Heap) (below : Ref → Pairs) (Below : ℕ → ℕ → Ref → Type 0) (single : (r : Ref) (key value : ℕ) → node_at heap r ≡ Single key value → EachKey (λ k. k ≡ key) (below r))
      (each : (depth path : ℕ) (r : Ref) → path < 2 ^ (5 * depth) → Below depth path r → IsInOrder depth path (below r)) (depth path : ℕ) (fits : path < 2 ^ (5 * depth)) where
    module _ (bitmap : ℕ) (entries : ArrayVec Ref) (placed : IsMainPlaced kind heap Below depth path (Branch bitmap entries)) where
      abbrev places : List (Option Ref)
      places = placed.1.0

      entry_in_order : (x : ℕ) (entry : Ref) → at_place places x ≡ Some entry → IsInOrder (suc depth) (path + x * 2 ^ (5 * depth)) (below entry)
      entry_in_order x entry at =
          let within = place_within places x entry at in
          each (suc depth) (path + x * 2 ^ (5 * depth)) entry (path_fits_on depth path x fits (omega (arith, within, placed.1.1.size))) (placed.1.2 x entry at)

      pub apart : StandApart below (λ key. index_in (hash_of kind key) depth) (λ key. path_to (hash_of kind key) depth ≡ path) 0 placed.1.0
      apart x entry at =
          each-weaker (λ key. path_to (hash_of kind key) (suc depth) ≡ path + x * 2 ^ (5 * depth)) (λ key. (index_in (hash_of kind key) depth ≡ 0 + x) × (path_to (hash_of kind key) depth ≡ path))
          (λ key leads. let s = path_splits (hash_of kind key) depth path x fits leads in (omega (arith, s.0), s.1)) (below entry) (entry_in_order x entry at).0

      less_first : (p q : ℕ × ℕ) → index_in (hash_of kind p.0) depth < index_in (hash_of kind q.0) depth → path_to (hash_of kind p.0) depth ≡ path → path_to (hash_of kind q.0) depth ≡ path →
          scan_order kind q p ≡ false
      less_first p q less one other =
          by_index (hash_of kind q.0) (hash_of kind p.0) (comes_before q p) (list_depth kind) depth placed.0 (other ∙ sym one) (λ same. absurd (omega (arith, less, same)))
          ∙ le-ltb (index_in (hash_of kind q.0) depth) (index_in (hash_of kind p.0) depth) (omega (arith, less))

      branch_in_order : IsInOrder depth path (flat_map below entries.items)
      branch_in_order = subst (λ es. IsInOrder depth path (flat_map below es)) (sym placed.1.1.stand) (
        each-weaker (From below (λ key. index_in (hash_of kind key) depth) (λ key. path_to (hash_of kind key) depth ≡ path) 0) (λ key. path_to (hash_of kind key) depth ≡ path) (λ key h. h.1)
            (flat_map below (standing places)) (from_first below (λ key. index_in (hash_of kind key) depth) (λ key. path_to (hash_of kind key) depth ≡ path) 0 places apart),
        standing_rises below (λ key. index_in (hash_of kind key) depth) (λ key. path_to (hash_of kind key) depth ≡ path) (scan_order kind) less_first 0 places apart
            (λ x entry at. (entry_in_order x entry at).1),
      )

    -- each key of a list in place has that hash
    pub list_hash : (singles : ArrayVec Ref) → IsMainPlaced kind heap Below depth path (Listed singles) → EachKey (λ key. hash_of kind key ≡ path) (by_key (flat_map below singles.items))
    list_hash singles placed =
        by_key_each (λ key. hash_of kind key ≡ path) (flat_map below singles.items) (each_single (node_at heap) below (λ key. hash_of kind key ≡ path) single singles.items placed.1 placed.2)

    main_in_order : (main : Node) → IsMainPlaced kind heap Below depth path main → IsInOrder depth path (walked_in below main)
    main_in_order (Branch bitmap entries) placed = branch_in_order bitmap entries placed
    main_in_order (Listed singles) placed =
        let hashes = list_hash singles placed in (
          each-weaker (λ key. hash_of kind key ≡ path) (λ key. path_to (hash_of kind key) depth ≡ path) (λ key is. ap (λ h. path_to h depth) is ∙ path_again path depth fits)
              (by_key (flat_map below singles.items)) hashes,
          one_hash_rises path (by_key (flat_map below singles.items)) hashes (sorted_rises comes_before pairs_order (flat_map below singles.items)),
        )
    main_in_order (Tomb entry) placed = subst (IsInOrder depth path) (sym (append-nil (below entry))) (each depth path entry fits placed)
    main_in_order (Indirection generation main) placed = (tt, tt)
    main_in_order (Single key value) placed = (tt, tt)

    entry_in_place : (r : Ref) (entry : Node) → IsEntryPlaced kind heap Below depth path r entry → IsInOrder depth path (walked_at below heap r entry)
    entry_in_place r (Single key value) placed = ((placed, tt), tt)
    entry_in_place r (Indirection generation main) placed = main_in_order (node_at heap (logical_main heap r)) placed
    entry_in_place r (Branch bitmap entries) placed = (tt, tt)
    entry_in_place r (Tomb entry) placed = (tt, tt)
    entry_in_place r (Listed singles) placed = (tt, tt)

-- ---- the walk

pub walk_in_order : (kind : HashKind) (heap : Heap) (levels depth path : ℕ) (r : Ref) → path < 2 ^ (5 * depth) → IsPlaced kind levels heap depth path r →
    IsInOrder kind depth path (walked levels heap r)
unfolding walked IsPlaced
walk_in_order kind heap zero depth path r fits placed = (tt, tt)
walk_in_order kind heap (suc levels) depth path r fits placed =
    entry_in_place kind heap (walked levels heap) (λ d p e. IsPlaced kind levels heap d p e) (single_at levels heap)
    (λ d p e inside there. walk_in_order kind heap levels d p e inside there) depth path fits r (node_at heap r) placed
