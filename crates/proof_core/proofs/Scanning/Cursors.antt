-- Where a walk goes on behind a cursor whose hash leads to a main node: in a branch from its entry on, in a list behind its key, in a tomb as in the single.
use Rattle.std.proofs.Common.{◌≡◌, ◌≢◌, ℕ, suc, ◌+◌, ◌*◌, ◌%◌, ◌^◌, ◌<◌, Bool, true, false, cond, nat_lt, List, [], ◌∷◌, ◌++◌, take, drop, Option, Some, length}
use Rattle.std.proofs.Common.{get_or, refl, sym, ap, subst, ◌∙◌, append-nil, arith, lt-ltb, le-ltb}
use Rattle.std.specs.List.{filter, flat_map}
use Rattle.std.proofs.lemmas.List.{take-append-drop}
use Rattle.std.proofs.lemmas.List.Concat.{flat_map-append}
use Rattle.std.proofs.lemmas.List.Elements.{filter-append}
use Rattle.arrayvec.specs.ArrayVec.{ArrayVec}
use Rattle.proof_core.specs.Vocabulary.{hash_of, position_of, HashKind, by_key, flag_of, has_flag, index_in, list_depth, Branch, Tomb, List as Listed, Ref, Heap, HasPlaces, path_to}
use Rattle.proof_core.specs.Beneath.proof_contents.specs.Nodes.Branches.{standing}
use Rattle.proof_core.specs.Beneath.proof_contents.proofs.Nodes.Branches.{before, flagged, position-before, unflagged}
use Rattle.proof_core.specs.Beneath.proof_contents.proofs.Nodes.Tombs.{before-lt}
use Rattle.proof_core.specs.Beneath.proof_contents.proofs.Pairs.Lists.{EachKey, Pairs, each-weaker}
use Rattle.proof_core.specs.Beneath.proof_shape.proofs.Sites.Ways.{path_again, path_fits}
use Rattle.proof_core.specs.Reading.{is_after}
use Rattle.proof_core.specs.Scanning.{IsMainPlaced, IsPlaced, is_behind, walked, walked_in}
use Rattle.proof_core.proofs.Gathering.{gather_more}
use Rattle.proof_core.proofs.Scanning.Branches.{Before, Behind, StandApart, before_place, behind_entry, behind_place}
use Rattle.proof_core.proofs.Scanning.Order.{by_index, by_none, path_joins}
use Rattle.proof_core.proofs.Scanning.Walks as walks
use Rattle.proof_core.proofs.Scanning.Walks.{IsInOrder, list_hash, single_at, walk_in_order}

-- ---- what passes a test of keys

none_pass : (test : ℕ → Bool) (pairs : Pairs) → EachKey (λ key. test key ≡ false) pairs → filter (λ (pair : ℕ × ℕ). test pair.0) pairs ≡ []
none_pass test [] each = refl
none_pass test (pair ∷ pairs) each = ap (λ b. cond b (pair ∷ filter (λ (p : ℕ × ℕ). test p.0) pairs) (filter (λ (p : ℕ × ℕ). test p.0) pairs)) each.0 ∙ none_pass test pairs each.1

all_pass : (test : ℕ → Bool) (pairs : Pairs) → EachKey (λ key. test key ≡ true) pairs → filter (λ (pair : ℕ × ℕ). test pair.0) pairs ≡ pairs
all_pass test [] each = refl
all_pass test (pair ∷ pairs) each =
    ap (λ b. cond b (pair ∷ filter (λ (p : ℕ × ℕ). test p.0) pairs) (filter (λ (p : ℕ × ℕ). test p.0) pairs)) each.0 ∙ ap (λ ps. pair ∷ ps) (all_pass test pairs each.1)

same_pass : (test other : ℕ → Bool) (pairs : Pairs) → EachKey (λ key. test key ≡ other key) pairs → filter (λ (pair : ℕ × ℕ). test pair.0) pairs ≡ filter (λ (pair : ℕ × ℕ). other pair.0) pairs
same_pass test other [] each = refl
same_pass test other (pair ∷ pairs) each =
    ap (λ b. cond b (pair ∷ filter (λ (p : ℕ × ℕ). test p.0) pairs) (filter (λ (p : ℕ × ℕ). test p.0) pairs)) each.0
    ∙ ap (λ ps. cond (other pair.0) (pair ∷ ps) ps) (same_pass test other pairs each.1)

-- ---- a cursor

module _ (kind : HashKind) (levels : ℕ) (heap : Heap) (depth path last : ℕ) (leads : hash_of kind last % 2 ^ (5 * depth) ≡ path) where
  abbrev below : Ref → Pairs
  below = walked levels heap

  abbrev is_later : ℕ → Bool
  is_later key = is_behind kind (Some last) key

  abbrev behind : ℕ × ℕ → Bool
  behind pair = is_later pair.0

  abbrev index : ℕ
  index = index_in (hash_of kind last) depth

  fits : path < 2 ^ (5 * depth)
  fits = subst (λ p. p < 2 ^ (5 * depth)) leads (path_fits (hash_of kind last) depth)

  each : (d q : ℕ) (r : Ref) → q < 2 ^ (5 * d) → IsPlaced kind levels heap d q r → IsInOrder kind d q (below r)
  each d q r inside there = walk_in_order kind heap levels d q r inside there

  module _ (bitmap : ℕ) (entries : ArrayVec Ref) (main : IsMainPlaced kind heap (IsPlaced kind levels heap) depth path (Branch bitmap entries)) where
    abbrev position : ℕ
    position = position_of (flag_of (hash_of kind last) depth) bitmap

    abbrev places : List (Option Ref)
    places = main.1.0

    has : HasPlaces bitmap entries.items places
    has = main.1.1

    abbrev index_of : ℕ → ℕ
    index_of key = index_in (hash_of kind key) depth

    abbrev Leads : ℕ → Type 0
    Leads key = path_to (hash_of kind key) depth ≡ path

    apart : StandApart below index_of Leads 0 places
    apart = walks.apart kind heap below (IsPlaced kind levels heap) (single_at levels heap) each depth path fits bitmap entries main

    parts : (key : ℕ) → Leads key → index ≢ index_of key → is_later key ≡ nat_lt index (index_of key)
    parts key to differ = by_index (hash_of kind last) (hash_of kind key) (nat_lt last key) (list_depth kind) depth main.0 (leads ∙ sym to) differ

    -- what holds below so many of the places holds below so many of the entries
    of_entries : (P : ℕ → Type 0) (cut : ℕ → List Ref → List Ref) → EachKey P (flat_map below (cut (before places index) (standing places))) → EachKey P (flat_map below (cut position entries.items))
    of_entries P cut each =
        subst (λ n. EachKey P (flat_map below (cut n entries.items))) (sym (position-before bitmap entries.items places has index))
        (subst (λ es. EachKey P (flat_map below (cut (before places index) es))) (sym has.stand) each)

    -- nothing before the cursor's place is behind it
    skipped : filter behind (flat_map below (take position entries.items)) ≡ []
    skipped =
        none_pass is_later (flat_map below (take position entries.items))
        (each-weaker (Before below index_of Leads (0 + index)) (λ key. is_later key ≡ false)
        (λ key h. parts key h.1 (λ same. absurd (omega (arith, h.0, same))) ∙ le-ltb index (index_of key) (omega (arith, h.0))) (flat_map below (take position entries.items))
        (of_entries (Before below index_of Leads (0 + index)) take (before_place below index_of Leads 0 places index apart)))

    -- and all of what is behind its place
    behind_passes : (pairs : Pairs) → EachKey (Behind below index_of Leads (0 + index)) pairs → filter behind pairs ≡ pairs
    behind_passes pairs each =
        all_pass is_later pairs
        (each-weaker (Behind below index_of Leads (0 + index)) (λ key. is_later key ≡ true)
        (λ key h. parts key h.1 (λ same. absurd (omega (arith, h.0, same))) ∙ lt-ltb index (index_of key) (omega (arith, h.0))) pairs each)

    split : filter behind (flat_map below entries.items) ≡ filter behind (flat_map below (drop position entries.items))
    split =
        ap (λ es. filter behind (flat_map below es)) (sym (take-append-drop position entries.items))
        ∙ ap (filter behind) (flat_map-append below (take position entries.items) (drop position entries.items))
        ∙ filter-append behind (flat_map below (take position entries.items)) (flat_map below (drop position entries.items))
        ∙ ap (λ ps. ps ++ filter behind (flat_map below (drop position entries.items))) skipped

    -- where an entry has its flag, what is behind it there, and all of the entries behind
    pub branch_on : (d : Ref) → has_flag bitmap (flag_of (hash_of kind last) depth) ≡ true →
        filter behind (flat_map below entries.items) ≡ filter behind (below (get_or entries.items position d)) ++ flat_map below (drop (position + 1) entries.items)
    branch_on d flag =
        let at = flagged bitmap entries.items places has index d flag in
        let here = before-lt places index (get_or entries.items position d) at in
        let within : position < length entries.items = omega (arith, here, position-before bitmap entries.items places has index, ap length has.stand) in
        let rest =
        behind_passes (flat_map below (drop (position + 1) entries.items))
        (of_entries (Behind below index_of Leads (0 + index)) (λ n es. drop (n + 1) es) (behind_entry below index_of Leads 0 places index (get_or entries.items position d) at apart)) in
        split ∙ ap (filter behind) (gather_more below entries.items position d within)
        ∙ filter-append behind (below (get_or entries.items position d)) (flat_map below (drop (position + 1) entries.items))
        ∙ ap (λ ps. filter behind (below (get_or entries.items position d)) ++ ps) rest

    -- to which its hash leads on
    pub branch_way : (d : Ref) → has_flag bitmap (flag_of (hash_of kind last) depth) ≡ true →
        IsPlaced kind levels heap (suc depth) (hash_of kind last % 2 ^ (5 * suc depth)) (get_or entries.items position d)
    branch_way d flag =
        subst (λ q. IsPlaced kind levels heap (suc depth) q (get_or entries.items position d)) (sym (path_joins (hash_of kind last) depth path leads))
        (main.1.2 index (get_or entries.items position d) (flagged bitmap entries.items places has index d flag))

    -- and where none has, all of the entries from its position on
    pub branch_off : has_flag bitmap (flag_of (hash_of kind last) depth) ≡ false → filter behind (flat_map below entries.items) ≡ flat_map below (drop position entries.items)
    branch_off flag =
        split
        ∙ behind_passes (flat_map below (drop position entries.items))
        (of_entries (Behind below index_of Leads (0 + index)) drop (behind_place below index_of Leads 0 places index (unflagged bitmap entries.items places has index flag) apart))

  -- in a list the pairs with greater keys
  pub list_behind : (singles : ArrayVec Ref) → IsMainPlaced kind heap (IsPlaced kind levels heap) depth path (Listed singles) →
      filter behind (by_key (flat_map below singles.items)) ≡ filter (λ (pair : ℕ × ℕ). is_after (Some last) pair.0) (by_key (flat_map below singles.items))
  list_behind singles main =
      same_pass is_later (is_after (Some last)) (by_key (flat_map below singles.items))
      (each-weaker (λ key. hash_of kind key ≡ path) (λ key. is_later key ≡ nat_lt last key) one_hash (by_key (flat_map below singles.items)) hashes)
    where
      hashes : EachKey (λ key. hash_of kind key ≡ path) (by_key (flat_map below singles.items))
      hashes = list_hash kind heap below (IsPlaced kind levels heap) (single_at levels heap) each depth path fits singles main

      one_hash : (key : ℕ) → hash_of kind key ≡ path → is_later key ≡ nat_lt last key
      one_hash key is =
          by_none (hash_of kind last) (hash_of kind key) (nat_lt last key) (list_depth kind)
          (ap (path_to (hash_of kind last)) (sym main.0) ∙ leads ∙ sym (path_again path depth fits) ∙ ap (λ h. path_to h depth) (sym is) ∙ ap (path_to (hash_of kind key)) main.0)

-- in a tomb those of its single
pub tomb_walked : (below : Ref → Pairs) (single : Ref) → walked_in below (Tomb single) ≡ below single
tomb_walked below single = append-nil (below single)
