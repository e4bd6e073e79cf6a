-- The nodes that lines make are formed, and what stands in them is as wanted.
use Rattle.std.proofs.Common.{◌≡◌, ℕ, suc, ◌+◌, ◌^◌, ◌<◌, ◌≤◌, ◌==◌, ◌&&◌, Bool, true, false, nat_lt, nat_le, List, [], ◌∷◌, ◌++◌, Option, Some, None, All, length, get_or, set}
use Rattle.std.proofs.Common.{take, drop, refl, sym, ap, ◌∙◌, subst, ltb-true, lt-ltb, leb-true, arith}
use Rattle.std.specs.Prelude.{bit_and, bit_or, bit_xor, count_ones, insert, remove}
use Rattle.std.proofs.lemmas.Bool.{false≢true, and_parts, and_from, cond_both, le-leb}
use Rattle.std.proofs.lemmas.List.{length-append, length-take, length-drop, length-set, get_or-set_same}
use Rattle.std.proofs.lemmas.List.Elements.{All-take, All-drop, All-append, All-cons, All-nil, All-push, All-set}
use Rattle.arrayvec.specs.ArrayVec.{ArrayVec}
use Rattle.proof_memory.specs.Vocabulary.{position_of, Ref, Node, Branch, Tomb, List as Listed, Heap, node_at, entries_of, bitmap_of, entries_from, index_in, flag_of, list_depth, renewed}
use Rattle.proof_memory.specs.Vocabulary.{contracted, by_index, pair, rung, HashKind, Change, changed}
use Rattle.proof_memory.specs.Beneath.nodes.proofs.Indices.{index_below}
use Rattle.machine_model.specs.declared.actions.Action.TheVariants as act
use Rattle.machine_model.specs.declared.building.Change.TheVariants as change
use Rattle.proof_memory.specs.Wants.{AnIndirection, ABranch, AList, BranchOrList, AnEntry, ASingle, ToSpare, meets, is_formed, Is, Holds, each, so, AllHold, node_wants}
use Rattle.proof_memory.specs.Wants.{action_wants, change_wants, update_wants}
use Rattle.proof_memory.proofs.Heap.Ones.{ones_set, ones_cleared, ones_most, ones_flag, set_small, cleared_small, flag_small}
use Rattle.proof_memory.proofs.Claims.Uses.{Meets, safe_of, meets_of, all_of}
use Rattle.proof_memory.proofs.Claims.Nodes.{single_entry, indirection_entry}
use Rattle.proof_memory.proofs.Lines.Shared.{not_zero}

-- ---- lists with one more or one less

length-inserted : (xs : List Ref) (i : ℕ) (x : Ref) → length (insert xs i x) ≡ length xs + 1
length-inserted xs i x = omega (arith, length-append (take i xs) (x ∷ drop i xs), length-take i xs, length-drop i xs)

length-removed : (xs : List Ref) (i : ℕ) → length xs ≤ length (remove xs i) + 1
length-removed xs i = omega (arith, length-append (take i xs) (drop (suc i) xs), length-take i xs, length-drop (suc i) xs)

pub All-inserted : (P : Ref → Type 0) (xs : List Ref) (i : ℕ) (x : Ref) → All P xs → P x → All P (insert xs i x)
All-inserted P xs i x all h = All-append P (take i xs) (x ∷ drop i xs) (All-take P i xs all) (All-cons P x (drop i xs) h (All-drop P i xs all))

pub All-removed : (P : Ref → Type 0) (xs : List Ref) (i : ℕ) → All P xs → All P (remove xs i)
All-removed P xs i all = All-append P (take i xs) (drop (suc i) xs) (All-take P i xs all) (All-drop P (suc i) xs all)

-- ---- formed nodes

formed_branch : (bitmap : ℕ) (es : List Ref) → bitmap < 2 ^ 32 → count_ones bitmap ≤ length es → is_formed (Branch bitmap (entries_from es)) ≡ true
formed_branch bitmap es small ones =
    and_from _ _ (lt-ltb bitmap (2 ^ 32) small) (le-leb (count_ones bitmap) (length (take 32 es)) (omega (arith, length-take 32 es, ones_most bitmap small, ones)))

formed_list : (es : List Ref) → 2 ≤ length es → is_formed (Listed (entries_from es)) ≡ true
formed_list es two = le-leb 2 (length (take 32 es)) (omega (arith, length-take 32 es, two))

-- what a formed branch tells
pub small_of : (bitmap n : ℕ) → (nat_lt bitmap (2 ^ 32) && nat_le (count_ones bitmap) n) ≡ true → (bitmap < 2 ^ 32) × (count_ones bitmap ≤ n)
small_of bitmap n e =
    let (small, ones) = and_parts (nat_lt bitmap (2 ^ 32)) (nat_le (count_ones bitmap) n) e in
    (ltb-true bitmap (2 ^ 32) small, leb-true (count_ones bitmap) n ones)

-- two references, in either order
pub pair_all : (P : Ref → Type 0) (x y : Ref) → P x → P y → All P (x ∷ y ∷ [])
pair_all P x y h g = All-cons P x (y ∷ []) h (All-cons P y [] g (All-nil P))

pub by_index_all : (P : Ref → Type 0) (a b : ℕ) (x y : Ref) → P x → P y → All P (by_index a b x y)
by_index_all P a b x y h g = cond_both (nat_lt a b) _ _ (λ es. All P es) (λ e. pair_all P x y h g) (λ e. pair_all P y x g h)

module _ (S : Ref → Type 0) (heap : Heap) where
  abbrev Wanting : Node → Type 0
  Wanting node = AllHold S heap (action_wants (act.Make node))

  branch_made : (bitmap : ℕ) (es : List Ref) → bitmap < 2 ^ 32 → count_ones bitmap ≤ length es → All (Meets S heap AnEntry) es → Wanting (Branch bitmap (entries_from es))
  branch_made bitmap es small ones all = (so (formed_branch bitmap es small ones), (each (All-take (Meets S heap AnEntry) 32 es all), tt))

  list_made : (es : List Ref) → 2 ≤ length es → All (Meets S heap ASingle) es → Wanting (Listed (entries_from es))
  list_made es two all = (so (formed_list es two), (each (All-take (Meets S heap ASingle) 32 es all), tt))

  tomb_made : (single : Ref) → Holds S heap (Is single ASingle) → Wanting (Tomb single)
  tomb_made single h = (so refl, (h, tt))

  -- ---- changes of a main node; the flag is 2 ^ i

  module _ (i : ℕ) (below : i < 32) (main : Ref) (former : Option ℕ) where
    updated_entry : (former : Option ℕ) (entry : Ref) → AllHold S heap (update_wants main entry former) → Meets S heap AnEntry entry
    updated_entry None entry w = (safe_of w.1.0, indirection_entry (node_at heap entry) (meets_of w.1.0))
    updated_entry (Some value) entry w = (safe_of w.0, single_entry (node_at heap entry) (meets_of w.0))

    -- in a list
    updated_single : (former : Option ℕ) (entry : Ref) (node : Node) → node_at heap main ≡ node → meets AList node ≡ true → AllHold S heap (update_wants main entry former) → Meets S heap ASingle entry
    updated_single None entry (Listed singles) e l w = absurd (false≢true (sym (ap (meets ABranch) e) ∙ meets_of w.0))
    updated_single None entry node e l w = absurd (false≢true l)
    updated_single (Some value) entry node e l w = (safe_of w.0, meets_of w.0)

    changed_branch_made : (bitmap : ℕ) (entries : ArrayVec Ref) (c : Change) → node_at heap main ≡ Branch bitmap entries → is_formed (Branch bitmap entries) ≡ true →
        All (Meets S heap AnEntry) entries.items → AllHold S heap (change_wants main (2 ^ i) former c) → Wanting (changed (2 ^ i) (Branch bitmap entries) c)
    changed_branch_made bitmap entries (change.Insert single) e formed all w =
        let (small, ones) = small_of bitmap (length entries.items) formed in
        branch_made (bit_or bitmap (2 ^ i)) (insert entries.items (position_of (2 ^ i) bitmap) single) (set_small bitmap i small below)
        (omega (arith, ones_set bitmap i, length-inserted entries.items (position_of (2 ^ i) bitmap) single, ones))
        (All-inserted (Meets S heap AnEntry) entries.items (position_of (2 ^ i) bitmap) single all (safe_of w.0, single_entry (node_at heap single) (meets_of w.0)))
    changed_branch_made bitmap entries (change.Update position entry) e formed all w =
        let (small, ones) = small_of bitmap (length entries.items) formed in
        branch_made bitmap (set entries.items position entry) small (omega (arith, length-set entries.items position entry, ones))
        (All-set (Meets S heap AnEntry) entries.items position entry (updated_entry former entry w) all)
    changed_branch_made bitmap entries (change.Remove position) e formed all w =
        let (small, ones) = small_of bitmap (length entries.items) formed in
        let flagged = sym (ap (meets (ToSpare (2 ^ i))) e) ∙ meets_of w.0 in
        branch_made (bit_xor bitmap (2 ^ i)) (remove entries.items position) (cleared_small bitmap i small below)
        (omega (arith, ones_cleared bitmap i (not_zero (bit_and bitmap (2 ^ i)) flagged), length-removed entries.items position, ones))
        (All-removed (Meets S heap AnEntry) entries.items position all)
    changed_branch_made bitmap entries (change.Entomb single) e formed all w = tomb_made single w.0

    changed_list_made : (singles : ArrayVec Ref) (c : Change) → node_at heap main ≡ Listed singles → is_formed (Listed singles) ≡ true →
        All (Meets S heap ASingle) singles.items → AllHold S heap (change_wants main (2 ^ i) former c) → Wanting (changed (2 ^ i) (Listed singles) c)
    changed_list_made singles (change.Insert single) e formed all w =
        list_made (singles.items ++ single ∷ []) (omega (arith, length-append singles.items (single ∷ []), leb-true 2 (length singles.items) formed))
        (All-push (Meets S heap ASingle) singles.items single all (safe_of w.0, meets_of w.0))
    changed_list_made singles (change.Update position entry) e formed all w =
        list_made (set singles.items position entry) (omega (arith, length-set singles.items position entry, leb-true 2 (length singles.items) formed))
        (All-set (Meets S heap ASingle) singles.items position entry (updated_single former entry (Listed singles) e refl w) all)
    changed_list_made singles (change.Remove position) e formed all w =
        let long = sym (ap (meets (ToSpare (2 ^ i))) e) ∙ meets_of w.0 in
        list_made (remove singles.items position) (omega (arith, length-removed singles.items position, ltb-true 2 (length singles.items) long))
        (All-removed (Meets S heap ASingle) singles.items position all)
    changed_list_made singles (change.Entomb single) e formed all w = tomb_made single w.0

    pub changed_made : (node : Node) (c : Change) → node_at heap main ≡ node → meets BranchOrList node ≡ true → is_formed node ≡ true → AllHold S heap (node_wants node) →
        AllHold S heap (change_wants main (2 ^ i) former c) → Wanting (changed (2 ^ i) node c)
    changed_made (Branch bitmap entries) c e b formed n w = changed_branch_made bitmap entries c e formed (all_of n.0) w
    changed_made (Listed singles) c e b formed n w = changed_list_made singles c e formed (all_of n.0) w
    changed_made node c e b formed n w = absurd (false≢true b)

  -- ---- two singles, and the way down to them

  by_index_two : (a b : ℕ) (x y : Ref) → length (by_index a b x y) ≡ 2
  by_index_two a b x y = cond_both (nat_lt a b) _ _ (λ (es : List Ref). length es ≡ 2) (λ e. refl) (λ e. refl)

  pub pair_made : (kind : HashKind) (depth old_hash hash : ℕ) (old single : Ref) → Meets S heap ASingle old → Meets S heap ASingle single → Wanting (pair kind depth old_hash hash old single)
  pair_made kind depth old_hash hash old single o s =
      let i = index_in old_hash depth in
      let j = index_in hash depth in
      cond_both (depth == list_depth kind) _ _ Wanting
      (λ e. list_made (old ∷ single ∷ []) (omega arith) (pair_all (Meets S heap ASingle) old single o s))
      (λ e. branch_made (bit_or (2 ^ i) (2 ^ j)) (by_index i j old single) (set_small (2 ^ i) j (flag_small i (index_below old_hash depth)) (index_below hash depth))
      (omega (arith, ones_set (2 ^ i) j, ones_flag i, by_index_two i j old single))
      (by_index_all (Meets S heap AnEntry) i j old single (o.0, single_entry (node_at heap old) o.1) (s.0, single_entry (node_at heap single) s.1)))

  pub rung_made : (hash depth : ℕ) (below : Ref) → Meets S heap AnIndirection below → Wanting (rung hash depth below)
  rung_made hash depth below h =
      branch_made (flag_of hash depth) (below ∷ []) (flag_small (index_in hash depth) (index_below hash depth)) (ones_flag (index_in hash depth))
      (All-cons (Meets S heap AnEntry) below [] (h.0, indirection_entry (node_at heap below) h.1) (All-nil (Meets S heap AnEntry)))

  -- ---- the same entries again

  -- a branch with as many entries or more
  pub renewed_made : (node : Node) (es : List Ref) → meets ABranch node ≡ true → is_formed node ≡ true → length (entries_of node) ≤ length es → All (Meets S heap AnEntry) es →
      Wanting (renewed (bitmap_of node) es)
  renewed_made (Branch bitmap entries) es b formed le all =
      let (small, ones) = small_of bitmap (length entries.items) formed in branch_made bitmap es small (omega (arith, ones, le)) all
  renewed_made node es b formed le all = absurd (false≢true b)

  -- or a tomb of what is left alone
  pub contracted_made : (may : Bool) (bitmap : ℕ) (es : List Ref) → (may ≡ true → (single : Ref) → es ≡ single ∷ [] → Holds S heap (Is single ASingle)) →
      Wanting (renewed bitmap es) → Wanting (contracted may bitmap es)
  contracted_made true bitmap [] t r = r
  contracted_made true bitmap (single ∷ []) t r = tomb_made single (t refl single refl)
  contracted_made true bitmap (x ∷ y ∷ es) t r = r
  contracted_made false bitmap es t r = r

-- where one stands alone and is replaced, the other one stands alone
pub alone : (es : List Ref) (position : ℕ) (x single : Ref) → position < length es → set es position single ≡ x ∷ [] → x ≡ single
alone es position x single within e =
    let one : length es ≡ 1 = sym (length-set es position single) ∙ ap length e in
    let first : position ≡ 0 = omega arith in
    sym (ap (λ l. get_or l 0 x) e) ∙ subst (λ k. get_or (set es position single) k x ≡ single) first (get_or-set_same es position single x within)
