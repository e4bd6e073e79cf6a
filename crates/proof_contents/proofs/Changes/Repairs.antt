-- A repair leaves the value of every key alone, in every generation.
use Rattle.std.proofs.Common.{◌≡◌, ◌≢◌, ℕ, zero, suc, ◌+◌, ◌*◌, ◌/◌, ◌%◌, ◌^◌, ◌<◌, ◌≤◌, ◌==◌, Bool, true, false, cond, [], ◌∷◌, length, slice_index_or, Some, refl, sym, ap, subst}
use Rattle.std.proofs.Common.{◌∙◌, arith, eqb-true, pow_pos}
use Rattle.std.proofs.lemmas.Nat.{mod-pow-add}
use Rattle.std.proofs.Math.Nat.{mul-div_cancel}
use Rattle.proof_contents.specs.Vocabulary.{hash_of, Ref, Node, Indirection, Single, no_ref, generation_of, index_in}
use Rattle.proof_contents.specs.Nodes.Branches.{standing, at_place}
use Rattle.proof_contents.specs.Nodes.Looking.{Absent, Has, Below, look_at, value_by, find_at, value_in}
use Rattle.proof_contents.specs.Nodes.Changing.{look}
use Rattle.proof_contents.proofs.Nodes.Branches.{before, differ}
use Rattle.proof_contents.proofs.Nodes.Changes.{look_place, look_branch, look-same, look-other}
use Rattle.proof_contents.proofs.Nodes.Tombs.{place_of}
use Rattle.proof_contents.specs.Tries.{Trie, generation, node_in, assigned, IsShaped, most_levels}
use Rattle.proof_contents.specs.Steps.{Stays, kept, renewed_by, untombed, IsRepair, refills, entombs, LeavesOthers, IsTrie}
use Rattle.proof_contents.proofs.Values.Found.{value_by-same, assigned-own, assigned-other, assigned-still, found_below, found_nothing, Agrees, AgreesIfBelow}
use Rattle.proof_contents.proofs.Shapes.Nodes.{IsBranch, branch_shape, IsTomb, tomb_shape, leads_below, below_is, single_ends, leads}
use Rattle.proof_contents.proofs.Values.Paths.{LooksUp, in_none, in_entry, refilled_looks, LooksUpOne, one_none, one_entry, one_looks}

pub same_factor : (x y p : ℕ) → 0 < p → x * p ≡ y * p → x ≡ y
same_factor x y p pos e = sym (mul-div_cancel x pos) ∙ ap (λ n. n / p) e ∙ mul-div_cancel y pos

module _ (trie : Trie) (ok : IsTrie trie) where
  -- whichever main node is assigned, it has its shape
  pub shaped_assigned : (g t : ℕ) (i : Ref) → t ≤ trie.last → IsShaped trie i (trie.node (assigned trie g t i))
  shaped_assigned g t i lt = by_test (generation trie i == g)
    where
      by_test : (b : Bool) → IsShaped trie i (trie.node (cond b (trie.main t i) (trie.main trie.last i)))
      by_test true = ok.shaped t i lt
      by_test false = ok.shaped trie.last i (omega arith)

  -- what is found by a main node that says the same is the same, if what is below is
  pub same_node : (A B : Ref → Ref) (q levels : ℕ) (i : Ref) (n m : Node) → IsShaped trie i m →
      look trie.node (hash_of trie.kind) (trie.depth i) q n ≡ look trie.node (hash_of trie.kind) (trie.depth i) q m →
      ((j : Ref) → trie.depth j ≡ suc (trie.depth i) → Agrees trie A B q levels (suc (trie.depth i)) j) →
      value_in trie.node A (hash_of trie.kind) q levels (trie.depth i) n ≡ value_in trie.node B (hash_of trie.kind) q levels (trie.depth i) m
  same_node A B q levels i n m shape same below =
      ap (value_by (find_at trie.node A (hash_of trie.kind) q levels (suc (trie.depth i)))) same
      ∙ value_by-same (find_at trie.node A (hash_of trie.kind) q levels (suc (trie.depth i))) (find_at trie.node B (hash_of trie.kind) q levels (suc (trie.depth i)))
      (look trie.node (hash_of trie.kind) (trie.depth i) q m) (λ j e. below j (leads_below trie i q m j shape e).child.deeper)

  -- the same assigned main node gives the same
  pub same_assigned : (A B : Ref → Ref) (q levels : ℕ) (i : Ref) → IsShaped trie i (trie.node (B i)) → A i ≡ B i →
      ((j : Ref) → trie.depth j ≡ suc (trie.depth i) → Agrees trie A B q levels (suc (trie.depth i)) j) →
      value_in trie.node A (hash_of trie.kind) q levels (trie.depth i) (trie.node (A i)) ≡ value_in trie.node B (hash_of trie.kind) q levels (trie.depth i) (trie.node (B i))
  same_assigned A B q levels i shape same below =
      same_node A B q levels i (trie.node (A i)) (trie.node (B i)) shape (ap (λ m. look trie.node (hash_of trie.kind) (trie.depth i) q (trie.node m)) same) below

  -- indirections with one assigned main node are looked through alike
  found_same : (A : Ref → Ref) (q levels depth : ℕ) (i j : Ref) → A i ≡ A j →
      find_at trie.node A (hash_of trie.kind) q levels depth i ≡ find_at trie.node A (hash_of trie.kind) q levels depth j
  found_same A q zero depth i j same = found_nothing trie A q depth i ∙ sym (found_nothing trie A q depth j)
  found_same A q (suc levels) depth i j same =
      found_below trie A q levels depth i ∙ ap (λ m. value_in trie.node A (hash_of trie.kind) q levels depth (trie.node m)) same ∙ sym (found_below trie A q levels depth j)

  -- ---- other generations

  -- a change in one generation is none in any other
  pub other_stays : (g t q : ℕ) (i : Ref) → t < trie.last → LeavesOthers trie t i → g ≢ generation trie i → AgreesIfBelow trie (assigned trie g (suc t)) (assigned trie g t) q
  other_stays g t q i lt others apart levels j sum below =
      same_assigned (assigned trie g (suc t)) (assigned trie g t) q levels j (shaped_assigned g t j (omega arith)) (by_test (j == i) refl) below
    where
      by_test : (b : Bool) → (j == i) ≡ b → assigned trie g (suc t) j ≡ assigned trie g t j
      by_test true same =
          let away : generation trie j ≢ g = λ e. apart (sym e ∙ ap (generation trie) (eqb-true j i same)) in
          assigned-other trie g (suc t) j away ∙ sym (assigned-other trie g t j away)
      by_test false other = assigned-still trie g (suc t) t j (others j (differ j i other))

  -- ---- a repair

  module _ (t : ℕ) (i : Ref) (lt : t < trie.last) (others : LeavesOthers trie t i) (q : ℕ) where
    abbrev g : ℕ
    g = generation trie i

    abbrev A : Ref → Ref
    A = assigned trie g (suc t)

    abbrev B : Ref → Ref
    B = assigned trie g t

    -- an entry that stays gives the same
    entry_gives : (levels : ℕ) (entry other : Ref) → suc levels + trie.depth i ≡ most_levels → Stays trie g t entry other →
        ((h : ℕ) (word : Ref) → trie.node entry ≡ Indirection h word → trie.depth entry ≡ suc (trie.depth i) × trie.depth entry ≤ 13) →
        ((h : ℕ) (word : Ref) → trie.node other ≡ Indirection h word → trie.depth other ≡ suc (trie.depth i)) →
        ((j : Ref) → trie.depth j ≡ suc (trie.depth i) → Agrees trie A B q levels (suc (trie.depth i)) j) →
        value_by (find_at trie.node A (hash_of trie.kind) q levels (suc (trie.depth i))) (look_at q other (trie.node other))
        ≡ value_by (find_at trie.node B (hash_of trie.kind) q levels (suc (trie.depth i))) (look_at q entry (trie.node entry))
    entry_gives levels entry other sum (kept same) deep deep' below =
        ap (λ r. value_by (find_at trie.node A (hash_of trie.kind) q levels (suc (trie.depth i))) (look_at q r (trie.node r))) (sym same)
        ∙ value_by-same (find_at trie.node A (hash_of trie.kind) q levels (suc (trie.depth i))) (find_at trie.node B (hash_of trie.kind) q levels (suc (trie.depth i)))
        (look_at q entry (trie.node entry)) (λ j e. below j (deeper j e))
      where
        deeper : (j : Ref) → look_at q entry (trie.node entry) ≡ Below j → trie.depth j ≡ suc (trie.depth i)
        deeper j e = let found = below_is trie.node q entry j e in ap trie.depth (sym found.0) ∙ (deep found.1.0 found.1.1 found.1.2).0
    entry_gives levels entry other sum (renewed_by h word word' is apart fresh main) deep deep' below =
        ap (value_by (find_at trie.node A (hash_of trie.kind) q levels (suc (trie.depth i)))) (leads trie.node q g other word' fresh)
        ∙ found_same A q levels (suc (trie.depth i)) other entry same
        ∙ below entry (deep h word is).0
        ∙ sym (ap (value_by (find_at trie.node B (hash_of trie.kind) q levels (suc (trie.depth i)))) (leads trie.node q h entry word is))
      where
        not_i : other ≢ i
        not_i e = omega (arith, sym (deep' g word' fresh) ∙ ap trie.depth e)

        same : A other ≡ A entry
        same = assigned-own trie g (suc t) other (ap generation_of fresh) ∙ others other not_i ∙ main
            ∙ sym (assigned-other trie g (suc t) entry (λ e. apart (sym (ap generation_of is) ∙ e)))
    entry_gives levels entry other sum (untombed h word is tomb) deep deep' below = by_levels levels sum
      where
        s : IsTomb trie entry other
        s = tomb_shape trie entry (trie.node (B entry)) other (shaped_assigned g t entry (omega arith)) tomb

        ends : (levels levels' : ℕ) → value_by (find_at trie.node A (hash_of trie.kind) q levels (suc (trie.depth i))) (look_at q other (trie.node other))
            ≡ value_by (find_at trie.node B (hash_of trie.kind) q levels' (suc (suc (trie.depth i)))) (look_at q other (trie.node other))
        ends levels levels' =
            value_by-same (find_at trie.node A (hash_of trie.kind) q levels (suc (trie.depth i))) (find_at trie.node B (hash_of trie.kind) q levels' (suc (suc (trie.depth i))))
            (look_at q other (trie.node other)) (λ j e. absurd (single_ends trie.node q s.key s.value other j s.is e))

        by_levels : (levels : ℕ) → suc levels + trie.depth i ≡ most_levels →
            value_by (find_at trie.node A (hash_of trie.kind) q levels (suc (trie.depth i))) (look_at q other (trie.node other))
            ≡ value_by (find_at trie.node B (hash_of trie.kind) q levels (suc (trie.depth i))) (look_at q entry (trie.node entry))
        by_levels zero sum = absurd (let d = deep h word is in omega (arith, d.0, d.1))
        by_levels (suc levels) sum =
            ends (suc levels) levels
            ∙ sym (ap (value_by (find_at trie.node B (hash_of trie.kind) q (suc levels) (suc (trie.depth i)))) (leads trie.node q h entry word is)
            ∙ found_below trie B q levels (suc (trie.depth i)) entry
            ∙ ap (value_in trie.node B (hash_of trie.kind) q levels (suc (trie.depth i))) tomb)

    -- the repaired main node gives the same
    repaired_gives : (levels : ℕ) → suc levels + trie.depth i ≡ most_levels → IsRepair trie g t (node_in trie t i) (node_in trie (suc t) i) →
        ((j : Ref) → trie.depth j ≡ suc (trie.depth i) → Agrees trie A B q levels (suc (trie.depth i)) j) →
        value_in trie.node A (hash_of trie.kind) q levels (trie.depth i) (node_in trie (suc t) i) ≡ value_in trie.node B (hash_of trie.kind) q levels (trie.depth i) (node_in trie t i)
    repaired_gives levels sum (refills bitmap entries new_entries o n count stays) below =
        by_look (refilled_looks trie ok g t q i (node_in trie t i) (node_in trie (suc t) i) bitmap entries new_entries (ok.shaped t i (omega arith)) o n count stays)
      where
        deep : (entry : Ref) → look trie.node (hash_of trie.kind) (trie.depth i) q (node_in trie t i) ≡ look_at q entry (trie.node entry) →
            (h : ℕ) (word : Ref) → trie.node entry ≡ Indirection h word → trie.depth entry ≡ suc (trie.depth i) × trie.depth entry ≤ 13
        deep entry a h word is =
            let led = leads_below trie i q (node_in trie t i) entry (ok.shaped t i (omega arith)) (a ∙ leads trie.node q h entry word is) in (led.child.deeper, led.deep)

        deep' : (other : Ref) → look trie.node (hash_of trie.kind) (trie.depth i) q (node_in trie (suc t) i) ≡ look_at q other (trie.node other) →
            (h : ℕ) (word : Ref) → trie.node other ≡ Indirection h word → trie.depth other ≡ suc (trie.depth i)
        deep' other b h word is = (leads_below trie i q (node_in trie (suc t) i) other (ok.shaped (suc t) i lt) (b ∙ leads trie.node q h other word is)).child.deeper

        by_look : LooksUp trie ok g t q i (node_in trie t i) (node_in trie (suc t) i) →
            value_in trie.node A (hash_of trie.kind) q levels (trie.depth i) (node_in trie (suc t) i) ≡ value_in trie.node B (hash_of trie.kind) q levels (trie.depth i) (node_in trie t i)
        by_look (in_none a b) =
            ap (value_by (find_at trie.node A (hash_of trie.kind) q levels (suc (trie.depth i)))) b
            ∙ sym (ap (value_by (find_at trie.node B (hash_of trie.kind) q levels (suc (trie.depth i)))) a)
        by_look (in_entry entry other stay a b) =
            ap (value_by (find_at trie.node A (hash_of trie.kind) q levels (suc (trie.depth i)))) b
            ∙ entry_gives levels entry other sum stay (deep entry a) (deep' other b) below
            ∙ sym (ap (value_by (find_at trie.node B (hash_of trie.kind) q levels (suc (trie.depth i)))) a)
    repaired_gives levels sum (entombs bitmap entries entry single o one n stay) below =
        by_look (one_looks trie ok q i (node_in trie t i) bitmap entries entry (ok.shaped t i (omega arith)) o one)
      where
        s : IsTomb trie i single
        s = tomb_shape trie i (node_in trie (suc t) i) single (ok.shaped (suc t) i lt) n

        br : IsBranch trie i bitmap entries
        br = branch_shape trie i (node_in trie t i) bitmap entries (ok.shaped t i (omega arith)) o

        list : standing br.places ≡ entry ∷ []
        list = sym br.has.stand ∙ one

        found : (z : ℕ) × (at_place br.places z ≡ Some (slice_index_or (standing br.places) 0 no_ref)) × (before br.places z ≡ 0)
        found = place_of br.places 0 no_ref (omega (arith, ap length list))

        z : ℕ
        z = found.0

        at_z : at_place br.places z ≡ Some entry
        at_z = found.1 ∙ ap (λ es. Some (slice_index_or es 0 no_ref)) list

        P : ℕ
        P = 2 ^ (5 * trie.depth i)

        h : ℕ
        h = hash_of trie.kind s.key

        -- the single's key has the entry's place
        placed : Stays trie g t entry single → index_in h (trie.depth i) ≡ z
        placed (kept same) = br.in_place z s.key s.value entry at_z (ap trie.node same ∙ s.is)
        placed (renewed_by h' word word' is apart fresh main) = absurd (let bad : Indirection g word' ≡ Single s.key s.value = sym fresh ∙ s.is in cc)
        placed (untombed h' word is tomb) =
            let child = br.children z h' entry word at_z is in
            let se = tomb_shape trie entry (trie.node (B entry)) single (shaped_assigned g t entry (omega arith)) tomb in
            let same : Single se.key se.value ≡ Single s.key s.value = sym se.is ∙ s.is in
            let key_is : se.key ≡ s.key = cc in
            let led : h % 2 ^ (5 * trie.depth entry) ≡ trie.path entry = ap (λ k. hash_of trie.kind k % 2 ^ (5 * trie.depth entry)) (sym key_is) ∙ se.led in
            let five : 5 * trie.depth entry ≡ 5 + 5 * trie.depth i = omega (arith, child.deeper) in
            let whole : index_in h (trie.depth i) * P + h % P ≡ trie.path i + z * P =
            sym (mod-pow-add h 5 (5 * trie.depth i)) ∙ ap (λ n. h % 2 ^ n) (sym five) ∙ led ∙ child.led in
            same_factor (index_in h (trie.depth i)) z P (pow_pos (5 * trie.depth i)) (omega (arith, whole, s.led))

        -- and no other key is found
        absent : look trie.node (hash_of trie.kind) (trie.depth i) q (node_in trie t i) ≡ Absent → q ≢ s.key
        absent a same =
            not_absent stay (sym (look_branch trie.node q bitmap (index_in (hash_of trie.kind q) (trie.depth i)) entries br.places br.has
            ∙ ap (λ k. look_place trie.node q (at_place br.places (index_in (hash_of trie.kind k) (trie.depth i)))) same
            ∙ ap (look_place trie.node q) (ap (at_place br.places) (placed stay) ∙ at_z)) ∙ sym (ap (look trie.node (hash_of trie.kind) (trie.depth i) q) o) ∙ a)
          where
            not_absent : Stays trie g t entry single → look_at q entry (trie.node entry) ≢ Absent
            not_absent (kept e) none = let bad : Has s.value ≡ Absent = sym (look-same trie.node q s.value entry (ap trie.node e ∙ s.is ∙ ap (λ k. Single k s.value) (sym same))) ∙ none in cc
            not_absent (renewed_by h' word word' is apart fresh main) none = let bad : Indirection g word' ≡ Single s.key s.value = sym fresh ∙ s.is in cc
            not_absent (untombed h' word is tomb) none = let bad : Below entry ≡ Absent = sym (leads trie.node q h' entry word is) ∙ none in cc

        deep : look trie.node (hash_of trie.kind) (trie.depth i) q (node_in trie t i) ≡ look_at q entry (trie.node entry) →
            (h : ℕ) (word : Ref) → trie.node entry ≡ Indirection h word → trie.depth entry ≡ suc (trie.depth i) × trie.depth entry ≤ 13
        deep a h word is =
            let led = leads_below trie i q (node_in trie t i) entry (ok.shaped t i (omega arith)) (a ∙ leads trie.node q h entry word is) in (led.child.deeper, led.deep)

        by_look : LooksUpOne trie ok q i entry (node_in trie t i) →
            value_in trie.node A (hash_of trie.kind) q levels (trie.depth i) (node_in trie (suc t) i) ≡ value_in trie.node B (hash_of trie.kind) q levels (trie.depth i) (node_in trie t i)
        by_look (one_none a) =
            ap (value_by (find_at trie.node A (hash_of trie.kind) q levels (suc (trie.depth i))))
            (ap (look trie.node (hash_of trie.kind) (trie.depth i) q) n ∙ look-other trie.node q s.key s.value single s.is (absent a))
            ∙ sym (ap (value_by (find_at trie.node B (hash_of trie.kind) q levels (suc (trie.depth i)))) a)
        by_look (one_entry a) =
            ap (λ m. value_by (find_at trie.node A (hash_of trie.kind) q levels (suc (trie.depth i))) (look trie.node (hash_of trie.kind) (trie.depth i) q m)) n
            ∙ entry_gives levels entry single sum stay (deep a) (λ h word is. absurd (let bad : Indirection h word ≡ Single s.key s.value = sym is ∙ s.is in cc)) below
            ∙ sym (ap (value_by (find_at trie.node B (hash_of trie.kind) q levels (suc (trie.depth i)))) a)

    pub repair_stays : IsRepair trie g t (node_in trie t i) (node_in trie (suc t) i) → AgreesIfBelow trie A B q
    repair_stays r levels j sum below = by_test (j == i) refl
      where
        by_test : (b : Bool) → (j == i) ≡ b →
            value_in trie.node A (hash_of trie.kind) q levels (trie.depth j) (trie.node (A j)) ≡ value_in trie.node B (hash_of trie.kind) q levels (trie.depth j) (trie.node (B j))
        by_test true same =
            let at = eqb-true j i same in
            subst (λ k. value_in trie.node A (hash_of trie.kind) q levels (trie.depth k) (trie.node (A k)) ≡ value_in trie.node B (hash_of trie.kind) q levels
            (trie.depth k) (trie.node (B k))) (sym at)
            (ap (λ m. value_in trie.node A (hash_of trie.kind) q levels (trie.depth i) (trie.node m)) (assigned-own trie g (suc t) i refl)
            ∙ repaired_gives levels (omega (arith, ap trie.depth at)) r
            (λ k deeper. subst (λ d. Agrees trie A B q levels (suc d) k) (ap trie.depth at) (below k (deeper ∙ ap (λ n. suc (trie.depth n)) (sym at))))
            ∙ sym (ap (λ m. value_in trie.node B (hash_of trie.kind) q levels (trie.depth i) (trie.node m)) (assigned-own trie g t i refl)))
        by_test false other = same_assigned A B q levels j (shaped_assigned g t j (omega arith)) (assigned-still trie g (suc t) t j (others j (differ j i other))) below
