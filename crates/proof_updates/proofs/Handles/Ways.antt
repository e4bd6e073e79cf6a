-- The ways from a root down through the main nodes before a step: which keys they lead to, and what is found where they miss the indirection that is changed.
use Rattle.std.proofs.Common.{◌≡◌, ℕ, zero, suc, ◌*◌, ◌%◌, ◌^◌, List, [], ◌∷◌, Contains, ◌<◌, Option, Some, None, refl, sym, ap, subst, ◌∙◌, arith}
use Rattle.proof_updates.specs.Vocabulary.{hash_of, Ref, Node, Indirection, Single, entries_of, index_in, at_place, AreSingles, Absent, Below, find_at, value_in, look, Trie, generation, node_in}
use Rattle.proof_updates.specs.Vocabulary.{says, On, at_below, IsShaped, branch, list, tomb, LeavesOthers}
use Rattle.proof_updates.specs.Beneath.proof_contents.specs.Nodes.Branches.{standing}
use Rattle.proof_updates.specs.Beneath.proof_contents.proofs.Nodes.Branches.{before, standing_at}
use Rattle.proof_updates.specs.Beneath.proof_contents.proofs.Nodes.Changes.{look_place, look_branch}
use Rattle.proof_updates.specs.Beneath.proof_contents.proofs.Nodes.Tombs.{before-lt, place_of}
use Rattle.proof_updates.specs.Beneath.proof_contents.specs.Tries.{at_root}
use Rattle.proof_updates.specs.Beneath.proof_contents.proofs.Values.Found.{value_by-same, found_below, found_nothing}
use Rattle.proof_updates.specs.Beneath.proof_contents.proofs.Shapes.Nodes.{below_is, single_ends, singles_end, leads, leads_below}
use Rattle.proof_updates.specs.Beneath.proof_contents.proofs.Values.Parting.{parted}
use Rattle.proof_updates.specs.Beneath.machine_model.proofs.Basics.{only_one}

-- the reference is reached from a root, through the main nodes before step t
pub data From (trie : Trie) (t : ℕ) (root : Ref) : Ref → Type 0 where
  itself : From trie t root root
  through : (i entry word : Ref) (g : ℕ) → From trie t root i → trie.node i ≡ Indirection g word → Contains (entries_of (node_in trie t i)) entry → From trie t root entry

-- ---- entries

-- what a main node leads to is one of its entries
pub entry_led : (trie : Trie) (i : Ref) (q : ℕ) (n : Node) (j : Ref) → IsShaped trie i n → look trie.node (hash_of trie.kind) (trie.depth i) q n ≡ Below j → Contains (entries_of n) j
entry_led trie i q n j (branch b es places is has shallow in_place led children) e =
    by_place (at_place places x) refl (sym (look_branch trie.node q b x es places has) ∙ sym (ap (look trie.node (hash_of trie.kind) (trie.depth i) q) is) ∙ e)
  where
    x : ℕ
    x = index_in (hash_of trie.kind q) (trie.depth i)

    by_place : (o : Option Ref) → at_place places x ≡ o → look_place trie.node q o ≡ Below j → Contains (entries_of n) j
    by_place None at e = absurd (let bad : Absent ≡ Below j = e in cc)
    by_place (Some entry) at e =
        let at_j : at_place places x ≡ Some j = at ∙ ap Some (below_is trie.node q entry j e).0 in
        subst (λ xs. Contains xs j) (sym (ap entries_of is ∙ has.stand)) (before places x, before-lt places x j at_j, standing_at places x j j at_j)
entry_led trie i q n j (list singles is are most deep one_hash) e =
    absurd (singles_end trie.node q j singles.items are (sym (ap (look trie.node (hash_of trie.kind) (trie.depth i) q) is) ∙ e))
entry_led trie i q n j (tomb single key value is own led) e =
    absurd (single_ends trie.node q key value single j own (sym (ap (look trie.node (hash_of trie.kind) (trie.depth i) q) is) ∙ e))

-- an entry of a branch stands at a place
entry_placed : (places : List (Option Ref)) (entry : Ref) → Contains (standing places) entry → (x : ℕ) × (at_place places x ≡ Some entry)
entry_placed places entry (n, lt, e) = let found = place_of places n entry lt in (found.0, found.1 ∙ ap Some e)

no_single : (k v g : ℕ) (word : Ref) → Single k v ≡ Indirection g word → ⊥
no_single k v g word e = cc e

-- an entry of a list is a single
no_link_listed : (node : Ref → Node) (singles : List Ref) (entry word : Ref) (g : ℕ) → AreSingles node singles → Contains singles entry → node entry ≡ Indirection g word → ⊥
no_link_listed node [] entry word g are (n, lt, e) is = absurd (omega arith)
no_link_listed node (s ∷ singles) entry word g are (zero, lt, e) is = no_single are.0.key are.0.value g word (sym are.0.is ∙ ap node e ∙ is)
no_link_listed node (s ∷ singles) entry word g are (suc n, lt, e) is = no_link_listed node singles entry word g are.1 (n, omega arith, e) is

-- ---- to a key

module _ (trie : Trie) (root_depth : (g : ℕ) → trie.depth (trie.root g) ≡ 0) (fits : (i : Ref) → trie.path i < 2 ^ (5 * trie.depth i)) (t g : ℕ)
    (shaped : (i : Ref) → IsShaped trie i (node_in trie t i)) (alike : (i : Ref) → generation trie i ≡ g) where
  -- an indirection that is reached from a root is on the way to each key whose hash its path leads to, where all generations are one
  pub on_way : (i word : Ref) (h key : ℕ) → From trie t (trie.root g) i → trie.node i ≡ Indirection h word → hash_of trie.kind key % 2 ^ (5 * trie.depth i) ≡ trie.path i →
      On trie t g key (trie.depth i) i
  on_way i word h key itself is led = subst (λ d. On trie t g key d (trie.root g)) (sym (root_depth g)) (at_root (alike (trie.root g)))
  on_way entry word h key (through i entry' word' g' from link within) is led = by_shape (on_way i word' g' key from link) (shaped i)
    where
      by_shape : (hash_of trie.kind key % 2 ^ (5 * trie.depth i) ≡ trie.path i → On trie t g key (trie.depth i) i) → IsShaped trie i (node_in trie t i) → On trie t g key (trie.depth entry) entry
      by_shape rest (branch b es places n_is has shallow in_place leads_to children) =
          let found = entry_placed places entry (subst (λ xs. Contains xs entry) (ap entries_of n_is ∙ has.stand) within) in
          let x = found.0 in
          let child = children x h entry word found.1 is in
          let parts = parted trie fits i entry x key child led in
          let below : says trie t key (trie.depth i) i ≡ Below entry =
          ap (look trie.node (hash_of trie.kind) (trie.depth i) key) n_is ∙ look_branch trie.node key b (index_in (hash_of trie.kind key) (trie.depth i)) es places has
          ∙ ap (λ y. look_place trie.node key (at_place places y)) parts.0 ∙ ap (look_place trie.node key) found.1 ∙ leads trie.node key h entry word is in
          subst (λ d. On trie t g key d entry) (sym child.deeper) (at_below (trie.depth i) i entry (rest parts.1) below (alike entry))
      by_shape rest (list singles n_is are most deep one_hash) =
          absurd (no_link_listed trie.node singles.items entry word h are (subst (λ xs. Contains xs entry) (ap entries_of n_is) within) is)
      by_shape rest (tomb single k v n_is own leads_to) =
          let same = only_one single entry (subst (λ xs. Contains xs entry) (ap entries_of n_is) within) in
          absurd (no_single k v h word (sym own ∙ ap trie.node same ∙ is))

-- ---- past the indirection that is changed

module _ (trie : Trie) (t : ℕ) (i root : Ref) (shaped : (j : Ref) → IsShaped trie j (node_in trie t j)) (others : LeavesOthers trie t i) (misses : ¬ From trie t root i) where
  -- what isn't reached changes no value
  pub missed_below : (key levels depth : ℕ) (j word : Ref) (g : ℕ) → trie.depth j ≡ depth → From trie t root j → trie.node j ≡ Indirection g word →
      find_at trie.node (trie.main (suc t)) (hash_of trie.kind) key levels depth j ≡ find_at trie.node (trie.main t) (hash_of trie.kind) key levels depth j
  missed_below key zero depth j word g deep from is = found_nothing trie (trie.main (suc t)) key depth j ∙ sym (found_nothing trie (trie.main t) key depth j)
  missed_below key (suc levels) depth j word g deep from is =
      found_below trie (trie.main (suc t)) key levels depth j
      ∙ ap (λ m. value_in trie.node (trie.main (suc t)) (hash_of trie.kind) key levels depth (trie.node m)) (others j (λ same. misses (subst (From trie t root) same from)))
      ∙ value_by-same (find_at trie.node (trie.main (suc t)) (hash_of trie.kind) key levels (suc depth)) (find_at trie.node (trie.main t) (hash_of trie.kind) key levels (suc depth))
      (look trie.node (hash_of trie.kind) depth key (node_in trie t j)) (goes_on (λ k w h. missed_below key levels (suc depth) k w h))
      ∙ sym (found_below trie (trie.main t) key levels depth j)
    where
      goes_on : ((k w : Ref) (h : ℕ) → trie.depth k ≡ suc depth → From trie t root k → trie.node k ≡ Indirection h w →
          find_at trie.node (trie.main (suc t)) (hash_of trie.kind) key levels (suc depth) k ≡ find_at trie.node (trie.main t) (hash_of trie.kind) key levels (suc depth) k) →
          (k : Ref) → look trie.node (hash_of trie.kind) depth key (node_in trie t j) ≡ Below k →
          find_at trie.node (trie.main (suc t)) (hash_of trie.kind) key levels (suc depth) k ≡ find_at trie.node (trie.main t) (hash_of trie.kind) key levels (suc depth) k
      goes_on rest k e =
          let at = subst (λ d. look trie.node (hash_of trie.kind) d key (node_in trie t j) ≡ Below k) (sym deep) e in
          let led = leads_below trie j key (node_in trie t j) k (shaped j) at in
          rest k led.word led.generation_ (led.child.deeper ∙ ap suc deep)
          (through j k word g from is (entry_led trie j key (node_in trie t j) k (shaped j) at)) led.is
