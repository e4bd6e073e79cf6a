-- What a seat lets go of where a node stood.
use Rattle.std.proofs.Common.{◌≡◌, ◌+◌, ◌*◌, ◌<◌, ◌≤◌, ℕ, Bool, true, false, not, List, [], ◌∷◌, Contains, None, cond, count_ones, filter, length, map, refl, sym, ap, ap₂}
use Rattle.std.proofs.Common.{subst, ◌∙◌, arith}
use Rattle.std.proofs.lemmas.Bool.{true≢false}
use Rattle.std.proofs.lemmas.List.Elements.{All-contains, All-contains_itself, All-filter}
use Rattle.arrayvec.specs.ArrayVec.{ArrayVec}
use Rattle.trie_words.specs.Codes.{header_of, link_of}
use Rattle.trie_words.specs.declared.entries.Entry.{Entry}
use Rattle.trie_words.specs.declared.headers.Shape.{Shape}
use Rattle.trie_words.specs.declared.headers.Shape.TheVariants as shape
use Rattle.trie_words.specs.declared.links.Link.{Link}
use Rattle.machine_model.specs.Beneath.slot_arena.specs.declared.nodes.Node.{Node}
use Rattle.machine_model.specs.Beneath.slot_arena.specs.declared.nodes.Node.TheVariants.{Indirection, Branch, Single, Tomb, List as Listed}
use Rattle.machine_model.specs.Beneath.slot_arena.specs.declared.nodes.Slot.{Slot}
use Rattle.machine_model.specs.Beneath.slot_arena.specs.declared.refs.Ref.{Ref}
use Rattle.machine_model.specs.Beneath.slot_arena.specs.Heaps.{entries_of, refs_of_node}
use Rattle.machine_model.specs.Beneath.slot_arena.specs.Refs.{slot_of}
use Rattle.proof_memory.specs.Wants.{is_branch_or_list, is_entry, is_main_node}
use Rattle.lock_free.specs.declared.reclaiming.Kind.{Kind}
use Rattle.lock_free.specs.declared.reclaiming.Kind.TheVariants as kinds
use Rattle.lock_free.specs.declared.rules.View.{View}
use Rattle.lock_free.specs.declared.sizes.Sizes.{Sizes}
use Rattle.lock_free.specs.Accounts.{place_of}
use Rattle.lock_free.specs.Claims.{HoldsAll}
use Rattle.lock_free.specs.Counts.{without_one}
use Rattle.lock_free.specs.Freeing.{HasLetGo, HasSeenDraft}
use Rattle.lock_free.specs.LeftNodes.{a_branch, a_list, a_tomb, beside, entries_beside, is_among, HasSeenHalves, IsNamed, LeavesEntries, LeavesLink, LeavesNode, LeavesShape, LeavesWords}
use Rattle.lock_free.specs.LeftNodes.{MayBeNamed, MayLetGo, MayLetManyGo, NamesShape}
use Rattle.lock_free.specs.Loading.{now, IsSound}
use Rattle.lock_free.specs.Nodes.{class_of, is_single}
use Rattle.lock_free.specs.Places.{words_in, IsSlot}
use Rattle.lock_free.specs.Raising.{HasKept, HasReleasedAll, MayRelease, OwesOne}
use Rattle.lock_free.specs.Reclaiming.{kind_of_node}
use Rattle.lock_free.specs.SeenEntries.{entry_to, unowned, AreEntriesTo}
use Rattle.lock_free.proofs.ClaimsThere.{has_often, often_has}
use Rattle.lock_free.proofs.Counts.{entries_counted}
use Rattle.lock_free.proofs.Drafts.{passes}
use Rattle.lock_free.proofs.EntryRaises.{kept_owed, one_less_of}
use Rattle.lock_free.proofs.Framing.{class_small}
use Rattle.lock_free.proofs.GivenBack.{node_is}
use Rattle.lock_free.proofs.Pools.{first_there}
use Rattle.lock_free.proofs.Within.{two_words, used_inside}

-- ---- kinds

link_kind : (node : Node) → kind_of_node node ≡ kinds.Indirection → (generation : ℕ) × (main : Ref) × (node ≡ Indirection generation main)
link_kind (Indirection generation main) e = (generation, main, refl)
link_kind (Branch bitmap entries) e = let wrong : ⊥ = cc e in absurd wrong
link_kind (Single key value) e = let wrong : ⊥ = cc e in absurd wrong
link_kind (Tomb single) e = let wrong : ⊥ = cc e in absurd wrong
link_kind (Listed singles) e = let wrong : ⊥ = cc e in absurd wrong

pub main_kind : (node : Node) → is_main_node node ≡ true → kind_of_node node ≡ kinds.Main
main_kind (Branch bitmap entries) e = refl
main_kind (Tomb single) e = refl
main_kind (Listed singles) e = refl
main_kind (Indirection generation main) e = absurd (true≢false (sym e))
main_kind (Single key value) e = absurd (true≢false (sym e))

single_kind : (node : Node) → is_single node ≡ true → (kind_of_node node ≡ kinds.Single) × (class_of node ≡ 0)
single_kind (Single key value) e = (refl, refl)
single_kind (Indirection generation main) e = absurd (true≢false (sym e))
single_kind (Branch bitmap entries) e = absurd (true≢false (sym e))
single_kind (Tomb single) e = absurd (true≢false (sym e))
single_kind (Listed singles) e = absurd (true≢false (sym e))

-- a main node left its header
pub left_shape : (v : View) (name : ℕ) (node : Node) → kind_of_node node ≡ kinds.Main → LeavesWords v name node → LeavesShape v name node
left_shape v name (Branch bitmap entries) e words = words.0
left_shape v name (Tomb single) e words = words
left_shape v name (Listed singles) e words = words.0
left_shape v name (Indirection generation main) e words = let wrong : ⊥ = cc e in absurd wrong
left_shape v name (Single key value) e words = let wrong : ⊥ = cc e in absurd wrong

pub left_entries : (v : View) (name : ℕ) (node : Node) → is_branch_or_list node ≡ true → LeavesWords v name node → LeavesEntries v name (entries_of node)
left_entries v name (Branch bitmap entries) e words = words.1
left_entries v name (Listed singles) e words = words.1
left_entries v name (Indirection generation main) e words = absurd (true≢false (sym e))
left_entries v name (Single key value) e words = absurd (true≢false (sym e))
left_entries v name (Tomb single) e words = absurd (true≢false (sym e))

-- ---- what a header says

tomb_said : (v : View) (node : Node) (says : Shape) (entry : Entry) → says ≡ shape.Tomb entry → NamesShape v node says → (single : Ref) × (node ≡ Tomb single) ×
    (entry.slot ≡ place_of v.account single)
tomb_said v node says entry e (a_branch bitmap entries) = let wrong : ⊥ = cc e in absurd wrong
tomb_said v node says entry e (a_list singles) = let wrong : ⊥ = cc e in absurd wrong
tomb_said v node says entry e (a_tomb single own) =
    let same : record { slot = place_of v.account single; own = own; is_single = true } ≡ entry = cc e in (single, refl, sym (ap (λ (x : Entry). x.slot) same))

branch_said : (v : View) (node : Node) (says : Shape) (bitmap : ℕ) → says ≡ shape.Branch bitmap → NamesShape v node says → (entries : ArrayVec Ref) × (node ≡ Branch bitmap entries)
branch_said v node says bitmap e (a_branch bits entries) = let same : bits ≡ bitmap = cc e in (entries, ap (λ n. Branch n entries) same)
branch_said v node says bitmap e (a_list singles) = let wrong : ⊥ = cc e in absurd wrong
branch_said v node says bitmap e (a_tomb single own) = let wrong : ⊥ = cc e in absurd wrong

list_said : (v : View) (node : Node) (says : Shape) (count : ℕ) → says ≡ shape.List count → NamesShape v node says → (singles : ArrayVec Ref) × (node ≡ Listed singles) × (count ≡ length singles.items)
list_said v node says count e (a_list singles) = let same : length singles.items ≡ count = cc e in (singles, refl, sym same)
list_said v node says count e (a_branch bitmap entries) = let wrong : ⊥ = cc e in absurd wrong
list_said v node says count e (a_tomb single own) = let wrong : ⊥ = cc e in absurd wrong

-- ---- what isn't left out

pub refs_are : (main : Node) → is_branch_or_list main ≡ true → refs_of_node main ≡ entries_of main
refs_are (Branch bitmap entries) e = refl
refs_are (Listed singles) e = refl
refs_are (Indirection generation main) e = absurd (true≢false (sym e))
refs_are (Single key value) e = absurd (true≢false (sym e))
refs_are (Tomb single) e = absurd (true≢false (sym e))

module _ (v : View) (slots : List ℕ) where
  abbrev is_kept : Ref → Bool
  is_kept k = not (is_among slots (place_of v.account k))

  pub was_among : (ks : List Ref) (k : Ref) → Contains (beside v slots ks) k → Contains ks k
  was_among ks k c = All-contains (Contains ks) (filter is_kept ks) k (All-filter is_kept (Contains ks) ks (All-contains_itself ks)) c

  is_owed : (ks : List Ref) (k : Ref) → HoldsAll (beside v slots ks) v.owed → Contains ks k → is_among slots (place_of v.account k) ≡ false → Contains v.owed k
  is_owed ks k holds c apart =
      let some = has_often k (beside v slots ks) (passes is_kept ks k (ap not apart) c) in
      let most = holds k in often_has k v.owed (omega (arith, some, most))

  one_beside : (k : Ref) → is_among slots (place_of v.account k) ≡ false → beside v slots (k ∷ []) ≡ k ∷ []
  one_beside k e = ap (λ b. cond (not b) (k ∷ []) []) e

  none_beside : (k : Ref) → is_among slots (place_of v.account k) ≡ true → beside v slots (k ∷ []) ≡ []
  none_beside k e = ap (λ b. cond (not b) (k ∷ []) []) e

  -- entries are left out as what they lead to
  both_beside : (entries : List Entry) (refs : List Ref) → AreEntriesTo v entries refs → AreEntriesTo v (entries_beside slots entries) (beside v slots refs)
  both_beside [] [] e = refl
  both_beside [] (r ∷ refs) e = let wrong : ⊥ = cc e in absurd wrong
  both_beside (x ∷ entries) [] e = let wrong : ⊥ = cc e in absurd wrong
  both_beside (x ∷ entries) (r ∷ refs) e =
      let first : unowned x ≡ entry_to v r = cc e in
      let rest : map unowned entries ≡ map (entry_to v) refs = cc e in
      let place : x.slot ≡ place_of v.account r = ap (λ (y : Entry). y.slot) first in
      by (is_among slots x.slot) refl (ap (is_among slots) (sym place)) first (both_beside entries refs rest)
    where
      by : (b : Bool) → is_among slots x.slot ≡ b → is_among slots (place_of v.account r) ≡ is_among slots x.slot → unowned x ≡ entry_to v r →
          AreEntriesTo v (entries_beside slots entries) (beside v slots refs) → AreEntriesTo v (entries_beside slots (x ∷ entries)) (beside v slots (r ∷ refs))
      by b is same first later =
          subst (λ c. AreEntriesTo v (cond (not c) (x ∷ entries_beside slots entries) (entries_beside slots entries)) (beside v slots (r ∷ refs))) (sym is)
          (subst (λ c. AreEntriesTo v (cond (not b) (x ∷ entries_beside slots entries) (entries_beside slots entries)) (cond (not c) (r ∷ beside v slots refs) (beside v slots refs)))
          (sym (same ∙ is)) (both b first later))
        where
          both : (c : Bool) → unowned x ≡ entry_to v r → AreEntriesTo v (entries_beside slots entries) (beside v slots refs) →
              AreEntriesTo v (cond (not c) (x ∷ entries_beside slots entries) (entries_beside slots entries)) (cond (not c) (r ∷ beside v slots refs) (beside v slots refs))
          both true head tail = tail
          both false head tail = ap₂ (λ y ys. y ∷ ys) head tail

-- ---- what is let go of

pub released_none : (v : View) → HasReleasedAll v [] v
released_none v = record { kept = record { is = refl }; all = λ k. omega arith }

pub released_one : (v : View) (k : Ref) (w : View) → Contains v.owed k → HasKept v (without_one k v.owed) w → HasReleasedAll v (k ∷ []) w
released_one v k w has kept =
    let owed = kept_owed v (without_one k v.owed) w kept in
    record { kept = subst (λ o. HasKept v o w) (sym owed) kept; all = λ j. one_less_of j k v.owed w.owed owed has }

module _ (n : ℕ) (v : View) (sound : IsSound n v) (name : ℕ) where
  -- its words are the table's
  module _ (node : Ref) (slot : Slot) (left : LeavesNode v name node slot) where
    pub its_room : 2 * name + words_in (class_of slot.node) ≤ n
    its_room = subst (λ p. 2 * p + words_in (class_of slot.node) ≤ n) left.place (used_inside n v sound node slot left.used)

    pub first_word : 2 * name < n
    first_word = let room = its_room in let two = two_words (class_of slot.node) (class_small slot.node) in omega (arith, room, two)

  module _ (slots : List ℕ) where
    owes_named : (kind_here : Kind) (m : MayLetGo v name kind_here slots) (k : Ref) → Contains (refs_of_node m.slot.node) k → is_among slots (place_of v.account k) ≡ false →
        (kind : Kind) (class place : ℕ) →
        (h : IsNamed v m.slot.node k) → class_of h.slot.node ≡ class → place_of v.account k ≡ place → kind_of_node h.slot.node ≡ kind → OwesOne v k kind class place
    owes_named kind_here m k c apart kind class place h its_class its_place its_kind = (
      (is_owed v slots (refs_of_node m.slot.node) k m.holds c apart, record { slot = h.slot; used = h.used; class_is = its_class; place = its_place }, h.shared),
      ap kind_of_node (node_is (now v) k h.slot h.used) ∙ its_kind,
    )

    -- ---- an indirection

    module _ (m : MayLetGo v name kinds.Indirection slots) (found : ℕ) (seen : HasSeenDraft v (2 * name) found) where
      pub main_named : (main : Ref) × (refs_of_node m.slot.node ≡ main ∷ []) × (place_of v.account main ≡ (link_of found).main.slot)
          × ((h : IsNamed v m.slot.node main) → is_main_node h.slot.node ≡ true)
      main_named =
          let (generation, main, is) = link_kind m.slot.node m.its_kind in
          let words : LeavesLink v name main = subst (LeavesWords v name) is m.left.words in (
            main,
            ap refs_of_node is,
            sym (ap (λ x. (link_of x).main.slot) (seen words.0 words.1) ∙ words.2),
            λ h. subst (λ x. MayBeNamed x h.slot.node) is h.kind,
          )

      pub link_owed : is_among slots ((link_of found).main.slot) ≡ false → (class : ℕ) → ((b : ℕ) → b < 3 → IsSlot v.sizes b ((link_of found).main.slot) → class ≡ b) →
          OwesOne v main_named.0 kinds.Main class ((link_of found).main.slot)
      link_owed apart class finds =
          let (main, refs, place, its) = main_named in
          let c : Contains (refs_of_node m.slot.node) main = subst (λ xs. Contains xs main) (sym refs) (first_there main []) in
          let h = m.left.names main c in
          let its_class = finds (class_of h.slot.node) (class_small h.slot.node) (subst (IsSlot v.sizes (class_of h.slot.node)) place (sound.inside (slot_of main) h.slot h.used)) in
          owes_named kinds.Indirection m main c (ap (is_among slots) place ∙ apart) kinds.Main class ((link_of found).main.slot) h (sym its_class) place (main_kind h.slot.node (its h))

      -- as the program has it
      pub link_by : is_among slots ((link_of found).main.slot) ≡ false → (w : View) → w ≡ v → (link : Link) → link ≡ link_of found → (sizes : Sizes) → sizes ≡ v.sizes → (class : ℕ) →
          ((b : ℕ) → b < 3 → IsSlot sizes b link.main.slot → class ≡ b) → OwesOne w main_named.0 kinds.Main class link.main.slot
      link_by apart w same link is sizes its class finds =
          subst (λ u. OwesOne u main_named.0 kinds.Main class link.main.slot) (sym same)
          (subst (λ (l : Link). OwesOne v main_named.0 kinds.Main class l.main.slot) (sym is)
          (link_owed apart class (λ b low slot. finds b low (subst (λ z. IsSlot z b link.main.slot) (sym its) (subst (λ (l : Link). IsSlot v.sizes b l.main.slot) (sym is) slot)))))

      pub link_kept : is_among slots ((link_of found).main.slot) ≡ true → (w : View) → w ≡ v → HasReleasedAll v (beside v slots (refs_of_node m.slot.node)) w
      link_kept among w same =
          let (main, refs, place, its) = main_named in
          subst (λ ks. HasReleasedAll v ks w) (sym (ap (beside v slots) refs ∙ none_beside v slots main (ap (is_among slots) place ∙ among)))
          (subst (HasReleasedAll v []) (sym same) (released_none v))

      pub link_released : is_among slots ((link_of found).main.slot) ≡ false → (w : View) → HasKept v (without_one main_named.0 v.owed) w →
          HasReleasedAll v (beside v slots (refs_of_node m.slot.node)) w
      link_released apart w kept =
          let (main, refs, place, its) = main_named in
          let c : Contains (refs_of_node m.slot.node) main = subst (λ xs. Contains xs main) (sym refs) (first_there main []) in
          let gone = ap (is_among slots) place ∙ apart in
          subst (λ ks. HasReleasedAll v ks w) (sym (ap (beside v slots) refs ∙ one_beside v slots main gone))
          (released_one v main w (is_owed v slots (refs_of_node m.slot.node) main m.holds c gone) kept)

    -- ---- a main node

    module _ (m : MayLetGo v name kinds.Main slots) (found : ℕ) (seen : HasSeenDraft v (2 * name) found) where
      said : NamesShape v m.slot.node (header_of found).shape
      said = let words = left_shape v name m.slot.node m.its_kind m.left.words in subst (λ x. NamesShape v m.slot.node (header_of x).shape) (sym (seen words.0 words.1)) words.2

      few : (count : ℕ) → count ≡ length (entries_of m.slot.node) → is_branch_or_list m.slot.node ≡ true → count ≤ 32
      few count is kind = let most = (left_entries v name m.slot.node kind m.left.words).0 in omega (arith, most, is)

      pub single_named : (entry : Entry) → (header_of found).shape ≡ shape.Tomb entry → (single : Ref) × (m.slot.node ≡ Tomb single) × (entry.slot ≡ place_of v.account single)
      single_named entry e = tomb_said v m.slot.node (header_of found).shape entry e said

      pub single_owed : (entry : Entry) (e : (header_of found).shape ≡ shape.Tomb entry) → is_among slots entry.slot ≡ false → OwesOne v (single_named entry e).0 kinds.Single 0 entry.slot
      single_owed entry e apart =
          let (single, is, place) = single_named entry e in
          let c : Contains (refs_of_node m.slot.node) single = subst (λ x. Contains (refs_of_node x) single) (sym is) (first_there single []) in
          let named = m.left.names single c in
          let its : is_single named.slot.node ≡ true = subst (λ x. MayBeNamed x named.slot.node) is named.kind in
          let kind = single_kind named.slot.node its in
          owes_named kinds.Main m single c (ap (is_among slots) (sym place) ∙ apart) kinds.Single 0 entry.slot named kind.1 (sym place) kind.0

      pub single_kept : (entry : Entry) (e : (header_of found).shape ≡ shape.Tomb entry) → is_among slots entry.slot ≡ true → (w : View) → w ≡ v →
          HasReleasedAll v (beside v slots (refs_of_node m.slot.node)) w
      single_kept entry e among w same =
          let (single, is, place) = single_named entry e in
          subst (λ ks. HasReleasedAll v ks w) (sym (ap (λ x. beside v slots (refs_of_node x)) is ∙ none_beside v slots single (ap (is_among slots) (sym place) ∙ among)))
          (subst (HasReleasedAll v []) (sym same) (released_none v))

      pub single_released : (entry : Entry) (e : (header_of found).shape ≡ shape.Tomb entry) → is_among slots entry.slot ≡ false → (w : View) →
          HasKept v (without_one (single_named entry e).0 v.owed) w → HasReleasedAll v (beside v slots (refs_of_node m.slot.node)) w
      single_released entry e apart w kept =
          let (single, is, place) = single_named entry e in
          let gone = ap (is_among slots) (sym place) ∙ apart in
          let c : Contains (refs_of_node m.slot.node) single = subst (λ x. Contains (refs_of_node x) single) (sym is) (first_there single []) in
          subst (λ ks. HasReleasedAll v ks w) (sym (ap (λ x. beside v slots (refs_of_node x)) is ∙ one_beside v slots single gone))
          (released_one v single w (is_owed v slots (refs_of_node m.slot.node) single m.holds c gone) kept)

      many_left : (count : ℕ) → is_branch_or_list m.slot.node ≡ true → count ≡ length (entries_of m.slot.node) → MayLetManyGo v name count slots
      many_left count many is = record {
        node = m.node;
        slot = m.slot;
        left = m.left;
        many = many;
        counted = is;
        few = few count is many;
        holds = subst (λ ks. HoldsAll (beside v slots ks) v.owed) (refs_are m.slot.node many) m.holds;
      }

      pub branch_left : (bitmap : ℕ) → (header_of found).shape ≡ shape.Branch bitmap → MayLetManyGo v name (count_ones bitmap) slots
      branch_left bitmap e =
          let (entries, is) = branch_said v m.slot.node (header_of found).shape bitmap e said in
          many_left (count_ones bitmap) (ap is_branch_or_list is) (sym (ap (λ x. length (entries_of x)) is ∙ entries_counted n v sound m.node m.slot m.left.used bitmap entries is))

      pub list_left : (count : ℕ) → (header_of found).shape ≡ shape.List count → MayLetManyGo v name count slots
      list_left count e =
          let (singles, is, count_is) = list_said v m.slot.node (header_of found).shape count e said in
          many_left count (ap is_branch_or_list is) (count_is ∙ sym (ap (λ x. length (entries_of x)) is))

      -- its entries are what it names
      many_released : (count : ℕ) (many : is_branch_or_list m.slot.node ≡ true) (is : count ≡ length (entries_of m.slot.node)) (u w : View) → u ≡ v →
          ((h : MayLetManyGo u name count slots) → HasReleasedAll u (beside u slots (entries_of h.slot.node)) w) → HasReleasedAll v (beside v slots (refs_of_node m.slot.node)) w
      unfolding many_left
      many_released count many is u w same released =
          subst (λ ks. HasReleasedAll v (beside v slots ks) w) (sym (refs_are m.slot.node many))
          ((subst (λ (x : View). (h : MayLetManyGo x name count slots) → HasReleasedAll x (beside x slots (entries_of h.slot.node)) w) same released) (many_left count many is))

      pub branch_released : (bitmap : ℕ) → (header_of found).shape ≡ shape.Branch bitmap → (u w : View) → u ≡ v →
          ((h : MayLetManyGo u name (count_ones bitmap) slots) → HasReleasedAll u (beside u slots (entries_of h.slot.node)) w) → HasReleasedAll v (beside v slots (refs_of_node m.slot.node)) w
      branch_released bitmap e =
          let (entries, is) = branch_said v m.slot.node (header_of found).shape bitmap e said in
          many_released (count_ones bitmap) (ap is_branch_or_list is) (sym (ap (λ x. length (entries_of x)) is ∙ entries_counted n v sound m.node m.slot m.left.used bitmap entries is))

      pub list_released : (count : ℕ) → (header_of found).shape ≡ shape.List count → (u w : View) → u ≡ v →
          ((h : MayLetManyGo u name count slots) → HasReleasedAll u (beside u slots (entries_of h.slot.node)) w) → HasReleasedAll v (beside v slots (refs_of_node m.slot.node)) w
      list_released count e =
          let (singles, is, count_is) = list_said v m.slot.node (header_of found).shape count e said in
          many_released count (ap is_branch_or_list is) (count_is ∙ sym (ap (λ x. length (entries_of x)) is))

    -- ---- entries

    entry_may : (node main : Node) → is_branch_or_list main ≡ true → MayBeNamed main node → is_entry node ≡ true
    entry_may node (Branch bitmap entries) e h = h
    entry_may node (Listed singles) e h = h
    entry_may node (Indirection generation main) e h = absurd (true≢false (sym e))
    entry_may node (Single key value) e h = absurd (true≢false (sym e))
    entry_may node (Tomb single) e h = absurd (true≢false (sym e))

    pub may_release : (count : ℕ) (entries : List Entry) (m : MayLetManyGo v name count slots) → HasSeenHalves v name count entries →
        MayRelease v (entries_beside slots entries) None (beside v slots (entries_of m.slot.node))
    may_release count entries m seen = record {
      lead = record {
        named = both_beside v slots entries (entries_of m.slot.node) (seen m.node m.slot m.left m.many m.counted);
        used = λ k c.
            (let h = named k (was_among v slots (entries_of m.slot.node) k c) in
            (h.slot, h.used, entry_may h.slot.node m.slot.node m.many h.kind));
        shared = λ k c. (named k (was_among v slots (entries_of m.slot.node) k c)).shared;
      };
      owed = m.holds;
    }
      where
        named : (k : Ref) → Contains (entries_of m.slot.node) k → IsNamed v m.slot.node k
        named k c = m.left.names k (subst (λ xs. Contains xs k) (sym (refs_are m.slot.node m.many)) c)

-- ---- the seat holds some references less

-- by a look at a word nothing changes
pub released_from : (v u w : View) (ks : List Ref) → u ≡ v → HasReleasedAll u ks w → HasReleasedAll v ks w
released_from v u w ks same h = subst (λ (x : View). HasReleasedAll x ks w) same h

-- ---- the seat holds some references less

pub let_go_by : (v u w : View) → u ≡ v → (owed : List Ref) → HasKept u owed w → HasLetGo v w
let_go_by v u w same owed h = record {
  is = h.is ∙ ap (λ ks. record u { epoch = w.epoch; passed = w.passed; retired = w.retired; owed = ks; links = w.links }) (sym (ap (λ (y : View). y.owed) h.is))
      ∙ ap (λ (y : View). record y { epoch = w.epoch; passed = w.passed; retired = w.retired; owed = w.owed; links = w.links }) same;
}
