-- What a main node names that an operation holds, as it is seen.
use Rattle.std.proofs.Common.{◌≡◌, ℕ, true, false, List, [], ◌∷◌, count_ones, length, refl, sym, ap, subst, ◌∙◌, arith}
use Rattle.std.proofs.lemmas.List.Elements.{Contains-append_left}
use Rattle.arrayvec.specs.ArrayVec.{ArrayVec}
use Rattle.trie_words.specs.Codes.{entry_code, entry_of, IsShape}
use Rattle.trie_words.specs.declared.entries.Entry.{Entry}
use Rattle.trie_words.specs.declared.headers.Header.{Header}
use Rattle.trie_words.specs.declared.headers.Shape.{Shape}
use Rattle.trie_words.specs.declared.headers.Shape.TheVariants as shape
use Rattle.trie_words.specs.declared.names.Name.{Name}
use Rattle.trie_words.proofs.Parts.{entry_back}
use Rattle.machine_model.specs.Beneath.slot_arena.specs.declared.refs.Ref.{Ref}
use Rattle.machine_model.specs.Beneath.slot_arena.specs.declared.nodes.Node.{Node}
use Rattle.machine_model.specs.Beneath.slot_arena.specs.declared.nodes.Node.TheVariants.{Branch, List as Listed}
use Rattle.machine_model.specs.Beneath.slot_arena.specs.declared.nodes.Slot.{Slot}
use Rattle.machine_model.specs.Beneath.slot_arena.specs.Heaps.{entries_of, node_at, refs_of_node, refs_of_prev}
use Rattle.machine_model.specs.Beneath.slot_arena.specs.Refs.{slot_of}
use Rattle.proof_memory.specs.Wants.{is_branch_or_list, is_main_node}
use Rattle.lock_free.specs.declared.rules.View.{View}
use Rattle.lock_free.specs.Accounts.{place_of}
use Rattle.lock_free.specs.Entries.{HasStayed}
use Rattle.lock_free.specs.LettingGo.{names_of, taken_over}
use Rattle.lock_free.specs.Loading.{now, Holds, HoldsSlot, IsSound, IsUsed, HasSeenMain}
use Rattle.lock_free.specs.Nodes.{is_single, SaysShape, of_branch, of_tomb, of_list}
use Rattle.lock_free.specs.Passing.{KnowsMain}
use Rattle.lock_free.specs.SeenEntries.{AreEntriesTo, HasEntries, HasSeenEntries, unowned}
use Rattle.lock_free.specs.SeenNames.{HasSeenNames, HasSeenTaken, HoldsMain, IsMainIn}
use Rattle.lock_free.proofs.AllEntries.{holds_on}
use Rattle.lock_free.proofs.Counts.{entries_counted, entries_few}
use Rattle.lock_free.proofs.Crowds.{list_few}
use Rattle.lock_free.proofs.Followings.{main_kind}
use Rattle.lock_free.proofs.GivenBack.{node_is}
use Rattle.lock_free.proofs.LeftNames.{refs_are}
use Rattle.lock_free.proofs.Rootings.{stayed_both, stayed_none, stayed_saw}
use Rattle.lock_free.proofs.TombSingles.{tomb_single}
use Rattle.lock_free.proofs.Verdicts.{main_same}
use Rattle.lock_free.proofs.Within.{held_lives}

branch_is : (account : _) (k : ℕ) (node : Node) (says : Shape) (bitmap : ℕ) → says ≡ shape.Branch bitmap → SaysShape account k node says → (entries : ArrayVec Ref) × (node ≡ Branch bitmap entries)
branch_is account k node says bitmap e (of_branch bits entries) = let same : bits ≡ bitmap = cc e in (entries, ap (λ n. Branch n entries) same)
branch_is account k node says bitmap e (of_tomb single own its) = let wrong : ⊥ = cc e in absurd wrong
branch_is account k node says bitmap e (of_list singles) = let wrong : ⊥ = cc e in absurd wrong

list_is : (account : _) (k : ℕ) (node : Node) (says : Shape) (count : ℕ) → says ≡ shape.List count → SaysShape account k node says → (singles : ArrayVec Ref) × (node ≡ Listed singles)
    × (count ≡ length singles.items)
list_is account k node says count e (of_list singles) = let same : length singles.items ≡ count = cc e in (singles, refl, sym same)
list_is account k node says count e (of_branch bits entries) = let wrong : ⊥ = cc e in absurd wrong
list_is account k node says count e (of_tomb single own its) = let wrong : ⊥ = cc e in absurd wrong

module _ (n : ℕ) (v : View) (sound : IsSound n v) (name : ℕ) (held : HoldsMain v name) where
  pub its_slot : HoldsSlot v name
  its_slot = (held.0, held.2.0, held.2.3)

  module _ (header : Header) (w : View) (sound_w : IsSound n w) (g : HasSeenMain v name header w) where
    stayed : HasStayed v w
    stayed = stayed_saw n v w sound g.0

    -- each main node that stands in the slot
    module _ (r : Ref) (slot : Slot) (is : IsMainIn v name r slot) where
      later : (y : Slot) × IsUsed w r y × (y.node ≡ slot.node)
      later =
          let y = stayed.later.nodes r slot is.1 in (y.0, y.1, main_same slot.node y.0.node y.2 (main_kind slot.node y.0.node y.2 is.2))

      known : KnowsMain w r header
      known =
          let used = subst (λ (z : View). IsUsed z r later.0) g.0.after_is later.1 in
          let h = g.1 r is.0 is.3 later.0 used (ap is_main_node later.2 ∙ is.2) in
          subst (λ z. KnowsMain z r header) (sym g.0.after_is) (record {
            slot = h.slot;
            used = h.stores;
            is_main = h.is_main;
            is_shape = h.is_shape;
            fits = h.fits;
            names = λ q c. h.used q (Contains-append_left (refs_of_node h.slot.node) (refs_of_prev h.slot.prev) q c);
          })

      same_slot : known.slot.node ≡ slot.node
      same_slot = sym (node_is (now w) r known.slot known.used) ∙ node_is (now w) r later.0 later.1 ∙ later.2

      place_w : place_of w.account r ≡ name
      place_w = stayed.later.places r slot is.1 ∙ is.3

      holds_w : Holds w r
      holds_w = holds_on v w stayed r is.0

      -- it is a branch, or a list, or a tomb
      module _ (bitmap : ℕ) (e : header.shape ≡ shape.Branch bitmap) where
        branch : (entries : ArrayVec Ref) × (known.slot.node ≡ Branch bitmap entries)
        branch = branch_is w.account (slot_of r) known.slot.node header.shape bitmap e known.is_shape

        branch_has : HasEntries w name (count_ones bitmap)
        branch_has = (
          r,
          known.slot,
          holds_w,
          known.used,
          ap is_branch_or_list branch.1,
          sym (ap (λ x. length (entries_of x)) branch.1 ∙ entries_counted n w sound_w r known.slot known.used bitmap branch.0 branch.1),
          (let few = entries_few n w sound_w r known.slot known.used bitmap branch.0 branch.1 in
              let counted = entries_counted n w sound_w r known.slot known.used bitmap branch.0 branch.1 in omega (arith, few, counted)),
          place_w,
        )

        branch_names : (entries : List Entry) (x : View) → HasSeenEntries w name (count_ones bitmap) entries x → AreEntriesTo x entries (refs_of_node slot.node)
        unfolding known branch_has
        branch_names entries x had =
            let b = branch_has in
            subst (AreEntriesTo x entries) (sym (refs_are known.slot.node b.4) ∙ ap refs_of_node same_slot) (had.1 r known.slot holds_w known.used b.4 b.5 place_w)

      module _ (count : ℕ) (e : header.shape ≡ shape.List count) where
        list : (singles : ArrayVec Ref) × (known.slot.node ≡ Listed singles) × (count ≡ length singles.items)
        list = list_is w.account (slot_of r) known.slot.node header.shape count e known.is_shape

        list_has : HasEntries w name count
        list_has = (
          r,
          known.slot,
          holds_w,
          known.used,
          ap is_branch_or_list list.1,
          list.2 ∙ sym (ap (λ x. length (entries_of x)) list.1),
          (let few = list_few n w sound_w r known.slot list.0 known.used list.1 in let counted = list.2 in omega (arith, few, counted)),
          place_w,
        )

        list_names : (entries : List Entry) (x : View) → HasSeenEntries w name count entries x → AreEntriesTo x entries (refs_of_node slot.node)
        unfolding known list_has
        list_names entries x had =
            let b = list_has in
            subst (AreEntriesTo x entries) (sym (refs_are known.slot.node b.4) ∙ ap refs_of_node same_slot) (had.1 r known.slot holds_w known.used b.4 b.5 place_w)

      tomb_names : (entry : Entry) → header.shape ≡ shape.Tomb entry → AreEntriesTo w (entry ∷ []) (refs_of_node slot.node)
      tomb_names entry e = subst (λ x. AreEntriesTo w (entry ∷ []) (refs_of_node x)) same_slot (by known.slot.node header.shape e known.slot refl known.used known.is_shape)
        where
          by : (node : Node) (says : Shape) → says ≡ shape.Tomb entry → (y : Slot) → y.node ≡ node → IsUsed w r y → SaysShape w.account (slot_of r) node says →
              AreEntriesTo w (entry ∷ []) (refs_of_node node)
          by node says is_tomb y is_node used (of_branch bits entries) = let wrong : ⊥ = cc is_tomb in absurd wrong
          by node says is_tomb y is_node used (of_list singles) = let wrong : ⊥ = cc is_tomb in absurd wrong
          by node says is_tomb y is_node used (of_tomb single own its) =
              let same : record { slot = place_of w.account single; own = own; is_single = true } ≡ entry = cc is_tomb in
              let kind : is_single (node_at (now w).heap single) ≡ true = tomb_single w.sizes w.account sound_w.bounds r single (held_lives w r holds_w) (node_is (now w) r y used ∙ is_node) in
              ap (λ x. x ∷ []) (sym (ap unowned same) ∙ ap (λ b. record { slot = place_of w.account single; own = false; is_single = b }) (sym kind))

    abbrev r0 : Ref
    r0 = held.0

    abbrev slot0 : Slot
    slot0 = held.1

    abbrev its0 : IsMainIn v name held.0 held.1
    its0 = held.2

    pub branch_ready : (bitmap : ℕ) → header.shape ≡ shape.Branch bitmap → HasEntries w name (count_ones bitmap)
    branch_ready = branch_has r0 slot0 its0

    pub list_ready : (count : ℕ) → header.shape ≡ shape.List count → HasEntries w name count
    list_ready = list_has r0 slot0 its0

    its_names : (r : Ref) (slot : Slot) → IsMainIn v name r slot → (entries : List Entry) (x : View) → AreEntriesTo x entries (refs_of_node slot.node) → AreEntriesTo x entries (names_of v r)
    its_names r slot is entries x h = subst (AreEntriesTo x entries) (sym (ap refs_of_node (node_is (now v) r slot is.1))) h

    pub branch_seen : (bitmap : ℕ) → header.shape ≡ shape.Branch bitmap → (entries : List Entry) (x : View) → HasSeenEntries w name (count_ones bitmap) entries x → HasSeenNames v name entries x
    branch_seen bitmap e entries x h = (stayed_both v w x stayed h.0, λ r slot is. its_names r slot is entries x (branch_names r slot is bitmap e entries x h))

    pub list_seen : (count : ℕ) → header.shape ≡ shape.List count → (entries : List Entry) (x : View) → HasSeenEntries w name count entries x → HasSeenNames v name entries x
    list_seen count e entries x h = (stayed_both v w x stayed h.0, λ r slot is. its_names r slot is entries x (list_names r slot is count e entries x h))

    pub tomb_fits : (entry : Entry) → header.shape ≡ shape.Tomb entry → IsShape (shape.Tomb entry)
    tomb_fits entry e = subst IsShape e (known r0 slot0 its0).fits.1

    pub tomb_seen : (entry : Entry) → header.shape ≡ shape.Tomb entry → HasSeenNames v name (entry_of (entry_code entry) ∷ []) w
    tomb_seen entry e = (
      stayed,
      λ r slot is.
          its_names r slot is (entry_of (entry_code entry) ∷ []) w
          (subst (λ x. AreEntriesTo w (x ∷ []) (refs_of_node slot.node)) (sym (entry_back entry (tomb_fits entry e))) (tomb_names r slot is entry e)),
    )

-- where nothing is taken over
pub none_taken : (v : View) (name : Name) → name.own ≡ false → HasSeenTaken v name [] v
none_taken v name e = (stayed_none v, λ r slot is. subst (λ b. AreEntriesTo v [] (taken_over v b r)) (sym e) refl)

pub all_taken : (v w : View) (name : Name) (entries : List Entry) → name.own ≡ true → HasSeenNames v name.slot entries w → HasSeenTaken v name entries w
all_taken v w name entries e h = (h.0, λ r slot is. subst (λ b. AreEntriesTo w entries (taken_over v b r)) (sym e) (h.1 r slot is))
