-- An own update changes what its main node says of one key, or leads below where another key's single stood.
use Rattle.std.proofs.Common.{◌≡◌, ◌≢◌, ℕ, suc, ◌+◌, ◌^◌, slice_index_or, Option, Some, None, refl, sym, ap, subst₂, ◌∙◌}
use Rattle.proof_contents.specs.Vocabulary.{hash_of, position_of, Ref, Node, Single, no_ref, index_in}
use Rattle.proof_contents.specs.Nodes.Looking.{Found, Absent, Has, Below, look_at}
use Rattle.proof_contents.specs.Nodes.Changing.{Changes, look}
use Rattle.proof_contents.specs.Nodes.Chains.{LeadsToPair}
use Rattle.proof_contents.proofs.Nodes.Branches.{flagged, unflagged}
use Rattle.proof_contents.proofs.Nodes.Changes.{look-other, inserted_changes, updated_changes, removed_changes}
use Rattle.proof_contents.proofs.Nodes.Beside.{beside-was, beside-is, beside-elsewhere}
use Rattle.proof_contents.proofs.Nodes.Lists.{list_inserted_changes, list_updated_changes, list_removed_changes, list_entombed_changes}
use Rattle.proof_contents.proofs.Nodes.Tombs.{entombed_changes}
use Rattle.proof_contents.specs.Tries.{Trie, IsShaped, assigned, most_levels}
use Rattle.proof_contents.specs.Steps.{IsOwnUpdate, branch_inserts, branch_updates, branch_removes, branch_entombs, goes_beside, list_inserts, list_updates, list_removes, list_entombs}
use Rattle.proof_contents.proofs.Shapes.Nodes.{branch_shape, list_shape}

-- what is found where this is the value
abbrev pub found_of : Option ℕ → Found
found_of None = Absent
found_of (Some value) = Has value

module _ (trie : Trie) (g t : ℕ) (i : Ref) (key : ℕ) where
  abbrev index : ℕ → ℕ
  index q = index_in (hash_of trie.kind q) (trie.depth i)

  abbrev look_of : ℕ → Node → Found
  look_of q n = look trie.node (hash_of trie.kind) (trie.depth i) q n

  -- A chain stands where another key's single stood.
  pub record IsBeside (old new : Node) (value : ℕ) : Type 0 where
    pub other : ℕ
    pub own : ℕ
    pub entry : Ref
    pub single : Ref
    pub link : Ref
    pub levels : ℕ
    pub apart : other ≢ key
    pub entry_is : trie.node entry ≡ Single other own
    pub single_is : trie.node single ≡ Single key value
    pub before : look trie.node (hash_of trie.kind) (trie.depth i) key old ≡ Absent
    pub was : (q : ℕ) → index_in (hash_of trie.kind q) (trie.depth i) ≡ index_in (hash_of trie.kind key) (trie.depth i) →
        look trie.node (hash_of trie.kind) (trie.depth i) q old ≡ look_at q entry (trie.node entry)
    pub is : (q : ℕ) → index_in (hash_of trie.kind q) (trie.depth i) ≡ index_in (hash_of trie.kind key) (trie.depth i) →
        look trie.node (hash_of trie.kind) (trie.depth i) q new ≡ Below link
    pub elsewhere : (q : ℕ) → index_in (hash_of trie.kind q) (trie.depth i) ≢ index_in (hash_of trie.kind key) (trie.depth i) →
        look trie.node (hash_of trie.kind) (trie.depth i) q new ≡ look trie.node (hash_of trie.kind) (trie.depth i) q old
    pub sum : levels + suc (trie.depth i) ≡ most_levels
    pub chain : LeadsToPair trie.node (assigned trie g (suc t)) trie.kind other key entry single levels (suc (trie.depth i)) link

  pub data HasUpdated (old new : Node) (former now : Option ℕ) : Type 0 where
    changes : Changes trie.node (hash_of trie.kind) (trie.depth i) key old new (found_of former) (found_of now) → HasUpdated old new former now
    beside : (value : ℕ) → former ≡ None → now ≡ Some value → IsBeside old new value → HasUpdated old new former now

  -- in terms of the nodes that were built
  changes_of : (old new old' new' : Node) (former now : Option ℕ) → old ≡ old' → new ≡ new' →
      Changes trie.node (hash_of trie.kind) (trie.depth i) key old' new' (found_of former) (found_of now) → HasUpdated old new former now
  changes_of old new old' new' former now o n c =
      changes (subst₂ (λ a b. Changes trie.node (hash_of trie.kind) (trie.depth i) key a b (found_of former) (found_of now)) (sym o) (sym n) c)

  pub has_updated : (old new : Node) (former now : Option ℕ) → IsShaped trie i old → IsOwnUpdate trie g t i key old new former now → HasUpdated old new former now
  has_updated old new former now shape (branch_inserts bitmap value entries single o no_flag is n) =
      let s = branch_shape trie i old bitmap entries shape o in
      changes_of old new _ _ None (Some value) o n
      (inserted_changes trie.node (hash_of trie.kind) (trie.depth i) bitmap entries s.places s.has key value single (unflagged bitmap entries.items s.places s.has (index key) no_flag) is)
  has_updated old new former now shape (branch_updates bitmap was value entries single o flag entry is n) =
      let s = branch_shape trie i old bitmap entries shape o in
      changes_of old new _ _ (Some was) (Some value) o n
      (updated_changes trie.node (hash_of trie.kind) (trie.depth i) bitmap entries s.places s.has key was value _ single (flagged bitmap entries.items s.places s.has (index key) no_ref flag) entry is)
  has_updated old new former now shape (branch_removes bitmap was entries o flag entry n) =
      let s = branch_shape trie i old bitmap entries shape o in
      changes_of old new _ _ (Some was) None o n
      (removed_changes trie.node (hash_of trie.kind) (trie.depth i) bitmap entries s.places s.has key was _ (flagged bitmap entries.items s.places s.has (index key) no_ref flag) entry)
  has_updated old new former now shape (branch_entombs bitmap was other value entries o two flag entry is n) =
      let s = branch_shape trie i old bitmap entries shape o in
      changes_of old new _ _ (Some was) None o n
      (entombed_changes trie.node (hash_of trie.kind) (trie.depth i) bitmap entries s.places s.has key was other value _ s.in_place two
      (flagged bitmap entries.items s.places s.has (index key) no_ref flag) entry is)
  has_updated old new former now shape (goes_beside bitmap other value own levels h entries single link word o flag entry apart is link_is sum chain n) =
      let s = branch_shape trie i old bitmap entries shape o in
      let x = index key in
      let entry_at = flagged bitmap entries.items s.places s.has x no_ref flag in
      let r = slice_index_or entries.items (position_of (2 ^ x) bitmap) no_ref in
      beside value refl refl (record {
        other = other;
        own = own;
        entry = r;
        single = single;
        link = link;
        levels = levels;
        apart = apart;
        entry_is = entry;
        single_is = is;
        before = ap (look_of key) o ∙ beside-was trie.node (hash_of trie.kind) (trie.depth i) bitmap entries s.places s.has key r link entry_at key refl
            ∙ look-other trie.node key other own r entry (λ same. apart (sym same));
        was = λ q same. ap (look_of q) o ∙ beside-was trie.node (hash_of trie.kind) (trie.depth i) bitmap entries s.places s.has key r link entry_at q same;
        is = λ q same. ap (look_of q) n ∙ beside-is trie.node (hash_of trie.kind) (trie.depth i) bitmap entries s.places s.has key r link entry_at q h word link_is same;
        elsewhere = λ q away. ap (look_of q) n
            ∙ beside-elsewhere trie.node (hash_of trie.kind) (trie.depth i) bitmap entries s.places s.has key r link entry_at q away ∙ sym (ap (look_of q) o);
        sum = sum;
        chain = chain;
      })
  has_updated old new former now shape (list_inserts value singles single o room none is n) =
      changes_of old new _ _ None (Some value) o n (list_inserted_changes trie.node (hash_of trie.kind) (trie.depth i) singles key value single room none is)
  has_updated old new former now shape (list_updates p was value singles single o lt entry is n) =
      let s = list_shape trie i old singles shape o in
      changes_of old new _ _ (Some was) (Some value) o n
      (list_updated_changes trie.node (hash_of trie.kind) (trie.depth i) singles p key was value single s.are s.most lt entry is)
  has_updated old new former now shape (list_removes p was singles o lt entry n) =
      let s = list_shape trie i old singles shape o in
      changes_of old new _ _ (Some was) None o n (list_removed_changes trie.node (hash_of trie.kind) (trie.depth i) singles p key was s.are s.most lt entry)
  has_updated old new former now shape (list_entombs p was singles o two lt entry n) =
      let s = list_shape trie i old singles shape o in
      changes_of old new _ _ (Some was) None o n (list_entombed_changes trie.node (hash_of trie.kind) (trie.depth i) singles p key was s.are two lt entry)
