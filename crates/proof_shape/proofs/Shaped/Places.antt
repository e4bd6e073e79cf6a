-- What stands at the places of branches: children, with the path that leads to them.
use Rattle.std.proofs.Common.{◌≡◌, ℕ, suc, ◌*◌, ◌^◌, ◌<◌, true, length, slice_index_or, Some, refl, sym, ap, ◌∙◌, arith}
use Rattle.arrayvec.specs.ArrayVec.{ArrayVec}
use Rattle.proof_shape.specs.Vocabulary.{hash_of, position_of, HashKind, Ref, Node, Indirection, Branch, Single, Tomb, List as Listed, no_ref, entries_of, bitmap_of, generation_of, flag_of}
use Rattle.proof_shape.specs.Vocabulary.{has_flag, index_in, Trie, IsChild, IsShaped, generation}
use Rattle.proof_shape.specs.Beneath.proof_contents.proofs.Nodes.Branches.{flagged}
use Rattle.proof_shape.specs.Beneath.proof_contents.proofs.Nodes.Tombs.{place_of}
use Rattle.proof_shape.specs.Beneath.proof_memory.specs.Wants.{is_indirection}
use Rattle.proof_shape.specs.Beneath.proof_contents.proofs.Shapes.Nodes.{IsBranch, branch_shape}
use Rattle.proof_shape.specs.Beneath.proof_contents.proofs.Values.Parting.{leads_down}
use Rattle.proof_generations.proofs.Lines.ReaderKnows.{indirection_is}
use Rattle.proof_shape.specs.Sites.Nodes.{path_to, depth_at}
use Rattle.proof_shape.specs.Sites.Lines.{Sites, bare, trie_at}

-- ---- bare nodes

pub bare_entries : (n : Node) → entries_of (bare n) ≡ entries_of n
bare_entries (Indirection g w) = refl
bare_entries n = refl

pub bare_bitmap : (n : Node) → bitmap_of (bare n) ≡ bitmap_of n
bare_bitmap (Indirection g w) = refl
bare_bitmap n = refl

pub bare_link : (n : Node) → is_indirection (bare n) ≡ is_indirection n
bare_link (Indirection g w) = refl
bare_link n = refl

-- nodes that are alike but for generations and main words
pub entries_alike : (n m : Node) → bare n ≡ bare m → entries_of m ≡ entries_of n
entries_alike n m e = sym (bare_entries m) ∙ ap entries_of (sym e) ∙ bare_entries n

pub link_alike : (n m : Node) → bare n ≡ bare m → is_indirection n ≡ is_indirection m
link_alike n m e = sym (bare_link n) ∙ ap is_indirection e ∙ bare_link m

pub bare_generation : (n : Node) → generation_of (bare n) ≡ 0
bare_generation (Indirection g w) = refl
bare_generation n = refl

pub bare_again : (n : Node) → bare (bare n) ≡ bare n
bare_again (Indirection g w) = refl
bare_again n = refl

-- what is bare as a single is one
pub bare_single : (n : Node) (k v : ℕ) → bare n ≡ Single k v → n ≡ Single k v
bare_single (Indirection g w) k v e = absurd (let bad : Indirection 0 no_ref ≡ Single k v = e in cc)
bare_single n k v e = e

pub bare_branch : (n : Node) (b : ℕ) (es : ArrayVec Ref) → bare n ≡ Branch b es → n ≡ Branch b es
bare_branch (Indirection g w) b es e = absurd (let bad : Indirection 0 no_ref ≡ Branch b es = e in cc)
bare_branch n b es e = e

pub bare_list : (n : Node) (ss : ArrayVec Ref) → bare n ≡ Listed ss → n ≡ Listed ss
bare_list (Indirection g w) ss e = absurd (let bad : Indirection 0 no_ref ≡ Listed ss = e in cc)
bare_list n ss e = e

pub bare_tomb : (n : Node) (t : Ref) → bare n ≡ Tomb t → n ≡ Tomb t
bare_tomb (Indirection g w) t e = absurd (let bad : Indirection 0 no_ref ≡ Tomb t = e in cc)
bare_tomb n t e = e

pub no_generation : (kind : HashKind) (s : Sites) (i : Ref) → generation (trie_at kind s) i ≡ 0
no_generation kind s i = bare_generation (s.node i)

pub bare_link_node : (s : Sites) (i : Ref) → is_indirection (s.node i) ≡ true → bare (s.node i) ≡ Indirection 0 no_ref
bare_link_node s i e = let (g, w, is) = indirection_is (s.node i) e in ap bare is

module _ (kind : HashKind) (s : Sites) (fits : (i : Ref) → s.path i < 2 ^ (5 * depth_at (s.level i))) where
  abbrev T : Trie
  T = trie_at kind s

  module _ (main : Ref) (bitmap : ℕ) (entries : ArrayVec Ref) (shape : IsShaped T main (Branch bitmap entries)) where
    b : IsBranch T main bitmap entries
    b = branch_shape T main (Branch bitmap entries) bitmap entries shape refl

    -- an indirection at the place of a key is the child there
    pub child_there : (key : ℕ) → has_flag bitmap (flag_of (hash_of kind key) (depth_at (s.level main))) ≡ true →
        is_indirection (s.node (slice_index_or entries.items (position_of (flag_of (hash_of kind key) (depth_at (s.level main))) bitmap) no_ref)) ≡ true →
        IsChild T main (index_in (hash_of kind key) (depth_at (s.level main))) (slice_index_or entries.items (position_of (flag_of (hash_of kind key) (depth_at (s.level main))) bitmap) no_ref)
    child_there key flag link =
        let x = index_in (hash_of kind key) (depth_at (s.level main)) in
        let entry = slice_index_or entries.items (position_of (flag_of (hash_of kind key) (depth_at (s.level main))) bitmap) no_ref in
        b.children x 0 entry no_ref (flagged bitmap entries.items b.places b.has x no_ref flag) (bare_link_node s entry link)

    -- and the key's path leads to it, if it leads to the parent
    pub leads_there : (key : ℕ) → has_flag bitmap (flag_of (hash_of kind key) (depth_at (s.level main))) ≡ true →
        is_indirection (s.node (slice_index_or entries.items (position_of (flag_of (hash_of kind key) (depth_at (s.level main))) bitmap) no_ref)) ≡ true →
        s.path main ≡ path_to (hash_of kind key) (depth_at (s.level main)) →
        s.path (slice_index_or entries.items (position_of (flag_of (hash_of kind key) (depth_at (s.level main))) bitmap) no_ref) ≡ path_to (hash_of kind key) (suc (depth_at (s.level main)))
    leads_there key flag link led =
        let c = child_there key flag link in
        sym (leads_down T fits main _ key (sym led) c) ∙ ap (path_to (hash_of kind key)) c.deeper

    -- each indirection among the entries is one level deeper
    pub entry_deeper : (n : ℕ) → n < length entries.items → is_indirection (s.node (slice_index_or entries.items n no_ref)) ≡ true →
        depth_at (s.level (slice_index_or entries.items n no_ref)) ≡ suc (depth_at (s.level main))
    entry_deeper n lt link =
        let found = place_of b.places n no_ref (omega (arith, ap length b.has.stand)) in
        let entry = slice_index_or entries.items n no_ref in
        (b.children found.0 0 entry no_ref (found.1 ∙ ap (λ es. Some (slice_index_or es n no_ref)) (sym b.has.stand)) (bare_link_node s entry link)).deeper
