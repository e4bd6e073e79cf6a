-- A branch has a single at one place alone: that of its key.
use Rattle.std.proofs.Common.{◌≡◌, ℕ, ◌<◌, ◌≤◌, true, length, get_or, Option, Some, None, is_some, refl, sym, ap, ◌∙◌, subst, arith}
use Rattle.std.proofs.lemmas.Bool.{true≢false}
use Rattle.arrayvec.specs.ArrayVec.{ArrayVec}
use Rattle.proof_shape.specs.Vocabulary.{Ref, Node, Indirection, Branch, Single, Slot, Bounds, Step, State, node_under, grown, IsRun, entries_of, no_ref}
use Rattle.proof_owned.specs.Beneath.proof_memory.specs.Wants.{AMain, meets}
use Rattle.proof_owned.specs.Beneath.proof_contents.specs.Runs.{is_made}
use Rattle.proof_owned.specs.Beneath.proof_contents.proofs.Nodes.Tombs.{place_of}
use Rattle.proof_owned.specs.Beneath.proof_contents.proofs.Shapes.Nodes.{branch_shape}
use Rattle.proof_owned.specs.Beneath.proof_generations.proofs.Falling.Nodes.{made_same}
use Rattle.proof_owned.specs.Beneath.proof_memory.specs.Laws.{SameNode}
use Rattle.proof_owned.specs.Beneath.proof_contents.specs.Tries.{Trie, IsShaped}
use Rattle.proof_owned.specs.Beneath.proof_contents.proofs.Shapes.Nodes.{IsBranch}
use Rattle.proof_shape.specs.Vocabulary.{hash_of, index_in}
use Rattle.proof_shape.specs.Sites.At.{TakesSteps, StepsFit}
use Rattle.proof_shape.specs.Sites.Lines.{sites_of, bare, trie_at}
use Rattle.proof_owned.specs.Beneath.proof_contents.specs.Nodes.Branches.{standing}
use Rattle.proof_owned.specs.Beneath.proof_contents.proofs.Nodes.Branches.{before}
use Rattle.proof_shape.proofs.Sites.Grown.{made_shaped}
use Rattle.proof_owned.proofs.Earlier.{IsSingle}
use Rattle.proof_owned.proofs.SinglesCalm.{IsOnce}
use Rattle.proof_owned.proofs.SinglesNew.{entry_in}

module _ {limits : Bounds} {states : ℕ → State} (steps : ℕ → Step) {last : ℕ} (run : IsRun limits states last) (takes : TakesSteps states steps last) (keys : StepsFit steps last) where
  abbrev T : Trie
  T = trie_at limits.hash (sites_of states steps last)

  shaped : (t : ℕ) → t ≤ last → (m : Ref) → is_made states t m ≡ true → (bitmap : ℕ) (entries : ArrayVec Ref) → node_under states last m ≡ Branch bitmap entries →
      IsShaped T m (Branch bitmap entries)
  shaped t within m made bitmap entries is = by (grown states t m) refl made
    where
      main_then : (slot : Slot) → SameNode slot.node (node_under states last m) → meets AMain slot.node ≡ true
      main_then slot same = by slot.node same
        where
          by : (n : Node) → SameNode n (node_under states last m) → meets AMain n ≡ true
          by (Indirection g x) (y, e) = let wrong : Indirection g y ≡ Branch bitmap entries = sym e ∙ is in let bad : ⊥ = cc wrong in absurd bad
          by (Single k v) (y, e) = let wrong : Single k v ≡ Branch bitmap entries = sym e ∙ is in let bad : ⊥ = cc wrong in absurd bad
          by n same = refl

      by : (o : Option Slot) → grown states t m ≡ o → is_some o ≡ true → IsShaped T m (Branch bitmap entries)
      by None e some = absurd (true≢false (sym some))
      by (Some slot) e some = subst (IsShaped T m) is (made_shaped steps run takes keys t within m (slot, e, main_then slot (made_same run t within m slot e)))

  pub once_there : (t : ℕ) → t ≤ last → (m s : Ref) → is_made states t m ≡ true → IsSingle run s → (bitmap : ℕ) (entries : ArrayVec Ref) → node_under states last m ≡ Branch bitmap entries →
      IsOnce run m s
  once_there t within m s made (key, value, single) bitmap entries is p q p_lt q_lt p_is q_is = both (at_place p p_lt p_is) (at_place q q_lt q_is)
    where
      shape : IsBranch T m bitmap entries
      shape = branch_shape T m (Branch bitmap entries) bitmap entries (shaped t within m made bitmap entries is) refl

      at_place : (n : ℕ) → n < length (entries_of (node_under states last m)) → entry_in run m n ≡ s → n ≡ before shape.places (index_in (hash_of limits.hash key) (T.depth m))
      at_place n lt e =
          let standing_there = ap entries_of is ∙ shape.has.stand in
          let found = place_of shape.places n no_ref (omega (arith, lt, ap length standing_there)) in
          let is_s : get_or (standing shape.places) n no_ref ≡ s = sym (ap (λ es. get_or es n no_ref) standing_there) ∙ e in
          sym found.2 ∙ ap (before shape.places) (sym (shape.in_place found.0 key value s (found.1 ∙ ap (λ r. Some r) is_s) (ap bare single)))

      both : p ≡ before shape.places (index_in (hash_of limits.hash key) (T.depth m)) → q ≡ before shape.places (index_in (hash_of limits.hash key) (T.depth m)) → p ≡ q
      both a b = a ∙ sym b
