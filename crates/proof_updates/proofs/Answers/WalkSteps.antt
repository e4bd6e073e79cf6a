-- A walk takes all pairs of its root's content as it is in the end.
use Rattle.std.proofs.Common.{◌≡◌, ℕ, true, true≢false, List, [], ◌∷◌, ◌++◌, flat_map, sym, ap, ◌∙◌, arith}
use Rattle.proof_updates.specs.Vocabulary.{ReadOnly, Call, Entries, Count, Ref, Indirection, entries_of, WalkLine, needs_read_only, walked_reply, Trie, IsShaped, branch, list, tomb, node_in}
use Rattle.proof_updates.specs.Beneath.machine_model.specs.declared.walking.WalkLine.TheVariants as walk
use Rattle.proof_updates.specs.Beneath.proof_contents.specs.Tries.{most_levels}
use Rattle.proof_updates.specs.Beneath.proof_contents.specs.Steps.{IsTrie}
use Rattle.proof_updates.specs.Beneath.proof_contents.specs.Pairs.{pairs_from}
use Rattle.proof_updates.specs.Beneath.proof_contents.proofs.Pairs.Lists.{Pairs}
use Rattle.proof_updates.specs.Beneath.proof_contents.proofs.Shapes.Nodes.{list_depth-le}
use Rattle.proof_updates.specs.Beneath.proof_contents.proofs.Pairs.Shown.{reach-single, reach-below}
use Rattle.proof_updates.specs.Beneath.proof_contents.proofs.Pairs.Walks.{walk_below, entries_reply_right, count_reply_right}
use Rattle.proof_updates.proofs.Answers.Key.{AnswersSo}

-- the pairs below an entry, in the end
abbrev pub below : Trie → Ref → Pairs
below trie r = pairs_from trie.node (λ i. trie.main trie.last i) most_levels r

module _ (trie : Trie) (ok : IsTrie trie) where
  -- below an indirection are those below the entries of its last main node
  pub below_main : (g : ℕ) (i word main : Ref) → trie.node i ≡ Indirection g word → trie.main trie.last i ≡ main → below trie i ≡ flat_map (below trie) (entries_of (trie.node main))
  below_main g i word main is final = by_shape (ok.shaped trie.last i (omega arith)) ∙ ap (λ m. flat_map (below trie) (entries_of (trie.node m))) final
    where
      by_shape : IsShaped trie i (node_in trie trie.last i) → below trie i ≡ flat_map (below trie) (entries_of (node_in trie trie.last i))
      by_shape (branch bitmap entries places n has shallow in_place led children) = walk_below trie ok g i word is (omega (arith, shallow, list_depth-le trie.kind))
      by_shape (list singles n are most deep one_hash) = walk_below trie ok g i word is (omega (arith, deep, list_depth-le trie.kind))
      by_shape (tomb single key value n own led) =
          reach-below trie ok 14 g i word is
          ∙ ap (λ m. flat_map (pairs_from trie.node (λ j. trie.main trie.last j) 14) (entries_of m)) n
          ∙ ap (λ ps. ps ++ []) (reach-single trie ok 13 key value single own ∙ sym (reach-single trie ok 14 key value single own))
          ∙ sym (ap (λ m. flat_map (below trie) (entries_of m)) n)

  -- who took all of them answers rightly
  pub walked_right : (g h mu : ℕ) (word : Ref) → trie.node (trie.root g) ≡ Indirection h word → (call : Call) → needs_read_only call ≡ true → (taken : Pairs) → taken ≡ below trie (trie.root g) →
      AnswersSo trie ReadOnly g mu call (walked_reply call taken)
  walked_right g h mu word is (Entries handle) e taken whole = entries_reply_right trie ok g h word is taken whole handle
  walked_right g h mu word is (Count handle) e taken whole = count_reply_right trie ok g h word is taken whole handle
  walked_right g h mu word is call e taken whole = absurd (true≢false (sym e))

-- ---- what a line knows of its walk

abbrev pub KnowsWalk : Trie → Pairs → WalkLine → Type 0
KnowsWalk trie all walk.Root = Unit {0}
KnowsWalk trie all (walk.Read r todo taken) = taken ++ (below trie r.indirection ++ flat_map (below trie) todo) ≡ all
KnowsWalk trie all (walk.Main main todo taken) = taken ++ (flat_map (below trie) (entries_of (trie.node main)) ++ flat_map (below trie) todo) ≡ all
KnowsWalk trie all (walk.Entry todo taken) = (entry : Ref) × (rest : List Ref) × (todo ≡ entry ∷ rest) × (taken ++ flat_map (below trie) todo ≡ all)
