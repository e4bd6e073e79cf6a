-- Two singles whose paths part below the place where one of them stood: a chain of branches of one entry each leads down to
-- their main node.
use Rattle.std.specs.Prelude.{◌≡◌, ◌≢◌, ℕ, suc, ◌⊎◌}
use Rattle.proof_contents.specs.Vocabulary.{HashKind, hash_of, Ref, Node, Indirection, list_depth, index_in, pair, rung}

-- the keys part at this depth, or it is that of lists
abbrev pub Parts : HashKind → ℕ → ℕ → ℕ → Type 0
Parts kind former key depth = (depth ≡ list_depth kind) ⊎ (index_in (hash_of kind former) depth ≢ index_in (hash_of kind key) depth)

-- within so many levels the indirection of this depth leads to the main node of the two singles, of these keys
pub data LeadsToPair (node : Ref → Node) (main : Ref → Ref) (kind : HashKind) (former key : ℕ) (old single : Ref) : ℕ → ℕ → Ref → Type 0 where
  at_pair : (levels depth : ℕ) (indirection : Ref) → node (main indirection) ≡ pair kind depth (hash_of kind former) (hash_of kind key) old single →
      Parts kind former key depth → LeadsToPair node main kind former key old single (suc levels) depth indirection
  by_rung : (levels depth : ℕ) (indirection below word : Ref) (generation : ℕ) → node (main indirection) ≡ rung (hash_of kind key) depth below →
      node below ≡ Indirection generation word → index_in (hash_of kind former) depth ≡ index_in (hash_of kind key) depth →
      LeadsToPair node main kind former key old single levels (suc depth) below → LeadsToPair node main kind former key old single (suc levels) depth indirection
