-- What new entries have to be like for a main node to keep its shape.
use Rattle.std.specs.Prelude.{◌≡◌, ℕ, ◌*◌, ◌%◌, ◌^◌, ◌≤◌}
use Rattle.proof_contents.specs.Vocabulary.{hash_of, Ref, Indirection, Single}
use Rattle.proof_contents.specs.Tries.{Trie, generation}

-- the path of an indirection leads to a key's hash
abbrev pub LeadsTo : Trie → Ref → ℕ → Type 0
LeadsTo trie i key = hash_of trie.kind key % 2 ^ (5 * trie.depth i) ≡ trie.path i

-- one indirection stands where the other does, and isn't older
pub record StandsFor (trie : Trie) (i j : Ref) : Type 0 where
  pub deep : trie.depth j ≡ trie.depth i
  pub led : trie.path j ≡ trie.path i
  pub newer : generation trie i ≤ generation trie j

-- An entry of an indirection's branch is kept; or it is an indirection, and one that stands for it takes its place, or a single
-- to which its path leads.
pub data Fits (trie : Trie) (i entry other : Ref) : Type 0 where
  unchanged : entry ≡ other → Fits trie i entry other
  stands_for : (g h : ℕ) (word word' : Ref) → trie.node entry ≡ Indirection g word → trie.node other ≡ Indirection h word' → StandsFor trie entry other →
      generation trie other ≤ generation trie i → Fits trie i entry other
  becomes_single : (g key value : ℕ) (word : Ref) → trie.node entry ≡ Indirection g word → trie.node other ≡ Single key value → LeadsTo trie entry key → Fits trie i entry other
