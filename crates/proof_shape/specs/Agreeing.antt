-- That the two ways to read a trie agree: looking along a key's hash, and going through all that is reached.
use Rattle.std.specs.Prelude.{◌≡◌, ℕ, suc, ◌+◌, ◌≤◌, List, Some}
use Rattle.std.specs.Ordering.{nat_cmp}
use Rattle.std.specs.FinMap as map
use Rattle.proof_shape.specs.Vocabulary.{hash_of, KeyMap, Ref, Indirection, logical_main, node_at, Root, Bounds, Step, content_at, most_levels, KeysFit, AreBounds, run, by_key, root_at, root_of}
use Rattle.proof_shape.specs.Vocabulary.{HoldsAt, find_at, Trie, node_in}
use Rattle.proof_shape.specs.Beneath.proof_contents.specs.Pairs.{pairs_from}
use Rattle.proof_shape.specs.Shaped.{HasShape}

-- Wherever nodes stand at their places: the content of an indirection's main node, of which the laws of the builders speak, is the map of all pairs that
-- are reached below it; sorted by key, these are the map's entries, so no key stands twice.
abbrev pub ContentsAgree : Type 0
ContentsAgree =
    (trie : Trie) (levels g : ℕ) (i word : Ref) → HasShape trie → trie.node i ≡ Indirection g word → suc levels + trie.depth i ≡ most_levels → trie.depth i ≤ 13 →
    let pairs = pairs_from trie.node (trie.main trie.last) (suc levels) i in
    let content : KeyMap = map.from_entries pairs in
    HoldsAt (record { kind = trie.kind; node = trie.node; main = trie.main trie.last; depth = trie.depth i; levels = levels }) (node_in trie trie.last i) content
    × (map.entries content ≡ by_key pairs)

-- In each state that is reached, the value of a key in a handle's content is what is found along its hash from the handle's root, through the logical main
-- nodes.
abbrev pub LookingFinds : Type 0
LookingFinds =
    (limits : Bounds) (steps : List Step) (handle : ℕ) (root : Root) (key : ℕ) → AreBounds limits → KeysFit steps → root_at (run limits steps) handle ≡ Some root →
    let heap = (run limits steps).heap in
    map.find nat_cmp key (content_at (run limits steps) handle) ≡ find_at (node_at heap) (logical_main heap) (hash_of limits.hash) key most_levels 0 (root_of root.word)
