-- What is found along a key's hash is what all pairs that are reached have of it.
use Rattle.std.proofs.Common.{suc, sym, ◌∙◌, arith}
use Rattle.std.specs.Cmp.{nat_cmp_total}
use Rattle.std.specs.FinMap as map
use Rattle.std.specs.FinMap.{get-from_entries}
use Rattle.proof_shape.specs.Vocabulary.{Ref, Node, IsShaped, Trie, branch, list, tomb}
use Rattle.proof_shape.specs.Beneath.proof_contents.specs.Pairs.{pairs_from}
use Rattle.proof_shape.specs.Beneath.proof_contents.specs.Steps.{IsTrie}
use Rattle.proof_shape.specs.Beneath.proof_contents.proofs.Pairs.Lists.{Pairs, entries_are}
use Rattle.proof_shape.specs.Beneath.proof_contents.proofs.Pairs.Shown.{Shows, shows}
use Rattle.proof_shape.specs.Beneath.proof_contents.proofs.Values.Found.{found_below}
use Rattle.proof_shape.specs.Agreeing.{ContentsAgree}
use Rattle.proof_shape.specs.Shaped.{HasShape}

-- the trie as it is in the end, with no steps
abbrev in_the_end : Trie → Trie
in_the_end trie = record trie { last = 0; main = λ t. trie.main trie.last }

same_shape : (trie : Trie) (i : Ref) (n : Node) → IsShaped trie i n → IsShaped (in_the_end trie) i n
same_shape trie i n (branch bitmap entries places is has shallow in_place leads children) =
    branch bitmap entries places is has shallow in_place leads
    (λ x g child word at below. let c = children x g child word at below in record { deeper = c.deeper; led = c.led; older = c.older })
same_shape trie i n (list singles is are few deep one_hash) = list singles is are few deep one_hash
same_shape trie i n (tomb single key value is own led) = tomb single key value is own led

is_trie : (trie : Trie) → HasShape trie → IsTrie (in_the_end trie)
is_trie trie shape = record {
  has_key = shape.has_key;
  root_depth = shape.root_depth;
  root_path = shape.root_path;
  path_fits = shape.path_fits;
  shaped = λ t i within. same_shape trie i _ (shape.shaped trie.last i (omega arith));
  does = λ t lt. absurd (omega (arith, lt));
}

pub contents_agree : ContentsAgree
contents_agree trie levels g i word shape is sum deep = (
  λ key. sym (found_below now now_main key levels (trie.depth i) i) ∙ sym (its.found key) ∙ sym (get-from_entries nat_cmp_total pairs key),
  sym (entries_are (map.from_entries pairs) pairs its.apart (λ key. sym (get-from_entries nat_cmp_total pairs key))),
)
  where
    now : Trie
    now = in_the_end trie

    now_main : Ref → Ref
    now_main = trie.main trie.last

    pairs : Pairs
    pairs = pairs_from trie.node (trie.main trie.last) (suc levels) i

    its : Shows now (is_trie trie shape) (suc levels) i pairs
    its = shows now (is_trie trie shape) (suc levels) i g word sum deep is
