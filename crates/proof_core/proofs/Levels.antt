-- Looking along a hash, level by level.
use Rattle.std.proofs.Common.{◌≡◌, ℕ, suc, ◌+◌, ◌-◌, ◌<◌, None, refl, sym, ap, ◌∙◌, arith}
use Rattle.proof_core.specs.Vocabulary.{Ref, Node, flag_of, look_in, value_by, find_at}
use Rattle.proof_core.specs.Beneath.proof_contents.specs.Nodes.Looking.{Found}

module _ (node : Ref → Node) (main : Ref → Ref) (hash : ℕ → ℕ) (key : ℕ) where
  -- what the main node at this depth says decides it
  by_main : (levels depth : ℕ) (at : Ref) (found : Found) → found ≡ look_in node (flag_of (hash key) depth) key (node (main at)) →
      find_at node main hash key (suc levels) depth at ≡ value_by (find_at node main hash key levels (suc depth)) found
  unfolding find_at
  by_main levels depth at found is = ap (value_by (find_at node main hash key levels (suc depth))) (sym is)

  pub decides : (most depth : ℕ) (at : Ref) (hashed flag : ℕ) (m : Ref) (found : Found) → depth < most → hashed ≡ hash key → flag ≡ flag_of hashed depth → m ≡ main at →
      found ≡ look_in node flag key (node m) → find_at node main hash key (most - depth) depth at ≡ value_by (find_at node main hash key (most - (depth + 1)) (depth + 1)) found
  decides most depth at hashed flag m found within its_hash its_flag its_main is =
      let more : most - depth ≡ suc (most - (depth + 1)) = omega (arith, within) in
      let deeper : suc depth ≡ depth + 1 = omega arith in
      let said : found ≡ look_in node (flag_of (hash key) depth) key (node (main at)) =
      is ∙ ap (λ f. look_in node f key (node m)) (its_flag ∙ ap (λ h. flag_of h depth) its_hash) ∙ ap (λ r. look_in node (flag_of (hash key) depth) key (node r)) its_main in
      ap (λ n. find_at node main hash key n depth at) more ∙ by_main (most - (depth + 1)) depth at found said
      ∙ ap (λ d. value_by (find_at node main hash key (most - (depth + 1)) d) found) deeper

  -- below all levels nothing is found
  pub nothing_left : (most depth : ℕ) (at : Ref) → most < depth + 1 → find_at node main hash key (most - depth) depth at ≡ None
  unfolding find_at
  nothing_left most depth at past = let none : most - depth ≡ 0 = omega (arith, past) in rw none refl
