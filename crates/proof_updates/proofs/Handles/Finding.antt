-- How keys are found by other main nodes and nodes that say the same.
use Rattle.std.proofs.Common.{◌≡◌, ℕ, zero, suc, cond, slice_index_or, refl, ap, ◌∙◌}
use Rattle.proof_updates.specs.Vocabulary.{position_of, Ref, Node, Indirection, Branch, Single, Tomb, List as Listed, no_ref, flag_of, has_flag, Absent, look_in, value_by, find_at, value_in, bare}
use Rattle.proof_updates.specs.Beneath.proof_contents.proofs.Values.Found.{value_by-same}
use Rattle.proof_shape.proofs.Shaped.Changed.{bare_look, bare_among}

module _ (node : Ref → Node) (hash : ℕ → ℕ) (key : ℕ) where
  -- main nodes that are the same find the same
  pub found_alike : (A B : Ref → Ref) → ((i : Ref) → A i ≡ B i) → (levels depth : ℕ) (i : Ref) → find_at node A hash key levels depth i ≡ find_at node B hash key levels depth i
  unfolding find_at
  found_alike A B same zero depth i = refl
  found_alike A B same (suc levels) depth i =
      ap (λ m. value_in node A hash key levels depth (node m)) (same i)
      ∙ value_by-same (find_at node A hash key levels (suc depth)) (find_at node B hash key levels (suc depth)) (look_in node (flag_of (hash key) depth) key (node (B i)))
      (λ j e. found_alike A B same levels (suc depth) j)

  -- nodes without generations and words find the same
  pub bare_says : (flag : ℕ) (n : Node) → look_in (λ r. bare (node r)) flag key (bare n) ≡ look_in node flag key n
  bare_says flag (Branch bitmap entries) =
      ap (λ f. cond (has_flag bitmap flag) f Absent)
      (bare_look key (slice_index_or entries.items (position_of flag bitmap) no_ref) (node (slice_index_or entries.items (position_of flag bitmap) no_ref)))
  bare_says flag (Tomb single) = bare_look key single (node single)
  bare_says flag (Listed singles) = bare_among node key singles.items
  bare_says flag (Indirection generation word) = refl
  bare_says flag (Single k v) = refl

  pub bare_found : (A : Ref → Ref) (levels depth : ℕ) (i : Ref) → find_at (λ r. bare (node r)) A hash key levels depth i ≡ find_at node A hash key levels depth i
  unfolding find_at
  bare_found A zero depth i = refl
  bare_found A (suc levels) depth i =
      ap (value_by (find_at (λ r. bare (node r)) A hash key levels (suc depth))) (bare_says (flag_of (hash key) depth) (node (A i)))
      ∙ value_by-same (find_at (λ r. bare (node r)) A hash key levels (suc depth)) (find_at node A hash key levels (suc depth)) (look_in node (flag_of (hash key) depth) key (node (A i)))
      (λ j e. bare_found A levels (suc depth) j)
