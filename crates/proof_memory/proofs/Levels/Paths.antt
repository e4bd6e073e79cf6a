-- The levels of paths: each indirection of one is a level below the one before.
use Rattle.std.proofs.Common.{◌≡◌, ℕ, ◌+◌, ◌-◌, ◌<◌, true, nat_lt, List, [], ◌∷◌, ◌++◌, length, get_or, sym, ap, ◌∙◌, inl, inr, ltb-true, arith}
use Rattle.std.proofs.lemmas.Bool.{cases_lt, false≢true}
use Rattle.std.proofs.lemmas.List.{get_or-take, get_or_append_left, get_or_push, length-take-le, length-append}
use Rattle.proof_memory.specs.Vocabulary.{Ref, no_ref, current, above, depth_of, Node, Single}
use Rattle.proof_memory.specs.Levels.{PathLevel, NodeLevel}
use Rattle.proof_memory.specs.Wants.{meets, ASingle}

module _ (lv : Ref → ℕ) where
  pub current_level : (path : List Ref) → PathLevel lv path → nat_lt 0 (length path) ≡ true → lv (current path) ≡ depth_of path + 1
  current_level path p long = let some : 0 < length path = ltb-true 0 (length path) long in p (length path - 1) no_ref (omega arith)

  pub above_level : (path : List Ref) → PathLevel lv path → PathLevel lv (above path)
  above_level path p k d within =
      let below : k < length path - 1 = omega (arith, length-take-le (length path - 1) path (omega arith)) in
      ap lv (get_or-take (length path - 1) path k d below) ∙ p k d (omega arith)

  pub pushed_level : (path : List Ref) (below : Ref) → PathLevel lv path → lv below ≡ length path + 1 → PathLevel lv (path ++ below ∷ [])
  pushed_level path below p e k d within = elim (cases_lt k (length path)) [
    | inl inside ↦ ap lv (get_or_append_left path (below ∷ []) d k inside) ∙ p k d inside
    | inr past ↦ at_end (omega (arith, length-append path (below ∷ [])))
  ]
    where
      at_end : k ≡ length path → lv (get_or (path ++ below ∷ []) k d) ≡ k + 1
      at_end is = ap lv (get_or_push path below d k (sym is)) ∙ e ∙ ap (λ n. n + 1) (sym is)

-- a single's level is 0
pub single_level_by : (lv : Ref → ℕ) (r : Ref) (node : Node) → meets ASingle node ≡ true → NodeLevel lv r node → lv r ≡ 0
single_level_by lv r (Single k v) e n = n.1
single_level_by lv r node e n = absurd (false≢true e)
