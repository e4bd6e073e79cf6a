-- A fresh pass comes to the end of the key's path.
use Rattle.std.proofs.Common.{◌≡◌, ℕ, zero, suc, ◌+◌, ◌-◌, ◌*◌, ◌≤◌, ◌⊎◌, inl, inr, List, [], ◌∷◌, ◌++◌, length, Some, arith}
use Rattle.std.proofs.Math.Nat.{suc-mul}
use Rattle.std.proofs.lemmas.List.{length-append}
use Rattle.proof_obstruction_free.specs.Vocabulary.{Ref, current, reading}
use Rattle.proof_obstruction_free.specs.Beneath.machine_model.specs.declared.finding.KeyLine.TheVariants as key
use Rattle.proof_obstruction_free.specs.Beneath.machine_model.specs.declared.lines.Line.TheVariants as line
use Rattle.proof_obstruction_free.specs.Alone.{IsCurrent, Lone, Stands, Within}
use Rattle.proof_obstruction_free.specs.Keys.{Chain, GoesDown, IsBottom, IsDown, PassEnds}
use Rattle.proof_obstruction_free.proofs.Climb.On.{short_way}
use Rattle.proof_obstruction_free.proofs.Pass.Lines.{down_reads}
use Rattle.proof_obstruction_free.proofs.Step.Within.{bind, here, weaken}

module _ (a : Lone) (weight : ℕ → ℕ) (c : ℕ) (goes_down : GoesDown a weight c) where
  abbrev W : (ℕ → Type 0) → ℕ → ℕ → Type 0
  W = Within a weight

  abbrev Ends : Ref → ℕ → ℕ → Type 0
  Ends r g u = (to : List Ref) × IsBottom a weight c r g to u

  abbrev most : ℕ
  most = 34 * (c + 2) + 10

  -- from a path with so many levels left
  abbrev From : ℕ → ℕ → Ref → ℕ → Type 0
  From n m r g =
      (path : List Ref) (t : ℕ) → length path + n ≡ 15 → Stands a t (Some g) (line.Key (key.Read path (reading (current path)))) → IsCurrent a t r (Some g) → Chain a t r g path → W (Ends r g) m t

  costs : (x y z : ℕ) → x ≡ y + z → z + y ≤ x
  costs x y z e = omega (arith, e)

  -- after a level
  on : (n : ℕ) (path : List Ref) (r : Ref) (u g : ℕ) → length path + suc n ≡ 15 → From n (n * most) r g → IsDown a weight c r g path u ⊎ IsBottom a weight c r g path u → W (Ends r g) (n * most) u
  on n path r u g e further (inl down) =
      let len = length-append path (down.below ∷ []) in
      further (path ++ down.below ∷ []) u (omega (arith, len, e)) (down_reads a u (Some g) path down.below down.stands) down.current_root down.chain
  on n path r u g e further (inr bottom) = weaken a weight (Ends r g) 0 (n * most) u (omega arith) (here a weight (Ends r g) u (path, bottom))

  pass_from : (n : ℕ) (r : Ref) (g : ℕ) → From n (n * most) r g
  pass_from zero r g path t e s x chain = let short = short_way a t (Some g) (line.Key (key.Read path (reading (current path)))) s in absurd (omega (arith, e, short))
  pass_from (suc n) r g path t e s x chain =
      weaken a weight (Ends r g) (most + n * most) (suc n * most) t (costs (suc n * most) (n * most) most (suc-mul n most))
      (bind a weight (λ u. IsDown a weight c r g path u ⊎ IsBottom a weight c r g path u) (Ends r g) most (n * most) t (goes_down path r t g s x chain)
      (λ u after in_time found. on n path r u g e (pass_from n r g) found))

  pub pass_ends : PassEnds a weight c
  pass_ends path r t g s x chain =
      let short = short_way a t (Some g) (line.Key (key.Read path (reading (current path)))) s in pass_from (15 - length path) r g path t (omega (arith, short)) s x chain
