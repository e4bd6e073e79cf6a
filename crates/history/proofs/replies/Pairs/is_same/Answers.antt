use Rattle.std.proofs.Common.{ℕ, List, Bool, Decides, ◌≡◌, ◌==◌, ◌&&◌, ap, eqb-true, eq-eqb}
use Rattle.std.specs.Cmp.Lexicographic.{pointwise}
use Rattle.std.proofs.lemmas.Bool.{and_parts, and_from}
use Rattle.std.proofs.lemmas.Slice.Eq.{slice_eq-Decides}
use Rattle.history.proofs.replies.Pairs.is_same.Goals as goal

-- `==` on pairs of numbers decides whether they are equal
pair_decides : (x y : ℕ × ℕ) → Decides ((x.0 == y.0) && (x.1 == y.1)) (x ≡ y)
pair_decides x y = (
  λ e. let both = and_parts (x.0 == y.0) (x.1 == y.1) e in λ i. (eqb-true x.0 y.0 both.0 i, eqb-true x.1 y.1 both.1 i),
  λ e. and_from _ _ (eq-eqb x.0 y.0 (ap (λ (p : ℕ × ℕ). p.0) e)) (eq-eqb x.1 y.1 (ap (λ (p : ℕ × ℕ). p.1) e)),
)

pairs_decide : (xs ys : List (ℕ × ℕ)) (r : Bool) → r ≡ pointwise (λ (x : ℕ × ℕ) (y : ℕ × ℕ). (x.0 == y.0) && (x.1 == y.1)) xs ys → Decides r (xs ≡ ys)
pairs_decide = slice_eq-Decides pair_decides

pub returns : goal.returns
returns c = rw (← c.self.view_is, ← c.other.view_is) (pairs_decide _ _ _ c.eq.ensures)
