-- What changed maps have.
use Rattle.std.proofs.Common.{◌≡◌, ℕ, ◌==◌, cond, Some, None, nat_cmp, ap, ◌∙◌}
use Rattle.std.specs.Cmp.{nat_cmp_total, unsigned_tied}
use Rattle.std.specs.FinMap.{FinMap, get, insert, remove, get-insert, get-remove}

pub get-inserted : (m : FinMap nat_cmp ℕ) (k v q : ℕ) → get (insert m k v) q ≡ cond (q == k) (Some v) (get m q)
get-inserted m k v q = get-insert nat_cmp_total m k v q ∙ ap (λ b. cond b (Some v) (get m q)) (unsigned_tied q k)

pub get-removed : (m : FinMap nat_cmp ℕ) (k q : ℕ) → get (remove m k) q ≡ cond (q == k) None (get m q)
get-removed m k q = get-remove nat_cmp_total m k q ∙ ap (λ b. cond b None (get m q)) (unsigned_tied q k)
