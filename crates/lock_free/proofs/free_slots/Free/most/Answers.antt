use Rattle.std.proofs.Common.{◌≤◌, ℕ, length, sym, subst}
use Rattle.std.proofs.Math.Nat.{max-le}
use Rattle.lock_free.specs.declared.rules.Pool.{Pool}
use Rattle.lock_free.specs.Rules.{pool_of}
use Rattle.lock_free.proofs.free_slots.Free.most.Goals as goal

pub returns-clause-least : goal.returns-clause-least
returns-clause-least c n all =
    let of = λ (class : ℕ). subst (λ (p : Pool). length (pool_of p class) ≤ n) (sym c.self.view_is) (all class) in
    let small = subst (λ k. k ≤ n) (sym c.len.ensures.value) (of 0) in
    let medium = subst (λ k. k ≤ n) (sym c.len-2.ensures.value) (of 1) in
    let wide = subst (λ k. k ≤ n) (sym c.len-3.ensures.value) (of 2) in
    subst (λ k. k ≤ n) (sym c.max-2.ensures) (max-le (subst (λ k. k ≤ n) (sym c.max.ensures) (max-le small medium)) wide)
