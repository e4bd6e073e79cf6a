-- A seat without slots.
use Rattle.std.proofs.Common.{◌<◌, ℕ, zero, suc, [], Contains, arith}
use Rattle.lock_free.specs.declared.accounts.Account.{Account}
use Rattle.lock_free.specs.declared.sizes.Sizes.{Sizes}
use Rattle.lock_free.specs.FirstViews.{idle_view}
use Rattle.lock_free.specs.Rules.{IsFree, Once, pool_of}

pub empty_has : {X : Type 0} (x : X) → Contains [] x → ⊥
empty_has x c = omega (arith, c.1)

module _ (sizes : Sizes) (actor last : ℕ) (account : Account) where
  pub none_free : (class name : ℕ) → IsFree (idle_view sizes actor last account) class name → ⊥
  none_free zero name free = empty_has name free.1
  none_free (suc zero) name free = empty_has name free.1
  none_free (suc (suc zero)) name free = empty_has name free.1
  none_free (suc (suc (suc class))) name free = omega (arith, free.0)

  pub none_twice : (class : ℕ) → class < 3 → Once (pool_of (idle_view sizes actor last account).pool class)
  none_twice zero small = tt
  none_twice (suc zero) small = tt
  none_twice (suc (suc zero)) small = tt
  none_twice (suc (suc (suc class))) small = absurd (omega (arith, small))
