-- What RENEW, CLEAN and CLIMB take over from a main node isn't private to their operation: others may hold references to it.
use Rattle.std.proofs.Common.{ℕ, Contains, subst}
use Rattle.machine_model.specs.Beneath.slot_arena.specs.declared.refs.Ref.{Ref}
use Rattle.machine_model.specs.Beneath.slot_arena.specs.Heaps.{entries_of, node_at}
use Rattle.machine_model.specs.declared.lines.Line.TheVariants as line
use Rattle.machine_model.specs.declared.repairs.CleanLine.{CleanLine}
use Rattle.machine_model.specs.declared.repairs.ClimbLine.{ClimbLine}
use Rattle.machine_model.specs.declared.repairs.RenewLine.{RenewLine}
use Rattle.machine_model.proofs.Fates.{place_of_actor}
use Rattle.proof_claims.specs.Beneath.proof_fresh.proofs.Lines.{main_of_renew}
use Rattle.proof_garbage.proofs.Swaps.{owns_along, LineOwns}
use Rattle.lock_free.specs.declared.rules.View.{View}
use Rattle.lock_free.specs.Accounts.{bounds_for}
use Rattle.lock_free.specs.Holding.{IsOn}
use Rattle.lock_free.specs.Loading.{now, IsSound}
use Rattle.lock_free.specs.Raising.{IsShared}
use Rattle.lock_free.proofs.ApartEntries.{renewed_entries_apart}
use Rattle.lock_free.proofs.Idle.{empty_has}
use Rattle.lock_free.proofs.OnLines.{line_is}
use Rattle.lock_free.proofs.OwesPrivate.{clean_none}

module _ (n : ℕ) (v : View) (sound : IsSound n v) where
  pub renew_shared : (l : RenewLine) → IsOn v (line.Renew l) → (k : Ref) → Contains (entries_of (node_at (now v).heap (main_of_renew l))) k → IsShared v k
  renew_shared l on k c operation runs =
      renewed_entries_apart (bounds_for v.sizes v.account.steps) sound.bounds v.account.steps v.actor operation runs l
      (line_is v (line.Renew l) on operation (operation.is_marked, runs)) k c

  -- nothing is
  pub clean_shared : (l : CleanLine) → IsOn v (line.Clean l) → (k : Ref) → IsShared v k
  clean_shared l on k operation runs c =
      let is = line_is v (line.Clean l) on operation (operation.is_marked, runs) in
      empty_has k (subst (λ ks. Contains ks k) (clean_none (bounds_for v.sizes v.account.steps) sound.bounds v.account.steps v.actor operation runs l is) c)

  pub climb_shared : (l : ClimbLine) → IsOn v (line.Climb l) → (k : Ref) → IsShared v k
  climb_shared l on k operation runs c =
      let is = line_is v (line.Climb l) on operation (operation.is_marked, runs) in
      let (place, own, at) = place_of_actor (now v) v.actor operation runs in
      empty_has k
      (subst (λ ks. Contains ks k) (subst (λ x. LineOwns x operation.private) is (owns_along (bounds_for v.sizes v.account.steps) v.account.steps place operation at)) c)
