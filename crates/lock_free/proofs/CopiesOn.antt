-- A copy from where the COMPLETE of its own offer is under way.
use Rattle.std.proofs.Common.{ℕ, Bool, Option, refl, sym, subst}
use Rattle.machine_model.specs.declared.operations.Operation.{Operation}
use Rattle.machine_model.specs.declared.reading.After.TheVariants.{Goes}
use Rattle.lock_free.specs.declared.copy_roots.CopyKind.{CopyKind}
use Rattle.lock_free.specs.declared.leaving.Completing.{Completing}
use Rattle.lock_free.specs.declared.leaving.Left.TheVariants as left
use Rattle.lock_free.specs.declared.rules.View.{View}
use Rattle.lock_free.specs.CopySteps.{as_before, copied_line, HasCopied, HasCopiedOn, HasLeftCopy, IsOwnCompleting, is_snapshot}
use Rattle.lock_free.specs.Loading.{IsSound, Runs}
use Rattle.lock_free.specs.OfReads.{read_to}
use Rattle.lock_free.proofs.RunningOn.{still_later}
use Rattle.lock_free.specs.OwnOffers.{IsOwnCopy}
use Rattle.lock_free.proofs.MovedOn.{copy_stays}

-- ---- from its own offer on

module _ (n : ℕ) (u : View) (sound : IsSound n u) (k : CopyKind) (handle : ℕ) (opens : Option ℕ) (s : Completing) (to : IsOwnCompleting u handle s)
    (own : IsOwnCopy u handle s.offer opens (is_snapshot k)) (v : View) where
  abbrev o : Operation
  o = to.at.0

  -- its READ is out of tries
  module _ (next : Completing) (h : HasCopiedOn u handle s.offer next v) where
    pub left_on : HasLeftCopy u k handle opens (left.Completing next) v
    left_on = record {
      on = record { still = still_later u v h.come.later; runs = λ q r. (read_to (Goes h.reads) q, h.come.comes q r, refl) };
      is = h.is;
      own = subst (λ n. IsOwnCopy v handle n opens (is_snapshot k)) (sym h.same) (copy_stays u v h.come.later handle s.offer opens (is_snapshot k) own);
    }

  -- its offer is settled
  module _ (carried : Bool) (h : HasCopied u carried v) where
    pub settled_copy : IsOwnCopy v handle s.offer opens (is_snapshot k)
    settled_copy =
        let c = copy_stays u (as_before u v) h.moved.later handle s.offer opens (is_snapshot k) own in
        record { its = c.its; own = c.own; its_opens = c.its_opens; small = c.small; low = c.low; second = c.second }

    -- its operation runs on
    pub settled_runs : (operation : Operation) × Runs v operation
    settled_runs = (record o { line = copied_line carried o }, h.moved.comes o to.at.1)
