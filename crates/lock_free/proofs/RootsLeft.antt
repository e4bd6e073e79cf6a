-- A ROOT within a number of tries.
use Rattle.std.proofs.Common.{◌≡◌, ℕ, Some, refl, sym, ap, ◌∙◌}
use Rattle.machine_model.specs.declared.operations.Operation.{Operation}
use Rattle.machine_model.specs.declared.reading.After.TheVariants.{Goes}
use Rattle.machine_model.specs.declared.reading.ReadLine.{ReadLine}
use Rattle.machine_model.specs.declared.reading.ReadLine.TheVariants as read
use Rattle.machine_model.specs.declared.roots.CompleteLine.TheVariants as complete
use Rattle.machine_model.specs.declared.roots.RootLine.TheVariants as root
use Rattle.machine_model.specs.GivingUp.{given_up}
use Rattle.lock_free.specs.declared.leaving.Completing.{Completing}
use Rattle.lock_free.specs.declared.leaving.Left.{Left}
use Rattle.lock_free.specs.declared.leaving.Left.TheVariants as left
use Rattle.lock_free.specs.declared.reading.Way.{Way}
use Rattle.lock_free.specs.declared.rules.View.{View}
use Rattle.lock_free.specs.Entries.{HasStayed}
use Rattle.lock_free.specs.HandleWords.{HasOffer}
use Rattle.lock_free.specs.Leaving.{HasCompletedOn, HasLeftOff}
use Rattle.lock_free.specs.Loading.{IsSound, Runs}
use Rattle.lock_free.specs.OfReads.{on_read, read_to}
use Rattle.lock_free.specs.Passing.{IsOnWay}
use Rattle.lock_free.specs.Rooting.{IsAtRoot, rooting_of}
use Rattle.lock_free.specs.RootWords.{HasFoundOffer}
use Rattle.lock_free.proofs.Comings.{runs_one}
use Rattle.lock_free.proofs.CompleteLines.{completing_reads}
use Rattle.lock_free.proofs.Laters.{later_both}
use Rattle.lock_free.proofs.Leavings.{read_gives_up}
use Rattle.lock_free.proofs.Rootings.{goes, later, on_line}
use Rattle.lock_free.proofs.RootLines.{rooting_completes, rooting_gives_up, rooting_there}

-- it may give up as it might where it began to look
pub stayed_left : (u v : View) → IsAtRoot u → HasStayed u v → HasLeftOff u left.MayGiveUp v
stayed_left u v (p, r, is) stayed = record {
  is = refl;
  next = λ o. o.line;
  moved = record { later = stayed.later; comes = stayed.comes };
  leaves = λ answers may o s.
      (let same = runs_one v o p s (stayed.comes p r) in
      ap (λ (z : Operation). given_up z.call z.line) same ∙ may p r ∙ ap (λ (z : Operation). Some (answers z.call)) (sym same));
}

pub left_after : (u v w : View) (result : Left) → IsAtRoot u → HasStayed u v → HasLeftOff v result w → HasLeftOff u result w
left_after u v w result at stayed h = record {
  is = h.is;
  next = h.next;
  moved = record { later = later_both u v w stayed.later h.moved.later; comes = λ o r. h.moved.comes o (stayed.comes o r) };
  leaves = λ answers may. h.leaves answers ((stayed_left u v at stayed).leaves answers may);
}

-- a COMPLETE of another one's offer is out of tries
module _ (n : ℕ) (v : View) (sound : IsSound n v) (way : Way) (at : IsAtRoot v) (on : IsOnWay v way) (offer : ℕ) (knows : HasOffer v.sizes v.account v.pin way.handle offer) (w : View)
    (then : IsSound n w) (found : HasFoundOffer v way.handle offer w) (next : Completing) (z : View) (h : HasCompletedOn w way.handle offer next z) where
  abbrev y : ReadLine
  y = h.0

  abbrev goes_there : Operation → Operation
  goes_there o = on_line n v sound way at on offer knows w then found o

  runs_there : (o : Operation) → Runs v o → Runs z (read_to (Goes y) (goes_there o))
  runs_there o r = h.1.comes (goes_there o) (goes n v sound way at on offer knows w then found o r)

  same_answer : (o : Operation) → rooting_of o.line ≡ Some root.Read → given_up o.call (on_read (goes_there o).line y) ≡ given_up o.call o.line
  same_answer o is =
      read_gives_up o.call (goes_there o).line y (record { indirection = knows.its.offer.root; line = read.Main })
      (completing_reads (goes_there o).line (record { offer = knows.its.offer; line = complete.Reading read.Main }) (rooting_completes (goes_there o).line (root.Completing (record {
        offer =
            knows.its.offer;
        line = complete.Reading read.Main;
      }))
      (rooting_there (root.Completing (record { offer = knows.its.offer; line = complete.Reading read.Main })) o.line root.Read is)))
      ∙ rooting_gives_up o.call (root.Completing (record { offer = knows.its.offer; line = complete.Reading read.Main })) o.line root.Read is

  pub help_left : HasLeftOff v left.MayGiveUp z
  help_left = record {
    is = refl;
    next = λ o. on_read (goes_there o).line y;
    moved = record { later = later_both v w z (later n v sound way at on offer knows w then found) h.1.later; comes = runs_there };
    leaves = λ answers may o s.
        (let p = at.0 in
        let same = runs_one z o (read_to (Goes y) (goes_there p)) s (runs_there p at.1) in
        ap (λ (x : Operation). given_up x.call x.line) same ∙ same_answer p at.2 ∙ may p at.1 ∙ ap (λ (x : Operation). Some (answers x.call)) (sym same));
  }
