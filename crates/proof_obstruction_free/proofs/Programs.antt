-- COMPLETE, RENEW, CLEAN and CLIMB of an actor that is alone, in steps alone.
use Rattle.std.proofs.Common.{ℕ, suc, ◌+◌, ◌<◌, ◌≤◌, ◌⊎◌, ◌||◌, Bool, true, false, cond, Option, Some, inl, inr, refl, arith}
use Rattle.std.proofs.lemmas.Bool.{cases_lt}
use Rattle.proof_obstruction_free.specs.Vocabulary.{Reply, Ref, Descriptor, handle_of, copied_reply, new_try, current, word_at, is_carried_out, renew_path}
use Rattle.proof_obstruction_free.specs.Beneath.machine_model.specs.declared.lines.Line.TheVariants as line
use Rattle.proof_obstruction_free.specs.Beneath.machine_model.specs.declared.lines.Purpose.TheVariants as purpose
use Rattle.proof_obstruction_free.specs.Alone.{Lone, Stands, word}
use Rattle.proof_obstruction_free.specs.Machines.{Machines}
use Rattle.proof_obstruction_free.specs.ProgramEnds.{CleanEnds, ClimbEnds, CompleteEnds, CompleteGoesToItsEnd, HasCompleted, RenewEnds, climb_steps}
use Rattle.proof_obstruction_free.specs.Stepping.{Stepping}
use Rattle.proof_obstruction_free.proofs.Clean.On.{cleans_on}
use Rattle.proof_obstruction_free.proofs.Climb.On.{climbs_on}
use Rattle.proof_obstruction_free.proofs.Copy.Lines.{complete_reads, completing_line, swapping_line}
use Rattle.proof_obstruction_free.proofs.Ends.StandsAt.{stands_as}
use Rattle.proof_obstruction_free.proofs.Read.Ends.{read_ends, read_goes_to_its_end}
use Rattle.proof_obstruction_free.proofs.Renew.On.{renews_on}
use Rattle.proof_obstruction_free.proofs.Root.Machines.{flat_machines}
use Rattle.proof_obstruction_free.proofs.Step.Step.{stepping}
use Rattle.proof_obstruction_free.proofs.Weights.Offers.{flat, is_weight, weighs_at_most}

module _ (a : Lone) where
  steps : Stepping a
  steps = stepping a

  machines : Machines a (flat a) 7
  machines = flat_machines a

  -- ---- COMPLETE

  -- the step that swaps the root, or doesn't
  swaps : (offer : Descriptor) (main : Ref) (t u n : ℕ) (g : Option ℕ) → Stands a u g (swapping_line a.own offer main) → t ≤ u → u < t + n → u < a.last → HasCompleted a t n g
  swaps offer main t u n g s after soon more = record {
    at = suc u;
    from = omega (arith, after);
    soon = omega (arith, soon);
    so = by (is_carried_out (word_at (a.states u) (handle_of s.operation.call)) offer main || s.operation.is_marked)
        (stands_as a (suc u) _ g _ _ s.generation refl (steps.next u g (swapping_line a.own offer main) s more tt));
  }
    where
      by : (b : Bool) → Stands a (suc u) g (cond b (line.End (copied_reply s.operation.call s.operation.opens)) new_try) →
          ((answer : Reply) × Stands a (suc u) g (line.End answer)) ⊎ Stands a (suc u) g new_try
      by true at = inl (copied_reply s.operation.call s.operation.opens, at)
      by false at = inr at

  pub complete_ends : CompleteEnds a
  complete_ends offer t g s room =
      let (u, after, soon, main, at, has) = read_ends a (completing_line a.own offer) (swapping_line a.own offer) offer.root (complete_reads a.own offer) t g s (omega (arith, room)) in
      swaps offer main t u 10 g at after (omega (arith, soon)) (omega (arith, soon, room))

  pub complete_goes_to_its_end : CompleteGoesToItsEnd a
  complete_goes_to_its_end offer l t g s room =
      let (u, after, soon, main, at) = read_goes_to_its_end a (completing_line a.own offer) (swapping_line a.own offer) offer.root (complete_reads a.own offer) t g l s (omega (arith, room)) in
      swaps offer main t u 13 g at after (omega (arith, soon)) (omega (arith, soon, room))

  -- ---- RENEW, CLEAN, CLIMB

  pub renew_ends : RenewEnds a
  renew_ends l t g s room =
      let most = weighs_at_most (word a t) in
      let (u, after, soon, x) = renews_on a steps (flat a) 7 (is_weight a) machines l t g s (omega (arith, room, most)) in
      let (v, later, sooner, y) = machines.swaps_first (purpose.Renew (renew_path l)) (current (renew_path l)) x.main x.fresh u (Some g) x.stands (omega (arith, room, most, soon)) in
      (x.fresh, record { at = v; from = omega (arith, after, later); soon = omega (arith, soon, sooner, most); done = y.done; stands = y.stands })

  pub clean_ends : CleanEnds a
  clean_ends l t g s room =
      let most = weighs_at_most (word a t) in
      let (u, after, soon, at) = cleans_on a steps (flat a) 7 (is_weight a) machines l t g s (omega (arith, room, most)) in
      (u, after, omega (arith, soon, most), at)

  pub climb_ends : ClimbEnds a
  climb_ends l t g s = by (cases_lt a.last (t + climb_steps))
    where
      by : (a.last < t + climb_steps) ⊎ (t + climb_steps ≤ a.last) → a.last < t + climb_steps
      by (inl short) = short
      by (inr long) = let most = weighs_at_most (word a t) in absurd ((climbs_on a (flat a) 7 (is_weight a) steps machines l t g s (omega (arith, long, most))).3)
