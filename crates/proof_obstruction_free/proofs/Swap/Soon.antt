-- SWAP and ROOT of an actor that is alone, in steps alone.
use Rattle.std.proofs.Common.{◌≡◌, ℕ, suc, ◌+◌, ◌<◌, ◌≤◌, Option, refl, arith}
use Rattle.proof_obstruction_free.specs.Vocabulary.{Ref, Purpose, SwapLine, prev_word}
use Rattle.proof_obstruction_free.specs.Beneath.machine_model.specs.declared.reading.SwapLine.TheVariants as swap
use Rattle.proof_obstruction_free.specs.Alone.{Lone, Stands, word}
use Rattle.proof_obstruction_free.specs.SwapEnds.{HasEnded, SwapEnds, SwapGoesToItsEnd, RootEnds, swap_steps_left}
use Rattle.proof_obstruction_free.proofs.Read.Ends.{read_goes_to_its_end}
use Rattle.proof_obstruction_free.proofs.Root.Machines.{flat_machines}
use Rattle.proof_obstruction_free.proofs.Step.Step.{stepping}
use Rattle.proof_obstruction_free.proofs.Swap.Lines.{swap_line, deciding, checking, swap_reads, is_decided, checks}
use Rattle.proof_obstruction_free.proofs.Swap.Ends.{pays_nothing}
use Rattle.proof_obstruction_free.proofs.Swap.Comes.{swaps_first}
use Rattle.proof_obstruction_free.proofs.Weights.Offers.{weighs_at_most}

module _ (a : Lone) where
  pub swap_ends : SwapEnds a
  swap_ends why i replaced fresh t g s room =
      let (u, after, soon, x) = swaps_first a (stepping a) (λ v. 0) 0 0 (pays_nothing a) 0 why i replaced fresh t g s (omega (arith, room)) in
      record { at = u; from = after; soon = omega (arith, soon); done = x.done; stands = x.stands }

  pub root_ends : RootEnds a
  root_ends t g s room =
      let most = weighs_at_most (word a t) in
      let (u, after, soon, x) = (flat_machines a).roots_first t g s (omega (arith, room, most)) in
      (u, after, omega (arith, soon, most), x.root, x.plain, x.stands)

  module _ (why : Purpose) (i replaced fresh : Ref) (t : ℕ) (g : Option ℕ) where
    -- the last step
    sees_end : (u n : ℕ) → t ≤ u → u < t + n → u < a.last → Stands a u g (swap_line a why i replaced fresh swap.Check) → HasEnded a t n g why fresh
    sees_end u n after soon more s = record {
      at = suc u;
      from = omega (arith, after);
      soon = omega (arith, soon);
      done = is_decided (prev_word a.states u fresh);
      stands = (checks a why i replaced fresh (stepping a) u g s more (prev_word a.states u fresh) refl).stands;
    }

    goes_to_its_end : (x : SwapLine) → Stands a t g (swap_line a why i replaced fresh x) → (x ≡ swap.Publish → ⊥) → t + swap_steps_left ≤ a.last → HasEnded a t swap_steps_left g why fresh
    goes_to_its_end swap.Publish s behind room = absurd (behind refl)
    goes_to_its_end swap.Check s behind room = sees_end t swap_steps_left (omega arith) (omega arith) (omega (arith, room)) s
    goes_to_its_end (swap.Deciding l) s behind room =
        let (u, after, soon, m, at) = read_goes_to_its_end a (deciding a why i replaced fresh) (checking a why i replaced fresh) i (swap_reads a why i replaced fresh) t g l s (omega (arith, room)) in
        sees_end u swap_steps_left after (omega (arith, soon)) (omega (arith, soon, room)) at

  pub swap_goes_to_its_end : SwapGoesToItsEnd a
  swap_goes_to_its_end why x t g s behind room = goes_to_its_end why x.indirection x.replaced x.fresh t g x.line s behind room
