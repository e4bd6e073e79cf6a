-- An offer, behind the giving up of what was made for it.
use Rattle.std.specs.Prelude.{◌≡◌, ◌+◌, ◌≤◌, List, [], length, Option}
use Rattle.std.proofs.Common.{arith, ap, ◌∙◌}
use Rattle.snapshot.specs.Vocabulary.{Ref, is_live, times, KeepsEpochs, Descriptor, Root}
use Rattle.snapshot.specs.Beneath.epochs.specs.Memories.{Memory}
use Rattle.snapshot.specs.Beneath.machine_model.specs.declared.actions.Action.TheVariants as act
use Rattle.snapshot.specs.Beneath.trie_parts.specs.Holding.{KeepsOthers}
use Rattle.snapshot.specs.Beneath.rdcss_root.specs.Acts.{ActsInAll}
use Rattle.snapshot.specs.Beneath.rdcss_root.specs.Holding.{IsReady, Moves}
use Rattle.snapshot.specs.Copies.{IsReadyBeside}

-- what stands in root words is held still
pub given_up : {before after : Memory} {roots : List (Option Root)} {private private' : List Ref} → IsReadyBeside before roots private → private' ≡ [] →
    KeepsOthers private before private' after → IsReady after roots 4
given_up ready none others = record {
  held = λ r. omega (arith, ready.held r, others r, ap (times r) none);
  room = λ r. omega (arith, ready.room r, others r, ap (times r) none);
}

pub offers : {before given after : Memory} {roots roots' : List (Option Root)} {private private' : List Ref} (offer : Descriptor) → private' ≡ [] → given.heap ≡ before.heap →
    KeepsOthers private before private' given → KeepsEpochs before given → length given.noted ≤ length before.noted + length private →
    given.ticks ≡ before.ticks + length private → Moves given after roots roots' 4 → ActsInAll before roots private (act.Offer offer) after roots' private'
offers offer none heap others epochs few ticks moves = record {
  heap = moves.keeps.heap ∙ heap;
  made = none;
  others = λ r. omega (arith, others r, moves.outside r);
  stay = λ q live. ap (λ h. is_live h q) (moves.keeps.heap ∙ heap) ∙ live;
  epochs = (moves.keeps.epochs.0 ∙ epochs.0, moves.keeps.epochs.1 ∙ epochs.1, moves.keeps.epochs.2 ∙ epochs.2, moves.keeps.epochs.3 ∙ epochs.3);
  few = omega (arith, moves.keeps.few, few);
  ticks = (omega (arith, moves.keeps.ticks.0, ticks), omega (arith, moves.keeps.ticks.1, ticks));
}
