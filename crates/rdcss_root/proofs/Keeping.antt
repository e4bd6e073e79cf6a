-- Memory that is kept but for what is held, by several calls one behind the other.
use Rattle.std.specs.Prelude.{◌≡◌, ℕ, ◌+◌, ◌<◌, ◌≤◌, List, length}
use Rattle.std.proofs.Common.{arith, ◌∙◌, refl, ap, get_or}
use Rattle.std.proofs.lemmas.List.Elements.{All-get_or}
use Rattle.rdcss_root.specs.Vocabulary.{Ref, Heap, is_live, IsLive, AreLive}
use Rattle.rdcss_root.specs.Beneath.epochs.specs.Memories.{Memory}
use Rattle.rdcss_root.specs.Holding.{KeepsMemory}

pub kept : (m : Memory) → KeepsMemory m m 0
kept m = record { heap = refl; epochs = (refl, refl, refl, refl); few = omega arith; ticks = (omega arith, omega arith) }

-- the bounds add up
pub kept_on : {a b c : Memory} {i j : ℕ} (k : ℕ) → KeepsMemory a b i → KeepsMemory b c j → i + j ≤ k → KeepsMemory a c k
kept_on k first second sum = record {
  heap = second.heap ∙ first.heap;
  epochs = (second.epochs.0 ∙ first.epochs.0, second.epochs.1 ∙ first.epochs.1, second.epochs.2 ∙ first.epochs.2, second.epochs.3 ∙ first.epochs.3);
  few = omega (arith, first.few, second.few, sum);
  ticks = (omega (arith, first.ticks.0, second.ticks.0), omega (arith, first.ticks.1, second.ticks.1, sum));
}

-- each of the live references is live in the same heap
pub live_at : {before after : Heap} {r : Ref} (refs : List Ref) → AreLive before refs → after ≡ before → (i : ℕ) → i < length refs → r ≡ get_or refs i r → IsLive after r
live_at {before} {after} {r} refs live same i within is =
    ap (λ h. is_live h r) same ∙ ap (is_live before) is ∙ All-get_or (IsLive before) refs i r within live
