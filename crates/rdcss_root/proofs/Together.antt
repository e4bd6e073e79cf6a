-- What a step does to the private list and to the root words together, where it leaves one of them alone.
use Rattle.std.specs.Prelude.{◌≡◌, List, Option, refl}
use Rattle.std.proofs.Common.{arith, ap, ◌∙◌}
use Rattle.rdcss_root.specs.Vocabulary.{Low, Ref, is_live, times, Action, ReadLine, Descriptor, Root, read_action}
use Rattle.rdcss_root.specs.Beneath.epochs.specs.Memories.{Memory}
use Rattle.rdcss_root.specs.Beneath.machine_model.specs.declared.actions.Action.TheVariants as act
use Rattle.rdcss_root.specs.Beneath.gcas.specs.Acted.{acted_heap}
use Rattle.rdcss_root.specs.Beneath.gcas.specs.Kept.{KeepsBeside}
use Rattle.trie_parts.specs.Here.{at_heap, no_state}
use Rattle.trie_parts.specs.Holding.{Acts}
use Rattle.trie_parts.proofs.Unmade.{read_privates}
use Rattle.rdcss_root.specs.Acts.{ActsInAll}
use Rattle.rdcss_root.specs.Holding.{Moves}
use Rattle.rdcss_root.proofs.Keeping.{kept}

-- the root words stay
pub by_parts : {before after : Memory} {private private' : List Ref} {action : Action} (roots : List (Option Root)) → Acts before private action after private' →
    ActsInAll before roots private action after roots private'
by_parts roots acts = record {
  heap = acts.heap;
  made = acts.made;
  others = λ r. omega (arith, acts.others r);
  stay = acts.stay;
  epochs = acts.epochs;
  few = acts.few;
  ticks = acts.ticks;
}

-- a READ leaves root words and private list alone
pub by_read : {before after : Memory} (roots : List (Option Root)) (private : List Ref) (indirection : Ref) (line : ReadLine) → after.heap ≡ acted_heap before.heap (read_action indirection line) →
    KeepsBeside before after → ActsInAll before roots private (read_action indirection line) after roots private
by_read {before} {after} roots private indirection line heap beside = record {
  heap = heap;
  made = read_privates (at_heap no_state before.heap Low) private indirection line;
  others = λ r. omega (arith, ap (times r) beside.outside);
  stay = λ q live. beside.stay q ∙ live;
  epochs = beside.epochs;
  few = omega (arith, beside.few);
  ticks = (beside.ticks.0, omega (arith, beside.ticks.1));
}

-- so does a look at a root word
pub by_looking : (m : Memory) (roots : List (Option Root)) (private : List Ref) → ActsInAll m roots private act.ReadRoot m roots private
by_looking m roots private = record {
  heap = refl;
  made = refl;
  others = λ r. refl;
  stay = λ q live. live;
  epochs = (kept m).epochs;
  few = omega arith;
  ticks = (omega arith, omega arith);
}

-- a swap of the root leaves the private list alone
pub by_swap : {before after : Memory} {roots roots' : List (Option Root)} (private : List Ref) (offer : Descriptor) (main : Ref) → Moves before after roots roots' 8 →
    ActsInAll before roots private (act.Complete offer main) after roots' private
by_swap private offer main moves = record {
  heap = moves.keeps.heap;
  made = refl;
  others = λ r. omega (arith, moves.outside r);
  stay = λ q live. ap (λ h. is_live h q) moves.keeps.heap ∙ live;
  epochs = moves.keeps.epochs;
  few = omega (arith, moves.keeps.few);
  ticks = (moves.keeps.ticks.0, omega (arith, moves.keeps.ticks.1));
}
