-- One step of an actor that is alone: what it leaves, and what it finds.
use Rattle.proof_obstruction_free.specs.Alone.{Lone}
use Rattle.proof_obstruction_free.specs.Stepping.{Stepping}
use Rattle.proof_obstruction_free.proofs.Step.Next as Next
use Rattle.proof_obstruction_free.proofs.Step.Keeps as Keeping
use Rattle.proof_obstruction_free.proofs.Step.Finds as Finds

pub stepping : (a : Lone) → Stepping a
stepping a = record {
  next = Next.next a;
  ends = Next.ends_never a;
  keeps = Keeping.keeps a;
  words = Keeping.words a;
  wants = Finds.wants a;
  node_found = Finds.node_found a;
  link_found = Finds.link_found a;
  made = λ t g l s more not n r makes plain next. Finds.made a t g l s more n r makes plain next;
  made_link = λ t g l s more not h m r makes next. Finds.made_link a t g l s more h m r makes next;
}
