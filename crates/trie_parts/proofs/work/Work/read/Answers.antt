use Rattle.std.proofs.Common.{◌∙◌, arith, ap}
use Rattle.trie_parts.specs.Beneath.ctrie_base.specs.declared.hashes.HashKind.TheVariants.{Low}
use Rattle.gcas.specs.Reads.{line_of}
use Rattle.trie_parts.specs.Beneath.slot_arena.specs.Times.{times}
use Rattle.trie_parts.specs.Here.{no_state, at_heap}
use Rattle.trie_parts.proofs.Insides.{inside}
use Rattle.trie_parts.proofs.Unmade.{read_privates}
use Rattle.trie_parts.proofs.work.Work.read.Goals as goal

pub returns-clause-acts : goal.returns-clause-acts
returns-clause-acts c =
    let told = c.step.ensures in
    let r = c.args.self.now.swap.read in
    let line = line_of r c.args.root_seen in
    let heap = c.args.heap.now.heap in
    record {
      heap = told.heap;
      made = read_privates (at_heap no_state heap Low) c.args.self.now.private r.indirection line;
      others = λ q. omega (arith, ap (times q) told.beside.outside);
      stay = λ q live. told.beside.stay q ∙ live;
      epochs = told.beside.epochs;
      few = omega (arith, told.beside.few);
      ticks = (told.beside.ticks.0, omega (arith, told.beside.ticks.1));
    }

pub returns-clause-follows : goal.returns-clause-follows
returns-clause-follows c =
    let r = c.args.self.now.swap.read in
    rw c.step.ensures.same (inside c.args.heap.now.heap r.access r.indirection (line_of r c.args.root_seen) c.step.new.self.at _ c.step.ensures.follows)
