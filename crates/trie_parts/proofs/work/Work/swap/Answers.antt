use Rattle.std.proofs.Common.{rules, arith, ap}
use Rattle.trie_parts.specs.Beneath.slot_arena.specs.Times.{times}
use Rattle.gcas.specs.Swaps.{swap_of}
use Rattle.trie_parts.proofs.Ends.{ended}
use Rattle.trie_parts.proofs.work.Work.swap.Goals.{in-Publish, in_default}
use Rattle.trie_parts.proofs.work.Work.swap.Goals as goal

pub give_up-requires : goal.give_up-requires
give_up-requires c =
    record {
      held = λ r. elim c.match-matches.branch [
        | in-Publish w ↦ omega (arith, c.requires.held r, ap (times r) c.step-next.ensures.beside.outside, ap (λ s. times r s.private) w.self-is)
        | in_default w ↦ omega (arith, c.requires.held r, ap (times r) c.step-next.ensures.beside.outside, ap (λ s. times r s.private) w.self-is)
      ];
    }

pub returns-then-is_first-clause-acts : goal.returns-then-is_first-clause-acts
returns-then-is_first-clause-acts c =
    record {
      heap = search rules;
      made = search rules;
      others = λ r. elim c.match-matches.branch [
        | in-Publish w ↦ omega (arith, c.give_up.ensures.others r, ap (times r) c.step-next.ensures.beside.outside, ap (λ s. times r s.private) w.self-is)
        | in_default w ↦ omega (arith, c.give_up.ensures.others r, ap (times r) c.step-next.ensures.beside.outside, ap (λ s. times r s.private) w.self-is)
      ];
      stay = search rules;
      epochs = search rules;
      few = search rules;
      ticks = search rules;
    }

pub returns-else-is_first-clause-acts : goal.returns-else-is_first-clause-acts
returns-else-is_first-clause-acts c =
    record {
      heap = search rules;
      made = search rules;
      others = search rules;
      stay = search rules;
      epochs = search rules;
      few = search rules;
      ticks = search rules;
    }

pub returns-else-is_first-clause-last : goal.returns-else-is_first-clause-last
returns-else-is_first-clause-last c =
    let s = c.args.self.now.swap in
    let line = (swap_of s c.args.root_seen).line in
    let end = ended c.args.heap.now.heap s.read.access s.read.indirection s.replaced s.fresh line c.step-next.new.self c.step-next.result in
    λ last. elim c.match-matches.branch [
      | in-Publish w ↦ end (rw w.self-is at c.step-next.ensures.follows) last
      | in_default w ↦ end (rw w.self-is at c.step-next.ensures.follows) last
    ]
