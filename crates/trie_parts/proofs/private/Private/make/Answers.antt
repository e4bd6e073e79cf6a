use Rattle.std.proofs.Common.{rules, ◌∙◌, arith, ap}
use Rattle.trie_parts.specs.Beneath.slot_arena.specs.Times.{times}
use Rattle.trie_parts.specs.Beneath.slot_arena.proofs.Times.{times-cons, times_push}
use Rattle.trie_parts.proofs.private.Private.make.Goals as goal

pub give_up-requires : goal.give_up-requires
give_up-requires c = record { held = λ r. omega (arith, c.requires.held r, ap (times r) c.in-None.ensures.outside) }

pub returns-in-None-clause-acts : goal.returns-in-None-clause-acts
returns-in-None-clause-acts c =
    record {
      heap = search rules;
      made = search rules;
      others = λ r. omega (arith, ap (times r) c.in-None.ensures.outside, c.give_up.ensures.others r);
      stay = search rules;
      epochs = search rules;
      few = search rules;
      ticks = search rules;
    }

pub returns-in-Some-clause-acts : goal.returns-in-Some-clause-acts
returns-in-Some-clause-acts c =
    record {
      heap = search rules;
      made = search rules;
      others = λ r. omega (
        arith,
        ap (times r) c.self.view_is,
        ap (times r) c.in-Some.ensures.outside ∙ times-cons r c.in-Some.at c.args.heap.now.outside,
        ap (times r) c.push.ensures.items ∙ times_push r c.in-Some.at c.self.inside.items.items,
      );
      stay = search rules;
      epochs = search rules;
      few = search rules;
      ticks = search rules;
    }
