use Rattle.std.proofs.Common.{Bool, List, false, ap, sym, ◌∙◌}
use Rattle.handle_table.specs.Numbers.{Numbers, is_taken_in, with_taken}
use Rattle.handle_table.proofs.Bits.{given_flip, taken_within}
use Rattle.handle_table.proofs.numbers.Handles.give_back.Goals as goal

pub flip-requires-clause-within : goal.flip-requires-clause-within
flip-requires-clause-within c =
    taken_within c.self.inside.words.items c.args.handle (ap (λ (n : Numbers). is_taken_in n c.args.handle) c.self.view_is ∙ sym c.is_taken.ensures ∙ c.if-is_taken.true)

pub invariant_of-self : goal.invariant_of-self
invariant_of-self c =
    let is = ap (λ (n : Numbers). is_taken_in n c.args.handle) c.self.view_is ∙ sym c.is_taken.ensures ∙ c.if-is_taken.true in (
      c.flip.ensures.many,
      (given_flip c.self.inside.words.items c.flip.new.words.items c.self.inside.many c.args.handle (taken_within c.self.inside.words.items c.args.handle is) is c.flip.ensures.taken
          c.self.invariant.1).1,
    )

pub returns-then-is_taken : goal.returns-then-is_taken
returns-then-is_taken c =
    let is = ap (λ (n : Numbers). is_taken_in n c.args.handle) c.self.view_is ∙ sym c.is_taken.ensures ∙ c.if-is_taken.true in
    ap (λ (t : List Bool). record { taken = t; running = c.self.inside.running.items })
    (given_flip c.self.inside.words.items c.flip.new.words.items c.self.inside.many c.args.handle (taken_within c.self.inside.words.items c.args.handle is) is c.flip.ensures.taken
    c.self.invariant.1).0
    ∙ ap (λ (n : Numbers). with_taken n c.args.handle false) c.self.view_is
