use Rattle.std.proofs.Common.{rules, refl, ap, sym, ◌∙◌, arith}
use Rattle.gate.specs.Rules.{only_slot, same_word}
use Rattle.gate.proofs.Holds.{exchange_allowed}
use Rattle.gate.proofs.gates.Gate.try_enter.Goals as goal

pub compare_exchange-found-requires : goal.compare_exchange-found-requires
compare_exchange-found-requires g c = (
  c.requires.seat ∙ ap (λ r. r.id) (sym c.self.view_is),
  search rules,
  exchange_allowed g.O.Object.answers only_slot same_word (λ i j same. same) 1 c.self.inside.table.shared.key.seats c.self.inside.table.shared.key.first.first same_word
      c.self.inside.table.shared.table_id.slots 0 c.args.pass.now.id c.args.number c.args.pass.now.me c.self.invariant.1 (omega arith) refl c.requires.number,
)

pub returns-clause-inside : goal.returns-clause-inside
returns-clause-inside g c was_open = c.compare_exchange-found.ensures.2.0 (search (rules, was_open))
