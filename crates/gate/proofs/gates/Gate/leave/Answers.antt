use Rattle.std.proofs.Common.{rules, ap, sym, ◌∙◌}
use Rattle.gate.proofs.Holds.{store_allowed}
use Rattle.gate.proofs.gates.Gate.leave.Goals as goal

pub store-requires : goal.store-requires
store-requires g c =
    let r = c.requires.inside in (
      c.requires.seat ∙ ap (λ r. r.id) (sym c.self.view_is),
      search rules,
      store_allowed g.O.Object.answers c.self.inside.table.shared.key.seats c.self.inside.table.shared.key.first.first c.self.inside.table.shared.table_id.slots c.args.pass.now.id r.0
          c.args.pass.now.me r.1 r.2 r.3 c.self.invariant.1 r.4 r.5,
    )
