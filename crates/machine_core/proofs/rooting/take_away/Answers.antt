use Rattle.std.proofs.Common.{arith, [], refl, ap, set, ◌∙◌, None}
use Rattle.machine_core.specs.Vocabulary.{times, with_root, root_refs, Table}
use Rattle.proof_core.proofs.Drafts.{settled_over}
use Rattle.machine_core.proofs.Rooted.{held_moved}
use Rattle.machine_core.proofs.rooting.take_away.Goals as goal

pub returns-clause-drafts : goal.returns-clause-drafts
returns-clause-drafts c base draft is roots private =
    settled_over base (with_root base c.args.handle None) draft c.args.heap.now c.put.new.heap c.settle.new.self draft.heap [] draft.newest refl is
    (c.put.ensures.moves.keeps.heap ∙ is.heap) c.put.ensures.moves.keeps.epochs.0 c.put.ensures.moves.keeps.epochs.1 c.settle.ensures
    (λ r. held_moved base c.args.table.now.roots (set base.roots c.args.handle None) draft.private c.args.heap.now.outside c.put.new.heap.outside r roots (is.held r)
    (omega (
      arith,
      c.put.ensures.moves.outside r,
      ap (times r) private,
      ap (λ (t : Table). times r (root_refs t.roots)) c.put.ensures.table,
      ap (λ rs. times r (root_refs (set rs c.args.handle None))) roots,
    )))
