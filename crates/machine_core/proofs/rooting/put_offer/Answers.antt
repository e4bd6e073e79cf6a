use Rattle.std.proofs.Common.{arith, ◌≡◌, [], refl, ap, set, ◌∙◌}
use Rattle.machine_core.specs.Vocabulary.{times, Offer, with_root, root_refs, Table}
use Rattle.machine_core.specs.Rooting.{writable}
use Rattle.proof_core.proofs.Drafts.{settled_over}
use Rattle.machine_core.proofs.Rooted.{beside_given, held_moved}
use Rattle.machine_core.proofs.rooting.put_offer.Goals as goal

pub returns-clause-drafts : goal.returns-clause-drafts
returns-clause-drafts c base draft is roots private =
    let offered = writable (Offer c.args.offer.now) in
    let there : c.put.new.self.roots ≡ set c.args.table.now.roots c.args.handle offered =
    ap (λ (t : Table). t.roots) c.put.ensures.table ∙ ap (set c.args.table.now.roots c.args.handle) c.writable.ensures in
    settled_over base (with_root base c.args.handle offered) draft c.args.heap.now c.release_all.new.heap c.settle.new.self draft.heap [] draft.newest refl is
    (c.release_all.ensures.heap ∙ c.put.ensures.moves.keeps.heap ∙ is.heap) (c.release_all.ensures.epochs.0 ∙ c.put.ensures.moves.keeps.epochs.0)
    (c.release_all.ensures.epochs.1 ∙ c.put.ensures.moves.keeps.epochs.1) c.settle.ensures
    (λ r. held_moved base c.args.table.now.roots (set base.roots c.args.handle offered) draft.private c.args.heap.now.outside c.release_all.new.heap.outside r roots (is.held r)
    (omega (
      arith,
      c.release_all.ensures.others r,
      c.put.ensures.moves.outside r,
      ap (times r) private,
      ap (λ rs. times r (root_refs rs)) there,
      ap (λ rs. times r (root_refs (set rs c.args.handle offered))) roots,
    )))

pub returns-clause-holds : goal.returns-clause-holds
returns-clause-holds c =
    beside_given c.args.heap.now c.put.new.heap c.settle.new.self c.args.table.now.roots c.put.new.self.roots c.args.made.now 8 c.requires.holds c.put.ensures.moves
    (λ r. omega (arith, ap (times r) c.settle.ensures.outside, c.release_all.ensures.others r))
