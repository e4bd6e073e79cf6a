use Rattle.std.proofs.Common.{sym, subst}
use Rattle.concurrent_map.specs.Scans.{GoesOnUnlessLacking, HasScanned}
use Rattle.concurrent_map.proofs.ScansTold.{lacking_so, scanned_on}
use Rattle.concurrent_map.proofs.scans.MapScan.next.Goals as goal

pub returns-clause-scanned : goal.returns-clause-scanned
returns-clause-scanned c =
    let laws = c.histories_stay.ensures in
    subst (λ s. HasScanned s c.args.most c.args.pairs.now.items c.new.result c.next.new.pairs.items) c.self.view_is
    (subst (λ r. HasScanned c.self.inside.scan c.args.most c.args.pairs.now.items r c.next.new.pairs.items) (sym c.new.ensures)
    (scanned_on laws.go_on laws.others laws.denials c.self.inside.scan c.self.invariant c.args.most c.args.pairs.now.items c.next.result c.next.new.pairs.items c.next.ensures.seat
    c.next.ensures.scanned))

pub returns-clause-why : goal.returns-clause-why
returns-clause-why c = subst GoesOnUnlessLacking (sym c.new.ensures) (lacking_so c.next.result c.next.ensures.lacks)
