use Rattle.std.proofs.Common.{sym, subst}
use Rattle.concurrent_map.specs.Scans.{HasBegunScan}
use Rattle.concurrent_map.proofs.ScansTold.{begun_scan}
use Rattle.concurrent_map.proofs.seats.MapSeat.scan.Goals as goal

pub returns-clause-begun : goal.returns-clause-begun
returns-clause-begun c =
    let laws = c.histories_stay.ensures in
    subst (HasBegunScan c.args.self c.args.handle) (sym c.new.ensures)
    (begun_scan laws.go_on laws.others laws.denials c.self.inside.seat c.self.invariant c.args.self c.self.view_is _ c.args.handle c.number.ensures c.scan.result c.scan.ensures.seat
    c.scan.ensures.begun)
