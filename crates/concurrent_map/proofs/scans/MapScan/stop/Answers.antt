use Rattle.std.proofs.Common.{sym, subst}
use Rattle.concurrent_map.specs.Scans.{IsScanning}
use Rattle.concurrent_map.proofs.ScansTold.{stopped_since}
use Rattle.concurrent_map.proofs.scans.MapScan.stop.Goals as goal

pub returns-clause-stopped : goal.returns-clause-stopped
returns-clause-stopped c before handle told scanning =
    let laws = c.histories_stay.ensures in
    let under = subst (IsScanning before handle told) (sym c.self.view_is) scanning in
    stopped_since laws.go_on laws.others laws.denials c.self.inside.scan c.self.invariant before handle told under c.stop.result c.stop.ensures.seat
    (c.stop.ensures.stopped under.first.view handle told under.scanning)
