use Rattle.std.proofs.Common.{sym, subst}
use Rattle.lock_free.specs.Scans.{HasScanned}
use Rattle.lock_free.specs.ScanSeats.{reached_by, seat_of}
use Rattle.lock_free.specs.Seated.{HasGoneOn, Seated}
use Rattle.lock_free.proofs.Scannings.{scan_gone_on, scanned_same}
use Rattle.lock_free.proofs.scans.Scan.next.Goals as goal

pub returns-clause-seat : goal.returns-clause-seat
returns-clause-seat c =
    let after = c.go_on_within-reached.new.actor in
    subst (λ (s : Seated). HasGoneOn s (seat_of c.scanned_by.result)) c.self.view_is
    (subst (λ r. HasGoneOn (record { table = c.self.inside.actor.table_id; view = c.self.inside.actor.me.0 }) (seat_of r)) (sym c.scanned_by.ensures)
    (scan_gone_on (record { table = c.self.inside.actor.table_id; view = c.self.inside.actor.me.0 }) (record { table = after.table_id; view = after.me.0 }) c.self.inside.way
    c.go_on_within-reached.new.walker c.go_on_within-reached.result c.go_on_within-reached.ensures.table c.go_on_within-reached.ensures.left))

pub returns-clause-scanned : goal.returns-clause-scanned
returns-clause-scanned c =
    let after = c.go_on_within-reached.new.actor in
    let most = c.args.most in
    let list = c.args.pairs.now.items in
    let longer = c.go_on_within-reached.new.pairs.items in
    subst (λ (s : Seated). HasScanned s.view most list (reached_by c.scanned_by.result) (seat_of c.scanned_by.result).view longer) c.self.view_is
    (subst (λ r. HasScanned c.self.inside.actor.me.0 most list (reached_by r) (seat_of r).view longer) (sym c.scanned_by.ensures)
    (scanned_same c.self.inside.actor.me.0 most list longer (record { table = after.table_id; view = after.me.0 }) c.go_on_within-reached.result c.go_on_within-reached.ensures.scanned))
