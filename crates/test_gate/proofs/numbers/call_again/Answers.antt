use Rattle.std.specs.Prelude.{◌≡◌, ◌+◌, ◌-◌, ◌≤◌, [], ◌∷◌, Some, length}
use Rattle.std.proofs.Common.{ap, ◌∙◌, arith}
use Rattle.std.proofs.Math.Nat.{min-eq_left}
use Rattle.std.proofs.lemmas.List.{length-append}
use Rattle.gate.specs.Logs.{LogGoesOn, entry}
use Rattle.test_gate.proofs.numbers.call_again.Goals as goal

pub returns : goal.returns
returns g c heard small last on more =
    let told = c.call.new.seat.seen in
    let later = c.call-3.new.seat.seen in
    let on_told : LogGoesOn told c.call-2.new.seat.seen = c.logs_go_on.ensures.called c.call.new.seat c.call-2.new.seat 2 c.call-2.result c.call-2.ensures in
    let long : length c.call-2.new.seat.seen.log ≡ length told.log + length on_told.0 = ap (λ es. length es) on_told.1 ∙ length-append told.log on_told.0 in
    let found = c.call.ensures.board.log in
    let any : length told.log ≡ length found + 1 = ap (λ es. length es) c.call.ensures.called.log ∙ length-append found (entry c.args.one.now.number 1 c.call.result ∷ []) in
    let number : c.last-number.result ≡ length told.log = c.last-number.ensures ∙ min-eq_left (omega (arith, long, small)) in
    let knows : length told.log ≤ length c.hear-heard.new.seat.seen.log = omega (arith, number, c.hear-heard.ensures.told.0 heard) in
    let stand = c.told_calls_stand_before.ensures c.args.one.now c.call.new.seat 1 c.call.result c.hear-heard.new.seat c.call-3.new.seat 3 c.call-3.result last c.call.ensures knows
    c.call-3.ensures (c.logs_go_on.ensures.further told c.call-2.new.seat.seen last on_told on) more in (
      length told.log - 1,
      length later.log - 1,
      c.call.result,
      c.call-3.result,
      omega (arith, any, stand.0),
      stand.1,
      stand.2 ∙ ap (λ n. Some (entry n 3 c.call-3.result)) c.hear-heard.ensures.heard.number,
    )
