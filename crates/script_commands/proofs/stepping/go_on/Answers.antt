use Rattle.std.proofs.Common.{◌≡◌, ◌+◌, ◌-◌, sym, ◌∙◌, arith, true, false}
use Rattle.script_commands.specs.Vocabulary.{next_kind}
use Rattle.script_text.specs.Steps.{stops}
use Rattle.script_commands.specs.Recorded.{recorded_in}
use Rattle.script_commands.proofs.Carrying.{going_none, going_stops, going_on}
use Rattle.script_commands.proofs.stepping.go_on.Goals as goal

pub loop-preserved : goal.loop-preserved
loop-preserved c =
    let state = recorded_in c.loop.machine in
    let goes : stops c.args.wanted (next_kind state.state c.args.actor) ≡ false = rw c.next_kind.ensures.kind at (sym c.stops.ensures ∙ c.if-stops.false) in
    let fewer : c.args.most - c.loop.counter ≡ (c.args.most - (c.loop.counter + 1)) + 1 = omega arith in
    sym (going_on _ _ c.args.wanted c.args.actor state (recorded_in c.take.new.machine) fewer goes c.in_ok-take.ensures.state) ∙ c.loop.invariant

pub returns-after-loop : goal.returns-after-loop
returns-after-loop c =
    let none : c.args.most - c.loop.counter ≡ 0 = omega arith in
    sym (going_none c.args.wanted c.args.actor (recorded_in c.loop.machine)) ∙ (rw none at c.loop.invariant)

pub returns-then-stops : goal.returns-then-stops
returns-then-stops c =
    let state = recorded_in c.loop.machine in
    let stop : stops c.args.wanted (next_kind state.state c.args.actor) ≡ true = rw c.next_kind.ensures.kind at (sym c.stops.ensures ∙ c.if-stops.true) in
    sym (going_stops (c.args.most - c.loop.counter) c.args.wanted c.args.actor state stop) ∙ c.loop.invariant
