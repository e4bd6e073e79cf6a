use Rattle.ctrie_map.proofs.Stepping.{begin_not_refused, begins, comes_nearer, end_not_refused, ends_so, go_not_refused, leads_on}
use Rattle.ctrie_map.proofs.performing.step_through.Goals as goal

pub unreachable-requires : goal.unreachable-requires
unreachable-requires c = begin_not_refused c.args.core.now.state c.args.call c.requires c.calls_begin.ensures c.in_default.field-0 c.begin.new.self.state c.in_default.ensures.answers

pub loop-core-init : goal.loop-core-init
loop-core-init c = begins c.args.core.now.state c.args.call c.requires c.calls_begin.ensures c.in-Ok.field-0.id c.begin.new.self.state c.in-Ok.ensures.answers

pub loop-core-smaller : goal.loop-core-smaller
loop-core-smaller c =
    comes_nearer c.args.core.now.state c.args.call c.requires c.calls_go_on.ensures c.loop-core.core.state c.loop-core.invariant c.in-Ok-go.field-0.kind c.go.new.self.state
    c.in-Ok-go.ensures.applies

pub loop-core-preserved : goal.loop-core-preserved
loop-core-preserved c =
    leads_on c.args.core.now.state c.args.call c.requires c.calls_go_on.ensures c.loop-core.core.state c.loop-core.invariant c.in-Ok-go.field-0.kind c.go.new.self.state
    c.in-Ok-go.ensures.applies

pub unreachable-requires-in_default-go : goal.unreachable-requires-in_default-go
unreachable-requires-in_default-go c =
    go_not_refused c.args.core.now.state c.args.call c.requires c.calls_go_on.ensures c.loop-core.core.state c.loop-core.invariant c.in_default-go.field-0 c.go.new.self.state
    c.in_default-go.ensures.applies

pub unreachable-requires-in_default-end : goal.unreachable-requires-in_default-end
unreachable-requires-in_default-end c =
    end_not_refused c.args.core.now.state c.args.call c.requires c.calls_go_on.ensures c.loop-core.core.state c.loop-core.invariant c.in_default-end.field-0 c.end.new.self.state
    c.in_default-end.ensures.answers

pub returns : goal.returns
returns c =
    ends_so c.args.core.now.state c.args.call c.requires c.calls_go_on.ensures c.loop-core.core.state c.loop-core.invariant c.in-Ok-end.ended.entrant.id c.in-Ok-end.ended.reply
    c.end.new.self.state c.in-Ok-end.ensures.answers
