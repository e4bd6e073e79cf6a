use Rattle.std.proofs.Common.{arith, ◌≡◌, subst}
use Rattle.machine_core.specs.Vocabulary.{node_at}
use Rattle.machine_core.specs.Renewing.{IsOn}
use Rattle.machine_core.proofs.renewing.renew_down.Goals as goal

pub loop-depth-init : goal.loop-depth-init
loop-depth-init c =
    let (start, actor, call, own, on) = c.requires.on in
    record { start = start; actor = actor; call = call; own = own; is = on; each = λ start actor call own on. on }

pub go_below-indirection-requires : goal.go_below-indirection-requires
go_below-indirection-requires c =
    let so_far = c.loop-depth.invariant in
    record { on = (so_far.start, so_far.actor, so_far.call, c.args.place, node_at c.args.parts.now.heap.heap c.args.place.main, so_far.own, omega arith, so_far.is) }

pub loop-depth-preserved : goal.loop-depth-preserved
loop-depth-preserved c =
    let so_far = c.loop-depth.invariant in
    let node = node_at c.args.parts.now.heap.heap c.args.place.main in
    record {
      start = so_far.start;
      actor = so_far.actor;
      call = so_far.call;
      own = so_far.own;
      is = c.go_below-indirection.ensures so_far.start so_far.actor so_far.call c.args.place node so_far.own (omega arith) so_far.is;
      each = λ start actor call own on. c.go_below-indirection.ensures start actor call c.args.place node own (omega arith) (so_far.each start actor call own on);
    }

pub returns-clause-on : goal.returns-clause-on
returns-clause-on c start actor call own on =
    let down : c.loop-depth.depth ≡ c.args.place.depth = omega (arith, c.loop-depth-test.false, c.loop-depth.auto.depth-end) in
    subst (λ d. IsOn start c.loop-depth.parts actor call c.args.root c.args.place (node_at c.args.parts.now.heap.heap c.args.place.main) d c.loop-depth.indirection) down
    (c.loop-depth.invariant.each start actor call own on)
