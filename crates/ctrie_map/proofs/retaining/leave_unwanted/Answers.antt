use Rattle.std.proofs.Common.{ℕ, List, arith, of_calls, subst, sym}
use Rattle.ctrie_map.specs.Retaining.{Sifts}
use Rattle.ctrie_map.proofs.Sifted.{asked_now, asked_then, ends, goes_on}
use Rattle.ctrie_map.proofs.retaining.leave_unwanted.Goals as goal

pub f-wants-requires : goal.f-wants-requires
f-wants-requires g c =
    asked_now _ c.args.f c.args.pairs.now.items c.loop-at.f c.loop-at.f c.loop-at.pairs.items c.loop-at.at c.loop-at.many (omega (arith, c.loop-at-test.true, c.len.ensures))
    c.loop-at.invariant.1 c.loop-at.invariant.3 c.index.result.now c.index.ensures _ c.loop-at.invariant.0

pub loop-at-preserved : goal.loop-at-preserved
loop-at-preserved g c = (
  asked_then _ c.args.f c.args.pairs.now.items c.loop-at.f c.f-wants.new.self c.loop-at.pairs.items c.loop-at.at c.loop-at.many (omega (arith, c.loop-at-test.true, c.len.ensures))
      c.loop-at.invariant.1 c.loop-at.invariant.3 c.index.result.now c.index.ensures _ c.loop-at.invariant.0 c.f-wants.result c.f-wants.ensures c.settle-many.new.pairs.items
      c.settle-many.ensures.settled,
  search of_calls,
  search of_calls,
  goes_on _ c.args.f c.args.pairs.now.items c.loop-at.f c.f-wants.new.self c.loop-at.pairs.items c.loop-at.at c.loop-at.many (omega (arith, c.loop-at-test.true, c.len.ensures))
      c.loop-at.invariant.1 c.loop-at.invariant.3 c.index.result.now c.index.ensures c.f-wants.result c.f-wants.ensures c.settle-many.new.pairs.items c.settle-many.ensures.settled
      c.settle-many.result c.settle-many.ensures.counted,
)

pub returns : goal.returns
returns g c =
    let so = ends _ c.args.f c.args.pairs.now.items c.loop-at.f c.loop-at.pairs.items c.loop-at.at c.loop-at.many (omega (arith, c.loop-at-test.false, c.len.ensures)) c.loop-at.invariant.3 in
    (so.0, subst (Sifts _ c.args.f c.args.pairs.now.items so.0) (sym {A = List (ℕ × ℕ)} c.truncate.ensures.items) so.1)
