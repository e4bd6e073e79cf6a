use Rattle.std.proofs.Common.{false, refl, sym, ap, ◌∙◌}
use Rattle.shared_map.specs.Turning.{call_of}
use Rattle.shared_map.proofs.CallAll.{turned_from, turns_ok}
use Rattle.shared_map.proofs.Counted.{is_any_tight, measured}
use Rattle.shared_map.proofs.Turns.{tight_is}
use Rattle.shared_map.proofs.wholes.turn_all.Goals as goal

pub returns-then-measuring-clause-turns : goal.returns-then-measuring-clause-turns
returns-then-measuring-clause-turns g c =
    let (same, worn, tight) = measured (record { call = c.call.result; restores = false; is_worn_out = false; is_tight = false }) c.visit_each.new.visitor (g.S.Shards.items c.args.shards.now)
    (g.S.Shards.items c.visit_each.new.shards) c.visit_each.ensures.visited in
    (sym worn ∙ c.if-measuring.true, same)

pub returns-then-measuring-2-clause-turns : goal.returns-then-measuring-2-clause-turns
returns-then-measuring-2-clause-turns g c =
    let (same, worn, tight) = measured (record { call = c.call.result; restores = false; is_worn_out = false; is_tight = false }) c.visit_each.new.visitor (g.S.Shards.items c.args.shards.now)
    (g.S.Shards.items c.visit_each.new.shards) c.visit_each.ensures.visited in (
      sym worn ∙ c.if-measuring.false,
      tight_is (call_of c.args.turn) (g.S.Shards.items c.args.shards.now)
          (ap (λ n. is_any_tight n (g.S.Shards.items c.args.shards.now)) (sym c.call.ensures) ∙ sym tight ∙ c.if-measuring-2.true),
      same,
    )

pub returns-clause-turns : goal.returns-clause-turns
returns-clause-turns g c =
    let (same, worn, tight) = measured (record { call = c.call.result; restores = false; is_worn_out = false; is_tight = false }) c.visit_each.new.visitor (g.S.Shards.items c.args.shards.now)
    (g.S.Shards.items c.visit_each.new.shards) c.visit_each.ensures.visited in
    let roomy = ap (λ n. is_any_tight n (g.S.Shards.items c.args.shards.now)) (sym c.call.ensures) ∙ sym tight ∙ c.if-measuring-2.false in
    turns_ok c.args.turn (g.S.Shards.items c.args.shards.now) (g.S.Shards.items c.visit_each-2.new.shards) c.reply.result c.reply.ensures (sym worn ∙ c.if-measuring.false) roomy
    (turned_from c.args.turn (record { turn = c.args.turn }) c.visit_each-2.new.visitor (g.S.Shards.items c.args.shards.now) (g.S.Shards.items c.visit_each.new.shards)
    (g.S.Shards.items c.visit_each-2.new.shards) same refl c.visit_each-2.ensures.visited (sym worn ∙ c.if-measuring.false) roomy)
