use Rattle.std.proofs.Common.{sym, ap, subst, ◌∙◌, arith}
use Rattle.nodes.specs.Levels.{flag_of}
use Rattle.lock_free.specs.BuildingUp.{HasLinked}
use Rattle.lock_free.specs.Passing.{IsPlaced}
use Rattle.lock_free.proofs.Leads.{first_none, first_leads, last_led, makes_rung, rung_none, next_link, next_none, next_leads, link_at, link_building, link_raised, rung_raised}
use Rattle.lock_free.proofs.RaisedLines.{raised_link}
use Rattle.lock_free.proofs.building.lead.Goals as goal

pub make_link-requires-clause-making : goal.make_link-requires-clause-making
make_link-requires-clause-making c =
    let (path, main, position, below, on, b, placed, deep) = c.requires.at in (
      below,
      link_at c.args.actor.now.me.0 c.args.by path main position below c.args.depth on b,
      subst (IsPlaced c.args.actor.now.me.0 below) (sym c.owned.ensures.slot) placed,
      (
        λ own. link_building c.args.actor.now.me.0 c.args.by path main position below c.args.depth on b,
        λ building. c.owned.ensures.own,
      ),
    )

pub make_link-requires-clause-raised : goal.make_link-requires-clause-raised
make_link-requires-clause-raised c =
    let (path, main, position, below, on, b, placed, deep) = c.requires.at in raised_link c.args.actor.now.me.0 path main position below c.args.depth on

pub returns-in_err-link-clause-led : goal.returns-in_err-link-clause-led
returns-in_err-link-clause-led c =
    subst (λ r. HasLinked c.args.actor.now.me.0 c.args.depth r c.make_link.new.actor.me.0) (sym c.from_residual.ensures)
    (first_none c.args.words.now.table_id.words c.args.actor.now.me.0 c.args.by c.args.depth c.args.main c.requires.at c.make_link.new.actor.me.0 (c.in_err-link.ensures {u = tt}).made)

pub loop-n-init : goal.loop-n-init
loop-n-init c =
    let deep = c.requires.at.7 in (
      c.make_link.ensures.table,
      c.make_link.ensures.sound,
      c.make_link.ensures.stock,
      first_leads c.args.words.now.table_id.words c.args.actor.now.me.0 c.args.by c.args.depth c.args.main c.requires.at c.make_link.new.actor.me.0 c.in_ok-link.link
          (c.in_ok-link.ensures {u = tt}).made,
      omega arith,
      omega (arith, deep),
    )

pub make_rung-requires-clause-making : goal.make_rung-requires-clause-making
make_rung-requires-clause-making c =
    let (t, sound, stock, leads, low, top) = c.loop-n.invariant in
    let more = c.loop-n-test.true in
    makes_rung c.args.words.now.table_id.words c.args.actor.now.me.0 c.args.by c.args.depth c.args.main c.requires.at c.loop-n.actor.me.0 c.loop-n.n c.loop-n.link leads low more c.flag_of-flag.result
    (c.flag_of-flag.ensures.flag ∙ ap (flag_of c.args.by.hash) (omega (arith, low, more)))

pub make_rung-requires-clause-raised : goal.make_rung-requires-clause-raised
make_rung-requires-clause-raised c =
    let (t, sound, stock, leads, low, top) = c.loop-n.invariant in
    let more = c.loop-n-test.true in
    rung_raised c.args.words.now.table_id.words c.args.actor.now.me.0 c.args.by c.args.depth c.args.main c.requires.at c.loop-n.actor.me.0 c.loop-n.n c.loop-n.link leads low more

pub make_link-requires-in-loop-n-clause-raised : goal.make_link-requires-in-loop-n-clause-raised
make_link-requires-in-loop-n-clause-raised c =
    let (t, sound, stock, leads, low, top) = c.loop-n.invariant in
    let more = c.loop-n-test.true in
    link_raised c.args.words.now.table_id.words c.args.actor.now.me.0 c.args.by c.args.depth c.args.main c.requires.at c.loop-n.actor.me.0 c.loop-n.n c.loop-n.link leads low more
    c.make_rung.new.actor.me.0 c.in_ok-rung.rung (c.in_ok-rung.ensures {u = tt}).made

pub returns-in_err-rung-clause-led : goal.returns-in_err-rung-clause-led
returns-in_err-rung-clause-led c =
    let (t, sound, stock, leads, low, top) = c.loop-n.invariant in
    let more = c.loop-n-test.true in
    subst (λ r. HasLinked c.args.actor.now.me.0 c.args.depth r c.make_rung.new.actor.me.0) (sym c.from_residual-in_err-rung.ensures)
    (rung_none c.args.words.now.table_id.words c.args.actor.now.me.0 c.args.by c.args.depth c.args.main c.requires.at c.loop-n.actor.me.0 c.loop-n.n c.loop-n.link leads low more
    c.make_rung.new.actor.me.0 (c.in_err-rung.ensures {u = tt}).made)

pub make_link-requires-in-loop-n-clause-making : goal.make_link-requires-in-loop-n-clause-making
make_link-requires-in-loop-n-clause-making c =
    let (t, sound, stock, leads, low, top) = c.loop-n.invariant in
    let more = c.loop-n-test.true in
    let (r, at, placed, building) =
    next_link c.args.words.now.table_id.words c.args.actor.now.me.0 c.args.by c.args.depth c.args.main c.requires.at c.loop-n.actor.me.0 c.loop-n.n c.loop-n.link leads low more
    c.make_rung.new.actor.me.0 c.in_ok-rung.rung (c.in_ok-rung.ensures {u = tt}).made in
    (r, at, subst (IsPlaced c.make_rung.new.actor.me.0 r) (sym c.owned-in-loop-n.ensures.slot) placed, (λ own. building, λ b. c.owned-in-loop-n.ensures.own))

pub returns-in_err-link-2-clause-led : goal.returns-in_err-link-2-clause-led
returns-in_err-link-2-clause-led c =
    let (t, sound, stock, leads, low, top) = c.loop-n.invariant in
    let more = c.loop-n-test.true in
    subst (λ r. HasLinked c.args.actor.now.me.0 c.args.depth r c.make_link-in-loop-n.new.actor.me.0) (sym c.from_residual-in_err-link-2.ensures)
    (next_none c.args.words.now.table_id.words c.args.actor.now.me.0 c.args.by c.args.depth c.args.main c.requires.at c.loop-n.actor.me.0 c.loop-n.n c.loop-n.link leads low more
    c.make_rung.new.actor.me.0 c.in_ok-rung.rung (c.in_ok-rung.ensures {u = tt}).made c.make_link-in-loop-n.new.actor.me.0 (c.in_err-link-2.ensures {u = tt}).made)

pub loop-n-preserved : goal.loop-n-preserved
loop-n-preserved c =
    let (t, sound, stock, leads, low, top) = c.loop-n.invariant in
    let more = c.loop-n-test.true in (
      c.make_link-in-loop-n.ensures.table ∙ c.make_rung.ensures.table ∙ t,
      c.make_link-in-loop-n.ensures.sound,
      c.make_link-in-loop-n.ensures.stock,
      next_leads c.args.words.now.table_id.words c.args.actor.now.me.0 c.args.by c.args.depth c.args.main c.requires.at c.loop-n.actor.me.0 c.loop-n.n c.loop-n.link leads low more
          c.make_rung.new.actor.me.0 c.in_ok-rung.rung (c.in_ok-rung.ensures {u = tt}).made c.make_link-in-loop-n.new.actor.me.0 c.in_ok-link-2.link (c.in_ok-link-2.ensures {u = tt}).made,
      omega (arith, low),
      omega (arith, more),
    )

pub returns-clause-led : goal.returns-clause-led
returns-clause-led c =
    let (t, sound, stock, leads, low, top) = c.loop-n.invariant in
    let done = c.loop-n-test.false in
    last_led c.args.words.now.table_id.words c.args.actor.now.me.0 c.args.by c.args.depth c.args.main c.requires.at c.loop-n.actor.me.0 c.loop-n.n c.loop-n.link leads low (omega (arith, top, done))
