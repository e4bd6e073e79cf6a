use Rattle.std.proofs.Common.{arith, ◌≡◌, ◌+◌, ◌-◌, ◌*◌, suc, refl, subst}
use Rattle.machine_core.specs.Vocabulary.{with_links}
use Rattle.machine_core.specs.Beneath.proof_straight.specs.Drafts.{with_made}
use Rattle.machine_core.specs.Pairing.{IsMade, Makes}
use Rattle.machine_core.proofs.Paired.{can_fewer, links_first, links_last, links_next, makes_on, rung_lives}
use Rattle.machine_core.proofs.pairing.link_down.Goals as goal

pub loop-at-init : goal.loop-at-init
loop-at-init c = record {
  within = (c.requires.below, omega arith);
  lives = c.make_more-link.ensures.lives;
  makes = subst (λ n. Makes n c.args.heap.now c.args.made.now.items c.make_more-link.new.heap c.make_more-link.new.made.items)
      (let same : 1 ≡ 2 * (c.args.depth - c.args.depth) + 1 = omega arith in same) c.make_more-link.ensures.makes;
  links = λ state call root draft all levels is g h a b.
      links_first state call root c.args.from all levels c.args.depth draft c.args.generation c.args.heap.now c.make_more-link.new.heap c.args.made.now.items c.make_more-link.new.made.items
      c.args.main c.make_more-link.result a b is g (c.make_more-link.ensures.drafts state draft c.args.main is);
}

pub make_more-above-requires-clause-can : goal.make_more-above-requires-clause-can
make_more-above-requires-clause-can c =
    let inv = c.loop-at.invariant in
    inv.makes.can 1 (can_fewer c.args.heap.now c.args.made.now.items (2 * (c.args.depth - c.args.from) + 1) (2 * (c.args.depth - c.loop-at.at) + 1 + 1)
    (omega (arith, c.loop-at-test.true, inv.within.0, inv.within.1)) c.requires.can)

pub make_more-above-requires-clause-live : goal.make_more-above-requires-clause-live
make_more-above-requires-clause-live c =
    rung_lives c.loop-at.heap.heap c.args.hash (c.loop-at.at - 1) c.loop-at.link c.rung.result c.rung.ensures.node c.loop-at.invariant.lives

pub make_more-link-requires-in-loop-at-clause-can : goal.make_more-link-requires-in-loop-at-clause-can
make_more-link-requires-in-loop-at-clause-can c =
    let inv = c.loop-at.invariant in
    c.make_more-above.ensures.makes.can 1 (inv.makes.can 2 (can_fewer c.args.heap.now c.args.made.now.items (2 * (c.args.depth - c.args.from) + 1)
    (2 * (c.args.depth - c.loop-at.at) + 1 + 2) (omega (arith, c.loop-at-test.true, inv.within.0, inv.within.1)) c.requires.can))

pub loop-at-preserved : goal.loop-at-preserved
loop-at-preserved c =
    let inv = c.loop-at.invariant in
    let above = c.make_more-above in
    let link = c.make_more-link-in-loop-at in
    record {
      within = (omega (arith, c.loop-at-test.true), omega (arith, inv.within.1));
      lives = link.ensures.lives;
      makes = makes_on (2 * (c.args.depth - c.loop-at.at) + 1) 2 (2 * (c.args.depth - (c.loop-at.at - 1)) + 1) c.args.heap.now c.loop-at.heap link.new.heap c.args.made.now.items
          c.loop-at.made.items link.new.made.items (omega (arith, c.loop-at-test.true, inv.within.0, inv.within.1)) inv.makes
          (makes_on 1 1 2 c.loop-at.heap above.new.heap link.new.heap c.loop-at.made.items above.new.made.items link.new.made.items refl above.ensures.makes link.ensures.makes);
      links = λ state call root draft all levels is g h a b.
          links_next state call root c.args.from levels (c.loop-at.at - 1) (with_links state call root c.args.from all draft) c.args.generation c.args.hash c.loop-at.heap above.new.heap
          link.new.heap c.loop-at.made.items above.new.made.items link.new.made.items c.loop-at.link above.result link.result
          (inv.links state call root draft all (suc levels) is g h a (omega (arith, b, c.loop-at-test.true))) b g h
          (λ d was. subst (λ n. IsMade state (with_made state d n) above.new.heap above.new.made.items above.result) c.rung.ensures.node (above.ensures.drafts state d c.loop-at.link was))
          (λ d was. link.ensures.drafts state d above.result was);
    }

pub returns-clause-drafts : goal.returns-clause-drafts
returns-clause-drafts c state call root draft levels is g h deep =
    links_last state call root c.args.from 0 (with_links state call root c.args.from levels draft) c.loop-at.heap c.loop-at.made.items c.loop-at.link refl
    (c.loop-at.invariant.links state call root draft levels 0 is g h deep (omega (arith, c.loop-at-test.false, c.loop-at.invariant.within.0)))

pub returns-clause-makes : goal.returns-clause-makes
returns-clause-makes c =
    subst (λ n. Makes n c.args.heap.now c.args.made.now.items c.loop-at.heap c.loop-at.made.items)
    (let same : 2 * (c.args.depth - c.loop-at.at) + 1 ≡ 2 * (c.args.depth - c.args.from) + 1 = omega (arith, c.loop-at-test.false, c.loop-at.invariant.within.0) in same)
    c.loop-at.invariant.makes

pub returns-clause-lives : goal.returns-clause-lives
returns-clause-lives c = c.loop-at.invariant.lives
