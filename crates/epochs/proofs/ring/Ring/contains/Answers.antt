use Rattle.std.proofs.Common.{◌<◌, List, ◌++◌, map, sym, ap, ◌∙◌, subst, arith}
use Rattle.slot_arena.specs.declared.refs.Ref.{Ref}
use Rattle.slot_arena.specs.Refs.{slot_of}
use Rattle.slot_arena.specs.Tallies.{naming}
use Rattle.slot_arena.proofs.Times.{bit}
use Rattle.epochs.specs.Rings.{Ringed, all_of}
use Rattle.epochs.proofs.Bags.{naming_map}
use Rattle.epochs.proofs.ring.Ring.contains.Goals as goal
use Rattle.slot_arena.proofs.Marks.{noted_marked}

pub returns-clause-is_in : goal.returns-clause-is_in
returns-clause-is_in c =
    let all = ap (λ (b : Ringed). all_of b.bags) c.self.view_is in
    let bags : List Ref = c.self.inside.oldest.items ++ c.self.inside.middle.items ++ c.self.inside.present.items in (
      λ yes_in. subst (λ rs. 0 < naming c.args.slot rs) all (omega (arith, naming_map c.args.slot bags, c.self.invariant.marked.0 c.args.slot, ap bit (sym c.read.ensures.flag ∙ yes_in))),
      λ some. c.read.ensures.flag ∙ noted_marked (map slot_of bags) c.self.inside.is_in.marks c.args.slot c.self.invariant.marked
          (subst (λ n. 0 < n) (ap (naming c.args.slot) (sym all) ∙ naming_map c.args.slot bags) some),
    )
