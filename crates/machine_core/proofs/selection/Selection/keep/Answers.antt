use Rattle.std.proofs.Common.{◌≡◌, true, sym, subst, ◌∙◌, arith}
use Rattle.std.proofs.lemmas.List.{get_or_default}
use Rattle.std.specs.BinaryHeap.{heap_items}
use Rattle.machine_core.proofs.Selected.{added, exchanged, left_out, less, not_less}
use Rattle.machine_core.proofs.Sorting.{compared}
use Rattle.machine_core.proofs.selection.Selection.keep.Goals as goal

pub returns-then-len-self-clause-least : goal.returns-then-len-self-clause-least
returns-then-len-self-clause-least c =
    added c.args.self.now.room c.args.pair (heap_items c.args.self.now.pairs) (heap_items c.push.new.self) c.in_ok-push.ensures.permutation
    (let h = c.if-len-self.true in let k = c.len.ensures in let long = c.args.self.now.pairs.data.ok.0 in omega (arith, h, k, long))

pub returns-then-ge-clause-least : goal.returns-then-ge-clause-least
returns-then-ge-clause-least c =
    left_out c.args.self.now.room c.args.pair c.in-Some.greatest.now (heap_items c.args.self.now.pairs) (c.in-Some.ensures.greatest c.args.self.now.ordered)
    (not_less c.args.pair c.in-Some.greatest.now (sym c.ge.ensures ∙ c.if-ge.true))
    (let h = c.if-len-self.false in let k = c.len.ensures in let long = c.args.self.now.pairs.data.ok.0 in let few = c.args.self.now.few in omega (arith, h, k, long, few))

pub returns-clause-least : goal.returns-clause-least
returns-clause-least c =
    exchanged c.args.self.now.room c.args.pair c.in-Some-pop.field-0 (heap_items c.args.self.now.pairs) (heap_items c.pop.new.self) (heap_items c.push-2.new.self)
    c.in-Some-pop.ensures.permutation (c.in-Some-pop.ensures.below_top c.args.self.now.ordered) (subst (λ greatest. compared c.args.pair greatest ≡ true)
    (c.in-Some.ensures.lookup
    ∙ get_or_default (heap_items c.args.self.now.pairs) 0 c.in-Some.greatest.now c.in-Some-pop.field-0
    (let left = c.in-Some-pop.ensures.len in let long = c.args.self.now.pairs.data.ok.0 in omega (arith, left, long))
    ∙ sym c.in-Some-pop.ensures.top)
    (less c.args.pair c.in-Some.greatest.now (sym c.ge.ensures ∙ c.if-ge.false)))
    c.in_ok-push-2.ensures.permutation
    (let h = c.if-len-self.false in let k = c.len.ensures in let long = c.args.self.now.pairs.data.ok.0 in let few = c.args.self.now.few in omega (arith, h, k, long, few))
