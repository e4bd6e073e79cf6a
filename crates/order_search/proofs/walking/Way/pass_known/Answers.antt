-- No order goes on from where the way has come.
use Rattle.std.proofs.Common.{length, sym, subst}
use Rattle.order_search.specs.Vocabulary.{hash_of}
use Rattle.order_search.specs.Marks.{AreMarked}
use Rattle.order_search.specs.Walks.{IsWay}
use Rattle.order_search.proofs.Ways.{way_known}
use Rattle.order_search.proofs.walking.Way.pass_known.Goals as goal

pub returns-then-branch-clause-way : goal.returns-then-branch-clause-way
returns-then-branch-clause-way c =
    let hash = hash_of c.args.hash in
    let history = c.args.events.now in
    let way = c.args.self.now in
    let is = c.requires.way.0 in
    let marks = subst (λ xs. AreMarked history way.ids.items xs) (sym c.as_slice.ensures.value) is.marks in
    let none = c.in_ok-has.ensures.none c.if-branch.true history way.ids.items c.requires.failures is.leads marks in
    let known = way_known hash history way.ids.items way.befores.items way.taken.items way.low way.next way.world (length history) is none in
    (subst (λ w. IsWay hash history way.ids.items way.befores.items way.taken.items way.low (length history) w) (sym c.in_ok-has.ensures.same) known, c.requires.way.1)
