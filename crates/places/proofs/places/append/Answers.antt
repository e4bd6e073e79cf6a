use Rattle.std.proofs.Common.{◌++◌, ◌∙◌, ap, map}
use Rattle.std.proofs.lemmas.List.{take_all}
use Rattle.places.specs.Places.{rising, ids_by_place}
use Rattle.places.proofs.Rising.{sorted_is_rising}
use Rattle.places.proofs.places.append.Goals as goal

pub returns : goal.returns
unfolding ids_by_place
returns c =
    let up = sorted_is_rising c.extend_from_slice.new.self.items c.sort.new.self.items c.sort.ensures.permutation c.in_ok-sort.ensures.sorted in
    let all = take_all c.loop-place.place-index c.deref-place-items.result.now c.loop-place-test.false in
    let both = c.in_ok-extend_from_slice.ensures.items ∙ ap (λ ps. ps ++ c.args.stray.now) c.in_ok-sorted.ensures.items in
    c.loop-place.invariant ∙ ap (λ ps. c.args.order.now.items ++ map (λ place. place.id) ps) (all ∙ c.deref-place-items.ensures.value ∙ up ∙ ap rising both)
