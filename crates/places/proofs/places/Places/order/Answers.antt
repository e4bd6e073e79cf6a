use Rattle.std.proofs.Common.{◌≡◌, ◌++◌, ◌∙◌, ap, arith}
use Rattle.std.specs.Prelude.{count_by}
use Rattle.places.specs.Places.{ids_by_place}
use Rattle.places.specs.Segments.{Listing}
use Rattle.ctrie_base.proofs.Sorting.{permuted_alike}
use Rattle.places.proofs.Rising.{sorted_list_rises}
use Rattle.places.proofs.Cuts.{rising_cut, ids_alike, counts_joined}
use Rattle.places.proofs.places.Places.order.Goals as goal

pub joined-requires-clause-listed : goal.joined-requires-clause-listed
joined-requires-clause-listed c = rw (c.as_slice-2.ensures.value, c.as_slice-3.ensures) c.self.invariant.0.cut

pub joined-requires-clause-late : goal.joined-requires-clause-late
joined-requires-clause-late c = λ k d within. rw c.as_slice-4.ensures.value (rising_cut _ c.sort.new.self.items (sorted_list_rises c.sort.new.self.items c.in_ok-sort.ensures.sorted))

pub returns-clause-order : goal.returns-clause-order
returns-clause-order c =
    let listed = c.self.inside.listed.places.items in
    let stray = c.self.inside.stray.places.items in
    let sorted = c.sort.new.self.items in
    let late : c.in_ok-late.late.items ≡ stray = c.in_ok-late.ensures.items ∙ c.as_slice.ensures in
    c.in_ok-joined.ensures
    ∙ rw (c.as_slice-3.ensures, c.as_slice-4.ensures.value)
    (ids_alike (listed ++ sorted) c.self.inside.arrivals.items
    (λ t. omega (arith, counts_joined t listed sorted, permuted_alike c.in_ok-late.late.items sorted c.sort.ensures.permutation t, ap (count_by t) late, c.self.invariant.0.all t)))
    ∙ ap (λ (v : Listing). ids_by_place v.places) c.self.view_is
