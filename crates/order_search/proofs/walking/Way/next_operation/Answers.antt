-- Where none may come next, the way ends there; and where it has no operation left, no order is legal.
use Rattle.std.proofs.Common.{◌≡◌, ◌<◌, Bool, [], length, not, ap, sym, subst, ◌∙◌}
use Rattle.order_search.specs.Vocabulary.{hash_of}
use Rattle.history.proofs.Places.{option_untested}
use Rattle.order_search.specs.declared.walking.Way.{Way}
use Rattle.order_search.specs.Searching.{NoneGoesOn}
use Rattle.order_search.specs.Marks.{Chooses}
use Rattle.order_search.specs.Walks.{IsWayOf, GoesBack}
use Rattle.order_search.proofs.Ways.{way_exhausted}
use Rattle.order_search.proofs.walking.Way.next_operation.Goals as goal

pub note_failure-requires-clause-none : goal.note_failure-requires-clause-none
note_failure-requires-clause-none c =
    let way = c.loop-found.self in
    let so_far = c.loop-found.invariant in
    let none = subst (λ o. Chooses o c.args.events.now way.taken.items way.next) (option_untested c.loop-found.found (c.is_none.ensures ∙ ap not c.loop-found-test.true)) so_far.1 in
    way_exhausted (hash_of c.args.hash) c.args.events.now way.ids.items way.befores.items way.taken.items way.low way.next way.world c.args.table.now c.requires.known so_far.0.0 so_far.0.1 none

pub go_back-requires-clause-way : goal.go_back-requires-clause-way
go_back-requires-clause-way c = subst (λ (w : Way). IsWayOf (hash_of c.args.hash) c.args.events.now w) (sym c.in_ok-note_failure.ensures.same) c.loop-found.invariant.0.0

pub go_back-requires-clause-none : goal.go_back-requires-clause-none
go_back-requires-clause-none c =
    let way = c.loop-found.self in
    let so_far = c.loop-found.invariant in
    let none = subst (λ o. Chooses o c.args.events.now way.taken.items way.next) (option_untested c.loop-found.found (c.is_none.ensures ∙ ap not c.loop-found-test.true)) so_far.1 in
    let never = way_exhausted (hash_of c.args.hash) c.args.events.now way.ids.items way.befores.items way.taken.items way.low way.next way.world c.args.table.now
    c.requires.known so_far.0.0 so_far.0.1 none in
    subst (λ (w : Way). NoneGoesOn (hash_of c.args.hash) c.args.events.now w.ids.items) (sym c.in_ok-note_failure.ensures.same) never

pub returns-then-not-branch-clause-tries : goal.returns-then-not-branch-clause-tries
returns-then-not-branch-clause-tries c =
    let way = c.loop-found.self in
    let so_far = c.loop-found.invariant in
    let hash = hash_of c.args.hash in
    let history = c.args.events.now in
    let none = subst (λ o. Chooses o history way.taken.items way.next) (option_untested c.loop-found.found (c.is_none.ensures ∙ ap not c.loop-found-test.true)) so_far.1 in
    let never = way_exhausted hash history way.ids.items way.befores.items way.taken.items way.low way.next way.world c.args.table.now c.requires.known so_far.0.0 so_far.0.1 none in
    let P : Bool → Type 0 = λ back. GoesBack back hash history c.note_failure.new.self c.go_back.new.self in
    let empty = subst P c.if-not-branch.true c.in_ok-go_back.ensures.back in
    let was : way.ids.items ≡ [] = sym (ap (λ (w : Way). w.ids.items) c.in_ok-note_failure.ensures.same) ∙ empty in
    subst (λ xs. NoneGoesOn hash history xs) was never

pub loop-found-smaller : goal.loop-found-smaller
loop-found-smaller c = subst (λ (w : Way). length c.go_back.new.self.ids.items < length w.ids.items) c.in_ok-note_failure.ensures.same (c.in_ok-go_back.ensures.shorter c.if-not-branch.false)
