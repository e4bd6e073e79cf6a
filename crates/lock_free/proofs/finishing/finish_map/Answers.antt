use Rattle.std.proofs.Common.{◌≡◌, ◌≤◌, Some, ap, subst, sym, ◌∙◌}
use Rattle.std.specs.Slots.{slots_items}
use Rattle.std.proofs.lemmas.List.Elements.{All-pop}
use Rattle.lock_free.specs.declared.rules.View.{View}
use Rattle.lock_free.specs.declared.sizes.Sizes.{Sizes}
use Rattle.lock_free.specs.Finishing.{HasHeardMore}
use Rattle.lock_free.specs.Loading.{IsSound}
use Rattle.lock_free.specs.Seated.{Seated}
use Rattle.lock_free.proofs.Gathering.{finished_all, finished_none, none_rest}
use Rattle.lock_free.proofs.finishing.finish_map.Goals as goal

pub gather-requires-clause-table : goal.gather-requires-clause-table
gather-requires-clause-table c =
    let (rest, last) = All-pop (λ (seat : Seated). (seat.table ≡ c.args.board.shared.table_id) × (seat.view.sizes ≡ c.args.board.shared.key)) c.args.seats.items c.pop.new.self.items
    (Some c.in-Some.last) c.in-Some.ensures.items c.requires.seats in
    (c.into_actor-last.ensures.table ∙ last.0, λ k d low. (rest k d low).0)

pub gather-requires-clause-sound : goal.gather-requires-clause-sound
gather-requires-clause-sound c =
    let (rest, last) = All-pop (λ (seat : Seated). (seat.table ≡ c.args.board.shared.table_id) × (seat.view.sizes ≡ c.args.board.shared.key)) c.args.seats.items c.pop.new.self.items
    (Some c.in-Some.last) c.in-Some.ensures.items c.requires.seats in
    subst (λ t. IsSound t.words c.into_actor-last.result.me.0) last.0 (subst (IsSound c.in-Some.last.table.words) (sym c.into_actor-last.ensures.same) c.into_actor-last.ensures.sound)

pub returns-in_default : goal.returns-in_default
returns-in_default c =
    let none = none_rest c.args.seats.items _ c.args.seats.ok.0 c.in_default.ensures.cases.0 in
    finished_none (λ (seat : Seated). seat.view) c.every_order_is_legal.ensures c.args.board.shared.key (slots_items c.close.result.words) (slots_items c.close.result.slots) c.close.ensures.values.2
    c.args.seats.items none

pub returns : goal.returns
returns c =
    let v = c.gather.new.actor in
    let some_seats = subst (λ (z : Sizes). 1 ≤ z.seats) (sym (ap (λ (x : View). x.sizes) (c.gather.ensures.more.is ∙ ap (λ
    (x : View). record x { heard = v.me.0.heard }) c.into_actor-last.ensures.same)))
    c.into_actor-last.ensures.sound.bounds.1 in
    finished_all (λ (seat : Seated). seat.view) c.every_order_is_legal.ensures c.args.board.shared.key v.id v.me.0 some_seats (slots_items c.close_with.result.words)
    (slots_items c.close_with.result.slots)
    c.close_with.ensures.values.2 c.args.seats.items c.pop.new.self.items c.in-Some.last c.in-Some.ensures.items
    (subst (λ w. HasHeardMore w v.me.0) c.into_actor-last.ensures.same c.gather.ensures.more) c.gather.ensures.all
