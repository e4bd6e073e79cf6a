use Rattle.std.proofs.Common.{◌<◌, ◌-◌, sym, ap, subst, ◌∙◌, arith}
use Rattle.lock_free.specs.Loading.{IsSound}
use Rattle.lock_free.specs.Seated.{HasSplit, IsSeated, Seated}
use Rattle.lock_free.specs.Stocks.{Stocked}
use Rattle.lock_free.proofs.Moments.{load_allowed}
use Rattle.lock_free.proofs.SeatsMade.{left_seated, right_seated, splits_so}
use Rattle.lock_free.proofs.seating.Seat.split.Goals as goal

pub load-requires : goal.load-requires
load-requires c =
    let a = c.self.inside.actor in
    let size = c.self.invariant.sound.size in
    let table = ap (λ (s : Seated). s.table) c.self.view_is ∙ c.requires.table in
    let words = ap (λ t. t.words) table in
    let some_seats = c.self.invariant.sound.bounds.1 in
    (table, omega (arith, size, words), load_allowed c.args.words.now.key c.args.words.now.table_id.slots a.id a.me 0 some_seats)

pub invariant_of-self : goal.invariant_of-self
invariant_of-self c =
    let is = c.self.invariant in
    let a = c.self.inside.actor in
    let s = c.split-actor in
    let more = subst (λ (x : Seated). x.view.actor < x.view.last) (sym c.self.view_is) c.requires.more in
    let table = ap (λ (x : Seated). x.table) c.self.view_is ∙ c.requires.table in
    left_seated s.new.actor.table_id.words a.me.0 0 c.load.result c.load.new.seat.me.0 c.load.ensures.2.0 is.rests is.actors more s.new.actor.me.0 (ap (λ me. me.0) s.ensures.left)
    (subst (λ t. IsSound t.words s.new.actor.me.0) (sym (s.ensures.table.0 ∙ c.load.ensures.0 ∙ table)) s.ensures.sound.0) c.self.inside.number (c.self.inside.last - 1) is.its
    (ap (λ k. k - 1) is.its_last) c.self.inside.stock.value is.owns

pub invariant_of-result : goal.invariant_of-result
invariant_of-result c =
    let is = c.self.invariant in
    let a = c.self.inside.actor in
    let s = c.split-actor in
    let none = c.new.ensures in
    let more = subst (λ (x : Seated). x.view.actor < x.view.last) (sym c.self.view_is) c.requires.more in
    let table = ap (λ (x : Seated). x.table) c.self.view_is ∙ c.requires.table in
    subst (IsSeated s.result.table_id.words s.result.me.0 c.self.inside.last c.self.inside.last) (sym (c.in_ok-stock.ensures {u = tt}).ok)
    (right_seated s.result.table_id.words a.me.0 0 c.load.result c.load.new.seat.me.0 c.load.ensures.2.0 is.rests is.actors more s.result.me.0 (ap (λ me. me.0) s.ensures.right)
    (subst (λ t. IsSound t.words s.result.me.0) (sym (s.ensures.table.1 ∙ c.load.ensures.0 ∙ table)) s.ensures.sound.1) c.self.inside.last is.its_last c.new.result
    (none.sizes ∙ c.sizes.ensures ∙ ap (λ (x : Stocked). x.sizes) c.deref.ensures ∙ is.owns.sizes)
    (record { small = none.small; medium = none.medium; wide = none.wide; parted = none.parted; made = none.made; limbo = none.limbo }))

pub returns-clause-split : goal.returns-clause-split
returns-clause-split c =
    let is = c.self.invariant in
    let a = c.self.inside.actor in
    let s = c.split-actor in
    let more = subst (λ (x : Seated). x.view.actor < x.view.last) (sym c.self.view_is) c.requires.more in
    let left : Seated = record { table = s.new.actor.table_id; view = s.new.actor.me.0 } in
    let right : Seated = record { table = s.result.table_id; view = s.result.me.0 } in
    subst (λ x. HasSplit x left right) c.self.view_is
    (splits_so a.table_id.words a.me.0 0 c.load.result c.load.new.seat.me.0 c.load.ensures.2.0 is.rests is.actors more a.table_id left right (s.ensures.table.0 ∙ c.load.ensures.0)
    (s.ensures.table.1 ∙ c.load.ensures.0) (ap (λ me. me.0) s.ensures.left) (ap (λ me. me.0) s.ensures.right))
