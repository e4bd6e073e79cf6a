use Rattle.std.proofs.Common.{ap, sym, subst, ◌∙◌}
use Rattle.lock_free.specs.declared.rules.View.{View}
use Rattle.lock_free.specs.Alone.{WasLeft}
use Rattle.lock_free.specs.Loading.{IsSound}
use Rattle.lock_free.specs.Rules.{HasActor}
use Rattle.lock_free.specs.Seated.{HasGoneOn, IsSeated, Seated}
use Rattle.lock_free.proofs.Joins.{joined_on, joined_seated}
use Rattle.lock_free.proofs.seating.Seat.join.Goals as goal

pub invariant_of-self : goal.invariant_of-self
invariant_of-self c =
    let v = c.self.inside.actor.me.0 in
    let w = c.take_in.new.actor.me.0 in
    let table = ap (λ (s : Seated). s.table) c.self.view_is ∙ c.requires.table.0 in
    let same = ap (λ t. t.words) c.take_in.ensures.table in
    subst (λ n. IsSeated n w c.self.inside.number c.self.inside.last c.self.inside.stock.value) (sym same)
    (joined_seated c.self.inside.actor.table_id.words v c.into_actor.result.me.0 w c.take_in.ensures.joined
    (subst (λ t. IsSound t.words w) (sym table) c.take_in.ensures.sound) c.self.inside.number c.self.inside.last c.self.inside.stock.value c.self.invariant)

pub returns-clause-seat : goal.returns-clause-seat
returns-clause-seat c =
    let v = c.self.inside.actor.me.0 in
    let w = c.take_in.new.actor.me.0 in
    let after : Seated = record { table = c.take_in.new.actor.table_id; view = w } in
    subst (λ s. HasGoneOn s after) c.self.view_is
    (joined_on (record { table = c.self.inside.actor.table_id; view = v }) after c.take_in.ensures.table c.into_actor.result.me.0 c.take_in.ensures.joined)

pub returns-clause-left : goal.returns-clause-left
returns-clause-left c a has =
    c.take_in.ensures.joined.left a (subst (λ (x : View). HasActor x a) (sym c.into_actor.ensures.same) has)

pub returns-clause-still : goal.returns-clause-still
returns-clause-still c a was =
    c.take_in.ensures.joined.still a (subst (λ (s : Seated). WasLeft s.view a) (sym c.self.view_is) was)
