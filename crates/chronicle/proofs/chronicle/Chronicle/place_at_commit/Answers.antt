use Rattle.std.proofs.Common.{◌<◌, ◌∙◌, sym, subst}
use Rattle.history.specs.Histories.{begun}
use Rattle.chronicle.specs.Chronicled.{Chronicled, HasBegun}
use Rattle.chronicle.proofs.Changers.{begun_changer}
use Rattle.chronicle.proofs.chronicle.Chronicle.place_at_commit.Goals as goal

pub returns-in-Some-clause-of_id : goal.returns-in-Some-clause-of_id
returns-in-Some-clause-of_id c =
    let events = c.self.inside.events.items in
    let changer = begun_changer events c.self.inside.publications.published c.args.main c.in-Some.changer c.self.invariant.0.changers (sym c.changer_of.ensures ∙ c.in-Some.is) in
    let below : c.place_of.result.id < begun events = subst (λ id. id < begun events) (sym c.place_of.ensures.id) changer in
    subst (λ (v : Chronicled). HasBegun v.past c.place_of.result.id) c.self.view_is below
