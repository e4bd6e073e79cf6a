use Rattle.std.proofs.Common.{◌≡◌, Err, sym, ap, ◌∙◌, subst}
use Rattle.machine_model.specs.declared.steps.Step.TheVariants as steps
use Rattle.machine_core.specs.Vocabulary.{next, Applies, Worked}
use Rattle.machine_core.specs.Seen.{seen}
use Rattle.machine_core.specs.Told.{published_in, stepped}
use Rattle.machine_core.specs.Work.{worked}
use Rattle.machine_core.proofs.Roomed.{on_err}
use Rattle.machine_core.proofs.Steps.{applies_stepped, refused_so}
use Rattle.machine_core.proofs.machine.Core.go_publishing.Goals as goal

pub take_go-requires-clause-told : goal.take_go-requires-clause-told
take_go-requires-clause-told c = c.requires.told ∙ ap (λ (w : Worked). published_in w.state c.args.actor) (sym c.self.view_is)

pub returns-in-Some-clause-applies : goal.returns-in-Some-clause-applies
returns-in-Some-clause-applies c =
    subst (λ (w : Worked). Applies (Err c.in-Some.refusal) w.state c.args.actor (next w.state (steps.Go c.args.actor)) w.state) c.self.view_is
    (refused_so (seen c.self.inside.parts) c.args.actor c.in-Some.refusal (sym c.in-Some.ensures))

pub returns-in-None-clause-applies : goal.returns-in-None-clause-applies
returns-in-None-clause-applies c =
    let before = c.self.inside.parts in
    let after = c.take_go.new.parts in
    let taken = c.take_go.ensures in
    subst (λ (w : Worked). Applies (stepped c.take_go.result) w.state c.args.actor (next w.state (steps.Go c.args.actor)) (seen after)) c.self.view_is
    (applies_stepped (seen before) (seen after) c.args.actor c.take_go.result (sym c.in-None.ensures) taken.taken
    (on_err c.take_go.result (worked after ≡ worked before) (seen after ≡ seen before) (λ same. ap (λ (w : Worked). w.state) same) taken.err) taken.only_memory taken.only_walks)
