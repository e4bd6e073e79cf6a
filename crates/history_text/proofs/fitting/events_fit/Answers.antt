use Rattle.std.proofs.Common.{All, subst, arith}
use Rattle.std.proofs.lemmas.List.{take_all}
use Rattle.std.proofs.lemmas.List.Elements.{All-more}
use Rattle.history_text.specs.Grammar.{EventFits}
use Rattle.history_text.proofs.fitting.events_fit.Goals as goal

pub loop-event-preserved : goal.loop-event-preserved
loop-event-preserved c =
    All-more EventFits c.args.events.now c.loop-event.event-index c.event-item.result c.loop-event-test.true c.loop-event.invariant
    (subst EventFits c.event-item.is c.event_fits.ensures)

pub returns : goal.returns
returns c = subst (All EventFits) (take_all _ _ (omega arith)) c.loop-event.invariant
