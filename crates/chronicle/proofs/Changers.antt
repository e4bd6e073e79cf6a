-- The operations whose changes main nodes are have begun.
use Rattle.std.proofs.Common.{◌≡◌, ◌==◌, ◌<◌, Bool, true, false, cond, List, [], ◌∷◌, find, All, Some, subst}
use Rattle.std.specs.Prelude.{IfSome, option_and_then}
use Rattle.std.proofs.lemmas.Option.{none-some}
use Rattle.std.proofs.lemmas.List.Elements.{All-head, All-tail}
use Rattle.history.specs.declared.events.Event.{Event}
use Rattle.history.specs.Histories.{begun}
use Rattle.slot_arena.specs.declared.refs.Ref.{Ref}
use Rattle.machine_model.specs.declared.records.Entrant.{Entrant}
use Rattle.machine_model.specs.declared.records.Publication.{Publication}
use Rattle.chronicle.specs.Chronicled.{IsByBegun}
use Rattle.chronicle.specs.Published.{changer_in}

pub begun_changer : (events : List Event) (published : List Publication) (main : Ref) (e : Entrant) → All (IsByBegun events) published → changer_in published main ≡ Some e → e.id < begun events
begun_changer events [] main e h is = absurd (none-some e is)
begun_changer events (p ∷ published) main e h is = by (p.main == main) (begun_changer events published main e (All-tail (IsByBegun events) p published h)) is
  where
    by : (b : Bool) → (changer_in published main ≡ Some e → e.id < begun events) →
        option_and_then (λ x. x.changer) (cond b (Some p) (find (λ x. x.main == main) published)) ≡ Some e → e.id < begun events
    by true rest here = subst (λ o. IfSome o (λ x. x.id < begun events)) here (All-head (IsByBegun events) p published h)
    by false rest here = rest here
