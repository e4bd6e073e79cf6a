use Rattle.std.proofs.Common.{◌≡◌, ◌∙◌, sym, ap}
use Rattle.std.specs.FinMap as map
use Rattle.std.specs.Option.{option_copied}
use Rattle.history.specs.Worlds.{HandleState, KeyMap}
use Rattle.history.specs.Effects.{naming}
use Rattle.history.proofs.EntryMaps.{put_seen, none_from}
use Rattle.history.proofs.WorldSteps.{copied}
use Rattle.history.proofs.worlds.World.copy.Goals as goal

pub returns-clause-answer : goal.returns-clause-answer
returns-clause-answer c =
    let w = c.args.self.now in
    let number = c.in-Some-opens.number in
    let absent = sym c.find.ensures ∙ ap (λ r. option_copied r) (none_from _ _ c.is_some.ensures c.if-is_some.false) in
    let opened : map.from_entries c.insert.new.self.entries ≡ naming w number c.args.access c.in-Some.source.now =
    put_seen c.self.inside.handles.entries c.insert.new.self.entries w number c.new.result c.self.view_is c.in_ok-insert.ensures.updates.0
    ∙ ap (λ (s : HandleState). map.insert w number s) c.new.ensures
    ∙ ap (λ (m : KeyMap). naming w number c.args.access m) c.in_ok-copy.ensures.same in
    copied w _ c.args.handle number c.args.opens c.args.access c.in-Some.source.now (sym c.in-Some.ensures) c.in-Some-opens.is absent opened
