use Rattle.std.proofs.Common.{◌≡◌, ◌∙◌, ℕ, List, Option, sym, ap, ap₂}
use Rattle.std.specs.FinMap as map
use Rattle.history.specs.declared.replies.Reply.{Reply}
use Rattle.history.specs.Worlds.{HandleMap, HandleState}
use Rattle.history.proofs.EntryMaps.{get_seen, removed_seen}
use Rattle.history.proofs.WorldSteps.{closed, not_closed}
use Rattle.history.proofs.worlds.World.close.Goals as goal

pub returns-in_err-remove : goal.returns-in_err-remove
returns-in_err-remove c =
    let none = get_seen c.self.inside.handles.entries c.args.self.now c.args.handle _ c.self.view_is c.in_err-remove.ensures.value in
    let same : map.from_entries c.remove.new.self.entries ≡ c.args.self.now = ap (λ (es : List (ℕ × HandleState)). map.from_entries es) c.in_err-remove.ensures.unchanged ∙ c.self.view_is in
    ap₂ (λ (r : Option Reply) (m : HandleMap). (r, m)) c.from_residual.ensures same ∙ not_closed c.args.self.now c.args.handle (sym none)

pub returns : goal.returns
returns c =
    let there = get_seen c.self.inside.handles.entries c.args.self.now c.args.handle _ c.self.view_is c.in_ok-remove.ensures.value in
    let gone = removed_seen c.self.inside.handles.entries c.remove.new.self.entries c.args.self.now c.args.handle c.self.view_is c.in_ok-remove.ensures.updates.0 in
    closed c.args.self.now _ c.args.handle c.in_ok-remove.field-0 (sym there) gone
