use Rattle.std.proofs.Common.{◌≡◌, None, ap, sym, subst, ◌∙◌}
use Rattle.ctrie_map.specs.Beneath.map_worlds.specs.Worlds.{world_of}
use Rattle.ctrie_map.specs.Cores.{Carries, adds, core_denial}
use Rattle.ctrie_map.proofs.ByName.{adds_so, changed, core_changes, frozen, not_open}
use Rattle.ctrie_map.proofs.named_calls.change.Goals as goal

pub returns-in_default-clause-performs : goal.returns-in_default-clause-performs
returns-in_default-clause-performs c =
    not_open c.args.core.now.state c.args.names.now c.requires.whole c.handle.result c.args.call (sym c.handle.ensures) (sym c.find.ensures ∙ c.in_default.is)

pub returns-in-ReadOnly-clause-performs : goal.returns-in-ReadOnly-clause-performs
returns-in-ReadOnly-clause-performs c =
    frozen c.args.core.now.state c.args.names.now c.requires.whole c.handle.result c.in-Some.name (sym c.find.ensures ∙ c.in-Some.is) c.args.call c.requires.on_map
    (sym c.handle.ensures) c.in-ReadOnly.is

pub perform-requires-clause-allowed : goal.perform-requires-clause-allowed
perform-requires-clause-allowed c =
    subst (λ k. core_denial c.args.core.now.state k ≡ None) (sym c.on_handle.ensures)
    (core_changes c.args.core.now.state c.args.names.now c.requires.whole c.handle.result c.in-Some.name (sym c.find.ensures ∙ c.in-Some.is) c.args.call c.requires.on_map
    (sym c.handle.ensures) c.in-Writable.is)

pub returns-in-Writable-clause-whole : goal.returns-in-Writable-clause-whole
returns-in-Writable-clause-whole c = record {
  calm = c.perform.ensures.calm;
  named = (changed c.args.core.now.state c.args.names.now c.requires.whole c.handle.result c.in-Some.name (sym c.find.ensures ∙ c.in-Some.is) c.args.call c.requires.on_map
      (sym c.handle.ensures) c.in-Writable.is c.perform.result c.perform.new.core.state
      (subst (λ k. Carries c.perform.result c.args.core.now.state k c.perform.new.core.state) c.on_handle.ensures c.perform.ensures.carries)).named;
}

pub returns-in-Writable-clause-performs : goal.returns-in-Writable-clause-performs
returns-in-Writable-clause-performs c =
    (changed c.args.core.now.state c.args.names.now c.requires.whole c.handle.result c.in-Some.name (sym c.find.ensures ∙ c.in-Some.is) c.args.call c.requires.on_map
    (sym c.handle.ensures) c.in-Writable.is c.perform.result c.perform.new.core.state
    (subst (λ k. Carries c.perform.result c.args.core.now.state k c.perform.new.core.state) c.on_handle.ensures c.perform.ensures.carries)).performs

pub returns-in_default-clause-full : goal.returns-in_default-clause-full
returns-in_default-clause-full c = λ full. cc (sym full.0 ∙ (returns-in_default-clause-performs c).0)

pub returns-in-ReadOnly-clause-full : goal.returns-in-ReadOnly-clause-full
returns-in-ReadOnly-clause-full c = λ full. cc (sym full.0 ∙ (returns-in-ReadOnly-clause-performs c).0)

pub returns-in-Writable-clause-full : goal.returns-in-Writable-clause-full
returns-in-Writable-clause-full c = λ full.
    c.perform.ensures.full full.1
    (ap (adds (world_of c.args.core.now.state)) c.on_handle.ensures
    ∙ sym (adds_so c.args.core.now.state c.args.names.now c.requires.whole c.handle.result c.in-Some.name (sym c.find.ensures ∙ c.in-Some.is) c.args.call (sym c.handle.ensures)) ∙ full.2)
    full.3
