use Rattle.std.proofs.Common.{sym, ap, subst, ◌∙◌}
use Rattle.ctrie_map.specs.Maps.{IsWhole, MapState}
use Rattle.ctrie_map.specs.Names.{name_at}
use Rattle.ctrie_map.proofs.NamedReading.{freezes, none_writable, writes}
use Rattle.ctrie_map.proofs.map.Map.is_writable.Goals as goal

pub returns-in-None : goal.returns-in-None
returns-in-None c =
    none_writable c.args.self.now (subst IsWhole c.self.view_is c.self.invariant) c.args.handle
    (sym (c.find.ensures ∙ ap (name_at c.self.inside.names) c.number.ensures ∙ ap (λ (s : MapState). name_at s.names c.args.handle) c.self.view_is) ∙ c.in-None.is)

pub returns-in-Writable : goal.returns-in-Writable
returns-in-Writable c =
    writes c.args.self.now (subst IsWhole c.self.view_is c.self.invariant) c.args.handle c.in-Some.name
    (sym (c.find.ensures ∙ ap (name_at c.self.inside.names) c.number.ensures ∙ ap (λ (s : MapState). name_at s.names c.args.handle) c.self.view_is) ∙ c.in-Some.is) c.in-Writable.is

pub returns-in_default : goal.returns-in_default
returns-in_default c =
    freezes c.args.self.now (subst IsWhole c.self.view_is c.self.invariant) c.args.handle c.in-Some.name
    (sym (c.find.ensures ∙ ap (name_at c.self.inside.names) c.number.ensures ∙ ap (λ (s : MapState). name_at s.names c.args.handle) c.self.view_is) ∙ c.in-Some.is)
    c.in_default.not-Writable
