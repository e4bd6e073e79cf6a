use Rattle.std.proofs.Common.{◌<◌, ◌≤◌, arith, refl, sym, ◌∙◌}
use Rattle.ctrie_map.specs.Names.{how_many}
use Rattle.ctrie_map.proofs.Restored.{all_open, allowed, itself, life_if, no_copy, no_handle, not_frozen, read_only, refused_if, restored_if}
use Rattle.ctrie_map.proofs.restoring.restore.Goals as goal

pub returns-in_default-clause-refused : goal.returns-in_default-clause-refused
returns-in_default-clause-refused c = (no_handle c.args.core.now.state c.args.names.now c.requires.whole c.args.handle c.args.copy (sym c.find.ensures ∙ c.in_default.is), refl)

pub returns-in_default-find-clause-refused : goal.returns-in_default-find-clause-refused
returns-in_default-find-clause-refused c = (
  no_copy c.args.core.now.state c.args.names.now c.requires.whole c.args.handle c.args.copy c.in-Some.name (sym c.find.ensures ∙ c.in-Some.is)
      (sym c.find-2.ensures ∙ c.in_default-find.is),
  refl,
)

pub returns-in-ReadOnly-clause-refused : goal.returns-in-ReadOnly-clause-refused
returns-in-ReadOnly-clause-refused c = (
  read_only c.args.core.now.state c.args.names.now c.requires.whole c.args.handle c.args.copy c.in-Some.name (sym c.find.ensures ∙ c.in-Some.is)
      c.in-Some-find.source (sym c.find-2.ensures ∙ c.in-Some-find.is) c.in-ReadOnly.is,
  refl,
)

pub returns-then-handle-copy-clause-restores : goal.returns-then-handle-copy-clause-restores
returns-then-handle-copy-clause-restores c =
    itself c.args.core.now.state c.args.names.now c.requires.whole c.args.handle c.args.copy c.in-Some.name (sym c.find.ensures ∙ c.in-Some.is)
    c.in-Some-find.source (sym c.find-2.ensures ∙ c.in-Some-find.is) (not_frozen c.in-Some.name.access c.in_default-access.not-ReadOnly) c.if-handle-copy.true

pub returns-then-many-ge-NAMES-clause-refused : goal.returns-then-many-ge-NAMES-clause-refused
returns-then-many-ge-NAMES-clause-refused c = (
  all_open c.args.core.now.state c.args.names.now c.requires.whole c.args.handle c.args.copy c.in-Some.name (sym c.find.ensures ∙ c.in-Some.is)
      c.in-Some-find.source (sym c.find-2.ensures ∙ c.in-Some-find.is) (not_frozen c.in-Some.name.access c.in_default-access.not-ReadOnly) c.if-handle-copy.false
      (let many : 256 ≤ how_many c.args.names.now = omega (arith, c.many.ensures, c.if-many-ge-NAMES.true) in many),
  refl,
)

pub returns-then-is_worn_out_by-clause-refused : goal.returns-then-is_worn_out_by-clause-refused
returns-then-is_worn_out_by-clause-refused c = (
  allowed c.args.core.now.state c.args.names.now c.requires.whole c.args.handle c.args.copy c.in-Some.name (sym c.find.ensures ∙ c.in-Some.is)
      c.in-Some-find.source (sym c.find-2.ensures ∙ c.in-Some-find.is) (not_frozen c.in-Some.name.access c.in_default-access.not-ReadOnly) c.if-handle-copy.false
      (let few : how_many c.args.names.now < 256 = omega (arith, c.many.ensures, c.if-many-ge-NAMES.false) in few),
  c.if-handle-copy.false,
  sym c.is_worn_out_by.ensures ∙ c.if-is_worn_out_by.true,
  refl,
)

pub take_map-requires-clause-writable : goal.take_map-requires-clause-writable
take_map-requires-clause-writable c = c.requires.whole.named.stands c.args.copy c.in-Some-find.source (sym c.find-2.ensures ∙ c.in-Some-find.is)

pub returns-clause-restores : goal.returns-clause-restores
returns-clause-restores c =
    restored_if c.args.core.now.state c.args.names.now c.requires.whole c.args.handle c.args.copy c.in-Some.name (sym c.find.ensures ∙ c.in-Some.is)
    c.in-Some-find.source (sym c.find-2.ensures ∙ c.in-Some-find.is) (not_frozen c.in-Some.name.access c.in_default-access.not-ReadOnly) c.if-handle-copy.false
    c.take_map.result c.take_map.new.core.state c.take_map.new.names c.take_map.ensures.takes

pub returns-clause-refused : goal.returns-clause-refused
returns-clause-refused c =
    refused_if c.args.core.now.state c.args.names.now c.requires.whole c.args.handle c.args.copy c.in-Some.name (sym c.find.ensures ∙ c.in-Some.is)
    c.in-Some-find.source (sym c.find-2.ensures ∙ c.in-Some-find.is) (not_frozen c.in-Some.name.access c.in_default-access.not-ReadOnly) c.if-handle-copy.false
    (let few : how_many c.args.names.now < 256 = omega (arith, c.many.ensures, c.if-many-ge-NAMES.false) in few)
    c.take_map.result c.take_map.new.core.state c.take_map.new.names c.take_map.ensures.refused

pub returns-clause-life : goal.returns-clause-life
returns-clause-life c =
    life_if c.args.core.now.state c.args.names.now c.requires.whole c.args.handle c.args.copy c.in-Some.name (sym c.find.ensures ∙ c.in-Some.is)
    c.in-Some-find.source (sym c.find-2.ensures ∙ c.in-Some-find.is) (not_frozen c.in-Some.name.access c.in_default-access.not-ReadOnly) c.if-handle-copy.false
    (sym c.is_worn_out_by.ensures ∙ c.if-is_worn_out_by.false) c.take_map.result

pub returns-in_default-clause-full : goal.returns-in_default-clause-full
returns-in_default-clause-full c = λ full. cc (sym full.1 ∙ (returns-in_default-clause-refused c).0)

pub returns-in_default-find-clause-full : goal.returns-in_default-find-clause-full
returns-in_default-find-clause-full c = λ full. cc (sym full.1 ∙ (returns-in_default-find-clause-refused c).0)

pub returns-in-ReadOnly-clause-full : goal.returns-in-ReadOnly-clause-full
returns-in-ReadOnly-clause-full c = λ full. cc (sym full.1 ∙ (returns-in-ReadOnly-clause-refused c).0)

pub returns-then-many-ge-NAMES-clause-full : goal.returns-then-many-ge-NAMES-clause-full
returns-then-many-ge-NAMES-clause-full c = λ full. cc (sym full.1 ∙ (returns-then-many-ge-NAMES-clause-refused c).0)
