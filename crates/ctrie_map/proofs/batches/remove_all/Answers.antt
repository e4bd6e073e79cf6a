use Rattle.std.proofs.Common.{◌≡◌, ◌≤◌, arith, refl, sym, ◌∙◌}
use Rattle.std.specs.FinMap as map
use Rattle.ctrie_map.specs.Beneath.map_worlds.specs.Worlds.{world_of}
use Rattle.ctrie_map.specs.declared.errors.MapError.TheVariants.{Full}
use Rattle.ctrie_map.specs.declared.batches.Batch.TheVariants.{Removes}
use Rattle.ctrie_map.specs.Maps.{handles_of, map_with}
use Rattle.ctrie_map.specs.Names.{how_many}
use Rattle.ctrie_map.proofs.Batched.{one_left}
use Rattle.ctrie_map.proofs.InPlace.{done_if, named_if, none_if, others_if}
use Rattle.ctrie_map.proofs.Named.{as_many}
use Rattle.ctrie_map.proofs.batches.remove_all.Goals as goal

pub returns-then-many-gt1-clause-others : goal.returns-then-many-gt1-clause-others
returns-then-many-gt1-clause-others c =
    others_if c.change_all.result (λ error. error ≡ Full) (map.len (handles_of (map_with c.args.core.now.state c.args.names.now)))
    (let same = as_many (world_of c.args.core.now.state) c.args.names.now c.requires.whole.named in
    omega (arith, c.many.ensures, c.if-many-gt1.true, c.requires.whole.named.many, same))

pub returns-then-are_too_many-clause-refused : goal.returns-then-are_too_many-clause-refused
returns-then-are_too_many-clause-refused c = (
  one_left Removes c.args.core.now.state c.args.names.now c.requires.whole c.args.handle c.args.pairs.now c.args.name c.requires.can_copy.0 c.requires.can_copy.1 c.requires.can_copy.2,
  sym c.are_too_many.ensures ∙ c.if-are_too_many.true,
  refl,
)

pub change_each-requires-clause-writable : goal.change_each-requires-clause-writable
change_each-requires-clause-writable c = c.requires.whole.named.stands c.args.handle c.args.name c.requires.can_copy.0

pub returns-clause-whole : goal.returns-clause-whole
returns-clause-whole c =
    let few : how_many c.args.names.now ≤ 1 = omega (arith, c.many.ensures, c.if-many-gt1.false) in record {
      calm = c.change_each.ensures.calm;
      named = named_if c.args.core.now.state c.args.names.now c.requires.whole c.args.handle c.args.pairs.now c.args.name c.requires.can_copy few c.change_each.new.core.state
          c.change_each.result c.change_each.ensures.changes c.change_each.ensures.stops;
    }

pub returns-clause-done : goal.returns-clause-done
returns-clause-done c =
    let few : how_many c.args.names.now ≤ 1 = omega (arith, c.many.ensures, c.if-many-gt1.false) in
    done_if c.args.core.now.state c.args.names.now c.requires.whole c.args.handle c.args.pairs.now c.args.name c.requires.can_copy few c.change_each.new.core.state
    c.change_each.result c.change_each.ensures.changes c.change_each.ensures.stops (sym c.are_too_many.ensures ∙ c.if-are_too_many.false)

pub returns-clause-refused : goal.returns-clause-refused
returns-clause-refused c =
    let few : how_many c.args.names.now ≤ 1 = omega (arith, c.many.ensures, c.if-many-gt1.false) in
    none_if c.args.core.now.state c.args.names.now c.requires.whole c.args.handle c.args.pairs.now c.args.name c.requires.can_copy few c.change_each.new.core.state
    c.change_each.result c.change_each.ensures.changes c.change_each.ensures.stops _

pub returns-clause-others : goal.returns-clause-others
returns-clause-others c =
    let few : how_many c.args.names.now ≤ 1 = omega (arith, c.many.ensures, c.if-many-gt1.false) in
    none_if c.args.core.now.state c.args.names.now c.requires.whole c.args.handle c.args.pairs.now c.args.name c.requires.can_copy few c.change_each.new.core.state
    c.change_each.result c.change_each.ensures.changes c.change_each.ensures.stops _
