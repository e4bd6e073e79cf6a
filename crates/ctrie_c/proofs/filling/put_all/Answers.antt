use Rattle.std.proofs.Common.{rules, ◌≡◌, ◌∙◌, map}
use Rattle.std.proofs.lemmas.Iterator.{YieldsList-from_map, YieldsList-from_slice, items_from_collect}
use Rattle.std.specs.Prelude.{Ok}
use Rattle.ctrie_c.specs.Listing.{entry_of}
use Rattle.ctrie_c.proofs.Together.{puts_them}
use Rattle.ctrie_c.proofs.filling.put_all.Goals as goal

pub returns : goal.returns
returns c =
    let same : c.as_slice.result.now ≡ map entry_of c.args.pairs.now =
    c.as_slice.ensures.value
    ∙ items_from_collect {E = Unit {0}} (Ok c.in_ok-entries.entries) c.in_ok-entries.ensures.ran
    (YieldsList-from_map _ entry_of (YieldsList-from_slice c.args.pairs.now cc) c.map.ensures.closure (λ x r q k. search rules)) in
    puts_them c.args.handle c.new.result c.args.pairs.now c.as_slice.result.now c.put_all.result c.args.map.now c.put_all.new.self
    c.new.ensures same c.put_all.ensures.done c.put_all.ensures.refused c.put_all.ensures.work
