use Rattle.std.proofs.Common.{◌≡◌, [], refl, ap, set, sym, ◌∙◌}
use Rattle.machine_core.specs.Vocabulary.{Offer, with_root, redrafted, Table}
use Rattle.machine_core.specs.Rooting.{writable}
use Rattle.machine_core.proofs.Rooted.{swapped_draft, swapped_generations, swapped_roots}
use Rattle.machine_core.proofs.rooting.swap_root.Goals as goal

pub returns-clause-courses : goal.returns-clause-courses
returns-clause-courses c course word is private found =
    let offer = c.args.offer.now in
    let handle = c.args.handle in
    let base = course.base in
    let draft = course.draft in
    let offered = with_root base handle (writable (Offer offer)) in
    let there : offered.roots ≡ c.put_offer.new.table.roots =
    ap (λ rs. set rs handle (writable (Offer offer))) is.roots ∙ ap (λ (t : Table). t.roots) (sym c.put_offer.ensures.table) in
    record {
      draft = swapped_draft base draft handle word offer found c.carry_out_offer.new.heap
          (c.carry_out_offer.ensures.drafts offered (redrafted offered draft draft.heap [] draft.newest) (c.put_offer.ensures.drafts base draft is.draft is.roots private) there refl);
      roots = swapped_roots base draft handle word offer found c.put_offer.new.table c.carry_out_offer.new.table there c.carry_out_offer.ensures.table;
      generations = swapped_generations base draft handle word offer found ∙ is.generations;
    }
