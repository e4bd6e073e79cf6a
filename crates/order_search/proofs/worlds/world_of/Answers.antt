-- Each operation goes on to the world to which those up to it lead.
use Rattle.std.proofs.Common.{◌≡◌, [], Some, get_or, slice_get, sym, subst, arith}
use Rattle.std.proofs.lemmas.Option.{slice_get-get_or}
use Rattle.std.proofs.lemmas.List.{take_more, take_all}
use Rattle.order_search.specs.Vocabulary.{hash_of, LeadsTo}
use Rattle.history.proofs.Leading.{leads_first}
use Rattle.history.proofs.Places.{at_within}
use Rattle.order_search.proofs.Replayed.{one_lead, replayed_on}
use Rattle.order_search.proofs.worlds.world_of.Goals as goal

pub loop-id-init : goal.loop-id-init
loop-id-init c = λ history last known leads. subst (λ w. LeadsTo (hash_of c.args.hash) history [] w) (sym c.in_ok-world.ensures.first) (leads_first (hash_of c.args.hash) history)

pub loop-id-preserved : goal.loop-id-preserved
loop-id-preserved c = λ history last known leads.
    let hash = hash_of c.args.hash in
    let ids = c.args.ids.now in
    let place = c.loop-id.id-index in
    let id = get_or ids place 0 in
    let so_far = c.loop-id.invariant history last known leads in
    let at : slice_get ids place ≡ Some id = slice_get-get_or ids place 0 (omega arith) in
    let row = at_within c.args.table.now.rows.items id (known.has_row id (leads.has_begun place id at)) in
    let answered = c.in_ok-advance.ensures.advanced row.0 row.1 in
    rw (take_more ids place 0 (omega arith))
    (replayed_on hash history ids place id c.loop-id.world last _ row.0 answered.0 known.well_formed (known.row_of id row.0 row.1) so_far leads at answered.1)

pub returns-clause-world : goal.returns-clause-world
returns-clause-world c = λ history last known leads.
    let so_far = rw (take_all c.loop-id.id-index c.args.ids.now (omega arith)) at c.loop-id.invariant history last known leads in
    one_lead (hash_of c.args.hash) history c.args.ids.now c.loop-id.world last known.well_formed so_far leads
