use Rattle.std.proofs.Common.{rules, sym, subst, ◌≡◌, ◌∷◌, [], ◌<◌, vec_len, vec_capacity}
use Rattle.atomic_table.specs.Table.{opening}
use Rattle.gate.specs.Logs.{fresh}
use Rattle.gate.specs.Rules.{IsKept, first_view, only_slot, same_word}
use Rattle.gate.proofs.Holds.{one_open, one_slot_of}
use Rattle.gate.proofs.Crews.{opening_kept}
use Rattle.gate.proofs.opening.table_of.Goals as goal

pub new-requires : goal.new-requires
new-requires g c =
    let room : vec_len c.in-Ok.slots < vec_capacity c.in-Ok.slots = search rules in
    let done = c.push.ensures.succeeds room in
    let items : c.push.new.self.items ≡ c.args.terms.now.first ∷ [] = search (rules, done) in
    let start = c.args.terms.now.first in
    let seats = c.args.terms.now.seats in
    rw items
    (subst (λ b. IsKept g.O.Object.answers only_slot same_word 1 seats start.first (opening (0 ∷ []) (b ∷ []) (first_view b seats))) (sym c.requires.fresh)
    (opening_kept g.O.Object.answers only_slot same_word 1 seats start.first (0 ∷ []) (fresh start.first ∷ []) (λ i within. within) one_open (one_slot_of (fresh start.first))))
