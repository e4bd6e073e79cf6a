use Rattle.std.proofs.Common.{rules, ◌≡◌, ◌<◌, List, map, replicate, length, vec_len, ap, sym, subst, ◌∙◌, arith}
use Rattle.std.proofs.lemmas.List.{length-replicate}
use Rattle.std.proofs.lemmas.List.Elements.{All-same}
use Rattle.atomic_table.specs.Table.{opening}
use Rattle.gate.specs.Logs.{fresh}
use Rattle.gate.specs.Rules.{IsKept, first_view}
use Rattle.gate.specs.Seats.{Seated}
use Rattle.gate.proofs.Crews.{opening_kept}
use Rattle.gate.proofs.Making.{all_fresh}
use Rattle.sharded_gate.specs.Shards.{LoggedShard, fresh_shard, shard_of}
use Rattle.sharded_gate.specs.Rules.{word_of_shard}
use Rattle.sharded_gate.specs.Seats.{ShardSeated}
use Rattle.sharded_gate.proofs.Beginnings.{all_zero, start_slots, all_from_map, objects_back}
use Rattle.sharded_gate.proofs.gates.ShardedGate.new.Goals as goal

pub new-requires : goal.new-requires
new-requires g c =
    let first = c.whole_of.result in
    let many = length first in
    let slot_of = shard_of {O = g.row.O.Denot} {A = g.row.A.Denot} many (g.O.Sharded.about many) in
    let boards : c.on_boards.result.items ≡ map (λ o. fresh_shard o) first = c.on_boards.ensures ∙ ap (λ os. map (λ o. fresh_shard o) os) (sym c.whole_of.ensures) in
    let spaced = c.in-Some.spaced in
    let places : spaced ≡ word_of_shard c.len-count.result = search rules in
    let words : c.as_slice.result.now ≡ replicate spaced 0 = c.as_slice.ensures.value ∙ c.in-Ok-vec.ensures.items_if_clones_equal (λ y same. same) in
    let long : vec_len c.args.shards ≡ length c.args.shards.items = search rules in
    let count : c.len-count.result ≡ many = c.len-count.ensures ∙ long ∙ sym (ap (λ os. length os) c.whole_of.ensures) in
    subst (λ ws. IsKept g.O.Sharded.answers slot_of word_of_shard many c.args.seats first (opening ws c.on_boards.result.items (first_view (fresh first) c.args.seats))) (sym words)
    (subst (λ xs. IsKept g.O.Sharded.answers slot_of word_of_shard many c.args.seats first (opening (replicate spaced 0) xs (first_view (fresh first) c.args.seats))) (sym boards)
    (opening_kept g.O.Sharded.answers slot_of word_of_shard many c.args.seats first (replicate spaced 0) (map (λ o. fresh_shard o) first)
    (λ i within. subst (λ n. word_of_shard i < n) (sym (length-replicate spaced 0)) (omega (arith, within, count, places))) (all_zero spaced) (start_slots (g.O.Sharded.about many) first)))

pub returns-in-Ok-new-clause-seats : goal.returns-in-Ok-new-clause-seats
returns-in-Ok-new-clause-seats g c =
    let id = c.in-Ok-new.table.shared.table_id in
    let its : Seated (List g.row.O.Denot) g.row.C.Denot g.row.A.Denot → Type 0 = λ s. s.gate ≡ id in
    let seat : ShardSeated g.row.O.Denot g.row.C.Denot g.row.A.Denot → Seated (List g.row.O.Denot) g.row.C.Denot g.row.A.Denot = λ s. s.seat in
    all_from_map its seat c.seat_all.new.made.items (All-same its _ _ c.seat_all.ensures.seats (all_fresh _ _ 1 _))

pub returns-in-Err-clause-back : goal.returns-in-Err-clause-back
returns-in-Err-clause-back g c =
    let object_of : LoggedShard g.row.O.Denot g.row.C.Denot g.row.A.Denot → g.row.O.Denot = λ s. s.object in
    c.off_boards.ensures ∙ ap (λ xs. map object_of xs) (c.in-Err.ensures.err ∙ c.on_boards.ensures) ∙ objects_back g.row.C.Denot g.row.A.Denot c.args.shards.items
