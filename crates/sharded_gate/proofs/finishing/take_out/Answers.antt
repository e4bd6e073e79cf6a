use Rattle.std.proofs.Common.{rules, ◌≡◌, ◌+◌, ◌<◌, ◌∷◌, [], ◌++◌, false, take, map, slice_index_or, slice_set, vec_len, vec_capacity, ap, sym, ◌∙◌, inl, inr, arith}
use Rattle.std.proofs.lemmas.Bool.{cases_eq}
use Rattle.std.proofs.lemmas.List.{get_or-set_same, get_or-set_other, map-append}
use Rattle.sharded_gate.specs.Shards.{LoggedShard}
use Rattle.sharded_gate.proofs.Beginnings.{take_one_more}
use Rattle.sharded_gate.proofs.finishing.take_out.Goals as goal

pub loop-shard-preserved : goal.loop-shard-preserved
loop-shard-preserved g c =
    let inv = c.loop-shard.invariant in
    let e = c.take.ensures.others in
    let at = c.loop-shard.shard in
    let filled = c.loop-shard.closed.slots.filled in
    let fits : vec_len c.loop-shard.objects < vec_capacity c.loop-shard.objects = omega (arith, inv.count, inv.room, c.loop-shard-test.true) in
    let done = c.push.ensures.succeeds fits in
    let pushed : c.push.new.self.items ≡ c.loop-shard.objects.items ++ c.into_object.result ∷ [] = search (rules, done) in
    let longer : vec_len c.push.new.self ≡ vec_len c.loop-shard.objects + 1 = search (rules, done) in
    let object_of : LoggedShard g.row.O.Denot g.row.C.Denot g.row.A.Denot → g.row.O.Denot = λ s. s.object in
    record {
      items = e.0 ∙ inv.items;
      many = e.2 ∙ inv.many;
      full = λ k above within. ap (λ fs. slice_index_or fs k false) e.1 ∙ get_or-set_other filled at k false false (λ same. absurd (omega (arith, same, above)))
          ∙ inv.full k (omega (arith, above)) (omega (arith, within, e.2));
      empty = λ k below. elim (cases_eq k at) [
        | inl same ↦ ap (λ fs. slice_index_or fs k false) e.1 ∙ ap (λ n. slice_index_or (slice_set filled at false) n false) same
            ∙ get_or-set_same filled at false false (omega (arith, c.loop-shard.closed.slots.ok.1, inv.many, c.loop-shard-test.true))
        | inr apart ↦ ap (λ fs. slice_index_or fs k false) e.1 ∙ get_or-set_other filled at k false false apart ∙ inv.empty k (omega (arith, below, apart))
      ];
      objects = pushed ∙ ap (λ os. os ++ c.into_object.result ∷ []) inv.objects ∙ ap (λ o. map object_of (take at c.loop-shard.closed.slots.items) ++ o ∷ []) c.into_object.ensures
          ∙ sym (map-append object_of (take at c.loop-shard.closed.slots.items) (c.take.result ∷ []))
          ∙ ap (λ ss. map object_of ss) (sym (take_one_more c.loop-shard.closed.slots.items at c.take.result c.take.ensures.value) ∙ ap (λ ss. take (at + 1) ss) (sym e.0));
      count = omega (arith, longer, inv.count);
      room = omega (arith, inv.room, c.push.ensures.capacity);
    }
