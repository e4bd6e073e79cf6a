use Rattle.std.proofs.Common.{arith, ◌≡◌, ◌+◌, ◌-◌, ◌*◌, refl, sym, ap, ◌∙◌, subst}
use Rattle.machine_core.specs.Vocabulary.{IsLive, entry_at, main_at, no_ref, node_at, times, pair, parting, changed, old_hash, key_of, key_hash, with_pair, with_single, first_draft}
use Rattle.machine_model.specs.declared.building.Change.TheVariants as change
use Rattle.machine_core.specs.Beneath.proof_straight.specs.Drafts.{with_made}
use Rattle.machine_core.specs.Pairing.{IsMade}
use Rattle.machine_core.proofs.Changes.{changed_live, main_changed}
use Rattle.machine_core.proofs.Paired.{can_begin, can_swap_still, depth_within, finds_other, makes_on, pair_lives, pair_second, single_first}
use Rattle.machine_core.proofs.pairing.put_beside.Goals as goal

pub make_more-both-requires-clause-can : goal.make_more-both-requires-clause-can
make_more-both-requires-clause-can c =
    c.make_more-single.ensures.makes.can 1
    (can_begin c.args.heap.now c.args.place.indirection c.args.place.main c.new-made.result.items 28 2 c.new-made.ensures (omega arith) (omega arith) c.requires.can)

pub make_more-both-requires-clause-live : goal.make_more-both-requires-clause-live
make_more-both-requires-clause-live c =
    let single = c.make_more-single in
    pair_lives single.new.heap.heap c.args.hashes c.parting-depth.result c.hash_at-old_hash.result c.hash-hash.result c.entry_at-old.result single.result c.dual.result c.dual.ensures.node
    (single.ensures.makes.stay c.entry_at-old.result (subst (IsLive c.args.heap.now.heap) (sym c.entry_at-old.ensures) c.requires.old)) single.ensures.lives

pub link_down-top-requires-clause-below : goal.link_down-top-requires-clause-below
link_down-top-requires-clause-below c =
    (depth_within c.args.hashes c.hash_at-old_hash.result c.hash-hash.result c.args.place.depth c.parting-depth.result
    (c.parting-depth.ensures ∙ ap (λ e. parting (e - (c.args.place.depth + 1)) c.hash_at-old_hash.result c.hash-hash.result (c.args.place.depth + 1)) c.list_depth.ensures.depth)).0

pub link_down-top-requires-clause-can : goal.link_down-top-requires-clause-can
link_down-top-requires-clause-can c =
    let within = (depth_within c.args.hashes c.hash_at-old_hash.result c.hash-hash.result c.args.place.depth c.parting-depth.result
    (c.parting-depth.ensures ∙ ap (λ e. parting (e - (c.args.place.depth + 1)) c.hash_at-old_hash.result c.hash-hash.result (c.args.place.depth + 1)) c.list_depth.ensures.depth)) in
    let nodes = 2 * (c.parting-depth.result - (c.args.place.depth + 1)) + 1 in
    c.make_more-both.ensures.makes.can nodes (c.make_more-single.ensures.makes.can (1 + nodes)
    (can_begin c.args.heap.now c.args.place.indirection c.args.place.main c.new-made.result.items 28 (1 + (1 + nodes)) c.new-made.ensures (omega arith)
    (omega (arith, within.0, within.1)) c.requires.can))

pub swap_changed-requires-clause-can : goal.swap_changed-requires-clause-can
swap_changed-requires-clause-can c =
    let within = (depth_within c.args.hashes c.hash_at-old_hash.result c.hash-hash.result c.args.place.depth c.parting-depth.result
    (c.parting-depth.ensures ∙ ap (λ e. parting (e - (c.args.place.depth + 1)) c.hash_at-old_hash.result c.hash-hash.result (c.args.place.depth + 1)) c.list_depth.ensures.depth)) in
    can_swap_still c.args.heap.now c.link_down-top.new.heap c.new-made.result.items c.link_down-top.new.made.items c.args.place.indirection c.args.place.main 28
    (1 + (1 + (2 * (c.parting-depth.result - (c.args.place.depth + 1)) + 1))) 1 c.new-made.ensures (omega arith) (omega (arith, within.0, within.1)) c.requires.can
    (makes_on 1 (1 + (2 * (c.parting-depth.result - (c.args.place.depth + 1)) + 1)) (1 + (1 + (2 * (c.parting-depth.result - (c.args.place.depth + 1)) + 1))) c.args.heap.now
    c.make_more-single.new.heap c.link_down-top.new.heap c.new-made.result.items c.make_more-single.new.made.items c.link_down-top.new.made.items refl c.make_more-single.ensures.makes
    (makes_on 1 (2 * (c.parting-depth.result - (c.args.place.depth + 1)) + 1) (1 + (2 * (c.parting-depth.result - (c.args.place.depth + 1)) + 1)) c.make_more-single.new.heap
    c.make_more-both.new.heap c.link_down-top.new.heap c.make_more-single.new.made.items c.make_more-both.new.made.items c.link_down-top.new.made.items refl c.make_more-both.ensures.makes
    c.link_down-top.ensures.makes))

pub swap_changed-requires-clause-live : goal.swap_changed-requires-clause-live
swap_changed-requires-clause-live c =
    let after = c.link_down-top.new.heap.heap in
    let place = c.args.place in
    let makes = (makes_on 1 (1 + (2 * (c.parting-depth.result - (c.args.place.depth + 1)) + 1)) (1 + (1 + (2 * (c.parting-depth.result - (c.args.place.depth + 1)) + 1))) c.args.heap.now
    c.make_more-single.new.heap c.link_down-top.new.heap c.new-made.result.items c.make_more-single.new.made.items c.link_down-top.new.made.items refl c.make_more-single.ensures.makes
    (makes_on 1 (2 * (c.parting-depth.result - (c.args.place.depth + 1)) + 1) (1 + (2 * (c.parting-depth.result - (c.args.place.depth + 1)) + 1)) c.make_more-single.new.heap
    c.make_more-both.new.heap c.link_down-top.new.heap c.make_more-single.new.made.items c.make_more-both.new.made.items c.link_down-top.new.made.items refl c.make_more-both.ensures.makes
    c.link_down-top.ensures.makes)) in
    changed_live after place.flag c.requires.here.bitmap c.requires.here.entries (node_at after place.main)
    (changed place.flag (node_at c.link_down-top.new.heap.heap place.main) (change.Update place.position c.link_down-top.result)) (change.Update place.position c.link_down-top.result)
    (makes.nodes place.main c.requires.can.main_live ∙ c.requires.here.branch) refl tt (swap_changed-requires-clause-can c).entries c.link_down-top.ensures.lives

pub swap_changed-requires-clause-held : goal.swap_changed-requires-clause-held
swap_changed-requires-clause-held c r =
    let within = (depth_within c.args.hashes c.hash_at-old_hash.result c.hash-hash.result c.args.place.depth c.parting-depth.result
    (c.parting-depth.ensures ∙ ap (λ e. parting (e - (c.args.place.depth + 1)) c.hash_at-old_hash.result c.hash-hash.result (c.args.place.depth + 1)) c.list_depth.ensures.depth)) in
    let makes = (makes_on 1 (1 + (2 * (c.parting-depth.result - (c.args.place.depth + 1)) + 1)) (1 + (1 + (2 * (c.parting-depth.result - (c.args.place.depth + 1)) + 1))) c.args.heap.now
    c.make_more-single.new.heap c.link_down-top.new.heap c.new-made.result.items c.make_more-single.new.made.items c.link_down-top.new.made.items refl c.make_more-single.ensures.makes
    (makes_on 1 (2 * (c.parting-depth.result - (c.args.place.depth + 1)) + 1) (1 + (2 * (c.parting-depth.result - (c.args.place.depth + 1)) + 1)) c.make_more-single.new.heap
    c.make_more-both.new.heap c.link_down-top.new.heap c.make_more-single.new.made.items c.make_more-both.new.made.items c.link_down-top.new.made.items refl c.make_more-both.ensures.makes
    c.link_down-top.ensures.makes)) in
    let can = makes.can 0 (can_begin c.args.heap.now c.args.place.indirection c.args.place.main c.new-made.result.items 28
    (1 + (1 + (2 * (c.parting-depth.result - (c.args.place.depth + 1)) + 1)) + 0) c.new-made.ensures (omega arith) (omega (arith, within.0, within.1)) c.requires.can) in
    omega (arith, ap (times r) c.as_slice.ensures.value, can.held r)

pub overflow_sub-result : goal.overflow_sub-result
overflow_sub-result c =
    (depth_within c.args.hashes c.hash_at-old_hash.result c.hash-hash.result c.args.place.depth c.parting-depth.result
    (c.parting-depth.ensures ∙ ap (λ e. parting (e - (c.args.place.depth + 1)) c.hash_at-old_hash.result c.hash-hash.result (c.args.place.depth + 1)) c.list_depth.ensures.depth)).0

pub returns-clause-drafts : goal.returns-clause-drafts
returns-clause-drafts c state call root is key value flag kind g =
    let heap = c.args.heap.now.heap in
    let place = c.args.place in
    let depth = place.depth in
    let deep = c.parting-depth.result in
    let levels = deep - (depth + 1) in
    let old = c.entry_at-old.result in
    let hashed = c.hash_at-old_hash.result in
    let hash = c.hash-hash.result in
    let single = c.make_more-single in
    let both = c.make_more-both in
    let top = c.link_down-top in
    let within = (depth_within c.args.hashes c.hash_at-old_hash.result c.hash-hash.result c.args.place.depth c.parting-depth.result
    (c.parting-depth.ensures ∙ ap (λ e. parting (e - (c.args.place.depth + 1)) c.hash_at-old_hash.result c.hash-hash.result (c.args.place.depth + 1)) c.list_depth.ensures.depth)) in
    let makes = (makes_on 1 (1 + (2 * (c.parting-depth.result - (c.args.place.depth + 1)) + 1)) (1 + (1 + (2 * (c.parting-depth.result - (c.args.place.depth + 1)) + 1))) c.args.heap.now
    c.make_more-single.new.heap c.link_down-top.new.heap c.new-made.result.items c.make_more-single.new.made.items c.link_down-top.new.made.items refl c.make_more-single.ensures.makes
    (makes_on 1 (2 * (c.parting-depth.result - (c.args.place.depth + 1)) + 1) (1 + (2 * (c.parting-depth.result - (c.args.place.depth + 1)) + 1)) c.make_more-single.new.heap
    c.make_more-both.new.heap c.link_down-top.new.heap c.make_more-single.new.made.items c.make_more-both.new.made.items c.link_down-top.new.made.items refl c.make_more-both.ensures.makes
    c.link_down-top.ensures.makes)) in
    let far : deep ≡ depth + 1 + levels = omega (arith, within.0) in
    let finds =
    finds_other state call depth place.indirection place.main place.position c.args.hashes old c.args.key hashed hash c.list_depth.result deep heap is.heap c.requires.can.over kind key
    c.entry_at-old.ensures c.hash_at-old_hash.ensures c.hash-hash.ensures c.list_depth.ensures.depth c.parting-depth.ensures in
    let first : IsMade state (with_single state call) single.new.heap single.new.made.items single.result =
    single_first state call c.args.key c.args.value single.new.heap single.new.made.items single.result key value
    (single.ensures.drafts state (first_draft state) no_ref (record { draft_is = is; private = sym c.new-made.ensures; newest_is = refl })) in
    let second =
    pair_second state call root depth place.indirection place.position levels old hashed hash deep single.result c.dual.result single.new.heap both.new.heap single.new.made.items
    both.new.made.items both.result finds far first (c.dual.ensures.node ∙ ap (λ k. pair k deep hashed hash old single.result) (sym kind))
    (both.ensures.drafts state (with_single state call) single.result first) in
    let way : IsMade state (with_pair state call root depth place.indirection place.position levels) top.new.heap top.new.made.items top.result =
    top.ensures.drafts state call root
    (with_made state (with_single state call) (pair state.limits.hash (depth + 1 + levels) (old_hash state (main_at state.heap place.indirection) place.position) (key_hash state (key_of call))
    (entry_at state.heap (main_at state.heap place.indirection) place.position) (with_single state call).newest)) levels second g (sym finds.hash_is) far in
    record {
      parts = sym finds.deep_is ∙ far;
      few = omega (arith, within.1);
      draft = main_changed state call depth place.indirection place.main place.flag c.args.key
          (changed place.flag (node_at c.link_down-top.new.heap.heap place.main) (change.Update place.position c.link_down-top.result))
          (with_pair state call root depth place.indirection place.position levels)
          (change.Update place.position (with_pair state call root depth place.indirection place.position levels).newest) (change.Update place.position top.result) heap c.swap_changed.new.heap
          is.heap c.requires.can.over key flag (ap (change.Update place.position) (sym way.newest_is))
          (ap (λ x. changed place.flag x (change.Update place.position top.result)) (makes.nodes place.main c.requires.can.main_live))
          (c.swap_changed.ensures.drafts state (with_pair state call root depth place.indirection place.position levels) way.draft_is (way.private ∙ sym c.as_slice.ensures.value));
    }

pub returns-clause-few : goal.returns-clause-few
returns-clause-few c =
    let within = (depth_within c.args.hashes c.hash_at-old_hash.result c.hash-hash.result c.args.place.depth c.parting-depth.result
    (c.parting-depth.ensures ∙ ap (λ e. parting (e - (c.args.place.depth + 1)) c.hash_at-old_hash.result c.hash-hash.result (c.args.place.depth + 1)) c.list_depth.ensures.depth)) in
    omega (arith, within.1)
