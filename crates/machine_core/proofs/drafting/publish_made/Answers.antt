use Rattle.std.proofs.Common.{[], ap, ◌∙◌, ◌≡◌, ◌+◌, sym, List, arith}
use Rattle.slot_arena.proofs.Times.{times_push}
use Rattle.machine_core.specs.Vocabulary.{Ref, is_main_node, node_at, prev_at, times, published}
use Rattle.proof_core.proofs.Drafts.{is_published, last_held, none_held, published_kind, published_pending, settled_draft}
use Rattle.machine_core.proofs.drafting.publish_made.Goals as goal

pub release_all-requires : goal.release_all-requires
release_all-requires c = record {
  held = λ r. omega (arith, ap (times r) c.publish.ensures.outside, c.requires.held r, times_push r c.args.fresh c.args.made.now);
}

pub release-requires : goal.release-requires
release-requires c =
    last_held c.args.heap.now.outside c.release_all.new.heap.outside c.args.fresh c.args.made.now c.requires.held
    (λ r. c.release_all.ensures.others r ∙ ap (λ (held : List Ref). times r held + times r []) c.publish.ensures.outside)

pub returns-clause-drafts : goal.returns-clause-drafts
returns-clause-drafts c state draft is private newest =
    let memory = c.args.heap.now in
    settled_draft state draft memory c.release.new.self c.settle.new.self (published draft.heap c.args.indirection c.args.main draft.newest) [] draft.newest is
    (c.release.ensures.heap ∙ c.release_all.ensures.heap
    ∙ is_published memory.heap c.args.indirection c.args.main c.args.fresh c.publish.result c.publish.new.self.heap c.publish.ensures.was c.publish.ensures.heap
    ∙ ap (λ h. published h c.args.indirection c.args.main c.args.fresh) is.heap ∙ ap (published draft.heap c.args.indirection c.args.main) (sym newest))
    (c.release.ensures.epochs.0 ∙ c.release_all.ensures.epochs.0 ∙ c.publish.ensures.epochs.0) (c.release.ensures.epochs.1 ∙ c.release_all.ensures.epochs.1 ∙ c.publish.ensures.epochs.1)
    c.settle.ensures
    (none_held state draft.private memory.outside c.release_all.new.heap.outside c.release.new.self.outside c.args.fresh c.args.made.now is.held private
    (λ r. c.release_all.ensures.others r ∙ ap (λ (held : List Ref). times r held + times r []) c.publish.ensures.outside) c.release.ensures.outside
    (last_held memory.outside c.release_all.new.heap.outside c.args.fresh c.args.made.now c.requires.held
    (λ r. c.release_all.ensures.others r ∙ ap (λ (held : List Ref). times r held + times r []) c.publish.ensures.outside)))

heap_then : (c : goal.After-settle) → c.settle.new.self.heap ≡ published c.args.heap.now.heap c.args.indirection c.args.main c.args.fresh
heap_then c =
    c.settle.ensures.heap ∙ c.release.ensures.heap ∙ c.release_all.ensures.heap
    ∙ is_published c.args.heap.now.heap c.args.indirection c.args.main c.args.fresh c.publish.result c.publish.new.self.heap c.publish.ensures.was c.publish.ensures.heap

pub returns-clause-kind : goal.returns-clause-kind
returns-clause-kind c =
    ap (λ h. is_main_node (node_at h c.args.fresh)) (heap_then c)
    ∙ published_kind c.args.heap.now.heap c.args.indirection c.args.main c.args.fresh c.requires.live c.requires.kind c.requires.over c.requires.fresh_live c.requires.fresh_kind

pub returns-clause-pending : goal.returns-clause-pending
returns-clause-pending c =
    ap (λ h. prev_at h c.args.fresh) (heap_then c)
    ∙ published_pending c.args.heap.now.heap c.args.indirection c.args.main c.args.fresh c.requires.live c.requires.kind c.requires.over c.requires.fresh_live c.requires.fresh_kind
