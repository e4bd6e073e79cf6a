use Rattle.std.proofs.Common.{arith, ◌≡◌, ◌+◌, ◌∷◌, [], refl, ap, sym, subst, ◌∙◌, None}
use Rattle.history.specs.declared.calls.Call.TheVariants as call
use Rattle.history.specs.declared.replies.Reply.TheVariants as reply
use Rattle.machine_core.specs.Vocabulary.{Branch, empty_branch, main_of, main_at, times, Descriptor, Plain, Course, offer_of, with_new_root, with_offer, first_draft, next_made, IsDraft}
use Rattle.slot_arena.proofs.Times.{times-cons}
use Rattle.machine_core.specs.Beneath.proof_straight.specs.Drafts.{with_made}
use Rattle.machine_core.specs.declared.parts.Parts.{Parts}
use Rattle.machine_core.specs.Rooting.{HoldsBeside, IsCourse}
use Rattle.machine_core.proofs.Carried.{first_drafted}
use Rattle.machine_core.specs.Seen.{seen}
use Rattle.machine_core.proofs.AtRest.{empty_slots}
use Rattle.proof_core.proofs.Bounded.{bounded}
use Rattle.proof_core.proofs.Claims.{one_live}
use Rattle.machine_core.proofs.Copied.{clear_comes, copy_after, empty_node, holds_made, made_so, made_twice}
use Rattle.machine_core.proofs.Copied.{offer_lives, offer_same, over_lives, room_again, root_found, settled_root}
use Rattle.machine_core.proofs.copying.clear.Goals as goal

pub make-branch-requires-clause-births : goal.make-branch-requires-clause-births
make-branch-requires-clause-births c = let bounds = bounded (seen c.args.parts.now) c.requires.core.run in omega (arith, bounds.births, bounds.steps)

pub make_root-successor-requires-clause-free : goal.make_root-successor-requires-clause-free
make_root-successor-requires-clause-free c =
    let before = c.args.parts.now in
    let bounds = bounded (seen before) c.requires.core.run in
    (room_again before.heap.heap c.make-branch.new.heap.heap (Branch 0 c.new.result) (empty_slots (seen before) c.requires.core.run)
    (omega (arith, c.requires.clear.slots)) (omega (arith, bounds.births, bounds.steps)) c.make-branch.ensures.heap).0

pub make_root-successor-requires-clause-births : goal.make_root-successor-requires-clause-births
make_root-successor-requires-clause-births c =
    let before = c.args.parts.now in
    let bounds = bounded (seen before) c.requires.core.run in
    (room_again before.heap.heap c.make-branch.new.heap.heap (Branch 0 c.new.result) (empty_slots (seen before) c.requires.core.run)
    (omega (arith, c.requires.clear.slots)) (omega (arith, bounds.births, bounds.steps)) c.make-branch.ensures.heap).1

pub make_root-successor-requires-clause-generations : goal.make_root-successor-requires-clause-generations
make_root-successor-requires-clause-generations c = let bounds = bounded (seen c.args.parts.now) c.requires.core.run in omega (arith, bounds.generations, bounds.steps)

pub make_root-successor-requires-clause-live : goal.make_root-successor-requires-clause-live
make_root-successor-requires-clause-live c =
    one_live c.make-branch.new.heap.heap c.make-branch.result c.make-branch.ensures.lives

pub swap_root-requires-clause-live : goal.swap_root-requires-clause-live
swap_root-requires-clause-live c =
    let lives =
    over_lives c.args.parts.now c.requires.allowed.0 (call.Clear c.args.handle) c.args.root c.args.main c.requires.core c.requires.allowed.1 c.requires.clear.word c.requires.over in
    let first = c.make-branch.ensures in
    let second = c.make_root-successor.ensures in
    offer_lives c.make_root-successor.new.parts.heap.heap c.args.root c.args.main c.make_root-successor.result
    (second.stay c.args.root (first.stay c.args.root lives.0)) (second.stay c.args.main (first.stay c.args.main lives.1)) second.lives

pub swap_root-requires-clause-holds : goal.swap_root-requires-clause-holds
swap_root-requires-clause-holds c =
    let before = c.args.parts.now in
    let first = c.make-branch.ensures in
    let second = c.make_root-successor.ensures in
    let one = c.make-branch.result in
    let other = c.make_root-successor.result in
    subst (λ rs. HoldsBeside c.make_root-successor.new.parts.heap rs (one ∷ other ∷ []) 12) (sym (ap (λ (p : Parts). p.table.roots) second.same))
    (holds_made before c.make_root-successor.new.parts.heap (one ∷ other ∷ []) c.requires.core
    (λ r. omega (
      arith,
      ap (times r) second.outside,
      ap (times r) first.outside,
      times-cons r other c.make-branch.new.heap.outside,
      times-cons r one before.heap.outside,
      times-cons r one (other ∷ []),
      times-cons r other [],
    )) (omega arith))

pub count_call-requires-clause-begun : goal.count_call-requires-clause-begun
count_call-requires-clause-begun c =
    let bounds = bounded (seen c.args.parts.now) c.requires.core.run in
    omega (
      arith,
      bounds.begins,
      bounds.steps,
      ap (λ (p : Parts). p.begun) c.swap_root.ensures.same,
      ap (λ (p : Parts). p.begun) c.make_root-successor.ensures.same,
    )

pub returns : goal.returns
returns c actor allowed =
    let lives =
    over_lives c.args.parts.now actor (call.Clear c.args.handle) c.args.root c.args.main c.requires.core allowed c.requires.clear.word c.requires.over in
    let before = c.args.parts.now in
    let state = seen before in
    let root = c.args.root in
    let handle = c.args.handle in
    let first = c.make-branch.ensures in
    let second = c.make_root-successor.ensures in
    let branch = c.make-branch.result in
    let middle : Parts = record before { heap = c.make-branch.new.heap } in
    let main_is : c.args.main ≡ main_at state.heap root = sym (ap main_of c.requires.over.indirection) in
    let emptied : Course = record { base = state; draft = with_made state (first_draft state) empty_branch } in
    let half : IsCourse emptied middle = record {
      draft = subst (λ n. IsDraft state (with_made state (first_draft state) n) c.make-branch.new.heap) (empty_node c.new.result c.new.ensures)
          (first.drafts state (first_draft state) (first_drafted before c.requires.core));
      roots = refl;
      generations = refl;
    } in
    let course = with_new_root emptied branch in
    let offer : Descriptor = record {
      operation = c.make_root-successor.new.parts.begun;
      attempt = 1;
      root = root;
      expected = c.args.main;
      successor = c.make_root-successor.result;
      second = None;
      opens = None;
    } in
    let found = root_found state actor (call.Clear handle) root allowed refl c.requires.clear.word in
    let newest : c.make_root-successor.result ≡ next_made emptied.draft.heap = second.made ∙ ap next_made half.draft.heap in
    let is : IsCourse (with_offer course handle offer) c.swap_root.new.parts =
    c.swap_root.ensures.courses course (Plain root) (second.courses emptied half)
    (ap (λ r. r ∷ next_made emptied.draft.heap ∷ []) (sym first.made) ∙ ap (λ r. branch ∷ r ∷ []) (sym newest)) found in
    let theirs = with_new_root emptied (next_made state.heap) in
    copy_after before c.make_root-successor.new.parts c.swap_root.new.parts c.count_call.new.parts actor (call.Clear handle) handle root offer
    (offer_of state root theirs.draft.newest None None) (state.generations + 1) theirs.draft 9 11 reply.Cleared c.requires.core c.requires.rest (omega arith) found
    (offer_same (ap (λ (p : Parts). p.begun) second.same) main_is newest refl refl)
    (subst (λ r. IsCourse (with_offer (with_new_root emptied r) handle offer) c.swap_root.new.parts) first.made is)
    (made_twice before middle c.make_root-successor.new.parts refl (made_so middle c.make_root-successor.new.parts (before.generations + 1) second.same))
    c.swap_root.ensures.same c.swap_root.ensures.table c.count_call.ensures (second.records.0 ∙ first.records.0, second.records.1 ∙ first.records.1) c.swap_root.ensures.records refl
    (clear_comes state actor handle c.requires.core.run c.requires.rest root allowed c.requires.clear
    (settled_root state before.heap.heap root c.args.main refl c.requires.over lives.1))
