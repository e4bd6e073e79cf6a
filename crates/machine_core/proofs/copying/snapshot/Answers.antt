use Rattle.std.proofs.Common.{arith, ◌≡◌, ◌+◌, ◌∷◌, [], refl, ap, sym, subst, ◌∙◌, Some}
use Rattle.history.specs.declared.calls.Call.TheVariants as call
use Rattle.history.specs.declared.replies.Reply.TheVariants as reply
use Rattle.machine_core.specs.Vocabulary.{Indirection, main_of, main_at, times, Descriptor, Plain, least_free, first_course, offer_of, with_new_root, with_offer, next_made}
use Rattle.slot_arena.proofs.Times.{times-cons}
use Rattle.machine_core.specs.declared.parts.Parts.{Parts}
use Rattle.machine_core.specs.Rooting.{HoldsBeside, IsCourse}
use Rattle.machine_core.specs.Straight.{CarriesBy}
use Rattle.machine_core.specs.Seen.{seen}
use Rattle.machine_core.proofs.AtRest.{empty_slots}
use Rattle.proof_core.proofs.Bounded.{bounded}
use Rattle.proof_core.proofs.Claims.{one_live}
use Rattle.proof_core.proofs.Numbers.{least_known}
use Rattle.machine_core.proofs.Copied.{copy_after, first_coursed, holds_made, made_so, made_twice, offer_same, offers_live}
use Rattle.machine_core.proofs.Copied.{over_lives, room_again, root_found, settled_root, snapshot_comes}
use Rattle.machine_core.proofs.copying.snapshot.Goals as goal

pub make_root-successor-requires-clause-births : goal.make_root-successor-requires-clause-births
make_root-successor-requires-clause-births c = let bounds = bounded (seen c.args.parts.now) c.requires.core.run in omega (arith, bounds.births, bounds.steps)

pub make_root-successor-requires-clause-generations : goal.make_root-successor-requires-clause-generations
make_root-successor-requires-clause-generations c = let bounds = bounded (seen c.args.parts.now) c.requires.core.run in omega (arith, bounds.generations, bounds.steps)

pub make_root-successor-requires-clause-live : goal.make_root-successor-requires-clause-live
make_root-successor-requires-clause-live c =
    let lives =
    over_lives c.args.parts.now c.requires.allowed.0 (call.Snapshot c.args.handle) c.args.root c.args.main c.requires.core c.requires.allowed.1 c.requires.clear.word c.requires.over in
    one_live c.args.parts.now.heap.heap c.args.main lives.1

pub make_root-second-requires-clause-free : goal.make_root-second-requires-clause-free
make_root-second-requires-clause-free c =
    let before = c.args.parts.now in
    let bounds = bounded (seen before) c.requires.core.run in
    (room_again before.heap.heap c.make_root-successor.new.parts.heap.heap (Indirection before.generations c.args.main) (empty_slots (seen before) c.requires.core.run)
    (omega (arith, c.requires.clear.slots)) (omega (arith, bounds.births, bounds.steps)) c.make_root-successor.ensures.heap).0

pub make_root-second-requires-clause-births : goal.make_root-second-requires-clause-births
make_root-second-requires-clause-births c =
    let before = c.args.parts.now in
    let bounds = bounded (seen before) c.requires.core.run in
    (room_again before.heap.heap c.make_root-successor.new.parts.heap.heap (Indirection before.generations c.args.main) (empty_slots (seen before) c.requires.core.run)
    (omega (arith, c.requires.clear.slots)) (omega (arith, bounds.births, bounds.steps)) c.make_root-successor.ensures.heap).1

pub make_root-second-requires-clause-generations : goal.make_root-second-requires-clause-generations
make_root-second-requires-clause-generations c =
    let bounds = bounded (seen c.args.parts.now) c.requires.core.run in
    omega (arith, bounds.generations, bounds.steps, ap (λ (p : Parts). p.generations) c.make_root-successor.ensures.same)

pub make_root-second-requires-clause-live : goal.make_root-second-requires-clause-live
make_root-second-requires-clause-live c =
    let lives =
    over_lives c.args.parts.now c.requires.allowed.0 (call.Snapshot c.args.handle) c.args.root c.args.main c.requires.core c.requires.allowed.1 c.requires.clear.word c.requires.over in
    one_live c.make_root-successor.new.parts.heap.heap c.args.main (c.make_root-successor.ensures.stay c.args.main lives.1)

pub swap_root-requires-clause-live : goal.swap_root-requires-clause-live
swap_root-requires-clause-live c =
    let lives =
    over_lives c.args.parts.now c.requires.allowed.0 (call.Snapshot c.args.handle) c.args.root c.args.main c.requires.core c.requires.allowed.1 c.requires.clear.word c.requires.over in
    let first = c.make_root-successor.ensures in
    let second = c.make_root-second.ensures in
    offers_live c.make_root-second.new.parts.heap.heap c.args.root c.args.main c.make_root-successor.result c.make_root-second.result
    (second.stay c.args.root (first.stay c.args.root lives.0)) (second.stay c.args.main (first.stay c.args.main lives.1))
    (second.stay c.make_root-successor.result first.lives)
    second.lives

pub swap_root-requires-clause-holds : goal.swap_root-requires-clause-holds
swap_root-requires-clause-holds c =
    let before = c.args.parts.now in
    let first = c.make_root-successor.ensures in
    let second = c.make_root-second.ensures in
    let one = c.make_root-successor.result in
    let other = c.make_root-second.result in
    subst (λ rs. HoldsBeside c.make_root-second.new.parts.heap rs (one ∷ other ∷ []) 12)
    (sym (ap (λ (p : Parts). p.table.roots) second.same ∙ ap (λ (p : Parts). p.table.roots) first.same))
    (holds_made before c.make_root-second.new.parts.heap (one ∷ other ∷ []) c.requires.core
    (λ r. omega (
      arith,
      ap (times r) second.outside,
      ap (times r) first.outside,
      times-cons r other c.make_root-successor.new.parts.heap.outside,
      times-cons r one before.heap.outside,
      times-cons r one (other ∷ []),
      times-cons r other [],
    )) (omega arith))

pub count_call-requires-clause-begun : goal.count_call-requires-clause-begun
count_call-requires-clause-begun c =
    let bounds = bounded (seen c.args.parts.now) c.requires.core.run in
    omega (
      arith,
      bounds.begins,
      bounds.steps,
      ap (λ (p : Parts). p.begun) c.swap_root.ensures.same,
      ap (λ (p : Parts). p.begun) c.make_root-second.ensures.same,
      ap (λ (p : Parts). p.begun) c.make_root-successor.ensures.same,
    )

pub returns : goal.returns
returns c actor allowed =
    let lives =
    over_lives c.args.parts.now actor (call.Snapshot c.args.handle) c.args.root c.args.main c.requires.core allowed c.requires.clear.word c.requires.over in
    let before = c.args.parts.now in
    let state = seen before in
    let root = c.args.root in
    let first = c.make_root-successor.ensures in
    let second = c.make_root-second.ensures in
    let opened = c.least_free-opened.result in
    let free : opened ≡ least_free state = least_known before.handles state opened c.requires.core.kept.numbers c.least_free-opened.ensures in
    let main_is : c.args.main ≡ main_at state.heap root = sym (ap main_of c.requires.over.indirection) in
    let middle = with_new_root (first_course state) c.args.main in
    let course = with_new_root middle c.args.main in
    let offer : Descriptor = record {
      operation = c.make_root-second.new.parts.begun;
      attempt = 1;
      root = root;
      expected = c.args.main;
      successor = c.make_root-successor.result;
      second = Some c.make_root-second.result;
      opens = Some opened;
    } in
    let found = root_found state actor (call.Snapshot c.args.handle) root allowed refl c.requires.clear.word in
    let half : IsCourse middle c.make_root-successor.new.parts = first.courses (first_course state) (first_coursed before c.requires.core) in
    let newest : c.make_root-second.result ≡ next_made middle.draft.heap = second.made ∙ ap next_made half.draft.heap in
    let is : IsCourse (with_offer course c.args.handle offer) c.swap_root.new.parts =
    c.swap_root.ensures.courses course (Plain root) (second.courses middle half)
    (ap (λ r. r ∷ next_made middle.draft.heap ∷ []) (sym first.made) ∙ ap (λ r. c.make_root-successor.result ∷ r ∷ []) (sym newest)) found in
    let theirs = with_new_root (with_new_root (first_course state) (main_at state.heap root)) (main_at state.heap root) in
    subst (λ n. CarriesBy before actor (call.Snapshot c.args.handle) (reply.Opened n) c.count_call.new.parts) (sym free)
    (copy_after before c.make_root-second.new.parts c.swap_root.new.parts c.count_call.new.parts actor (call.Snapshot c.args.handle) c.args.handle root offer
    (offer_of state root (next_made state.heap) (Some theirs.draft.newest) (Some (least_free state))) (state.generations + 1 + 1) theirs.draft 9 11
    (reply.Opened (least_free state)) c.requires.core c.requires.rest (omega arith) found
    (offer_same (ap (λ (p : Parts). p.begun) c.make_root-second.ensures.same ∙ ap (λ (p : Parts). p.begun) c.make_root-successor.ensures.same) main_is first.made
    (ap Some (newest ∙ ap (λ m. next_made (with_new_root (first_course state) m).draft.heap) main_is)) (ap Some free))
    (subst (λ m. IsCourse (with_offer (with_new_root (with_new_root (first_course state) m) m) c.args.handle offer) c.swap_root.new.parts) main_is is)
    (made_twice before c.make_root-successor.new.parts c.make_root-second.new.parts (made_so before c.make_root-successor.new.parts (before.generations + 1) first.same)
    (made_so c.make_root-successor.new.parts c.make_root-second.new.parts (c.make_root-successor.new.parts.generations + 1) second.same))
    c.swap_root.ensures.same c.swap_root.ensures.table c.count_call.ensures (second.records.0 ∙ first.records.0, second.records.1 ∙ first.records.1) c.swap_root.ensures.records refl
    (snapshot_comes state actor c.args.handle c.requires.core.run c.requires.rest root allowed c.requires.clear
    (settled_root state before.heap.heap root c.args.main refl c.requires.over lives.1)))
