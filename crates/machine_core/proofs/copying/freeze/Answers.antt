use Rattle.std.proofs.Common.{arith, ◌≡◌, ◌+◌, ◌∷◌, [], refl, ap, sym, subst, None, Some}
use Rattle.history.specs.declared.calls.Call.TheVariants as call
use Rattle.history.specs.declared.replies.Reply.TheVariants as reply
use Rattle.machine_core.specs.Vocabulary.{main_of, main_at, times, Descriptor, Plain, least_free, first_course, offer_of, with_new_root, with_offer, next_made}
use Rattle.slot_arena.proofs.Times.{times-cons}
use Rattle.machine_core.specs.declared.parts.Parts.{Parts}
use Rattle.machine_core.specs.Rooting.{HoldsBeside, IsCourse}
use Rattle.machine_core.specs.Straight.{CarriesBy}
use Rattle.machine_core.specs.Seen.{seen}
use Rattle.proof_core.proofs.Bounded.{bounded}
use Rattle.proof_core.proofs.Claims.{one_live}
use Rattle.proof_core.proofs.Numbers.{least_known}
use Rattle.machine_core.proofs.Copied.{copy_after, first_coursed, freeze_comes, holds_made, made_so, offer_lives, offer_same}
use Rattle.machine_core.proofs.Copied.{over_lives, root_found, settled_root}
use Rattle.machine_core.proofs.copying.freeze.Goals as goal

pub make_root-successor-requires-clause-births : goal.make_root-successor-requires-clause-births
make_root-successor-requires-clause-births c = let bounds = bounded (seen c.args.parts.now) c.requires.core.run in omega (arith, bounds.births, bounds.steps)

pub make_root-successor-requires-clause-generations : goal.make_root-successor-requires-clause-generations
make_root-successor-requires-clause-generations c = let bounds = bounded (seen c.args.parts.now) c.requires.core.run in omega (arith, bounds.generations, bounds.steps)

pub make_root-successor-requires-clause-live : goal.make_root-successor-requires-clause-live
make_root-successor-requires-clause-live c =
    let lives =
    over_lives c.args.parts.now c.requires.allowed.0 (call.Freeze c.args.handle) c.args.root c.args.main c.requires.core c.requires.allowed.1 c.requires.clear.word c.requires.over in
    one_live c.args.parts.now.heap.heap c.args.main lives.1

pub swap_root-requires-clause-live : goal.swap_root-requires-clause-live
swap_root-requires-clause-live c =
    let lives =
    over_lives c.args.parts.now c.requires.allowed.0 (call.Freeze c.args.handle) c.args.root c.args.main c.requires.core c.requires.allowed.1 c.requires.clear.word c.requires.over in
    let made = c.make_root-successor.ensures in
    offer_lives c.make_root-successor.new.parts.heap.heap c.args.root c.args.main c.make_root-successor.result
    (made.stay c.args.root lives.0) (made.stay c.args.main lives.1) made.lives

pub swap_root-requires-clause-holds : goal.swap_root-requires-clause-holds
swap_root-requires-clause-holds c =
    let made = c.make_root-successor.ensures in
    let own = c.make_root-successor.result in
    subst (λ rs. HoldsBeside c.make_root-successor.new.parts.heap rs (own ∷ []) 12) (sym (ap (λ (p : Parts). p.table.roots) made.same))
    (holds_made c.args.parts.now c.make_root-successor.new.parts.heap (own ∷ []) c.requires.core
    (λ r. omega (arith, ap (times r) made.outside, times-cons r own c.args.parts.now.heap.outside, times-cons r own [])) (omega arith))

pub count_call-requires-clause-begun : goal.count_call-requires-clause-begun
count_call-requires-clause-begun c =
    let bounds = bounded (seen c.args.parts.now) c.requires.core.run in
    omega (
      arith,
      bounds.begins,
      bounds.steps,
      ap (λ (p : Parts). p.begun) c.swap_root.ensures.same,
      ap (λ (p : Parts). p.begun) c.make_root-successor.ensures.same,
    )

pub returns : goal.returns
returns c actor allowed =
    let lives =
    over_lives c.args.parts.now actor (call.Freeze c.args.handle) c.args.root c.args.main c.requires.core allowed c.requires.clear.word c.requires.over in
    let before = c.args.parts.now in
    let state = seen before in
    let root = c.args.root in
    let made = c.make_root-successor.ensures in
    let opened = c.least_free-opened.result in
    let free : opened ≡ least_free state = least_known before.handles state opened c.requires.core.kept.numbers c.least_free-opened.ensures in
    let main_is : c.args.main ≡ main_at state.heap root = sym (ap main_of c.requires.over.indirection) in
    let offer : Descriptor = record {
      operation = c.make_root-successor.new.parts.begun;
      attempt = 1;
      root = root;
      expected = c.args.main;
      successor = c.make_root-successor.result;
      second = None;
      opens = Some opened;
    } in
    let found = root_found state actor (call.Freeze c.args.handle) root allowed refl c.requires.clear.word in
    let is : IsCourse (with_offer (with_new_root (first_course state) c.args.main) c.args.handle offer) c.swap_root.new.parts =
    c.swap_root.ensures.courses (with_new_root (first_course state) c.args.main) (Plain root) (made.courses (first_course state) (first_coursed before c.requires.core))
    (ap (λ r. r ∷ []) (sym made.made)) found in
    subst (λ n. CarriesBy before actor (call.Freeze c.args.handle) (reply.Opened n) c.count_call.new.parts) (sym free)
    (copy_after before c.make_root-successor.new.parts c.swap_root.new.parts c.count_call.new.parts actor (call.Freeze c.args.handle) c.args.handle root offer
    (offer_of state root (next_made state.heap) None (Some (least_free state))) (state.generations + 1) (with_new_root (first_course state) (main_at state.heap root)).draft 8 10
    (reply.Opened (least_free state)) c.requires.core c.requires.rest (omega arith) found
    (offer_same (ap (λ (p : Parts). p.begun) made.same) main_is made.made refl (ap Some free))
    (subst (λ m. IsCourse (with_offer (with_new_root (first_course state) m) c.args.handle offer) c.swap_root.new.parts) main_is is)
    (made_so before c.make_root-successor.new.parts (before.generations + 1) made.same) c.swap_root.ensures.same c.swap_root.ensures.table c.count_call.ensures made.records
    c.swap_root.ensures.records refl
    (freeze_comes state actor c.args.handle c.requires.core.run c.requires.rest root allowed c.requires.clear
    (settled_root state before.heap.heap root c.args.main refl c.requires.over lives.1)))
