-- A snapshot, a freeze and a clear that run alone.
use Rattle.std.proofs.Common.{◌≡◌, ℕ, zero, suc, ◌+◌, ◌-◌, ◌<◌, true, false, is_some, [], length, Option, Some, None, refl, sym, ap, ◌∙◌, subst, arith}
use Rattle.std.proofs.lemmas.Bool.{false≢true}
use Rattle.std.proofs.lemmas.List.{length-set}
use Rattle.proof_straight.specs.Beneath.history.specs.declared.replies.Reply.TheVariants as reply
use Rattle.proof_straight.specs.Vocabulary.{Call, Indirection, Slot, Ref, Heap, empty_branch, generation_at, generation_of, main_at, main_of, prev_at, stored, Root, with_made as private_with}
use Rattle.proof_straight.specs.Vocabulary.{handle_of, after_given, copy_after_read, copy_if_made, access_of, begin_denial, begun_operation, least_free, after_prev, at_indirection, reading, State}
use Rattle.proof_straight.specs.Vocabulary.{root_at, Record, no_moment, given_by}
use Rattle.proof_straight.specs.Beneath.history.specs.declared.calls.Call.TheVariants as call
use Rattle.proof_straight.specs.Beneath.slot_arena.specs.declared.nodes.Prev.TheVariants as prev
use Rattle.machine_model.specs.declared.copying.CopyLine.TheVariants as copy
use Rattle.machine_model.specs.declared.lines.Line.TheVariants as line
use Rattle.machine_model.specs.declared.reading.ReadLine.TheVariants as read
use Rattle.proof_straight.specs.Copies.{Course, IsSettled, cleared, first_course, frozen, offer_of, snapshotted, with_new_root}
use Rattle.proof_straight.specs.Drafts.{after_call, first_draft, with_made}
use Rattle.proof_straight.specs.Laws.{ClearsStraight, FreezesStraight, SnapshotsStraight}
use Rattle.proof_straight.specs.Running.{ComesTo}
use Rattle.proof_straight.proofs.Steps.Alone.{Alone, IsCalm, on_line}
use Rattle.proof_straight.proofs.Change.Changed.{live_stands}
use Rattle.proof_straight.proofs.Way.Descent.{OnLine, rooted}
use Rattle.proof_straight.proofs.Steps.Going.{begun_record, makes, read_fits, reads}
use Rattle.proof_straight.proofs.Steps.Noting.{noted_read, reading as reading_of, with_read}
use Rattle.proof_straight.proofs.Change.Recording.{copied_noted}
use Rattle.proof_straight.proofs.Roots.Offers.{makes_root, offer_ends}
use Rattle.proof_straight.proofs.Way.Rooted.{alone_at, calm_at, comes_to_root}
use Rattle.proof_straight.proofs.Change.Slots.{prev_stays, standing_indirection, stored_node, takes}
use Rattle.proof_straight.proofs.Way.Unchanged.{fits_at, no_actor}

-- the handle of a call that is allowed is open
open_by : (o : Option Root) → is_some (access_of o) ≡ true → (root : Root) × (o ≡ Some root)
open_by None h = absurd (false≢true h)
open_by (Some root) h = (root, refl)

has_access : (state : State) (actor : ℕ) (c : Call) → begin_denial state actor c None ≡ None → is_some (access_of (root_at state (handle_of c))) ≡ true
has_access state actor c d = grind arith

open_at : (state : State) (actor : ℕ) (c : Call) → begin_denial state actor c None ≡ None → (root : Root) × (root_at state (handle_of c) ≡ Some root)
open_at state actor c d = open_by (root_at state (handle_of c)) (has_access state actor c d)

-- ---- the root's main node is read

module _ (state : State) (past : Record) (k : ℕ) (call : Call) (root : Ref) (alone : Alone state k) (calm : IsCalm state (first_draft state))
    (decided : prev_at state.heap (main_at state.heap root) ≡ prev.None) where
  reads_root : k < length past.moments → OnLine state past k call root alone calm (begun_record state past k call) (line.Copy (copy.Read root (reading root))) 1 →
      OnLine state past k call root alone calm (with_read (begun_record state past k call) k (state.steps + 2) (main_at state.heap root)) (after_given call root (main_at state.heap root)) 3
  reads_root fits before =
      let main = main_at state.heap root in
      let first = line.Copy (copy.Read root (reading root)) in
      let second = line.Copy (copy.Read root (record { indirection = root; line = read.Prev main })) in
      let to_second = reads state past k call state alone (first_draft state) (rooted state call root) first second 1 (reading_of None true) calm before tt refl refl refl in
      subst (λ r. OnLine state past k call root alone calm r (after_given call root main) 3)
      (noted_read (begun_record state past k call) (state.steps + 2) (state.steps + 3) k main (omega (arith, fits, length-set past.moments (suc k - 1) no_moment)))
      (reads state past k call state alone (first_draft state) (rooted state call root) second (after_given call root main) 2 (reading_of (Some main) false) calm to_second tt
      (ap (λ v. reading_of (given_by (at_indirection root (after_prev (begun_operation state call None).access main v))) false) decided) refl
      (ap (λ v. copy_after_read (on_line (rooted state call root) (first_draft state) second) root (at_indirection root (after_prev (begun_operation state call None).access main v))) decided))

-- what stays while nodes are made
pub record StaysRoot (state : State) (heap : Heap) (root : Ref) : Type 0 where
  pub same_main : main_at heap root ≡ main_at state.heap root
  pub decided : prev_at heap (main_at state.heap root) ≡ prev.None
  pub same_generation : generation_at heap root ≡ generation_at state.heap root

root_stays : (state : State) (heap : Heap) (root : Ref) → IsSettled state.heap root → ((r : Ref) (slot : Slot) → stored state.heap r ≡ Some slot → stored heap r ≡ Some slot) →
    StaysRoot state heap root
root_stays state heap root settled stays =
    let (over, at_root) = standing_indirection state.heap root settled.generation settled.main settled.indirection in
    let (slot, at_main) = live_stands state.heap (main_at state.heap root) settled.live in
    record {
      same_main = ap main_of (stored_node heap root over (stays root over at_root) ∙ sym (stored_node state.heap root over at_root));
      same_generation = ap generation_of (stored_node heap root over (stays root over at_root) ∙ sym (stored_node state.heap root over at_root));
      decided = prev_stays state.heap heap (main_at state.heap root) slot at_main (stays (main_at state.heap root) slot at_main) ∙ settled.decided;
    }

pub freezes_straight : FreezesStraight
freezes_straight state past zero handle root ready is settled free lasts = absurd (no_actor ready)
freezes_straight state past (suc k) handle root ready is settled free lasts =
    let c = call.Freeze handle in
    let alone = alone_at state k c root ready in
    let calm = calm_at state (suc k) c root ready in
    let main = main_at state.heap root in
    let fits = fits_at state past k c root ready is in
    let course = with_new_root (first_course state) main in
    let t = takes state.heap (Indirection state.generations main) ready.rests.free free in
    let (handle_root, is_open) = open_at state (suc k) c ready.allowed in
    let stays = root_stays state course.draft.heap root settled t.others in
    let offer = line.Copy (copy.Offer (offer_of state root course.draft.newest None (Some (least_free state)))) in
    let at_offer =
    makes_root state past k c root (first_course state) alone (copy.Successor root main) main offer 3 t.drawn
    (reads_root state past k c root alone calm settled.decided fits (comes_to_root state past k c root ready refl refl)) refl
    (ap (λ n. copy_if_made (on_line (rooted state c root) (first_draft state) (line.Copy (copy.Successor root main))) (copy.Successor root main) n) t.drawn) in
    subst (λ r. ComesTo state past (suc k) c 8 (reply.Opened (least_free state)) (after_call (frozen state handle root).base (frozen state handle root).draft (8 + 2)) r)
    (copied_noted state past k c root (state.steps + 2) (state.steps + 6) (state.steps + 8) (reply.Opened (least_free state)) refl)
    (offer_ends state past k c root course.base (record { actor = alone.actor; within = alone.within; rest = alone.rest }) handle_root is_open ready.word course.draft course.draft.newest None
    (Some (least_free state)) stays.same_main stays.decided stays.same_generation 4 (read_fits state past k c (state.steps + 2) main fits) at_offer (omega (arith, lasts)))

pub snapshots_straight : SnapshotsStraight
snapshots_straight state past zero handle root ready is settled free lasts = absurd (no_actor ready)
snapshots_straight state past (suc k) handle root ready is settled free lasts =
    let c = call.Snapshot handle in
    let alone = alone_at state k c root ready in
    let calm = calm_at state (suc k) c root ready in
    let main = main_at state.heap root in
    let fits = fits_at state past k c root ready is in
    let one = with_new_root (first_course state) main in
    let two = with_new_root one main in
    let t = takes state.heap (Indirection state.generations main) ready.rests.free (omega (arith, free)) in
    let u = takes one.draft.heap (Indirection (state.generations + 1) main) t.empty (omega (arith, free, t.fewer)) in
    let (handle_root, is_open) = open_at state (suc k) c ready.allowed in
    let stays = root_stays state two.draft.heap root settled (λ r slot is. u.others r slot (t.others r slot is)) in
    let second = copy.Second root main one.draft.newest in
    let offer = line.Copy (copy.Offer (offer_of state root one.draft.newest (Some two.draft.newest) (Some (least_free state)))) in
    let at_second =
    makes_root state past k c root (first_course state) alone (copy.Successor root main) main (line.Copy second) 3 t.drawn
    (reads_root state past k c root alone calm settled.decided fits (comes_to_root state past k c root ready refl refl)) refl
    (ap (λ n. copy_if_made (on_line (rooted state c root) (first_draft state) (line.Copy (copy.Successor root main))) (copy.Successor root main) n) t.drawn) in
    let at_offer =
    makes_root state past k c root one (record { actor = alone.actor; within = alone.within; rest = alone.rest }) second main offer 4 u.drawn at_second refl
    (ap (λ n. copy_if_made (on_line (rooted state c root) one.draft (line.Copy second)) second n) u.drawn) in
    subst (λ r. ComesTo state past (suc k) c 9 (reply.Opened (least_free state)) (after_call (snapshotted state handle root).base (snapshotted state handle root).draft (9 + 2)) r)
    (copied_noted state past k c root (state.steps + 2) (state.steps + 7) (state.steps + 9) (reply.Opened (least_free state)) refl)
    (offer_ends state past k c root two.base (record { actor = alone.actor; within = alone.within; rest = alone.rest }) handle_root is_open ready.word two.draft one.draft.newest
    (Some two.draft.newest) (Some (least_free state)) stays.same_main stays.decided stays.same_generation 5 (read_fits state past k c (state.steps + 2) main fits) at_offer (omega (arith, lasts)))

pub clears_straight : ClearsStraight
clears_straight state past zero handle root ready is settled free lasts = absurd (no_actor ready)
clears_straight state past (suc k) handle root ready is settled free lasts =
    let c = call.Clear handle in
    let alone = alone_at state k c root ready in
    let calm = calm_at state (suc k) c root ready in
    let main = main_at state.heap root in
    let fits = fits_at state past k c root ready is in
    let branch = with_made state (first_draft state) empty_branch in
    let one : Course = record { base = state; draft = branch } in
    let two = with_new_root one branch.newest in
    let t = takes state.heap empty_branch ready.rests.free (omega (arith, free)) in
    let u = takes branch.heap (Indirection state.generations branch.newest) t.empty (omega (arith, free, t.fewer)) in
    let (handle_root, is_open) = open_at state (suc k) c ready.allowed in
    let stays = root_stays state two.draft.heap root settled (λ r slot is. u.others r slot (t.others r slot is)) in
    let empty = copy.Empty root main in
    let over = copy.Cleared root main branch.newest in
    let offer = line.Copy (copy.Offer (offer_of state root two.draft.newest None None)) in
    let op = on_line (rooted state c root) (first_draft state) (line.Copy empty) in
    let at_over =
    makes state past k c state alone (first_draft state) (rooted state c root) (rooted state c root) (line.Copy empty) (line.Copy over) 3 empty_branch t.drawn
    (reads_root state past k c root alone calm settled.decided fits (comes_to_root state past k c root ready refl refl)) refl refl
    (ap (λ n. record op { private = private_with [] n; line = copy_if_made op empty n }) t.drawn) in
    let at_offer =
    makes_root state past k c root one alone over branch.newest offer 4 u.drawn at_over refl (ap (λ n. copy_if_made (on_line (rooted state c root) branch (line.Copy over)) over n) u.drawn) in
    subst (λ r. ComesTo state past (suc k) c 9 reply.Cleared (after_call (cleared state handle root).base (cleared state handle root).draft (9 + 2)) r)
    (copied_noted state past k c root (state.steps + 2) (state.steps + 7) (state.steps + 9) reply.Cleared refl)
    (offer_ends state past k c root two.base (record { actor = alone.actor; within = alone.within; rest = alone.rest }) handle_root is_open ready.word two.draft two.draft.newest None None
    stays.same_main stays.decided stays.same_generation 5 (read_fits state past k c (state.steps + 2) main fits) at_offer (omega (arith, lasts)))
