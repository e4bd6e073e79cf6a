use Rattle.std.proofs.Common.{◌≡◌, ℕ, ◌+◌, ◌*◌, ◌<◌, ◌≤◌, ◌^◌, true, false, length, None, arith, sym, ◌∙◌, subst}
use Rattle.machine_core.specs.Vocabulary.{Ref, node_at, begin_denial, is_busy, key_hash, key_of, needs_writable}
use Rattle.machine_core.specs.Beneath.trie_parts.specs.Tasks.{call_of}
use Rattle.machine_core.specs.Beneath.trie_parts.specs.declared.calls.KeyCall.{KeyCall}
use Rattle.machine_core.specs.declared.changing.Deed.{Deed}
use Rattle.machine_core.specs.declared.descending.Place.{Place}
use Rattle.machine_core.specs.declared.parts.Parts.{Parts}
use Rattle.machine_core.specs.Changing.{IsDeed}
use Rattle.machine_core.specs.Keeping.{IsCore}
use Rattle.machine_core.specs.Renewing.{EndsPast, IsOn}
use Rattle.machine_core.specs.Seen.{seen}
use Rattle.machine_core.specs.Straight.{CarriesFrom, IsClear}
use Rattle.machine_core.proofs.Keyed.{is_keyed, on_handle}
use Rattle.machine_core.proofs.WayDown.{arrives, leaves_there, on_started}
use Rattle.machine_core.proofs.straight.renew_at_once.Goals as goal

-- what it does at the place it does at the one that stands there then
deed : (handle : ℕ) (asked : KeyCall) (place now : Place) (does : Deed) → IsDeed (call_of handle asked) place.entry does → now ≡ record place { indirection = now.indirection } →
    IsDeed (call_of handle asked) now.entry does
deed handle asked place now does is same = subst (λ (p : Place). IsDeed (call_of handle asked) p.entry does) (sym same) is

-- at the root the call is on its way
on_way : (parts : Parts) (actor handle : ℕ) (asked : KeyCall) (root : Ref) (place : Place) (key hash : ℕ) → IsCore parts → is_busy (seen parts) ≡ false →
    begin_denial (seen parts) actor (call_of handle asked) None ≡ None → IsClear (seen parts) handle root → needs_writable (call_of handle asked) ≡ true → key < 2 ^ 64 →
    key ≡ key_of (call_of handle asked) → hash ≡ key_hash (seen parts) key → EndsPast parts.heap.heap root hash key place → 33 * place.depth + 32 ≤ length parts.heap.heap.free →
    IsOn (seen parts) parts actor (call_of handle asked) root place (node_at parts.heap.heap place.main) 0 root
on_way parts actor handle asked root place key hash core rest allowed clear writes fits own hashed ends free =
    on_started parts actor (call_of handle asked) root place key hash core rest allowed (subst (λ h. IsClear (seen parts) h root) (sym (on_handle handle asked)) clear) (is_keyed handle asked) writes
    (subst (λ k. k < 2 ^ 64) own fits) own hashed ends free

pub renew_down-place-requires : goal.renew_down-place-requires
renew_down-place-requires c = record {
  on = (
    seen c.args.parts.now,
    c.requires.allowed.0,
    call_of c.args.handle c.args.call,
    c.key-key.ensures c.args.handle,
    (on_way c.args.parts.now c.requires.allowed.0 c.args.handle c.args.call c.args.root c.in_ok-place.place c.key-key.result c.key_hash.result c.requires.core c.requires.rest c.requires.allowed.1
        c.requires.clear (sym (c.writes.ensures c.args.handle) ∙ c.if-not-writes.false) c.key-key.type_inv (c.key-key.ensures c.args.handle) c.key_hash.ensures c.in_ok-place.ensures
        (c.can_renew_to.ensures c.if-not-can_renew_to.false)),
  );
}

pub do_deed-reply-requires-clause-there : goal.do_deed-reply-requires-clause-there
do_deed-reply-requires-clause-there c = (
  seen c.args.parts.now,
  c.requires.allowed.0,
  call_of c.args.handle c.args.call,
  c.key-key.ensures c.args.handle,
  (deed c.args.handle c.args.call c.in_ok-place.place c.renew_down-place.result c.deed_of-deed.result (c.deed_of-deed.ensures c.args.handle) c.renew_down-place.ensures.same),
  arrives (seen c.args.parts.now) c.renew_down-place.new.parts c.requires.allowed.0 (call_of c.args.handle c.args.call) c.args.root c.in_ok-place.place c.renew_down-place.result
      (node_at c.args.parts.now.heap.heap c.in_ok-place.place.main)
      (c.renew_down-place.ensures.on (seen c.args.parts.now) c.requires.allowed.0 (call_of c.args.handle c.args.call) (c.key-key.ensures c.args.handle)
      (on_way c.args.parts.now c.requires.allowed.0 c.args.handle c.args.call c.args.root c.in_ok-place.place c.key-key.result c.key_hash.result c.requires.core c.requires.rest c.requires.allowed.1
      c.requires.clear (sym (c.writes.ensures c.args.handle) ∙ c.if-not-writes.false) c.key-key.type_inv (c.key-key.ensures c.args.handle) c.key_hash.ensures c.in_ok-place.ensures
      (c.can_renew_to.ensures c.if-not-can_renew_to.false)))
      c.renew_down-place.ensures.same,
)

pub do_deed-reply-requires-clause-leaves : goal.do_deed-reply-requires-clause-leaves
do_deed-reply-requires-clause-leaves c removes = (
  omega arith,
  leaves_there (seen c.args.parts.now) c.renew_down-place.new.parts c.requires.allowed.0 (call_of c.args.handle c.args.call) c.args.root c.in_ok-place.place c.renew_down-place.result
      (node_at c.args.parts.now.heap.heap c.in_ok-place.place.main)
      (c.renew_down-place.ensures.on (seen c.args.parts.now) c.requires.allowed.0 (call_of c.args.handle c.args.call) (c.key-key.ensures c.args.handle)
      (on_way c.args.parts.now c.requires.allowed.0 c.args.handle c.args.call c.args.root c.in_ok-place.place c.key-key.result c.key_hash.result c.requires.core c.requires.rest c.requires.allowed.1
      c.requires.clear (sym (c.writes.ensures c.args.handle) ∙ c.if-not-writes.false) c.key-key.type_inv (c.key-key.ensures c.args.handle) c.key_hash.ensures c.in_ok-place.ensures
      (c.can_renew_to.ensures c.if-not-can_renew_to.false)))
      c.renew_down-place.ensures.same (c.leaves_two.ensures c.if-not-leaves_two.false removes),
)

pub returns-clause-done : goal.returns-clause-done
returns-clause-done c actor allowed = (subst (λ r. CarriesFrom (seen c.args.parts.now) actor (call_of c.args.handle c.args.call) r c.do_deed-reply.new.parts) (sym c.key_reply.ensures)
    (c.do_deed-reply.ensures (seen c.args.parts.now) actor (call_of c.args.handle c.args.call) (c.key-key.ensures c.args.handle)
    (deed c.args.handle c.args.call c.in_ok-place.place c.renew_down-place.result c.deed_of-deed.result (c.deed_of-deed.ensures c.args.handle) c.renew_down-place.ensures.same)
    (arrives (seen c.args.parts.now) c.renew_down-place.new.parts actor (call_of c.args.handle c.args.call) c.args.root c.in_ok-place.place c.renew_down-place.result
    (node_at c.args.parts.now.heap.heap c.in_ok-place.place.main)
    (c.renew_down-place.ensures.on (seen c.args.parts.now) actor (call_of c.args.handle c.args.call) (c.key-key.ensures c.args.handle)
    (on_way c.args.parts.now actor c.args.handle c.args.call c.args.root c.in_ok-place.place c.key-key.result c.key_hash.result c.requires.core c.requires.rest allowed
    c.requires.clear (sym (c.writes.ensures c.args.handle) ∙ c.if-not-writes.false) c.key-key.type_inv (c.key-key.ensures c.args.handle) c.key_hash.ensures c.in_ok-place.ensures
    (c.can_renew_to.ensures c.if-not-can_renew_to.false)))
    c.renew_down-place.ensures.same))).0

pub returns-clause-core : goal.returns-clause-core
returns-clause-core c =
    (c.do_deed-reply.ensures (seen c.args.parts.now) c.requires.allowed.0 (call_of c.args.handle c.args.call) (c.key-key.ensures c.args.handle)
    (deed c.args.handle c.args.call c.in_ok-place.place c.renew_down-place.result c.deed_of-deed.result (c.deed_of-deed.ensures c.args.handle) c.renew_down-place.ensures.same)
    (arrives (seen c.args.parts.now) c.renew_down-place.new.parts c.requires.allowed.0 (call_of c.args.handle c.args.call) c.args.root c.in_ok-place.place c.renew_down-place.result
    (node_at c.args.parts.now.heap.heap c.in_ok-place.place.main)
    (c.renew_down-place.ensures.on (seen c.args.parts.now) c.requires.allowed.0 (call_of c.args.handle c.args.call) (c.key-key.ensures c.args.handle)
    (on_way c.args.parts.now c.requires.allowed.0 c.args.handle c.args.call c.args.root c.in_ok-place.place c.key-key.result c.key_hash.result c.requires.core c.requires.rest c.requires.allowed.1
    c.requires.clear (sym (c.writes.ensures c.args.handle) ∙ c.if-not-writes.false) c.key-key.type_inv (c.key-key.ensures c.args.handle) c.key_hash.ensures c.in_ok-place.ensures
    (c.can_renew_to.ensures c.if-not-can_renew_to.false)))
    c.renew_down-place.ensures.same)).1
