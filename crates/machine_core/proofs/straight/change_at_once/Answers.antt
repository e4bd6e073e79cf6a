use Rattle.std.proofs.Common.{◌≡◌, ℕ, ◌<◌, ◌^◌, false, None, sym, subst}
use Rattle.machine_core.specs.Vocabulary.{Ref, begin_denial, is_busy, key_hash, key_of}
use Rattle.machine_core.specs.Beneath.trie_parts.specs.Tasks.{call_of}
use Rattle.machine_core.specs.Beneath.trie_parts.specs.declared.calls.KeyCall.{KeyCall}
use Rattle.machine_core.specs.declared.descending.Place.{Place}
use Rattle.machine_core.specs.declared.parts.Parts.{Parts}
use Rattle.machine_core.specs.Descending.{EndsAt}
use Rattle.machine_core.specs.Keeping.{IsCore}
use Rattle.machine_core.specs.Seen.{seen}
use Rattle.machine_core.specs.Straight.{CarriesFrom, HasArrived, IsClear}
use Rattle.machine_core.proofs.AtRest.{arrives_first}
use Rattle.machine_core.proofs.Keyed.{is_keyed, on_handle}
use Rattle.machine_core.proofs.straight.change_at_once.Goals as goal

arrived : (parts : Parts) (actor handle : ℕ) (asked : KeyCall) (root : Ref) (place : Place) (key hash : ℕ) → IsCore parts → is_busy (seen parts) ≡ false →
    begin_denial (seen parts) actor (call_of handle asked) None ≡ None → IsClear (seen parts) handle root → key < 2 ^ 64 → key ≡ key_of (call_of handle asked) →
    hash ≡ key_hash (seen parts) key → EndsAt parts.heap.heap root hash key place → HasArrived (seen parts) parts actor (call_of handle asked) root place
arrived parts actor handle asked root place key hash core rest allowed clear fits own hashed ends =
    arrives_first parts actor (call_of handle asked) root place key hash core rest allowed (subst (λ h. IsClear (seen parts) h root) (sym (on_handle handle asked)) clear) (is_keyed handle asked)
    (subst (λ k. k < 2 ^ 64) own fits) own hashed ends

pub do_deed-reply-requires-clause-there : goal.do_deed-reply-requires-clause-there
do_deed-reply-requires-clause-there c = (
  seen c.args.parts.now,
  c.requires.allowed.0,
  call_of c.args.handle c.args.call,
  c.key-key.ensures c.args.handle,
  c.deed_of-deed.ensures c.args.handle,
  arrived c.args.parts.now c.requires.allowed.0 c.args.handle c.args.call c.in_ok-root.root c.in-Some.place c.key-key.result c.key_hash.result c.requires.core c.requires.rest c.requires.allowed.1
      c.in_ok-root.ensures c.key-key.type_inv (c.key-key.ensures c.args.handle) c.key_hash.ensures c.in-Some.ensures,
)

pub returns-clause-done : goal.returns-clause-done
returns-clause-done c actor allowed =
    (subst (λ r. CarriesFrom (seen c.args.parts.now) actor (call_of c.args.handle c.args.call) r c.do_deed-reply.new.parts) (sym c.key_reply.ensures)
    (c.do_deed-reply.ensures (seen c.args.parts.now) actor (call_of c.args.handle c.args.call) (c.key-key.ensures c.args.handle) (c.deed_of-deed.ensures c.args.handle)
    (arrived c.args.parts.now actor c.args.handle c.args.call c.in_ok-root.root c.in-Some.place c.key-key.result c.key_hash.result c.requires.core c.requires.rest allowed
    c.in_ok-root.ensures c.key-key.type_inv (c.key-key.ensures c.args.handle) c.key_hash.ensures c.in-Some.ensures))).0

pub returns-clause-core : goal.returns-clause-core
returns-clause-core c =
    (c.do_deed-reply.ensures (seen c.args.parts.now) c.requires.allowed.0 (call_of c.args.handle c.args.call) (c.key-key.ensures c.args.handle) (c.deed_of-deed.ensures c.args.handle)
    (arrived c.args.parts.now c.requires.allowed.0 c.args.handle c.args.call c.in_ok-root.root c.in-Some.place c.key-key.result c.key_hash.result c.requires.core c.requires.rest c.requires.allowed.1
    c.in_ok-root.ensures c.key-key.type_inv (c.key-key.ensures c.args.handle) c.key_hash.ensures c.in-Some.ensures)).1
