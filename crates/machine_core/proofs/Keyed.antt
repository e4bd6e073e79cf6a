-- A call on one key, with its handle.
use Rattle.std.proofs.Common.{◌≡◌, ℕ, refl}
use Rattle.machine_core.specs.Vocabulary.{handle_of}
use Rattle.machine_core.specs.Beneath.proof_straight.specs.Running.{IsKeyed}
use Rattle.machine_core.specs.Beneath.trie_parts.specs.Tasks.{call_of}
use Rattle.machine_core.specs.Beneath.trie_parts.specs.declared.calls.KeyCall.{KeyCall}
use Rattle.machine_core.specs.Beneath.trie_parts.specs.declared.calls.KeyCall.TheVariants.{Get, Put, PutIfAbsent, Replace, ReplaceIf, Remove, RemoveIf}

pub is_keyed : (handle : ℕ) (call : KeyCall) → IsKeyed (call_of handle call)
is_keyed handle (Get k) = tt
is_keyed handle (Put k v) = tt
is_keyed handle (PutIfAbsent k v) = tt
is_keyed handle (Replace k v) = tt
is_keyed handle (ReplaceIf k a b) = tt
is_keyed handle (Remove k) = tt
is_keyed handle (RemoveIf k v) = tt

pub on_handle : (handle : ℕ) (call : KeyCall) → handle_of (call_of handle call) ≡ handle
on_handle handle (Get k) = refl
on_handle handle (Put k v) = refl
on_handle handle (PutIfAbsent k v) = refl
on_handle handle (Replace k v) = refl
on_handle handle (ReplaceIf k a b) = refl
on_handle handle (Remove k) = refl
on_handle handle (RemoveIf k v) = refl
