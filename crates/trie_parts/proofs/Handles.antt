-- What a call on one key says doesn't depend on its handle.
use Rattle.std.specs.Prelude.{◌≡◌, ℕ, refl}
use Rattle.trie_parts.specs.Beneath.machine_model.specs.Calls.{handle_of, key_of, value_of}
use Rattle.trie_parts.specs.declared.calls.KeyCall.{KeyCall}
use Rattle.trie_parts.specs.declared.calls.KeyCall.TheVariants.{Get, Put, PutIfAbsent, Replace, ReplaceIf, Remove, RemoveIf}
use Rattle.trie_parts.specs.Tasks.{call_of}

pub key_same : (call : KeyCall) (a b : ℕ) → key_of (call_of a call) ≡ key_of (call_of b call)
key_same (Get k) a b = refl
key_same (Put k v) a b = refl
key_same (PutIfAbsent k v) a b = refl
key_same (Replace k v) a b = refl
key_same (ReplaceIf k v w) a b = refl
key_same (Remove k) a b = refl
key_same (RemoveIf k v) a b = refl

pub value_same : (call : KeyCall) (a b : ℕ) → value_of (call_of a call) ≡ value_of (call_of b call)
value_same (Get k) a b = refl
value_same (Put k v) a b = refl
value_same (PutIfAbsent k v) a b = refl
value_same (Replace k v) a b = refl
value_same (ReplaceIf k v w) a b = refl
value_same (Remove k) a b = refl
value_same (RemoveIf k v) a b = refl

-- the handle is that of the call
pub handle_same : (call : KeyCall) (handle : ℕ) → handle_of (call_of handle call) ≡ handle
handle_same (Get k) handle = refl
handle_same (Put k v) handle = refl
handle_same (PutIfAbsent k v) handle = refl
handle_same (Replace k v) handle = refl
handle_same (ReplaceIf k v w) handle = refl
handle_same (Remove k) handle = refl
handle_same (RemoveIf k v) handle = refl
