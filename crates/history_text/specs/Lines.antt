-- What the words of a line say: its forms, and the fault of a line that has none of them.
use Rattle.std.specs.Prelude.{ℕ, ◌+◌, take, drop, is_some, Bool, true, false, List, [], ◌∷◌, Option, Some, None, Result, Ok, Err, ◌==◌, if◌then◌else◌, codes}
use Rattle.std.specs.List.{position, list_all}
use Rattle.std.specs.Str.{bytes_eq}
use Rattle.ctrie_base.specs.declared.refusals.Refusal.{Refusal}
use Rattle.ctrie_base.specs.declared.refusals.Refusal.TheVariants.{BadLine, BadHeader}
use Rattle.ctrie_base.specs.declared.hashes.HashKind.{HashKind}
use Rattle.history.specs.declared.calls.Call.{Call}
use Rattle.history.specs.declared.calls.Call.TheVariants.{Get, Put, PutIfAbsent, Replace, ReplaceIf, Remove, RemoveIf, Clear, Snapshot, Freeze, Close, Entries, Count}
use Rattle.history.specs.declared.replies.Reply.{Reply}
use Rattle.history.specs.declared.replies.Reply.TheVariants.{Found, Truth, Crowded, Opened, Closed, Cleared, Pairs, NoSlots}
use Rattle.history.specs.declared.replies.Reply.TheVariants as answer
use Rattle.history_text.specs.declared.names.CallName.{CallName}
use Rattle.history_text.specs.declared.names.CallName.TheVariants as call
use Rattle.history_text.specs.declared.names.ReplyName.{ReplyName}
use Rattle.history_text.specs.declared.names.ReplyName.TheVariants as reply
use Rattle.text_lines.specs.Words.{number_of, largest, wanted, both, made, ◌>>=◌}
use Rattle.history_text.specs.Words.{value_word, handle_word}
use Rattle.history_text.specs.Names.{call_named, reply_named, hash_named}

-- Calls, by their name and the number of their words. A call that opens no handle comes with none.

abbrev pub Said : Type 0
Said = Result (Call × Option ℕ) Refusal

abbrev pub call_on_handle : Option CallName → Result ℕ Refusal → Said
call_on_handle (Some call.Clear) h = made (λ x. (Clear x, None)) h
call_on_handle (Some call.Close) h = made (λ x. (Close x, None)) h
call_on_handle (Some call.Entries) h = made (λ x. (Entries x, None)) h
call_on_handle (Some call.Count) h = made (λ x. (Count x, None)) h
call_on_handle other h = Err BadLine

abbrev pub call_on_key : Option CallName → Result (ℕ × ℕ) Refusal → Said
call_on_key (Some call.Get) at = made (λ x. (Get x.0 x.1, None)) at
call_on_key (Some call.Remove) at = made (λ x. (Remove x.0 x.1, None)) at
call_on_key other at = Err BadLine

abbrev pub call_on_pair : Option CallName → Result (ℕ × (ℕ × ℕ)) Refusal → Said
call_on_pair (Some call.Put) at = made (λ x. (Put x.0 x.1.0 x.1.1, None)) at
call_on_pair (Some call.PutIfAbsent) at = made (λ x. (PutIfAbsent x.0 x.1.0 x.1.1, None)) at
call_on_pair (Some call.Replace) at = made (λ x. (Replace x.0 x.1.0 x.1.1, None)) at
call_on_pair (Some call.RemoveIf) at = made (λ x. (RemoveIf x.0 x.1.0 x.1.1, None)) at
call_on_pair other at = Err BadLine

abbrev pub call_on_change : Option CallName → Result (ℕ × (ℕ × (ℕ × ℕ))) Refusal → Said
call_on_change (Some call.ReplaceIf) at = made (λ x. (ReplaceIf x.0 x.1.0 x.1.1.0 x.1.1.1, None)) at
call_on_change other at = Err BadLine

-- a call that opens a handle: its handle and the one behind `as`
abbrev pub opening_call : Option CallName → Result (ℕ × ℕ) Refusal → Said
opening_call (Some call.Snapshot) at = made (λ x. (Snapshot x.0, Some x.1)) at
opening_call (Some call.Freeze) at = made (λ x. (Freeze x.0, Some x.1)) at
opening_call other at = Err BadLine

abbrev pub opens : Option CallName → Bool
opens (Some call.Snapshot) = true
opens (Some call.Freeze) = true
opens other = false

-- a call of four words
abbrev pub call_of_four : Option CallName → List ℕ → List ℕ → List ℕ → Said
call_of_four name h x y =
    if opens name
    then (if bytes_eq x (codes "as") then opening_call name (both (handle_word h) (handle_word y)) else Err BadLine)
    else call_on_pair name (both (handle_word h) (both (value_word x) (value_word y)))

-- a call of five words
abbrev pub call_of_five : Option CallName → List ℕ → List ℕ → List ℕ → List ℕ → Said
call_of_five name h k a b = call_on_change name (both (handle_word h) (both (value_word k) (both (value_word a) (value_word b))))

unfoldable pub call_of : List (List ℕ) → Said
call_of (name ∷ h ∷ []) = call_on_handle (call_named name) (handle_word h)
call_of (name ∷ h ∷ k ∷ []) = call_on_key (call_named name) (both (handle_word h) (value_word k))
call_of (name ∷ h ∷ x ∷ y ∷ []) = call_of_four (call_named name) h x y
call_of (name ∷ h ∷ k ∷ a ∷ b ∷ []) = call_of_five (call_named name) h k a b
call_of other = Err BadLine

-- Replies.

-- where the first `=` of a word stands
abbrev pub equals_at : List ℕ → Option ℕ
equals_at word = position (λ b. b == 61) word

abbrev pub has_equals : List ℕ → Bool
has_equals word = is_some (equals_at word)

-- a word `K=V`: a number before its first `=`, and one behind it
abbrev pub pair_at : Option ℕ → List ℕ → Result (ℕ × ℕ) Refusal
pair_at None word = Err BadLine
pair_at (Some i) word = both (wanted (number_of largest (take i word))) (wanted (number_of largest (drop (i + 1) word)))

abbrev pub pair_word : List ℕ → Result (ℕ × ℕ) Refusal
pair_word word = pair_at (equals_at word) word

-- what each of these words says, up to the first fault
abbrev pub each : {A : Type 0} → (List ℕ → Result A Refusal) → List (List ℕ) → Result (List A) Refusal
each said [] = Ok []
each said (word ∷ more) = said word >>= λ x. made (λ xs. x ∷ xs) (each said more)

abbrev pub pair_words : List (List ℕ) → Result (List (ℕ × ℕ)) Refusal
pair_words words = if list_all has_equals words then each pair_word words else Err BadLine

abbrev pub bare_reply : Option ReplyName → Result Reply Refusal
bare_reply (Some reply.None) = Ok (Found None)
bare_reply (Some reply.True) = Ok (Truth true)
bare_reply (Some reply.False) = Ok (Truth false)
bare_reply (Some reply.Crowded) = Ok Crowded
bare_reply (Some reply.Closed) = Ok Closed
bare_reply (Some reply.Cleared) = Ok Cleared
bare_reply (Some reply.NoSlots) = Ok NoSlots
bare_reply other = Err BadLine

abbrev pub reply_with : Option ReplyName → List ℕ → Result Reply Refusal
reply_with (Some reply.Some) word = made (λ v. Found (Some v)) (value_word word)
reply_with (Some reply.Handle) word = made (λ h. Opened h) (handle_word word)
reply_with (Some reply.Count) word = made (λ n. answer.Count n) (value_word word)
reply_with other word = Err BadLine

abbrev pub is_pairs : Option ReplyName → Bool
is_pairs (Some reply.Pairs) = true
is_pairs other = false

abbrev pub plain_reply : Option ReplyName → List (List ℕ) → Result Reply Refusal
plain_reply name [] = bare_reply name
plain_reply name (word ∷ []) = reply_with name word
plain_reply name other = Err BadLine

unfoldable pub reply_of : List (List ℕ) → Result Reply Refusal
reply_of [] = Err BadLine
reply_of (name ∷ more) = if is_pairs (reply_named name) then made (λ pairs. Pairs pairs) (pair_words more) else plain_reply (reply_named name) more

-- Orders, and the header: `hash` and a hash's name.

abbrev pub order_of : List (List ℕ) → Result (List ℕ) Refusal
order_of words = each (λ word. wanted (number_of largest word)) words

abbrev pub hash_wanted : Option HashKind → Result HashKind Refusal
hash_wanted None = Err BadHeader
hash_wanted (Some kind) = Ok kind

unfoldable pub header_of : List (List ℕ) → Result HashKind Refusal
header_of (word ∷ name ∷ []) = if bytes_eq word (codes "hash") then hash_wanted (hash_named name) else Err BadHeader
header_of other = Err BadHeader
