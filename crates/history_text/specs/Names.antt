-- The words by which lines, calls, replies and hashes are named.
use Rattle.std.specs.Prelude.{ℕ, List, [], ◌∷◌, Option, codes}
use Rattle.ctrie_base.specs.declared.hashes.HashKind.{HashKind}
use Rattle.ctrie_base.specs.declared.hashes.HashKind.TheVariants.{Low, Fold, Wide, Block}
use Rattle.ctrie_base.specs.Hashes.{name_of}
use Rattle.text_lines.specs.Words.{named}
use Rattle.history_text.specs.declared.names.CallName.{CallName}
use Rattle.history_text.specs.declared.names.CallName.TheVariants as call
use Rattle.history_text.specs.declared.names.ReplyName.{ReplyName}
use Rattle.history_text.specs.declared.names.ReplyName.TheVariants as reply
use Rattle.history_text.specs.declared.names.LineName.{LineName}
use Rattle.history_text.specs.declared.names.LineName.TheVariants as line

abbrev pub call_name : CallName → List ℕ
call_name call.Get = codes "get"
call_name call.Put = codes "put"
call_name call.PutIfAbsent = codes "put-if-absent"
call_name call.Replace = codes "replace"
call_name call.ReplaceIf = codes "replace-if"
call_name call.Remove = codes "remove"
call_name call.RemoveIf = codes "remove-if"
call_name call.Clear = codes "clear"
call_name call.Snapshot = codes "snapshot"
call_name call.Freeze = codes "freeze"
call_name call.Close = codes "close"
call_name call.Entries = codes "entries"
call_name call.Count = codes "count"

abbrev pub call_names : List CallName
call_names = call.Get ∷ call.Put ∷ call.PutIfAbsent ∷ call.Replace ∷ call.ReplaceIf ∷ call.Remove ∷ call.RemoveIf ∷ call.Clear ∷ call.Snapshot ∷ call.Freeze ∷ call.Close ∷ call.Entries ∷
    call.Count ∷ []

abbrev pub reply_name : ReplyName → List ℕ
reply_name reply.None = codes "none"
reply_name reply.Some = codes "some"
reply_name reply.True = codes "true"
reply_name reply.False = codes "false"
reply_name reply.Crowded = codes "crowded"
reply_name reply.Handle = codes "handle"
reply_name reply.Closed = codes "closed"
reply_name reply.Cleared = codes "cleared"
reply_name reply.Pairs = codes "pairs"
reply_name reply.Count = codes "count"
reply_name reply.NoSlots = codes "no-slots"

abbrev pub reply_names : List ReplyName
reply_names = reply.None ∷ reply.Some ∷ reply.True ∷ reply.False ∷ reply.Crowded ∷ reply.Handle ∷ reply.Closed ∷ reply.Cleared ∷ reply.Pairs ∷ reply.Count ∷ reply.NoSlots ∷ []

abbrev pub line_name : LineName → List ℕ
line_name line.Begin = codes "begin"
line_name line.End = codes "end"
line_name line.Denied = codes "denied"
line_name line.Order = codes "order"
line_name line.Slots = codes "slots"

abbrev pub line_names : List LineName
line_names = line.Begin ∷ line.End ∷ line.Denied ∷ line.Order ∷ line.Slots ∷ []

abbrev pub hash_kinds : List HashKind
hash_kinds = Low ∷ Fold ∷ Wide ∷ Block ∷ []

-- the call, the reply, the line, the hash that is named so

unfoldable pub call_named : List ℕ → Option CallName
call_named word = named call_name call_names word

unfoldable pub reply_named : List ℕ → Option ReplyName
reply_named word = named reply_name reply_names word

unfoldable pub line_named : List ℕ → Option LineName
line_named word = named line_name line_names word

unfoldable pub hash_named : List ℕ → Option HashKind
hash_named word = named name_of hash_kinds word
