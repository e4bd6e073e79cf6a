-- The words of a call are read again.
use Rattle.std.proofs.Common.{◌≡◌, ℕ, ◌++◌, ap, Ok, Option, Some, None}
use Rattle.std.specs.Prelude.{IfSome}
use Rattle.std.specs.Fmt.{decimal}
use Rattle.history.specs.declared.calls.Call.{Call}
use Rattle.history.specs.declared.calls.Call.TheVariants.{Get, Put, PutIfAbsent, Replace, ReplaceIf, Remove, RemoveIf, Clear, Snapshot, Freeze, Close, Entries, Count}
use Rattle.history.specs.Histories.{OpensRightly}
use Rattle.history_text.specs.declared.names.CallName.TheVariants as call
use Rattle.history_text.specs.Texts.{call_words, opens_words}
use Rattle.text_lines.specs.Words.{both}
use Rattle.history_text.specs.Words.{handle_word, value_word}
use Rattle.history_text.specs.Names.{call_named}
use Rattle.history_text.specs.Lines.{call_of, call_on_handle, call_on_key, call_on_pair, call_on_change, opening_call}
use Rattle.history_text.specs.Grammar.{CallFits, IsHandle, IsNumber}
use Rattle.text_lines.proofs.Again.{value_again, both_again}
use Rattle.history_text.proofs.Again.{handle_again}

at_handle : (h : ℕ) → IsHandle h → handle_word (decimal h) ≡ Ok h
at_handle h p = handle_again h p

at_key : (h k : ℕ) → IsHandle h → IsNumber k → both (handle_word (decimal h)) (value_word (decimal k)) ≡ Ok (h, k)
at_key h k p q = both_again (handle_word (decimal h)) (value_word (decimal k)) h k (handle_again h p) (value_again k q)

values : (k v : ℕ) → IsNumber k → IsNumber v → both (value_word (decimal k)) (value_word (decimal v)) ≡ Ok (k, v)
values k v p q = both_again (value_word (decimal k)) (value_word (decimal v)) k v (value_again k p) (value_again v q)

at_pair : (h k v : ℕ) → IsHandle h → IsNumber k → IsNumber v → both (handle_word (decimal h)) (both (value_word (decimal k)) (value_word (decimal v))) ≡ Ok (h, (k, v))
at_pair h k v p q r = both_again (handle_word (decimal h)) (both (value_word (decimal k)) (value_word (decimal v))) h (k, v) (handle_again h p) (values k v q r)

at_change : (h k a b : ℕ) → IsHandle h → IsNumber k → IsNumber a → IsNumber b
    → both (handle_word (decimal h)) (both (value_word (decimal k)) (both (value_word (decimal a)) (value_word (decimal b)))) ≡ Ok (h, (k, (a, b)))
at_change h k a b p q r s =
    both_again (handle_word (decimal h)) (both (value_word (decimal k)) (both (value_word (decimal a)) (value_word (decimal b)))) h (k, (a, b)) (handle_again h p)
    (both_again (value_word (decimal k)) (both (value_word (decimal a)) (value_word (decimal b))) k (a, b) (value_again k q) (values a b r s))

handles : (h o : ℕ) → IsHandle h → IsHandle o → both (handle_word (decimal h)) (handle_word (decimal o)) ≡ Ok (h, o)
handles h o p q = both_again (handle_word (decimal h)) (handle_word (decimal o)) h o (handle_again h p) (handle_again o q)

pub call_again : (c : Call) (o : Option ℕ) → CallFits c → IfSome o IsHandle → OpensRightly c o → call_of (call_words c ++ opens_words o) ≡ Ok (c, o)
unfolding call_of call_named
call_again (Get h k) None f g r = ap (λ x. call_on_key (Some call.Get) x) (at_key h k f.0 f.1)
call_again (Remove h k) None f g r = ap (λ x. call_on_key (Some call.Remove) x) (at_key h k f.0 f.1)
call_again (Put h k v) None f g r = ap (λ x. call_on_pair (Some call.Put) x) (at_pair h k v f.0 f.1 f.2)
call_again (PutIfAbsent h k v) None f g r = ap (λ x. call_on_pair (Some call.PutIfAbsent) x) (at_pair h k v f.0 f.1 f.2)
call_again (Replace h k v) None f g r = ap (λ x. call_on_pair (Some call.Replace) x) (at_pair h k v f.0 f.1 f.2)
call_again (RemoveIf h k v) None f g r = ap (λ x. call_on_pair (Some call.RemoveIf) x) (at_pair h k v f.0 f.1 f.2)
call_again (ReplaceIf h k a b) None f g r = ap (λ x. call_on_change (Some call.ReplaceIf) x) (at_change h k a b f.0 f.1 f.2 f.3)
call_again (Clear h) None f g r = ap (λ x. call_on_handle (Some call.Clear) x) (at_handle h f)
call_again (Close h) None f g r = ap (λ x. call_on_handle (Some call.Close) x) (at_handle h f)
call_again (Entries h) None f g r = ap (λ x. call_on_handle (Some call.Entries) x) (at_handle h f)
call_again (Count h) None f g r = ap (λ x. call_on_handle (Some call.Count) x) (at_handle h f)
call_again (Snapshot h) (Some o) f g r = ap (λ x. opening_call (Some call.Snapshot) x) (handles h o f g)
call_again (Freeze h) (Some o) f g r = ap (λ x. opening_call (Some call.Freeze) x) (handles h o f g)
call_again (Snapshot h) None f g r = absurd cc
call_again (Freeze h) None f g r = absurd cc
call_again other (Some o) f g r = absurd cc
