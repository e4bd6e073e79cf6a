-- A text that spells a history is read so.
use Rattle.std.proofs.Common.{◌≡◌, ℕ, List, [], ◌∷◌, ◌++◌, refl, sym, ap, ◌∙◌, subst, append_assoc, Result, Ok, Bool, true, eqb, eq-eqb, inl, inr}
use Rattle.std.specs.Prelude.{map, codes, not}
use Rattle.std.specs.List.{AllByRecursion}
use Rattle.std.specs.Fmt.{decimal}
use Rattle.std.proofs.lemmas.List.{append-nil}
use Rattle.ctrie_base.specs.declared.refusals.Refusal.{Refusal}
use Rattle.ctrie_base.specs.declared.hashes.HashKind.{HashKind}
use Rattle.ctrie_base.specs.Hashes.{name_of}
use Rattle.history.specs.declared.events.Event.{Event}
use Rattle.history.specs.declared.events.Event.TheVariants.{Begin, End}
use Rattle.history.specs.Histories.{begun, MayFollow, IsWellFormed}
use Rattle.history_text.specs.declared.reading.Given.{Given}
use Rattle.text_lines.specs.declared.faults.Told.{Told}
use Rattle.text_lines.specs.Views.{Reads}
use Rattle.history_text.specs.Views.{given}
use Rattle.text_lines.specs.Words.{spaced, words_of, both, made}
use Rattle.history_text.specs.Texts.{event_words, order_words, event_text, order_text, call_words, opens_words, reply_words}
use Rattle.history_text.specs.Words.{value_word, actor_word, passing}
use Rattle.history_text.specs.Names.{line_named}
use Rattle.history_text.specs.Lines.{call_of, reply_of}
use Rattle.history_text.specs.Running.{is_busy, is_running, next_id, idle_actor, running_id, begin_of, end_of}
use Rattle.text_lines.specs.Texts.{said_lines}
use Rattle.history_text.specs.Reading.{Reading, Progress, Start, InEvents, Ordered, Ended, words_after, all_read, history_format, history_of}
use Rattle.history_text.specs.Grammar.{EventFits, IsNumber, AreLast, SpellEvents, Spell, IsSpelling, IsShort}
use Rattle.text_lines.proofs.Whole.{Leads, leads_read}
use Rattle.history_text.proofs.Tied.{Tied, tied_nil, tied_push, well_next, may_begin, may_end}
use Rattle.text_lines.proofs.Again.{clean, words_again, value_again, both_again}
use Rattle.history_text.proofs.Again.{actor_again}
use Rattle.history_text.proofs.AgainCalls.{call_again}
use Rattle.history_text.proofs.AgainReplies.{reply_again, order_again, header_again, clean_event, clean_order, clean_hash}

passes : (test : ℕ → Bool) (r : Result ℕ Refusal) (n : ℕ) → r ≡ Ok n → test n ≡ true → passing test r ≡ Ok n
passes test r n e t = rw (e, t) refl

event_again : (es : List Event) (e : Event) → Tied es → MayFollow es e → EventFits e → (hash : HashKind) → words_after (InEvents hash es) (event_words e) ≡ Ok (InEvents hash (es ++ e ∷ []))
unfolding words_after line_named begin_of end_of
event_again es (Begin id actor call opens) t may f hash =
    let idle : not (is_busy es actor) ≡ true = ap not (may_begin es id actor call opens t may) in
    let i = passes (λ n. eqb n (begun es)) (value_word (decimal id)) id (value_again id f.0) (eq-eqb id (begun es) may.0) in
    let a = passes (λ n. not (is_busy es n)) (actor_word (decimal actor)) actor (actor_again actor f.1) idle in
    let c = call_again call opens f.2 f.3 may.1 in
    let all = both_again (next_id es (decimal id)) (both (idle_actor es (decimal actor)) (call_of (call_words call ++ opens_words opens))) id (actor, (call, opens)) i
    (both_again (idle_actor es (decimal actor)) (call_of (call_words call ++ opens_words opens)) actor (call, opens) a c) in
    ap (λ r. made (λ event. InEvents hash (es ++ event ∷ [])) (made (λ x. Begin x.0 x.1.0 x.1.1.0 x.1.1.1) r)) all
event_again es (End id answer) t may f hash =
    let i = passes (λ n. is_running es n) (value_word (decimal id)) id (value_again id f.0) (may_end es id answer t may) in
    let all = both_again (running_id es (decimal id)) (reply_of (reply_words answer)) id answer i (reply_again answer f.1) in
    ap (λ r. made (λ event. InEvents hash (es ++ event ∷ [])) (made (λ x. End x.0 x.1) r)) all

denied_again : (hash : HashKind) (es : List Event) (more : List (List ℕ)) → words_after (InEvents hash es) (codes "denied" ∷ more) ≡ Ok (InEvents hash es)
unfolding words_after line_named
denied_again hash es more = refl

order_line_again : (hash : HashKind) (es : List Event) (ids : List ℕ) → AllByRecursion IsNumber ids
    → words_after (InEvents hash es) (order_words ids) ≡ Ok (Ordered (record { hash = hash; events = es; order = ids }))
unfolding words_after line_named
order_line_again hash es ids f = ap (made (λ order. Ordered (record { hash = hash; events = es; order = order }))) (order_again ids f)

slots_again : (read : Reading) (more : List (List ℕ)) → words_after (Ordered read) (codes "slots" ∷ more) ≡ Ok (Ended read)
unfolding words_after line_named
slots_again read more = refl

start_again : (k : HashKind) → words_after Start (codes "hash" ∷ name_of k ∷ []) ≡ Ok (InEvents k [])
unfolding words_after
start_again k = ap (made (λ hash. InEvents hash [])) (header_again k)

-- The words of the lines.

event_line : (e : Event) → EventFits e → words_of (event_text e) ≡ event_words e
event_line (Begin id actor call opens) f = let c = clean_event (Begin id actor call opens) f in
    words_again (codes "begin") (decimal id ∷ decimal actor ∷ (call_words call ++ opens_words opens)) c.0 c.1
event_line (End id answer) f = let c = clean_event (End id answer) f in words_again (codes "end") (decimal id ∷ reply_words answer) c.0 c.1

order_text_line : (ids : List ℕ) → AllByRecursion IsNumber ids → words_of (order_text ids) ≡ order_words ids
order_text_line ids f = let c = clean_order ids f in words_again (codes "order") (map decimal ids) c.0 c.1

hash_line : (k : HashKind) → words_of (spaced (codes "hash" ∷ name_of k ∷ [])) ≡ codes "hash" ∷ name_of k ∷ []
hash_line k = words_again (codes "hash") (name_of k ∷ []) (clean (codes "hash") refl) (clean_hash k, tt)

-- the lines lead to the end, where this is read
abbrev Finishes : Progress → List (List ℕ) → Reading → Type 0
Finishes p lines read = (end : Progress) × Leads history_format p lines end × (all_read end ≡ Ok read)

-- Behind the order.

slots_on : (l : List ℕ) (rest : List (List ℕ)) (read : Reading) → AreLast (l ∷ rest) → Finishes (Ordered read) (l ∷ rest) read
slots_on l [] read last = (Ended read, (Ended read, ap (words_after (Ordered read)) last.1 ∙ slots_again read last.0, refl), refl)
slots_on l (m ∷ more) read last = absurd last

order_only : (lines : List (List ℕ)) (read : Reading) → AreLast lines → Finishes (Ordered read) lines read
order_only [] read last = (Ordered read, refl, refl)
order_only (l ∷ more) read last = slots_on l more read last

-- The events.

on : (p q : Progress) (l : List ℕ) (more : List (List ℕ)) (read : Reading) → words_after p (words_of l) ≡ Ok q → Finishes q more read → Finishes p (l ∷ more) read
on p q l more read h rest = (rest.0, (q, h, rest.1), rest.2)

events_only : (lines : List (List ℕ)) (hash : HashKind) (es later : List Event) (order : List ℕ) → Tied es → IsWellFormed (es ++ later) → SpellEvents lines later order
    → Finishes (InEvents hash es) lines (record { hash = hash; events = es ++ later; order = order })
events_only [] hash es later order t well spelled = absurd spelled
events_only (l ∷ more) hash es later order t well spelled =
    let whole : List Event → Reading = λ events. record { hash = hash; events = events; order = order } in
    elim spelled [
      | inl d ↦ on (InEvents hash es) (InEvents hash es) l more (whole (es ++ later)) (ap (words_after (InEvents hash es)) d.0.1 ∙ denied_again hash es d.0.0)
          (events_only more hash es later order t well d.1)
      | inr (inl v) ↦ (let well_here : IsWellFormed (es ++ v.0 ∷ v.1) = subst (λ (xs : List Event). IsWellFormed (es ++ xs)) v.2 well in
          let may = well_next es v.0 v.1 well_here in
          let same = append_assoc es (v.0 ∷ []) v.1 in
          let rest = events_only more hash (es ++ v.0 ∷ []) v.1 order (tied_push es v.0 t may) (subst IsWellFormed (sym same) well_here) v.5 in
          let read = subst (λ (xs : List Event). Finishes (InEvents hash (es ++ v.0 ∷ [])) more (whole xs)) (same ∙ ap (λ (xs : List Event). es ++ xs) (sym v.2)) rest in
          on (InEvents hash es) (InEvents hash (es ++ v.0 ∷ [])) l more (whole (es ++ later)) (ap (words_after (InEvents hash es)) (ap words_of v.3 ∙ event_line v.0 v.4)
          ∙ event_again es v.0 t may v.4 hash) read)
      | inr (inr o) ↦ (let same = sym (append-nil es) ∙ ap (λ (xs : List Event). es ++ xs) (sym o.0) in
          let read = subst (λ (xs : List Event). Finishes (Ordered (whole es)) more (whole xs)) same (order_only more (whole es) o.3) in
          on (InEvents hash es) (Ordered (whole es)) l more (whole (es ++ later)) (ap (words_after (InEvents hash es)) (ap words_of o.1 ∙ order_text_line order o.2)
          ∙ order_line_again hash es order o.2) read)
    ]

-- The header, and the whole text.

start_only : (lines : List (List ℕ)) (read : Reading) → IsWellFormed read.events → Spell lines read → Finishes Start lines read
start_only [] read well spelled = absurd spelled
start_only (l ∷ more) read well spelled =
    on Start (InEvents read.hash []) l more read (ap (words_after Start) (ap words_of spelled.0 ∙ hash_line read.hash) ∙ start_again read.hash)
    (events_only more read.hash [] read.events read.order tied_nil well spelled.1)

-- what is spelled so is read
pub read_again : (text : List ℕ) (read : Reading) → IsSpelling text read → IsShort text → history_of text ≡ Ok read
unfolding history_of
read_again text read spelled short =
    let f = start_only (said_lines text) read spelled.1 spelled.0 in
    leads_read history_format text f.0 read short f.1 f.2

pub only_so : (text : List ℕ) (r : Result Given Told) → Reads given r (history_of text) → (read : Reading) → IsSpelling text read → IsShort text → Reads given r (Ok read)
only_so text r e read spelled short = subst (Reads given r) (read_again text read spelled short) e
