-- No line feed stands in the line of an event or of an order, so the lines of a text that is made of such are just these.
use Rattle.std.proofs.Common.{◌≡◌, ℕ, zero, suc, ◌+◌, ◌≤◌, ◌/◌, ◌%◌, List, [], ◌∷◌, ◌++◌, refl, ap, ◌∙◌, Bool, true, false, cond, eqb, Option, Some, None, arith}
use Rattle.std.specs.Prelude.{map, codes, not, filter, nat_lt}
use Rattle.std.specs.List.{list_all, AllByRecursion}
use Rattle.std.specs.Fmt.{decimal, digits, digits_onto, digit_glyph}
use Rattle.std.proofs.lemmas.Bool.{eqb-true}
use Rattle.std.proofs.lemmas.List.Splits.{length-slice_split}
use Rattle.history.specs.declared.calls.Call.{Call}
use Rattle.history.specs.declared.calls.Call.TheVariants.{Get, Put, PutIfAbsent, Replace, ReplaceIf, Remove, RemoveIf, Clear, Snapshot, Freeze, Close, Entries, Count}
use Rattle.history.specs.declared.replies.Reply.{Reply}
use Rattle.history.specs.declared.replies.Reply.TheVariants as answer
use Rattle.history.specs.declared.events.Event.{Event}
use Rattle.history.specs.declared.events.Event.TheVariants.{Begin, End}
use Rattle.text_lines.specs.Words.{spaced, cut_at}
use Rattle.text_lines.specs.Texts.{lines_of, without_empty_last, is_ignored, said_lines}
use Rattle.history_text.specs.Texts.{call_words, opens_words, reply_words, event_words, order_words, event_text, order_text, pair_text}
use Rattle.text_lines.proofs.FirstLine.{kept}
use Rattle.text_lines.proofs.Lacking.{Lacks, lacks, lacks_append, first_cut}

-- no line feed stands in the text
abbrev pub HasNoFeed : List ℕ → Type 0
HasNoFeed text = Lacks 10 text

abbrev pub HaveNoFeed : List (List ℕ) → Type 0
HaveNoFeed texts = AllByRecursion HasNoFeed texts

-- ---- the lines of a text

-- a line that ends with a line feed stands first
pub first_line : (line rest : List ℕ) → HasNoFeed line → lines_of (line ++ 10 ∷ rest) ≡ line ∷ lines_of rest
unfolding lines_of
first_line line rest none =
    ap without_empty_last (first_cut 10 line rest none) ∙ kept line (cut_at 10 rest) (omega (arith, length-slice_split (λ b. eqb b 10) rest))

-- a line that isn't ignored stands first among those that are said
pub said_first : (line rest : List ℕ) → HasNoFeed line → is_ignored line ≡ false → said_lines (line ++ 10 ∷ rest) ≡ line ∷ said_lines rest
unfolding said_lines
said_first line rest none said =
    ap (λ ls. filter (λ l. not (is_ignored l)) ls) (first_line line rest none)
    ∙ ap (λ b. cond (not b) (line ∷ filter (λ l. not (is_ignored l)) (lines_of rest)) (filter (λ l. not (is_ignored l)) (lines_of rest))) said

pub none_said : said_lines [] ≡ []
unfolding said_lines lines_of
none_said = refl

-- ---- words without line feeds

pub no_feed_append : (a b : List ℕ) → HasNoFeed a → HasNoFeed b → HasNoFeed (a ++ b)
no_feed_append a b p q = lacks_append 10 a b p q

pub no_feed : (w : List ℕ) → list_all (λ b. not (eqb b 10)) w ≡ true → HasNoFeed w
no_feed w e = lacks 10 w e

other_byte : (c : ℕ) (b : Bool) → eqb c 10 ≡ b → 11 ≤ c → eqb c 10 ≡ false
other_byte c true e high = absurd (let same : c ≡ 10 = eqb-true c 10 e in omega arith)
other_byte c false e high = e

glyph_high : (d : ℕ) (b : Bool) → 11 ≤ cond b (48 + d) (87 + d)
glyph_high d true = omega arith
glyph_high d false = omega arith

glyph_none : (d : ℕ) → eqb (digit_glyph false d) 10 ≡ false
glyph_none d = other_byte (digit_glyph false d) (eqb (digit_glyph false d) 10) refl (glyph_high d (nat_lt d 10))

either : (b : Bool) (x y : List ℕ) → HasNoFeed x → HasNoFeed y → HasNoFeed (cond b x y)
either true x y p q = p
either false x y p q = q

no_feed_onto : (k n : ℕ) (acc : List ℕ) → HasNoFeed acc → HasNoFeed (digits_onto k 10 false n acc)
no_feed_onto zero n acc none = none
no_feed_onto (suc k) n acc none =
    let more = digit_glyph false (n % 10) ∷ acc in
    let here : HasNoFeed more = (glyph_none (n % 10), none) in
    either (eqb (n / 10) 0) more (digits_onto k 10 false (n / 10) more) here (no_feed_onto k (n / 10) more here)

pub no_feed_decimal : (n : ℕ) → HasNoFeed (decimal n)
unfolding digits
no_feed_decimal n = no_feed_onto 64 n [] tt

pub no_feed_spaced : (words : List (List ℕ)) → HaveNoFeed words → HasNoFeed (spaced words)
no_feed_spaced [] none = tt
no_feed_spaced (w ∷ []) none = none.0
no_feed_spaced (w ∷ v ∷ ws) none = no_feed_append w (32 ∷ spaced (v ∷ ws)) none.0 (refl, no_feed_spaced (v ∷ ws) none.1)

-- ---- the words of events and orders

more_words : (ws vs : List (List ℕ)) → HaveNoFeed ws → HaveNoFeed vs → HaveNoFeed (ws ++ vs)
more_words [] vs p q = q
more_words (w ∷ ws) vs p q = (p.0, more_words ws vs p.1 q)

each_word : {A : Type 0} (text : A → List ℕ) → ((x : A) → HasNoFeed (text x)) → (xs : List A) → HaveNoFeed (map text xs)
each_word text none [] = tt
each_word text none (x ∷ xs) = (none x, each_word text none xs)

numbers : (ns : List ℕ) → HaveNoFeed (map decimal ns)
numbers ns = each_word decimal no_feed_decimal ns

pair_none : (pair : ℕ × ℕ) → HasNoFeed (pair_text pair)
pair_none pair = no_feed_append (decimal pair.0) (61 ∷ decimal pair.1) (no_feed_decimal pair.0) (refl, no_feed_decimal pair.1)

call_none : (call : Call) → HaveNoFeed (call_words call)
call_none (Get h k) = (no_feed (codes "get") refl, numbers (h ∷ k ∷ []))
call_none (Put h k v) = (no_feed (codes "put") refl, numbers (h ∷ k ∷ v ∷ []))
call_none (PutIfAbsent h k v) = (no_feed (codes "put-if-absent") refl, numbers (h ∷ k ∷ v ∷ []))
call_none (Replace h k v) = (no_feed (codes "replace") refl, numbers (h ∷ k ∷ v ∷ []))
call_none (ReplaceIf h k a b) = (no_feed (codes "replace-if") refl, numbers (h ∷ k ∷ a ∷ b ∷ []))
call_none (Remove h k) = (no_feed (codes "remove") refl, numbers (h ∷ k ∷ []))
call_none (RemoveIf h k v) = (no_feed (codes "remove-if") refl, numbers (h ∷ k ∷ v ∷ []))
call_none (Clear h) = (no_feed (codes "clear") refl, numbers (h ∷ []))
call_none (Snapshot h) = (no_feed (codes "snapshot") refl, numbers (h ∷ []))
call_none (Freeze h) = (no_feed (codes "freeze") refl, numbers (h ∷ []))
call_none (Close h) = (no_feed (codes "close") refl, numbers (h ∷ []))
call_none (Entries h) = (no_feed (codes "entries") refl, numbers (h ∷ []))
call_none (Count h) = (no_feed (codes "count") refl, numbers (h ∷ []))

opens_none : (opens : Option ℕ) → HaveNoFeed (opens_words opens)
opens_none None = tt
opens_none (Some h) = (no_feed (codes "as") refl, numbers (h ∷ []))

reply_none : (reply : Reply) → HaveNoFeed (reply_words reply)
reply_none (answer.Found None) = (no_feed (codes "none") refl, tt)
reply_none (answer.Found (Some v)) = (no_feed (codes "some") refl, numbers (v ∷ []))
reply_none (answer.Truth true) = (no_feed (codes "true") refl, tt)
reply_none (answer.Truth false) = (no_feed (codes "false") refl, tt)
reply_none answer.Crowded = (no_feed (codes "crowded") refl, tt)
reply_none (answer.Opened h) = (no_feed (codes "handle") refl, numbers (h ∷ []))
reply_none answer.Closed = (no_feed (codes "closed") refl, tt)
reply_none answer.Cleared = (no_feed (codes "cleared") refl, tt)
reply_none (answer.Pairs pairs) = (no_feed (codes "pairs") refl, each_word pair_text pair_none pairs)
reply_none (answer.Count n) = (no_feed (codes "count") refl, numbers (n ∷ []))
reply_none answer.NoSlots = (no_feed (codes "no-slots") refl, tt)

event_none : (event : Event) → HaveNoFeed (event_words event)
event_none (Begin id actor call opens) =
    (no_feed (codes "begin") refl, (no_feed_decimal id, (no_feed_decimal actor, more_words (call_words call) (opens_words opens) (call_none call) (opens_none opens))))
event_none (End id reply) = (no_feed (codes "end") refl, (no_feed_decimal id, reply_none reply))

event_said : (event : Event) → is_ignored (event_text event) ≡ false
event_said (Begin id actor call opens) = refl
event_said (End id reply) = refl

order_said : (order : List ℕ) → is_ignored (order_text order) ≡ false
order_said [] = refl
order_said (id ∷ ids) = refl

-- ---- the lines of events and orders

pub event_line_none : (event : Event) → HasNoFeed (event_text event)
event_line_none event = no_feed_spaced (event_words event) (event_none event)

pub order_line_none : (order : List ℕ) → HasNoFeed (order_text order)
order_line_none order = no_feed_spaced (order_words order) (no_feed (codes "order") refl, numbers order)

pub event_first : (event : Event) (rest : List ℕ) → said_lines (event_text event ++ 10 ∷ rest) ≡ event_text event ∷ said_lines rest
event_first event rest = said_first (event_text event) rest (event_line_none event) (event_said event)

pub order_first : (order rest : List ℕ) → said_lines (order_text order ++ 10 ∷ rest) ≡ order_text order ∷ said_lines rest
order_first order rest = said_first (order_text order) rest (order_line_none order) (order_said order)
