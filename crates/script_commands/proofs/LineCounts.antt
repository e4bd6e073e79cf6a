-- How many lines the parts of a report have.
use Rattle.std.proofs.Common.{◌≡◌, ℕ, suc, ◌+◌, List, [], ◌∷◌, ◌++◌, length, refl, sym, ap, ◌∙◌, append_assoc, append-nil, arith}
use Rattle.std.specs.Prelude.{codes}
use Rattle.std.proofs.lemmas.List.Concat.{flat_map-cons}
use Rattle.script_commands.specs.Vocabulary.{Refusal, Event, in_use, order_of}
use Rattle.text_lines.specs.Texts.{lines_of}
use Rattle.text_lines.specs.Words.{spaced}
use Rattle.text_lines.proofs.FirstLine.{no_lines}
use Rattle.history_text.specs.Texts.{event_text, order_text}
use Rattle.history_text.proofs.Feeds.{HasNoFeed, no_feed, no_feed_append, first_line, event_line_none, order_line_none}
use Rattle.script_commands.specs.Reports.{line, denied_text, slots_text, event_lines, last_lines}
use Rattle.script_commands.proofs.Spelled.{denied_words, slots_words, denied_none, slots_none}
use Rattle.script_commands.specs.Recorded.{Recorded}

pub one_line : (l rest : List ℕ) → HasNoFeed l → length (lines_of (line l ++ rest)) ≡ suc (length (lines_of rest))
one_line l rest none = ap (λ t. length (lines_of t)) (append_assoc l (10 ∷ []) rest) ∙ ap length (first_line l rest none)

pub each_event : (events : List Event) (rest : List ℕ) → length (lines_of (event_lines events ++ rest)) ≡ length events + length (lines_of rest)
each_event [] rest = omega arith
each_event (event ∷ events) rest =
    let first = line (event_text event) in
    let parts = ap (λ t. t ++ rest) (flat_map-cons (λ e. line (event_text e)) event events) ∙ append_assoc first (event_lines events) rest in
    omega (arith, ap (λ t. length (lines_of t)) parts, one_line (event_text event) (event_lines events ++ rest) (event_line_none event), each_event events rest)

pub denied_line_none : (actor : ℕ) (refusal : Refusal) → HasNoFeed (denied_text actor refusal)
denied_line_none actor refusal = no_feed_append (codes "denied ") (spaced (denied_words actor refusal)) (no_feed (codes "denied ") refl) (denied_none actor refusal)

slots_line_none : (used free limbo : ℕ) → HasNoFeed (slots_text used free limbo)
slots_line_none used free limbo = no_feed_append (codes "slots ") (spaced (slots_words used free limbo)) (no_feed (codes "slots ") refl) (slots_none used free limbo)

pub last_counted : (state : Recorded) → length (lines_of (last_lines state)) ≡ 2
last_counted state =
    let slots = slots_text (length (in_use state.state.heap)) (length state.state.heap.free) (length state.state.limbo) in
    let last : length (lines_of (line slots)) ≡ 1 =
    ap (λ t. length (lines_of t)) (sym (append-nil (line slots))) ∙ one_line slots [] (slots_line_none (length (in_use state.state.heap)) (length state.state.heap.free) (length state.state.limbo))
    ∙ ap suc (ap length no_lines) in
    one_line (order_text (order_of state.past)) (line slots) (order_line_none (order_of state.past)) ∙ ap suc last
