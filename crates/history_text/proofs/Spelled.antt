-- A text that is put together from the lines of a history spells it.
use Rattle.std.proofs.Common.{◌≡◌, ℕ, List, [], ◌∷◌, ◌++◌, refl, sym, ap, ◌∙◌, subst, append_assoc, inl, inr}
use Rattle.std.specs.Prelude.{codes}
use Rattle.std.specs.List.{flat_map, AllByRecursion}
use Rattle.std.proofs.lemmas.List.Concat.{flat_map-cons}
use Rattle.ctrie_base.specs.declared.hashes.HashKind.{HashKind}
use Rattle.ctrie_base.specs.declared.hashes.HashKind.TheVariants.{Low, Fold, Wide, Block}
use Rattle.ctrie_base.specs.Hashes.{name_of}
use Rattle.history.specs.declared.events.Event.{Event}
use Rattle.text_lines.specs.Words.{spaced, words_of}
use Rattle.text_lines.specs.Texts.{said_lines}
use Rattle.history_text.specs.Texts.{event_text, order_text}
use Rattle.history_text.specs.Reading.{Reading}
use Rattle.history_text.specs.Grammar.{IsNumber, EventFits, SpellEvents, Spell}
use Rattle.history_text.proofs.Feeds.{HasNoFeed, no_feed, no_feed_append, said_first, none_said, event_first, order_first}

-- each line ends with a line feed
abbrev ended : List ℕ → List ℕ
ended line = line ++ 10 ∷ []

ended_first : (line rest : List ℕ) → said_lines (line ++ 10 ∷ rest) ≡ line ∷ said_lines rest → said_lines (ended line ++ rest) ≡ line ∷ said_lines rest
ended_first line rest first = ap said_lines (append_assoc line (10 ∷ []) rest) ∙ first

-- ---- the end

slots_line : (more : List ℕ) → HasNoFeed more → said_lines (ended (codes "slots " ++ more)) ≡ (codes "slots " ++ more) ∷ []
slots_line more none =
    said_first (codes "slots " ++ more) [] (no_feed_append (codes "slots ") more (no_feed (codes "slots ") refl) none) refl ∙ ap (λ ls. (codes "slots " ++ more) ∷ ls) none_said

-- the order, and a line `slots ..`
pub end_spelled : (order more : List ℕ) → AllByRecursion IsNumber order → HasNoFeed more →
    SpellEvents (said_lines (ended (order_text order) ++ ended (codes "slots " ++ more))) [] order
end_spelled order more fit none =
    subst (λ ls. SpellEvents ls [] order)
    (sym (ended_first (order_text order) (ended (codes "slots " ++ more)) (order_first order (ended (codes "slots " ++ more)))
    ∙ ap (λ ls. order_text order ∷ ls) (slots_line more none)))
    (inr (inr (refl, refl, fit, (words_of more, refl))))

-- ---- lines before it

-- a line `denied ..`
pub denied_spelled : (more rest : List ℕ) (events : List Event) (order : List ℕ) → HasNoFeed more → SpellEvents (said_lines rest) events order →
    SpellEvents (said_lines (ended (codes "denied " ++ more) ++ rest)) events order
denied_spelled more rest events order none later =
    let line = codes "denied " ++ more in
    subst (λ ls. SpellEvents ls events order)
    (sym (ended_first line rest (said_first line rest (no_feed_append (codes "denied ") more (no_feed (codes "denied ") refl) none) refl)))
    (inl ((words_of more, refl), later))

-- the lines of events
pub events_spelled : (events : List Event) (rest : List ℕ) (later : List Event) (order : List ℕ) → AllByRecursion EventFits events → SpellEvents (said_lines rest) later order →
    SpellEvents (said_lines (flat_map (λ event. ended (event_text event)) events ++ rest)) (events ++ later) order
events_spelled [] rest later order fit behind = behind
events_spelled (event ∷ events) rest later order fit behind =
    let more = flat_map (λ e. ended (event_text e)) events in
    let lines = ap (λ t. said_lines (t ++ rest)) (flat_map-cons (λ e. ended (event_text e)) event events) ∙ ap said_lines (append_assoc (ended (event_text event)) more rest)
    ∙ ended_first (event_text event) (more ++ rest) (event_first event (more ++ rest)) in
    subst (λ ls. SpellEvents ls (event ∷ (events ++ later)) order) (sym lines)
    (inr (inl (event, events ++ later, refl, refl, fit.0, events_spelled events rest later order fit.1 behind)))

-- ---- the header

pub hash_none : (hash : HashKind) → HasNoFeed (spaced (codes "hash" ∷ name_of hash ∷ []))
hash_none Low = no_feed (codes "hash low") refl
hash_none Fold = no_feed (codes "hash fold") refl
hash_none Wide = no_feed (codes "hash wide") refl
hash_none Block = no_feed (codes "hash block") refl

-- the header, and the lines behind it
pub whole_spelled : (hash : HashKind) (events : List Event) (order rest : List ℕ) → SpellEvents (said_lines rest) events order →
    Spell (said_lines (ended (spaced (codes "hash" ∷ name_of hash ∷ [])) ++ rest)) (record { hash = hash; events = events; order = order })
whole_spelled hash events order rest behind =
    let line = spaced (codes "hash" ∷ name_of hash ∷ []) in
    let read : Reading = record { hash = hash; events = events; order = order } in
    subst (λ ls. Spell ls read) (sym (ended_first line rest (said_first line rest (hash_none hash) refl))) (refl, behind)
