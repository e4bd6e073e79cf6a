-- A report spells the history and the order of which it tells.
use Rattle.std.proofs.Common.{◌≡◌, ℕ, List, [], ◌∷◌, ◌++◌, length, drop, Option, Some, None, refl, sym, ap, ◌∙◌, subst, append_assoc, arith}
use Rattle.std.specs.List.{AllByRecursion}
use Rattle.std.specs.Fmt.{decimal}
use Rattle.std.proofs.lemmas.List.{drop_all}
use Rattle.std.specs.Prelude.{codes}
use Rattle.script_commands.specs.Vocabulary.{Refusal, NoHandle, NotReadOnly, HandlesFull, Busy, ActorBusy, NoActor, Idle, Spent, BadLimits, BadLine, BadNumber, BadHeader, TooLong, BadOrder}
use Rattle.script_commands.specs.Vocabulary.{number_of, Event, in_use, order_of, run_from, record_from}
use Rattle.ctrie_base.specs.declared.refusals.Refusal.TheVariants.{ReadOnly, NoSlots}
use Rattle.ctrie_base.specs.declared.refusals.Refusal.TheVariants.{Memory}
use Rattle.ctrie_base.specs.Refusals.{name_of}
use Rattle.text_lines.specs.Words.{spaced}
use Rattle.text_lines.specs.Texts.{said_lines}
use Rattle.history_text.specs.Grammar.{IsNumber, EventFits, SpellEvents, Spell}
use Rattle.history_text.proofs.Feeds.{HasNoFeed, no_feed, no_feed_decimal, no_feed_spaced}
use Rattle.history_text.proofs.Spelled.{end_spelled, denied_spelled, events_spelled, whole_spelled}
use Rattle.script_commands.proofs.Carrying.{recorded_append}
use Rattle.script_text.specs.declared.commands.Command.{Command}
use Rattle.script_text.specs.Reading.{Reading}
use Rattle.script_text.specs.Steps.{denial_of, steps_of, all_steps}
use Rattle.script_commands.specs.Reports.{line, denied_text, actor_of, told_by, added_events, told, all_told, last_lines, last_of, report}
use Rattle.script_commands.specs.Legality.{told_in}
use Rattle.script_commands.proofs.Growing.{all_grow, added_split, denied_changes_nothing}
use Rattle.script_commands.specs.Recorded.{Recorded, after_line, first_recorded, recorded_from}

-- ---- the words of the lines that are no events

name_none : (refusal : Refusal) → HasNoFeed (name_of refusal)
name_none NoHandle = no_feed (codes "NoHandle") refl
name_none ReadOnly = no_feed (codes "ReadOnly") refl
name_none NotReadOnly = no_feed (codes "NotReadOnly") refl
name_none HandlesFull = no_feed (codes "HandlesFull") refl
name_none Busy = no_feed (codes "Busy") refl
name_none ActorBusy = no_feed (codes "ActorBusy") refl
name_none NoActor = no_feed (codes "NoActor") refl
name_none Idle = no_feed (codes "Idle") refl
name_none Spent = no_feed (codes "Spent") refl
name_none NoSlots = no_feed (codes "NoSlots") refl
name_none Memory = no_feed (codes "Memory") refl
name_none BadLimits = no_feed (codes "BadLimits") refl
name_none BadLine = no_feed (codes "BadLine") refl
name_none BadNumber = no_feed (codes "BadNumber") refl
name_none BadHeader = no_feed (codes "BadHeader") refl
name_none TooLong = no_feed (codes "TooLong") refl
name_none BadOrder = no_feed (codes "BadOrder") refl

-- the words behind the first one of a denied line, and of the line of the slots

abbrev pub denied_words : ℕ → Refusal → List (List ℕ)
denied_words actor refusal = decimal actor ∷ decimal (number_of refusal) ∷ name_of refusal ∷ []

abbrev pub slots_words : ℕ → ℕ → ℕ → List (List ℕ)
slots_words used free limbo = codes "used" ∷ decimal used ∷ codes "free" ∷ decimal free ∷ codes "limbo" ∷ decimal limbo ∷ []

pub denied_none : (actor : ℕ) (refusal : Refusal) → HasNoFeed (spaced (denied_words actor refusal))
denied_none actor refusal = no_feed_spaced (denied_words actor refusal) (no_feed_decimal actor, (no_feed_decimal (number_of refusal), (name_none refusal, tt)))

pub slots_none : (used free limbo : ℕ) → HasNoFeed (spaced (slots_words used free limbo))
slots_none used free limbo =
    no_feed_spaced (slots_words used free limbo)
    (no_feed (codes "used") refl, (no_feed_decimal used, (no_feed (codes "free") refl, (no_feed_decimal free, (no_feed (codes "limbo") refl, (no_feed_decimal limbo, tt))))))

pub one_denied : (actor : ℕ) (refusal : Refusal) (rest : List ℕ) (events : List Event) (order : List ℕ) → SpellEvents (said_lines rest) events order →
    SpellEvents (said_lines (line (denied_text actor refusal) ++ rest)) events order
one_denied actor refusal rest events order later = denied_spelled (spaced (denied_words actor refusal)) rest events order (denied_none actor refusal) later

pub last_spelled : (state : Recorded) → AllByRecursion IsNumber (order_of state.past) → SpellEvents (said_lines (last_lines state)) [] (order_of state.past)
last_spelled state fit =
    let used = length (in_use state.state.heap) in
    let free = length state.state.heap.free in
    let limbo = length state.state.limbo in
    end_spelled (order_of state.past) (spaced (slots_words used free limbo)) fit (slots_none used free limbo)

-- ---- what the lines of a script tell

-- the events that these lines add
abbrev all_added : Recorded → List Command → List Event
all_added state commands = drop (length state.past.events) (recorded_from state (all_steps state.state commands)).past.events

by_denial : (state : Recorded) (command : Command) (denial : Option Refusal) → denial_of state.state command ≡ denial → (rest : List ℕ) (later : List Event) (order : List ℕ) →
    AllByRecursion EventFits (added_events state command) → SpellEvents (said_lines rest) later order →
    SpellEvents (said_lines (told_by denial (actor_of command) (added_events state command) ++ rest)) (added_events state command ++ later) order
by_denial state command None e rest later order fit behind = events_spelled (added_events state command) rest later order fit behind
by_denial state command (Some refusal) e rest later order fit behind =
    let none : added_events state command ≡ [] =
    ap (λ (s : Recorded). drop (length state.past.events) s.past.events) (denied_changes_nothing state command refusal e) ∙ drop_all (length state.past.events) state.past.events (omega arith) in
    subst (λ added. SpellEvents (said_lines (line (denied_text (actor_of command) refusal) ++ rest)) (added ++ later) order) (sym none)
    (one_denied (actor_of command) refusal rest later order behind)

fit_parts : (xs ys : List Event) → AllByRecursion EventFits (xs ++ ys) → AllByRecursion EventFits xs × AllByRecursion EventFits ys
fit_parts [] ys fit = (tt, fit)
fit_parts (x ∷ xs) ys fit = let parts = fit_parts xs ys fit.1 in ((fit.0, parts.0), parts.1)

added_on : (state : Recorded) (command : Command) (more : List Command) → all_added state (command ∷ more) ≡ added_events state command ++ all_added (after_line state command) more
unfolding all_steps
added_on state command more =
    let after = after_line state command in
    let later = all_steps after.state more in
    ap (λ (s : Recorded). drop (length state.past.events) s.past.events) (recorded_append state (steps_of state.state command) later)
    ∙ added_split state.past.events after.past.events (recorded_from after later).past.events (all_grow state (steps_of state.state command)) (all_grow after later)

none_added : (state : Recorded) → all_added state [] ≡ []
unfolding all_steps run_from record_from
none_added state = drop_all (length state.past.events) state.past.events (omega arith)

all_spelled : (commands : List Command) (state : Recorded) (rest order : List ℕ) → AllByRecursion EventFits (all_added state commands) → SpellEvents (said_lines rest) [] order →
    SpellEvents (said_lines (all_told state commands ++ rest)) (all_added state commands) order
unfolding all_told
all_spelled [] state rest order fit behind = subst (λ added. SpellEvents (said_lines rest) added order) (sym (none_added state)) behind
all_spelled (command ∷ more) state rest order fit behind =
    let after = after_line state command in
    let split = added_on state command more in
    let fits = fit_parts (added_events state command) (all_added after more) (subst (AllByRecursion EventFits) split fit) in
    let later = all_spelled more after rest order fits.1 behind in
    subst (λ added. SpellEvents (said_lines (all_told state (command ∷ more) ++ rest)) added order) (sym split)
    (subst (λ text. SpellEvents (said_lines text) (added_events state command ++ all_added after more) order) (sym (append_assoc (told state command) (all_told after more) rest))
    (by_denial state command (denial_of state.state command) refl (all_told after more ++ rest) (all_added after more) order fits.0 later))

pub report_spelled : (script : Reading) → AllByRecursion EventFits (last_of script).past.events → AllByRecursion IsNumber (order_of (last_of script).past) →
    Spell (said_lines (report script)) (told_in script.limits.hash (last_of script).past)
unfolding report
report_spelled script fit numbers =
    let last = last_of script in
    whole_spelled script.limits.hash last.past.events (order_of last.past) (all_told (first_recorded script.limits) script.lines ++ last_lines last)
    (all_spelled script.lines (first_recorded script.limits) (last_lines last) (order_of last.past) fit (last_spelled last numbers))
