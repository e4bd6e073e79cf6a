-- A text that spells a history and an order is judged to be legal where the order is.
use Rattle.std.proofs.Common.{◌≡◌, ℕ, zero, suc, true, List, [], ◌∷◌, refl, sym, ap, ◌∙◌, subst}
use Rattle.std.specs.Prelude.{Option, Some, All, slice_get}
use Rattle.std.specs.Io.KnownBytes.{Appends}
use Rattle.std.specs.List.{AllByRecursion}
use Rattle.std.proofs.lemmas.List.Elements.{recursion_from_All}
use Rattle.std.proofs.lemmas.Option.{none-some, same_Some}
use Rattle.script_commands.specs.Vocabulary.{hash_of, HashKind, Event, IsLegal, Bounds, bounded, order_of}
use Rattle.text_lines.specs.Texts.{said_lines}
use Rattle.history_text.specs.Reading.{Reading}
use Rattle.history_text.specs.Grammar.{IsNumber, EventFits, Spell, IsShort}
use Rattle.history_text.proofs.Only.{read_again}
use Rattle.script_commands.specs.Beneath.proof_runs.specs.Machines.{Taken, past_of}
use Rattle.script_commands.specs.Beneath.proof_runs.specs.Legality.{IsLegalFor}
use Rattle.script_commands.specs.Beneath.proof_obstruction_free.specs.Closes.{ClosesEnd}
use Rattle.script_commands.specs.Beneath.proof_obstruction_free.specs.Laws.{AloneItEnds}
use Rattle.script_text.specs.Reading.{Reading as Script}
use Rattle.script_text.specs.Steps.{all_steps}
use Rattle.script_commands.specs.Reports.{last_of, report}
use Rattle.script_commands.specs.Scripts.{SaysScript, IsReport}
use Rattle.history_commands.specs.Verdicts.{IsVerdict}
use Rattle.script_commands.specs.Legality.{told_in, IsLegalText, AppendsJudged}
use Rattle.script_commands.proofs.Endings.{each_line_ends}
use Rattle.script_commands.specs.Beneath.machine_model.proofs.Along.{limits_along}
use Rattle.script_commands.proofs.Spelled.{report_spelled}
use Rattle.script_commands.proofs.Short.{report_short}
use Rattle.script_commands.specs.Recorded.{Recorded, first_recorded, recorded_from, recorded_in}

-- ---- the numbers of the order are those of begins

at_place : (events : List Event) (place : ℕ) (event : Event) → AllByRecursion EventFits events → slice_get events place ≡ Some event → EventFits event
at_place [] place event fit at = absurd (none-some event at)
at_place (e ∷ events) zero event fit at = subst EventFits (same_Some e event at) fit.0
at_place (e ∷ events) (suc place) event fit at = at_place events place event fit.1 at

each_number : (order : List ℕ) → ((place id : ℕ) → slice_get order place ≡ Some id → IsNumber id) → AllByRecursion IsNumber order
each_number [] fits = tt
each_number (id ∷ order) fits = (fits zero id refl, each_number order (λ place x at. fits (suc place) x at))

order_fits : (hash : ℕ → ℕ) (events : List Event) (order : List ℕ) → AllByRecursion EventFits events → IsLegal hash events order → AllByRecursion IsNumber order
order_fits hash events order fit legal =
    each_number order (λ place id at. let begun = legal.1.candidate.has_begun place id at in (at_place events begun.0 _ fit begun.2).0)

-- ---- texts

legal_text : (text : List ℕ) (told : Reading) → Spell (said_lines text) told → IsLegal (hash_of told.hash) told.events told.order → IsLegalText text told
legal_text text told spell legal = record { spelled = (spell, legal.1.well_formed); legal = legal }

-- a check of it answers true
pub judged_legal : (text : List ℕ) (told : Reading) → IsLegalText text told → IsShort text → IsVerdict text true
judged_legal text told is short = (told, (is.spelled, read_again text told is.spelled short), (λ _. is.legal, λ _. refl))

-- the text of a state's history and order, if these are legal
pub told_legal : (hash : HashKind) (state : Recorded) (text said : List ℕ) → All EventFits state.past.events → IsLegal (hash_of hash) state.past.events (order_of state.past) → text ≡ said →
    (AllByRecursion EventFits state.past.events → AllByRecursion IsNumber (order_of state.past) → Spell (said_lines said) (told_in hash state.past)) → IsLegalText text (told_in hash state.past)
told_legal hash state text said fit legal is spelled =
    let fits = recursion_from_All EventFits state.past.events fit in
    subst (λ t. IsLegalText t (told_in hash state.past)) (sym is)
    (legal_text said (told_in hash state.past) (spelled fits (order_fits (hash_of hash) state.past.events (order_of state.past) fits legal)) legal)

-- ---- the report of a script's run

-- the state after the lines of a script
pub led_to : (script : Script) (before after : Recorded) → before ≡ first_recorded script.limits → after ≡ recorded_from before (all_steps before.state script.lines) → after ≡ last_of script
led_to script before after first last = last ∙ ap (λ s. recorded_from s (all_steps s.state script.lines)) first

pub report_legal : (script : Script) (machine : Taken) (text : List ℕ) → recorded_in machine ≡ last_of script → All EventFits (past_of machine).events →
    IsLegalFor machine (order_of (past_of machine)) → text ≡ report script → IsLegalText text (told_in script.limits.hash (last_of script).past)
report_legal script machine text is fit legal same =
    let sizes : machine.limits.hash ≡ script.limits.hash =
    ap (λ (l : Bounds). l.hash) (sym (limits_along (bounded machine.limits) machine.steps) ∙ ap (λ (r : Recorded). r.state.limits) is
    ∙ limits_along (bounded script.limits) (all_steps (first_recorded script.limits).state script.lines)) in
    let here : IsLegal (hash_of script.limits.hash) (past_of machine).events (order_of (past_of machine)) =
    subst (λ hash. IsLegal (hash_of hash) (past_of machine).events (order_of (past_of machine))) sizes legal in
    told_legal script.limits.hash (last_of script) text (report script) (subst (λ (r : Recorded). All EventFits r.past.events) is fit)
    (subst (λ (r : Recorded). IsLegal (hash_of script.limits.hash) r.past.events (order_of r.past)) is here) same (report_spelled script)

-- ---- what is written

pub is_report : AloneItEnds → ClosesEnd → (text : List ℕ) (script : Script) (bytes : List ℕ) → SaysScript text script → bytes ≡ report script →
    IsLegalText bytes (told_in script.limits.hash (last_of script).past) → IsReport text bytes
is_report law closes text script bytes says whole right = record {
  script = script;
  says = says;
  whole = whole;
  legal = right;
  judged = judged_legal bytes (told_in script.limits.hash (last_of script).past) right (subst IsShort (sym whole) (report_short text script says.1));
  ends = each_line_ends law closes text script says.1;
}

pub appends_judged : (old new : Option (List ℕ)) (text bytes : List ℕ) → IsReport text bytes → Appends old new bytes → AppendsJudged old new
appends_judged old new text bytes is grown = (bytes, told_in is.script.limits.hash (last_of is.script).past, is.legal, is.judged, grown)
