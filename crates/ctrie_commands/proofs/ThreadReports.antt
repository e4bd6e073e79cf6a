-- The report of what threads did: how many lines it has, and that it spells a history and an order, which is legal.
use Rattle.std.proofs.Common.{◌≡◌, ℕ, ◌+◌, List, [], ◌∷◌, ◌++◌, length, sym, ap, ◌∙◌, subst, append_assoc, append-nil, arith}
use Rattle.std.specs.Prelude.{All, sum_by}
use Rattle.std.specs.List.{AllByRecursion}
use Rattle.std.proofs.lemmas.List.Concat.{flat_map-cons}
use Rattle.std.proofs.lemmas.List.Sums.{sum_by-cons}
use Rattle.ctrie_base.specs.Hashes.{hash_of}
use Rattle.ctrie_base.specs.declared.hashes.HashKind.{HashKind}
use Rattle.ctrie_base.specs.declared.refusals.Refusal.{Refusal}
use Rattle.history.specs.Orders.{IsLegal}
use Rattle.text_lines.specs.Texts.{lines_of, said_lines}
use Rattle.ctrie_commands.specs.Beneath.history_text.specs.Grammar.{IsNumber, EventFits, SpellEvents, Spell}
use Rattle.ctrie_commands.specs.Beneath.history_text.proofs.Spelled.{events_spelled, hash_none, whole_spelled}
use Rattle.ctrie_commands.specs.Beneath.machine_model.specs.Records.{order_of}
use Rattle.ctrie_commands.specs.Beneath.proof_runs.specs.Machines.{past_of}
use Rattle.ctrie_commands.specs.Beneath.step_machine.specs.Records.{IsLegalRecord, IsRecordOf}
use Rattle.ctrie_commands.specs.Beneath.step_machine.specs.declared.records.Record.{Record}
use Rattle.lock_runner.specs.Finishing.{recorded}
use Rattle.script_commands.specs.Legality.{told_in, IsLegalText}
use Rattle.script_commands.specs.Recorded.{Recorded, recorded_in}
use Rattle.script_commands.specs.Reports.{line, hash_text, denied_text, denied_lines, event_lines, last_lines}
use Rattle.script_commands.proofs.Legal.{told_legal}
use Rattle.script_commands.proofs.LineCounts.{one_line, each_event, denied_line_none, last_counted}
use Rattle.script_commands.proofs.Spelled.{one_denied, last_spelled}
use Rattle.ctrie_commands.specs.Threads.{all_denied, thread_report}

-- ---- its lines

each_denial : (actor : ℕ) (denied : List Refusal) (rest : List ℕ) → length (lines_of (denied_lines actor denied ++ rest)) ≡ length denied + length (lines_of rest)
each_denial actor [] rest = omega arith
each_denial actor (refusal ∷ denied) rest =
    let first = line (denied_text actor refusal) in
    let parts = ap (λ t. t ++ rest) (flat_map-cons (λ r. line (denied_text actor r)) refusal denied) ∙ append_assoc first (denied_lines actor denied) rest in
    omega (arith, ap (λ t. length (lines_of t)) parts, one_line (denied_text actor refusal) (denied_lines actor denied ++ rest) (denied_line_none actor refusal), each_denial actor denied rest)

-- the denials of this actor and of all behind it
denials_counted : (actor : ℕ) (denials : List (List Refusal)) (rest : List ℕ) →
    length (lines_of (all_denied actor denials ++ rest)) ≡ sum_by (λ denied. length denied) denials + length (lines_of rest)
denials_counted actor [] rest = omega arith
denials_counted actor (denied ∷ more) rest =
    let parts = append_assoc (denied_lines actor denied) (all_denied (actor + 1) more) rest in
    omega (
      arith,
      ap (λ t. length (lines_of t)) parts,
      each_denial actor denied (all_denied (actor + 1) more ++ rest),
      denials_counted (actor + 1) more rest,
      sum_by-cons (λ (d : List Refusal). length d) denied more,
    )

-- the hash, each event, each denial, the order and the slots
pub thread_report_counted : (hash : HashKind) (state : Recorded) (denials : List (List Refusal)) →
    length (lines_of (thread_report hash state denials)) ≡ length state.past.events + sum_by (λ denied. length denied) denials + 3
thread_report_counted hash state denials =
    let behind = all_denied 1 denials ++ last_lines state in
    omega (
      arith,
      one_line (hash_text hash) (event_lines state.past.events ++ behind) (hash_none hash),
      each_event state.past.events behind,
      denials_counted 1 denials (last_lines state),
      last_counted state,
    )

-- ---- what it spells

denials_spelled : (actor : ℕ) (denied : List Refusal) (rest order : List ℕ) → SpellEvents (said_lines rest) [] order → SpellEvents (said_lines (denied_lines actor denied ++ rest)) [] order
denials_spelled actor [] rest order behind = behind
denials_spelled actor (refusal ∷ denied) rest order behind =
    let first = line (denied_text actor refusal) in
    subst (λ text. SpellEvents (said_lines text) [] order)
    (sym (ap (λ t. t ++ rest) (flat_map-cons (λ r. line (denied_text actor r)) refusal denied) ∙ append_assoc first (denied_lines actor denied) rest))
    (one_denied actor refusal (denied_lines actor denied ++ rest) [] order (denials_spelled actor denied rest order behind))

all_denials_spelled : (actor : ℕ) (denials : List (List Refusal)) (rest order : List ℕ) → SpellEvents (said_lines rest) [] order →
    SpellEvents (said_lines (all_denied actor denials ++ rest)) [] order
all_denials_spelled actor [] rest order behind = behind
all_denials_spelled actor (denied ∷ more) rest order behind =
    subst (λ text. SpellEvents (said_lines text) [] order) (sym (append_assoc (denied_lines actor denied) (all_denied (actor + 1) more) rest))
    (denials_spelled actor denied (all_denied (actor + 1) more ++ rest) order (all_denials_spelled (actor + 1) more rest order behind))

thread_report_spelled : (hash : HashKind) (state : Recorded) (denials : List (List Refusal)) → AllByRecursion EventFits state.past.events → AllByRecursion IsNumber (order_of state.past) →
    Spell (said_lines (thread_report hash state denials)) (told_in hash state.past)
thread_report_spelled hash state denials fit numbers =
    let rest = all_denied 1 denials ++ last_lines state in
    let behind = events_spelled state.past.events rest [] (order_of state.past) fit (all_denials_spelled 1 denials (last_lines state) (order_of state.past) (last_spelled state numbers)) in
    let text = event_lines state.past.events ++ rest in
    whole_spelled hash state.past.events (order_of state.past) text (subst (λ events. SpellEvents (said_lines text) events (order_of state.past)) (append-nil state.past.events) behind)

-- ---- the report of a record

pub record_text_legal : (hash : HashKind) (told : Record) (text : List ℕ) (denials : List (List Refusal)) → IsRecordOf (recorded told) told → IsLegalRecord told → All EventFits told.events.items →
    told.limits.hash ≡ hash → text ≡ thread_report hash (recorded_in (recorded told)) denials → IsLegalText text (told_in hash (past_of (recorded told)))
record_text_legal hash told text denials its (world, explains, shows) fit same is =
    let state = recorded_in (recorded told) in
    let legal : IsLegal (hash_of told.limits.hash) told.events.items told.order.items = (world, explains) in
    let by_hash : IsLegal (hash_of hash) told.events.items told.order.items = subst (λ h. IsLegal (hash_of h) told.events.items told.order.items) same legal in
    let by_events : IsLegal (hash_of hash) state.past.events told.order.items = subst (λ es. IsLegal (hash_of hash) es told.order.items) its.history by_hash in
    told_legal hash state text (thread_report hash state denials) (subst (All EventFits) its.history fit)
    (subst (IsLegal (hash_of hash) state.past.events) its.order by_events) is (thread_report_spelled hash state denials)
