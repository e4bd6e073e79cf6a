-- What tells of a request, from what the calls say.
use Rattle.std.proofs.Common.{◌≡◌, ℕ, List, Option, None, Some, Bool, true, false, Result, Ok, Err, IfSome, refl, sym, ap, subst, arith}
use Rattle.std.proofs.lemmas.Option.{none-some, same_Some}
use Rattle.std.specs.Prelude.{IfOk, OnOk, IfErr}
use Rattle.std.specs.Result.{result_err}
use Rattle.std.specs.Io.KnownBytes.{Appends}
use Rattle.ctrie.specs.Beneath.history_commands.specs.declared.faults.Fault.{Fault}
use Rattle.ctrie.specs.Beneath.history_commands.specs.Written.{AppendsSuch, AppendsPartOf}
use Rattle.ctrie.specs.Beneath.history_commands.specs.Verdicts.{IsVerdict, verdict_line, AppendsPart}
use Rattle.ctrie.specs.Beneath.history_commands.specs.Explanations.{IsExplanation}
use Rattle.ctrie.specs.Beneath.history_commands.specs.Pictures.{IsPicture}
use Rattle.ctrie.specs.Beneath.history_commands.proofs.Explained.{verdict_by_reason, verdict_by_scene}
use Rattle.ctrie.specs.Beneath.script_commands.specs.Scripts.{AppendsReport, AppendsReportPart}
use Rattle.ctrie_commands.specs.Threads.{AppendsThreadReport, AppendsThreadReportPart}
use Rattle.ctrie_words.specs.declared.arguments.Request.TheVariants.{Check, Run, Threads, Explain, Draw}
use Rattle.ctrie.specs.declared.outcomes.Outcome.{Outcome}
use Rattle.ctrie.specs.declared.outcomes.Outcome.TheVariants.{Done, Legal, NotLegal}
use Rattle.ctrie.specs.Outcomes.{Tells, TellsLegality, judged, done}

-- ---- how it comes out

-- it comes out with this fault where the judgement did, and ends well where the judgement did; and no script was carried out
abbrev fault_of : {A : Type 0} → Result A Fault → Option Fault
fault_of result = result_err result

pub judged_fault : (verdict : Result Bool Fault) (fault : Fault) → judged verdict ≡ Err fault → verdict ≡ Err fault
judged_fault (Ok true) fault e = absurd (none-some fault (ap fault_of e))
judged_fault (Ok false) fault e = absurd (none-some fault (ap fault_of e))
judged_fault (Err given) fault e = ap Err (same_Some given fault (ap fault_of e))

pub judged_ok : (verdict : Result Bool Fault) (P : Type 0) → OnOk verdict P → OnOk (judged verdict) P
judged_ok (Ok true) P holds = holds
judged_ok (Ok false) P holds = holds
judged_ok (Err fault) P holds = holds

pub judged_err : (verdict : Result Bool Fault) (P : Fault → Type 0) → IfErr verdict P → IfErr (judged verdict) P
judged_err (Ok true) P holds = holds
judged_err (Ok false) P holds = holds
judged_err (Err fault) P holds = holds

pub judged_not_done : (verdict : Result Bool Fault) → judged verdict ≡ Ok Done → ⊥
judged_not_done (Ok true) e = grind (arith, e)
judged_not_done (Ok false) e = grind (arith, e)
judged_not_done (Err fault) e = grind (arith, e)

-- so it does where a script was carried out
pub done_fault : (result : Result (Unit {0}) Fault) (fault : Fault) → done result ≡ Err fault → result ≡ Err fault
done_fault (Ok nothing) fault e = absurd (none-some fault (ap fault_of e))
done_fault (Err given) fault e = ap Err (same_Some given fault (ap fault_of e))

pub done_ok : (result : Result (Unit {0}) Fault) (P : Type 0) → OnOk result P → OnOk (done result) P
done_ok (Ok nothing) P holds = holds
done_ok (Err fault) P holds = holds

pub done_err : (result : Result (Unit {0}) Fault) (P : Fault → Type 0) → IfErr result P → IfErr (done result) P
done_err (Ok nothing) P holds = holds
done_err (Err fault) P holds = holds

pub done_holds : (result : Result (Unit {0}) Fault) (P : Type 0) → OnOk result P → done result ≡ Ok Done → P
done_holds (Ok nothing) P holds e = holds
done_holds (Err fault) P holds e = grind (arith, e)

pub done_not_judged : (result : Result (Unit {0}) Fault) (legal : Bool) → done result ≡ judged (Ok legal) → ⊥
done_not_judged (Ok nothing) true e = grind (arith, e)
done_not_judged (Ok nothing) false e = grind (arith, e)
done_not_judged (Err fault) true e = grind (arith, e)
done_not_judged (Err fault) false e = grind (arith, e)

-- ---- what was written

-- what tells the verdict was written, whatever the text
pub legality_told : (verdict : Result Bool Fault) (request : _) (old new : Option (List ℕ)) → IfOk verdict (λ legal. AppendsSuch (TellsLegality request legal) old new) →
    (legal : Bool) → judged verdict ≡ judged (Ok legal) → AppendsSuch (TellsLegality request legal) old new
legality_told (Ok true) request old new written true e = written
legality_told (Ok false) request old new written false e = written
legality_told (Ok true) request old new written false e = absurd (let wrong : ⊥ = grind (arith, e) in wrong)
legality_told (Ok false) request old new written true e = absurd (let wrong : ⊥ = grind (arith, e) in wrong)
legality_told (Err fault) request old new written true e = absurd (let wrong : ⊥ = grind (arith, e) in wrong)
legality_told (Err fault) request old new written false e = absurd (let wrong : ⊥ = grind (arith, e) in wrong)

pub line_told : (verdict : Result Bool Fault) (path : _) (old new : Option (List ℕ)) → IfOk verdict (λ legal. Appends old new (verdict_line legal)) →
    IfOk verdict (λ legal. AppendsSuch (TellsLegality (Check path) legal) old new)
line_told (Ok legal) path old new written = (verdict_line legal, refl, written)
line_told (Err fault) path old new written = tt

-- its verdict was written
pub verdict_told : (known old new : Option (List ℕ)) (verdict : Result Bool Fault) (path : _) → IfOk verdict (λ legal. IfSome known (λ text. IsVerdict text legal)) →
    IfOk verdict (λ legal. Appends old new (verdict_line legal)) → IfOk (judged verdict) (λ outcome. IfSome known (λ text. AppendsSuch (Tells (Check path) text outcome) old new))
verdict_told None old new (Ok true) path is written = tt
verdict_told None old new (Ok false) path is written = tt
verdict_told None old new (Err fault) path is written = tt
verdict_told (Some text) old new (Ok true) path is written = (verdict_line true, (is, refl), written)
verdict_told (Some text) old new (Ok false) path is written = (verdict_line false, (is, refl), written)
verdict_told (Some text) old new (Err fault) path is written = tt

-- the report was written
pub report_told : (known old new : Option (List ℕ)) (result : Result (Unit {0}) Fault) (path : _) → OnOk result (IfSome known (λ text. AppendsReport old new text)) →
    IfOk (done result) (λ outcome. IfSome known (λ text. AppendsSuch (Tells (Run path) text outcome) old new))
report_told known old new (Err fault) path written = tt
report_told None old new (Ok nothing) path written = tt
report_told (Some text) old new (Ok nothing) path written = written

pub thread_report_told : (known old new : Option (List ℕ)) (result : Result (Unit {0}) Fault) (path : _) → OnOk result (IfSome known (λ text. AppendsThreadReport old new text)) →
    IfOk (done result) (λ outcome. IfSome known (λ text. AppendsSuch (Tells (Threads path) text outcome) old new))
thread_report_told known old new (Err fault) path written = tt
thread_report_told None old new (Ok nothing) path written = tt
thread_report_told (Some text) old new (Ok nothing) path written = written

-- what explains the verdict was written, or the picture
pub explanation_told : (known old new : Option (List ℕ)) (verdict : Result Bool Fault) (path : _) → IfOk verdict (λ legal. IfSome known (λ text. IsVerdict text legal)) →
    IfOk verdict (λ legal. IfSome known (λ text. AppendsSuch (IsExplanation text legal) old new)) →
    IfOk (judged verdict) (λ outcome. IfSome known (λ text. AppendsSuch (Tells (Explain path) text outcome) old new))
explanation_told known old new (Err fault) path is written = tt
explanation_told None old new (Ok true) path is written = tt
explanation_told None old new (Ok false) path is written = tt
explanation_told (Some text) old new (Ok true) path is (bytes, told, grown) = (bytes, (is, told), grown)
explanation_told (Some text) old new (Ok false) path is (bytes, told, grown) = (bytes, (is, told), grown)

pub picture_told : (known old new : Option (List ℕ)) (verdict : Result Bool Fault) (path : _) → IfOk verdict (λ legal. IfSome known (λ text. IsVerdict text legal)) →
    IfOk verdict (λ legal. IfSome known (λ text. AppendsSuch (IsPicture text legal) old new)) →
    IfOk (judged verdict) (λ outcome. IfSome known (λ text. AppendsSuch (Tells (Draw path) text outcome) old new))
picture_told known old new (Err fault) path is written = tt
picture_told None old new (Ok true) path is written = tt
picture_told None old new (Ok false) path is written = tt
picture_told (Some text) old new (Ok true) path is (bytes, told, grown) = (bytes, (is, told), grown)
picture_told (Some text) old new (Ok false) path is (bytes, told, grown) = (bytes, (is, told), grown)

-- the verdict that is explained, and that of the picture
explained : (text bytes : List ℕ) (legal : Bool) → IsExplanation text legal bytes → IsVerdict text legal
explained text bytes legal (reason, is, same, whole) = subst (IsVerdict text) (sym same) (verdict_by_reason text reason is)

drawn : (text bytes : List ℕ) (legal : Bool) → IsPicture text legal bytes → IsVerdict text legal
drawn text bytes legal (scene, is, same, whole) = subst (IsVerdict text) (sym same) (verdict_by_scene text scene is)

-- a beginning was written
pub verdict_part : (known old new : Option (List ℕ)) (path : _) → IfSome known (λ text. AppendsPart old new text) →
    IfSome known (λ text. AppendsPartOf (λ bytes. (outcome : Outcome) × Tells (Check path) text outcome bytes) old new)
verdict_part None old new path part = tt
verdict_part (Some text) old new path (bytes, (true, is, line), part) = (bytes, (Legal, (is, line)), part)
verdict_part (Some text) old new path (bytes, (false, is, line), part) = (bytes, (NotLegal, (is, line)), part)

pub report_part : (known old new : Option (List ℕ)) (path : _) → IfSome known (λ text. AppendsReportPart old new text) →
    IfSome known (λ text. AppendsPartOf (λ bytes. (outcome : Outcome) × Tells (Run path) text outcome bytes) old new)
report_part None old new path part = tt
report_part (Some text) old new path (bytes, is, part) = (bytes, (Done, is), part)

pub thread_report_part : (known old new : Option (List ℕ)) (path : _) → IfSome known (λ text. AppendsThreadReportPart old new text) →
    IfSome known (λ text. AppendsPartOf (λ bytes. (outcome : Outcome) × Tells (Threads path) text outcome bytes) old new)
thread_report_part None old new path part = tt
thread_report_part (Some text) old new path (bytes, is, part) = (bytes, (Done, is), part)

pub explanation_part : (known old new : Option (List ℕ)) (path : _) → IfSome known (λ text. AppendsPartOf (λ bytes. (legal : Bool) × IsExplanation text legal bytes) old new) →
    IfSome known (λ text. AppendsPartOf (λ bytes. (outcome : Outcome) × Tells (Explain path) text outcome bytes) old new)
explanation_part None old new path part = tt
explanation_part (Some text) old new path (bytes, (true, told), part) = (bytes, (Legal, (explained text bytes true told, told)), part)
explanation_part (Some text) old new path (bytes, (false, told), part) = (bytes, (NotLegal, (explained text bytes false told, told)), part)

pub picture_part : (known old new : Option (List ℕ)) (path : _) → IfSome known (λ text. AppendsPartOf (λ bytes. (legal : Bool) × IsPicture text legal bytes) old new) →
    IfSome known (λ text. AppendsPartOf (λ bytes. (outcome : Outcome) × Tells (Draw path) text outcome bytes) old new)
picture_part None old new path part = tt
picture_part (Some text) old new path (bytes, (true, told), part) = (bytes, (Legal, (drawn text bytes true told, told)), part)
picture_part (Some text) old new path (bytes, (false, told), part) = (bytes, (NotLegal, (drawn text bytes false told, told)), part)
