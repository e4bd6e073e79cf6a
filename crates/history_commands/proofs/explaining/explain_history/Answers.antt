use Rattle.std.proofs.Common.{◌≡◌, refl, sym, subst}
use Rattle.std.specs.Prelude.{Bool, is_none}
use Rattle.history_commands.specs.Explanations.{IsExplanation}
use Rattle.history_commands.specs.Verdicts.{IsVerdict}
use Rattle.history_commands.specs.Written.{AppendsSuch, AppendsPartOf}
use Rattle.history_commands.proofs.Known.{known_holds}
use Rattle.history_commands.proofs.Explained.{none_told, verdict_by_reason}
use Rattle.history_commands.proofs.explaining.explain_history.Goals as goal

pub returns-clause-verdict : goal.returns-clause-verdict
returns-clause-verdict g c =
    let is = rw c.as_slice.ensures.value at c.in_ok-reason.ensures.reason in
    let legal : c.is_none.result ≡ is_none c.in_ok-reason.reason = none_told _ _ c.is_none.ensures in
    known_holds _ (λ text. IsVerdict text _) _ c.in_ok-text.ensures.bytes (subst (IsVerdict _) (sym legal) (verdict_by_reason _ _ is))

pub returns-clause-written : goal.returns-clause-written
returns-clause-written g c =
    let is = rw c.as_slice.ensures.value at c.in_ok-reason.ensures.reason in
    let lines = rw c.as_ref.ensures.value at c.in_ok-lines.ensures in
    let legal : c.is_none.result ≡ is_none c.in_ok-reason.reason = none_told _ _ c.is_none.ensures in
    let grown = rw c.as_bytes.ensures.value at c.in_ok-write_all.ensures.ok in
    known_holds _ (λ text. AppendsSuch (IsExplanation text _) _ _) _ c.in_ok-text.ensures.bytes (_, (c.in_ok-reason.reason, is, legal, lines), grown)

pub returns-clause-told : goal.returns-clause-told
returns-clause-told g c =
    let lines = rw c.as_ref.ensures.value at c.in_ok-lines.ensures in
    let legal : c.is_none.result ≡ is_none c.in_ok-reason.reason = none_told _ _ c.is_none.ensures in
    let grown = rw c.as_bytes.ensures.value at c.in_ok-write_all.ensures.ok in
    (_, (c.in_ok-reason.reason, legal, lines), grown)

pub returns-in_err-write_all-clause-part : goal.returns-in_err-write_all-clause-part
returns-in_err-write_all-clause-part g c = λ _.
    let is = rw c.as_slice.ensures.value at c.in_ok-reason.ensures.reason in
    let lines = rw c.as_ref.ensures.value at c.in_ok-lines.ensures in
    let part = rw c.as_bytes.ensures.value at c.in_err-write_all.ensures.part in
    known_holds _ (λ text. AppendsPartOf (λ bytes. (legal : Bool) × IsExplanation text legal bytes) _ _) _ c.in_ok-text.ensures.bytes
    (_, (is_none c.in_ok-reason.reason, (c.in_ok-reason.reason, is, refl, lines)), part)
