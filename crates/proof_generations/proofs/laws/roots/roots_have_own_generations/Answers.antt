use Rattle.std.proofs.Common.{◌≡◌, true, false, refl, sym, ap, ◌∙◌, ◌++◌, Some}
use Rattle.std.proofs.lemmas.Option.{none-some}
use Rattle.proof_generations.specs.Vocabulary.{first_state, closed_at, first_record, record_of, run}
use Rattle.proof_generations.specs.Beneath.machine_model.proofs.Recorded.{record-append}
use Rattle.proof_generations.specs.Beneath.proof_memory.proofs.Safety.AtEachTime.{safe_along}
use Rattle.proof_generations.proofs.Roots.Along.{ordered_along, read_only_plain, closed_later, alone_on, offered_unused, offered_apart}
use Rattle.proof_generations.proofs.laws.roots.roots_have_own_generations.Goals as goal

pub returns-clause-writable : goal.returns-clause-writable
returns-clause-writable c limits steps handle root ok e w =
    let I = ordered_along limits ok steps in
    (I.roots.unclosed handle root e w, λ other rival f same. alone_on (run limits steps) (record_of limits steps) I handle other root rival e w f same)

pub returns-clause-read_only : goal.returns-clause-read_only
returns-clause-read_only c limits steps handle root ok e r =
    let I = ordered_along limits ok steps in
    (read_only_plain (run limits steps) (record_of limits steps) (safe_along limits ok steps) I handle root e r, I.roots.is_closed handle root e r)

pub returns-clause-closed : goal.returns-clause-closed
returns-clause-closed c limits before since g n ok e =
    let closed : closed_at (record_of limits (before ++ since)) g ≡ Some n =
    ap (λ q. closed_at q g) (record-append (first_state limits) (first_record limits) before since)
    ∙ (closed_later (run limits before) (record_of limits before) (ordered_along limits ok before).offers since g n e).1 in
    let I = ordered_along limits ok (before ++ since) in
    (closed, λ handle root is w same. none-some n (sym (I.roots.unclosed handle root is w) ∙ ap (closed_at (record_of limits (before ++ since))) same ∙ closed))

pub returns-clause-offered : goal.returns-clause-offered
returns-clause-offered c limits steps handle offer ok word =
    let I = ordered_along limits ok steps in
    let first = offered_unused (run limits steps) (record_of limits steps) I handle offer word true offer.successor refl in (
      (first.unclosed, first.alone),
      λ second e.
          let u = offered_unused (run limits steps) (record_of limits steps) I handle offer word false second e in
          ((u.unclosed, u.alone), offered_apart (run limits steps) (record_of limits steps) I handle offer word second e),
    )
