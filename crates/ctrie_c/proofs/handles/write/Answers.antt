use Rattle.std.proofs.Common.{◌≡◌, ◌∙◌, ◌∷◌, length, drop, ap, sym, arith}
use Rattle.std.proofs.lemmas.List.{drop-drop, length-drop}
use Rattle.std.specs.FinMap as finite
use Rattle.shared_map.specs.Beneath.ctrie_map.specs.Maps.{handles_of}
use Rattle.ctrie_c.proofs.Filled.{next_filled, rows_filled}
use Rattle.ctrie_c.proofs.handles.write.Goals as goal

pub loop-count-preserved : goal.loop-count-preserved
loop-count-preserved c =
    let i = c.loop-count.count in let names = finite.keys (handles_of c.args.map.now) in
    let next : drop i names ≡ c.number.result ∷ c.next.new.self = sym c.loop-count.invariant.1 ∙ c.in-Some.ensures.steps ∙ sym (ap (λ h. h ∷ c.next.new.self) c.number.ensures) in (
      next_filled names c.args.handles.now c.loop-count.handles i c.number.result c.next.new.self c.loop-count.invariant.0 next c.loop-count-test.true,
      sym (ap (drop 1) next) ∙ drop-drop 1 i names,
    )

pub returns-in_default : goal.returns-in_default
returns-in_default c =
    let i = c.loop-count.count in let names = finite.keys (handles_of c.args.map.now) in
    rows_filled names c.args.handles.now c.loop-count.handles i c.loop-count.invariant.0
    (omega (arith, sym (length-drop i names) ∙ ap length (sym c.loop-count.invariant.1 ∙ c.in_default.ensures.steps.0)))
