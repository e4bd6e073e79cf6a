use Rattle.std.proofs.Common.{◌++◌, ◌∷◌, [], refl, sym, ap, ◌∙◌, arith, length, length-append, take, take_all}
use Rattle.lock_free.specs.Halves.{halves_of}
use Rattle.lock_free.proofs.EntryHalves.{codes_more}
use Rattle.lock_free.proofs.entries.halves_of.Goals as goal

pub loop-n-preserved : goal.loop-n-preserved
loop-n-preserved c =
    let i = c.loop-n.invariant in
    let low = c.loop-n-test.true in
    let half = c.to_half.result in
    let pushed = ap length c.push.ensures.items in
    let one = length-append c.loop-n.halves.items (half ∷ []) in
    let size = i.1 in (
      c.push.ensures.items ∙ ap (λ xs. xs ++ half ∷ []) i.0 ∙ ap (λ h. halves_of (take c.loop-n.n c.args.entries.now) ++ h ∷ []) c.to_half.ensures
          ∙ sym (codes_more c.args.entries.now c.loop-n.n _ low),
      omega (arith, pushed, one, size),
      refl,
      omega (arith, low),
    )

pub returns : goal.returns
returns c = c.loop-n.invariant.0 ∙ ap halves_of (take_all c.loop-n.n c.args.entries.now c.loop-n-test.false)
