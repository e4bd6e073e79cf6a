use Rattle.std.proofs.Common.{ap, subst, ◌∙◌}
use Rattle.machine_core.specs.Vocabulary.{viewed, generation_of, main_at}
use Rattle.machine_core.specs.Descending.{IsBelow}
use Rattle.machine_core.proofs.Descent.{starts, further}
use Rattle.machine_core.proofs.descending.look_down.Goals as goal

pub loop-depth-init : goal.loop-depth-init
loop-depth-init c = starts c.args.heap.now.heap c.args.root c.args.hash (c.in-Some-Indirection.ensures ∙ ap viewed c.in-Some-Indirection.field-0-is)

pub returns-in-Here : goal.returns-in-Here
returns-in-Here c = record {
  leads = c.loop-depth.invariant.leads;
  deep = c.loop-depth-test.true;
  main = c.main_at-main.ensures;
  flag = c.flag_of-flag.ensures.flag;
  lit = c.flag_of-flag.ensures.some;
  here = c.in-Here.ensures;
}

pub loop-depth-preserved : goal.loop-depth-preserved
loop-depth-preserved c =
    let heap = c.args.heap.now.heap in
    further heap c.args.root c.args.hash c.loop-depth.depth c.loop-depth.indirection c.in-Some-Indirection.generation c.in-Below.at
    (ap generation_of (c.in-Some-Indirection.ensures ∙ ap viewed c.in-Some-Indirection.field-0-is)) c.loop-depth.invariant
    (subst (λ flag. IsBelow heap (main_at heap c.loop-depth.indirection) flag c.in-Some-Indirection.generation c.in-Below.at) c.flag_of-flag.ensures.flag
    (subst (λ main. IsBelow heap main c.flag_of-flag.result c.in-Some-Indirection.generation c.in-Below.at) c.main_at-main.ensures
    (subst (λ g. IsBelow heap c.main_at-main.result c.flag_of-flag.result g c.in-Below.at) c.if-its-generation.true c.in-Below.ensures)))
