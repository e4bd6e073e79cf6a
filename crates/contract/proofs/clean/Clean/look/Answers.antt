use Rattle.std.specs.Prelude.{[], None, refl}
use Rattle.std.proofs.Common.{ap, ◌∙◌}
use Rattle.contract.specs.Beneath.machine_model.specs.declared.lines.Line.TheVariants as line
use Rattle.contract.specs.Beneath.machine_model.specs.declared.repairs.CleanLine.TheVariants as clean
use Rattle.contract.specs.Vocabulary.{clean_next, clean_after_main, at_heap, viewed}
use Rattle.contract.specs.Cleaning.{clean_line}
use Rattle.contract.proofs.Looks.{looked}
use Rattle.contract.proofs.clean.Clean.look.Goals as goal

pub returns-in-Some-Branch-clause-follows : goal.returns-in-Some-Branch-clause-follows
returns-in-Some-Branch-clause-follows c =
    let main = c.args.self.now.main in
    λ state hashes operation path s place.
    let here = at_heap state c.args.heap.now.heap hashes in
    looked here operation (line.Clean (clean.Main path main)) (clean_next here path main []) (clean_line path s None c.go_through.new.self) place c.go_through.result refl refl
    (ap (clean_after_main here path main) (c.in-Some-Branch.ensures ∙ ap viewed c.in-Some-Branch.field-0-is)) (c.go_through.ensures.follows state hashes path s)

pub returns-in-None-clause-follows : goal.returns-in-None-clause-follows
returns-in-None-clause-follows c =
    let main = c.args.self.now.main in
    λ state hashes operation path s place.
    let here = at_heap state c.args.heap.now.heap hashes in
    looked here operation (line.Clean (clean.Main path main)) (clean_next here path main []) (clean_line path s None c.go_through-in-None.new.self) place c.go_through-in-None.result refl refl
    (ap (clean_after_main here path main) c.in-None.ensures) (c.go_through-in-None.ensures.follows state hashes path s)
