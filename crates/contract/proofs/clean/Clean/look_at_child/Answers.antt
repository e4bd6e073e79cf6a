use Rattle.std.specs.Prelude.{◌∷◌, ◌++◌, [], None, refl}
use Rattle.contract.specs.Beneath.machine_model.specs.declared.lines.Line.TheVariants as line
use Rattle.contract.specs.Beneath.machine_model.specs.declared.repairs.CleanLine.TheVariants as clean
use Rattle.contract.specs.Vocabulary.{clean_next, at_heap}
use Rattle.contract.specs.Cleaning.{clean_line}
use Rattle.contract.proofs.Looks.{looked}
use Rattle.contract.proofs.clean.Clean.look_at_child.Goals as goal

pub returns-clause-follows : goal.returns-clause-follows
returns-clause-follows c =
    let main = c.args.self.now.main in
    let done = c.args.self.now.done.items in
    λ state hashes operation path s place.
    let here = at_heap state c.args.heap.now.heap hashes in
    looked here operation (line.Clean (clean.Tomb path main done c.args.child)) (clean_next here path main (done ++ c.kept-entry.result ∷ []))
    (clean_line path s None c.put.new.self) place c.put.result refl refl
    (rw (← c.as_slice.ensures.value) (c.kept-entry.ensures state hashes path)) (c.put.ensures.follows state hashes path s)
