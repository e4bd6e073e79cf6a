use Rattle.std.specs.Prelude.{◌≡◌, ◌∷◌, ◌++◌, [], length, None, refl}
use Rattle.contract.specs.Vocabulary.{viewed, entry_at, clean_next, at_heap}
use Rattle.std.proofs.Common.{ap, ◌∙◌}
use Rattle.contract.specs.Beneath.machine_model.specs.declared.lines.Line.TheVariants as line
use Rattle.contract.specs.Beneath.machine_model.specs.declared.repairs.CleanLine.TheVariants as clean
use Rattle.contract.specs.Cleaning.{clean_line}
use Rattle.contract.proofs.Looks.{looked, single_kept}
use Rattle.contract.proofs.clean.Clean.look_at_entry.Goals as goal

pub returns-in-Some-Single-clause-follows : goal.returns-in-Some-Single-clause-follows
returns-in-Some-Single-clause-follows c =
    let heap = c.args.heap.now.heap in
    let s = c.args.work.now.swap in
    let main = c.args.self.now.main in
    let done = c.args.self.now.done.items in
    let entry = c.entry_at-entry.result in
    let e : entry ≡ entry_at heap main (length done) = cc in
    λ state hashes operation path.
    let here = at_heap state heap hashes in
    looked here operation (line.Clean (clean.Entry path main done)) (clean_next here path main (done ++ entry ∷ [])) (clean_line path s None c.put.new.self) s.read.at c.put.result refl refl
    (single_kept here path main done entry _ _ e (c.in-Some-Single.ensures ∙ ap viewed c.in-Some-Single.field-0-is)) (c.put.ensures.follows state hashes path s)
