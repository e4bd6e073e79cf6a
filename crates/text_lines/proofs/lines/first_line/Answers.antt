use Rattle.std.proofs.Common.{◌≡◌, ℕ, ◌+◌, ◌-◌, List, [], length, take, drop, sym, arith}
use Rattle.std.proofs.lemmas.List.{take_all, nil_from_length, length-drop, length-take}
use Rattle.text_lines.proofs.FirstLine.{first_split}
use Rattle.text_lines.proofs.lines.first_line.Goals as goal

pub returns-in-Some-clause-lines : goal.returns-in-Some-clause-lines
returns-in-Some-clause-lines c =
    let text = c.args.text.now in
    let split = rw (sym c.in-Some.ensures) at (first_split text c.requires) in
    rw (take_all (length text - (c.in-Some.end + 1)) (drop (c.in-Some.end + 1) text) (omega (arith, length-drop (c.in-Some.end + 1) text))) split.0

pub returns-in-None-clause-lines : goal.returns-in-None-clause-lines
returns-in-None-clause-lines c =
    let text = c.args.text.now in
    let split = rw (sym c.in-None.ensures) at (first_split text c.requires) in
    let back : List ℕ = take (length text - length text) (drop (length text) text) in
    let none : back ≡ [] = nil_from_length back (omega (arith, length-take (length text - length text) (drop (length text) text), length-drop (length text) text)) in
    rw none split
