use Rattle.std.proofs.Common.{◌≡◌, sym, ap, ◌∙◌, arith}
use Rattle.std.proofs.Output.{has_written_of_eq}
use Rattle.scene_svg.specs.Marks.{first_marks}
use Rattle.scene_svg.proofs.Loops.{marks_are}
use Rattle.scene_svg.proofs.marks.MarksDisplay.fmt.Goals as goal

pub returns-clause-writes : goal.returns-clause-writes
returns-clause-writes g c =
    let scene = c.args.self.now.0.now in
    let past = c.loop-event-test.false in
    let end = c.loop-event.auto.event-end in
    let last : c.loop-event.event ≡ scene.events = omega arith in
    λ p ok. has_written_of_eq _ _ _ _ _ (ap (first_marks _) last ∙ ap (λ b. first_marks b scene.events) c.bottom_of-bottom.ensures ∙ sym (marks_are scene)) (c.loop-event.invariant p)
