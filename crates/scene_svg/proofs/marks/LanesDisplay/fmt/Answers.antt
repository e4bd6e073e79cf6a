use Rattle.std.proofs.Common.{◌<◌, ◌≤◌, ◌++◌, ℕ, List, take, length, get_or, sym, ap, ◌∙◌, arith, rules}
use Rattle.std.proofs.Output.{has_written_append, has_written_of_eq}
use Rattle.std.proofs.lemmas.List.{take_all}
use Rattle.scene_svg.specs.Marks.{lane_text, lanes_from}
use Rattle.scene_svg.proofs.Loops.{lanes_are, lanes_more}
use Rattle.scene_svg.proofs.marks.LanesDisplay.fmt.Goals as goal

pub loop-lane-preserved : goal.loop-lane-preserved
loop-lane-preserved g c =
    let actors = c.args.self.now.0.now.actors.items in
    let width = c.width_of-width.result in
    let i = c.loop-lane.lane in
    let all = c.deref-actor-items.ensures.value in
    let size = ap length all in
    let below = c.loop-lane-test.true in
    let within : i < length actors = omega arith in
    let one = ap (λ (xs : List ℕ). lanes_from width 0 (take i actors) ++ lane_text width i (get_or xs i 0)) all in
    λ p. has_written_of_eq _ _ _ _ _ (one ∙ lanes_more width actors i 0 within) (has_written_append _ _ _ _ _ _ (c.loop-lane.invariant p) (search rules))

pub returns-clause-writes : goal.returns-clause-writes
returns-clause-writes g c =
    let scene = c.args.self.now.0.now in
    let actors = scene.actors.items in
    let size = ap length c.deref-actor-items.ensures.value in
    let past = c.loop-lane-test.false in
    let last : length actors ≤ c.loop-lane.lane = omega arith in
    λ p ok. has_written_of_eq _ _ _ _ _
    (ap (λ (xs : List ℕ). lanes_from c.width_of-width.result 0 xs) (take_all c.loop-lane.lane actors last) ∙ ap (λ w. lanes_from w 0 actors) c.width_of-width.ensures ∙ sym (lanes_are scene))
    (c.loop-lane.invariant p)
