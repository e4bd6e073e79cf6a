-- More slots and another number of steps, both at once.
use Rattle.std.proofs.Common.{◌∙◌, ap}
use Rattle.machine_model.specs.Lasting.{lasting}
use Rattle.machine_model.proofs.Lasting.{life_changes_nothing}
use Rattle.proof_slots.specs.Padding.{with_slots}
use Rattle.proof_slots.specs.Lasting.{WiderAlike}
use Rattle.proof_slots.proofs.Padded.Runs.{more_slots_alike}

pub wider_alike : WiderAlike
wider_alike more m limits steps ok free few left =
    let slots = more_slots_alike more limits steps ok free in
    let life = life_changes_nothing (with_slots more limits) m steps few left in
    (life.0 ∙ ap (lasting m) slots.0, life.1 ∙ slots.1)
