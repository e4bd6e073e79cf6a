use Rattle.std.proofs.Common.{refl, sym, ap, ◌∙◌, ◌-◌, arith}
use Rattle.std.proofs.lemmas.Option.{same_Some}
use Rattle.machine_core.specs.declared.parts.Actor.{Actor}
use Rattle.machine_core.proofs.Kept.{at_index, seat_of}
use Rattle.machine_core.proofs.Underway.{can_of, seated, within_of}
use Rattle.machine_core.proofs.going.step_of.Goals as goal

pub index_mut-requires : goal.index_mut-requires
index_mut-requires c = omega (arith, within_of c.args.parts.now c.args.actor c.requires.allowed, c.args.parts.now.actors.ok.0)

pub step_programs-requires : goal.step_programs-requires
step_programs-requires c =
    let parts = c.args.parts.now in
    let found = c.index_mut.result.now in
    let at = at_index parts.actors.items (c.args.actor - 1) found (within_of parts c.args.actor c.requires.allowed) c.index_mut.ensures.value in
    let (u, seat) = seated parts c.args.actor c.requires.allowed in
    let runs = ap (λ (a : Actor). a.under_way) (same_Some found seat.found (sym at ∙ seat.at)) ∙ seat.runs in
    record {
      under_way = u;
      runs = runs;
      can = can_of parts c.args.actor c.requires.core.run c.requires.core.kept c.requires.allowed found u at runs;
      room = c.requires.room found at u runs;
      sound = (c.requires.core.kept.seats (c.args.actor - 1) found at).sound u runs;
    }

pub returns : goal.returns
returns c = λ u runs.
    let parts = c.args.parts.now in
    let found = c.index_mut.result.now in
    let at = at_index parts.actors.items (c.args.actor - 1) found (within_of parts c.args.actor c.requires.allowed) c.index_mut.ensures.value in
    let seat = seat_of parts c.args.actor u runs in
    record {
      actors = record {
        was = found;
        is = c.step_programs.new.self;
        found = at;
        set = refl;
        does = c.step_programs.ensures u (ap (λ (a : Actor). a.under_way) (same_Some found seat.found (sym at ∙ seat.at)) ∙ seat.runs);
      };
      rest = refl;
    }
