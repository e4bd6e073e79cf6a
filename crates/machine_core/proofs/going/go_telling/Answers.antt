use Rattle.std.proofs.Common.{sym, ap, ◌∙◌, ◌+◌, subst}
use Rattle.machine_model.specs.declared.steps.Outcome.TheVariants as outcome
use Rattle.machine_core.specs.declared.parts.Parts.{Parts}
use Rattle.machine_core.specs.Vocabulary.{Kind, NotesUpTo, held_by}
use Rattle.machine_core.specs.Going.{CarriesUnless}
use Rattle.machine_core.specs.Keeping.{IsKept}
use Rattle.machine_core.specs.Seen.{seen}
use Rattle.machine_core.specs.Told.{published_of}
use Rattle.machine_core.proofs.Took.{actor_there, took}
use Rattle.machine_core.proofs.Underway.{at_work, tells_none}
use Rattle.machine_core.proofs.Whole.{carries_nothing, goes, kept_gone, tells}
use Rattle.machine_core.proofs.Working.{steps_little}
use Rattle.machine_core.proofs.going.go_telling.Goals as goal

pub returns-clause-goes : goal.returns-clause-goes
returns-clause-goes c = λ operation found.
    let parts = c.args.parts.now in
    let now = c.step_of-taken.new.parts in
    let (u, runs) = at_work parts c.args.actor c.requires.allowed in
    let t = took parts now c.args.actor u c.step_of-taken.result runs (c.step_of-taken.ensures u runs) in
    let none = tells_none parts c.args.actor c.requires.goes_on u runs t.seat.found (actor_there parts c.args.actor u t.seat) in
    goes parts c.args.actor u c.step_of-taken.result now t c.requires.core.run c.requires.core.kept c.requires.allowed none c.kind-kind.result c.kind-kind.ensures operation found
    ∙ ap (λ (p : Parts). (outcome.Went c.kind-kind.result, seen p)) (sym c.take_carried-carried.ensures.rest)

pub returns-clause-tells : goal.returns-clause-tells
returns-clause-tells c =
    let parts = c.args.parts.now in
    let now = c.step_of-taken.new.parts in
    let (u, runs) = at_work parts c.args.actor c.requires.allowed in
    let t = took parts now c.args.actor u c.step_of-taken.result runs (c.step_of-taken.ensures u runs) in
    let none = tells_none parts c.args.actor c.requires.goes_on u runs t.seat.found (actor_there parts c.args.actor u t.seat) in
    tells parts c.args.actor u c.step_of-taken.result now t c.requires.core.run c.requires.core.kept c.requires.allowed none
    (record {
      kind = c.kind-kind.result;
      progress = record {
        committed = c.committed.result;
        given = c.given.result;
        counts = c.counts.result;
        published = c.args.published;
        carried = c.take_carried-carried.result;
      };
    })
    c.committed.ensures c.given.ensures c.counts.ensures (λ operation found. c.requires.told ∙ ap published_of found) c.take_carried-carried.ensures.told

pub returns-clause-kept : goal.returns-clause-kept
returns-clause-kept c =
    let parts = c.args.parts.now in
    let now = c.step_of-taken.new.parts in
    let (u, runs) = at_work parts c.args.actor c.requires.allowed in
    let t = took parts now c.args.actor u c.step_of-taken.result runs (c.step_of-taken.ensures u runs) in
    let none = tells_none parts c.args.actor c.requires.goes_on u runs t.seat.found (actor_there parts c.args.actor u t.seat) in
    subst IsKept (sym c.take_carried-carried.ensures.rest)
    (kept_gone parts c.args.actor u c.step_of-taken.result now t c.requires.core.run c.requires.core.kept c.requires.allowed none)

pub returns-clause-work : goal.returns-clause-work
returns-clause-work c =
    let parts = c.args.parts.now in
    let (u, runs) = at_work parts c.args.actor c.requires.allowed in
    let held = held_by (seen parts) c.args.actor in
    subst (λ (p : Parts). NotesUpTo (32 + held) (36 + held) parts.heap p.heap) (sym c.take_carried-carried.ensures.rest)
    (steps_little parts c.step_of-taken.new.parts c.args.actor u c.step_of-taken.result runs (c.step_of-taken.ensures u runs))

pub take_carried-carried-requires : goal.take_carried-carried-requires
take_carried-carried-requires c =
    let parts = c.args.parts.now in
    let now = c.step_of-taken.new.parts in
    let (u, runs) = at_work parts c.args.actor c.requires.allowed in
    let t = took parts now c.args.actor u c.step_of-taken.result runs (c.step_of-taken.ensures u runs) in
    let none = tells_none parts c.args.actor c.requires.goes_on u runs t.seat.found (actor_there parts c.args.actor u t.seat) in
    subst (λ (k : Kind). CarriesUnless k now.table) (sym c.kind-kind.ensures)
    (carries_nothing parts c.args.actor u c.step_of-taken.result now t c.requires.core.run c.requires.core.kept c.requires.allowed none)
