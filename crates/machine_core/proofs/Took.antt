-- The parts of a machine after a step that an operation's programs took, with what it has under way brought up to date.
use Rattle.std.proofs.Common.{arith, ◌≡◌, ℕ, zero, suc, ◌-◌, Some, sym, ap, subst, ◌∙◌}
use Rattle.std.specs.Prelude.{slice_get, slice_set}
use Rattle.std.proofs.lemmas.Option.{same_Some}
use Rattle.machine_core.specs.Vocabulary.{Programs, line_for, scene, Taken}
use Rattle.running.specs.Steps.{Does}
use Rattle.machine_core.specs.declared.parts.Actor.{Actor}
use Rattle.machine_core.specs.declared.parts.Parts.{Parts}
use Rattle.machine_core.specs.declared.parts.UnderWay.{UnderWay}
use Rattle.machine_core.specs.Going.{Steps}
use Rattle.machine_core.specs.Seen.{actor_of, under_way_of}
use Rattle.machine_core.proofs.Kept.{Seat, seat_of}

-- the actor's programs took this step
pub record Took (before : Parts) (actor : ℕ) (u : UnderWay) (taken : Taken) (now : Parts) : Type 0 where
  pub seat : Seat before actor u
  pub programs : Programs
  pub set : now.actors.items ≡ slice_set before.actors.items (actor - 1) (record { programs = programs; under_way = Some u })
  pub does : Does u.job u.program (line_for u.program seat.found.programs) (scene before.heap before.table before.generations seat.found.programs) taken
      (scene now.heap now.table now.generations programs)
  pub rest : now ≡ record before { heap = now.heap; table = now.table; generations = now.generations; actors = now.actors }

pub took : (before now : Parts) (actor : ℕ) (u : UnderWay) (taken : Taken) → under_way_of before actor ≡ Some u → Steps before actor u taken now → Took before actor u taken now
took before now actor u taken runs steps =
    let seat = seat_of before actor u runs in
    let r = steps.actors in
    let was : r.was ≡ seat.found = same_Some r.was seat.found (sym r.found ∙ seat.at) in
    record {
      seat = seat;
      programs = r.is.programs;
      set = r.set
          ∙ ap (λ o. slice_set before.actors.items (actor - 1) (record { programs = r.is.programs; under_way = o })) (r.does.under_way ∙ ap (λ (a : Actor). a.under_way) was ∙ seat.runs);
      does =
          subst
          (λ (a : Actor). Does u.job u.program (line_for u.program a.programs) (scene before.heap before.table before.generations a.programs) taken
          (scene now.heap now.table now.generations r.is.programs))
          was r.does.does;
      rest = steps.rest;
    }

pub actor_there : (before : Parts) (actor : ℕ) (u : UnderWay) (seat : Seat before actor u) → actor_of before actor ≡ Some seat.found
actor_there before zero u seat = absurd (let counts = seat.counts in omega (arith, counts))
actor_there before (suc n) u seat = ap (slice_get before.actors.items) (let same : n ≡ suc n - 1 = omega arith in same) ∙ seat.at
