-- The state that the parts of a machine hold.
use Rattle.std.specs.Prelude.{ℕ, zero, suc, List, map, slice_get, slice_index_or, false, Option, None, option_map, option_and_then}
use Rattle.machine_core.specs.Vocabulary.{Operation, State, Table, Programs, call_for, generation_in, line_for}
use Rattle.machine_core.specs.declared.parts.Actor.{Actor}
use Rattle.machine_core.specs.declared.parts.Parts.{Parts}
use Rattle.machine_core.specs.declared.parts.UnderWay.{UnderWay}

-- the operation under way, with these root words, whose programs stand so: `operation_for` of its job and program
abbrev pub operation_at : Table → Programs → UnderWay → Operation
operation_at table p u = record {
  id = u.job.id;
  call = call_for u.job.handle u.program;
  access = p.key.work.swap.read.access;
  epoch = u.epoch;
  private = p.key.work.private;
  opens = u.job.opens;
  attempt = p.copy.attempt;
  is_marked = slice_index_or table.marks u.job.actor false;
  generation = generation_in u.program p;
  line = line_for u.program p;
}

-- the actor's operation, if one is under way
abbrev pub operation_seen : Table → Actor → Option Operation
operation_seen table actor = option_map (operation_at table actor.programs) actor.under_way

abbrev pub actors_seen : Table → List Actor → List (Option Operation)
actors_seen table actors = map (operation_seen table) actors

-- the parts as the definition speaks of them
abbrev pub seen : Parts → State
seen parts = record {
  limits = parts.limits;
  heap = parts.heap.heap;
  generations = parts.generations;
  limbo = parts.heap.limbo;
  epoch = parts.heap.epoch;
  cursor = parts.heap.cursor;
  roots = parts.table.roots;
  actors = actors_seen parts.table parts.actors.items;
  begun = parts.begun;
  steps = parts.steps;
}

-- ---- look-ups

-- the actor of this number; actors are counted from 1
abbrev pub actor_of : Parts → ℕ → Option Actor
actor_of parts zero = None
actor_of parts (suc n) = slice_get parts.actors.items n

-- what the actor has under way
abbrev pub under_way_of : Parts → ℕ → Option UnderWay
under_way_of parts actor = option_and_then (λ found. found.under_way) (actor_of parts actor)
