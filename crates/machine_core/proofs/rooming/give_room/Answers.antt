use Rattle.std.proofs.Common.{refl, sym, subst, ◌-◌, arith}
use Rattle.std.specs.Prelude.{slice_set}
use Rattle.std.specs.Vec.{with_item}
use Rattle.machine_core.specs.Vocabulary.{operation_of, Walks, IsOfRun}
use Rattle.machine_core.specs.declared.parts.Parts.{Parts}
use Rattle.machine_core.specs.Keeping.{Replaces}
use Rattle.machine_core.specs.Rooming.{GivesRoom, HasRoomToStep, IsWalking}
use Rattle.machine_core.specs.Seen.{seen}
use Rattle.machine_core.proofs.Kept.{at_index}
use Rattle.machine_core.proofs.Roomed.{kept_roomed, on_err, on_ok, room_there, seen_roomed, walks_there}
use Rattle.machine_core.proofs.Underway.{counts_of, within_of}
use Rattle.machine_core.proofs.rooming.give_room.Goals as goal

pub index_mut-requires : goal.index_mut-requires
index_mut-requires c = omega (arith, within_of c.args.parts.now c.args.actor c.requires.allowed, c.args.parts.now.actors.ok.0)

-- the actor gave way to one with room
gives : (c : goal.After-parts-1) → Replaces c.args.parts.now.actors.items (c.args.actor - 1) GivesRoom (slice_set c.args.parts.now.actors.items (c.args.actor - 1) c.give_room.new.self)
gives c = record {
  was = c.index_mut.result.now;
  is = c.give_room.new.self;
  found = at_index c.args.parts.now.actors.items (c.args.actor - 1) c.index_mut.result.now (within_of c.args.parts.now c.args.actor c.requires.allowed) c.index_mut.ensures.value;
  set = refl;
  does = c.give_room.ensures.gives;
}

pub returns-clause-same : goal.returns-clause-same
returns-clause-same c =
    let parts = c.args.parts.now in
    seen_roomed parts (record parts { actors = with_item parts.actors (c.args.actor - 1) c.give_room.new.self }) (c.args.actor - 1) (gives c) refl

pub returns-clause-core : goal.returns-clause-core
returns-clause-core c =
    let parts = c.args.parts.now in
    let after : Parts = record parts { actors = with_item parts.actors (c.args.actor - 1) c.give_room.new.self } in
    record {
      run = subst IsOfRun (sym (seen_roomed parts after (c.args.actor - 1) (gives c) refl)) c.requires.core.run;
      kept = kept_roomed parts after (c.args.actor - 1) (gives c) refl c.requires.core.kept;
      settled = c.requires.core.settled;
    }

pub returns-clause-room : goal.returns-clause-room
returns-clause-room c =
    on_ok c.give_room.result (HasRoomToStep c.give_room.new.self) _
    (room_there c.args.parts.now.actors.items (c.args.actor - 1) c.give_room.new.self (within_of c.args.parts.now c.args.actor c.requires.allowed)) c.give_room.ensures.room

pub returns-clause-only_walks : goal.returns-clause-only_walks
unfolding gives
returns-clause-only_walks c =
    let parts = c.args.parts.now in
    on_err c.give_room.result (IsWalking c.index_mut.result.now.under_way) (Walks (operation_of (seen parts) c.args.actor))
    (walks_there parts c.args.actor c.index_mut.result.now (counts_of parts c.args.actor c.requires.allowed) (gives c).found) c.give_room.ensures.only_walks
