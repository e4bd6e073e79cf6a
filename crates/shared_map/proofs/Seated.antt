-- Seats of a shared map: how they are made, and what a call and a hearing make of one.
use Rattle.std.specs.Prelude.{◌≤◌, ◌<◌, ◌↔◌, Bool, IsTrue, Option, Some, None, IfSome, All}
use Rattle.std.proofs.Common.{◌≡◌, ℕ, zero, suc, ◌+◌, List, length, refl, sym, ap, subst, ◌∙◌, arith}
use Rattle.std.proofs.lemmas.List.Elements.{All-cons, All-nil, All-same}
use Rattle.gate.specs.Calls.{HasHeard, IsCalled}
use Rattle.gate.specs.Logs.{IsLegal}
use Rattle.gate.specs.Opening.{fresh_seat, fresh_seats}
use Rattle.gate.specs.Seats.{Room, Seated}
use Rattle.sharded_gate.specs.declared.gates.ShardCount.{ShardCount}
use Rattle.sharded_gate.specs.Opening.{AreMade, seats_of}
use Rattle.sharded_gate.specs.Shards.{calls_about, is_about}
use Rattle.sharded_gate.proofs.Beginnings.{all_from_map}
use Rattle.ctrie_map.specs.Maps.{MapState}
use Rattle.shared_map.specs.declared.asks.Ask.{Ask}
use Rattle.shared_map.specs.declared.asks.Request.{Request}
use Rattle.shared_map.specs.Answering.{MapAnswers}
use Rattle.shared_map.specs.Asks.{Told, about, asking}
use Rattle.shared_map.specs.Calling.{HasAsked, HasHeardOf}
use Rattle.shared_map.specs.Laws.{MapLog}
use Rattle.shared_map.specs.Seats.{AreSeatsOf, IsSeatOf, MapRoom, MapSeat}
use Rattle.shared_map.specs.Shards.{AreShards}
use Rattle.shared_map.proofs.Many.{as_many_at_last}
use Rattle.shared_map.proofs.Replays.{calls_replay}

-- ---- seats that are made

abbrev Fresh : Room (List MapState) → List MapState → Seated (List MapState) Request Told → Type 0
Fresh room shards seat = (seat.gate ≡ room.id) × (seat.seen.first ≡ shards)

all_fresh : (room : Room (List MapState)) (shards : List MapState) (from n : ℕ) → All (Fresh room shards) (fresh_seats room.id shards from n)
all_fresh room shards from zero = All-nil (Fresh room shards)
all_fresh room shards from (suc n) =
    All-cons (Fresh room shards) (fresh_seat room.id shards from) (fresh_seats room.id shards (from + 1) n) (refl, refl) (all_fresh room shards (from + 1) n)

pub made_seats : (map : MapRoom) (shards : List MapState) (seats : ℕ) (made : List MapSeat) → AreShards map.hash map.room.first → AreMade shards seats map.room made → AreSeatsOf map made
made_seats map shards seats made are is =
    let fresh : All (λ (s : MapSeat). Fresh map.room shards s.seat) made = all_from_map (Fresh map.room shards) (λ (s : MapSeat). s.seat) made
    (All-same (Fresh map.room shards) (seats_of made) (fresh_seats map.room.id shards 1 seats) is.made_is.fresh (all_fresh map.room shards 1 seats)) in
    let some = are.some in
    λ k seat low. record {
      gate = (fresh k seat low).0;
      first = (fresh k seat low).1 ∙ sym is.made_is.first;
      shards = are;
      slots = is.slots ∙ ap length (sym is.made_is.first);
      within = (let at = is.first k seat low in omega (arith, some, at));
    }

-- ---- what a seat sees

module _ (map : MapRoom) (before after : MapSeat) (of : IsSeatOf map before) where
  -- as many shards of one map
  seen_shards : (seen : MapLog) → seen.first ≡ before.seat.seen.first → IsLegal MapAnswers seen → AreShards map.hash seen.object × (length seen.object ≡ length map.room.first)
  seen_shards seen same legal =
      let first : seen.first ≡ map.room.first = same ∙ of.first in
      let are : AreShards map.hash seen.first = subst (AreShards map.hash) (sym first) of.shards in
      ((calls_replay map.hash seen are legal).1, as_many_at_last map.hash seen.first seen.log seen.object are legal ∙ ap length first)

  -- the seat is one of the map's still
  kept : after.seat.gate ≡ before.seat.gate → after.seat.seen.first ≡ before.seat.seen.first → after.shard < length map.room.first → IsSeatOf map after
  kept gate first low = record { gate = gate ∙ of.gate; first = first ∙ of.first; shards = of.shards; slots = of.slots; within = low }

  pub has_asked : (ask : Ask) (told : Told) → IsCalled MapAnswers before.seat (asking map.hash ask) told after.seat →
      IsTrue (is_about (about (length map.room.first) (asking map.hash ask)) after.shard) → after.shard < length map.room.first → HasAsked map before ask told after
  has_asked ask told called counts low =
      let (found, many) = seen_shards called.board called.followed.first called.legal in
      let answer = called.called.answered map.hash found in record {
        called = called;
        found = found;
        many = many;
        answered = answer.answered refl;
        left = answer.shards;
        counts = counts;
        keeps = kept called.gate (called.called.first ∙ called.followed.first) low;
      }

  pub has_heard : (count : ShardCount) (told : Bool) → HasHeard MapAnswers before.seat after.seat → after.shard < length map.room.first →
      (count.shard < length map.room.first → after.shard ≡ count.shard) →
      IsTrue told ↔ (count.shard < length map.room.first) × (count.calls ≤ length (calls_about (about (length map.room.first)) count.shard after.seat.seen.log)) →
      HasHeardOf map before count told after
  has_heard count told heard low counts answered = record {
    heard = heard;
    answered = answered;
    counts = counts;
    found = (seen_shards after.seat.seen heard.followed.first heard.legal).0;
    keeps = kept heard.gate heard.followed.first low;
  }

  -- ---- the same where it tried

  pub has_tried : (ask : Ask) (told : Option Told) → IfSome told (λ told. IsCalled MapAnswers before.seat (asking map.hash ask) told after.seat) →
      IfSome told (λ told. IsTrue (is_about (about (length map.room.first) (asking map.hash ask)) after.shard)) → IfSome told (λ told. after.shard < length map.room.first) →
      IfSome told (λ told. HasAsked map before ask told after)
  has_tried ask None called counts low = tt
  has_tried ask (Some told) called counts low = has_asked ask told called counts low

  pub has_tried_to_hear : (count : ShardCount) (told : Option Bool) → IfSome told (λ heard. HasHeard MapAnswers before.seat after.seat) →
      IfSome told (λ heard. after.shard < length map.room.first) → (count.shard < length map.room.first → IfSome told (λ heard. after.shard ≡ count.shard)) →
      IfSome told (λ heard.
      IsTrue heard ↔ (count.shard < length map.room.first) × (count.calls ≤ length (calls_about (about (length map.room.first)) count.shard after.seat.seen.log))) →
      IfSome told (λ heard. HasHeardOf map before count heard after)
  has_tried_to_hear count None heard low counts answered = tt
  has_tried_to_hear count (Some told) heard low counts answered = has_heard count told heard low counts answered
