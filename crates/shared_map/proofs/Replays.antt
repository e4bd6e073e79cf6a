-- A log of a map in shards replays on finite maps.
use Rattle.std.proofs.Common.{ℕ, List, [], ◌∷◌, length, Some, Ok, Err, sym, ap, subst, ◌∙◌}
use Rattle.shared_map.specs.Vocabulary.{hash_of, HashKind, Call, Get, Entries, Count, Reply, NoSlots, Opened}
use Rattle.ctrie_map.specs.declared.errors.MapError.{MapError}
use Rattle.ctrie_map.specs.declared.errors.MapError.TheVariants.{Full, WornOut}
use Rattle.ctrie_map.specs.Maps.{MapState}
use Rattle.ctrie_map.specs.Performing.{EffectAmong}
use Rattle.gate.specs.Finishing.{IsGathered}
use Rattle.gate.specs.Logs.{Leads}
use Rattle.gate.specs.Seats.{Room, Seated}
use Rattle.gate.proofs.Placing.{others_leave_own_calls}
use Rattle.shared_map.specs.declared.asks.Ask.{Ask}
use Rattle.shared_map.specs.declared.asks.Ask.TheVariants.{Do, From, Scan, First, IsWritable, Restore, Handles, Free, HasRoom}
use Rattle.shared_map.specs.declared.asks.Request.{Request}
use Rattle.shared_map.specs.Answering.{AnswersAll, CallsAll, ChangesAll, IsAnswered, MapAnswers, RestoresAll}
use Rattle.shared_map.specs.Asks.{MapEntry, Replied, Told}
use Rattle.shared_map.specs.Finishing.{AreInOneOrder}
use Rattle.shared_map.specs.Laws.{CallsReplay}
use Rattle.shared_map.specs.Replaying.{ChangesWorld, IsShown, Replays, RepliesIn, RestoresWorld, Shows}
use Rattle.shared_map.specs.Restores.{RestoresAmong}
use Rattle.shared_map.specs.Shards.{AreShards, world_of_all}
use Rattle.shared_map.proofs.Many.{as_many, as_many_at_last}

module _ (hash : HashKind) (before after : List MapState) where
  reply_shows : (call : Call) (answer : Reply) → ChangesAll hash before call (Ok answer) after → ChangesWorld hash (length before) (world_of_all before) call (Ok answer) (world_of_all after)
  reply_shows call NoSlots p = (p.0.0, p.2.2)
  reply_shows call (Opened copy) (begun, roomy, (number, (next, effect, has))) =
      (Some copy, subst (λ w. EffectAmong (hash_of hash) (world_of_all before) call (Some copy) (Opened copy) w) (sym has.2) effect)
  reply_shows call answer p = (p.2.0, subst (λ w. EffectAmong (hash_of hash) (world_of_all before) call p.2.0 answer w) (sym p.2.3.2) p.2.2)

  error_shows : (call : Call) (why : MapError) → ChangesAll hash before call (Err why) after → ChangesWorld hash (length before) (world_of_all before) call (Err why) (world_of_all after)
  error_shows call WornOut p = (p.0, ap world_of_all p.2)
  error_shows call why p = (p.0, ap world_of_all p.1)

  change_shows : (call : Call) (told : Replied) → ChangesAll hash before call told after → ChangesWorld hash (length before) (world_of_all before) call told (world_of_all after)
  change_shows call (Ok answer) p = reply_shows call answer p
  change_shows call (Err why) p = error_shows call why p

  call_shows : (call : Call) (told : Replied) → CallsAll hash before call told after → RepliesIn hash (length before) (world_of_all before) call told (world_of_all after)
  call_shows (Get h k) told p = (ap world_of_all p.0, p.1)
  call_shows (Entries h) told p = (ap world_of_all p.0, p.1)
  call_shows (Count h) told p = (ap world_of_all p.0, p.1)
  call_shows call told p = change_shows call told p

  restore_refused : (h copy : ℕ) (why : MapError) → RestoresAll hash before h copy (Err why) after → RestoresWorld hash (length before) (world_of_all before) h copy (Err why) (world_of_all after)
  restore_refused h copy Full p = (p.0, p.4.2)
  restore_refused h copy WornOut p = (p.0, ap world_of_all p.3)
  restore_refused h copy why p = (p.0, ap world_of_all p.1)

  restore_shows : (h copy : ℕ) (told : Told) → RestoresAll hash before h copy told after → RestoresWorld hash (length before) (world_of_all before) h copy told (world_of_all after)
  restore_shows h copy (Ok told) p = (p.0, subst (RestoresAmong (world_of_all before) h copy) (sym p.3.2.2) p.3.1)
  restore_shows h copy (Err why) p = restore_refused h copy why p

  shows : (ask : Ask) (told : Told) → AnswersAll hash before ask told after → Shows hash (length before) (world_of_all before) ask told (world_of_all after)
  shows (Do call) told (replied, is, p) = (replied, is, call_shows call replied p.0)
  shows (From h cursor room) told p = (ap world_of_all p.0, p.1)
  shows (Scan h shard cursor room) told p = (ap world_of_all p.0, p.1)
  shows (First h) told p = (ap world_of_all p.0, p.1)
  shows (IsWritable h) told p = (ap world_of_all p.0, p.1)
  shows (Restore h copy) told p = restore_shows h copy told p.0
  shows Handles told p = (ap world_of_all p.0, p.1)
  shows Free told p = ap world_of_all p.0
  shows HasRoom told p = ap world_of_all p.0

  shown : (request : Request) (told : Told) → IsAnswered hash before request told after → IsShown hash (length before) (world_of_all before) request told (world_of_all after)
  shown request told p = record {
    shows = λ e. shows request.ask told (p.answered e);
    strange = λ apart. let (none, same) = p.strange apart in (none, ap world_of_all same);
  }

-- calls that lead from the shards of one map replay from its world
replays : (hash : HashKind) (start : List MapState) (log : List MapEntry) (last : List MapState) → AreShards hash start → Leads MapAnswers start log last →
    Replays hash (length start) (world_of_all start) log (world_of_all last) × AreShards hash last
replays hash start [] last are same = (ap world_of_all same, subst (AreShards hash) (sym same) are)
replays hash start (e ∷ es) last are (next, answered, leads) =
    let answer = answered hash are in
    let (more, still) = replays hash next es last answer.shards leads in
    let many = as_many hash start next e.call e.answer answer in
    ((world_of_all next, shown hash start next e.call e.answer answer, subst (λ n. Replays hash n (world_of_all next) es (world_of_all last)) many more), still)

pub calls_replay : CallsReplay
calls_replay hash seen are legal = replays hash seen.first seen.log seen.object are legal

-- so do all calls at the end
pub in_one_order : {S : Type 0} (of : S → Seated (List MapState) Request Told) (hash : HashKind) (room : Room (List MapState)) (seats : List S) (made : List MapState) →
    AreShards hash room.first → IsGathered MapAnswers of room seats made → AreInOneOrder of (record { hash = hash; room = room }) seats made
in_one_order of hash room seats made are all =
    let first : AreShards hash all.last.first = subst (AreShards hash) (sym all.first) are in
    let (more, still) = replays hash all.last.first all.last.log all.last.object first all.legal in record {
      gathered = all;
      replays = subst (λ (m : List MapState). Replays hash (length room.first) (world_of_all room.first) all.last.log (world_of_all m)) (sym all.object_is)
          (subst (λ (f : List MapState). Replays hash (length f) (world_of_all f) all.last.log (world_of_all all.last.object)) all.first more);
      own = λ k s at. others_leave_own_calls MapAnswers (of s).number (of s).seen all.last (all.followed k s at);
      shards = subst (AreShards hash) (sym all.object_is) still;
      many = ap length all.object_is ∙ as_many_at_last hash all.last.first all.last.log all.last.object first all.legal ∙ ap length all.first;
    }
