-- An export is of the moment of its freeze.
use Rattle.std.proofs.Common.{ℕ, ◌++◌, List, [], ◌∷◌, length, refl, subst}
use Rattle.shared_map.specs.Vocabulary.{HashKind, HandleMap}
use Rattle.shared_map.specs.Asks.{MapEntry}
use Rattle.shared_map.specs.Parts.{freezing}
use Rattle.shared_map.specs.PartsLaws.{ExportsAreOfTheFreeze}
use Rattle.shared_map.specs.Replaying.{Replays}
use Rattle.shared_map.specs.Shards.{world_of_all}
use Rattle.shared_map.proofs.Freezes.{freezes_copy_the_map}
use Rattle.shared_map.proofs.Moments.{parts_list_one_moment, scans_list_one_moment}
use Rattle.shared_map.proofs.Replays.{calls_replay}

-- a log in two pieces replays piece by piece
in_two : (hash : HashKind) (shards : ℕ) (log rest : List MapEntry) (before after : HandleMap) → Replays hash shards before (log ++ rest) after →
    (middle : HandleMap) × Replays hash shards before log middle × Replays hash shards middle rest after
in_two hash shards [] rest before after replays = (before, refl, replays)
in_two hash shards (e ∷ es) rest before after (next, shown, more) =
    let (middle, front, behind) = in_two hash shards es rest next after more in (middle, (next, shown, front), behind)

pub exports_are_of_the_freeze : ExportsAreOfTheFreeze
exports_are_of_the_freeze hash seen front while rest seat handle copy are legal is never =
    let shards : ℕ = length seen.first in
    let all = subst (λ (log : List MapEntry). Replays hash shards (world_of_all seen.first) log (world_of_all seen.object)) is (calls_replay hash seen are legal).0 in
    let (world, came, more) = in_two hash shards front (freezing hash seat handle copy ∷ (while ++ rest)) (world_of_all seen.first) (world_of_all seen.object) all in
    let (next, froze, on) = more in
    let (m, had, frozen) = freezes_copy_the_map hash shards world next handle copy froze in
    let (last, meanwhile, others) = in_two hash shards while rest next (world_of_all seen.object) on in (
      world,
      m,
      came,
      had,
      scans_list_one_moment hash shards next last while copy m are.some meanwhile frozen never,
      parts_list_one_moment hash shards next last while copy m meanwhile frozen never,
    )
