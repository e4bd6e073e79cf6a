use Rattle.shared_map.proofs.Replays.{calls_replay}
use Rattle.shared_map.proofs.laws.calls_replay.Goals as goal

pub returns : goal.returns
returns c = calls_replay
