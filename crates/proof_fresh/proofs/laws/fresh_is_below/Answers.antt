use Rattle.proof_fresh.proofs.Below.{fresh_below}
use Rattle.proof_fresh.proofs.laws.fresh_is_below.Goals as goal

pub returns : goal.returns
returns c limits steps actor operation why i a f x ok runs on b = fresh_below limits steps ok actor operation why i a f x runs on b
