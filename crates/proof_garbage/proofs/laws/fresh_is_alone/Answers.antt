use Rattle.proof_garbage.proofs.GivenUp.{claim, fresh_private, slot_names_not}
use Rattle.proof_garbage.proofs.Fresh.{fresh_decided}
use Rattle.proof_garbage.proofs.laws.fresh_is_alone.Goals as goal

pub returns : goal.returns
returns c limits steps actor operation why i a f ok runs on =
    let (used, kind) = claim limits steps ok actor operation runs i a f why on in (
      fresh_private limits steps ok actor operation runs i a f why on,
      fresh_decided limits steps ok actor operation i a f why runs on used,
      λ q named. slot_names_not limits steps ok actor operation runs i a f why on q named,
    )
