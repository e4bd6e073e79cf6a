use Rattle.proof_reuse.proofs.OnePlace.{one_takes_its_place}
use Rattle.proof_reuse.proofs.laws.one_takes_its_place.Goals as goal

pub returns : goal.returns
returns c limits steps i j m f g ok own other a b = one_takes_its_place limits steps ok i j m f g own other a b
