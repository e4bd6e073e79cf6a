use Rattle.proof_shape.proofs.Sites.Fixed.{sites_are_fixed as law}
use Rattle.proof_shape.proofs.Sites.Mains.{mains_share_sites as second}
use Rattle.proof_shape.proofs.laws.sites_are_fixed.Goals as goal

pub returns-clause-fixed : goal.returns-clause-fixed
returns-clause-fixed c = law

pub returns-clause-shared : goal.returns-clause-shared
returns-clause-shared c = second
