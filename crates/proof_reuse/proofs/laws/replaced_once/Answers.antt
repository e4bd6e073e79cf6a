use Rattle.proof_reuse.proofs.SwappedOut.{replaced_once}
use Rattle.proof_reuse.proofs.laws.replaced_once.Goals as goal

pub returns : goal.returns
returns c limits before since a b i j m f g outcome after ok taken first second own other = replaced_once limits ok before since a b i j m f g outcome after taken first second own other
