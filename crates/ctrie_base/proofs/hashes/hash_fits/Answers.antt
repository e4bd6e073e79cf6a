use Rattle.ctrie_base.specs.declared.hashes.HashKind.TheVariants.{Low, Fold, Wide, Block}
use Rattle.ctrie_base.specs.Hashes.{HashesFit}
use Rattle.ctrie_base.proofs.Fits.{low_hash-lt, fold_hash-lt, block_hash-lt}
use Rattle.ctrie_base.proofs.hashes.hash_fits.Goals as goal

hashes_fit : HashesFit
hashes_fit Low key fits = low_hash-lt key fits
hashes_fit Fold key fits = fold_hash-lt key fits
hashes_fit Wide key fits = fits
hashes_fit Block key fits = block_hash-lt key fits

pub returns : goal.returns
returns c = hashes_fit
