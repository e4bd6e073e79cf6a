use Rattle.proof_fresh.proofs.OnlyOffers.{only_by_offers}
use Rattle.proof_fresh.proofs.laws.only_offers_put_back.Goals as goal

pub returns : goal.returns
returns c limits before since r ok used private_to_none h = only_by_offers limits ok before r used private_to_none since h
