use Rattle.proof_updates.proofs.Handles.OfLists.{untouched_stay, updates_change, repairs_stay, clears_empty, closes_take, opened_copy}
use Rattle.proof_updates.proofs.laws.handles.contents_of_handles.Goals as goal

pub returns-clause-stay : goal.returns-clause-stay
returns-clause-stay c = untouched_stay

pub returns-clause-updates : goal.returns-clause-updates
returns-clause-updates c = updates_change

pub returns-clause-repairs : goal.returns-clause-repairs
returns-clause-repairs c = repairs_stay

pub returns-clause-clears : goal.returns-clause-clears
returns-clause-clears c = clears_empty

pub returns-clause-closes : goal.returns-clause-closes
returns-clause-closes c = closes_take

pub returns-clause-opens : goal.returns-clause-opens
returns-clause-opens c = opened_copy
