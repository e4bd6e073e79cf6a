use Rattle.proof_claims.proofs.HeldOnce.{held_once}
use Rattle.proof_claims.proofs.LetGo.{was_let_go}
use Rattle.proof_claims.proofs.NamesHeld.{names_held}
use Rattle.proof_claims.proofs.Outcomes.{each_held}
use Rattle.proof_claims.proofs.laws.names_are_held.Goals as goal

pub returns : goal.returns
returns c limits steps j k ok keys used unfollowed kept names =
    held_once limits ok steps keys j k used names
    (names_held limits ok steps j k used unfollowed (λ dropped. kept (was_let_go limits ok steps j unfollowed dropped)) (each_held limits ok steps) names)
