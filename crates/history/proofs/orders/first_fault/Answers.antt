-- A fault is found exactly where the order isn't legal.
use Rattle.std.proofs.Common.{ℕ, Result, MatchResult, subst}
use Rattle.std.proofs.lemmas.Bool.{true≢false}
use Rattle.std.proofs.lemmas.Result.{IfOk-weaker}
use Rattle.ctrie_base.specs.Hashes.{hash_of}
use Rattle.history.specs.declared.faults.OrderFault.TheVariants.{WrongEvent}
use Rattle.history.specs.declared.tables.Table.{Table}
use Rattle.history.specs.Tables.{Records}
use Rattle.history.specs.Faults.{IsFirstWrong}
use Rattle.history.proofs.Legal.{not_legal, none_if_legal}
use Rattle.history.proofs.orders.first_fault.Goals as goal

pub returns-in-Ok-clause-exact : goal.returns-in-Ok-clause-exact
returns-in-Ok-clause-exact c =
    IfOk-weaker c.fault_in.result _ _ (λ fault judged. none_if_legal (hash_of c.args.hash) c.args.events.now c.args.order.now fault judged) c.fault_in.ensures.found

pub returns-in-Err-clause-exact : goal.returns-in-Err-clause-exact
returns-in-Err-clause-exact c =
    let found = c.in_ok-table.ensures.found in
    let wrong = subst (λ (r : Result Table ℕ). MatchResult r (λ table. Records c.args.events.now table) (λ place. IsFirstWrong c.args.events.now place)) c.in-Err.is found in
    (λ some. absurd (true≢false some), λ legal. absurd (not_legal (hash_of c.args.hash) c.args.events.now c.args.order.now (WrongEvent c.in-Err.place) wrong legal))
