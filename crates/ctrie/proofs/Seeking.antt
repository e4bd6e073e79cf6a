-- What tells of a search for an order, from what the call says.
use Rattle.std.proofs.Common.{◌≡◌, ℕ, List, Option, None, Some, Bool, true, false, Result, Ok, Err, IfSome, ap, arith}
use Rattle.std.proofs.lemmas.Option.{none-some, same_Some}
use Rattle.std.specs.Prelude.{IfOk, OnOk, IfErr}
use Rattle.std.specs.Result.{result_err}
use Rattle.ctrie.specs.Beneath.history_commands.specs.declared.faults.Fault.{Fault}
use Rattle.ctrie.specs.Beneath.history_commands.specs.Written.{AppendsSuch, AppendsPartOf}
use Rattle.ctrie.specs.Beneath.history_commands.specs.Orders.{TellsSearch, ShowsSearch}
use Rattle.ctrie.specs.Beneath.order_search.specs.declared.searching.Search.{Search}
use Rattle.ctrie.specs.Beneath.order_search.specs.declared.searching.Search.TheVariants as search
use Rattle.ctrie_words.specs.declared.arguments.Request.TheVariants.{Order}
use Rattle.ctrie.specs.declared.outcomes.Outcome.{Outcome}
use Rattle.ctrie.specs.declared.outcomes.Outcome.TheVariants.{Done, Legal, NotLegal, Unknown}
use Rattle.ctrie.specs.Outcomes.{Tells, TellsLegality, judged, sought}

abbrev fault_of : {A : Type 0} → Result A Fault → Option Fault
fault_of result = result_err result

pub sought_fault : (found : Result Search Fault) (fault : Fault) → sought found ≡ Err fault → found ≡ Err fault
sought_fault (Ok search.Found) fault e = absurd (none-some fault (ap fault_of e))
sought_fault (Ok search.NotThere) fault e = absurd (none-some fault (ap fault_of e))
sought_fault (Ok search.Spent) fault e = absurd (none-some fault (ap fault_of e))
sought_fault (Err given) fault e = ap Err (same_Some given fault (ap fault_of e))

pub sought_ok : (found : Result Search Fault) (P : Type 0) → OnOk found P → OnOk (sought found) P
sought_ok (Ok search.Found) P holds = holds
sought_ok (Ok search.NotThere) P holds = holds
sought_ok (Ok search.Spent) P holds = holds
sought_ok (Err fault) P holds = holds

pub sought_err : (found : Result Search Fault) (P : Fault → Type 0) → IfErr found P → IfErr (sought found) P
sought_err (Ok search.Found) P holds = holds
sought_err (Ok search.NotThere) P holds = holds
sought_err (Ok search.Spent) P holds = holds
sought_err (Err fault) P holds = holds

pub sought_not_done : (found : Result Search Fault) → sought found ≡ Ok Done → ⊥
sought_not_done (Ok search.Found) e = grind (arith, e)
sought_not_done (Ok search.NotThere) e = grind (arith, e)
sought_not_done (Ok search.Spent) e = grind (arith, e)
sought_not_done (Err fault) e = grind (arith, e)

-- what tells of the search was written
pub search_told : (known old new : Option (List ℕ)) (found : Result Search Fault) (path : _) (steps : ℕ) → IfOk found (λ s. IfSome known (λ text. AppendsSuch (TellsSearch text s) old new))
    → IfOk (sought found) (λ outcome. IfSome known (λ text. AppendsSuch (Tells (Order path steps) text outcome) old new))
search_told known old new (Err fault) path steps written = tt
search_told known old new (Ok search.Found) path steps written = written
search_told known old new (Ok search.NotThere) path steps written = written
search_told known old new (Ok search.Spent) path steps written = written

pub search_legality : (found : Result Search Fault) (path : _) (steps : ℕ) (old new : Option (List ℕ)) → IfOk found (λ s. AppendsSuch (ShowsSearch s) old new)
    → (legal : Bool) → sought found ≡ judged (Ok legal) → AppendsSuch (TellsLegality (Order path steps) legal) old new
search_legality (Ok search.Found) path steps old new written true e = written
search_legality (Ok search.NotThere) path steps old new written false e = written
search_legality (Ok search.Found) path steps old new written false e = absurd (let wrong : ⊥ = grind (arith, e) in wrong)
search_legality (Ok search.NotThere) path steps old new written true e = absurd (let wrong : ⊥ = grind (arith, e) in wrong)
search_legality (Ok search.Spent) path steps old new written true e = absurd (let wrong : ⊥ = grind (arith, e) in wrong)
search_legality (Ok search.Spent) path steps old new written false e = absurd (let wrong : ⊥ = grind (arith, e) in wrong)
search_legality (Err fault) path steps old new written true e = absurd (let wrong : ⊥ = grind (arith, e) in wrong)
search_legality (Err fault) path steps old new written false e = absurd (let wrong : ⊥ = grind (arith, e) in wrong)

pub search_part : (known old new : Option (List ℕ)) (path : _) (steps : ℕ) → IfSome known (λ text. AppendsPartOf (λ bytes. (s : Search) × TellsSearch text s bytes) old new)
    → IfSome known (λ text. AppendsPartOf (λ bytes. (outcome : Outcome) × Tells (Order path steps) text outcome bytes) old new)
search_part None old new path steps part = tt
search_part (Some text) old new path steps (bytes, (search.Found, is), part) = (bytes, (Legal, is), part)
search_part (Some text) old new path steps (bytes, (search.NotThere, is), part) = (bytes, (NotLegal, is), part)
search_part (Some text) old new path steps (bytes, (search.Spent, is), part) = (bytes, (Unknown, is), part)
