-- An operation without a mark isn't placed.
use Rattle.std.proofs.Common.{◌≢◌, ◌↔◌, Bool, List, ℕ, IfOk, IsTrue, subst}
use Rattle.std.proofs.lemmas.Bool.{false≢true}
use Rattle.order_search.specs.Vocabulary.{hash_of, Reply, NoSlots, HasEnded, IsLegal}
use Rattle.order_search.specs.Marks.{LacksAnswered}
use Rattle.order_search.proofs.walking.Way.is_legal.Goals as goal

pub returns-then-lacks_answered-clause-exact : goal.returns-then-lacks_answered-clause-exact
returns-then-lacks_answered-clause-exact c = (
  λ is. absurd (false≢true is),
  λ legal.
      let lacks = c.lacks_answered.ensures c.if-lacks_answered.true c.args.events.now c.requires.known in
      let unmarked = subst (λ xs. LacksAnswered c.args.events.now xs) c.as_slice.ensures.value lacks in
      let free = c.requires.way.marks.unmarked unmarked.0 unmarked.2 in
      let differs : unmarked.1 ≢ NoSlots = λ same. free.1 (subst (λ (a : Reply). HasEnded c.args.events.now unmarked.0 a) same unmarked.3) in
      absurd (free.0 (legal.1.candidate.answered unmarked.0 unmarked.1 unmarked.3 differs)),
)

pub returns-clause-exact : goal.returns-clause-exact
returns-clause-exact c =
    subst (λ (xs : List ℕ). IfOk c.is_order.result (λ (legal : Bool). IsTrue legal ↔ IsLegal (hash_of c.args.hash) c.args.events.now xs)) c.as_slice-2.ensures.value c.is_order.ensures.exact
