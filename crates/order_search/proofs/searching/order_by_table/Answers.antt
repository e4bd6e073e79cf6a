-- What is placed is a way, and it is known whether it is a legal order.
use Rattle.std.proofs.Common.{◌≡◌, ◌↔◌, Bool, IsTrue, List, ℕ, ◌++◌, sym, ap, ◌∙◌, subst}
use Rattle.std.proofs.lemmas.Bool.{false≢true}
use Rattle.order_search.specs.Vocabulary.{hash_of, IsLegal}
use Rattle.order_search.specs.States.{AreFailures}
use Rattle.order_search.specs.Walks.{IsWayOf, Places}
use Rattle.order_search.proofs.searching.order_by_table.Goals as goal
use Rattle.order_search.proofs.searching.order_by_table.Goals.{then-branch+in_ok-legal-2, else-branch}

pub is_legal-requires-clause-way : goal.is_legal-requires-clause-way
is_legal-requires-clause-way c = c.in_ok-way.ensures.way (hash_of c.args.hash)

pub loop-init : goal.loop-init
loop-init c = (c.in_ok-way.ensures.way (hash_of c.args.hash), c.in_ok-legal.ensures.exact, c.in_ok-failures.ensures.none (hash_of c.args.hash) c.args.events.now c.requires)

pub loop-preserved : goal.loop-preserved
loop-preserved c =
    let hash = hash_of c.args.hash in
    let history = c.args.events.now in
    let way = c.place.new.self in
    let P : Bool → Type 0 = λ fits. Places fits hash history way in
    let Q : Bool → Type 0 = λ legal. IsWayOf hash history way × (IsTrue legal ↔ IsLegal hash history way.ids.items) × AreFailures hash history c.next_operation.new.failures in
    let kept = c.in_ok-id.ensures.failures in
    elim c.if-branch.branch [
      | then-branch+in_ok-legal-2 w ↦
          let placed = subst P w.if-branch.true c.in_ok-place.ensures.places in
          subst Q (sym w.legal-is) (placed, w.in_ok-legal-2.ensures.exact, kept)
      | else-branch w ↦
          let passed = subst P w.if-branch.false c.in_ok-place.ensures.places in
          subst Q (sym (w.legal-is ∙ c.if-legal.false)) (passed.0, (λ is. absurd (false≢true is), λ legal. absurd (passed.1 legal)), kept)
    ]

pub returns-clause-found : goal.returns-clause-found
returns-clause-found c = λ is.
    let items : c.append.new.self.items ≡ c.loop.way.ids.items = c.in_ok-append.ensures.items ∙ ap (λ (xs : List ℕ). xs ++ c.loop.way.ids.items) c.clear.ensures.items in
    subst (λ xs. IsLegal (hash_of c.args.hash) c.args.events.now xs) (sym items) ((c.loop.invariant).1.0 c.if-not-legal.false)
