-- The laws, for every list of steps.
use Rattle.std.specs.Prelude.{ℕ, List, [], ◌∷◌, ◌++◌}
use Rattle.std.proofs.lemmas.List.Elements.{All-nil, All-cons, All-head, All-tail}
use Rattle.proof_linearizable.specs.Beneath.history.specs.Worlds.{KeyMap}
use Rattle.proof_linearizable.specs.Beneath.machine_model.specs.declared.steps.Bounds.{Bounds}
use Rattle.proof_linearizable.specs.Beneath.machine_model.specs.declared.steps.Step.{Step}
use Rattle.proof_linearizable.specs.Beneath.machine_model.specs.Keys.{FitsKey, KeysFit}
use Rattle.proof_linearizable.specs.Beneath.machine_model.specs.Machine.{AreBounds}
use Rattle.proof_linearizable.specs.Beneath.machine_model.proofs.Times.{run_is}
use Rattle.proof_linearizable.specs.Beneath.machine_model.specs.Times.{states_of, last_of, records_of}
use Rattle.proof_linearizable.specs.Beneath.proof_contents.specs.Tries.{content}
use Rattle.proof_linearizable.specs.Beneath.proof_order.specs.Facts.{Facts}
use Rattle.proof_linearizable.specs.Beneath.proof_order.proofs.Views.Explained.{legal_by_facts}
use Rattle.proof_linearizable.specs.Beneath.proof_shape.specs.Sites.Nodes.{steps_of}
use Rattle.proof_linearizable.specs.Beneath.proof_shape.specs.Shaped.{trie_of_run}
use Rattle.proof_linearizable.specs.Beneath.proof_shape.proofs.Sites.Stepped.{takes_steps}
use Rattle.proof_linearizable.specs.Beneath.proof_shape.proofs.Sites.Fixed.{keys_fit}
use Rattle.proof_linearizable.specs.Laws.{EveryOrderIsLegal, AloneItActs}
use Rattle.proof_linearizable.proofs.FactsOfRuns.{facts}
use Rattle.proof_linearizable.proofs.Alone.{acts_alone}

-- the content of each generation before each step
abbrev shown : Bounds → List Step → ℕ → ℕ → KeyMap
shown limits steps = content (trie_of_run limits (states_of limits steps) (steps_of limits steps) (last_of limits steps))

-- the keys of a beginning fit
pub fit_in_front : (xs ys : List Step) → KeysFit (xs ++ ys) → KeysFit xs
fit_in_front [] ys fit = All-nil FitsKey
fit_in_front (s ∷ xs) ys fit = All-cons FitsKey s xs (All-head FitsKey s (xs ++ ys) fit) (fit_in_front xs ys (All-tail FitsKey s (xs ++ ys) fit))

facts_of : (limits : Bounds) (steps : List Step) → AreBounds limits → KeysFit steps → Facts limits (states_of limits steps) (records_of limits steps) (last_of limits steps) (shown limits steps)
facts_of limits steps ok fit =
    let r = run_is limits steps ok in
    facts r (steps_of limits steps) (takes_steps limits steps) (keys_fit limits steps fit)

pub every_order_is_legal : EveryOrderIsLegal
every_order_is_legal limits steps ok fit = legal_by_facts limits steps (shown limits steps) ok (facts_of limits steps ok fit)

pub alone_it_acts : AloneItActs
alone_it_acts limits steps more id actor call opens answer ok fit alone =
    let first : KeysFit steps = fit_in_front steps more fit in
    acts_alone limits steps more ok id actor call opens answer alone (shown limits steps) (facts_of limits steps ok first) (shown limits (steps ++ more)) (facts_of limits (steps ++ more) ok fit)
    (every_order_is_legal limits steps ok first) (every_order_is_legal limits (steps ++ more) ok fit)
