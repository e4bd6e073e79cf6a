-- How it is put together that something comes within so many steps of an actor that is alone.
use Rattle.std.proofs.Common.{◌≡◌, ℕ, suc, ◌+◌, ◌<◌, ◌≤◌, Option, sym, subst, ◌∙◌, arith}
use Rattle.proof_obstruction_free.specs.Vocabulary.{Reply, Ref, Action, Line, action_of, line_action, line_after, generation_from}
use Rattle.proof_obstruction_free.specs.Beneath.machine_model.specs.declared.actions.Action.TheVariants as act
use Rattle.proof_obstruction_free.specs.Beneath.machine_model.specs.declared.lines.Line.TheVariants as line
use Rattle.proof_obstruction_free.specs.Alone.{Lone, Stands, Keeps, KeepsBut, WordStays, Within, IsQuiet, IsStill, IsStillWeight, IsWeight, word}
use Rattle.proof_obstruction_free.specs.Stepping.{Stepping, IsNoEnd}

module _ (a : Lone) where
  -- ---- what stays stays over both

  pub stays : (t : ℕ) → WordStays a t t
  stays t r e = e

  pub stays_on : (t u v : ℕ) → WordStays a t u → WordStays a u v → WordStays a t v
  stays_on t u v first then r e = then r (first r e)

  pub same_stays : (t u : ℕ) → word a u ≡ word a t → WordStays a t u
  same_stays t u same r e = same ∙ e

  pub keeps_now : (t : ℕ) → Keeps a t t
  keeps_now t i m has = has

  pub keeps_on : (t u v : ℕ) → Keeps a t u → Keeps a u v → Keeps a t v
  keeps_on t u v first then i m has = then i m (first i m has)

  pub keeps_but : (t u : ℕ) (but : Ref) → Keeps a t u → KeepsBut a t u but
  keeps_but t u but keeps i m other has = keeps i m has

  pub keeps_but_on : (t u v : ℕ) (but : Ref) → KeepsBut a t u but → KeepsBut a u v but → KeepsBut a t v but
  keeps_but_on t u v but first then i m other has = then i m other (first i m other has)

-- a still action is quiet
still_quiet : (action : Action) → IsStill action → IsQuiet action
still_quiet (act.Offer offer) still = still
still_quiet (act.Publish indirection replaced fresh) still = still
still_quiet (act.Restore indirection main previous) still = still
still_quiet (act.Decide indirection main previous told) still = still
still_quiet action still = tt

-- so what no quiet step adds to no still one does
pub weight_of_still : (a : Lone) (weight : ℕ → ℕ) → IsWeight a weight → IsStillWeight a weight
weight_of_still a weight heavy t since more operation runs still = heavy t since more operation runs (still_quiet (action_of (a.states t) operation) still)

module _ (a : Lone) (weight : ℕ → ℕ) where
  -- ---- within so many steps

  abbrev W : (ℕ → Type 0) → ℕ → ℕ → Type 0
  W = Within a weight

  -- it holds now
  pub here : (P : ℕ → Type 0) (t : ℕ) → P t → W P 0 t
  here P t p room = (t, omega arith, omega arith, p)

  pub weaken : (P : ℕ → Type 0) (n m t : ℕ) → n ≤ m → W P n t → W P m t
  weaken P n m t le w room = let (u, after, soon, p) = w (omega (arith, le, room)) in (u, after, omega (arith, soon, le), p)

  -- what follows from it at its time comes within as many steps
  pub map : (P Q : ℕ → Type 0) (n t : ℕ) → ((u : ℕ) → t ≤ u → u ≤ a.last → P u → Q u) → W P n t → W Q n t
  map P Q n t follows w room = let (u, after, soon, p) = w room in (u, after, soon, follows u after (omega (arith, soon, room)) p)

  -- one thing within so many steps, and from there on another
  pub bind : (P Q : ℕ → Type 0) (n m t : ℕ) → W P n t → ((u : ℕ) → t ≤ u → u ≤ a.last → P u → W Q m u) → W Q (n + m) t
  bind P Q n m t first then room =
      let (u, after, soon, p) = first (omega (arith, room)) in
      let (v, later, sooner, q) = then u after (omega (arith, soon, room)) p (omega (arith, soon, room)) in
      (v, omega (arith, after, later), omega (arith, soon, sooner), q)

  -- a step that takes off as much as it costs
  pub pays : (Q : ℕ → Type 0) (n m t : ℕ) → suc n + weight (suc t) ≤ m + weight t → (t < a.last → W Q n (suc t)) → W Q m t
  pays Q n m t cost then room =
      let (u, after, soon, q) = then (omega (arith, cost, room)) (omega (arith, cost, room)) in (u, omega (arith, after), omega (arith, soon, cost), q)

  -- Within a budget, in which the weight now is already counted.
  abbrev pub Comes : (ℕ → Type 0) → ℕ → ℕ → Type 0
  Comes Q budget t = t + budget ≤ a.last → (u : ℕ) × (t ≤ u) × (u + weight u ≤ t + budget) × Q u

  pub at_once : (Q : ℕ → Type 0) (budget t : ℕ) → weight t ≤ budget → Q t → Comes Q budget t
  at_once Q budget t enough q room = (t, omega arith, omega (arith, enough), q)

  pub comes_map : (P Q : ℕ → Type 0) (budget t : ℕ) → ((u : ℕ) → t ≤ u → u ≤ a.last → P u → Q u) → Comes P budget t → Comes Q budget t
  comes_map P Q budget t follows comes room = let (u, after, soon, p) = comes room in (u, after, soon, follows u after (omega (arith, soon, room)) p)

  pub within : (Q : ℕ → Type 0) (n t : ℕ) → Comes Q (n + weight t) t → W Q n t
  within Q n t comes room = let (u, after, soon, q) = comes (omega (arith, room)) in (u, after, omega (arith, soon), q)

  -- a still step adds no weight
  pub lighter_still : IsStillWeight a weight → (t : ℕ) (g : Option ℕ) (l : Line) (s : Stands a t g l) → t < a.last → IsStill (line_action (a.states t) s.operation l) →
      weight (suc t) ≤ weight t
  lighter_still light t g l s more still =
      light t s.since more s.operation s.runs (subst (λ x. IsStill (line_action (a.states t) s.operation x)) (sym s.line) still)

  -- nor a quiet one
  pub lighter : IsWeight a weight → (t : ℕ) (g : Option ℕ) (l : Line) (s : Stands a t g l) → t < a.last → IsQuiet (line_action (a.states t) s.operation l) → weight (suc t) ≤ weight t
  lighter heavy t g l s more quiet =
      heavy t s.since more s.operation s.runs (subst (λ x. IsQuiet (line_action (a.states t) s.operation x)) (sym s.line) quiet)

  -- a still step
  pub one_still :
      IsStillWeight a weight → (Q : ℕ → Type 0) (n t : ℕ) (g : Option ℕ) (l : Line) (s : Stands a t g l) → IsStill (line_action (a.states t) s.operation l) → (t < a.last → W Q n (suc t)) →
      W Q (n + 1) t
  one_still light Q n t g l s still then room =
      let less = lighter_still light t g l s (omega (arith, room)) still in
      pays Q n (n + 1) t (omega (arith, less)) then room

  -- a quiet step
  pub one :
      IsWeight a weight → (Q : ℕ → Type 0) (n t : ℕ) (g : Option ℕ) (l : Line) (s : Stands a t g l) → IsQuiet (line_action (a.states t) s.operation l) → (t < a.last → W Q n (suc t)) → W Q (n + 1) t
  one heavy Q n t g l s quiet then room =
      let light = lighter heavy t g l s (omega (arith, room)) quiet in
      pays Q n (n + 1) t (omega (arith, light)) then room

  -- a quiet step, with what it leaves
  pub step_on :
      Stepping a → IsWeight a weight → (Q : ℕ → Type 0) (n t : ℕ) (g : Option ℕ) (l : Line) (s : Stands a t g l) → IsNoEnd l → IsQuiet (line_action (a.states t) s.operation l) →
      (t < a.last → Stands a (suc t) (generation_from (a.states t) s.operation l) (line_after (a.states t) s.operation l) → Keeps a t (suc t) → W Q n (suc t)) → W Q (n + 1) t
  step_on steps heavy Q n t g l s more quiet then =
      one heavy Q n t g l s quiet (λ soon. then soon (steps.next t g l s soon more) (steps.keeps t g l s soon more quiet))

  -- the operation that was to end never does
  pub ended : Stepping a → (P : ℕ → Type 0) (t : ℕ) (g : Option ℕ) (answer : Reply) → Stands a t g (line.End answer) → W P 1 t
  ended steps P t g answer s room = absurd (steps.ends t g answer s (omega (arith, room)))
