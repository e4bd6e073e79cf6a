-- How it is put together that something comes while so many nodes are made at most by an actor that is alone.
use Rattle.std.proofs.Common.{◌≡◌, ℕ, zero, suc, ◌+◌, ◌-◌, ◌<◌, ◌≤◌, ◌⊎◌, false, inl, inr, option_map, Some, Option, refl, ap, ◌∙◌, arith}
use Rattle.std.proofs.lemmas.Bool.{cases_lt}
use Rattle.proof_obstruction_free.specs.Vocabulary.{Reply, Action, Line, action_of, kind_of, line_action}
use Rattle.proof_obstruction_free.specs.Beneath.machine_model.specs.declared.actions.Action.TheVariants as act
use Rattle.proof_obstruction_free.specs.Beneath.machine_model.specs.declared.lines.Line.TheVariants as line
use Rattle.proof_obstruction_free.specs.Alone.{Lone, Stands, IsStill, Within, word}
use Rattle.proof_obstruction_free.specs.Slots.{is_make, makes_next}
use Rattle.proof_obstruction_free.specs.Stepping.{Stepping}
use Rattle.proof_obstruction_free.specs.Weighing.{Acts}
use Rattle.proof_obstruction_free.proofs.Weights.Offers.{flat, weighs_at_most}
use Rattle.proof_obstruction_free.specs.Beneath.slot_arena.proofs.Times.{bit}
use Rattle.proof_obstruction_free.specs.Beneath.epochs.proofs.InUse.{bit_small}

-- how many nodes the actor makes before step t
unfoldable pub made : Lone → ℕ → ℕ
made a zero = 0
made a (suc t) = made a t + bit (makes_next (a.states t) a.actor)

-- the action makes no node
abbrev pub MakesNone : Action → Type 0
MakesNone (act.Make node) = ⊥
MakesNone (act.MakeRoot main) = ⊥
MakesNone action = Unit {0}

none_kind : (action : Action) → MakesNone action → is_make (Some (kind_of action)) ≡ false
none_kind (act.Make node) none = absurd none
none_kind (act.MakeRoot main) none = absurd none
none_kind action none = refl

-- no still one does
pub still_none : (action : Action) → IsStill action → MakesNone action
still_none (act.Make node) still = still
still_none (act.MakeRoot main) still = still
still_none action still = tt

-- where READ, SWAP and ROOT tell nothing so shortly before the run is over, they need as many steps at most
abbrev pub slack : ℕ
slack = 11

module _ (a : Lone) where
  -- ---- nodes that are made

  pub made_next : (t : ℕ) → made a (suc t) ≡ made a t + bit (makes_next (a.states t) a.actor)
  unfolding made
  made_next t = refl

  pub made_one : (t : ℕ) → made a (suc t) ≤ made a t + 1
  made_one t = omega (arith, made_next t, bit_small (makes_next (a.states t) a.actor))

  pub made_no_less : (t n : ℕ) → made a t ≤ made a (t + n)
  made_no_less t zero = let same : t + 0 ≡ t = omega arith in omega (arith, ap (made a) same)
  made_no_less t (suc n) =
      let next : t + suc n ≡ suc (t + n) = omega arith in omega (arith, ap (made a) next, made_next (t + n), made_no_less t n)

  pub made_steps : (t n : ℕ) → made a (t + n) ≤ made a t + n
  made_steps t zero = let same : t + 0 ≡ t = omega arith in omega (arith, ap (made a) same)
  made_steps t (suc n) =
      let next : t + suc n ≡ suc (t + n) = omega arith in omega (arith, ap (made a) next, made_one (t + n), made_steps t n)

  pub made_until : (t u n : ℕ) → t ≤ u → u ≤ t + n → made a u ≤ made a t + n
  made_until t u n after soon =
      let place : t + (u - t) ≡ u = omega (arith, after) in omega (arith, ap (made a) place, made_steps t (u - t), after, soon)

  pub made_after : (t u : ℕ) → t ≤ u → made a t ≤ made a u
  made_after t u after = let place : t + (u - t) ≡ u = omega (arith, after) in omega (arith, ap (made a) place, made_no_less t (u - t))

  -- a step that makes none
  pub acts_none : (t : ℕ) (action : Action) → Acts a t action → MakesNone action → made a (suc t) ≡ made a t
  acts_none t action x none =
      let seen : makes_next (a.states t) a.actor ≡ is_make (Some (kind_of (action_of (a.states t) x.operation))) = ap (λ o. is_make (option_map (λ y. kind_of (action_of (a.states t) y)) o)) x.runs in
      let same = seen ∙ ap (λ y. is_make (Some (kind_of y))) x.is ∙ none_kind action none in
      omega (arith, made_next t, ap bit same)

  pub made_still : (t : ℕ) (g : Option ℕ) (l : Line) (s : Stands a t g l) → t < a.last → IsStill (line_action (a.states t) s.operation l) → made a (suc t) ≡ made a t
  made_still t g l s more still =
      acts_none t (line_action (a.states t) s.operation l) (record { since = s.since; more = more; operation = s.operation; runs = s.runs; is = ap (line_action (a.states t) s.operation) s.line })
      (still_none (line_action (a.states t) s.operation l) still)

  -- ---- while few are made

  -- From step t on, such a time comes, or the run is over shortly after one; until then no more than n nodes are made.
  pub record Few (P : ℕ → Type 0) (n t : ℕ) : Type 0 where
    pub at : ℕ
    pub from : t ≤ at
    pub until : at ≤ a.last
    pub few : made a at ≤ made a t + n
    pub so : P at ⊎ (a.last ≤ at + slack)

  -- it holds now
  pub here : (P : ℕ → Type 0) (n t : ℕ) → t ≤ a.last → P t → Few P n t
  here P n t within p = record { at = t; from = omega arith; until = within; few = omega arith; so = inl p }

  -- the run is over
  pub over : (P : ℕ → Type 0) (n t : ℕ) → t ≤ a.last → a.last ≤ t + slack → Few P n t
  over P n t within soon = record { at = t; from = omega arith; until = within; few = omega arith; so = inr soon }

  pub weaken : (P : ℕ → Type 0) (n m t : ℕ) → n ≤ m → Few P n t → Few P m t
  weaken P n m t le x = record { at = x.at; from = x.from; until = x.until; few = omega (arith, x.few, le); so = x.so }

  -- what follows from it at its time comes too
  pub map : (P Q : ℕ → Type 0) (n t : ℕ) → ((u : ℕ) → t ≤ u → u ≤ a.last → P u → Q u) → Few P n t → Few Q n t
  map P Q n t follows x = record { at = x.at; from = x.from; until = x.until; few = x.few; so = by x.so }
    where
      by : P x.at ⊎ (a.last ≤ x.at + slack) → Q x.at ⊎ (a.last ≤ x.at + slack)
      by (inl p) = inl (follows x.at x.from x.until p)
      by (inr soon) = inr soon

  -- one thing, and from there on another
  pub bind : (P Q : ℕ → Type 0) (n m t : ℕ) → Few P n t → ((u : ℕ) → t ≤ u → u ≤ a.last → P u → Few Q m u) → Few Q (n + m) t
  bind P Q n m t x then = by x.so
    where
      by : P x.at ⊎ (a.last ≤ x.at + slack) → Few Q (n + m) t
      by (inl p) =
          let y = then x.at x.from x.until p in
          record { at = y.at; from = omega (arith, x.from, y.from); until = y.until; few = omega (arith, x.few, y.few); so = y.so }
      by (inr soon) = record { at = x.at; from = x.from; until = x.until; few = omega (arith, x.few); so = inr soon }

  -- the first with no node made
  pub after_none : (P Q : ℕ → Type 0) (n t : ℕ) → Few P 0 t → ((u : ℕ) → t ≤ u → u ≤ a.last → P u → Few Q n u) → Few Q n t
  after_none P Q n t x next = weaken Q (0 + n) n t (omega arith) (bind P Q 0 n t x next)

  -- a step, where there is one
  step : (Q : ℕ → Type 0) (n m t : ℕ) → t ≤ a.last → (t < a.last → made a (suc t) + n ≤ made a t + m) → (t < a.last → Few Q n (suc t)) → Few Q m t
  step Q n m t within cost then = by (cases_lt t a.last)
    where
      by : (t < a.last) ⊎ (a.last ≤ t) → Few Q m t
      by (inl more) =
          let x = then more in
          let paid = cost more in
          record { at = x.at; from = omega (arith, x.from); until = x.until; few = omega (arith, x.few, paid); so = x.so }
      by (inr last) = over Q m t within (omega (arith, last))

  -- one that makes none
  pub one : (Q : ℕ → Type 0) (n t : ℕ) (g : Option ℕ) (l : Line) (s : Stands a t g l) → IsStill (line_action (a.states t) s.operation l) → (t < a.last → Few Q n (suc t)) → Few Q n t
  one Q n t g l s still then = step Q n n t s.until (λ more. let same = made_still t g l s more still in omega (arith, same)) then

  -- any
  pub one_made : (Q : ℕ → Type 0) (n t : ℕ) → t ≤ a.last → (t < a.last → Few Q n (suc t)) → Few Q (n + 1) t
  one_made Q n t within then = step Q n (n + 1) t within (λ more. omega (arith, made_one t)) then

  -- the operation that was to end never does
  pub ended : Stepping a → (P : ℕ → Type 0) (n t : ℕ) (g : Option ℕ) (answer : Reply) → Stands a t g (line.End answer) → Few P n t
  ended steps P n t g answer s = by (cases_lt t a.last)
    where
      by : (t < a.last) ⊎ (a.last ≤ t) → Few P n t
      by (inl more) = absurd (steps.ends t g answer s more)
      by (inr last) = over P n t s.until (omega (arith, last))

  -- no more nodes are made than steps are taken; an offer costs two
  pub of_within : (P : ℕ → Type 0) (n t : ℕ) → t ≤ a.last → Within a (flat a) P n t → Few P (n + 2) t
  of_within P n t within w = by (cases_lt a.last (t + (n + 2)))
    where
      by : (a.last < t + (n + 2)) ⊎ (t + (n + 2) ≤ a.last) → Few P (n + 2) t
      by (inl short) = record { at = a.last; from = within; until = omega arith; few = made_until t a.last (n + 2) within (omega (arith, short)); so = inr (omega arith) }
      by (inr room) =
          let light = weighs_at_most (word a t) in
          let (u, after, soon, p) = w (omega (arith, room, light)) in
          record { at = u; from = after; until = omega (arith, soon, room, light); few = made_until t u (n + 2) after (omega (arith, soon, light)); so = inl p }

  -- what never comes leaves few nodes to be made
  pub all_made : (n t : ℕ) → Few (λ u. ⊥) n t → made a a.last ≤ made a t + (n + slack)
  all_made n t x = by x.so
    where
      by : ⊥ ⊎ (a.last ≤ x.at + slack) → made a a.last ≤ made a t + (n + slack)
      by (inl bad) = absurd bad
      by (inr soon) = let rest = made_until x.at a.last slack x.until soon in omega (arith, rest, x.few)
