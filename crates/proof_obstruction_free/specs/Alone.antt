-- One actor alone takes steps: what is asked of such a run, and how it is said that something comes within so many steps.
use Rattle.std.specs.Prelude.{◌≡◌, ℕ, suc, ◌+◌, ◌<◌, ◌≤◌, true, Option, Some}
use Rattle.proof_obstruction_free.specs.Vocabulary.{Ref, Node, generation_of, Action, Line, Operation, RootWord, Plain, Offer, Bounds, Step, handle_of, action_of, State, operation_of, word_at}
use Rattle.proof_obstruction_free.specs.Vocabulary.{IsRun, node_under, main_word, prev_word, is_made, TakesSteps, StepsFit}
use Rattle.proof_obstruction_free.specs.Beneath.slot_arena.specs.declared.nodes.Prev.TheVariants as prev
use Rattle.proof_obstruction_free.specs.Beneath.machine_model.specs.declared.actions.Action.TheVariants as act
use Rattle.proof_obstruction_free.specs.Beneath.machine_model.specs.declared.steps.Step.TheVariants as step

-- ---- alone

-- A run in which from step start on one actor alone takes steps, and its operation, which is `own` before that step, never ends. What follows from that
-- of a run that is long enough is absurd: so the operation ends.
pub record Lone : Type 0 where
  pub limits : Bounds
  pub states : ℕ → State
  pub steps : ℕ → Step
  pub last : ℕ
  pub actor : ℕ
  pub start : ℕ
  pub own : Operation
  pub run : IsRun limits states last
  pub takes : TakesSteps states steps last
  pub fit : StepsFit steps last
  pub begins : operation_of (states start) actor ≡ Some own
  pub alone : (t : ℕ) → start ≤ t → t < last → steps t ≡ step.Go actor
  pub runs : (t : ℕ) → start ≤ t → t ≤ last → (operation : Operation) × (operation_of (states t) actor ≡ Some operation)

module _ (a : Lone) where
  -- Before step t the actor's operation stands on this line, and its root's generation is this. What never changes of it is as in `own`.
  pub record Stands (t : ℕ) (g : Option ℕ) (l : Line) : Type 0 where
    pub since : a.start ≤ t
    pub until : t ≤ a.last
    pub operation : Operation
    pub runs : operation_of (a.states t) a.actor ≡ Some operation
    pub id : operation.id ≡ a.own.id
    pub call : operation.call ≡ a.own.call
    pub access : operation.access ≡ a.own.access
    pub opens : operation.opens ≡ a.own.opens
    pub generation : operation.generation ≡ g
    pub line : operation.line ≡ l

  -- ---- words

  -- the node under a reference; the main word in an indirection doesn't count
  abbrev pub node : Ref → Node
  node r = node_under a.states a.last r

  -- the generation of an indirection
  abbrev pub generation : Ref → ℕ
  generation i = generation_of (node i)

  -- the root word of the operation's handle
  abbrev pub word : ℕ → RootWord
  word t = word_at (a.states t) (handle_of a.own.call)

  -- no offer stands there, but this root
  abbrev pub IsPlain : ℕ → Ref → Type 0
  IsPlain t r = word t ≡ Plain r

  -- this root stands there with no offer, and the generation is its
  pub record IsCurrent (t : ℕ) (r : Ref) (g : Option ℕ) : Type 0 where
    pub plain : IsPlain t r
    pub own : g ≡ Some (generation r)

  -- from step t to step u a root that stands there with no offer stays so
  abbrev pub WordStays : ℕ → ℕ → Type 0
  WordStays t u = (r : Ref) → IsPlain t r → IsPlain u r

  -- the main node stands in the indirection's main word, decided
  pub record Has (t : ℕ) (i m : Ref) : Type 0 where
    pub made : is_made a.states t i ≡ true
    pub main : main_word a.states t i ≡ m
    pub decided : prev_word a.states t m ≡ prev.None

  -- from step t to step u each indirection keeps a main node that it has, decided
  abbrev pub Keeps : ℕ → ℕ → Type 0
  Keeps t u = (i m : Ref) → Has t i m → Has u i m

  -- each but one
  abbrev pub KeepsBut : ℕ → ℕ → Ref → Type 0
  KeepsBut t u but = (i m : Ref) → (i ≡ but → ⊥) → Has t i m → Has u i m

  -- ---- within so many steps

  -- From step t on, such a time comes within n steps; one that takes weight off is free by as much.
  abbrev pub Within : (ℕ → ℕ) → (ℕ → Type 0) → ℕ → ℕ → Type 0
  Within weight P n t = t + n + weight t ≤ a.last → (u : ℕ) × (t ≤ u) × (u + weight u ≤ t + n + weight t) × P u

-- an action that neither writes a main word or a prev word nor makes an offer
abbrev pub IsQuiet : Action → Type 0
IsQuiet (act.Offer offer) = ⊥
IsQuiet (act.Publish indirection replaced fresh) = ⊥
IsQuiet (act.Restore indirection main previous) = ⊥
IsQuiet (act.Decide indirection main previous told) = ⊥
IsQuiet action = Unit {0}

-- one that makes no node either
abbrev pub IsStill : Action → Type 0
IsStill (act.Make node) = ⊥
IsStill (act.MakeRoot main) = ⊥
IsStill action = IsQuiet action

-- no still step adds weight
abbrev pub IsStillWeight : Lone → (ℕ → ℕ) → Type 0
IsStillWeight a weight =
    (t : ℕ) → a.start ≤ t → t < a.last → (operation : Operation) → operation_of (a.states t) a.actor ≡ Some operation → IsStill (action_of (a.states t) operation) →
    weight (suc t) ≤ weight t

-- no quiet step adds weight
abbrev pub IsWeight : Lone → (ℕ → ℕ) → Type 0
IsWeight a weight =
    (t : ℕ) → a.start ≤ t → t < a.last → (operation : Operation) → operation_of (a.states t) a.actor ≡ Some operation → IsQuiet (action_of (a.states t) operation) →
    weight (suc t) ≤ weight t

-- an offer in the root word weighs two steps: it may have to be taken back
abbrev pub offer_weight : RootWord → ℕ
offer_weight (Plain r) = 0
offer_weight (Offer offer) = 2
