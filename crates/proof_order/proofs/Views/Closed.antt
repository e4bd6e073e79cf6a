-- When a generation was closed.
use Rattle.std.proofs.Common.{◌≡◌, ℕ, zero, suc, ◌<◌, ◌≤◌, Option, Some, None, refl, sym, ap, ◌∙◌, arith}
use Rattle.std.proofs.lemmas.Option.{none-some, same_Some}
use Rattle.proof_order.specs.Vocabulary.{KeyMap, Bounds, State, IsRun, closed_at, first_record}
use Rattle.proof_generations.proofs.Offers.Swaps.{closed_in, closed_new}
use Rattle.proof_generations.proofs.Falling.Opened.{closed_until}
use Rattle.proof_order.specs.Facts.{Facts}
use Rattle.proof_order.proofs.Views.Steps.{Kind, plain, updates, answers, closes, swaps, ClosesNone, kind_at}

none_at_first : (limits : Bounds) (generation c : ℕ) → closed_at (first_record limits) generation ≡ Some c → ⊥
none_at_first limits generation c e = none-some c e

module _ {limits : Bounds} {states : ℕ → State} {last : ℕ} (r : IsRun limits states last) where
  -- the same generation is closed once
  closed_once : (t u generation c d : ℕ) → t ≤ last → u ≤ last → closed_at (r.records t) generation ≡ Some c → closed_at (r.records u) generation ≡ Some d → c ≡ d
  closed_once t u generation c d le within e f =
      same_Some c d (sym (closed_until r t last le (omega arith) generation c e) ∙ closed_until r u last within (omega arith) generation d f)

module _ {limits : Bounds} {states : ℕ → State} {last : ℕ} (r : IsRun limits states last) (V : ℕ → ℕ → KeyMap) (facts : Facts limits states r.records last V) where
  -- the step that closed it lies before, and it wasn't closed then
  abbrev pub ClosedFrom : ℕ → ℕ → ℕ → Type 0
  ClosedFrom u generation c = (c < u) × (closed_at (r.records c) generation ≡ None) × (closed_at (r.records (suc c)) generation ≡ Some c)

  closes_none : (u generation c : ℕ) → ClosesNone limits states r.records last V u → closed_at (r.records (suc u)) generation ≡ Some c → closed_at (r.records u) generation ≡ Some c
  closes_none u generation c same e = ap (λ l. closed_in l generation) (sym same) ∙ e

  -- who isn't closed before a step and is closed after it is closed by it
  closed_by_kind : (u generation c : ℕ) → u < last → Kind limits states r.records last V u → closed_at (r.records u) generation ≡ None → closed_at (r.records (suc u)) generation ≡ Some c → c ≡ u
  closed_by_kind u generation c lt (plain places closings kept still) none e = absurd (none-some c (sym none ∙ closes_none u generation c closings e))
  closed_by_kind u generation c lt (updates entered update places closings kept) none e = absurd (none-some c (sym none ∙ closes_none u generation c closings e))
  closed_by_kind u generation c lt (answers k operation answer runs places unplaced agrees replied closings kept still) none e = absurd (none-some c (sym none ∙ closes_none u generation c closings e))
  closed_by_kind u generation c lt (closes handle stood places recalls more at gone others closings still) none e = absurd (none-some c (sym none ∙ closes_none u generation c closings e))
  closed_by_kind u generation c lt (swaps handle offer swap places closings roots heap still) none e =
      sym ((closed_new (r.records u).closings _ generation c none (ap (λ l. closed_in l generation) (sym closings) ∙ e)).1)

  from_by : (u generation c : ℕ) → suc u ≤ last → closed_at (r.records (suc u)) generation ≡ Some c → ((d : ℕ) → closed_at (r.records u) generation ≡ Some d → ClosedFrom u generation d) →
      (before : Option ℕ) → closed_at (r.records u) generation ≡ before → ClosedFrom (suc u) generation c
  from_by u generation c le e rest (Some d) was =
      let same = closed_once r u (suc u) generation d c (omega arith) le was e in
      let (lt, none, some) = rest c (was ∙ ap Some same) in
      (omega arith, none, some)
  from_by u generation c le e rest None was =
      let same : c ≡ u = closed_by_kind u generation c le (kind_at r V facts u le) was e in
      (omega arith, ap (λ n. closed_at (r.records n) generation) same ∙ was, ap (λ n. closed_at (r.records (suc n)) generation) same ∙ e)

  pub closed_from : (u generation c : ℕ) → u ≤ last → closed_at (r.records u) generation ≡ Some c → ClosedFrom u generation c
  closed_from zero generation c le e = absurd (none_at_first limits generation c (ap (λ past. closed_at past generation) (sym r.nothing_recorded) ∙ e))
  closed_from (suc u) generation c le e = from_by u generation c le e (λ d was. closed_from u generation d (omega (arith, le)) was) (closed_at (r.records u) generation) refl
