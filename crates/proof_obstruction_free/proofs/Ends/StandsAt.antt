-- Each time from its start on an operation that is alone stands on a line, and that isn't an end.
use Rattle.std.proofs.Common.{ℕ, ◌<◌, ◌≤◌, Option, refl, arith, subst, ◌≡◌}
use Rattle.proof_obstruction_free.specs.Vocabulary.{Line}
use Rattle.proof_obstruction_free.specs.Beneath.machine_model.specs.declared.lines.Line.TheVariants as line
use Rattle.proof_obstruction_free.specs.Beneath.proof_commits.proofs.Course.Finals.{from_time}
use Rattle.proof_obstruction_free.specs.Beneath.proof_shape.proofs.Runs.RunOf.{never_impossible}
use Rattle.proof_obstruction_free.specs.Alone.{Lone, Stands}
use Rattle.proof_obstruction_free.specs.Stepping.{IsNoEnd}
use Rattle.proof_obstruction_free.proofs.Step.Next.{next, ends_never}

module _ (a : Lone) where
  pub record StandsSome (t : ℕ) : Type 0 where
    pub generation : Option ℕ
    pub line : Line
    pub stands : Stands a t generation line

  -- the same of a line and a generation that are equal
  pub stands_as : (t : ℕ) (g h : Option ℕ) (l m : Line) → g ≡ h → l ≡ m → Stands a t g l → Stands a t h m
  stands_as t g h l m one two s = subst (λ x. Stands a t x m) one (subst (Stands a t g) two s)

  -- it stands on its line at the start
  pub begins : a.start ≤ a.last → Stands a a.start a.own.generation a.own.line
  begins within = record {
    since = omega arith;
    until = within;
    operation = a.own;
    runs = a.begins;
    id = refl;
    call = refl;
    access = refl;
    opens = refl;
    generation = refl;
    line = refl;
  }

  -- no line before the last time is an end
  pub goes_on : (t : ℕ) (g : Option ℕ) (l : Line) → Stands a t g l → t < a.last → IsNoEnd l
  goes_on t g (line.End answer) s more = ends_never a t g answer s more
  goes_on t g l s more = tt

  pub stands_at : (t : ℕ) → a.start ≤ t → t ≤ a.last → StandsSome t
  stands_at t since within =
      from_time StandsSome a.start a.last (record { generation = a.own.generation; line = a.own.line; stands = begins (omega (arith, since, within)) })
      (λ v from more so_far. record {
        generation = _;
        line = _;
        stands = next a v so_far.generation so_far.line so_far.stands more (goes_on v so_far.generation so_far.line so_far.stands more);
      }) t since within

  -- nor is one the line on which nothing is possible
  pub never : (t : ℕ) (g : Option ℕ) → Stands a t g line.Impossible → ⊥
  never t g s = never_impossible a.run t s.until a.actor s.operation s.runs s.line
