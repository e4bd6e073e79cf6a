-- ROOT, where one actor alone takes steps: it gives the root that stands in the handle's word, with no offer.
use Rattle.std.proofs.Common.{◌≡◌, ℕ, suc, ◌+◌, ◌*◌, cond, Option, Some, nat_eq, refl, ap, ◌∙◌, arith}
use Rattle.std.specs.Option.{option_eq}
use Rattle.proof_obstruction_free.specs.Vocabulary.{Ref, generation_at, Line, Operation, After, Gives, Climb, Complete, RootLine, Plain, handle_of, climbing, climbed, climb_after_root, after_root}
use Rattle.proof_obstruction_free.specs.Vocabulary.{given_root, is_start, State, word_at, root_after, after_root_word}
use Rattle.proof_obstruction_free.specs.Beneath.machine_model.specs.declared.lines.Line.TheVariants as line
use Rattle.proof_obstruction_free.specs.Beneath.machine_model.specs.declared.reading.After.TheVariants.{Goes}
use Rattle.proof_obstruction_free.specs.Beneath.machine_model.specs.declared.repairs.ClimbLine.TheVariants as climb
use Rattle.proof_obstruction_free.specs.Beneath.machine_model.specs.declared.roots.RootLine.TheVariants as root
use Rattle.proof_obstruction_free.specs.Beneath.machine_model.specs.Operations.{from_root}
use Rattle.proof_obstruction_free.specs.Alone.{Lone, Stands, IsPlain, IsStillWeight, Within, generation}
use Rattle.proof_obstruction_free.specs.Machines.{IsRooted, IsRootedSo, RootsPlain, RootsFirst, RootsOn, ClimbRootsPlain, ClimbRootsOn, ReadsFirst, ReadsOn, climbed_or_on}
use Rattle.proof_obstruction_free.specs.Stepping.{Stepping}
use Rattle.proof_obstruction_free.proofs.Root.Lines.{HoldsRoot, led}
use Rattle.proof_obstruction_free.proofs.Root.Plain.{AtPlain, plain_first, plain_on_from}
use Rattle.proof_obstruction_free.proofs.Swap.Found.{root_generation}
use Rattle.proof_obstruction_free.proofs.Swap.Lines.{climbing_so, climbed_so}
use Rattle.proof_obstruction_free.proofs.Step.Within.{here, weaken, map, bind, one_still, same_stays, keeps_on, stays_on}
use Rattle.proof_obstruction_free.proofs.Ends.StandsAt.{stands_as}

-- ---- the lines that hold a ROOT

-- what a ROOT's step comes to, by the call and the kind of the handle
same_after : (own : Operation) (state : State) (operation : Operation) (l : RootLine) → operation.call ≡ own.call → operation.access ≡ own.access →
    root_after state.heap operation.access (word_at state (handle_of operation.call)) l ≡ root_after state.heap own.access (word_at state (handle_of own.call)) l
same_after own state operation l call access =
    ap (λ x. root_after state.heap x (word_at state (handle_of operation.call)) l) access ∙ ap (λ x. root_after state.heap own.access (word_at state (handle_of x)) l) call

-- while it completes it gives no root
completing_goes : (state : State) (operation : Operation) (c : Complete) → (g : Option ℕ) →
    given_root state (root_after state.heap operation.access (word_at state (handle_of operation.call)) (root.Completing c)) g ≡ g
completing_goes state operation c g = grind arith

pub first_holds : (own : Operation) → HoldsRoot own (λ l. line.Root l) (λ state operation r. from_root operation.call r)
first_holds own = record {
  reads = λ l. refl;
  acts = λ state operation l. refl;
  goes = λ state operation l call access.
      ap (after_root operation) (same_after own state operation l call access) ∙ by operation (root_after state.heap own.access (word_at state (handle_of own.call)) l);
  stays = λ state operation c. completing_goes state operation c operation.generation;
  finds_offer = λ state operation d e. ap (λ x. given_root state (after_root_word x) operation.generation) e;
  no_own = λ l. refl;
}
  where
    by : (operation : Operation) (out : After RootLine Ref) → after_root operation out ≡ led (λ l. line.Root l) (λ r. from_root operation.call r) out
    by operation (Goes l) = refl
    by operation (Gives r) = refl

-- in CLIMB
abbrev climbs_on : Climb → State → Operation → Ref → Line
climbs_on x state operation r = cond (is_start operation (generation_at state.heap r)) (climbing operation x) (climbed operation x.former)

pub climb_holds : (own : Operation) (x : Climb) → HoldsRoot own (λ l. line.Climb (climb.Root x l)) (climbs_on x)
climb_holds own x = record {
  reads = λ l. refl;
  acts = λ state operation l. refl;
  goes = λ state operation l call access.
      ap (climb_after_root state operation x) (same_after own state operation l call access) ∙ by state operation (root_after state.heap own.access (word_at state (handle_of own.call)) l);
  stays = λ state operation c. refl;
  finds_offer = λ state operation d e. refl;
  no_own = λ l. refl;
}
  where
    by : (state : State) (operation : Operation) (out : After RootLine Ref) → climb_after_root state operation x out ≡ led (λ l. line.Climb (climb.Root x l)) (climbs_on x state operation) out
    by state operation (Goes l) = refl
    by state operation (Gives r) = refl

module _ (a : Lone) (steps : Stepping a) (weight : ℕ → ℕ) (heavy : IsStillWeight a weight) (c : ℕ) where
  -- ---- the step that reads a root with no offer

  pub roots_plain : RootsPlain a weight c
  roots_plain t g r s plain = one_still a weight heavy (λ u. IsRooted a weight c t u × IsPlain a u r) 0 t g (line.Root root.Read) s tt (λ h.
      let same = steps.words t g (line.Root root.Read) s h tt tt in
      let told = root_generation a t g (line.Root root.Read) s refl r plain in
      let it : word_at (a.states t) (handle_of s.operation.call) ≡ Plain r = ap (λ x. word_at (a.states t) (handle_of x)) s.call ∙ plain in
      here a weight (λ u. IsRooted a weight c t u × IsPlain a u r) (suc t) (
        record {
          root = r;
          plain = same ∙ plain;
          stands = stands_as a (suc t) _ _ _ _ (ap (λ x. given_root (a.states t) (after_root_word x) s.operation.generation) it ∙ ap (λ x. Some x) told)
              (ap (λ x. after_root s.operation (after_root_word x)) it ∙ ap (λ x. from_root x r) s.call)
              (steps.next t g (line.Root root.Read) s h tt);
          keeps = steps.keeps t g (line.Root root.Read) s h tt tt;
          word = same_stays a t (suc t) same;
        },
        same ∙ plain,
      ))

  climb_line : (x : Climb) (t : ℕ) (g : Option ℕ) (s : Stands a t g (line.Climb (climb.Root x root.Read))) (r : Ref) → generation_at (a.states t).heap r ≡ generation a r →
      climbs_on x (a.states t) s.operation r ≡ climbed_or_on a weight c g x (generation a r)
  climb_line x t g s r told =
      ap (λ y. cond (is_start s.operation y) (climbing s.operation x) (climbed s.operation x.former)) told
      ∙ ap (λ y. cond (option_eq nat_eq y (Some (generation a r))) (climbing s.operation x) (climbed s.operation x.former)) s.generation
      ∙ ap (λ y. cond (option_eq nat_eq g (Some (generation a r))) y (climbed s.operation x.former)) (climbing_so s.operation a.own s.call x)
      ∙ ap (λ y. cond (option_eq nat_eq g (Some (generation a r))) (climbing a.own x) y) (climbed_so s.operation a.own s.call x.former)

  pub climb_roots_plain : ClimbRootsPlain a weight c
  climb_roots_plain x t g r s plain = one_still a weight heavy (λ u. IsRootedSo a weight c t g x u × IsPlain a u r) 0 t g l s tt (λ h.
      let same = steps.words t g l s h tt tt in
      let told = root_generation a t g l s refl r plain in
      let it : word_at (a.states t) (handle_of s.operation.call) ≡ Plain r = ap (λ x. word_at (a.states t) (handle_of x)) s.call ∙ plain in
      here a weight (λ u. IsRootedSo a weight c t g x u × IsPlain a u r) (suc t) (
        record {
          root = r;
          plain = same ∙ plain;
          stands = stands_as a (suc t) _ _ _ _ s.generation (ap (λ y. climb_after_root (a.states t) s.operation x (after_root_word y)) it ∙ climb_line x t g s r told) (steps.next t g l s h tt);
          keeps = steps.keeps t g l s h tt tt;
          word = same_stays a t (suc t) same;
        },
        same ∙ plain,
      ))
    where
      l : Line
      l = line.Climb (climb.Root x root.Read)

  -- ---- from each line

  module _ (reads_first : ReadsFirst a weight c) (reads_on : ReadsOn a weight c) where
    abbrev Ready : (wrap : RootLine → Line) (gives : State → Operation → Ref → Line) → HoldsRoot a.own wrap gives → Option ℕ → ℕ → ℕ → Type 0
    Ready wrap gives holds g t u = AtPlain a steps weight heavy c reads_first reads_on wrap gives holds g t u

    -- the last step, once no offer stands
    rooted : (t u : ℕ) (g : Option ℕ) → Ready (λ l. line.Root l) (λ state operation r. from_root operation.call r) (first_holds a.own) g t u → Within a weight (IsRooted a weight c t) 1 u
    rooted t u g q = map a weight (λ v. IsRooted a weight c u v × IsPlain a v q.at) (IsRooted a weight c t) 1 u (λ v after inside x. record {
      root = x.0.root;
      plain = x.0.plain;
      stands = x.0.stands;
      keeps = keeps_on a t u v q.keeps x.0.keeps;
      word = stays_on a t u v q.word x.0.word;
    }) (roots_plain u g q.at q.stands q.plain)

    pub roots_first : RootsFirst a weight c
    roots_first t g s =
        weaken a weight (IsRooted a weight c t) (c + 2 + 1) (c + 3) t (omega arith)
        (bind a weight (Ready (λ l. line.Root l) (λ state operation r. from_root operation.call r) (first_holds a.own) g t) (IsRooted a weight c t) (c + 2) 1 t
        (plain_first a steps weight heavy c reads_first reads_on (λ l. line.Root l) (λ state operation r. from_root operation.call r) (first_holds a.own) g t s)
        (λ u after inside q. rooted t u g q))

    pub roots_on : RootsOn a weight c
    roots_on t g l s =
        weaken a weight (IsRooted a weight c t) (2 * c + 9 + 1) (2 * c + 10) t (omega arith)
        (bind a weight (Ready (λ l. line.Root l) (λ state operation r. from_root operation.call r) (first_holds a.own) g t) (IsRooted a weight c t) (2 * c + 9) 1 t
        (plain_on_from a steps weight heavy c reads_first reads_on (λ l. line.Root l) (λ state operation r. from_root operation.call r) (first_holds a.own) g t l s)
        (λ u after inside q. rooted t u g q))

    pub climb_roots_on : ClimbRootsOn a weight c
    climb_roots_on x t g l s =
        weaken a weight (IsRootedSo a weight c t g x) (2 * c + 9 + 1) (2 * c + 10) t (omega arith)
        (bind a weight (Ready (λ y. line.Climb (climb.Root x y)) (climbs_on x) (climb_holds a.own x) g t) (IsRootedSo a weight c t g x) (2 * c + 9) 1 t
        (plain_on_from a steps weight heavy c reads_first reads_on (λ y. line.Climb (climb.Root x y)) (climbs_on x) (climb_holds a.own x) g t l s)
        (λ u after inside q. map a weight (λ v. IsRootedSo a weight c u g x v × IsPlain a v q.at) (IsRootedSo a weight c t g x) 1 u (λ v later within y. record {
          root = y.0.root;
          plain = y.0.plain;
          stands = y.0.stands;
          keeps = keeps_on a t u v q.keeps y.0.keeps;
          word = stays_on a t u v q.word y.0.word;
        }) (climb_roots_plain x u g q.at q.stands q.plain)))
