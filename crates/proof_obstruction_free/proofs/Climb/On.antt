-- CLIMB ends from any of its lines, its SWAP's too: the level under way may have to be climbed once more.
use Rattle.std.proofs.Common.{◌≡◌, ℕ, suc, ◌+◌, ◌*◌, ◌≤◌, Bool, true, false, nat_eq, length, Option, Some, if◌then◌else◌, refl, sym, subst, ◌∙◌, arith}
use Rattle.std.specs.Option.{option_eq}
use Rattle.proof_obstruction_free.specs.Vocabulary.{Ref, Line, Read, Swap, SwapLine, Climb, RootLine, climbing, climbed, higher, swapped, current, above, swapping, way_of}
use Rattle.proof_obstruction_free.specs.Beneath.machine_model.specs.declared.lines.Line.TheVariants as line
use Rattle.proof_obstruction_free.specs.Beneath.machine_model.specs.declared.lines.Purpose.TheVariants as purpose
use Rattle.proof_obstruction_free.specs.Beneath.machine_model.specs.declared.reading.SwapLine.TheVariants as swap
use Rattle.proof_obstruction_free.specs.Beneath.machine_model.specs.declared.repairs.ClimbLine.TheVariants as climb
use Rattle.proof_obstruction_free.specs.Beneath.machine_model.specs.declared.roots.RootLine.TheVariants as root
use Rattle.proof_obstruction_free.specs.Beneath.proof_shape.proofs.Sites.At.{ways_have_sites}
use Rattle.proof_obstruction_free.specs.Alone.{Lone, Stands, Within, IsWeight, node, generation}
use Rattle.proof_obstruction_free.specs.Keys.{ClimbsOn}
use Rattle.proof_obstruction_free.specs.Machines.{Machines, WasRead, IsSwapped, WasSwapped, IsRootedSo}
use Rattle.proof_obstruction_free.specs.Stale.{ClimbSwapsOn}
use Rattle.proof_obstruction_free.specs.Stepping.{Stepping}
use Rattle.proof_obstruction_free.proofs.Step.Within.{weaken, bind}
use Rattle.proof_obstruction_free.proofs.Climb.Lines.{climb_read, climb_gives, climb_holds_read, climb_main_on, climb_made_on, climb_swapped, ended_soon}
use Rattle.proof_obstruction_free.proofs.Climb.Ends.{climbs, higher_shorter}

-- all levels of a path
abbrev pub levels : ℕ → ℕ
levels c = 14 * (c + 12) + 3

-- the path of an operation's line has 14 indirections at most
pub short_way : (a : Lone) (t : ℕ) (g : Option ℕ) (l : Line) → Stands a t g l → length (way_of l) ≤ 14
short_way a t g l s = subst (λ x. length (way_of x) ≤ 14) s.line (ways_have_sites a.steps a.run a.takes a.fit t s.until a.actor s.operation s.runs).0

module _ (a : Lone) (weight : ℕ → ℕ) (c : ℕ) (heavy : IsWeight a weight) (steps : Stepping a) (machines : Machines a weight c) where
  abbrev W : (ℕ → Type 0) → ℕ → ℕ → Type 0
  W = Within a weight

  abbrev Nothing : ℕ → Type 0
  Nothing u = ⊥

  -- ---- from each line; the path is short

  module _ (x : Climb) (short : length x.path ≤ 14) (g : Option ℕ) where
    from_climbing : (t : ℕ) → Stands a t g (climbing a.own x) → W Nothing (levels c) t
    from_climbing t s = climbs a weight c heavy steps machines 14 x short t g s

    from_higher : (single : Ref) (t : ℕ) → Stands a t g (climbing a.own (higher x single)) → W Nothing (levels c) t
    from_higher single t s = climbs a weight c heavy steps machines 14 (higher x single) (higher_shorter x single 14 (omega (arith, short))) t g s

    from_root : (t : ℕ) (l : RootLine) → Stands a t g (line.Climb (climb.Root x l)) → W Nothing (2 * c + 10 + levels c) t
    from_root t l s =
        bind a weight (IsRootedSo a weight c t g x) Nothing (2 * c + 10) (levels c) t (machines.climb_roots_on x t g l s)
        (λ u later within rooted. by_test u (option_eq nat_eq g (Some (generation a rooted.root))) rooted.stands)
      where
        by_test : (u : ℕ) (b : Bool) → Stands a u g (if b then climbing a.own x else climbed a.own x.former) → W Nothing (levels c) u
        by_test u true next = from_climbing u next
        by_test u false next = ended_soon a weight heavy steps Nothing (levels c) u g x.former a.own (omega arith) next

    from_swapped : (t : ℕ) (fresh : Ref) (done : Bool) → Stands a t g (swapped a.own (node a fresh) (purpose.Climb x) done) → W Nothing (2 * c + 10 + levels c) t
    from_swapped t fresh true s =
        climb_swapped a weight heavy steps Nothing (2 * c + 10 + levels c) t g x (node a fresh) (omega arith) s
        (λ single next. weaken a weight Nothing (levels c) (2 * c + 10 + levels c) t (omega arith) (from_higher single t next))
    from_swapped t fresh false s = from_root t root.Read s

    from_swap : (t : ℕ) (i main made : Ref) → Stands a t g (line.Swap (purpose.Climb x) (swapping i main made)) → W Nothing (10 + (2 * c + 10 + levels c)) t
    from_swap t i main made s =
        bind a weight (IsSwapped a weight c t g (purpose.Climb x) i main made) Nothing 10 (2 * c + 10 + levels c) t (machines.swaps_first (purpose.Climb x) i main made t g s)
        (λ u later within done. from_swapped u made done.done done.stands)

    from_swap_on : (t : ℕ) (w : Swap) → Stands a t g (line.Swap (purpose.Climb x) w) → (w.line ≡ swap.Publish → ⊥) → W Nothing (c + 7 + (2 * c + 10 + levels c)) t
    from_swap_on t w s on =
        bind a weight (WasSwapped a weight c t g (purpose.Climb x) w.fresh) Nothing (c + 7) (2 * c + 10 + levels c) t (machines.swaps_on (purpose.Climb x) w t g s on)
        (λ u later within done. from_swapped u w.fresh done.done done.stands)

    from_contracted : (t : ℕ) (main : Ref) → Stands a t g (line.Climb (climb.Contracted x main)) → W Nothing (10 + (2 * c + 10 + levels c) + 1) t
    from_contracted t main s =
        climb_made_on a weight heavy steps Nothing (10 + (2 * c + 10 + levels c)) t g x main (omega arith) s
        (λ made next keeps. from_swap (suc t) (current (above x.path)) main made next)

    from_main : (t : ℕ) (main : Ref) → Stands a t g (line.Climb (climb.Main x main)) → W Nothing (10 + (2 * c + 10 + levels c) + 1 + 1) t
    from_main t main s =
        climb_main_on a weight heavy steps Nothing (10 + (2 * c + 10 + levels c) + 1) t g x main (omega arith) s
        (λ single next. weaken a weight Nothing (levels c) (10 + (2 * c + 10 + levels c) + 1) (suc t) (omega arith) (from_higher single (suc t) next))
        (λ next keeps. from_contracted (suc t) main next)

    from_read : (t : ℕ) (r : Read) → Stands a t g (line.Climb (climb.Read x r)) → W Nothing (c + 6 + (10 + (2 * c + 10 + levels c) + 1 + 1)) t
    from_read t r s =
        bind a weight (WasRead a weight c t g (climb_gives x)) Nothing (c + 6) (10 + (2 * c + 10 + levels c) + 1 + 1) t
        (machines.reads_on (climb_read x r.indirection) (climb_gives x) r.indirection (climb_holds_read a.own x r.indirection) t g r.line s)
        (λ u later within found. from_main u found.main found.stands)

  pub climbs_on : ClimbsOn a weight c
  climbs_on (climb.Read x r) t g s =
      weaken a weight Nothing (c + 6 + (10 + (2 * c + 10 + levels c) + 1 + 1)) (14 * (c + 12) + 3 * c + 40) t (omega arith) (from_read x (short_way a t g (line.Climb (climb.Read x r)) s) g t r s)
  climbs_on (climb.Main x main) t g s =
      weaken a weight Nothing (10 + (2 * c + 10 + levels c) + 1 + 1) (14 * (c + 12) + 3 * c + 40) t (omega arith) (from_main x (short_way a t g (line.Climb (climb.Main x main)) s) g t main s)
  climbs_on (climb.Contracted x main) t g s =
      weaken a weight Nothing (10 + (2 * c + 10 + levels c) + 1) (14 * (c + 12) + 3 * c + 40) t (omega arith)
      (from_contracted x (short_way a t g (line.Climb (climb.Contracted x main)) s) g t main s)
  climbs_on (climb.Root x l) t g s =
      weaken a weight Nothing (2 * c + 10 + levels c) (14 * (c + 12) + 3 * c + 40) t (omega arith) (from_root x (short_way a t g (line.Climb (climb.Root x l)) s) g t l s)

  -- from its SWAP
  pub climb_swaps_on : ClimbSwapsOn a weight c
  climb_swaps_on x w t g s = by_line w.line refl
    where
      short : length x.path ≤ 14
      short = short_way a t g (line.Swap (purpose.Climb x) w) s

      on : (w.line ≡ swap.Publish → ⊥) → W Nothing (14 * (c + 12) + 3 * c + 40) t
      on other = weaken a weight Nothing (c + 7 + (2 * c + 10 + levels c)) (14 * (c + 12) + 3 * c + 40) t (omega arith) (from_swap_on x short g t w s other)

      by_line : (l : SwapLine) → w.line ≡ l → W Nothing (14 * (c + 12) + 3 * c + 40) t
      by_line swap.Publish e =
          weaken a weight Nothing (10 + (2 * c + 10 + levels c)) (14 * (c + 12) + 3 * c + 40) t (omega arith)
          (from_swap x short g t w.indirection w.replaced w.fresh (subst (λ l. Stands a t g (line.Swap (purpose.Climb x) (record w { line = l }))) e s))
      by_line (swap.Deciding l) e = on (λ is. let bad : swap.Deciding l ≡ swap.Publish = sym e ∙ is in cc)
      by_line swap.Check e = on (λ is. let bad : swap.Check ≡ swap.Publish = sym e ∙ is in cc)
