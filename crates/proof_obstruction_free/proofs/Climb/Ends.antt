-- CLIMB ends where one actor alone takes steps: each level is climbed once.
use Rattle.std.proofs.Common.{◌≡◌, ℕ, zero, suc, ◌+◌, ◌-◌, ◌*◌, ◌≤◌, Bool, true, false, nat_eq, length, Option, Some, if◌then◌else◌, refl, sym, ap, ◌∙◌, ltb-true, arith}
use Rattle.std.specs.Option.{option_eq}
use Rattle.std.proofs.lemmas.List.{length-take-le}
use Rattle.proof_obstruction_free.specs.Vocabulary.{Ref, Line, Climb, Plain, climbing, climbed, higher, swapped, swapping, current, above, is_below_root, reading}
use Rattle.proof_obstruction_free.specs.Beneath.machine_model.specs.declared.lines.Line.TheVariants as line
use Rattle.proof_obstruction_free.specs.Beneath.machine_model.specs.declared.lines.Purpose.TheVariants as purpose
use Rattle.proof_obstruction_free.specs.Beneath.machine_model.specs.declared.repairs.ClimbLine.TheVariants as climb
use Rattle.proof_obstruction_free.specs.Beneath.machine_model.specs.declared.roots.RootLine.TheVariants as root
use Rattle.proof_obstruction_free.specs.Beneath.proof_commits.proofs.Lines.Read.{licensed_so}
use Rattle.proof_obstruction_free.specs.Alone.{Lone, Stands, Has, IsPlain, Within, IsWeight, generation, node}
use Rattle.proof_obstruction_free.specs.Machines.{Machines, IsRead, IsSwapped, IsRootedSo}
use Rattle.proof_obstruction_free.specs.Stepping.{Stepping}
use Rattle.proof_obstruction_free.proofs.Step.Within.{weaken, bind}
use Rattle.proof_obstruction_free.proofs.Climb.Lines.{climb_read, climb_gives, climb_holds_read, climb_main_on, climb_made_on, climb_swapped, ended_soon}

pub same_root : (r q : Ref) → Plain r ≡ Plain q → r ≡ q
same_root r q e = cc e

-- one level higher
pub higher_shorter : (x : Climb) (single : Ref) (n : ℕ) → length x.path ≤ suc n → length (higher x single).path ≤ n
higher_shorter x single n short = omega (arith, short, length-take-le (length x.path - 1) x.path (omega arith))

module _ (a : Lone) (weight : ℕ → ℕ) (c : ℕ) (heavy : IsWeight a weight) (steps : Stepping a) (machines : Machines a weight c) where
  abbrev W : (ℕ → Type 0) → ℕ → ℕ → Type 0
  W = Within a weight

  abbrev Nothing : ℕ → Type 0
  Nothing u = ⊥

  -- the SWAP failed though the replaced node stood there, so the handle's root is another: it ends
  given_up :
      (x : Climb) (g : Option ℕ) (t : ℕ) (r : Ref) → IsPlain a t r → (g ≡ Some (generation a r) → ⊥) → Stands a t g (line.Climb (climb.Root x root.Read)) → W Nothing 2 t
  given_up x g t r plain other s =
      bind a weight (λ u. IsRootedSo a weight c t g x u × IsPlain a u r) Nothing 1 1 t (machines.climb_roots_plain x t g r s plain)
      (λ u later within rooted. by_test u rooted.0 rooted.1 (option_eq nat_eq g (Some (generation a rooted.0.root))) refl rooted.0.stands)
    where
      by_test : (u : ℕ) (rooted : IsRootedSo a weight c t g x u) → IsPlain a u r → (b : Bool) → option_eq nat_eq g (Some (generation a rooted.root)) ≡ b →
          Stands a u g (if b then climbing a.own x else climbed a.own x.former) → W Nothing 1 u
      by_test u rooted now true is next =
          absurd (other (licensed_so g (generation a rooted.root) is ∙ ap (λ q. Some (generation a q)) (same_root rooted.root r (sym rooted.plain ∙ now))))
      by_test u rooted now false is next = ended_soon a weight heavy steps Nothing 1 u g x.former a.own (omega arith) next

  -- one level
  climb_level :
      (x : Climb) (g : Option ℕ) (n : ℕ) → 2 ≤ n → ((single : Ref) (u : ℕ) → Stands a u g (climbing a.own (higher x single)) → W Nothing n u) →
      (t : ℕ) → Stands a t g (line.Climb (climb.Read x (reading (current (above x.path))))) → W Nothing (c + (n + 12)) t
  climb_level x g n some up t s =
      weaken a weight Nothing (c + (10 + n + 1 + 1)) (c + (n + 12)) t (omega arith)
      (bind a weight (IsRead a weight c t g (climb_gives x) i) Nothing c (10 + n + 1 + 1) t (machines.reads_first (climb_read x i) (climb_gives x) i (climb_holds_read a.own x i) t g s)
      (λ u later within found. from_main u found.main found.stands found.has))
    where
      i : Ref
      i = current (above x.path)

      after_it : Ref → Bool → Line
      after_it made done = swapped a.own (node a made) (purpose.Climb x) done

      -- by whether the SWAP succeeded
      by_done : (u v : ℕ) (main made : Ref) → Has a u i main → (swapped : IsSwapped a weight c u g (purpose.Climb x) i main made v) → (done : Bool) → swapped.done ≡ done →
          Stands a v g (after_it made done) → W Nothing n v
      by_done u v main made has swapped true is next = climb_swapped a weight heavy steps Nothing n v g x (node a made) (omega (arith, some)) next (λ single higher_. up single v higher_)
      by_done u v main made has swapped false is next =
          let (r, plain, other) = swapped.so.if_not is has in
          weaken a weight Nothing 2 n v some (given_up x g v r plain other next)

      from_swap : (u : ℕ) (main made : Ref) → Stands a u g (line.Swap (purpose.Climb x) (swapping i main made)) → Has a u i main → W Nothing (10 + n) u
      from_swap u main made next has =
          bind a weight (IsSwapped a weight c u g (purpose.Climb x) i main made) Nothing 10 n u (machines.swaps_first (purpose.Climb x) i main made u g next)
          (λ v later within swapped. by_done u v main made has swapped swapped.done refl swapped.stands)

      from_main : (u : ℕ) (main : Ref) → Stands a u g (climb_gives x main) → Has a u i main → W Nothing (10 + n + 1 + 1) u
      from_main u main now has =
          climb_main_on a weight heavy steps Nothing (10 + n + 1) u g x main (omega arith) now
          (λ single next. weaken a weight Nothing n (10 + n + 1) (suc u) (omega arith) (up single (suc u) next))
          (λ next keeps. climb_made_on a weight heavy steps Nothing (10 + n) (suc u) g x main (omega arith) next
          (λ made follows still. from_swap (suc (suc u)) main made follows (still i main (keeps i main has))))

  -- all levels
  pub climbs : (n : ℕ) (x : Climb) → length x.path ≤ n → (t : ℕ) (g : Option ℕ) → Stands a t g (climbing a.own x) → W Nothing (n * (c + 12) + 3) t
  climbs zero x short t g s = by_test (is_below_root x.path) refl s
    where
      by_test : (b : Bool) → is_below_root x.path ≡ b → Stands a t g (if b then line.Climb (climb.Read x (reading (current (above x.path)))) else climbed a.own x.former) →
          W Nothing (zero * (c + 12) + 3) t
      by_test true long s = absurd (omega (arith, short, ltb-true 1 (length x.path) long))
      by_test false top s = ended_soon a weight heavy steps Nothing (zero * (c + 12) + 3) t g x.former a.own (omega arith) s
  climbs (suc n) x short t g s = by_test (λ single u. climbs n (higher x single) (higher_shorter x single n short) u g) (is_below_root x.path) s
    where
      by_test : ((single : Ref) (u : ℕ) → Stands a u g (climbing a.own (higher x single)) → W Nothing (n * (c + 12) + 3) u) →
          (b : Bool) → Stands a t g (if b then line.Climb (climb.Read x (reading (current (above x.path)))) else climbed a.own x.former) → W Nothing (suc n * (c + 12) + 3) t
      by_test up true s = weaken a weight Nothing (c + (n * (c + 12) + 3 + 12)) (suc n * (c + 12) + 3) t (omega arith) (climb_level x g (n * (c + 12) + 3) (omega arith) up t s)
      by_test up false s = ended_soon a weight heavy steps Nothing (suc n * (c + 12) + 3) t g x.former a.own (omega arith) s
