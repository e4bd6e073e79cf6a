-- CLIMB makes one node a level, where one actor alone takes steps.
use Rattle.std.proofs.Common.{◌≡◌, ℕ, zero, suc, ◌+◌, ◌≤◌, Bool, true, false, nat_eq, length, List, Option, Some, None, if◌then◌else◌, refl, sym, ap, ◌∙◌, ltb-true, arith}
use Rattle.std.specs.Option.{option_eq}
use Rattle.proof_obstruction_free.specs.Vocabulary.{Ref, Node, Indirection, Branch, Single, Tomb, List as Listed, next_ref, node_at, Operation, Climb, changed_reply, climb_after_contracted}
use Rattle.proof_obstruction_free.specs.Vocabulary.{climb_after_main, climbed, climbing, higher, holds_it, after_update, climbed_on, swapped, current, above, is_below_root, reading, swapping}
use Rattle.proof_obstruction_free.specs.Beneath.machine_model.specs.declared.lines.Line.TheVariants as line
use Rattle.proof_obstruction_free.specs.Beneath.machine_model.specs.declared.lines.Purpose.TheVariants as purpose
use Rattle.proof_obstruction_free.specs.Beneath.machine_model.specs.declared.repairs.ClimbLine.TheVariants as climb
use Rattle.proof_obstruction_free.specs.Beneath.machine_model.specs.declared.roots.RootLine.TheVariants as root
use Rattle.proof_obstruction_free.specs.Beneath.proof_commits.proofs.Lines.Read.{licensed_so}
use Rattle.proof_obstruction_free.specs.Alone.{Lone, Stands, Has, IsPlain, Keeps, generation, node}
use Rattle.proof_obstruction_free.specs.Machines.{IsRead, IsRootedSo, IsSwapped}
use Rattle.proof_obstruction_free.specs.Stepping.{Stepping}
use Rattle.proof_obstruction_free.proofs.Climb.Ends.{higher_shorter, same_root}
use Rattle.proof_obstruction_free.proofs.Climb.Lines.{climb_gives, climb_holds_read, climb_read, climbing_own}
use Rattle.proof_obstruction_free.proofs.Ends.StandsAt.{never}
use Rattle.proof_obstruction_free.proofs.Making.Few.{Few, ended, one, one_made, after_none, weaken}
use Rattle.proof_obstruction_free.proofs.Making.Machines.{climb_roots_plain, reads, swaps}
use Rattle.proof_obstruction_free.proofs.Renew.Calm.{calm_step, step_on}
use Rattle.proof_obstruction_free.proofs.Weights.Offers.{flat}

module _ (a : Lone) (steps : Stepping a) where
  abbrev Never : ℕ → Type 0
  Never u = ⊥

  ended_soon : (n t : ℕ) (g : Option ℕ) (former : Option ℕ) (operation : Operation) → Stands a t g (climbed operation former) → Few a Never n t
  ended_soon n t g former operation s = ended a steps Never n t g (changed_reply operation.call former) s

  -- ---- the lines

  main_made : (n t : ℕ) (g : Option ℕ) (x : Climb) (main : Ref) → Stands a t g (line.Climb (climb.Main x main)) →
      ((single : Ref) → Stands a (suc t) g (climbing a.own (higher x single)) → Few a Never n (suc t)) →
      (Stands a (suc t) g (line.Climb (climb.Contracted x main)) → Keeps a t (suc t) → Few a Never n (suc t)) → Few a Never n t
  main_made n t g x main s up holds = one a Never n t g (line.Climb (climb.Main x main)) s tt (λ more.
      by_node (calm_step a steps t g (line.Climb (climb.Main x main)) s more tt tt tt).keeps (node_at (a.states t).heap main) (step_on a steps t g (line.Climb (climb.Main x main)) s more tt refl))
    where
      by_test : Keeps a t (suc t) → (b : Bool) → Stands a (suc t) g (if b then line.Climb (climb.Contracted x main) else climbed s.operation x.former) → Few a Never n (suc t)
      by_test keeps true next = holds next keeps
      by_test keeps false next = ended_soon n (suc t) g x.former s.operation next

      by_node : Keeps a t (suc t) → (n' : Node) → Stands a (suc t) g (climb_after_main (a.states t) s.operation x main n') → Few a Never n (suc t)
      by_node keeps (Tomb single) next = up single (climbing_own a (suc t) g s.operation (higher x single) s.call next)
      by_node keeps (Branch bitmap entries) next = by_test keeps (holds_it (a.states t) s.operation x main bitmap entries.items) next
      by_node keeps (Indirection h m) next = absurd (never a (suc t) g next)
      by_node keeps (Single k v) next = absurd (never a (suc t) g next)
      by_node keeps (Listed singles) next = absurd (never a (suc t) g next)

  contracted_made : (n t : ℕ) (g : Option ℕ) (x : Climb) (main : Ref) → Stands a t g (line.Climb (climb.Contracted x main)) →
      ((made : Ref) → Stands a (suc t) g (line.Swap (purpose.Climb x) (swapping (current (above x.path)) main made)) → Keeps a t (suc t) → Few a Never n (suc t)) → Few a Never (n + 1) t
  contracted_made n t g x main s follows = one_made a Never n t s.until (λ more.
      by_made (calm_step a steps t g (line.Climb (climb.Contracted x main)) s more tt tt tt).keeps (next_ref (a.states t).heap)
      (step_on a steps t g (line.Climb (climb.Contracted x main)) s more tt refl))
    where
      by_made : Keeps a t (suc t) → (o : Option Ref) → Stands a (suc t) g (climb_after_contracted s.operation x main o) → Few a Never n (suc t)
      by_made keeps None next = ended_soon n (suc t) g x.former s.operation next
      by_made keeps (Some made) next = follows made next keeps

  -- ---- a level

  -- the SWAP failed though the replaced node stood there, so the handle's root is another: it ends
  given_up : (x : Climb) (g : Option ℕ) (n t : ℕ) (r : Ref) → IsPlain a t r → (g ≡ Some (generation a r) → ⊥) → Stands a t g (line.Climb (climb.Root x root.Read)) → Few a Never n t
  given_up x g n t r plain other s =
      after_none a (λ u. IsRootedSo a (flat a) 7 t g x u × IsPlain a u r) Never n t (climb_roots_plain a x t g r s plain)
      (λ u later within rooted. by_test u rooted.0 rooted.1 (option_eq nat_eq g (Some (generation a rooted.0.root))) refl rooted.0.stands)
    where
      by_test : (u : ℕ) (rooted : IsRootedSo a (flat a) 7 t g x u) → IsPlain a u r → (b : Bool) → option_eq nat_eq g (Some (generation a rooted.root)) ≡ b →
          Stands a u g (if b then climbing a.own x else climbed a.own x.former) → Few a Never n u
      by_test u rooted now true is next =
          absurd (other (licensed_so g (generation a rooted.root) is ∙ ap (λ q. Some (generation a q)) (same_root rooted.root r (sym rooted.plain ∙ now))))
      by_test u rooted now false is next = ended_soon n u g x.former a.own next

  climb_level : (x : Climb) (g : Option ℕ) (n : ℕ) → ((single : Ref) (u : ℕ) → Stands a u g (climbing a.own (higher x single)) → Few a Never n u) →
      (t : ℕ) → Stands a t g (line.Climb (climb.Read x (reading (current (above x.path))))) → Few a Never (n + 1) t
  climb_level x g n up t s =
      after_none a (IsRead a (flat a) 7 t g (climb_gives x) i) Never (n + 1) t (reads a (climb_read x i) (climb_gives x) i (climb_holds_read a.own x i) t g s)
      (λ u later within found. from_main u found.main found.stands found.has)
    where
      i : Ref
      i = current (above x.path)

      -- after the SWAP a tomb climbs on
      climbs_on : (v : ℕ) (node : Node) → Stands a v g (climbed_on a.own x node) → Few a Never n v
      climbs_on v (Tomb single) s = up x.single v s
      climbs_on v (Branch bitmap entries) s = ended_soon n v g x.former a.own s
      climbs_on v (Indirection h m) s = ended_soon n v g x.former a.own s
      climbs_on v (Single k value) s = ended_soon n v g x.former a.own s
      climbs_on v (Listed singles) s = ended_soon n v g x.former a.own s

      by_done : (u v : ℕ) (main made : Ref) → Has a u i main → (y : IsSwapped a (flat a) 7 u g (purpose.Climb x) i main made v) → (done : Bool) → y.done ≡ done →
          Stands a v g (swapped a.own (node a made) (purpose.Climb x) done) → Few a Never n v
      by_done u v main made has y true is next = climbs_on v (node a made) next
      by_done u v main made has y false is next = let (r, plain, other) = y.so.if_not is has in given_up x g n v r plain other next

      from_swap : (u : ℕ) (main made : Ref) → Stands a u g (line.Swap (purpose.Climb x) (swapping i main made)) → Has a u i main → Few a Never n u
      from_swap u main made next has =
          after_none a (IsSwapped a (flat a) 7 u g (purpose.Climb x) i main made) Never n u (swaps a (purpose.Climb x) i main made u g next)
          (λ v later within y. by_done u v main made has y y.done refl y.stands)

      from_main : (u : ℕ) (main : Ref) → Stands a u g (climb_gives x main) → Has a u i main → Few a Never (n + 1) u
      from_main u main now has =
          main_made (n + 1) u g x main now (λ single next. weaken a Never n (n + 1) (suc u) (omega arith) (up single (suc u) next))
          (λ next keeps. contracted_made n (suc u) g x main next (λ made follows still. from_swap (suc (suc u)) main made follows (still i main (keeps i main has))))

  -- ---- all levels

  pub climbs_made : (n : ℕ) (x : Climb) → length x.path ≤ n → (t : ℕ) (g : Option ℕ) → Stands a t g (climbing a.own x) → Few a Never n t
  climbs_made zero x short t g s = by_test (is_below_root x.path) refl s
    where
      by_test : (b : Bool) → is_below_root x.path ≡ b → Stands a t g (if b then line.Climb (climb.Read x (reading (current (above x.path)))) else climbed a.own x.former) → Few a Never zero t
      by_test true long s = absurd (omega (arith, short, ltb-true 1 (length x.path) long))
      by_test false top s = ended_soon zero t g x.former a.own s
  climbs_made (suc n) x short t g s = by_test (λ single u. climbs_made n (higher x single) (higher_shorter x single n short) u g) (is_below_root x.path) s
    where
      by_test : ((single : Ref) (u : ℕ) → Stands a u g (climbing a.own (higher x single)) → Few a Never n u) →
          (b : Bool) → Stands a t g (if b then line.Climb (climb.Read x (reading (current (above x.path)))) else climbed a.own x.former) → Few a Never (suc n) t
      by_test up true s = weaken a Never (n + 1) (suc n) t (omega arith) (climb_level x g n up t s)
      by_test up false s = ended_soon (suc n) t g x.former a.own s

  -- after the SWAP of a change of the key
  pub update_made : (path : List Ref) (former : Option ℕ) → length path ≤ 14 → (t : ℕ) (g : Option ℕ) (n : Node) → Stands a t g (after_update a.own path former n) → Few a Never 14 t
  update_made path former short t g (Tomb single) now = climbs_made 14 (record { path = path; single = single; former = former }) short t g now
  update_made path former short t g (Branch bitmap entries) now = ended_soon 14 t g former a.own now
  update_made path former short t g (Indirection h x) now = ended_soon 14 t g former a.own now
  update_made path former short t g (Single k v) now = ended_soon 14 t g former a.own now
  update_made path former short t g (Listed singles) now = ended_soon 14 t g former a.own now
