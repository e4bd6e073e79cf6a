-- The lines of a SWAP, where one actor alone takes steps: what its first and its last step find and do.
use Rattle.std.proofs.Common.{◌≡◌, ℕ, suc, ◌<◌, ◌==◌, Bool, true, false, cond, Option, None, refl, sym, ap, ◌∙◌, subst, eqb-true}
use Rattle.proof_obstruction_free.specs.Vocabulary.{Ref, Node, Indirection, Branch, Single, Tomb, List as Listed, Prev, node_at, main_at, Line, Purpose, Operation, After, Gives, ReadLine, SwapLine}
use Rattle.proof_obstruction_free.specs.Vocabulary.{Climb, handle_of, changed_reply, climbing, climbed, swapped, is_below_root, current, above, reading, read_after, State, word_at, after_publish}
use Rattle.proof_obstruction_free.specs.Vocabulary.{after_deciding, after_check, on_line, SwapsIn}
use Rattle.proof_obstruction_free.specs.Beneath.slot_arena.specs.declared.nodes.Prev.TheVariants as over
use Rattle.proof_obstruction_free.specs.Beneath.machine_model.specs.declared.lines.Line.TheVariants as line
use Rattle.proof_obstruction_free.specs.Beneath.machine_model.specs.declared.lines.Purpose.TheVariants as purpose
use Rattle.proof_obstruction_free.specs.Beneath.machine_model.specs.declared.reading.After.TheVariants.{Goes}
use Rattle.proof_obstruction_free.specs.Beneath.machine_model.specs.declared.reading.ReadLine.TheVariants as read
use Rattle.proof_obstruction_free.specs.Beneath.machine_model.specs.declared.reading.SwapLine.TheVariants as swap
use Rattle.proof_obstruction_free.specs.Beneath.machine_model.specs.declared.repairs.ClimbLine.TheVariants as climb
use Rattle.proof_obstruction_free.specs.Beneath.machine_model.specs.Operations.{after_swap}
use Rattle.proof_obstruction_free.specs.Beneath.proof_memory.proofs.Claims.Uses.{safe_of, meets_of}
use Rattle.proof_obstruction_free.specs.Beneath.proof_memory.proofs.Claims.Nodes.{main_plain}
use Rattle.proof_obstruction_free.specs.Beneath.proof_memory.proofs.Claims.Named.{third_claim}
use Rattle.proof_obstruction_free.specs.Beneath.proof_commits.specs.Protocol.{Leaves}
use Rattle.proof_obstruction_free.specs.Beneath.proof_commits.proofs.Words.OfRuns.{leaves_words, swaps_words}
use Rattle.proof_obstruction_free.specs.Beneath.proof_commits.proofs.Known.Given.{Either, GrownSwaps, GrownStays}
use Rattle.proof_obstruction_free.specs.Beneath.proof_commits.proofs.Lines.Read.{no_commit}
use Rattle.proof_obstruction_free.specs.Alone.{Lone, Stands, node, word}
use Rattle.proof_obstruction_free.specs.Machines.{HoldsRead, lead}
use Rattle.proof_obstruction_free.specs.Stepping.{Stepping}
use Rattle.proof_obstruction_free.proofs.Swap.Steps.{known, w, facts}
use Rattle.proof_obstruction_free.proofs.Ends.StandsAt.{stands_as}
use Rattle.proof_obstruction_free.proofs.Step.Next.{own_run}

-- ---- what comes after a SWAP is told by the call

pub climbing_so : (x y : Operation) → x.call ≡ y.call → (c : Climb) → climbing x c ≡ climbing y c
climbing_so x y e c = ap (λ z. cond (is_below_root c.path) (line.Climb (climb.Read c (reading (current (above c.path))))) (line.End (changed_reply z c.former))) e

pub climbed_so : (x y : Operation) → x.call ≡ y.call → (former : Option ℕ) → climbed x former ≡ climbed y former
climbed_so x y e former = ap (λ z. line.End (changed_reply z former)) e

pub swapped_so : (x y : Operation) → x.call ≡ y.call → (n : Node) (why : Purpose) (done : Bool) → swapped x n why done ≡ swapped y n why done
swapped_so x y e (Tomb single) (purpose.Update path former) true = climbing_so x y e _
swapped_so x y e (Indirection g m) (purpose.Update path former) true = climbed_so x y e former
swapped_so x y e (Branch b es) (purpose.Update path former) true = climbed_so x y e former
swapped_so x y e (Single k v) (purpose.Update path former) true = climbed_so x y e former
swapped_so x y e (Listed s) (purpose.Update path former) true = climbed_so x y e former
swapped_so x y e n (purpose.Update path former) false = refl
swapped_so x y e n (purpose.Renew path) true = refl
swapped_so x y e n (purpose.Renew path) false = refl
swapped_so x y e n purpose.Clean done = refl
swapped_so x y e (Tomb single) (purpose.Climb c) true = climbing_so x y e _
swapped_so x y e (Indirection g m) (purpose.Climb c) true = climbed_so x y e c.former
swapped_so x y e (Branch b es) (purpose.Climb c) true = climbed_so x y e c.former
swapped_so x y e (Single k v) (purpose.Climb c) true = climbed_so x y e c.former
swapped_so x y e (Listed s) (purpose.Climb c) true = climbed_so x y e c.former
swapped_so x y e n (purpose.Climb c) false = refl

-- the fresh node was found decided
abbrev pub is_decided : Prev → Bool
is_decided over.None = true
is_decided (over.Pending p) = false
is_decided (over.Failed p) = false

check_so : (v : Prev) → after_check v ≡ Gives (is_decided v)
check_so over.None = refl
check_so (over.Pending p) = refl
check_so (over.Failed p) = refl

module _ (a : Lone) (why : Purpose) (i replaced fresh : Ref) where
  -- a line of the SWAP
  abbrev pub swap_line : SwapLine → Line
  swap_line x = line.Swap why (record { indirection = i; replaced = replaced; fresh = fresh; line = x })

  abbrev pub deciding : ReadLine → Line
  deciding l = swap_line (swap.Deciding l)

  abbrev pub checking : Ref → Line
  checking m = swap_line swap.Check

  -- its deciding part is a READ
  pub swap_reads : HoldsRead a.own deciding checking i
  swap_reads = record {
    embedded = record { reads = λ l. refl; acts = λ state operation l. refl };
    goes = λ state operation l call access.
        by state operation l (read_after state.heap operation.access (word_at state (handle_of operation.call)) i l)
        (ap (λ x. read_after state.heap x (word_at state (handle_of operation.call)) i l) access ∙ ap (λ c. read_after state.heap a.own.access (word_at state (handle_of c)) i l) call);
    stays = λ state operation l. refl;
  }
    where
      by : (state : State) (operation : Operation) (l : ReadLine) (out : After ReadLine Ref) → out ≡ read_after state.heap a.own.access (word_at state (handle_of a.own.call)) i l →
          after_swap state operation why (record { indirection = i; replaced = replaced; fresh = fresh; line = swap.Deciding l })
          (on_line (record { indirection = i; replaced = replaced; fresh = fresh; line = swap.Deciding l }) (after_deciding out))
          ≡ lead deciding checking (read_after state.heap a.own.access (word_at state (handle_of a.own.call)) i l)
      by state operation l (Goes x) e = ap (lead deciding checking) e
      by state operation l (Gives m) e = ap (lead deciding checking) e

  module _ (steps : Stepping a) where
    -- the fresh node is what it was made as
    pub fresh_found : (t : ℕ) (g : Option ℕ) (x : SwapLine) → Stands a t g (swap_line x) → node_at (a.states t).heap fresh ≡ node a fresh
    fresh_found t g x s = let claim = third_claim (steps.wants t g (swap_line x) s) in steps.node_found t fresh s.until (safe_of claim) (main_plain _ (meets_of claim))

    -- it ends so
    ends_so : (t : ℕ) (g : Option ℕ) (x : SwapLine) (s : Stands a t g (swap_line x)) (done : Bool) →
        swapped s.operation (node_at (a.states t).heap fresh) why done ≡ swapped a.own (node a fresh) why done
    ends_so t g x s done = ap (λ n. swapped s.operation n why done) (fresh_found t g x s) ∙ swapped_so s.operation a.own s.call (node a fresh) why done

    -- ---- its last line

    pub record Checks (t : ℕ) (g : Option ℕ) (v : Prev) : Type 0 where
      pub stands : Stands a (suc t) g (swapped a.own (node a fresh) why (is_decided v))
      pub leaves : Leaves (w a) t
      pub word : word a (suc t) ≡ word a t

    pub checks : (t : ℕ) (g : Option ℕ) → Stands a t g (swap_line swap.Check) → t < a.last → (v : Prev) → (w a).prev t fresh ≡ v → Checks t g v
    checks t g s h v is =
        let f = facts a t g (swap_line swap.Check) s h tt in
        record {
          stands =
              stands_as a (suc t) _ g _ _ s.generation
              (ap (λ x. after_swap (a.states t) s.operation why (record { indirection = i; replaced = replaced; fresh = fresh; line = swap.Check })
              (on_line (record { indirection = i; replaced = replaced; fresh = fresh; line = swap.Check }) (after_check x))) (f.acts.0.prev ∙ is)
              ∙ ap (λ x. after_swap (a.states t) s.operation why (record { indirection = i; replaced = replaced; fresh = fresh; line = swap.Check })
              (on_line (record { indirection = i; replaced = replaced; fresh = fresh; line = swap.Check }) x)) (check_so v)
              ∙ ends_so t g swap.Check s (is_decided v))
              (steps.next t g (swap_line swap.Check) s h tt);
          leaves = leaves_words a.states (own_run a).records a.last (λ g. None) t f.acts.1 (no_commit a.limits a.states a.last (known a) t h f.commits);
          word = steps.words t g (swap_line swap.Check) s h tt tt;
        }

    -- ---- its first line

    abbrev pub after_first : Bool → Line
    after_first true = deciding (read.Prev fresh)
    after_first false = swapped a.own (node a fresh) why false

    pub record Publishes (t : ℕ) (g : Option ℕ) (b : Bool) : Type 0 where
      pub test : (main_at (a.states t).heap i == replaced) ≡ b
      pub main : main_at (a.states t).heap i ≡ (w a).main t i
      pub link : (w a).link t i ≡ true
      pub stands : Stands a (suc t) g (after_first b)
      pub effect : Either b (SwapsIn (w a) t i replaced fresh) (Leaves (w a) t)
      pub word : word a (suc t) ≡ word a t

    first_goes : (t : ℕ) (g : Option ℕ) (s : Stands a t g (swap_line swap.Publish)) (b : Bool) →
        after_swap (a.states t) s.operation why (record { indirection = i; replaced = replaced; fresh = fresh; line = swap.Publish })
        (on_line (record { indirection = i; replaced = replaced; fresh = fresh; line = swap.Publish }) (after_publish fresh b)) ≡ after_first b
    first_goes t g s true = refl
    first_goes t g s false = ends_so t g swap.Publish s false

    publishes_by : (t : ℕ) (g : Option ℕ) (s : Stands a t g (swap_line swap.Publish)) → t < a.last → (b : Bool) → (main_at (a.states t).heap i == replaced) ≡ b → Publishes t g b
    publishes_by t g s h b test =
        let f = facts a t g (swap_line swap.Publish) s h tt in
        let kept = no_commit a.limits a.states a.last (known a) t h f.commits in
        record {
          test = test;
          main = f.acts.0.main;
          link = f.acts.0.link;
          stands =
              stands_as a (suc t) _ g _ _ s.generation
              (ap (λ x. after_swap (a.states t) s.operation why (record { indirection = i; replaced = replaced; fresh = fresh; line = swap.Publish })
              (on_line (record { indirection = i; replaced = replaced; fresh = fresh; line = swap.Publish }) (after_publish fresh x))) test
              ∙ first_goes t g s b)
              (steps.next t g (swap_line swap.Publish) s h tt);
          effect = by b test (subst (λ x. Either x (GrownSwaps a.states t i replaced fresh) (GrownStays a.states t)) test f.acts.2);
          word = steps.words t g (swap_line swap.Publish) s h tt tt;
        }
      where
        by : (b : Bool) → (main_at (a.states t).heap i == replaced) ≡ b → Either b (GrownSwaps a.states t i replaced fresh) (GrownStays a.states t) →
            Either b (SwapsIn (w a) t i replaced fresh) (Leaves (w a) t)
        by true test e =
            let f = facts a t g (swap_line swap.Publish) s h tt in
            swaps_words a.states (own_run a).records a.last (λ g. None) t i replaced fresh f.acts.0.link f.acts.1.made (sym f.acts.0.main ∙ eqb-true _ replaced test) e
            (no_commit a.limits a.states a.last (known a) t h f.commits)
        by false test e =
            let f = facts a t g (swap_line swap.Publish) s h tt in
            leaves_words a.states (own_run a).records a.last (λ g. None) t e (no_commit a.limits a.states a.last (known a) t h f.commits)

    pub publishes : (t : ℕ) (g : Option ℕ) → Stands a t g (swap_line swap.Publish) → t < a.last → (b : Bool) × Publishes t g b
    publishes t g s h = (main_at (a.states t).heap i == replaced, publishes_by t g s h (main_at (a.states t).heap i == replaced) refl)
