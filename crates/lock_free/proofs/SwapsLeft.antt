-- A SWAP that is under way goes on, and comes to its last step.
use Rattle.std.proofs.Common.{◌≡◌, ℕ, Bool, [], refl, sym, ap, subst, ◌∙◌}
use Rattle.machine_model.specs.Beneath.slot_arena.specs.declared.refs.Ref.{Ref}
use Rattle.machine_model.specs.Beneath.slot_arena.specs.Heaps.{node_at}
use Rattle.machine_model.specs.declared.lines.Purpose.{Purpose}
use Rattle.machine_model.specs.declared.lines.Line.{Line}
use Rattle.machine_model.specs.declared.lines.Line.TheVariants as line
use Rattle.machine_model.specs.declared.reading.After.TheVariants.{Goes}
use Rattle.machine_model.specs.declared.reading.ReadLine.{ReadLine}
use Rattle.machine_model.specs.declared.reading.SwapLine.TheVariants as swap
use Rattle.machine_model.specs.declared.operations.Operation.{Operation}
use Rattle.proof_memory.specs.Wants.{is_main_node}
use Rattle.proof_memory.proofs.Claims.Uses.{meets_of}
use Rattle.lock_free.specs.declared.leaving.Swapping.{Swapping}
use Rattle.lock_free.specs.declared.limbo.Limbo.{Limbo}
use Rattle.lock_free.specs.declared.reading.Given.{Given}
use Rattle.lock_free.specs.declared.reading.Passed.TheVariants as passed
use Rattle.lock_free.specs.declared.reading.ReadFrom.{ReadFrom}
use Rattle.lock_free.specs.declared.reclaiming.Decided.{Decided}
use Rattle.lock_free.specs.declared.rules.View.{View}
use Rattle.lock_free.specs.Leaving.{HasDecidedSwap, HasEndedSwap, HasSwappedOn, IsAtCheck, IsCheckOf, IsSwapLeft, IsSwapOf}
use Rattle.lock_free.specs.Dropping.{AreDropped}
use Rattle.lock_free.specs.Limbos.{hanging_of, IsLimbo}
use Rattle.lock_free.specs.Loading.{now, Runs, IsSound}
use Rattle.lock_free.specs.OfReads.{on_given, on_read, read_to}
use Rattle.lock_free.specs.Passing.{HasCome, Later, IsReading, IsPassing, HasPassed, HasGiven}
use Rattle.lock_free.specs.Swaps.{is_done, swap_on, swap_done, swapped_by}
use Rattle.lock_free.proofs.Comings.{runs_one}
use Rattle.lock_free.proofs.Followings.{follows_later, main_node_on}
use Rattle.lock_free.proofs.GivenBack.{node_is}
use Rattle.lock_free.proofs.Laters.{placed_later}
use Rattle.lock_free.proofs.Leavings.{come_on_runs}
use Rattle.lock_free.proofs.LimboStays.{limbo_stays}
use Rattle.lock_free.proofs.NamesStay.{swap_dropped, swap_live}
use Rattle.lock_free.proofs.NewNodes.{class_on}
use Rattle.lock_free.proofs.OnePass.{from_reading, from_then, line_from}
use Rattle.lock_free.proofs.Retirings.{retiring_after}
use Rattle.lock_free.proofs.SwapRuns.{same_call}

-- whoever knows what it is reads on
pub its_passing : (v : View) (s : Swapping) (left : IsSwapLeft v s) → IsPassing v s.indirection s.from
its_passing v s left = (left.i, left.its.placed, left.its.from)

module _ (v : View) (s : Swapping) (left : IsSwapLeft v s) where
  abbrev why : Purpose
  why = left.why

  abbrev i : Ref
  i = left.i

  abbrev a : Ref
  a = left.replaced

  abbrev f : Ref
  f = left.made

  abbrev p : Operation
  p = left.its.operation

  abbrev on_line : ReadLine → Line
  on_line x = line.Swap why (record { indirection = i; replaced = a; fresh = f; line = swap.Deciding x })

  first : (x : ReadLine) × IsReading v i x
  first = from_reading v i s.from left.its.from

  -- it is one SWAP
  parts_in : Line → Purpose × Ref × Ref × Ref
  parts_in (line.Swap y z) = (y, z.indirection, z.replaced, z.fresh)
  parts_in l = (why, i, a, f)

  same_parts : (y : Purpose) (j b c : Ref) → IsSwapOf v y j b c s → ◌≡◌ {A = Purpose × Ref × Ref × Ref} (why, i, a, f) (y, j, b, c)
  unfolding parts_in
  same_parts y j b c other = ap parts_in (sym left.its.line_is ∙ ap (λ (z : Operation). z.line) (runs_one v p other.operation left.its.runs other.runs) ∙ other.line_is)

  abbrev all : (P : Purpose → Ref → Ref → Ref → Type 0) → P why i a f → (y : Purpose) (j b c : Ref) → IsSwapOf v y j b c s → P y j b c
  all P h y j b c other = subst (λ (z : Purpose × Ref × Ref × Ref). P z.0 z.1 z.2 z.3) (same_parts y j b c other) h

  line_of : (o : Operation) → Runs v o → o.line ≡ on_line left.its.at
  line_of o r = ap (λ (z : Operation). z.line) (runs_one v o p r left.its.runs) ∙ left.its.line_is

  none_of : (o : Operation) → Runs v o → o.private ≡ []
  none_of o r = ap (λ (z : Operation). z.private) (runs_one v o p r left.its.runs) ∙ left.its.none

  -- what it drops is so still
  drops_on : (n : ℕ) → IsSound n v → (w : View) → Later v w → AreDropped w a f s.drops
  drops_on n sound w later =
      swap_dropped v w (follows_later v w later) sound.bounds (record p { is_marked = left.its.runs.0 }) left.its.runs.1 why
      (record { indirection = i; replaced = a; fresh = f; line = swap.Deciding left.its.at }) left.its.line_is s.drops left.its.drops

  -- it is out of tries again
  module _ (n : ℕ) (sound : IsSound n v) (place : ReadFrom) (w : View) (h : HasPassed v (passed.Again place) w) where
    come : (y : ReadLine) × HasCome (Goes y) v w
    come = line_from v w i place (h i first.0 first.1)

    abbrev next : Swapping
    next = record { indirection = s.indirection; from = place; fresh = s.fresh; replaced = s.replaced; class = s.class; drops = s.drops }

    still : IsSwapOf w why i a f next
    still = record {
      operation = read_to (Goes come.0) p;
      runs = come.1.comes p left.its.runs;
      none = left.its.none;
      at = come.0;
      line_is = ap (λ l. on_read l come.0) left.its.line_is;
      placed = placed_later v w come.1.later i s.indirection left.its.placed;
      fresh = placed_later v w come.1.later f s.fresh left.its.fresh;
      from = from_then v w i first.0 place first.1 (h i first.0 first.1);
      old = placed_later v w come.1.later a s.replaced.slot left.its.old;
      owns = come.1.later.owns i a s.replaced.own left.its.owns;
      class = class_on v w (follows_later v w come.1.later) a left.its.old.0 ∙ left.its.class;
      drops = drops_on n sound w come.1.later;
    }

    pub swapped_on : HasSwappedOn v s (record { indirection = s.indirection; from = place; fresh = s.fresh; replaced = s.replaced; class = s.class; drops = s.drops }) w
    swapped_on = record {
      on = come_on_runs v i first.0 come.0 first.1 w come.1;
      pool = ap (λ (x : View). x.pool) come.1.later.is;
      retired = ap (λ (x : View). x.retired) come.1.later.is;
      still = all (λ y j b c. IsSwapOf w y j b c next) still;
    }

    pub on_hangs : (limbo : Limbo) → IsLimbo limbo v → IsLimbo limbo w
    on_hangs limbo is = limbo_stays limbo v w (ap hanging_of come.1.later.is) is

  -- ---- its READ has come to its end

  module _ (n : ℕ) (sound : IsSound n v) (x : View) (given : Given) (h : HasPassed v (passed.Gives given) x) where
    its_given : HasGiven v i given x
    its_given = h i first.0 first.1

    goes_x : (o : Operation) → Runs v o → Runs x (swap_on why i a f swap.Check o)
    goes_x o r =
        let l = line.Swap why (record { indirection = i; replaced = a; fresh = f; line = swap.Check }) in
        subst (λ ps. Runs x (record o { private = ps; line = l })) (none_of o r)
        (subst (λ z. Runs x (record o { line = on_given o.call z its_given.main })) (line_of o r) (its_given.come.comes o r))

    abbrev later_x : Later v x
    later_x = its_given.come.later

    check_of : IsCheckOf x why i a f s
    check_of = record {
      operation = swap_on why i a f swap.Check p;
      runs = goes_x p left.its.runs;
      none = refl;
      line_is = refl;
      fresh = placed_later v x later_x f s.fresh left.its.fresh;
      old = placed_later v x later_x a s.replaced.slot left.its.old;
      owns = later_x.owns i a s.replaced.own left.its.owns;
      class = class_on v x (follows_later v x later_x) a left.its.old.0 ∙ left.its.class;
      drops = drops_on n sound x later_x;
    }

    pub at_check : IsAtCheck x s
    at_check = record { why = why; i = i; replaced = a; made = f; its = check_of }

    pub at_hangs : (limbo : Limbo) → IsLimbo limbo v → IsLimbo limbo x
    at_hangs limbo is = limbo_stays limbo v x (ap hanging_of later_x.is) is

    pub at_sizes : x.sizes ≡ v.sizes
    at_sizes = ap (λ (z : View). z.sizes) later_x.is

    -- the fresh node is what it was
    fresh_same : node_at (now x).heap f ≡ node_at (now v).heap f
    fresh_same =
        let lives = swap_live v.sizes v.account sound.bounds v.actor (record p { is_marked = left.its.runs.0 }) left.its.runs.1 why
        (record { indirection = i; replaced = a; fresh = f; line = swap.Deciding left.its.at }) left.its.line_is in
        let used = left.its.fresh.0 in
        main_node_on v x (follows_later v x later_x) f used.0 used.1 (ap is_main_node (sym (node_is (now v) f used.0 used.1)) ∙ meets_of lives.1.1.0)

    -- and then its last step is taken
    module _ (result : Decided) (y : View) (ended : HasEndedSwap x s result y) where
      abbrev done : Bool
      done = is_done (swapped_by result)

      comes : (o : Operation) → Runs v o → Runs y (swap_done why (node_at (now v).heap f) done o)
      comes o r =
          let l = line.Swap why (record { indirection = i; replaced = a; fresh = f; line = swap.Check }) in
          subst (λ node. Runs y (swap_done why node done o)) fresh_same
          (subst (λ k. Runs y (record o { private = []; line = k })) (same_call why i a f why (node_at (now x).heap f) done o [] l o.is_marked)
          (ended.comes why i a f check_of (swap_on why i a f swap.Check o) (goes_x o r)))

      pub decides : HasDecidedSwap v s result y
      decides = record {
        later = retiring_after v x y later_x ended.later;
        which = ended.which;
        comes = all (λ t j b c. (o : Operation) → Runs v o → Runs y (swap_done t (node_at (now v).heap c) done o)) comes;
      }
