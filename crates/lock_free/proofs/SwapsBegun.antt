-- A SWAP within a number of tries: its fresh main node is swapped in, and then it comes to its end, or is under way.
use Rattle.std.proofs.Common.{◌≡◌, ℕ, Bool, true, false, inl, inr, [], map, refl, sym, ap, subst, ◌∙◌}
use Rattle.trie_words.specs.declared.links.Link.{Link}
use Rattle.machine_model.specs.Beneath.slot_arena.specs.declared.refs.Ref.{Ref}
use Rattle.machine_model.specs.Beneath.slot_arena.specs.Heaps.{node_at}
use Rattle.machine_model.specs.declared.lines.Line.{Line}
use Rattle.machine_model.specs.declared.lines.Line.TheVariants as line
use Rattle.machine_model.specs.declared.lines.Purpose.{Purpose}
use Rattle.machine_model.specs.declared.operations.Operation.{Operation}
use Rattle.machine_model.specs.declared.reading.ReadLine.TheVariants as read
use Rattle.machine_model.specs.declared.reading.SwapLine.TheVariants as swap
use Rattle.lock_free.specs.declared.leaving.Drops.{Drops}
use Rattle.lock_free.specs.declared.leaving.Swapping.{Swapping}
use Rattle.lock_free.specs.declared.reading.ReadFrom.TheVariants as resume
use Rattle.lock_free.specs.declared.limbo.Limbo.{Limbo}
use Rattle.lock_free.specs.declared.rules.View.{View}
use Rattle.lock_free.specs.declared.reclaiming.Decided.{Decided}
use Rattle.lock_free.specs.declared.reclaiming.Decided.TheVariants as decided
use Rattle.lock_free.specs.Reclaiming.{LaterRetiring}
use Rattle.lock_free.proofs.NamesStay.{swap_dropped}
use Rattle.lock_free.proofs.NewNodes.{class_on}
use Rattle.lock_free.proofs.LimboStays.{limbo_stays}
use Rattle.lock_free.specs.declared.swapping.Swapped.{Swapped}
use Rattle.lock_free.specs.declared.swapping.Swapped.TheVariants.{Commits, Fails, Misses}
use Rattle.lock_free.specs.Becoming.{Follows}
use Rattle.lock_free.specs.SwappingIn.{HasPublished}
use Rattle.lock_free.specs.Dropping.{AreDropped}
use Rattle.lock_free.specs.Leaving.{HasDecidedSwap, HasLeftSwap, HasSwappedOn, IsSwapLeft, IsSwapOf, LeavesSwap}
use Rattle.lock_free.specs.Limbos.{hanging_of, IsLimbo}
use Rattle.lock_free.specs.Loading.{now, seen, Runs, IsSound}
use Rattle.lock_free.specs.Owing.{owes_then, owing}
use Rattle.lock_free.specs.Publishing.{swapped_in}
use Rattle.lock_free.specs.RunningOn.{RunsOn}
use Rattle.lock_free.specs.Stocks.{Stocked, HasSwapped, IsStock, made_of, own_of, settled_pool}
use Rattle.lock_free.specs.Swaps.{is_done, swap_on, swap_done, swapped_by, IsSwapping, IsAtSwap, HasSwapDone, HoldsSwapped, SwapDrops}
use Rattle.lock_free.proofs.Comings.{runs_one}
use Rattle.lock_free.proofs.Followings.{placed_on}
use Rattle.lock_free.proofs.Retirings.{retiring_owing}
use Rattle.lock_free.proofs.RunningOn.{runs_on_both, still_follows}
use Rattle.lock_free.proofs.SwapRuns.{same_call}
use Rattle.lock_free.proofs.SwapsMade.{missed_swapped, missed_owns, hit_swapped, hit_owns}
use Rattle.lock_free.proofs.SwapSteps.{fresh_same, follows_w, goes_w, hit_is, later_there, placed_f, from_ready}

-- what a SWAP is, by its line
abbrev parts_in : Purpose × Ref × Ref × Ref → Line → Purpose × Ref × Ref × Ref
parts_in other (line.Swap y z) = (y, z.indirection, z.replaced, z.fresh)
parts_in other l = other

-- what is said of the one that it is at is said of it
pub told_so : (v : View) (why : Purpose) (i a f : Ref) → IsSwapping v why i a f → (d : Drops) → AreDropped v a f d → SwapDrops v d
told_so v why i a f s d h y j b c other =
    let same = ap (parts_in (why, i, a, f)) (sym s.2 ∙ ap (λ (z : Operation). z.line) (runs_one v s.0 other.0 s.1 other.1) ∙ other.2) in
    subst (λ (z : Purpose × Ref × Ref × Ref). AreDropped v z.2 z.3 d) same h

module _ (n : ℕ) (v : View) (name : ℕ) (link : Link) (class fresh : ℕ) (at : IsAtSwap v name link class fresh) (drops : Drops) (told : SwapDrops v drops) where
  abbrev why : Purpose
  why = at.0

  abbrev i : Ref
  i = at.1

  abbrev a : Ref
  a = at.2

  abbrev f : Ref
  f = at.3

  abbrev swaps : IsSwapping v why i a f
  swaps = at.4

  all : (P : Purpose → Ref → Ref → Ref → Type 0) → P why i a f → (y : Purpose) (j b c : Ref) → IsSwapping v y j b c → P y j b c
  all P h y j b c s =
      let same = ap (parts_in (why, i, a, f)) (sym swaps.2 ∙ ap (λ (z : Operation). z.line) (runs_one v swaps.0 s.0 swaps.1 s.1) ∙ s.2) in
      subst (λ (z : Purpose × Ref × Ref × Ref). P z.0 z.1 z.2 z.3) same h

  module _ (sound : IsSound n v) (w : View) (then : IsSound n w) (stood : Bool) (g : HasPublished v stood w) (e : stood ≡ true) where
    abbrev begun : Swapping
    begun = record {
      indirection = name;
      from = resume.Header (record { generation = link.generation; main = record { slot = fresh; own = true } });
      fresh = fresh;
      replaced = link.main;
      class = class;
      drops = drops;
    }

    abbrev on_line : Operation → Operation
    on_line o = swap_on why i a f (swap.Deciding (read.Prev f)) o

    goes : (o : Operation) → Runs v o → Runs w (on_line o)
    goes = goes_w v name link class fresh at n sound w then stood g e

    follows : Follows v w
    follows = follows_w v name link class fresh at n sound w then stood g e

    is_w : w ≡ owing (seen v (swapped_in v.actor i f g.0)) (owes_then v g.0)
    is_w = hit_is v name link class fresh at n sound w then stood g e

    begun_of : IsSwapOf w why i a f begun
    begun_of = record {
      operation = on_line swaps.0;
      runs = goes swaps.0 swaps.1;
      none = refl;
      at = read.Prev f;
      line_is = refl;
      placed = placed_on v w follows i name at.5;
      fresh = placed_f v name link class fresh at n sound w then stood g e;
      from = from_ready v name link class fresh at n sound w then stood g e;
      old = placed_on v w follows a link.main.slot (at.6.main_used, at.6.is.names.place);
      owns = follows.owns i a link.main.own at.6.is.names.is_own;
      class = class_on v w follows a at.6.main_used ∙ at.8;
      drops = swap_dropped v w follows sound.bounds (record swaps.0 { is_marked = swaps.1.0 }) swaps.1.1 why
          (record { indirection = i; replaced = a; fresh = f; line = swap.Publish }) swaps.2 drops (told why i a f swaps);
    }

    pub begun_left : IsSwapLeft w (record {
      indirection = name;
      from = resume.Header (record { generation = link.generation; main = record { slot = fresh; own = true } });
      fresh = fresh;
      replaced = link.main;
      class = class;
      drops = drops;
    })
    begun_left = record { why = why; i = i; replaced = a; made = f; its = begun_of }

    -- what it has retired hangs as before
    pub hangs_begun : (limbo : Limbo) → IsLimbo limbo v → IsLimbo limbo w
    hangs_begun limbo is = limbo_stays limbo v w (ap hanging_of is_w) is

    pub sizes_begun : w.sizes ≡ v.sizes
    sizes_begun = ap (λ (x : View). x.sizes) is_w

    runs_w : RunsOn v w
    runs_w = record { still = still_follows v w follows; runs = λ o r. (on_line o, goes o r, refl) }

    -- it is under way
    pub leaves : (next : Swapping) (z : View) → HasSwappedOn w begun next z → HasLeftSwap v next z
    leaves next z h = record {
      on = runs_on_both v w z runs_w h.on;
      pool = h.pool ∙ ap (λ (x : View). x.pool) is_w;
      retired = h.retired ∙ ap (λ (x : View). x.retired) is_w;
      its = all (λ y j b c. IsSwapOf z y j b c next) (h.still why i a f begun_of);
    }

    -- it has come to its end
    module _ (result : Decided) (z : View) (h : HasDecidedSwap w begun result z) where
      its : (o : Operation) → Runs v o → Runs z (swap_done why (node_at (now v).heap f) (is_done (swapped_by result)) o)
      its o r =
          let done = is_done (swapped_by result) in
          let x = h.comes why i a f begun_of (on_line o) (goes o r) in
          let y = subst (λ l. Runs z (record o { private = []; line = l })) (same_call why i a f why (node_at (now w).heap f) done o [] (on_line o).line o.is_marked) x in
          subst (λ node. Runs z (swap_done why node done o)) (fresh_same v name link class fresh at n sound w then stood g w follows) y

      retires : LaterRetiring v z
      retires =
          retiring_owing v (seen v (swapped_in v.actor i f g.0)) z (owes_then v g.0) (later_there v name link class fresh at n sound w then stood g e) (subst (λ x. LaterRetiring x z) is_w h.later)

      by_kind : (d : Decided) → ((o : Operation) → Runs v o → Runs z (swap_done why (node_at (now v).heap f) (is_done (swapped_by d)) o)) → HasSwapDone v (swapped_by d) z
      by_kind (decided.Commits r) d = (retires, all (λ y j b c. (o : Operation) → Runs v o → Runs z (swap_done y (node_at (now v).heap c) true o)) d)
      by_kind (decided.Fails r) d = (retires, all (λ y j b c. (o : Operation) → Runs v o → Runs z (swap_done y (node_at (now v).heap c) false o)) d)

      pub done_so : HasSwapDone v (swapped_by result) z
      done_so = by_kind result its

-- ---- with the stock

pub left_stock : (v w : View) (name : ℕ) (link : Link) (class fresh : ℕ) → IsAtSwap v name link class fresh → (s : Swapping) → HasLeftSwap v s w → (stock next : Stocked) → IsStock stock v →
    next.sizes ≡
    stock.sizes
    → next.pool ≡ stock.pool → next.made ≡ [] → IsLimbo next.limbo w → IsStock next w
left_stock v w name link class fresh at s h stock next is sizes pool none limbo = record {
  sizes = sizes ∙ is.sizes ∙ ap (λ (x : View). x.sizes) (sym h.on.still.is);
  pool = pool ∙ is.pool ∙ sym h.pool;
  made = none ∙ ap (λ rs. map (made_of w) rs) (sym (ap own_of its.runs.1 ∙ its.none));
  limbo = limbo;
}
  where
    its : IsSwapOf w at.0 at.1 at.2 at.3 s
    its = h.its at.0 at.1 at.2 at.3 at.4

module _ (n : ℕ) (v w : View) (sound : IsSound n v) (last : IsSound n w) (name : ℕ) (link : Link) (class fresh : ℕ) (at : IsAtSwap v name link class fresh) where
  pub swapped_owns : (result : Swapped) → HasSwapDone v result w → (stock next : Stocked) → IsStock stock v → next.sizes ≡ stock.sizes → next.pool ≡ settled_pool result stock.made stock.pool →
      next.made ≡ [] → IsLimbo next.limbo w → IsStock next w
  swapped_owns Misses g = missed_owns n v w sound last name link class fresh at Misses g refl
  swapped_owns (Commits r) g = hit_owns n v w sound last name link class fresh at (Commits r) g (inl (r, refl))
  swapped_owns (Fails r) g = hit_owns n v w sound last name link class fresh at (Fails r) g (inr (r, refl))

  pub swapped_so : (result : Swapped) → HasSwapDone v result w → HasSwapped v result w
  swapped_so Misses g = missed_swapped n v w sound last name link class fresh at Misses g refl
  swapped_so (Commits r) g = hit_swapped n v w sound last name link class fresh at (Commits r) g (inl (r, refl))
  swapped_so (Fails r) g = hit_swapped n v w sound last name link class fresh at (Fails r) g (inr (r, refl))

  pub missed_hangs : HasSwapDone v Misses w → (limbo : Limbo) → IsLimbo limbo v → IsLimbo limbo w
  missed_hangs g limbo is = limbo_stays limbo v w (ap hanging_of (g.0.2 at.4.0 at.4.1)) is

-- ---- what the seat holds

-- nothing is said of it where the SWAP came to its end
pub ended_holds : (v z : View) (d : Decided) → HoldsSwapped v (swapped_by d) z
ended_holds v z (decided.Commits r) = tt
ended_holds v z (decided.Fails r) = tt

-- ---- in a program

pub leaves_swap : (aims : Purpose → Type 0) (u v w : View) (s : Swapping) → RunsOn u v → (why : Purpose) (i replaced made : Ref) → IsSwapping v why i replaced made → aims why → HasLeftSwap v s w →
    LeavesSwap aims u s w
leaves_swap aims u v w s on why i replaced made at aim h =
    record { on = runs_on_both u v w on h.on; its = record { why = why; i = i; replaced = replaced; made = made; its = h.its why i replaced made at }; aim = aim }

pub leaves_swap_on : (aims : Purpose → Type 0) (u v w : View) (s : Swapping) → RunsOn u v → LeavesSwap aims v s w → LeavesSwap aims u s w
leaves_swap_on aims u v w s on h = record { on = runs_on_both u v w on h.on; its = h.its; aim = h.aim }
