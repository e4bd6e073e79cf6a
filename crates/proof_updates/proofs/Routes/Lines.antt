-- Lines of BUILD, RENEW and their swaps keep the path; those of CLEAN, CLIMB, COPY and WALK have none.
use Rattle.std.proofs.Common.{◌≡◌, ℕ, suc, Bool, true, false, List, Option, None, refl, sym, arith}
use Rattle.std.proofs.lemmas.Option.{none-some}
use Rattle.proof_updates.specs.Vocabulary.{Access, Ref, Node, node_at, Operation, BuildLine, CleanLine, Climb, ClimbLine, RenewLine, CopyLine, WalkLine, After, Gives, Swap, Purpose, Line, State}
use Rattle.proof_updates.specs.Vocabulary.{renew_after, build_after, clean_after, climb_after, copy_after, walk_after, after_update, climbed_on, swapped, Trie, build_path, renew_path}
use Rattle.proof_updates.specs.Beneath.machine_model.specs.declared.reading.After.TheVariants.{Goes}
use Rattle.proof_updates.specs.Beneath.machine_model.specs.declared.lines.Purpose.TheVariants as purpose
use Rattle.proof_updates.specs.Beneath.machine_model.specs.declared.lines.Line.TheVariants as line
use Rattle.proof_updates.specs.Beneath.machine_model.specs.Operations.{after_swap}
use Rattle.proof_updates.specs.Beneath.machine_model.specs.Edges.Building.{BuildEdge}
use Rattle.proof_updates.specs.Beneath.machine_model.specs.Edges.Repairs.{RenewNext, RenewEdge, keeps_own, links}
use Rattle.proof_updates.specs.Beneath.machine_model.proofs.Edges.Building.{build_edge}
use Rattle.proof_updates.specs.Beneath.machine_model.proofs.Edges.Repairs.{renew_edge}
use Rattle.proof_updates.specs.Paths.{path_of}
use Rattle.proof_updates.proofs.Routes.Known.{Route, LineRoute, route_later}

clean_none : (state : State) (operation : Operation) (l : CleanLine) → path_of (clean_after state operation l) ≡ None
clean_none state operation l = grind arith

climb_none : (state : State) (operation : Operation) (l : ClimbLine) → path_of (climb_after state operation l) ≡ None
climb_none state operation l = grind arith

copy_none : (state : State) (operation : Operation) (l : CopyLine) → path_of (copy_after state operation l) ≡ None
copy_none state operation l = grind arith

walk_none : (state : State) (operation : Operation) (l : WalkLine) → path_of (walk_after state operation l) ≡ None
walk_none state operation l = grind arith

update_none : (operation : Operation) (p : List Ref) (former : Option ℕ) (n : Node) → path_of (after_update operation p former n) ≡ None
update_none operation p former n = grind arith

climbed_none : (operation : Operation) (c : Climb) (n : Node) → path_of (climbed_on operation c n) ≡ None
climbed_none operation c n = grind arith

module _ (trie : Trie) (access : Access) (g q t ra mu : ℕ) (state : State) (operation : Operation) where
  -- after step t
  abbrev On : Line → Type 0
  On l = LineRoute trie access g q (suc t) ra mu l

  abbrev There : List Ref → Type 0
  There p = Route trie access g q (suc t) p

  -- a line with no path
  pub none_on : (l : Line) → path_of l ≡ None → On l
  none_on (line.Root l) e = tt
  none_on (line.Key l) e = absurd (none-some _ (sym e))
  none_on (line.Build l) e = absurd (none-some _ (sym e))
  none_on (line.Swap (purpose.Update p former) s) e = absurd (none-some _ (sym e))
  none_on (line.Swap (purpose.Renew p) s) e = absurd (none-some _ (sym e))
  none_on (line.Swap purpose.Clean s) e = tt
  none_on (line.Swap (purpose.Climb c) s) e = tt
  none_on (line.Renew l) e = absurd (none-some _ (sym e))
  none_on (line.Clean l) e = tt
  none_on (line.Climb l) e = tt
  none_on (line.Copy l) e = tt
  none_on (line.Walk l) e = tt
  none_on (line.End answer) e = tt
  none_on line.Impossible e = tt

  pub clean_on : (l : CleanLine) → On (clean_after state operation l)
  clean_on l = none_on (clean_after state operation l) (clean_none state operation l)

  pub climb_on : (l : ClimbLine) → On (climb_after state operation l)
  climb_on l = none_on (climb_after state operation l) (climb_none state operation l)

  pub copy_on : (l : CopyLine) → On (copy_after state operation l)
  copy_on l = none_on (copy_after state operation l) (copy_none state operation l)

  pub walk_on : (l : WalkLine) → On (walk_after state operation l)
  walk_on l = none_on (walk_after state operation l) (walk_none state operation l)

  -- ---- BUILD

  built_on : (l : BuildLine) (next : Line) → BuildEdge state operation l next → There (build_path l) → On next
  built_on l next (BuildEdge.no_slot m e) r = tt
  built_on l next edge r = r

  pub build_on : (l : BuildLine) → There (build_path l) → On (build_after state operation l)
  build_on l r = built_on l _ (build_edge state operation l) r

  -- ---- RENEW

  next_on : (p : List Ref) (main : Ref) (done : List Ref) (next : Line) → RenewNext state p main done next → There p → On next
  next_on p main done next (RenewNext.more e) r = r
  next_on p main done next edge r = r

  renewing_on : (l : RenewLine) (next : Line) → RenewEdge state operation l next → There (renew_path l) → On next
  renewing_on l next (keeps_own p main done h w n e own on) r = next_on p main _ next on r
  renewing_on l next (RenewEdge.keeps_single p main done k v n e on) r = next_on p main _ next on r
  renewing_on l next (links p main done child made n e on) r = next_on p main _ next on r
  renewing_on l next (RenewEdge.no_slot m e) r = tt
  renewing_on l next (RenewEdge.strays m) r = tt
  renewing_on l next edge r = r

  pub renew_on : (l : RenewLine) → There (renew_path l) → On (renew_after state operation l)
  renew_on l r = renewing_on l _ (renew_edge state operation l) r

  -- ---- SWAP: after that of a renewed node the path is gone on from

  swapped_on : (n : Node) (why : Purpose) (s : Swap) → LineRoute trie access g q t ra mu (line.Swap why s) → (done : Bool) → On (swapped operation n why done)
  swapped_on n (purpose.Update p former) s r true = none_on (after_update operation p former n) (update_none operation p former n)
  swapped_on n (purpose.Update p former) s r false = tt
  swapped_on n (purpose.Renew p) s r true = (route_later trie access g q t (suc t) p (omega arith) r, refl)
  swapped_on n (purpose.Renew p) s r false = tt
  swapped_on n purpose.Clean s r done = tt
  swapped_on n (purpose.Climb c) s r true = none_on _ (climbed_none operation c n)
  swapped_on n (purpose.Climb c) s r false = tt

  going_on : (why : Purpose) (s next : Swap) → LineRoute trie access g q t ra mu (line.Swap why s) → On (line.Swap why next)
  going_on (purpose.Update p former) s next r = route_later trie access g q t (suc t) p (omega arith) r
  going_on (purpose.Renew p) s next r = route_later trie access g q t (suc t) p (omega arith) r
  going_on purpose.Clean s next r = tt
  going_on (purpose.Climb c) s next r = tt

  pub swap_on : (why : Purpose) (s : Swap) (after : After Swap Bool) → LineRoute trie access g q t ra mu (line.Swap why s) → On (after_swap state operation why s after)
  swap_on why s (Goes next) r = going_on why s next r
  swap_on why s (Gives done) r = swapped_on (node_at state.heap s.fresh) why s r done
