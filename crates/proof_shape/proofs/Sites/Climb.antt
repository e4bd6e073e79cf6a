-- Sites in CLIMB and after a SWAP: a tomb's single is carried up the path.
use Rattle.std.proofs.Common.{◌≡◌, ℕ, suc, ◌+◌, ◌*◌, ◌^◌, ◌<◌, ◌==◌, Bool, true, false, nat_lt, List, [], ◌∷◌, length, set, length-set, slice_index_or, Option, Some, None, refl}
use Rattle.std.proofs.Common.{sym, ap, subst, ◌∙◌, inl, inr, ltb-true, lt-ltb, eqb-true, arith}
use Rattle.std.proofs.lemmas.Bool.{cases_eq, cond_both, and_parts}
use Rattle.std.proofs.lemmas.List.{get_or-set_same, get_or-set_other}
use Rattle.arrayvec.specs.ArrayVec.{ArrayVec}
use Rattle.proof_shape.specs.Vocabulary.{hash_of, position_of, HashKind, Ref, Node, Branch, Single, Tomb, Prev, node_at, entries_of, bitmap_of, next_ref, no_ref, has_flag, index_in, contracted}
use Rattle.proof_shape.specs.Vocabulary.{Operation, After, Gives, ReadLine, Swap, SwapLine, RootLine, Climb, Purpose, State, current, above, depth_of, hash_in, flag_in, is_start, is_below_root}
use Rattle.proof_shape.specs.Vocabulary.{at_indirection, after_publish, after_deciding, after_check, on_line, climbing, higher, place_in, climbed_node, climb_after_read, holds_it, climb_after_main}
use Rattle.proof_shape.specs.Vocabulary.{climb_after_contracted, climb_after_root, after_update, climbed_on, swapped, IsShaped, unchanged, becomes_single, AllHold, line_wants}
use Rattle.proof_shape.specs.Beneath.slot_arena.specs.declared.nodes.Prev.TheVariants as prev
use Rattle.proof_shape.specs.Beneath.proof_contents.proofs.Nodes.Branches.{flagged, position-before}
use Rattle.proof_shape.specs.Beneath.proof_contents.proofs.Nodes.Tombs.{before-lt}
use Rattle.proof_shape.specs.Beneath.machine_model.specs.declared.reading.After.TheVariants.{Goes}
use Rattle.proof_shape.specs.Beneath.machine_model.specs.declared.lines.Purpose.TheVariants as purpose
use Rattle.proof_shape.specs.Beneath.machine_model.specs.declared.repairs.ClimbLine.TheVariants as climb
use Rattle.proof_shape.specs.Beneath.machine_model.specs.declared.lines.Line.TheVariants as line
use Rattle.proof_shape.specs.Beneath.machine_model.specs.Operations.{after_swap as line_after_swap}
use Rattle.proof_shape.specs.Beneath.proof_memory.specs.Wants.{is_indirection}
use Rattle.proof_shape.specs.Beneath.proof_memory.proofs.Claims.Uses.{safe_of, meets_of, fact_of}
use Rattle.proof_shape.specs.Beneath.proof_memory.proofs.Claims.Named.{single_claim, past_climb}
use Rattle.proof_shape.specs.Beneath.proof_memory.proofs.Lines.Shared.{above_long}
use Rattle.proof_shape.specs.Beneath.proof_contents.specs.Shapes.{Fits}
use Rattle.proof_shape.specs.Beneath.proof_contents.proofs.Shapes.Nodes.{IsBranch, branch_shape, tomb_shape}
use Rattle.proof_shape.specs.Beneath.proof_contents.proofs.Shapes.Lists.{shape_moves}
use Rattle.proof_shape.specs.Sites.Nodes.{path_to, depth_at}
use Rattle.proof_shape.specs.Sites.Lines.{Sites, bare, trie_at, InsideSite, IsOnWay, PathSite, CarriesSite, HoldsTombed, SwapLineSite, SwapSite, PurposeSite, LineSite}
use Rattle.proof_shape.proofs.Sites.Ways.{path_shorter}
use Rattle.proof_shape.proofs.Shaped.Places.{bare_single, bare_link_node}
use Rattle.proof_shape.proofs.Sites.Seen.{Sees, AfterSite, entries_seen, bitmap_seen, branch_seen, current_site, above_site, above_depth}
use Rattle.proof_shape.proofs.Sites.Repair.{branch_there}
use Rattle.proof_shape.proofs.Sites.Made.{stands}
use Rattle.proof_shape.proofs.Shaped.Repaired.{IsSingle, repaired_shaped}

module _ (s : Sites) (fits : (i : Ref) → s.path i < 2 ^ (5 * depth_at (s.level i))) (state : State) (operation : Operation) (S : Ref → Type 0) (N : Sees s state S) where
  abbrev kind : HashKind
  kind = state.limits.hash

  abbrev hash : ℕ
  hash = hash_in state operation

  climbing_site : (c : Climb) → CarriesSite kind s hash c → LineSite kind s hash (climbing operation c)
  climbing_site c p =
      cond_both (is_below_root c.path) _ _ (LineSite kind s hash) (λ below. (p, current_site kind s hash (above c.path) (above_site kind s hash c.path p.0) (above_long c.path below), tt)) (λ e. tt)

  -- the single of a tomb on the way leads as far as the tomb
  tomb_leads : (main single : Ref) (depth k v : ℕ) → S main → node_at state.heap main ≡ Tomb single → s.level main ≡ depth + 1 → IsOnWay kind s hash depth main → s.node single ≡ Single k v →
      path_to (hash_of kind k) depth ≡ path_to hash depth
  tomb_leads main single depth k v u e level on is =
      let t = tomb_shape (trie_at kind s) main (Tomb single) single (subst (InsideSite kind s main) e (N.inside main u)) refl in
      let both : Single t.key t.value ≡ Single k v = sym t.is ∙ ap bare is in
      let key_is : t.key ≡ k = cc in
      let deep : depth_at (s.level main) ≡ depth = omega (arith, level) in
      ap (λ n. path_to (hash_of kind n) depth) (sym key_is) ∙ ap (path_to (hash_of kind t.key)) (sym deep) ∙ t.led ∙ on

  pub climb_read_site : (c : Climb) (i : Ref) (a : After ReadLine Ref) → CarriesSite kind s hash c → IsOnWay kind s hash (depth_of (above c.path)) i → AfterSite s state S N i a →
      LineSite kind s hash (climb_after_read c (at_indirection i a))
  climb_read_site c i (Goes l) p e h = (p, e, h)
  climb_read_site c i (Gives main) p e h = (p, h ∙ e)

  pub climb_main_site : (c : Climb) (main : Ref) (node : Node) → node_at state.heap main ≡ node → S main → s.level main ≡ depth_of (above c.path) + 1 → CarriesSite kind s hash c →
      IsOnWay kind s hash (depth_of (above c.path)) main →
      LineSite kind s hash (climb_after_main state operation c main node)
  climb_main_site c main (Tomb single) e u level p on =
      climbing_site (higher c single) (above_site kind s hash c.path p.0, λ k v is. tomb_leads main single (depth_of (above c.path)) k v u e level on is)
  climb_main_site c main (Branch bitmap entries) e u level p on =
      cond_both (holds_it state operation c main bitmap entries.items) _ _ (LineSite kind s hash)
      (λ x. (
        p,
        on,
        holds (eqb-true _ _
            (and_parts (has_flag bitmap (flag_in state operation (above c.path))) (slice_index_or entries.items (place_in state operation c main) no_ref == current c.path) x).1),
      )) (λ x. tt)
    where
      holds : slice_index_or entries.items (place_in state operation c main) no_ref ≡ current c.path → HoldsTombed kind s hash c main
      holds same =
          ap (λ b. slice_index_or (entries_of (s.node main)) (position_of (flag_in state operation (above c.path)) b) no_ref) (sym (bitmap_seen s state S N main u))
          ∙ ap (λ es. slice_index_or es (place_in state operation c main) no_ref) (sym (entries_seen s state S N main u) ∙ ap entries_of e) ∙ same
  climb_main_site c main node e u level p on = tt

  pub climb_root_site : (c : Climb) (a : After RootLine Ref) → CarriesSite kind s hash c → LineSite kind s hash (climb_after_root state operation c a)
  climb_root_site c (Goes l) p = p
  climb_root_site c (Gives r) p = cond_both (is_start operation _) _ _ (LineSite kind s hash) (λ x. climbing_site c p) (λ x. tt)

  pub climbed_by : (c : Climb) (main : Ref) → CarriesSite kind s hash c → nat_lt 1 (length c.path) ≡ true → IsOnWay kind s hash (depth_of (above c.path)) main →
      ((made : Ref) → next_ref state.heap ≡ Some made → IsOnWay kind s hash (depth_of (above c.path)) made) → (o : Option Ref) → next_ref state.heap ≡ o →
      LineSite kind s hash (climb_after_contracted operation c main o)
  climbed_by c main p long on f None e = tt
  climbed_by c main p long on f (Some made) e =
      let at = current_site kind s hash (above c.path) (above_site kind s hash c.path p.0) (above_long c.path long) in
      ((on ∙ sym at, f made e ∙ sym at), tt, p)

  -- ---- what CLIMB makes

  pub climb_makes : (c : Climb) (main r : Ref) → AllHold S state.heap (line_wants kind operation.call operation.access (line.Climb (climb.Contracted c main))) →
      has_flag (bitmap_of (node_at state.heap main)) (flag_in state operation (above c.path)) ≡ true →
      IsSingle (trie_at kind s) c.single → is_indirection (s.node (current c.path)) ≡ true → s.level (current c.path) ≡ depth_of c.path + 1 →
      s.level main ≡ depth_of (above c.path) + 1 → LineSite kind s hash (line.Climb (climb.Contracted c main)) →
      s.level r ≡ depth_of (above c.path) + 1 → IsOnWay kind s hash (depth_of (above c.path)) r → IsShaped (trie_at kind s) r (climbed_node state operation c main)
  climb_makes c main r h flag single link level_current level (p, on, held) level_r on_r = by_branch (branch_there s fits state operation S N main u (meets_of (past_climb h).0))
    where
      u : S main
      u = safe_of (past_climb h).0

      v : S c.single
      v = safe_of (single_claim h)

      long : nat_lt 1 (length c.path) ≡ true
      long = fact_of h.1.0

      place : ℕ
      place = place_in state operation c main

      by_branch : (b : ℕ) × (es : ArrayVec Ref) × (s.node main ≡ Branch b es) → IsShaped (trie_at kind s) r (climbed_node state operation c main)
      by_branch (b, es, node_is) =
          subst (λ n. IsShaped (trie_at kind s) r (contracted (is_below_root (above c.path)) n (set (entries_of (node_at state.heap main)) place c.single))) (sym bits)
          (subst (λ xs. IsShaped (trie_at kind s) r (contracted (is_below_root (above c.path)) b (set xs place c.single))) (sym items)
          (shape_moves (trie_at kind s) main r (contracted (is_below_root (above c.path)) b (set es.items place c.single)) (stands kind s main r (level_r ∙ sym level) (on_r ∙ sym on))
          (repaired_shaped (trie_at kind s) fits main b es shape (is_below_root (above c.path)) (set es.items place c.single) (length-set es.items place c.single) fit alone)))
        where
          bits : bitmap_of (node_at state.heap main) ≡ b
          bits = bitmap_seen s state S N main u ∙ ap bitmap_of node_is

          items : entries_of (node_at state.heap main) ≡ es.items
          items = entries_seen s state S N main u ∙ ap entries_of node_is

          shape : IsShaped (trie_at kind s) main (Branch b es)
          shape = branch_seen s state S N main b es u node_is

          s' : IsBranch (trie_at kind s) main b es
          s' = branch_shape (trie_at kind s) main (Branch b es) b es shape refl

          x : ℕ
          x = index_in hash (depth_of (above c.path))

          place_is : place ≡ position_of (2 ^ x) b
          place_is = ap (position_of (2 ^ x)) bits

          within : place < length es.items
          within =
              let at = flagged b es.items s'.places s'.has x no_ref (subst (λ n. has_flag n (2 ^ x) ≡ true) bits flag) in
              omega (arith, before-lt s'.places x _ at, place_is, position-before b es.items s'.places s'.has x, ap length s'.has.stand)

          -- the tombed indirection stands there
          there : slice_index_or es.items place no_ref ≡ current c.path
          there = ap (λ n. slice_index_or es.items n no_ref) place_is ∙ sym (ap (λ n. slice_index_or (entries_of n) (position_of (2 ^ x) (bitmap_of n)) no_ref) node_is) ∙ held

          leads : (k v : ℕ) → (trie_at kind s).node c.single ≡ Single k v → path_to (hash_of kind k) (depth_at (s.level (current c.path))) ≡ s.path (current c.path)
          leads k v e =
              let deep : depth_at (s.level (current c.path)) ≡ depth_of c.path = omega (arith, level_current) in
              let some : nat_lt 0 (length c.path) ≡ true = lt-ltb 0 (length c.path) (let two : 1 < length c.path = ltb-true 1 (length c.path) long in omega arith) in
              ap (path_to (hash_of kind k)) deep ∙ p.1 k v (bare_single (s.node c.single) k v e) ∙ sym (current_site kind s hash c.path p.0 some)

          fit : (n : ℕ) → n < length (set es.items place c.single) → Fits (trie_at kind s) main (slice_index_or es.items n no_ref) (slice_index_or (set es.items place c.single) n no_ref)
          fit n lt = elim (cases_eq n place) [
            | inl same ↦
                subst (λ m. Fits (trie_at kind s) main (slice_index_or es.items m no_ref) (slice_index_or (set es.items place c.single) m no_ref)) (sym same)
                (subst (λ q. Fits (trie_at kind s) main q (slice_index_or (set es.items place c.single) place no_ref)) (sym there)
                (subst (λ q. Fits (trie_at kind s) main (current c.path) q) (sym (get_or-set_same es.items place c.single no_ref within))
                (becomes_single 0 single.0 single.1 no_ref (bare_link_node s (current c.path) link) single.2 (leads single.0 single.1 single.2))))
            | inr other ↦ unchanged (sym (get_or-set_other es.items place n c.single no_ref other))
          ]

          alone : (one : Ref) → is_below_root (above c.path) ≡ true → set es.items place c.single ≡ one ∷ [] → IsSingle (trie_at kind s) one
          alone one may only =
              let size : length es.items ≡ 1 = sym (length-set es.items place c.single) ∙ ap length only in
              let first : place ≡ 0 = omega (arith, within, size) in
              let one_is : c.single ≡ one =
              sym (get_or-set_same es.items place c.single no_ref within) ∙ ap (λ n. slice_index_or (set es.items place c.single) n no_ref) first ∙ ap (λ es. slice_index_or es 0 no_ref) only in
              subst (IsSingle (trie_at kind s)) one_is single

  -- ---- SWAP

  abbrev pub SwappedSite : Swap → After SwapLine Bool → Type 0
  SwappedSite w (Goes l) = SwapLineSite kind s w.indirection l
  SwappedSite w (Gives done) = Unit {0}

  pub publish_site : (w : Swap) (b : Bool) → SwapSite kind s w.indirection w.replaced w.fresh → SwappedSite w (after_publish w.fresh b)
  publish_site w true h = h.1
  publish_site w false h = tt

  pub deciding_site : (w : Swap) (a : After ReadLine Ref) → AfterSite s state S N w.indirection a → SwappedSite w (after_deciding a)
  deciding_site w (Goes l) h = h
  deciding_site w (Gives main) h = tt

  pub check_site : (w : Swap) (p : Prev) → SwappedSite w (after_check p)
  check_site w prev.None = tt
  check_site w (prev.Pending p) = tt
  check_site w (prev.Failed p) = tt

  update_site : (path : List Ref) (former : Option ℕ) (i fresh : Ref) (node : Node) → node_at state.heap fresh ≡ node → S fresh → PathSite kind s hash path →
      i ≡ current path → nat_lt 0 (length path) ≡ true →
      s.level (current path) ≡ depth_of path + 1 → s.level fresh ≡ s.level i → s.path fresh ≡ s.path i → LineSite kind s hash (after_update operation path former node)
  update_site path former i fresh (Tomb single) e u p is long level same led =
      climbing_site (record { path = path; single = single; former = former })
      (p, λ k v its. tomb_leads fresh single (depth_of path) k v u e (same ∙ ap s.level is ∙ level) (led ∙ ap s.path is ∙ current_site kind s hash path p long) its)
  update_site path former i fresh node e u p is long level same led = tt

  -- one level up the single leads still
  carried_on : (c : Climb) → is_below_root c.path ≡ true → CarriesSite kind s hash c → CarriesSite kind s hash (higher c c.single)
  carried_on c below p = (above_site kind s hash c.path p.0, λ k v is. path_shorter (hash_of kind k) hash (depth_of (above c.path)) (shorter k (p.1 k v is)))
    where
      deep : depth_of c.path ≡ suc (depth_of (above c.path))
      deep = omega (arith, above_depth kind s hash c.path below)

      shorter : (k : ℕ) → path_to (hash_of kind k) (depth_of c.path) ≡ path_to hash (depth_of c.path) →
          path_to (hash_of kind k) (suc (depth_of (above c.path))) ≡ path_to hash (suc (depth_of (above c.path)))
      shorter k e = subst (λ d. path_to (hash_of kind k) d ≡ path_to hash d) deep e

  climbed_site : (c : Climb) (node : Node) → is_below_root c.path ≡ true → CarriesSite kind s hash c → LineSite kind s hash (climbed_on operation c node)
  climbed_site c (Tomb single) below p = climbing_site (higher c c.single) (carried_on c below p)
  climbed_site c node below p = tt

  -- what the path of a purpose is like
  abbrev pub PurposePath : Purpose → Type 0
  PurposePath (purpose.Update path former) = (nat_lt 0 (length path) ≡ true) × (s.level (current path) ≡ depth_of path + 1)
  PurposePath (purpose.Renew path) = nat_lt 0 (length path) ≡ true
  PurposePath purpose.Clean = Unit {0}
  PurposePath (purpose.Climb c) = nat_lt 1 (length c.path) ≡ true

  swapped_site : (w : Swap) (why : Purpose) (done : Bool) → S w.fresh → s.level w.fresh ≡ s.level w.indirection → s.path w.fresh ≡ s.path w.indirection →
      PurposePath why → PurposeSite kind s hash w.indirection why →
      LineSite kind s hash (swapped operation (node_at state.heap w.fresh) why done)
  swapped_site w (purpose.Update path former) true u same led long p = update_site path former w.indirection w.fresh (node_at state.heap w.fresh) refl u p.0 p.1 long.0 long.1 same led
  swapped_site w (purpose.Update path former) false u same led long p = tt
  swapped_site w (purpose.Renew path) true u same led long p = (p, current_site kind s hash path p long, tt)
  swapped_site w (purpose.Renew path) false u same led long p = tt
  swapped_site w purpose.Clean done u same led long p = tt
  swapped_site w (purpose.Climb c) true u same led long p = climbed_site c (node_at state.heap w.fresh) long p
  swapped_site w (purpose.Climb c) false u same led long p = p

  pub line_swap_site : (why : Purpose) (w : Swap) (a : After SwapLine Bool) → S w.fresh → s.level w.fresh ≡ s.level w.indirection → PurposePath why →
      SwapSite kind s w.indirection w.replaced w.fresh → SwappedSite w a →
      PurposeSite kind s hash w.indirection why → LineSite kind s hash (line_after_swap state operation why w (on_line w a))
  line_swap_site why w (Goes l) u same long h e p = (h, e, p)
  line_swap_site why w (Gives done) u same long h e p = swapped_site w why done u same h.1 long p
