-- CLIMB looks whether the parent's entry for the key is the tombed indirection, and asks for the root again.
use Rattle.std.proofs.Common.{◌≡◌, ◌<◌, ◌≤◌, ◌==◌, ◌&&◌, ◌^◌, ◌*◌, ◌-◌, ◌++◌, ℕ, Bool, true, false, [], ◌∷◌, Contains, length, get_or, count_ones, nat_eq, None, Some, inl, sym, ap, ap₂, refl}
use Rattle.std.proofs.Common.{subst, ◌∙◌, arith, ltb-true, if◌then◌else◌}
use Rattle.std.specs.Option.{option_eq}
use Rattle.std.proofs.lemmas.Bool.{le-leb}
use Rattle.std.proofs.lemmas.List.Elements.{Contains-get_or, Contains-append_left, Contains-append_right}
use Rattle.machine_model.specs.Beneath.ctrie_base.specs.Hashes.{hash_of}
use Rattle.machine_model.specs.Beneath.ctrie_base.specs.Paths.{index_at, position_of}
use Rattle.machine_model.specs.Beneath.slot_arena.specs.declared.refs.Ref.{Ref}
use Rattle.machine_model.specs.Beneath.slot_arena.specs.Heaps.{no_ref, node_at, entries_of, bitmap_of}
use Rattle.machine_model.specs.declared.lines.Line.{Line}
use Rattle.machine_model.specs.declared.lines.Line.TheVariants as line
use Rattle.machine_model.specs.declared.operations.Operation.{Operation}
use Rattle.machine_model.specs.declared.repairs.Climb.{Climb}
use Rattle.machine_model.specs.declared.repairs.ClimbLine.TheVariants as climb
use Rattle.machine_model.specs.declared.roots.RootLine.TheVariants as root
use Rattle.machine_model.specs.Calls.{key_of}
use Rattle.machine_model.specs.Climbing.{climbed, climbing, holds_it}
use Rattle.machine_model.specs.Paths.{above, current, depth_of, flag_in}
use Rattle.machine_model.specs.States.{State}
use Rattle.nodes.specs.Levels.{has_flag}
use Rattle.proof_memory.specs.Wants.{flag_on, is_main_node, is_branch_or_list}
use Rattle.proof_memory.proofs.Claims.Uses.{fact_of}
use Rattle.proof_memory.proofs.Lines.Shared.{position_within}
use Rattle.lock_free.specs.declared.climbing.Climbed.TheVariants as outcome
use Rattle.lock_free.specs.declared.rooting.Rooted.{Rooted}
use Rattle.lock_free.specs.declared.rules.View.{View}
use Rattle.lock_free.specs.Climbs.{HasCompared, IsAtTombed, HasSeenIt, IsAskingAgain, AskedBy, HasAskedAgain}
use Rattle.lock_free.specs.Entries.{HasStayed}
use Rattle.lock_free.specs.GoingDown.{HasMoved}
use Rattle.lock_free.specs.Holding.{IsOn}
use Rattle.lock_free.specs.Live.{line_claims, refs_of_claims}
use Rattle.lock_free.specs.Loading.{now, Runs, IsSound, Holds, HoldsSlot, HasPosition}
use Rattle.lock_free.specs.Repairing.{HasStart, IsBranch}
use Rattle.lock_free.specs.Rooting.{IsAtRoot, rooting_of, rooted, HasRooted}
use Rattle.lock_free.proofs.Counts.{entries_counted, entries_few}
use Rattle.lock_free.proofs.GivenBack.{node_is}
use Rattle.lock_free.proofs.KeyMoves.{hash_is}
use Rattle.lock_free.proofs.Laters.{later_self}
use Rattle.lock_free.proofs.OnLines.{line_is, finds_now}
use Rattle.lock_free.proofs.RepairLooks.{eqb_swap}
use Rattle.machine_model.specs.Calls.{changed_reply}
use Rattle.lock_free.specs.declared.leaving.Left.{Left}
use Rattle.lock_free.specs.Climbs.{HasAskedWithin}
use Rattle.lock_free.specs.Leaving.{HasLeftOff}
use Rattle.lock_free.proofs.Leavings.{may_on, off_halts}

-- an operation is at one main node in one climb
abbrev pub no_climb : Climb
no_climb = record { path = []; single = no_ref; former = None }

abbrev pub main_parts : Line → Climb × Ref
main_parts (line.Climb (climb.Main c main)) = (c, main)
main_parts l = (no_climb, no_ref)

module _ (n : ℕ) (v0 : View) (sound0 : IsSound n v0) (name bitmap flag tombed : ℕ) (is_at : IsAtTombed v0 name bitmap flag tombed) where
  abbrev c : Climb
  c = is_at.0

  abbrev main : Ref
  main = is_at.1

  abbrev l0 : Line
  l0 = line.Climb (climb.Main c main)

  abbrev at0 : IsOn v0 l0
  at0 = is_at.2

  abbrev b : IsBranch v0 main bitmap
  b = is_at.4

  abbrev its : Operation
  its = record at0.0 { is_marked = at0.1.0 }

  in_hand : (r : Ref) → Contains (c.path ++ c.single ∷ main ∷ []) r → Holds v0 r
  in_hand r has = (
    its,
    at0.1.1,
    inl (Contains-append_left (refs_of_claims (line_claims (now v0) its)) its.private r
        (subst (λ (x : Line). Contains (refs_of_claims (line_claims (now v0) (record its { line = x }))) r) (sym at0.2) has)),
  )

  pub holds_main : Holds v0 main
  holds_main = in_hand main (Contains-append_right c.path (c.single ∷ main ∷ []) main (Contains-get_or (c.single ∷ main ∷ []) 1 main (omega arith)))

  long : 1 < length c.path
  long = let claims = finds_now v0 l0 at0 n sound0 in ltb-true 1 (length c.path) (fact_of claims.1.0)

  pub holds_tombed : HoldsSlot v0 tombed
  holds_tombed =
      let last = length c.path - 1 in (
        current c.path,
        in_hand (current c.path) (Contains-append_left c.path (c.single ∷ main ∷ []) (current c.path) (Contains-get_or c.path last no_ref (let l = long in omega (arith, l)))),
        is_at.5.1,
      )

  pub its_flag : (state : State) → state.limits.hash ≡ v0.sizes.hash → (o : Operation) → Runs v0 o → flag_in state o (above c.path) ≡ flag
  its_flag state same o runs = ap (λ k. flag_on k o.call (above c.path)) same ∙ sym (is_at.6 o runs)

  -- ---- the flag is there

  module _ (has : has_flag bitmap flag ≡ true) where
    many : length (entries_of b.0.node) ≡ count_ones bitmap
    many = ap (λ x. length (entries_of x)) b.3 ∙ entries_counted n v0 sound0 main b.0 b.2 bitmap b.1 b.3

    few : length (entries_of b.0.node) ≤ 32
    few = subst (λ x. length (entries_of x) ≤ 32) (sym b.3) (entries_few n v0 sound0 main b.0 b.2 bitmap b.1 b.3)

    pub inside : position_of flag bitmap < length (entries_of b.0.node)
    inside =
        let index = index_at (hash_of v0.sizes.hash (key_of at0.0.call)) (5 * depth_of (above c.path)) in
        let flag_so : flag ≡ 2 ^ index = is_at.6 at0.0 at0.1 in
        let low = position_within bitmap index (count_ones bitmap) (subst (λ f. has_flag bitmap f ≡ true) flag_so has) (le-leb (count_ones bitmap) (count_ones bitmap) (omega arith)) in
        subst (λ k. position_of flag bitmap < k) (sym many)
        (subst (λ f. position_of f bitmap < count_ones bitmap) (sym flag_so) (ltb-true (position_of (2 ^ index) bitmap) (count_ones bitmap) low))

    pub has_position : (position : ℕ) → position ≡ position_of flag bitmap → HasPosition v0 name position
    has_position position is =
        let low = subst (λ p. p < length (entries_of b.0.node)) (sym is) inside in
        (main, b.0, holds_main, b.2, ap is_branch_or_list b.3, low, (let f = few in omega (arith, low, f)), is_at.3.1)

  -- ---- it is looked at

  abbrev looks : ℕ → ℕ → Bool
  looks f bits = has_flag bitmap f && (get_or (entries_of (node_at (now v0).heap main)) (position_of f bits) no_ref == current c.path)

  looks_so : (o : Operation) → Runs v0 o → holds_it (now v0) o c main bitmap (entries_of (node_at (now v0).heap main)) ≡ looks flag bitmap
  looks_so o runs =
      ap₂ looks (its_flag (now v0) (hash_is v0.sizes v0.account) o runs) (ap bitmap_of (node_is (now v0) main b.0 b.2 ∙ b.3))

  elsewhere : (result : Bool) (w : View) → HasStayed v0 w → ((o : Operation) → Runs v0 o → holds_it (now v0) o c main bitmap (entries_of (node_at (now v0).heap main)) ≡ result) → HasSeenIt v0 bitmap
      result w
  elsewhere result w stayed here = (
    stayed,
    λ d m other o runs. subst
        (λ (x : Climb × Ref). holds_it (now v0) o x.0 x.1 bitmap (entries_of (node_at (now v0).heap x.1)) ≡ result)
        (ap main_parts (sym (line_is v0 l0 at0 other.0 other.1) ∙ other.2)) (here o runs),
  )

  pub no_flag : has_flag bitmap flag ≡ false → HasSeenIt v0 bitmap false v0
  no_flag none =
      elsewhere false v0 (record { later = later_self v0; comes = λ o runs. runs })
      (λ o runs. looks_so o runs ∙ ap (λ x. x && (get_or (entries_of (node_at (now v0).heap main)) (position_of flag bitmap) no_ref == current c.path)) none)

  pub is_seen : has_flag bitmap flag ≡ true → (position : ℕ) → position ≡ position_of flag bitmap → (w : View) (result : Bool) → HasCompared v0 name position tombed result w → HasSeenIt v0 bitmap
      result w
  unfolding holds_tombed
  is_seen has position is w result g =
      let low = subst (λ p. p < length (entries_of b.0.node)) (sym is) (inside has) in
      let same = g.1 main (current c.path) b.0 holds_main b.2 (ap is_main_node b.3) (ap is_branch_or_list b.3) low is_at.3.1 holds_tombed.1 is_at.5.1 in
      elsewhere result w g.0
      (λ o runs. looks_so o runs ∙ ap (λ x. x && (get_or (entries_of (node_at (now v0).heap main)) (position_of flag bitmap) no_ref == current c.path)) has
      ∙ ap (λ p. get_or (entries_of (node_at (now v0).heap main)) p no_ref == current c.path) (sym is) ∙ sym same)

-- ---- the root is asked for again

abbrev root_parts : Line → Climb
root_parts (line.Climb (climb.Root c l)) = c
root_parts l = no_climb

module _ (v0 : View) (is_at : IsAskingAgain v0) where
  abbrev l : Line
  l = line.Climb (climb.Root is_at.0 root.Read)

  pub at_root : IsAtRoot v0
  at_root = (is_at.1.0, is_at.1.1, ap rooting_of is_at.1.2)

  module _ (given : Rooted) (w : View) (h : HasRooted v0 given w) (start : ℕ) (begun : HasStart v0 start) where
    comes : (same : Bool) → (given.generation == start) ≡ same → HasMoved (λ o. if same then climbing o is_at.0 else climbed o is_at.0.former) v0 w
    comes same is = record {
      later = h.later;
      comes = λ o runs.
          subst (λ x. Runs w (record o { line = if x then climbing o is_at.0 else climbed o is_at.0.former }))
          (ap (λ g. option_eq nat_eq g (Some given.generation)) (begun o runs) ∙ eqb_swap start given.generation ∙ is)
          (subst (λ x. Runs w (rooted h.root given.generation o x)) (line_is v0 l is_at.1 o runs) (h.comes o runs));
    }

    pub asks_again : (given.generation == start) ≡ true → HasAskedAgain v0 outcome.Again w
    asks_again is d other = subst (λ x. AskedBy v0 x outcome.Again w) (ap root_parts (sym (line_is v0 l is_at.1 other.0 other.1) ∙ other.2)) (comes true is)

    pub asks_ended : (given.generation == start) ≡ false → HasAskedAgain v0 outcome.Ends w
    asks_ended is d other = subst (λ x. AskedBy v0 x outcome.Ends w) (ap root_parts (sym (line_is v0 l is_at.1 other.0 other.1) ∙ other.2)) (comes false is)

-- ROOT is out of tries
pub asks_spent : (v : View) (result : Left) (w : View) → HasLeftOff v result w → HasAskedWithin v outcome.Full w
asks_spent v result w h d on =
    off_halts (λ call. changed_reply call d.former) v result w h (may_on (λ call. changed_reply call d.former) v (line.Climb (climb.Root d root.Read)) on (λ call. refl))
