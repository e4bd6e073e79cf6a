-- At its commit a fresh node's indirections still have the main nodes with which they were made.
use Rattle.std.proofs.Common.{◌≡◌, ℕ, zero, suc, ◌-◌, ◌<◌, ◌≤◌, cond, List, slice_index_or, Contains, Option, None, inl, inr, refl, sym, ◌∙◌, ap, subst, arith, eq-eqb}
use Rattle.arrayvec.specs.ArrayVec.{ArrayVec}
use Rattle.proof_shape.specs.Vocabulary.{HashKind, Call, Ref, Node, Indirection, entries_of, generation_of, no_ref, Change, Purpose, Bounds, key_of, State, depth_of, changed, node_under, IsRun}
use Rattle.proof_shape.specs.Vocabulary.{LeadsToPair, at_pair, by_rung, Known, IsFlagged, Absence, no_flag, not_listed, Presence, in_list, Neighbour, IsOther, of_branch, of_list, KnowsChange}
use Rattle.proof_shape.specs.Vocabulary.{KnowsSwap, IsDone, keeps, renews, cleans, IsRepaired, counting_main}
use Rattle.proof_shape.specs.Beneath.machine_model.specs.declared.building.Change.TheVariants as change
use Rattle.proof_shape.specs.Beneath.machine_model.specs.declared.lines.Line.TheVariants as line
use Rattle.proof_shape.specs.Beneath.machine_model.specs.declared.lines.Purpose.TheVariants as purpose
use Rattle.proof_shape.specs.Beneath.machine_model.specs.declared.reading.SwapLine.TheVariants as swap
use Rattle.proof_shape.specs.Beneath.proof_commits.proofs.Words.Stood.{none≢pending}
use Rattle.proof_shape.specs.Beneath.proof_commits.proofs.Course.Finals.{from_time}
use Rattle.proof_shape.specs.Beneath.proof_contents.specs.Lines.Changes.{flag_in, in_branch}
use Rattle.proof_shape.specs.Lines.Given.{GaveBelow, Was}
use Rattle.proof_shape.specs.Lines.Climbing.{KnowsClimbing}
use Rattle.proof_shape.specs.Lines.Knowing.{known_with, first_main}
use Rattle.proof_shape.specs.Lines.Commits.{assigned_at, KnowsFresh, CommitsAt}
use Rattle.proof_shape.proofs.Lines.ClimbsAt.{climbs_at}
use Rattle.proof_shape.proofs.Commits.At.{FreshKnown, commits_by}
use Rattle.proof_shape.proofs.Opened.Mains.{IsOpen, open_still, closed_keeps}
use Rattle.proof_shape.proofs.Runs.Entries.{one_entry}
use Rattle.proof_shape.proofs.Held.Fresh.{IsFresh, IsChain, ends, goes_on, IsUncommitted, held_closed, named_closed, uncommitted_not_given, stands_not_given}
use Rattle.proof_shape.proofs.Held.Lines.{DoneWith, kept, renewed, cleaned, NamedOrHeld, HeldRepair, HeldUpdate, HeldIn}
use Rattle.proof_shape.proofs.Held.At.{holds_at}

-- ---- what is known of nodes doesn't depend on main nodes

module _ (kind : HashKind) (node : Ref → Node) (A B : Ref → Ref) where
  abbrev K : Known
  K = record { kind = kind; node = node; first = A }

  abbrev L : Known
  L = record { kind = kind; node = node; first = B }

  flagged_moves : (depth key : ℕ) (main : Ref) (position bitmap : ℕ) (entries : ArrayVec Ref) → IsFlagged K depth key main position bitmap entries →
      IsFlagged L depth key main position bitmap entries
  flagged_moves depth key main position bitmap entries f = record { is = f.is; flagged = f.flagged; at = f.at }

  absence_moves : (depth key : ℕ) (main : Ref) → Absence K depth key main → Absence L depth key main
  absence_moves depth key main (no_flag bitmap entries is lacks) = no_flag bitmap entries is lacks
  absence_moves depth key main (not_listed singles is room lacks) = not_listed singles is room lacks

  presence_moves : (depth key : ℕ) (main : Ref) (position value : ℕ) → Presence K depth key main position value → Presence L depth key main position value
  presence_moves depth key main position value (in_branch bitmap entries f s) = in_branch bitmap entries (flagged_moves depth key main position bitmap entries f) s
  presence_moves depth key main position value (in_list singles is lt s) = in_list singles is lt s

  abbrev neighbour_moves : (depth key : ℕ) (main : Ref) (position : ℕ) → Neighbour K depth key main position → Neighbour L depth key main position
  neighbour_moves depth key main position n = record {
    bitmap = n.bitmap;
    entries = n.entries;
    branch = record { is = n.branch.is; flagged = n.branch.flagged; at = n.branch.at };
    other = n.other;
    own = n.own;
    is = n.is;
    apart = n.apart;
  }

  other_moves : (depth key : ℕ) (main other : Ref) (value : ℕ) → IsOther K depth key main other value → IsOther L depth key main other value
  other_moves depth key main other value (of_branch bitmap position own own_value entries f s two is left) =
      of_branch bitmap position own own_value entries (flagged_moves depth key main position bitmap entries f) s two is left
  other_moves depth key main other value (of_list position singles is lt s two there) = of_list position singles is lt s two there

  -- a swap's knowledge, where the chain is known by other main nodes
  pub swap_moves : (call : Call) (depth : ℕ) (replaced fresh : Ref) (former : Option ℕ) (knows : KnowsSwap K call depth replaced former fresh) →
      ((position : ℕ) (link : Ref) → knows.0 ≡ change.Update position link → former ≡ None →
      (other : ℕ) (old single : Ref) (levels d : ℕ) → LeadsToPair node A kind other (key_of call) old single levels d link → LeadsToPair node B kind other (key_of call) old single levels d link) →
      KnowsSwap L call depth replaced former fresh
  swap_moves call depth replaced fresh former (c, known, made) chain = by_change c refl known made
    where
      by_change : (d : Change) → c ≡ d → KnowsChange K call depth replaced former d → node fresh ≡ changed (flag_in K depth (key_of call)) (node replaced) d →
          KnowsSwap L call depth replaced former fresh
      by_change (change.Insert s) e (ins, absence, new) made = (change.Insert s, (ins, absence_moves depth (key_of call) replaced absence, new), made)
      by_change (change.Update position entry) e (inl (value, had, sets, presence, new)) made =
          (change.Update position entry, inl (value, had, sets, presence_moves depth (key_of call) replaced position value presence, new), made)
      by_change (change.Update position entry) e (inr (ins, (beside, s, new, (link, leads)))) made = (
        change.Update position entry,
        inr (
          ins,
          (
            neighbour_moves depth (key_of call) replaced position beside,
            s,
            new,
            (link, chain position entry e ins.0 beside.other (slice_index_or beside.entries.items position no_ref) s (15 - suc depth) (suc depth) leads),
          ),
        ),
        made,
      )
      by_change (change.Remove position) e (value, had, removes, presence) made =
          (change.Remove position, (value, had, removes, presence_moves depth (key_of call) replaced position value presence), made)
      by_change (change.Entomb other) e (value, had, removes, is) made = (change.Entomb other, (value, had, removes, other_moves depth (key_of call) replaced other value is), made)

module _ {limits : Bounds} {states : ℕ → State} {last : ℕ} (run : IsRun limits states last) where
  abbrev node : Ref → Node
  node = node_under states last

  -- ---- what can't be read has its first main node

  untouched : (t : ℕ) → t ≤ last → (j : Ref) → (IsOpen run t j → ⊥) → counting_main states last t j ≡ first_main states last j
  untouched t h j closed =
      from_time (λ u. counting_main states last u j ≡ first_main states last j) zero t refl
      (λ u low below so_far. closed_keeps run u (omega arith) j (λ may. closed (open_still run u t (omega arith) j may)) ∙ so_far) t (omega arith) (omega arith)

  assigned_own : (start t : ℕ) (j word : Ref) → node j ≡ Indirection start word → assigned_at states last start t j ≡ counting_main states last t j
  assigned_own start t j word is =
      ap (λ b. cond b (counting_main states last t j) (counting_main states last last j)) (eq-eqb (generation_of (node j)) start (ap generation_of is))

  module _ (t : ℕ) (h : t < last) (start : ℕ) where
    -- at the commit, and just behind it
    assigned_first : (j : Ref) → IsFresh run t start j → (IsOpen run t j → ⊥) → assigned_at states last start t j ≡ first_main states last j
    assigned_first j fresh closed = assigned_own start t j fresh.word fresh.link ∙ untouched t (omega arith) j closed

    assigned_next : (j : Ref) → IsFresh run t start j → (IsOpen run t j → ⊥) → assigned_at states last start (suc t) j ≡ first_main states last j
    assigned_next j fresh closed = assigned_own start (suc t) j fresh.word fresh.link ∙ closed_keeps run t h j closed ∙ untouched t (omega arith) j closed

    -- a chain leads on as it did
    chain_leads : (kind : HashKind) (other key : ℕ) (old s : Ref) (levels depth : ℕ) (j : Ref) → LeadsToPair node (first_main states last) kind other key old s levels depth j →
        IsChain run t start j → IsFresh run t start j → (IsOpen run t j → ⊥) →
        LeadsToPair node (assigned_at states last start (suc t)) kind other key old s levels depth j
    chain_leads kind other key old s levels depth j (at_pair left d i is parts) chain fresh closed =
        at_pair left d i (ap node (assigned_next i fresh closed) ∙ is) parts
    chain_leads kind other key old s levels depth j (by_rung left d i below word g is under index rest) (ends q not) fresh closed = absurd (not _ d below is)
    chain_leads kind other key old s levels depth j (by_rung left d i below word g is under index rest) (goes_on q next hash e next_is named stands more) fresh closed =
        let same : next ≡ below =
        one_entry below next (subst (λ n. Contains (entries_of n) next) is (subst (λ n. Contains (entries_of n) next) (sym next_is) (0, omega arith, refl))) in
        let below_closed = named_closed run t start next (first_main states last q) (omega arith) named
        (stands_not_given run t (first_main states last q) q (omega arith) stands closed) in
        by_rung left d i below word g (ap node (assigned_next i fresh closed) ∙ is) under index
        (chain_leads kind other key old s left (suc d) below rest (subst (λ r. IsChain run t start r) same more)
        (subst (λ r. IsFresh run t start r) same named.fresh)
        (subst (λ r. IsOpen run t r → ⊥) same below_closed))

    module _ (actor : ℕ) (f : Ref) (un : IsUncommitted run t f) where
      its_fresh : (r : Ref) → NamedOrHeld run t actor start f r → IsFresh run t start r
      its_fresh r (inl named) = named.fresh
      its_fresh r (inr held) = held.fresh

      its_closed : (r : Ref) → NamedOrHeld run t actor start f r → IsOpen run t r → ⊥
      its_closed r (inl named) = named_closed run t start r f (omega arith) named (uncommitted_not_given run t f (omega arith) un)
      its_closed r (inr held) = held_closed run t actor start r (omega arith) held

      update_known : (call : Call) (path : List Ref) (former : Option ℕ) (a : Ref) → HeldUpdate run t actor start call path former a f →
          KnowsSwap (known_with limits states last (assigned_at states last start (suc t))) call (depth_of path) a former f
      update_known call path former a x =
          swap_moves limits.hash node (first_main states last) (assigned_at states last start (suc t)) call (depth_of path) a f former x.knows
          (λ position link is none other old s levels d leads.
          let it = x.chain position link is none un in
          chain_leads limits.hash other (key_of call) old s levels d link leads it.1 (its_fresh link it.0) (its_closed link it.0))

      repair_known : (id : ℕ) (a : Ref) → HeldRepair run t actor id start a f →
          IsRepaired node (assigned_at states last start t) (GaveBelow states run.records last t actor id start) start a f
      repair_known id a x = (x.done, x.bitmap, x.entries, record { is = x.is; each = λ n lt. by_done (x.each n lt) }, x.all, (x.may_entomb, x.made))
        where
          by_done : {entry other : Ref} →
              DoneWith node (first_main states last) (GaveBelow states run.records last t actor id start)
              (λ r. IsUncommitted run t f → NamedOrHeld run t actor start f r) start entry other →
              IsDone node (assigned_at states last start t) (GaveBelow states run.records last t actor id start) start entry other
          by_done (kept e) = keeps e
          by_done (cleaned g word child is gave tomb) = cleans g word child is gave tomb
          by_done {entry} {other} (renewed g word word' child is apart is' gave at it) =
              renews g word word' child is apart is' gave (assigned_first other (its_fresh other (it un)) (its_closed other (it un)) ∙ at)

  fresh_known : FreshKnown run (assigned_at states last)
  fresh_known t h actor owner why i a f l start runs e begun commits = by_why why e
    where
      un : IsUncommitted run t f
      un = λ q s none. none≢pending none commits.was

      held : (w : Purpose) → owner.line ≡ line.Swap w (record { indirection = i; replaced = a; fresh = f; line = swap.Deciding l }) →
          HeldIn run t actor owner.id start owner.call (line.Swap w (record { indirection = i; replaced = a; fresh = f; line = swap.Deciding l }))
      held w e = subst (λ x. HeldIn run t actor owner.id start owner.call x) e (holds_at run t (omega arith) actor owner runs start begun)

      by_why : (w : Purpose) → owner.line ≡ line.Swap w (record { indirection = i; replaced = a; fresh = f; line = swap.Deciding l }) →
          KnowsFresh limits states run.records last (assigned_at states last) t actor start owner a f w
      by_why (purpose.Update path former) e = update_known t h start actor f un owner.call path former a (held _ e)
      by_why (purpose.Renew path) e = repair_known t h start actor f un owner.id a (held _ e)
      by_why purpose.Clean e = repair_known t h start actor f un owner.id a (held _ e)
      by_why (purpose.Climb c) e =
          subst (λ x. KnowsClimbing (known_with limits states last (first_main states last)) (Was states last t) owner.call x) e (climbs_at run t (omega arith) actor owner runs)

  -- each step commits nothing, or one fresh node, by the main nodes by which a generation's content is found then
  pub fresh_commits_at : CommitsAt limits states run.records last (assigned_at states last)
  fresh_commits_at = commits_by run (assigned_at states last) fresh_known
