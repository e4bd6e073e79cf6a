-- The indirections that a line's operation made, and that nobody else can come to read; and that others' steps leave them so.
use Rattle.std.proofs.Common.{◌≡◌, ◌≢◌, ℕ, suc, ◌<◌, ◌⊎◌, Bool, List, length, slice_index_or, Option, None, inl, inr, arith}
use Rattle.arrayvec.specs.ArrayVec.{ArrayVec}
use Rattle.proof_shape.specs.Vocabulary.{Call, Ref, Node, Indirection, Branch, Single, Tomb, entries_of, no_ref, rung, contracted, BuildLine, Change, Line, CleanLine, RenewLine, Bounds, State}
use Rattle.proof_shape.specs.Vocabulary.{depth_of, node_under, IsRun, KnowsSwap}
use Rattle.proof_shape.specs.Beneath.machine_model.specs.declared.building.BuildLine.TheVariants as build
use Rattle.proof_shape.specs.Beneath.machine_model.specs.declared.building.Change.TheVariants as change
use Rattle.proof_shape.specs.Beneath.machine_model.specs.declared.lines.Line.TheVariants as line
use Rattle.proof_shape.specs.Beneath.machine_model.specs.declared.lines.Purpose.TheVariants as purpose
use Rattle.proof_shape.specs.Beneath.machine_model.specs.declared.repairs.CleanLine.TheVariants as clean
use Rattle.proof_shape.specs.Beneath.machine_model.specs.declared.repairs.RenewLine.TheVariants as renew
use Rattle.proof_shape.specs.Lines.Given.{GaveBelow}
use Rattle.proof_shape.specs.Lines.Knowing.{known_with, first_main}
use Rattle.proof_shape.proofs.Opened.Mains.{IsOpen}
use Rattle.proof_shape.proofs.Lines.RepairsAt.{gave_below_later}
use Rattle.proof_shape.proofs.Held.Fresh.{IsHeld, IsNamed, IsChain, NotGiven, IsUncommitted, NewNames, held_closed, named_closed, uncommitted_not_given, uncommitted_before, named_still, chain_still}

-- an entry was kept, or is a single, or was made anew
pub data Came (node : Ref → Node) (N : Ref → Type 0) (entry other : Ref) : Type 0 where
  same : entry ≡ other → Came node N entry other
  single : (k v : ℕ) → node other ≡ Single k v → Came node N entry other
  anew : N other → Came node N entry other

-- an entry of a repair, where N is said of those that were made anew
pub data DoneWith (node : Ref → Node) (first : Ref → Ref) (G : Ref → Ref → Type 0) (N : Ref → Type 0) (start : ℕ) (entry other : Ref) : Type 0 where
  kept : entry ≡ other → DoneWith node first G N start entry other
  renewed : (h : ℕ) (word word' child : Ref) → node entry ≡ Indirection h word → h ≢ start → node other ≡ Indirection start word' → G entry child → first other ≡ child → N other →
      DoneWith node first G N start entry other
  cleaned : (h : ℕ) (word child : Ref) → node entry ≡ Indirection h word → G entry child → node child ≡ Tomb other → DoneWith node first G N start entry other

module _ {limits : Bounds} {states : ℕ → State} {last : ℕ} (run : IsRun limits states last) where
  abbrev node : Ref → Node
  node = node_under states last

  -- the fresh node alone names it, or none does
  abbrev pub NamedOrHeld : (t k start : ℕ) → Ref → Ref → Type 0
  NamedOrHeld t k start f r = IsNamed run t start r f ⊎ IsHeld run t k start r

  abbrev pub AllCame : (Ref → Type 0) → Ref → List Ref → Type 0
  AllCame N main done =
      (n : ℕ) → n < length done → Came (node_under states last) N (slice_index_or (entries_of (node_under states last main)) n no_ref) (slice_index_or done n no_ref)

  -- of a fresh main node of a repair
  pub record HeldRepair (t k id start : ℕ) (replaced fresh : Ref) : Type 0 where
    pub done : List Ref
    pub bitmap : ℕ
    pub entries : ArrayVec Ref
    pub is : node_under states last replaced ≡ Branch bitmap entries
    pub each : (n : ℕ) → n < length done →
        DoneWith (node_under states last) (first_main states last) (GaveBelow states run.records last t k id start)
        (λ r. IsUncommitted run t fresh → NamedOrHeld t k start fresh r) start
        (slice_index_or entries.items n no_ref) (slice_index_or done n no_ref)
    pub all : length done ≡ length entries.items
    pub may_entomb : Bool
    pub made : node_under states last fresh ≡ contracted may_entomb bitmap done

  -- of one of an own update: the chain beside another key's single
  pub record HeldUpdate (t k start : ℕ) (call : Call) (path : List Ref) (former : Option ℕ) (replaced fresh : Ref) : Type 0 where
    pub knows : KnowsSwap (known_with limits states last (first_main states last)) call (depth_of path) replaced former fresh
    pub chain : (position : ℕ) (link : Ref) → knows.0 ≡ change.Update position link → former ≡ None → IsUncommitted run t fresh →
        NamedOrHeld t k start fresh link × IsChain run t start link

  -- of a main node that is to stand in a link
  abbrev pub HeldNode : (t start : ℕ) → Ref → Type 0
  HeldNode t start n =
      (hash depth r : ℕ) → node_under states last n ≡ rung hash depth r → IsNamed run t start r n × IsChain run t start r

  abbrev pub HeldLink : (t k start : ℕ) → Ref → Type 0
  HeldLink t k start j = IsHeld run t k start j × IsChain run t start j

  abbrev pub HeldChange : (t k start : ℕ) → Option ℕ → Change → Type 0
  HeldChange t k start former (change.Update position entry) = former ≡ None → HeldLink t k start entry
  HeldChange t k start former c = Unit {0}

  abbrev pub HeldBuild : (t k start : ℕ) → BuildLine → Type 0
  HeldBuild t k start (build.Link path main position below depth) = HeldNode t start below
  HeldBuild t k start (build.Rung path main position below depth) = HeldLink t k start below
  HeldBuild t k start (build.Main path main c former) = HeldChange t k start former c
  HeldBuild t k start l = Unit {0}

  abbrev pub HeldRenew : (t k start : ℕ) → RenewLine → Type 0
  HeldRenew t k start (renew.Entry path main done) = AllCame (IsHeld run t k start) main done
  HeldRenew t k start (renew.Read path main done r) = AllCame (IsHeld run t k start) main done
  HeldRenew t k start (renew.Link path main done child) = AllCame (IsHeld run t k start) main done
  HeldRenew t k start (renew.Branch path main done) = AllCame (IsHeld run t k start) main done

  abbrev pub HeldClean : (t k start : ℕ) → CleanLine → Type 0
  HeldClean t k start (clean.Entry path main done) = AllCame (IsHeld run t k start) main done
  HeldClean t k start (clean.Child path main done r) = AllCame (IsHeld run t k start) main done
  HeldClean t k start (clean.Tomb path main done child) = AllCame (IsHeld run t k start) main done
  HeldClean t k start (clean.Contracted path main done) = AllCame (IsHeld run t k start) main done
  HeldClean t k start l = Unit {0}

  abbrev pub HeldIn : (t k id start : ℕ) → Call → Line → Type 0
  HeldIn t k id start call (line.Build l) = HeldBuild t k start l
  HeldIn t k id start call (line.Swap (purpose.Update path former) s) = HeldUpdate t k start call path former s.replaced s.fresh
  HeldIn t k id start call (line.Swap (purpose.Renew path) s) = HeldRepair t k id start s.replaced s.fresh
  HeldIn t k id start call (line.Swap purpose.Clean s) = HeldRepair t k id start s.replaced s.fresh
  HeldIn t k id start call (line.Renew l) = HeldRenew t k start l
  HeldIn t k id start call (line.Clean l) = HeldClean t k start l
  HeldIn t k id start call l = Unit {0}

  -- ---- one step later, where each held one stays held

  module _ (t : ℕ) (h : t < last) (k id start : ℕ) (new : NewNames run t)
      (held : (j : Ref) → IsHeld run t k start j → IsHeld run (suc t) k start j) where
    came_still : (entry other : Ref) → Came node (IsHeld run t k start) entry other → Came node (IsHeld run (suc t) k start) entry other
    came_still entry other (same e) = same e
    came_still entry other (single q v e) = single q v e
    came_still entry other (anew j) = anew (held other j)

    pub all_still : (main : Ref) (done : List Ref) → AllCame (IsHeld run t k start) main done → AllCame (IsHeld run (suc t) k start) main done
    all_still main done all n lt = came_still _ _ (all n lt)

    fresh_still : (f : Ref) → IsUncommitted run (suc t) f → (r : Ref) → NamedOrHeld t k start f r → NamedOrHeld (suc t) k start f r
    fresh_still f un r (inl named) =
        inl (named_still run t start r f new
        (named_closed run t start r f (omega arith) named
        (uncommitted_not_given run t f (omega arith) (uncommitted_before run t f h un))) named)
    fresh_still f un r (inr j) = inr (held r j)

    fresh_closed : (f : Ref) → IsUncommitted run t f → (r : Ref) → NamedOrHeld t k start f r → IsOpen run t r → ⊥
    fresh_closed f un r (inl named) = named_closed run t start r f (omega arith) named (uncommitted_not_given run t f (omega arith) un)
    fresh_closed f un r (inr j) = held_closed run t k start r (omega arith) j

    done_still : (f entry other : Ref) →
        DoneWith node (first_main states last) (GaveBelow states run.records last t k id start) (λ r. IsUncommitted run t f → NamedOrHeld t k start f r) start entry other →
        DoneWith node (first_main states last) (GaveBelow states run.records last (suc t) k id start)
        (λ r. IsUncommitted run (suc t) f → NamedOrHeld (suc t) k start f r) start entry other
    done_still f entry other (kept e) = kept e
    done_still f entry other (renewed g word word' child is apart is' gave at it) =
        renewed g word word' child is apart is' (gave_below_later states run.records last t k id start entry child gave) at
        (λ un. fresh_still f un other (it (uncommitted_before run t f h un)))
    done_still f entry other (cleaned g word child is gave tomb) = cleaned g word child is (gave_below_later states run.records last t k id start entry child gave) tomb

    pub repair_still : (replaced fresh : Ref) → HeldRepair t k id start replaced fresh → HeldRepair (suc t) k id start replaced fresh
    repair_still replaced fresh x = record {
      done = x.done;
      bitmap = x.bitmap;
      entries = x.entries;
      is = x.is;
      each = λ n lt. done_still fresh _ _ (x.each n lt);
      all = x.all;
      may_entomb = x.may_entomb;
      made = x.made;
    }

    pub update_still : (call : Call) (path : List Ref) (former : Option ℕ) (replaced fresh : Ref) → HeldUpdate t k start call path former replaced fresh →
        HeldUpdate (suc t) k start call path former replaced fresh
    update_still call path former replaced fresh x = record {
      knows = x.knows;
      chain = λ position link is none un.
          let before = uncommitted_before run t fresh h un in
          let it = x.chain position link is none before in
          (fresh_still fresh un link it.0, chain_still run t start h new link (fresh_closed fresh before link it.0) it.1);
    }

    pub link_still : (j : Ref) → HeldLink t k start j → HeldLink (suc t) k start j
    link_still j x = (held j x.0, chain_still run t start h new j (held_closed run t k start j (omega arith) x.0) x.1)

    pub node_still : (n : Ref) → NotGiven run t n → HeldNode t start n → HeldNode (suc t) start n
    node_still n not x hash depth r is =
        let it = x hash depth r is in
        let closed = named_closed run t start r n (omega arith) it.0 not in
        (named_still run t start r n new closed it.0, chain_still run t start h new r closed it.1)

    change_still : (former : Option ℕ) (c : Change) → HeldChange t k start former c → HeldChange (suc t) k start former c
    change_still former (change.Update position entry) x = λ none. link_still entry (x none)
    change_still former (change.Insert s) x = tt
    change_still former (change.Remove position) x = tt
    change_still former (change.Entomb s) x = tt

    -- the main node that is to stand in a link wasn't given
    abbrev pub NodeNotGiven : Line → Type 0
    NodeNotGiven (line.Build (build.Link path main position below depth)) = NotGiven run t below
    NodeNotGiven l = Unit {0}

    build_still : (l : BuildLine) → NodeNotGiven (line.Build l) → HeldBuild t k start l → HeldBuild (suc t) k start l
    build_still (build.Link path main position below depth) not x = node_still below not x
    build_still (build.Rung path main position below depth) not x = link_still below x
    build_still (build.Main path main c former) not x = change_still former c x
    build_still (build.Single path main s former) not x = tt
    build_still (build.Pair path main position s depth) not x = tt

    renew_still : (l : RenewLine) → HeldRenew t k start l → HeldRenew (suc t) k start l
    renew_still (renew.Entry path main done) x = all_still main done x
    renew_still (renew.Read path main done r) x = all_still main done x
    renew_still (renew.Link path main done child) x = all_still main done x
    renew_still (renew.Branch path main done) x = all_still main done x

    clean_still : (l : CleanLine) → HeldClean t k start l → HeldClean (suc t) k start l
    clean_still (clean.Entry path main done) x = all_still main done x
    clean_still (clean.Child path main done r) x = all_still main done x
    clean_still (clean.Tomb path main done child) x = all_still main done x
    clean_still (clean.Contracted path main done) x = all_still main done x
    clean_still (clean.Read path r) x = tt
    clean_still (clean.Main path main) x = tt

    pub line_still : (call : Call) (l : Line) → NodeNotGiven l → HeldIn t k id start call l → HeldIn (suc t) k id start call l
    line_still call (line.Build l) not x = build_still l not x
    line_still call (line.Swap (purpose.Update path former) s) not x = update_still call path former s.replaced s.fresh x
    line_still call (line.Swap (purpose.Renew path) s) not x = repair_still s.replaced s.fresh x
    line_still call (line.Swap purpose.Clean s) not x = repair_still s.replaced s.fresh x
    line_still call (line.Swap (purpose.Climb c) s) not x = tt
    line_still call (line.Renew l) not x = renew_still l x
    line_still call (line.Clean l) not x = clean_still l x
    line_still call (line.Root l) not x = tt
    line_still call (line.Key l) not x = tt
    line_still call (line.Climb l) not x = tt
    line_still call (line.Copy l) not x = tt
    line_still call (line.Walk l) not x = tt
    line_still call (line.End answer) not x = tt
    line_still call line.Impossible not x = tt
