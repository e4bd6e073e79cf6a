-- Which indirections a fresh main node has that the node before it hadn't: the operation made them, and it alone names them.
use Rattle.std.proofs.Common.{◌≡◌, ℕ, ◌<◌, ◌≤◌, ◌-◌, ◌⊎◌, true, List, length, Contains, Option, Some, None, inl, inr, refl, sym, ap, ◌∙◌, subst, arith}
use Rattle.std.specs.Prelude.{slice_index_or}
use Rattle.std.proofs.lemmas.Bool.{false≢true}
use Rattle.std.proofs.lemmas.List.{get_or_read_under}
use Rattle.std.proofs.lemmas.List.Elements.{Contains-get_or}
use Rattle.proof_owned.specs.Beneath.slot_arena.specs.declared.refs.Ref.{Ref}
use Rattle.proof_owned.specs.Beneath.slot_arena.specs.declared.nodes.Node.{Node}
use Rattle.proof_owned.specs.Beneath.slot_arena.specs.Heaps.{entries_of, no_ref}
use Rattle.proof_owned.specs.Beneath.machine_model.specs.declared.building.BuildLine.TheVariants as build
use Rattle.proof_owned.specs.Beneath.machine_model.specs.declared.building.Change.{Change}
use Rattle.proof_owned.specs.Beneath.machine_model.specs.declared.building.Change.TheVariants as change
use Rattle.proof_owned.specs.Beneath.machine_model.specs.declared.lines.Line.{Line}
use Rattle.proof_owned.specs.Beneath.machine_model.specs.declared.lines.Line.TheVariants as line
use Rattle.proof_owned.specs.Beneath.machine_model.specs.declared.lines.Purpose.{Purpose}
use Rattle.proof_owned.specs.Beneath.machine_model.specs.declared.lines.Purpose.TheVariants as purpose
use Rattle.proof_owned.specs.Beneath.machine_model.specs.declared.operations.Operation.{Operation}
use Rattle.proof_owned.specs.Beneath.machine_model.specs.declared.reading.Swap.{Swap}
use Rattle.proof_owned.specs.Beneath.machine_model.specs.declared.repairs.Climb.{Climb}
use Rattle.proof_owned.specs.Beneath.machine_model.specs.declared.steps.Bounds.{Bounds}
use Rattle.proof_owned.specs.Beneath.machine_model.specs.Calls.{key_of}
use Rattle.proof_owned.specs.Beneath.machine_model.specs.Grown.{node_under}
use Rattle.proof_owned.specs.Beneath.machine_model.specs.Paths.{depth_of}
use Rattle.proof_owned.specs.Beneath.machine_model.specs.States.{State, operation_of}
use Rattle.proof_owned.specs.Beneath.machine_model.specs.Times.{IsRun}
use Rattle.proof_owned.specs.Beneath.history.specs.declared.calls.Call.{Call}
use Rattle.proof_owned.specs.Beneath.proof_contents.specs.Lines.Changes.{Known, KnowsLine, KnowsChange, IsOther, of_branch, of_list, Neighbour, LeadsBelow, by_pair, by_link, IsNewSingle, flag_in}
use Rattle.proof_owned.specs.Beneath.proof_contents.specs.Runs.{is_made}
use Rattle.proof_shape.specs.Lines.Climbing.{IsClimbed, KnowsClimbing}
use Rattle.proof_shape.specs.Lines.Given.{GaveBelow, Was}
use Rattle.proof_shape.specs.Lines.Knowing.{known_with, first_main, IsPlaced}
use Rattle.proof_shape.proofs.Held.At.{holds_at}
use Rattle.proof_shape.proofs.Held.Lines.{HeldIn, HeldUpdate, HeldRepair, NamedOrHeld, DoneWith, kept, renewed, cleaned}
use Rattle.proof_shape.proofs.Held.Fresh.{IsNamed, IsUncommitted, Names}
use Rattle.proof_shape.proofs.Lines.ClimbsAt.{climbs_at}
use Rattle.proof_shape.proofs.Lines.Knows.{knows_at}
use Rattle.proof_shape.proofs.Lines.Places.{places_at}
use Rattle.proof_shape.proofs.Runs.Entries.{IsBrought, changed_entries, contracted_entries, of_set, one_entry, pair_entries}
use Rattle.proof_owned.specs.Beneath.proof_memory.specs.Wants.{ASingle, meets}
use Rattle.proof_owned.proofs.Earlier.{IsLink, single_no_link}
use Rattle.proof_owned.proofs.Tombs.{tomb_single}

module _ {limits : Bounds} {states : ℕ → State} {last : ℕ} (run : IsRun limits states last) where
  abbrev node : Ref → Node
  node = node_under states last

  abbrev K : Known
  K = known_with limits states last (first_main states last)

  -- the main node names it, and so far no other does
  abbrev pub IsNew : ℕ → Ref → Ref → Type 0
  IsNew t m c = (start : ℕ) × IsNamed run t start c m

  single_of : (c : Ref) → IsLink run c → meets ASingle (node c) ≡ true → ⊥
  single_of c (h, word, is) e = false≢true (ap (meets ASingle) (sym is) ∙ e)

  module _ (t : ℕ) (k start : ℕ) (a f c : Ref) (link : IsLink run c) (names : Names run f c) (made : is_made states t f ≡ true) where
    -- one that the operation made
    new_one : (r : Ref) → c ≡ r → NamedOrHeld run t k start f r → Names run a c ⊎ IsNew t f c
    new_one r same (inl named) = inr (start, subst (λ y. IsNamed run t start y f) (sym same) named)
    new_one r same (inr held) = absurd (held.unnamed f made (subst (λ y. Names run f y) same names))

    -- ---- a change of a key

    module _ (call : Call) (depth : ℕ) (former : Option ℕ) where
      other_one : (other value : ℕ) (r : Ref) → c ≡ r → IsOther K depth (key_of call) a r value → Names run a c ⊎ IsNew t f c
      other_one other value r same (of_branch bitmap position own own_value entries flagged s two at left) = absurd (single_no_link run c (own, own_value, ap node same ∙ left) link)
      other_one other value r same (of_list position singles is lt s two at) =
          let among : Contains singles.items (slice_index_or singles.items (1 - position) no_ref) = Contains-get_or singles.items (1 - position) no_ref (omega (arith, two)) in
          inl (subst (λ n. Contains (entries_of n) c) (sym is) (subst (λ y. Contains singles.items y) (sym (same ∙ at)) among))

      by_change : (ch : Change) → KnowsChange K call depth a former ch →
          ((position : ℕ) (entry : Ref) → ch ≡ change.Update position entry → former ≡ None → NamedOrHeld run t k start f entry) → Names run a c ⊎ IsBrought ch c → Names run a c ⊎ IsNew t f c
      by_change ch known chain (inl before) = inl before
      by_change (change.Insert single) (ins, absence, new) chain (inr same) = absurd (single_no_link run c (_, _, ap node same ∙ new) link)
      by_change (change.Update position entry) (inl (value, had, sets, presence, new)) chain (inr same) = absurd (single_no_link run c (_, _, ap node same ∙ new) link)
      by_change (change.Update position entry) (inr (ins, rest)) chain (inr same) = new_one entry same (chain position entry refl ins.0)
      by_change (change.Remove position) known chain (inr wrong) = absurd wrong
      by_change (change.Entomb single) (value, had, removes, is) chain (inr same) = other_one 0 value single same is

    of_update : (call : Call) (path : List Ref) (former : Option ℕ) → HeldUpdate run t k start call path former a f → IsUncommitted run t f → Names run a c ⊎ IsNew t f c
    of_update call path former x un =
        by_change call (depth_of path) former x.knows.0 x.knows.1 (λ position entry e none. (x.chain position entry e none un).0)
        (changed_entries (flag_in K (depth_of path) (key_of call)) (node a) x.knows.0 c (subst (λ n. Contains (entries_of n) c) x.knows.2 names))

    -- ---- a repair

    of_repair : (id : ℕ) → HeldRepair run t k id start a f → IsUncommitted run t f → Names run a c ⊎ IsNew t f c
    of_repair id x un = by (contracted_entries x.may_entomb x.bitmap x.done c (subst (λ n. Contains (entries_of n) c) x.made names))
      where
        at_place : (n : ℕ) → n < length x.done → (other : Ref) → c ≡ other →
            DoneWith (node_under states last) (first_main states last) (GaveBelow states run.records last t k id start) (λ r. IsUncommitted run t f → NamedOrHeld run t k start f r) start
            (slice_index_or x.entries.items n no_ref) other → Names run a c ⊎ IsNew t f c
        at_place n lt other same (kept e) =
            let among : Contains x.entries.items (slice_index_or x.entries.items n no_ref) = Contains-get_or x.entries.items n no_ref (omega (arith, lt, x.all)) in
            inl (subst (λ y. Contains (entries_of y) c) (sym x.is) (subst (λ y. Contains x.entries.items y) (e ∙ sym same) among))
        at_place n lt other same (renewed h word word' child is apart is' gave at it) = new_one other same (it un)
        at_place n lt other same (cleaned h word child is gave tomb) = absurd (single_of c link (ap (λ y. meets ASingle (node y)) same ∙ tomb_single run child other tomb))

        by : Contains x.done c → Names run a c ⊎ IsNew t f c
        by (n, lt, e) = at_place n lt (slice_index_or x.done n no_ref) (get_or_read_under x.done n (length x.done) c no_ref (sym e) lt refl) (x.each n lt)

    of_climb : (call : Call) (cl : Climb) → IsClimbed K (Was states last t) call cl a f → Names run a c ⊎ IsNew t f c
    of_climb call cl x = by (of_set x.parent.entries.items x.parent.position cl.single c (contracted_entries x.may_entomb x.parent.bitmap _ c (subst (λ n. Contains (entries_of n) c) x.made names)))
      where
        by : Contains x.parent.entries.items c ⊎ (c ≡ cl.single) → Names run a c ⊎ IsNew t f c
        by (inl among) = inl (subst (λ y. Contains (entries_of y) c) (sym x.parent.branch.is) among)
        by (inr same) = absurd (single_of c link (ap (λ y. meets ASingle (node y)) same ∙ tomb_single run x.tombed.tomb cl.single x.tombed.is))

  -- ---- of a line

  module _ (t : ℕ) (within : t ≤ last) (k : ℕ) (operation : Operation) (runs : operation_of (states t) k ≡ Some operation) where
    held : (l : Line) → operation.line ≡ l → (start : ℕ) → operation.generation ≡ Some start → HeldIn run t k operation.id start operation.call l
    held l is start begun = subst (λ x. HeldIn run t k operation.id start operation.call x) is (holds_at run t within k operation runs start begun)

    -- an indirection in a fresh node of a SWAP is one of the node that it is to replace, or new
    pub swaps_new : (why : Purpose) (s : Swap) → operation.line ≡ line.Swap why s → (c : Ref) → IsLink run c → Names run s.fresh c → is_made states t s.fresh ≡ true → IsUncommitted run t s.fresh →
        Names run s.replaced c ⊎ IsNew t s.fresh c
    swaps_new why s is c link names made un = by why is (subst (λ l. IsPlaced operation.generation l) is (places_at run t within k operation runs)).0
      where
        by : (w : Purpose) → operation.line ≡ line.Swap w s → ((start : ℕ) × (operation.generation ≡ Some start)) → Names run s.replaced c ⊎ IsNew t s.fresh c
        by (purpose.Update path former) at (start, begun) = of_update t k start s.replaced s.fresh c link names made operation.call path former (held _ at start begun) un
        by (purpose.Renew path) at (start, begun) = of_repair t k start s.replaced s.fresh c link names made operation.id (held _ at start begun) un
        by purpose.Clean at (start, begun) = of_repair t k start s.replaced s.fresh c link names made operation.id (held _ at start begun) un
        by (purpose.Climb cl) at (start, begun) =
            of_climb t k start s.replaced s.fresh c link names made operation.call cl (subst (λ l. KnowsClimbing K (Was states last t) operation.call l) at (climbs_at run t within k operation runs))

    -- in a main node over which BUILD makes an indirection it is new
    pub builds_new : (path : List Ref) (main : Ref) (position : ℕ) (below : Ref) (depth : ℕ) → operation.line ≡ line.Build (build.Link path main position below depth) →
        (c : Ref) → IsLink run c → Names run below c → IsNew t below c
    builds_new path main position below depth is c link names =
        let (ins, (beside, single, new, leads)) = subst (λ l. KnowsLine K operation.call l) is (knows_at run t within k operation runs) in
        by beside single new leads (subst (λ l. IsPlaced operation.generation l) is (places_at run t within k operation runs))
      where
        by : (beside : Neighbour K (depth_of path) (key_of operation.call) main position) (single : Ref) → IsNewSingle K operation.call single →
            LeadsBelow K operation.call (depth_of path) main position beside single depth below → ((start : ℕ) × (operation.generation ≡ Some start)) → IsNew t below c
        by beside single new (by_pair is' parts above deep alike) placed =
            absurd (elim (pair_entries K.kind depth _ _ _ single c (subst (λ n. Contains (entries_of n) c) is' names)) [
              | inl same ↦ single_no_link run c (beside.other, beside.own, ap node same ∙ beside.is) link
              | inr same ↦ single_no_link run c (_, _, ap node same ∙ new) link
            ])
        by beside single new (by_link rest at both above alike) (start, begun) =
            let same : c ≡ rest = one_entry rest c (subst (λ n. Contains (entries_of n) c) at names) in
            (start, subst (λ y. IsNamed run t start y below) (sym same) ((held _ is start begun) _ depth rest at).0)
