-- Where the entries of a fresh main node come from: the node before had them, or they are new, or a tomb or an older indirection below it gave way for them.
use Rattle.std.proofs.Common.{◌≡◌, ℕ, suc, ◌<◌, ◌≤◌, ◌⊎◌, true, false, Bool, length, Contains, Some, inl, inr, refl, sym, ap, ◌∙◌, subst, ltb-true, ltb-false, arith}
use Rattle.std.specs.Prelude.{slice_index_or, nat_lt}
use Rattle.std.proofs.lemmas.Bool.{true≢false}
use Rattle.std.proofs.lemmas.List.{get_or_past, get_or_read_under}
use Rattle.std.proofs.lemmas.List.Elements.{Contains-get_or}
use Rattle.proof_shape.specs.Vocabulary.{Ref, Node, Indirection, Tomb, Purpose, Operation, Bounds, State, operation_of, node_under, IsRun, Swap, Climb, Call, entries_of, no_ref, current}
use Rattle.proof_owned.specs.Beneath.machine_model.specs.declared.lines.Line.TheVariants as line
use Rattle.proof_owned.specs.Beneath.machine_model.specs.declared.lines.Purpose.TheVariants as purpose
use Rattle.proof_owned.specs.Beneath.proof_memory.specs.Wants.{is_indirection}
use Rattle.proof_owned.specs.Beneath.proof_generations.proofs.Falling.NoRef.{no_node}
use Rattle.proof_owned.specs.Beneath.proof_contents.specs.Lines.Changes.{Known}
use Rattle.proof_owned.specs.Beneath.proof_contents.specs.Lines.Repairs.{IsDone, keeps, renews, cleans, IsRepaired, KnowsRepair}
use Rattle.proof_owned.specs.Beneath.proof_contents.specs.Runs.{counting_main}
use Rattle.proof_shape.specs.Lines.Climbing.{IsClimbed, KnowsClimbing}
use Rattle.proof_shape.specs.Lines.Given.{GaveBelow, Was}
use Rattle.proof_shape.specs.Lines.Knowing.{known_with, first_main, IsPlaced}
use Rattle.proof_shape.proofs.Held.Fresh.{Names}
use Rattle.proof_shape.proofs.Lines.ClimbsAt.{climbs_at}
use Rattle.proof_shape.proofs.Lines.Places.{places_at}
use Rattle.proof_shape.proofs.Lines.RepairsAt.{repairs_at}
use Rattle.proof_shape.proofs.Runs.Entries.{contracted_entries, of_set}
use Rattle.proof_owned.proofs.Earlier.{IsLink}
use Rattle.proof_owned.proofs.SinglesNew.{IsFirst, IsMoved, IsChanged, Carries, entry_in}
use Rattle.proof_owned.proofs.SinglesMade.{carries_at}

module _ {limits : Bounds} {states : ℕ → State} {last : ℕ} (run : IsRun limits states last) where
  abbrev node : Ref → Node
  node = node_under states last

  abbrev K : Known
  K = known_with limits states last (first_main states last)

  pub not_none_ref : IsLink run no_ref → ⊥
  not_none_ref (h, word, is) = true≢false (sym (ap is_indirection is) ∙ ap is_indirection (no_node run last (omega arith)))

  -- what is found at a position is an entry, or there is none
  pub found_or_none : (a : Ref) (position : ℕ) → Names run a (entry_in run a position) ⊎ (entry_in run a position ≡ no_ref)
  found_or_none a position = by (nat_lt position (length (entries_of (node_under states last a)))) refl
    where
      by : (b : Bool) → nat_lt position (length (entries_of (node_under states last a))) ≡ b → Names run a (entry_in run a position) ⊎ (entry_in run a position ≡ no_ref)
      by true lt = inl (Contains-get_or (entries_of (node_under states last a)) position no_ref (ltb-true position (length (entries_of (node_under states last a))) lt))
      by false ge = inr (get_or_past (entries_of (node_under states last a)) position no_ref (ltb-false position (length (entries_of (node_under states last a))) ge))

  -- an indirection that the node before names had this main node once
  pub record WasBelow (t : ℕ) (a child : Ref) : Type 0 where
    pub below : Ref
    pub link : IsLink run below
    pub names : Names run a below
    pub at : ℕ
    pub past : at ≤ t
    pub was : counting_main states last at below ≡ child

  pub data Comes (t k id start : ℕ) (a f y : Ref) : Type 0 where
    stood : Names run a y → Comes t k id start a f y
    is_first : IsFirst run f y → Comes t k id start a f y
    moved : IsMoved run a f y → Comes t k id start a f y
    renewed : (h : ℕ) (word : Ref) (child : Ref) (was : WasBelow t a child) → GaveBelow states run.records last t k id start was.below child →
        node_under states last was.below ≡ Indirection h word → (h ≡ start → ⊥) → IsLink run y → first_main states last y ≡ child → Comes t k id start a f y
    from_tomb : (tomb : Ref) → WasBelow t a tomb → node_under states last tomb ≡ Tomb y → Comes t k id start a f y

  module _ (t k : ℕ) (operation : Operation) (start : ℕ) (a f y : Ref) (names : Names run f y) where
    of_update : IsChanged run a f → Comes t k operation.id start a f y
    of_update x = by (x y names)
      where
        by : Names run a y ⊎ (IsFirst run f y ⊎ IsMoved run a f y) → Comes t k operation.id start a f y
        by (inl before) = stood before
        by (inr (inl new)) = is_first new
        by (inr (inr beside)) = moved beside

    of_repair : IsRepaired (node_under states last) (first_main states last) (GaveBelow states run.records last t k operation.id start) start a f → Comes t k operation.id start a f y
    of_repair (done, bitmap, entries, are, count, (may_entomb, made)) = by (contracted_entries may_entomb bitmap done y (subst (λ n. Contains (entries_of n) y) made names))
      where
        among : (n : ℕ) → n < length done → Names run a (slice_index_or entries.items n no_ref)
        among n lt = subst (λ x. Contains (entries_of x) (slice_index_or entries.items n no_ref)) (sym are.is) (Contains-get_or entries.items n no_ref (omega (arith, lt, count)))

        below : (n : ℕ) → n < length done → (h : ℕ) (word child : Ref) → node (slice_index_or entries.items n no_ref) ≡ Indirection h word →
            GaveBelow states run.records last t k operation.id start (slice_index_or entries.items n no_ref) child → WasBelow t a child
        below n lt h word child is gave = record {
          below = slice_index_or entries.items n no_ref;
          link = (h, word, is);
          names = among n lt;
          at = suc gave.gave.moment;
          past = omega (arith, gave.gave.is_moment.past, gave.gave.past);
          was = gave.gave.is;
        }

        at_place : (n : ℕ) → n < length done → (other : Ref) → y ≡ other →
            IsDone (node_under states last) (first_main states last) (GaveBelow states run.records last t k operation.id start) start (slice_index_or entries.items n no_ref) other →
            Comes t k operation.id start a f y
        at_place n lt other same (keeps e) = stood (subst (λ x. Names run a x) (e ∙ sym same) (among n lt))
        at_place n lt other same (renews h word word' child is apart is' gave at) =
            renewed h word child (below n lt h word child is gave) gave is apart (start, word', ap node same ∙ is') (ap (first_main states last) same ∙ at)
        at_place n lt other same (cleans h word child is gave tomb) = from_tomb child (below n lt h word child is gave) (tomb ∙ ap Tomb (sym same))

        by : Contains done y → Comes t k operation.id start a f y
        by (n, lt, e) = at_place n lt (slice_index_or done n no_ref) (get_or_read_under done n (length done) y no_ref (sym e) lt refl) (are.each n lt)

    of_climb : (call : Call) (cl : Climb) → IsClimbed K (Was states last t) call cl a f → Comes t k operation.id start a f y
    of_climb call cl x = by (of_set x.parent.entries.items x.parent.position cl.single y (contracted_entries x.may_entomb x.parent.bitmap _ y (subst (λ n. Contains (entries_of n) y) x.made names)))
      where
        by_place : Names run a (current cl.path) ⊎ (current cl.path ≡ no_ref) → Names run a (current cl.path)
        by_place (inl it) = it
        by_place (inr nothing) = absurd (not_none_ref (x.tombed.generation, x.tombed.word, ap node (sym nothing) ∙ x.tombed.link))

        at_place : entry_in run a x.parent.position ≡ current cl.path
        at_place = ap (λ n. slice_index_or (entries_of n) x.parent.position no_ref) x.parent.branch.is ∙ x.parent.holds

        in_branch : Names run a (current cl.path)
        in_branch = by_place (subst (λ r. Names run a r ⊎ (r ≡ no_ref)) at_place (found_or_none a x.parent.position))

        by : Contains x.parent.entries.items y ⊎ (y ≡ cl.single) → Comes t k operation.id start a f y
        by (inl among) = stood (subst (λ n. Contains (entries_of n) y) (sym x.parent.branch.is) among)
        by (inr same) = from_tomb x.tombed.tomb (record {
          below = current cl.path;
          link = (x.tombed.generation, x.tombed.word, x.tombed.link);
          names = in_branch;
          at = x.tombed.was.0;
          past = x.tombed.was.1;
          was = x.tombed.was.2;
        }) (x.tombed.is ∙ ap Tomb (sym same))

  module _ (t : ℕ) (within : t ≤ last) (k : ℕ) (operation : Operation) (runs : operation_of (states t) k ≡ Some operation) where
    pub record ComesSo (a f y : Ref) : Type 0 where
      pub start : ℕ
      pub begun : operation.generation ≡ Some start
      pub comes : Comes t k operation.id start a f y

    -- an entry of the fresh node of a SWAP
    pub swaps_from : (why : Purpose) (s : Swap) → operation.line ≡ line.Swap why s → (y : Ref) → Names run s.fresh y → ComesSo s.replaced s.fresh y
    swaps_from why s is y names =
        let (start, begun) = (subst (λ l. IsPlaced operation.generation l) is (places_at run t within k operation runs)).0 in
        record { start = start; begun = begun; comes = by why is start begun }
      where
        by : (v : Purpose) → operation.line ≡ line.Swap v s → (start : ℕ) → operation.generation ≡ Some start → Comes t k operation.id start s.replaced s.fresh y
        by (purpose.Update path former) at start begun = of_update t k operation start s.replaced s.fresh y names (subst (λ l. Carries run t k l) at (carries_at run t within k operation runs))
        by (purpose.Renew path) at start begun =
            of_repair t k operation start s.replaced s.fresh y names
            (subst (λ l. KnowsRepair (node_under states last) (first_main states last) (GaveBelow states run.records last t k operation.id start) start l) at
            (repairs_at run t within k operation runs start begun))
        by purpose.Clean at start begun =
            of_repair t k operation start s.replaced s.fresh y names
            (subst (λ l. KnowsRepair (node_under states last) (first_main states last) (GaveBelow states run.records last t k operation.id start) start l) at
            (repairs_at run t within k operation runs start begun))
        by (purpose.Climb cl) at start begun =
            of_climb t k operation start s.replaced s.fresh y names operation.call cl (subst (λ l. KnowsClimbing K (Was states last t) operation.call l) at (climbs_at run t within k operation runs))
