-- A SWAP's last step: it retires one slot, or none, which hangs then.
use Rattle.std.proofs.Common.{◌≡◌, ◌≢◌, ◌++◌, ◌∷◌, ℕ, Bool, true, false, [], None, Option, if◌then◌else◌, refl, sym, ap, subst, ◌∙◌, Some}
use Rattle.trie_words.specs.declared.headers.Header.{Header}
use Rattle.machine_model.specs.Beneath.slot_arena.specs.declared.refs.Ref.{Ref}
use Rattle.machine_model.specs.Beneath.slot_arena.specs.Heaps.{node_at}
use Rattle.machine_model.specs.Beneath.slot_arena.specs.Refs.{slot_of}
use Rattle.machine_model.specs.declared.actions.Action.TheVariants as act
use Rattle.machine_model.specs.declared.lines.Purpose.{Purpose}
use Rattle.machine_model.specs.declared.lines.Line.{Line}
use Rattle.machine_model.specs.declared.lines.Line.TheVariants as line
use Rattle.machine_model.specs.declared.reading.SwapLine.TheVariants as swap
use Rattle.machine_model.specs.declared.operations.Operation.{Operation}
use Rattle.proof_memory.specs.Wants.{is_main_node}
use Rattle.lock_free.specs.declared.leaving.Swapping.{Swapping}
use Rattle.lock_free.specs.declared.limbo.Limbo.{Limbo}
use Rattle.lock_free.specs.declared.reclaiming.Decided.{Decided}
use Rattle.lock_free.specs.declared.reclaiming.Decided.TheVariants as decided
use Rattle.lock_free.specs.declared.reclaiming.Retiree.{Retiree}
use Rattle.lock_free.specs.declared.rules.View.{View}
use Rattle.lock_free.specs.Accounts.{place_of, IsOwn}
use Rattle.lock_free.specs.Classes.{shape_class}
use Rattle.lock_free.specs.Leaving.{HasCheckedOn, IsAtCheck, IsCheckOf}
use Rattle.lock_free.specs.LettingGo.{let_go, HoldsLeft}
use Rattle.lock_free.specs.Limbos.{Hanging, hanging_of, HasHung, IsLimbo, IsNewestOrNone}
use Rattle.lock_free.specs.Loading.{now, seen, Runs, IsAt, IsSound, HasHeader, HasReadHeader}
use Rattle.lock_free.specs.Nodes.{class_of, IsAhead}
use Rattle.lock_free.specs.Owing.{owes_then, owing}
use Rattle.lock_free.specs.Passing.{Later}
use Rattle.lock_free.specs.Places.{words_of}
use Rattle.lock_free.specs.Reclaiming.{is_committed, is_decided, retiree_of, AddsRetired, HasCheckedSwap, HasRetiredIt, HasRetiredOrNot, IsChecking}
use Rattle.lock_free.specs.Swaps.{is_done, retired_by, swap_on, swap_done, swapped_by, RetiresOwn}
use Rattle.lock_free.proofs.Asked.{read_is_met}
use Rattle.lock_free.proofs.Comings.{runs_one}
use Rattle.lock_free.proofs.Followings.{follows_later}
use Rattle.lock_free.proofs.GivenBack.{node_is}
use Rattle.lock_free.proofs.Laters.{went_later, waited_later}
use Rattle.lock_free.proofs.LimboStays.{newest_now}
use Rattle.lock_free.proofs.MainClasses.{header_class}
use Rattle.lock_free.proofs.NewNodes.{class_on}
use Rattle.lock_free.proofs.Passes.{none_says}
use Rattle.lock_free.proofs.RetireStep.{decided_none, undecided_some}
use Rattle.lock_free.proofs.Retirings.{sound_without}
use Rattle.lock_free.proofs.SwapRuns.{is_none, checks, not_none}
use Rattle.lock_free.proofs.Verdicts.{main_same, prev_is}

module _ (x : View) (s : Swapping) (at : IsAtCheck x s) where
  abbrev why : Purpose
  why = at.why

  abbrev i : Ref
  i = at.i

  abbrev a : Ref
  a = at.replaced

  abbrev f : Ref
  f = at.made

  abbrev p : Operation
  p = at.its.operation

  abbrev now_line : Line
  now_line = line.Swap why (record { indirection = i; replaced = a; fresh = f; line = swap.Check })

  -- it is one SWAP
  parts_in : Line → Purpose × Ref × Ref × Ref
  parts_in (line.Swap y z) = (y, z.indirection, z.replaced, z.fresh)
  parts_in l = (why, i, a, f)

  same_parts : (y : Purpose) (j b c : Ref) → IsCheckOf x y j b c s → ◌≡◌ {A = Purpose × Ref × Ref × Ref} (why, i, a, f) (y, j, b, c)
  unfolding parts_in
  same_parts y j b c other = ap parts_in (sym at.its.line_is ∙ ap (λ (z : Operation). z.line) (runs_one x p other.operation at.its.runs other.runs) ∙ other.line_is)

  abbrev all : (P : Purpose → Ref → Ref → Ref → Type 0) → P why i a f → (y : Purpose) (j b c : Ref) → IsCheckOf x y j b c s → P y j b c
  all P h y j b c other = subst (λ (z : Purpose × Ref × Ref × Ref). P z.0 z.1 z.2 z.3) (same_parts y j b c other) h

  line_of : (o : Operation) → Runs x o → o.line ≡ now_line
  line_of o r = ap (λ (z : Operation). z.line) (runs_one x o p r at.its.runs) ∙ at.its.line_is

  none_of : (o : Operation) → Runs x o → o.private ≡ []
  none_of o r = ap (λ (z : Operation). z.private) (runs_one x o p r at.its.runs) ∙ at.its.none

  goes_x : (o : Operation) → Runs x o → Runs x (swap_on why i a f swap.Check o)
  goes_x o r = subst (λ ps. Runs x (record o { private = ps; line = now_line })) (none_of o r) (subst (λ l. Runs x (record o { line = l })) (line_of o r) r)

  at_read : IsAt x (act.ReadPrev f)
  at_read = let r = goes_x p at.its.runs in record { operation = record (swap_on why i a f swap.Check p) { is_marked = r.0 }; runs = r.1; acts = refl }

  checking : IsChecking x i a f
  checking = let r = goes_x p at.its.runs in record { operation = record (swap_on why i a f swap.Check p) { is_marked = r.0 }; runs = r.1; why = why; line_is = refl }

  pub check_ready : (j : Ref) × (b : Ref) × (c : Ref) × IsChecking x j b c × IsOwn x.account j b s.replaced.own × (place_of x.account c ≡ s.fresh)
  check_ready = (i, a, f, checking, at.its.owns, at.its.fresh.1)

  module _ (n : ℕ) (sound_x : IsSound n x) (result : Decided) (z : View) (sound_z : IsSound n z)
      (checked : (j b c : Ref) → IsChecking x j b c → IsOwn x.account j b s.replaced.own → HasCheckedSwap x b c s.replaced s.class s.fresh result z) where
    its_check : HasCheckedSwap x a f s.replaced s.class s.fresh result z
    its_check = checked i a f checking at.its.owns

    abbrev gone : View
    gone = its_check.gone

    abbrev header : Header
    header = its_check.header

    abbrev g : HasReadHeader x header gone
    g = its_check.read

    abbrev w : View
    w = owing gone (owes_then x g.0.account)

    says : HasHeader g.0.account (now (seen x g.0.account)) f header
    says = (g.1 f at_read).0

    later_y : Later x (seen x g.0.account)
    later_y = waited_later n x sound_x g.0.account g.0.waited

    -- ---- those that it has retired

    hangs_gone : hanging_of gone ≡ hanging_of x
    hangs_gone = ap hanging_of g.0.after_is

    had : gone.retired ≡ x.retired
    had = ap (λ (p : Hanging). p.1) hangs_gone

    -- it has retired this slot, or none, and holds other references
    record Adds (r : Option Retiree) : Type 0 where
      is : z ≡ record gone { retired = z.retired; owed = z.owed }
      adds : AddsRetired r x.retired z.retired

    adds_none : z ≡ w → Adds None
    adds_none e = record { is = e ∙ ap (λ (y : View). record gone { retired = y.retired; owed = y.owed }) (sym e); adds = ap (λ (y : View). y.retired) e ∙ had }

    adds_one : (r : Ref) (class slot : ℕ) → HasRetiredIt x r false w z → class_of (node_at (now x).heap r) ≡ class → place_of x.account r ≡ slot → Adds (Some (record { class = class; slot = slot }))
    adds_one r class slot h kind place = record {
      is = h.is ∙ ap (λ (y : View). record gone { retired = y.retired; owed = y.owed }) (sym h.is);
      adds = (h.item, ap (λ (y : View). y.retired) h.is ∙ ap (λ xs. xs ++ h.item ∷ []) had, (h.class ∙ kind, h.name ∙ place, h.kind));
    }

    fresh_class : class_of (node_at (now x).heap f) ≡ shape_class header.shape
    fresh_class =
        sym (class_on x (seen x g.0.account) (follows_later x (seen x g.0.account) later_y) f at.its.fresh.0)
        ∙ header_class (words_of x.sizes) (seen x g.0.account) g.0.waited.sound f g.0.account header says

    committed_adds : is_committed result ≡ true → (own : Bool) → s.replaced.own ≡ own → Adds (if own then Some (record { class = s.class; slot = s.replaced.slot }) else None)
    committed_adds e true is =
        adds_one a s.class s.replaced.slot
        (subst (λ q. HasRetiredOrNot x q w z) (ap (λ b. let_go b (is_committed result) a f) is ∙ ap (λ b. let_go true b a f) e) its_check.retired)
        at.its.class at.its.old.1
    committed_adds e false is =
        adds_none (subst (λ q. HasRetiredOrNot x q w z) (ap (λ b. let_go b (is_committed result) a f) is ∙ ap (λ b. let_go false b a f) e) its_check.retired)

    refused_adds : is_committed result ≡ false → Adds (Some (record { class = shape_class header.shape; slot = s.fresh }))
    refused_adds e =
        adds_one f (shape_class header.shape) s.fresh
        (subst (λ q. HasRetiredOrNot x q w z) (ap (λ b. let_go s.replaced.own b a f) e ∙ let_fresh s.replaced.own) its_check.retired) fresh_class at.its.fresh.1
      where
        let_fresh : (own : Bool) → let_go own false a f ≡ Some f
        let_fresh true = refl
        let_fresh false = refl

    -- ---- what the operation comes to

    later_gone : z ≡ record gone { retired = z.retired; owed = z.owed } → Later x gone
    later_gone is = went_later n x sound_x n gone (sound_without n gone z (opened is) sound_z) g.0
      where
        opened : z ≡ record gone { retired = z.retired; owed = z.owed } → z ≡ record gone { epoch = z.epoch; passed = z.passed; retired = z.retired; owed = z.owed; links = z.links }
        opened is = is ∙ ap (λ (y : View). record gone { epoch = y.epoch; passed = y.passed; retired = y.retired; owed = y.owed; links = y.links }) (sym is)

    -- the fresh node is what it was
    fresh_same : node_at (now (seen x g.0.account)).heap f ≡ node_at (now x).heap f
    fresh_same =
        let was = at.its.fresh.0 in
        let y = later_y.nodes f was.0 was.1 in
        let there = node_is (now (seen x g.0.account)) f says.slot says.stores in
        let same : is_main_node y.0.node ≡ true = ap is_main_node (sym (node_is (now (seen x g.0.account)) f y.0 y.1) ∙ there) ∙ says.is_main in
        node_is (now (seen x g.0.account)) f y.0 y.1 ∙ main_same was.0.node y.0.node y.2 same ∙ sym (node_is (now x) f was.0 was.1)

    goes_on : (done : Bool) → is_none says.slot.prev ≡ done → (o : Operation) → Runs x o → Runs gone (swap_done why (node_at (now x).heap f) done o)
    goes_on done is o r =
        let (mark, runs) = goes_x o r in
        let there = g.0.waited.stays (record (swap_on why i a f swap.Check o) { is_marked = mark }) runs in
        let step = checks why i a f (now (seen x g.0.account)) o there.0 done (ap is_none (prev_is (now (seen x g.0.account)) f says.slot says.stores) ∙ is) in (
          there.0,
          g.0.took (record (swap_on why i a f swap.Check o) { is_marked = there.0 }) there.1
              ∙ ap Some (step ∙ ap (λ node. record (swap_done why node done o) { is_marked = there.0 }) fresh_same),
        )

    met : (j b c : Ref) → IsAhead (now (seen x g.0.account)) j b c → slot_of c ≢ slot_of f
    met =
        let there = g.0.waited.stays at_read.operation at_read.runs in
        read_is_met x.sizes g.0.account g.0.waited.sound.bounds x.actor (record at_read.operation { is_marked = there.0 }) there.1 f (there.2 ∙ at_read.acts)

    -- whether it was committed, by the node itself
    committed_is : (b : Bool) → is_decided header.previous ≡ b → is_none says.slot.prev ≡ b
    committed_is true e =
        ap is_none (none_says g.0.account (now (seen x g.0.account)) (slot_of f) says.slot.prev header.previous (decided_none header.previous e) says.is_previous)
    committed_is false e = not_none g.0.account (now (seen x g.0.account)) (slot_of f) says.slot.prev header.previous (undecided_some header.previous e) met says.is_previous

    -- ---- in each case

    record Comes : Type 0 where
      adds : Adds (retired_by (swapped_by result))
      which : RetiresOwn s.replaced s.class s.fresh (swapped_by result)
      done : is_none says.slot.prev ≡ is_done (swapped_by result)

    comes_by : (b : Bool) → is_decided header.previous ≡ b → Comes
    comes_by true e =
        let same : result ≡ decided.Commits (retiree_of s.replaced s.class) =
        its_check.is ∙ ap (λ b. if b then decided.Commits (retiree_of s.replaced s.class) else decided.Fails (record { class = shape_class header.shape; slot = s.fresh })) e in
        record {
          adds = subst (λ q. Adds (retired_by (swapped_by q))) (sym same) (committed_adds (ap is_committed same) s.replaced.own refl);
          which = subst (λ q. RetiresOwn s.replaced s.class s.fresh (swapped_by q)) (sym same) refl;
          done = committed_is true e ∙ sym (ap (λ q. is_done (swapped_by q)) same);
        }
    comes_by false e =
        let same : result ≡ decided.Fails (record { class = shape_class header.shape; slot = s.fresh }) =
        its_check.is ∙ ap (λ b. if b then decided.Commits (retiree_of s.replaced s.class) else decided.Fails (record { class = shape_class header.shape; slot = s.fresh })) e in
        record {
          adds = subst (λ q. Adds (retired_by (swapped_by q))) (sym same) (refused_adds (ap is_committed same));
          which = subst (λ q. RetiresOwn s.replaced s.class s.fresh (swapped_by q)) (sym same) refl;
          done = committed_is false e ∙ sym (ap (λ q. is_done (swapped_by q)) same);
        }

    its : Comes
    its = comes_by (is_decided header.previous) refl

    comes : (y : Purpose) (j b c : Ref) → IsCheckOf x y j b c s → (o : Operation) → Runs x o → Runs z (swap_done y (node_at (now x).heap c) (is_done (swapped_by result)) o)
    comes =
        all (λ y j b c. (o : Operation) → Runs x o → Runs z (swap_done y (node_at (now x).heap c) (is_done (swapped_by result)) o))
        (λ o r. subst (λ w. Runs w (swap_done why (node_at (now x).heap f) (is_done (swapped_by result)) o)) (sym its.adds.is) (goes_on (is_done (swapped_by result)) its.done o r))

    pub checked_sizes : z.sizes ≡ x.sizes
    checked_sizes = ap (λ (y : View). y.sizes) its.adds.is ∙ ap (λ (p : Hanging). p.0) hangs_gone

    -- all others hang
    pub newest : (limbo : Limbo) → IsLimbo limbo x → IsNewestOrNone limbo z (retired_by (swapped_by result))
    newest limbo h =
        newest_now limbo (retired_by (swapped_by result)) x z h checked_sizes (ap (λ (y : View). y.links) its.adds.is ∙ ap (λ (p : Hanging). p.2) hangs_gone)
        (ap (λ (y : View). y.epoch) its.adds.is ∙ ap (λ (p : Hanging). p.3) hangs_gone) its.adds.adds

    -- and then it too
    pub checked_on : (y : View) → HasHung z y → HasCheckedOn x s result y
    checked_on y hung =
        let same = ap (λ (u : View). u.retired) hung.is in
        let owed = ap (λ (u : View). u.owed) hung.is in
        record {
          ended = record {
            later = record {
              gone = gone;
              later = later_gone its.adds.is;
              is = hung.is ∙ ap (λ (u : View). record u { epoch = y.epoch; passed = y.passed; links = y.links }) its.adds.is
                  ∙ ap (λ xs. record gone { epoch = y.epoch; passed = y.passed; retired = xs; owed = z.owed; links = y.links }) (sym same)
                  ∙ ap (λ ks. record gone { epoch = y.epoch; passed = y.passed; retired = y.retired; owed = ks; links = y.links }) (sym owed);
            };
            which = its.which;
            comes = λ t j b c check o runs. subst (λ q. Runs q (swap_done t (node_at (now x).heap c) (is_done (swapped_by result)) o)) (sym hung.is) (comes t j b c check o runs);
          };
          adds = subst (AddsRetired (retired_by (swapped_by result)) x.retired) (sym same) its.adds.adds;
          holds = subst (λ ks. (t : Purpose) (j b c : Ref) → IsCheckOf x t j b c s → HoldsLeft x s.replaced.own b c (is_committed result) ks) (sym owed)
              (all (λ t j b c. HoldsLeft x s.replaced.own b c (is_committed result) z.owed) its_check.holds);
        }
