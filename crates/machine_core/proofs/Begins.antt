-- What a begin leaves: the state is the definition's, and all that is kept is kept.
use Rattle.std.proofs.Common.{◌≡◌, ℕ, ◌+◌, ◌-◌, Bool, false, List, [], length, set, get_or, Option, Some, None, refl, sym, ap, ◌∙◌, subst, arith, inl, inr}
use Rattle.std.specs.Prelude.{option_and_then, option_map, unwrap_or, if◌then◌else◌, ◌⊎◌}
use Rattle.std.proofs.lemmas.List.{get_or-set_other, length-set}
use Rattle.std.proofs.lemmas.Option.{none-some, same_Some}
use Rattle.machine_core.specs.Vocabulary.{HashKind, Access, Writable, Call, Ref, times, Line, Operation, Descriptor, Offer, handle_of, opens_handle, access_of, begin_denial, handle_closed}
use Rattle.machine_core.specs.Vocabulary.{least_free, with_begin, begun_operation, first_line, State, operation_of, root_at, with_operation, word_of, root_refs, Table, word_in, IsSound, call_for}
use Rattle.machine_core.specs.Vocabulary.{IsOfRun, KnowsNumbers, begun_on, StandsAt}
use Rattle.handle_table.specs.Numbers.{Numbers}
use Rattle.epochs.specs.Memories.{Memory}
use Rattle.machine_core.specs.Beneath.rdcss_root.specs.Holding.{Moves}
use Rattle.machine_core.specs.declared.parts.Parts.{Parts}
use Rattle.machine_core.specs.declared.parts.UnderWay.{UnderWay}
use Rattle.machine_core.specs.Beginnings.{Begins}
use Rattle.machine_core.specs.Keeping.{AreSeated, IsKept, IsSeated, Replaces}
use Rattle.machine_core.specs.Seen.{actors_seen, operation_at, operation_seen, seen}
use Rattle.machine_core.specs.Ties.{IsTied}
use Rattle.proof_core.proofs.Given.{begin_stands}
use Rattle.machine_core.proofs.Kept.{replaced_seated, replaced_seen}
use Rattle.machine_core.proofs.Knows.{offer_given, offerers_over, runs_set}
use Rattle.proof_core.proofs.Mapped.{found_mapped}
use Rattle.machine_core.proofs.Marking.{remarked}
use Rattle.proof_core.proofs.Reserved.{known_begun}
use Rattle.machine_core.proofs.Tied.{begun_tied}
use Rattle.machine_core.proofs.Becomes.{unset}

-- ---- marks

-- an operation by its fields
by_fields : {i j : ℕ} → i ≡ j → {c d : Call} → c ≡ d → {a b : Access} → a ≡ b → {e f : ℕ} → e ≡ f → {p q : List Ref} → p ≡ q → {o w : Option ℕ} → o ≡ w → {n m : ℕ} → n ≡ m →
    {x y : Bool} → x ≡ y → {g h : Option ℕ} → g ≡ h → {k l : Line} → k ≡ l →
    ◌≡◌ {A = Operation} (record { id = i; call = c; access = a; epoch = e; private = p; opens = o; attempt = n; is_marked = x; generation = g; line = k })
    (record { id = j; call = d; access = b; epoch = f; private = q; opens = w; attempt = m; is_marked = y; generation = h; line = l })
by_fields id call access epoch private opens attempt mark generation line =
    rw (id, call, access, epoch, private, opens, attempt, mark, generation, line) refl

-- ---- a begin

-- what is set under way
pub record IsNew (before : Parts) (actor : ℕ) (call : Call) (u : UnderWay) : Type 0 where
  pub job : u.job ≡ record { id = before.begun; actor = actor; handle = handle_of call; opens = if opens_handle call then Some (least_free (seen before)) else None }
  pub call_is : call_for (handle_of call) u.program ≡ call
  pub epoch : u.epoch ≡ before.heap.epoch

-- the parts after the begin of the actor's operation; between the two the handle was closed, if it was
pub record BeginsAt (before middle after : Parts) (actor : ℕ) (call : Call) (u : UnderWay) : Type 0 where
  pub new : IsNew before actor call u
  pub closed : seen middle ≡ handle_closed (seen before) call
  pub same : middle ≡ record before { heap = middle.heap; table = record before.table { roots = middle.table.roots } }
  pub words : (handle : ℕ) (offer : Descriptor) → word_in middle.table handle ≡ Offer offer → word_in before.table handle ≡ Offer offer
  pub moves : Moves before.heap middle.heap before.table.roots middle.table.roots 4
  pub seated : Replaces before.actors.items (actor - 1) (Begins u (unwrap_or (access_of (root_at (seen before) (handle_of call))) Writable)) after.actors.items
  pub heap : after.heap ≡ record middle.heap { pins = set middle.heap.pins (actor - 1) (Some middle.heap.epoch) }
  pub table : after.table ≡ record middle.table { marks = set middle.table.marks actor false }
  pub rest : after ≡ record middle {
    heap = after.heap;
    table = after.table;
    actors = after.actors;
    handles = after.handles;
    begun = before.begun + 1;
  }
  pub numbers : after.handles ≡ begun_on before.handles call u.job.opens

module _ (before middle after : Parts) (actor : ℕ) (call : Call) (u : UnderWay) (a : BeginsAt before middle after actor call u) (h : IsKept before) (run : IsOfRun (seen before))
    (allowed : begin_denial (seen before) actor call None ≡ None) where
  stands : StandsAt (seen before).actors actor None
  stands = begin_stands (seen before) actor call run allowed

  idle : a.seated.was.under_way ≡ None
  idle =
      by a.seated.was.under_way (sym (ap (option_and_then (operation_seen before.table)) a.seated.found)
      ∙ sym (found_mapped (operation_seen before.table) before.actors.items (actor - 1)) ∙ stands.is)
    where
      by : (o : Option UnderWay) → option_map (operation_at before.table a.seated.was.programs) o ≡ None → o ≡ None
      by None e = refl
      by (Some v) e = absurd (none-some _ (sym e))

  -- the operation is the definition's
  operation_is : operation_at after.table a.seated.is.programs u ≡ begun_operation (seen before) call None
  operation_is =
      let job = a.new.job in
      let d = a.seated.does in
      let id : u.job.id ≡ before.begun = ap (λ j. j.id) job in
      let called : call_for u.job.handle u.program ≡ call = ap (λ j. call_for j.handle u.program) job ∙ a.new.call_is in
      let private : a.seated.is.programs.key.work.private ≡ [] = d.private ∙ (h.seats (actor - 1) a.seated.was a.seated.found).idle idle in
      let opens = ap (λ j. j.opens) job in
      let mark : get_or after.table.marks u.job.actor false ≡ false =
      ap (λ (t : Table). get_or t.marks u.job.actor false) a.table ∙ ap (λ j. get_or (set middle.table.marks actor false) j.actor false) job ∙ unset middle.table.marks actor in
      let line = d.line (handle_of call) ∙ ap first_line a.new.call_is in
      by_fields id called d.access_is a.new.epoch private opens d.attempt mark d.generation line

  middle_actors : (seen middle).actors ≡ (seen before).actors
  middle_actors = ap (λ (p : Parts). actors_seen p.table p.actors.items) a.same

  actors_begun : (seen after).actors ≡ set (seen before).actors (actor - 1) (Some (begun_operation (seen before) call None))
  actors_begun =
      replaced_seen before.table after.table before.actors.items after.actors.items (actor - 1) (Begins u _) a.seated
      (λ j other apart at. remarked before.table after.table other (λ v e.
      let number = (h.seats j other at).number v e in
      ap (λ (t : Table). get_or t.marks v.job.actor false) a.table
      ∙ get_or-set_other middle.table.marks actor v.job.actor false false (λ same. apart (omega (arith, stands.counts, number, same)))
      ∙ ap (λ (p : Parts). get_or p.table.marks v.job.actor false) a.same))
      ∙ ap (set (actors_seen before.table before.actors.items) (actor - 1))
      (ap (option_map (operation_at after.table a.seated.is.programs)) a.seated.does.under_way ∙ ap Some operation_is)

  -- the state is the definition's
  pub seen_begun : seen after ≡ with_begin (seen before) actor call (begun_operation (seen before) call None)
  seen_begun =
      let operation = begun_operation (seen before) call None in
      let actors : (seen after).actors ≡ set (seen middle).actors (actor - 1) (Some operation) = actors_begun ∙ ap (λ os. set os (actor - 1) (Some operation)) (sym middle_actors) in
      put_together operation actors ∙ ap (λ (s : State). record (with_operation s actor (Some operation)) { begun = before.begun + 1 }) a.closed
    where
      put_together : (operation : Operation) → (seen after).actors ≡ set (seen middle).actors (actor - 1) (Some operation) →
          seen after ≡ record (with_operation (seen middle) actor (Some operation)) { begun = before.begun + 1 }
      put_together operation actors =
          rw (
            actors,
            ap (λ (p : Parts). p.limits) a.rest,
            ap (λ (m : Memory). m.heap) a.heap,
            ap (λ (m : Memory). m.limbo) a.heap,
            ap (λ (m : Memory). m.epoch) a.heap,
            ap (λ (m : Memory). m.cursor) a.heap,
            ap (λ (p : Parts). p.generations) a.rest,
            ap (λ (t : Table). t.roots) a.table,
            ap (λ (p : Parts). p.begun) a.rest,
            ap (λ (p : Parts). p.steps) a.rest,
          ) refl

  seated : IsSeated before.limits.hash (actor - 1) a.seated.is
  seated =
      let d = a.seated.does in
      let mine : (v : UnderWay) → a.seated.is.under_way ≡ Some v → u ≡ v = λ v e. same_Some u v (sym d.under_way ∙ e) in
      record {
        hashes_are = d.hashes ∙ (h.seats (actor - 1) a.seated.was a.seated.found).hashes_are;
        number = λ v e. sym (ap (λ (x : UnderWay). x.job.actor) (mine v e)) ∙ ap (λ j. j.actor) a.new.job
            ∙ (let back : actor ≡ actor - 1 + 1 = omega (arith, stands.counts) in back);
        sound = λ v e. subst (λ (x : UnderWay). IsSound x.program a.seated.is.programs) (mine v e) d.sound;
        idle = λ e. absurd (none-some u (sym e ∙ d.under_way));
      }

  -- and all is kept
  pub kept_begun : IsKept after
  kept_begun =
      let operation : Operation = begun_operation (seen before) call None in
      let roots : after.table.roots ≡ middle.table.roots = ap (λ (t : Table). t.roots) a.table in
      let limits : after.limits ≡ before.limits = ap (λ (p : Parts). p.limits) a.rest ∙ ap (λ (p : Parts). p.limits) a.same in
      let kept = a.moves.keeps in
      let moved : (r : Ref) → times r after.heap.outside + times r (root_refs before.table.roots) ≡ times r before.heap.outside + times r (root_refs middle.table.roots) =
      λ r. omega (arith, a.moves.outside r, ap (λ (m : Memory). times r m.outside) a.heap) in
      let pins : after.heap.pins ≡ set before.heap.pins (actor - 1) (Some before.heap.epoch) =
      ap (λ (m : Memory). m.pins) a.heap ∙ ap (λ ps. set ps (actor - 1) (Some middle.heap.epoch)) kept.epochs.3 ∙ ap (λ n. set before.heap.pins (actor - 1) (Some n)) kept.epochs.1 in
      let words : (handle : ℕ) (offer : Descriptor) → word_in after.table handle ≡ Offer offer → word_in before.table handle ≡ Offer offer =
      λ handle offer e. a.words handle offer (subst (λ rs. word_of (get_or rs handle None) ≡ Offer offer) roots e) in
      let runs : (other : ℕ) (o : Operation) → operation_of (seen after) other ≡ Some o → (operation_of (seen before) other ≡ Some o) ⊎ (Some operation ≡ Some o) =
      λ other o found. runs_set (seen before) (seen after) (actor - 1) (Some operation) actors_begun other o found in
      record {
        tied = subst (λ rs. IsTied after.heap rs (seen after).actors) (sym roots) (subst (IsTied after.heap middle.table.roots) (sym actors_begun)
            (begun_tied before.heap after.heap before.table.roots middle.table.roots (seen before).actors actor operation stands h.tied moved refl pins));
        seats = subst (λ (hashes : HashKind). AreSeated hashes after.actors.items) (sym (ap (λ l. l.hash) limits))
            (replaced_seated before.limits.hash before.actors.items after.actors.items (actor - 1) (Begins u _) a.seated h.seats seated);
        noted = record {
          marks = ap (λ (t : Table). length t.marks) a.table ∙ length-set middle.table.marks actor false ∙ ap (λ (p : Parts). length p.table.marks) a.same ∙ h.noted.marks
              ∙ ap (λ l. l.actors + 1) (sym limits);
          offerers = ap (λ (t : Table). length t.offerers) a.table ∙ ap (λ (p : Parts). length p.table.offerers) a.same ∙ h.noted.offerers;
          carried = ap (λ (t : Table). t.carried) a.table ∙ ap (λ (p : Parts). p.table.carried) a.same ∙ h.noted.carried;
        };
        offerers = offerers_over before.table after.table (seen before) (seen after) (ap (λ (t : Table). t.offerers) a.table ∙ ap (λ (p : Parts). p.table.offerers) a.same) words
            (λ handle offer stood other o found is. elim (runs other o found) [
              | inl ran ↦ ran
              | inr put ↦ absurd (omega (arith, offer_given (seen before) run handle offer (words handle offer stood), is, ap (λ (x : Operation). x.id) (same_Some operation o put)))
            ]) h.offerers;
        numbers = subst (KnowsNumbers after.handles) (sym seen_begun)
            (subst (λ (n : Numbers). KnowsNumbers n (with_begin (seen before) actor call operation)) (sym (a.numbers ∙ ap (λ j. begun_on before.handles call j.opens) a.new.job))
            (known_begun before.handles (seen before) actor call run allowed h.numbers));
      }
