-- How a snapshot, a freeze or a clear that runs alone makes its roots, offers, and carries its offer out.
use Rattle.std.proofs.Common.{◌≡◌, ℕ, suc, ◌+◌, ◌<◌, ◌≤◌, ◌==◌, ◌&&◌, true, false, cond, [], map, length, Option, Some, None, refl, sym, ap, ◌∙◌, subst, eq-eqb, arith}
use Rattle.proof_straight.specs.Vocabulary.{Call, Reply, Indirection, Ref, generation_at, main_at, next_ref, prev_at, taken, CopyLine, Line, Operation, Gives, ReadLine, Carried as CarriedOut}
use Rattle.proof_straight.specs.Vocabulary.{Progress, Complete, CompleteLine, Bounds, Descriptor, Root, RootWord, Plain, Offer, carried_out, if_changed, marked, new_root_taken, opened}
use Rattle.proof_straight.specs.Vocabulary.{with_made as private_with, handle_of, after_offer, copied_reply, copy_action, copy_after, copy_after_complete, begun_operation, after_prev}
use Rattle.proof_straight.specs.Vocabulary.{at_indirection, read_action, State, root_at, with_operation, with_word, word_at, after_reading, complete_action, complete_action_at, completing, is_plain}
use Rattle.proof_straight.specs.Vocabulary.{of_offer, stands_in, Record, noted_end, noted_progress, given_by, progress_of}
use Rattle.proof_straight.specs.Beneath.slot_arena.specs.declared.nodes.Prev.TheVariants as prev
use Rattle.machine_model.specs.declared.actions.Action.TheVariants as act
use Rattle.machine_model.specs.declared.copying.CopyLine.TheVariants as copy
use Rattle.machine_model.specs.declared.lines.Line.TheVariants as line
use Rattle.machine_model.specs.declared.reading.ReadLine.TheVariants as read
use Rattle.machine_model.specs.declared.roots.CompleteLine.TheVariants as complete
use Rattle.proof_straight.specs.Recorded.{entrant_with}
use Rattle.proof_straight.specs.Copies.{Course, offer_of, with_new_root, with_offer, with_successor}
use Rattle.proof_straight.specs.Drafts.{Draft, next_made, redrafted}
use Rattle.proof_straight.specs.Running.{ComesTo}
use Rattle.proof_straight.proofs.Steps.Alone.{Alone, IsCalm, on_line, stand}
use Rattle.proof_straight.proofs.Way.Descent.{rooted}
use Rattle.proof_straight.proofs.Steps.Going.{Stands, carried_on, ends_so, reads}
use Rattle.proof_straight.proofs.Steps.Noting.{carrying, noted_quiet, noted_read, quiet, reading as reading_of, with_read}
use Rattle.proof_straight.proofs.Roots.OverRoots.{mark_alone, moves_over, put_in_place, rebased, word_again, word_written}
use Rattle.proof_straight.proofs.Steps.Settled.{settled_once}

-- a READ makes no root
read_makes : (indirection : Ref) (l : ReadLine) (main : Ref) → read_action indirection l ≡ act.MakeRoot main → ⊥
read_makes indirection read.Main main is = cc is
read_makes indirection (read.Prev m) main is = cc is
read_makes indirection (read.AskRoot m p) main is = cc is
read_makes indirection (read.Abort m p o) main is = cc is
read_makes indirection (read.Decide m p t) main is = cc is
read_makes indirection (read.Restore m p) main is = cc is

complete_makes : (x : Complete) (main : Ref) → complete_action x ≡ act.MakeRoot main → ⊥
complete_makes x main is = by x.line is
  where
    by : (l : CompleteLine) → complete_action_at x.offer l ≡ act.MakeRoot main → ⊥
    by (complete.Reading l) e = read_makes x.offer.root l main e
    by (complete.Swap m) e = cc e

module _ (state : State) (past : Record) (k : ℕ) (call : Call) (root : Ref) where
  -- the call stands on a line of its program
  abbrev pub OnCopy : Record → State → Draft → CopyLine → ℕ → Type 0
  OnCopy so_far base draft l c = Stands state past k call so_far base draft (on_line (rooted state call root) draft (line.Copy l)) c

  abbrev pub copy_at : State → Draft → CopyLine → ℕ → State
  copy_at base draft l c = stand base k draft (on_line (rooted state call root) draft (line.Copy l)) (state.steps + suc c)

  -- a root is made
  pub makes_root : {so_far : Record} (course : Course) → Alone course.base k → (l : CopyLine) (main : Ref) (m : Line) (c : ℕ) → next_ref course.draft.heap ≡ Some (next_made course.draft.heap) →
      OnCopy so_far course.base course.draft l c → copy_action l ≡ act.MakeRoot main →
      copy_after (copy_at course.base course.draft l c) (on_line (rooted state call root) course.draft (line.Copy l)) l ≡ m →
      Stands state past k call so_far (with_new_root course main).base (with_new_root course main).draft (on_line (rooted state call root) (with_new_root course main).draft m) (suc c)
  makes_root {so_far} course alone l main m c drawn before is leads =
      let base = course.base in
      let draft = course.draft in
      let op = on_line (rooted state call root) draft (line.Copy l) in
      let st = copy_at base draft l c in
      let becomes = on_line (rooted state call root) (with_new_root course main).draft m in
      subst (λ r. Stands state past k call r (with_new_root course main).base (with_new_root course main).draft becomes (suc c)) (noted_quiet so_far (state.steps + suc c) k)
      (moves_over base k alone base.roots (base.generations + 1) state past call draft op becomes becomes c (taken draft.heap (Indirection base.generations main)) (next_made draft.heap) _
      (act.MakeRoot main)
      quiet before tt is (makes_quietly st op l main is)
      (ap (λ a. carried_on st op a) is ∙ ap (λ n. record op { private = private_with draft.private n; line = copy_after st op l }) drawn
      ∙ ap (λ x. on_line (rooted state call root) (with_new_root course main).draft x) leads)
      (ap (λ n. new_root_taken (with_operation st (suc k) (Some becomes)) main n) drawn) (put_in_place base k alone base.roots base.generations op becomes))
    where
      -- it is in no READ
      makes_quietly : (st : State) (op : Operation) (l : CopyLine) (main : Ref) → copy_action l ≡ act.MakeRoot main → progress_of st (record op { line = line.Copy l }) ≡ quiet
      makes_quietly st op (copy.Successor r m) main is = refl
      makes_quietly st op (copy.Second r m s) main is = refl
      makes_quietly st op (copy.Cleared r m b) main is = refl
      makes_quietly st op (copy.Empty r m) main is = absurd (cc is)
      makes_quietly st op (copy.Offer offer) main is = absurd (cc is)
      makes_quietly st op (copy.Read r x) main is = absurd (read_makes x.indirection x.line main is)
      makes_quietly st op (copy.Complete x) main is = absurd (complete_makes x main is)

-- what an offer opens leaves the rest
opened_alone : (base : State) (k : ℕ) (offer : Descriptor) (o : Option ℕ) → Alone base k → Alone (opened base offer o) k
opened_alone base k offer None alone = alone
opened_alone base k offer (Some handle) alone = record { actor = alone.actor; within = alone.within; rest = alone.rest }

opened_limits : (base : State) (offer : Descriptor) (o : Option ℕ) → (opened base offer o).limits ≡ base.limits
opened_limits base offer None = refl
opened_limits base offer (Some handle) = refl

opened_rebased : (base : State) (offer : Descriptor) (o : Option ℕ) → rebased base (opened base offer o).roots base.generations ≡ opened base offer o
opened_rebased base offer None = refl
opened_rebased base offer (Some handle) = refl

module _ (state : State) (past : Record) (k : ℕ) (call : Call) (root : Ref) (base : State) (alone : Alone base k) (handle_root : Root)
    (is_open : root_at base (handle_of call) ≡ Some handle_root) (word : word_at base (handle_of call) ≡ Plain root)
    (draft : Draft) (successor : Ref) (second : Option Ref) (opens : Option ℕ)
    (same_main : main_at draft.heap root ≡ main_at state.heap root) (decided : prev_at draft.heap (main_at state.heap root) ≡ prev.None)
    (same_generation : generation_at draft.heap root ≡ generation_at state.heap root) where
  abbrev handle : ℕ
  handle = handle_of call

  abbrev main : Ref
  main = main_at state.heap root

  abbrev offer : Descriptor
  offer = offer_of state root successor second opens

  -- once it has offered
  abbrev offered_base : State
  offered_base = with_word base handle (Offer offer)

  abbrev offered_draft : Draft
  offered_draft = redrafted offered_base draft draft.heap [] draft.newest

  abbrev offering : Operation
  offering = record (rooted state call root) { attempt = 1 }

  abbrev on_offer : CopyLine → Operation
  on_offer l = on_line offering offered_draft (line.Copy l)

  abbrev Offered : Record → CopyLine → ℕ → Type 0
  Offered so_far l c = Stands state past k call so_far offered_base offered_draft (on_offer l) c

  offered_alone : Alone offered_base k
  offered_alone = record { actor = alone.actor; within = alone.within; rest = alone.rest }

  offered_calm : IsCalm offered_base offered_draft
  offered_calm = settled_once draft.heap _ base.epoch draft.limbo

  offers : {so_far : Record} (c : ℕ) → OnCopy state past k call root so_far base draft (copy.Offer offer) c → Offered so_far (copy.Complete (completing offer)) (suc c)
  offers {so_far} c before =
      let op = on_line (rooted state call root) draft (line.Copy (copy.Offer offer)) in
      let st = copy_at state past k call root base draft (copy.Offer offer) c in
      let becomes = on_offer (copy.Complete (completing offer)) in
      let put = with_operation st (suc k) (Some becomes) in
      subst (λ r. Offered r (copy.Complete (completing offer)) (suc c)) (noted_quiet so_far (state.steps + suc c) k)
      (moves_over base k alone offered_base.roots base.generations state past call draft op becomes becomes c draft.heap draft.newest _ (act.Offer offer) quiet before tt refl refl
      (ap (λ w. on_line offering offered_draft (after_offer offer (is_plain w root))) word ∙ ap (λ b. on_line offering offered_draft (after_offer offer b)) (eq-eqb root root refl))
      (ap (λ w. if_changed (is_plain w root) (with_word put handle (Offer offer)) put) word ∙ ap (λ b. if_changed b (with_word put handle (Offer offer)) put) (eq-eqb root root refl))
      (put_in_place base k alone offered_base.roots base.generations op becomes))

  abbrev offered_at : CopyLine → ℕ → State
  offered_at l c = stand offered_base k offered_draft (on_offer l) (state.steps + suc c)

  -- the root's main node is read again
  reads_again : {so_far : Record} (c : ℕ) → k < length so_far.moments → Offered so_far (copy.Complete (completing offer)) c →
      Offered (with_read so_far k (state.steps + suc c) main) (copy.Complete (record { offer = offer; line = complete.Swap main })) (suc (suc c))
  reads_again {so_far} c within before =
      let first = copy.Complete (completing offer) in
      let second = copy.Complete (record { offer = offer; line = complete.Reading (read.Prev main) }) in
      let last = copy.Complete (record { offer = offer; line = complete.Swap main }) in
      let to_second =
      reads state past k call offered_base offered_alone offered_draft offering (line.Copy first) (line.Copy second) c (reading_of None true) offered_calm before tt refl refl
      (ap (λ m. line.Copy (copy.Complete (record { offer = offer; line = complete.Reading (read.Prev m) }))) same_main) in
      subst (λ r. Offered r last (suc (suc c))) (noted_read so_far (state.steps + suc c) (state.steps + suc (suc c)) k main within)
      (reads state past k call offered_base offered_alone offered_draft offering (line.Copy second) (line.Copy last) (suc c) (reading_of (Some main) false) offered_calm to_second tt
      (ap (λ v. reading_of (given_by (at_indirection root (after_prev (begun_operation state call None).access main v))) false) decided) refl
      (ap (λ v. copy_after_complete (on_offer second) (of_offer offer (after_reading (after_prev (begun_operation state call None).access main v)))) decided))

  -- ---- the offer is carried out

  abbrev carried_base : State
  carried_base = opened (with_word offered_base handle (Plain successor)) offer opens

  abbrev carried : Operation
  carried = record offering { is_marked = true }

  abbrev swap_line : CopyLine
  swap_line = copy.Complete (record { offer = offer; line = complete.Swap main })

  abbrev answer : Reply
  answer = copied_reply call (begun_operation state call None).opens

  abbrev carried_draft : Draft
  carried_draft = redrafted (rebased offered_base carried_base.roots base.generations) offered_draft draft.heap [] draft.newest

  stands_there : (w : RootWord) → w ≡ Offer offer → stands_in w offer ≡ true
  stands_there w is =
      ap (λ v. stands_in v offer) is ∙ ap (λ b. b && true) (eq-eqb state.begun state.begun refl)

  -- the operation behind the step, but for its mark
  abbrev answering : Operation
  answering = on_line offering carried_draft (line.End answer)

  abbrev put_in : ℕ → State
  put_in c = with_operation (offered_at swap_line c) (suc k) (Some answering)

  -- what the step does to the state, by what it opens
  carries_by : (c : ℕ) (o : Option ℕ) →
      record (opened (with_word (put_in c) handle (Plain successor)) offer o) { actors = map (marked state.begun) (opened (with_word (put_in c) handle (Plain successor)) offer o).actors }
      ≡ record (offered_at swap_line c) {
        heap = draft.heap;
        roots = (opened (with_word offered_base handle (Plain successor)) offer o).roots;
        generations = base.generations;
        actors = map (marked state.begun) (put_in c).actors;
      }
  carries_by c None = refl
  carries_by c (Some opened_handle) = refl

  abbrev Carried : Record → State → ℕ → Type 0
  Carried so_far b c =
      Stands state past k call so_far b (redrafted b offered_draft draft.heap [] draft.newest) (on_line carried (redrafted b offered_draft draft.heap [] draft.newest) (line.End answer)) c

  carries : {so_far : Record} (c : ℕ) → Offered so_far swap_line c →
      Carried (noted_progress so_far (state.steps + suc c) (suc k) (carrying (generation_at state.heap root) state.begun)) (rebased offered_base carried_base.roots base.generations) (suc c)
  carries c before =
      let there = word_written base handle handle_root (Offer offer) is_open in
      let id_again = eq-eqb main main refl in
      moves_over offered_base k offered_alone carried_base.roots base.generations state past call offered_draft (on_offer swap_line) answering (on_line carried carried_draft (line.End answer)) c
      draft.heap draft.newest (map (marked state.begun) (put_in c).actors) (act.Complete offer main) (carrying (generation_at state.heap root) state.begun) before tt refl
      (ap (λ b. told_by (cond (b && (main == main)) (Some (record { generation = generation_at draft.heap root; operation = state.begun })) None)) (stands_there (word_at offered_base handle) there)
      ∙ ap (λ b. told_by (cond b (Some (record { generation = generation_at draft.heap root; operation = state.begun })) None)) id_again
      ∙ ap (λ g. carrying g state.begun) same_generation)
      (ap (λ b. on_line offering carried_draft (copy_after_complete (on_offer swap_line) (of_offer offer (Gives (b && (main == main)))))) (stands_there (word_at offered_base handle) there)
      ∙ ap (λ b. on_line offering carried_draft (copy_after_complete (on_offer swap_line) (of_offer offer (Gives b)))) id_again)
      (ap (λ b. if_changed b (cond (main == main) (carried_out (put_in c) handle offer) (with_word (put_in c) handle (Plain root))) (put_in c)) (stands_there (word_at offered_base handle) there)
      ∙ ap (λ b. cond b (carried_out (put_in c) handle offer) (with_word (put_in c) handle (Plain root))) id_again ∙ carries_by c opens)
      (ap (λ xs. map (marked state.begun) xs) (put_in_place offered_base k offered_alone carried_base.roots base.generations (on_offer swap_line) answering)
      ∙ mark_alone base.actors k state.begun answering alone.rest refl)
    where
      told_by : Option CarriedOut → Progress
      told_by carried = record { committed = None; given = None; counts = false; published = None; carried = carried }

  -- the state at rest behind it
  abbrev last_base : State
  last_base = with_successor base handle offer

  base_is : rebased offered_base carried_base.roots base.generations ≡ last_base
  base_is = opened_rebased (with_word offered_base handle (Plain successor)) offer opens ∙ ap (λ s. opened s offer opens) (word_again base handle handle_root (Offer offer) (Plain successor) is_open)

  last_alone : Alone last_base k
  last_alone = opened_alone (with_word base handle (Plain successor)) k offer opens (record { actor = alone.actor; within = alone.within; rest = alone.rest })

  abbrev last_draft : Draft
  last_draft = (with_offer (record { base = base; draft = draft }) handle offer).draft

  -- from the offer to the end
  pub offer_ends : {so_far : Record} (c : ℕ) → k < length so_far.moments → OnCopy state past k call root so_far base draft (copy.Offer offer) c → state.steps + (c + 4) + 2 ≤ base.limits.steps →
      ComesTo state past (suc k) call (c + 4) answer (record last_base { heap = last_draft.heap; limbo = last_draft.limbo; begun = last_base.begun + 1; steps = state.steps + (c + 4 + 2) })
      (noted_end (noted_progress (with_read so_far k (state.steps + suc (suc c)) main) (state.steps + suc (suc (suc (suc c)))) (suc k) (carrying (generation_at state.heap root) state.begun))
      (suc k) (entrant_with state call root) answer)
  offer_ends {so_far} c within before lasts =
      ends_so state past k call last_base last_alone last_draft carried (c + 4) answer
      (subst (λ n. Carried recorded last_base n) (four_more c) (subst (λ b. Carried recorded b (suc (suc (suc (suc c))))) base_is
      (carries (suc (suc (suc c))) (reads_again (suc c) within (offers c before)))))
      refl (settled_once draft.heap _ last_base.epoch offered_draft.limbo)
      (subst (λ (l : Bounds). state.steps + (c + 4) + 2 ≤ l.steps) (sym (opened_limits (with_word base handle (Plain successor)) offer opens)) lasts) refl
    where
      four_more : (c : ℕ) → suc (suc (suc (suc c))) ≡ c + 4
      four_more c = omega arith

      recorded : Record
      recorded = noted_progress (with_read so_far k (state.steps + suc (suc c)) main) (state.steps + suc (suc (suc (suc c)))) (suc k) (carrying (generation_at state.heap root) state.begun)
