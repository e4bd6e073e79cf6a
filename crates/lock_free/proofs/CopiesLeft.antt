-- An operation's own offer is completed, from whichever line its READ is on.
use Rattle.std.proofs.Common.{◌≡◌, ◌++◌, ℕ, Bool, true, false, map, append-nil, refl, sym, ap, subst, ◌∙◌}
use Rattle.std.proofs.lemmas.Option.{same_Some}
use Rattle.trie_words.specs.declared.entries.Pair.{Pair}
use Rattle.machine_model.specs.Beneath.slot_arena.specs.declared.refs.Ref.{Ref}
use Rattle.machine_model.specs.declared.actions.Action.TheVariants as act
use Rattle.machine_model.specs.declared.copying.CopyLine.TheVariants as copy
use Rattle.machine_model.specs.declared.lines.Line.TheVariants as line
use Rattle.machine_model.specs.declared.operations.Operation.{Operation}
use Rattle.machine_model.specs.declared.reading.After.TheVariants.{Gives, Goes}
use Rattle.machine_model.specs.declared.reading.ReadLine.TheVariants as read
use Rattle.machine_model.specs.declared.roots.Complete.{Complete}
use Rattle.machine_model.specs.declared.roots.CompleteLine.TheVariants as complete
use Rattle.machine_model.specs.declared.roots.Descriptor.{Descriptor}
use Rattle.machine_model.specs.Calls.{handle_of}
use Rattle.machine_model.specs.Machine.{AreBounds}
use Rattle.machine_model.specs.States.{State}
use Rattle.lock_free.specs.declared.accounts.Account.{Account}
use Rattle.lock_free.specs.declared.leaving.Completing.{Completing}
use Rattle.lock_free.specs.declared.reading.ReadFrom.TheVariants as resume
use Rattle.lock_free.specs.declared.reading.Way.{Way}
use Rattle.lock_free.specs.declared.rules.View.{View}
use Rattle.lock_free.specs.Accounts.{bounds_for, gone_on}
use Rattle.lock_free.specs.CopySteps.{as_before, HasCopied, HasCopiedOn, HasLeftRoots, IsOwnCompleting, IsToComplete, copied_line}
use Rattle.lock_free.specs.Counts.{how_often}
use Rattle.lock_free.specs.GoingDown.{HasMoved}
use Rattle.lock_free.specs.Leaving.{HasCompletedOn, IsCompleteOf}
use Rattle.lock_free.specs.Loading.{now, seen, IsAt, IsSound, Runs, Saw}
use Rattle.lock_free.specs.OfReads.{complete_on, on_read, read_to}
use Rattle.lock_free.specs.Limbos.{hanging_of, having_retired}
use Rattle.lock_free.specs.Outcomes.{ArePlaced, HasConcluded, IsConcluding, concluded, root_retired, roots_left}
use Rattle.lock_free.specs.Passing.{HasCome, IsOnWay, IsPlaced, IsReading, Later}
use Rattle.lock_free.specs.Rooting.{HasReadExpected, completing_of}
use Rattle.lock_free.specs.Roots.{IsItsTry}
use Rattle.lock_free.specs.RootWords.{HasSeenOlds}
use Rattle.lock_free.specs.Stocks.{IsStock, Stocked}
use Rattle.lock_free.proofs.Comings.{come_on, runs_one, saw_come, saw_runs}
use Rattle.lock_free.proofs.CopyReads.{complete_step, completing_with, copy_line}
use Rattle.lock_free.proofs.Laters.{gone_later, later_both, saw_later}
use Rattle.lock_free.proofs.LimboStays.{limbo_stays}
use Rattle.lock_free.proofs.Looking.{same_action}
use Rattle.lock_free.proofs.OffersLater.{offer_later}
use Rattle.lock_free.proofs.StockStays.{stock_later, stock_moved}
use Rattle.machine_model.specs.Operations.{read_of}

-- who sees something is on the same way
saw_way : (v w : View) (s : Saw v w) (o : Operation) → Runs v o → (way : Way) → IsOnWay v way → IsOnWay w way
saw_way v w s o runs way on q is =
    let same = runs_one w q o is (saw_runs v w s o runs) in
    let it = on o runs in
    (ap (λ (z : Operation). z.access) same ∙ it.0, ap (λ (z : Operation). handle_of z.call) same ∙ it.1)

module _ (before : View) (handle : ℕ) (s : Completing) (to : IsOwnCompleting before handle s) where
  abbrev offer : Descriptor
  offer = to.its.its.offer

  abbrev o : Operation
  o = to.at.0

  abbrev its_complete : Complete
  its_complete = record { offer = offer; line = complete.Reading to.reads }

  pub completes_own : IsCompleteOf before handle s
  completes_own = record { its = to.its; operation = o; runs = to.at.1; on = to.on; at = to.reads; line_is = ap completing_of to.at.2; root = to.root; from = to.from }

  -- its READ is out of tries
  pub copied_on : (next : Completing) (after : View) → HasCompletedOn before handle s.offer next after → HasCopiedOn before handle s.offer next after
  copied_on next after (y, come, d, kept) =
      let q : Operation = read_to (Goes y) o in
      let runs_q = come.comes o to.at.1 in
      let line_q : q.line ≡ line.Copy (copy.Complete (complete_on its_complete y)) = ap (λ l. on_read l y) to.at.2 in
      let same_line : d.operation.line ≡ q.line = ap (λ (z : Operation). z.line) (runs_one after d.operation q d.runs runs_q) in
      let one : Complete = record { offer = d.its.its.offer; line = complete.Reading d.at } in
      let same : complete_on its_complete y ≡ one = same_Some (complete_on its_complete y) one (sym (ap completing_of (same_line ∙ line_q)) ∙ d.line_is) in
      record {
        same = kept;
        reads = y;
        come = come;
        is = record {
          its = d.its;
          reads = d.at;
          at = (q, runs_q, line_q ∙ ap (λ z. line.Copy (copy.Complete z)) same);
          on = to.on;
          its_try = subst (IsItsTry q) (ap (λ (z : Complete). z.offer) same) (record { its = to.its_try.its; now = to.its_try.now });
          root = d.root;
          from = d.from;
        };
      }

  pub on_stock : (n : ℕ) → IsSound n before → (next : Completing) (after : View) → HasCopiedOn before handle s.offer next after → (stock : Stocked) → IsStock stock before → IsStock stock after
  on_stock n sound next after h stock is =
      stock_moved n before after sound o to.at.1 stock is (λ q. on_read q.line h.reads) (record { later = h.come.later; comes = h.come.comes })

  -- it comes to its end
  module _ (w : View) (n : ℕ) (sound : IsSound n before) (sound_w : IsSound n w) (expected : Bool) (r : HasReadExpected before s.offer expected w) where
    abbrev main : Ref
    main = r.main

    -- each operation is then to settle the offer with it
    comes : (q : Operation) → Runs before q → Runs w (record q { line = completing_with offer main })
    comes q runs =
        subst (λ l. Runs w (read_to (Gives main) (record q { line = l })) → Runs w (record q { line = completing_with offer main })) (sym (copy_line before (copy.Complete its_complete)
        to.at q runs)) (λ x. x) (r.come.comes q runs)

    pub ran : Runs w (record o { line = completing_with offer main })
    ran = comes o to.at.1

    abbrev o_then : Operation
    o_then = record o { line = completing_with offer main; is_marked = ran.0 }

    abbrev pub at_complete : IsAt w (act.Complete offer main)
    at_complete = record { operation = o_then; runs = ran.1; acts = refl }

    same_operation : o_then ≡ r.at.acts.operation
    same_operation = same_Some o_then r.at.acts.operation (sym ran.1 ∙ r.at.acts.runs)

    same_offer : offer ≡ r.at.its.offer
    same_offer =
        let same = same_action w (act.Complete offer main) (act.Complete r.at.its.offer r.at.main) at_complete r.at.acts in
        cc same

    pub concluding : IsConcluding w s.offer expected
    concluding = record {
      at = r.at;
      completing = record { offer = offer; line = complete.Swap main };
      own = ap (λ (z : Operation). z.line) (sym same_operation);
      its_try = subst (λ z. IsItsTry z r.at.its.offer) same_operation (subst (IsItsTry o_then) same_offer (record { its = to.its_try.its; now = to.its_try.now }));
    }

    -- and finds what came of it
    module _ (after : View) (sound_after : IsSound n after) (carried : Bool) (h : HasConcluded w carried after) where
      abbrev account : Account
      account = h.account

      abbrev state : State
      state = now (seen w account)

      abbrev gone : View
      gone = seen w (gone_on w.actor account)

      -- what the step says of its view, and as it was before
      is_after : after ≡ concluded w account h.epoch (roots_left carried offer)
      is_after = h.after_is offer main at_complete

      gone_is : gone ≡ as_before before after
      gone_is =
          ap (λ (x : View). record gone { epoch = x.epoch; passed = x.passed; retired = x.retired; owed = x.owed; links = x.links }) r.come.later.is
          ∙ sym (ap (as_before before) is_after)

      pub later_then : Later w (as_before before after)
      later_then = subst (λ x. Later w x) gone_is (gone_later n w sound_w account h.waited
          (subst (λ (x : View). AreBounds (bounds_for x.sizes x.account.steps)) is_after sound_after.bounds))

      pub ends : (q : Operation) → Runs before q → Runs after (record q { line = copied_line carried q })
      ends q runs =
          let (mark, runs_w) = comes q runs in
          let there = h.waited.stays (record q { line = completing_with offer main; is_marked = mark }) runs_w in
          let q_there : Operation = record q { line = completing_with offer main; is_marked = there.0 } in
          let same = runs_one before q o runs to.at.1 in
          let its : IsItsTry q_there offer = record { its = ap (λ (z : Operation). z.id) same ∙ to.its_try.its; now = ap (λ (z : Operation). z.attempt) same ∙ to.its_try.now } in
          let tells = h.tells offer main at_complete q_there there.1 its in
          let took = h.took q_there there.1 in
          subst (λ (z : Operation). Runs after z) (complete_step state (record q { is_marked = there.0 }) offer main carried tells) took

      pub moved_own : HasMoved (copied_line carried) before (as_before before after)
      moved_own = record { later = later_both before w (as_before before after) r.come.later later_then; comes = ends }

      -- ---- its stock, but for what it has retired

      hanging_as : hanging_of (having_retired after before.retired) ≡ hanging_of (as_before before after)
      hanging_as =
          ap (λ (x : View). (x.sizes, before.retired, x.links, x.epoch)) is_after
          ∙ ap (λ (x : View). (w.sizes, before.retired, x.links, x.epoch)) r.come.later.is
          ∙ sym (ap (λ (x : View). (x.sizes, before.retired, before.links, before.epoch)) is_after)

      stock_as : (stock : Stocked) → IsStock stock before → IsStock stock (having_retired after before.retired)
      stock_as stock is =
          let m = stock_moved n before (as_before before after) sound o to.at.1 stock is (copied_line carried) moved_own in
          record { sizes = m.sizes; pool = m.pool; made = m.made; limbo = limbo_stays stock.limbo (as_before before after) (having_retired after before.retired) hanging_as m.limbo }

      retired_is : after.retired ≡ before.retired ++ map (root_retired after.account h.epoch) (roots_left carried offer)
      retired_is =
          ap (λ (x : View). x.retired) is_after ∙ ap (λ (x : View). x.retired ++ map (root_retired (gone_on w.actor account) h.epoch) (roots_left carried offer)) r.come.later.is
          ∙ ap (λ (x : View). before.retired ++ map (root_retired x.account h.epoch) (roots_left carried offer)) (sym is_after)

      -- it was carried out
      pub carried_stock : carried ≡ true → (stock : Stocked) → IsStock stock before → IsStock stock after
      carried_stock truly stock is =
          subst (λ xs. IsStock stock (having_retired after xs))
          (sym (append-nil before.retired) ∙ ap (λ b. before.retired ++ map (root_retired after.account h.epoch) (roots_left b offer)) (sym truly) ∙ sym retired_is) (stock_as stock is)

      -- or taken back
      pub left_roots : carried ≡ false → (stock : Stocked) → IsStock stock before → HasLeftRoots stock s.offer after
      left_roots falsely stock is = record {
        operation = record o { line = copied_line carried o };
        runs = ends o to.at.1;
        handle = handle;
        its = offer_later before (as_before before after) (later_both before w (as_before before after) r.come.later later_then) handle s.offer to.its;
        rest = before.retired;
        epoch = h.epoch;
        is = retired_is ∙ ap (λ b. before.retired ++ map (root_retired after.account h.epoch) (roots_left b offer)) falsely;
        made = subst (λ b. ArePlaced after.account (roots_left b offer)) falsely
            (subst (λ (x : View). ArePlaced x.account (roots_left carried offer)) (sym is_after) (h.made offer main at_complete));
        holds = stock_as stock is;
      }

-- ---- from its first line

module _ (n : ℕ) (v0 : View) (sound0 : IsSound n v0) (handle slot : ℕ) (to : IsToComplete v0 handle slot) (v1 : View) (pair : Pair) (olds : HasSeenOlds v0 slot pair v1) where
  abbrev its_root : Ref
  its_root = to.its.its.offer.root

  reading0 : IsReading v0 its_root read.Main
  reading0 = (to.at.0, to.at.1, ap read_of to.at.2)

  later1 : Later v0 v1
  later1 = saw_later n v0 sound0 v1 olds.0

  come1 : HasCome (Goes read.Main) v0 v1
  come1 = saw_come v0 v1 its_root read.Main reading0 later1 olds.0

  pub own_way : (way : Way) → IsOnWay v0 way → IsOnWay v1 way
  own_way way on = saw_way v0 v1 olds.0 to.at.0 to.at.1 way on

  pub begins_own : IsOwnCompleting v1 handle (record { offer = slot; root = pair.low; from = resume.Start })
  begins_own =
      let said = olds.1 to.its.its to.its.here to.its.place in
      let runs = saw_runs v0 v1 olds.0 to.at.0 to.at.1 in
      record {
        its = offer_later v0 v1 later1 handle slot to.its;
        reads = read.Main;
        at = (to.at.0, runs, to.at.2);
        on = to.on;
        its_try = to.its_try;
        root = subst (λ x. IsPlaced x its_root pair.low) (sym olds.0.after_is) said.root;
        from = (to.at.0, runs, ap read_of to.at.2);
      }

  pub own_stock : (stock : Stocked) → IsStock stock v0 → IsStock stock v1
  own_stock stock is = stock_later n v0 v1 sound0 to.at.0 to.at.1 stock is later1 to.at.0 (saw_runs v0 v1 olds.0 to.at.0 to.at.1) refl

  pub own_copied : (carried : Bool) (after : View) → HasCopied v1 carried after → HasCopied v0 carried after
  own_copied carried after h =
      let owed_is : v1.owed ≡ v0.owed = ap (λ (x : View). x.owed) olds.0.after_is in
      record {
        moved = record {
          later = later_both v0 v1 (as_before v0 after) later1
              (subst (Later v1) (ap (λ (x : View). record after { epoch = x.epoch; passed = x.passed; retired = x.retired; owed = x.owed; links = x.links }) olds.0.after_is) h.moved.later);
          comes = λ q r. h.moved.comes q (saw_runs v0 v1 olds.0 q r);
        };
        owed = λ k. h.owed k ∙ ap (how_often k) owed_is;
      }

  pub own_on : (next : Completing) (after : View) → HasCopiedOn v1 handle slot next after → HasCopiedOn v0 handle slot next after
  own_on next after h = record { same = h.same; reads = h.reads; come = come_on v0 v1 after read.Main (Goes h.reads) come1 h.come; is = h.is }
