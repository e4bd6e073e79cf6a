-- A try of a copy, from the root that it reads to what comes of its offer.
use Rattle.std.proofs.Common.{◌≡◌, ◌+◌, ◌*◌, ◌≤◌, ◌++◌, ◌∷◌, ℕ, Bool, true, false, List, [], Contains, Option, None, Some, map, refl, sym, ap, subst, ◌∙◌, arith, is_some, ◌<◌}
use Rattle.std.proofs.lemmas.List.Elements.{Contains-push}
use Rattle.machine_model.specs.Beneath.slot_arena.specs.declared.refs.Ref.{Ref}
use Rattle.machine_model.specs.declared.actions.Action.TheVariants as act
use Rattle.machine_model.specs.declared.copying.CopyLine.TheVariants as copy
use Rattle.std.proofs.lemmas.Option.{none-some}
use Rattle.machine_model.specs.declared.lines.Line.{Line}
use Rattle.machine_model.specs.declared.lines.Line.TheVariants as line
use Rattle.machine_model.specs.declared.operations.Operation.{Operation}
use Rattle.machine_model.specs.declared.roots.Descriptor.{Descriptor}
use Rattle.machine_model.specs.declared.steps.Step.TheVariants as step
use Rattle.machine_model.specs.Acting.{operation_after}
use Rattle.machine_model.specs.Calls.{handle_of}
use Rattle.machine_model.specs.Copying.{after_given, after_offer}
use Rattle.machine_model.specs.States.{State, word_at}
use Rattle.machine_model.specs.Swapping.{completing, is_plain}
use Rattle.lock_free.specs.declared.accounts.Account.{Account}
use Rattle.lock_free.specs.declared.copy_roots.CopyKind.{CopyKind}
use Rattle.lock_free.specs.declared.reading.Given.{Given}
use Rattle.lock_free.specs.declared.reading.Way.{Way}
use Rattle.lock_free.specs.declared.rules.View.{View}
use Rattle.lock_free.specs.CopySteps.{HasCopied, HasOriginal, HasPrepared, HasReadOriginal, HasStopped, HasTried, IsAtOriginal, IsCopying, IsKind}
use Rattle.lock_free.specs.CopySteps.{IsReady, IsToComplete, copied_on, copy_kind, given_line, is_snapshot}
use Rattle.lock_free.specs.declared.stock.OwnNode.{OwnNode}
use Rattle.lock_free.specs.Freeing.{HasLetGo}
use Rattle.lock_free.specs.GivingUp.{given_up, HasDropped}
use Rattle.lock_free.specs.LettingMadeGo.{MayLetMadeGo}
use Rattle.lock_free.specs.Classes.{shape_class}
use Rattle.lock_free.specs.Loading.{now, seen, IsAt, IsSound, Runs, Saw, Waited}
use Rattle.lock_free.specs.Nodes.{class_of}
use Rattle.lock_free.specs.Making.{with_slots}
use Rattle.lock_free.specs.Offering.{known_at, offered_by, own_offer}
use Rattle.lock_free.specs.Passing.{IsOnWay, HasCome}
use Rattle.lock_free.specs.Places.{words_in, words_of}
use Rattle.lock_free.specs.RootOffers.{HasMissed, HasOffered, TookOffer}
use Rattle.lock_free.specs.Roots.{IsItsTry}
use Rattle.lock_free.specs.Rules.{pool_of}
use Rattle.lock_free.specs.RunningOn.{IsStill}
use Rattle.lock_free.specs.declared.reclaiming.Kind.TheVariants as kinds
use Rattle.lock_free.specs.Stocks.{Stocked, IsStock, NotesLast, made_of, own_nodes, own_of, put_back}
use Rattle.lock_free.specs.Limbos.{hanging_of}
use Rattle.lock_free.proofs.LimboStays.{limbo_so}
use Rattle.lock_free.proofs.Comings.{runs_one, saw_runs}
use Rattle.lock_free.proofs.CopyRoots.{given_so}
use Rattle.lock_free.proofs.Followings.{follows_later, goes_both}
use Rattle.lock_free.proofs.GivenBack.{node_is}
use Rattle.lock_free.proofs.Laters.{placed_later, saw_later, waited_later}
use Rattle.lock_free.proofs.MainClasses.{class_known}
use Rattle.lock_free.proofs.NewNodes.{all_made_same, own_used}
use Rattle.lock_free.proofs.OfferMisses.{same_offer}
use Rattle.lock_free.proofs.OwingLater.{still_as}
use Rattle.lock_free.proofs.FreesOn.{let_go_becomes}
use Rattle.lock_free.proofs.RunningOn.{still_both, still_follows, still_later, still_with, runs_on_both}
use Rattle.lock_free.proofs.StockStays.{stock_later, stock_moved}
use Rattle.lock_free.proofs.SwapsMade.{back_is}
use Rattle.machine_model.specs.declared.reading.After.TheVariants.{Goes}
use Rattle.machine_model.specs.Reading.{reading}
use Rattle.lock_free.specs.declared.leaving.Completing.{Completing}
use Rattle.lock_free.specs.CopySteps.{as_before, HasCopiedOn, LeavesCopy}
use Rattle.lock_free.specs.OfReads.{at_line, on_read, read_to}
use Rattle.machine_model.specs.declared.reading.ReadLine.{ReadLine}
use Rattle.lock_free.proofs.CopyReads.{copy_line}
use Rattle.lock_free.proofs.MovedOn.{copy_stays, moved_still}
use Rattle.lock_free.specs.OwnOffers.{HasMovedOn, IsOwnCopy}
use Rattle.lock_free.specs.declared.accounts.Known.{Known}
use Rattle.lock_free.specs.HandleWords.{HasOffer}

-- ---- the root is read

module _ (n : ℕ) (u : View) (sound : IsSound n u) (k : CopyKind) (handle : ℕ) (opens : Option ℕ) (c : IsCopying u k handle opens) (name : ℕ) (at : IsAtOriginal u name) (given : Given) (v : View)
    (read : HasOriginal u given v) where
  abbrev root : Ref
  root = at.0

  abbrev o : Operation
  o = at.1.0

  abbrev r : HasReadOriginal u root given v
  r = read root at.1

  abbrev main : Ref
  main = r.main

  abbrev line_then : Operation → Line
  line_then q = after_given q.call root main

  -- each operation that runs then is this one
  abbrev o_then : Operation
  o_then = record o { line = line_then o }

  runs_then : Runs v o_then
  runs_then = r.moved.comes o at.1.1

  pub stock_read : (stock : Stocked) → IsStock stock u → IsStock stock v
  stock_read stock is = stock_moved n u v sound o at.1.1 stock is line_then r.moved

  pub copying_then : IsCopying v k handle opens
  copying_then = record {
    reserved = ap (λ (x : View). x.opens) r.moved.later.is ∙ c.reserved;
    low = c.low;
    which = λ q s. ap (λ (z : Operation). copy_kind z.call) (runs_one v q o_then s runs_then) ∙ c.which o at.1.1;
    on = λ q s.
        (let same = runs_one v q o_then s runs_then in
        let its = c.on o at.1.1 in
        (ap (λ (z : Operation). handle_of z.call) same ∙ its.0, ap (λ (z : Operation). z.opens) same ∙ its.1));
  }

  ready_line : line_then o ≡ line.Copy (given_line k root main)
  ready_line = given_so o.call root main ∙ ap (λ x. line.Copy (given_line x root main)) (c.which o at.1.1)

  pub ready_then : IsSound n v → (class : ℕ) → class ≡ shape_class given.header.shape → IsReady v k name given.link.main.slot class
  ready_then sound_v class is = (
    root,
    main,
    (record o { line = line.Copy (given_line k root main) }, subst (λ l. Runs v (record o { line = l })) ready_line runs_then, refl),
    record {
      slot = r.header.slot;
      used = r.header.used;
      class_is = sym (ap class_of (node_is (now v) main r.header.slot r.header.used)) ∙ class_known n v sound_v main given.header r.header ∙ sym is;
      place = r.link.is.names.place;
    },
    placed_later u v r.moved.later root name at.2,
  )

  pub stopped_read : (w : View) → HasStopped v w → HasStopped u w
  stopped_read w h = record {
    still = still_both u v w (still_later u v r.moved.later) h.still;
    stops = λ q s. h.stops (record q { line = line_then q }) (r.moved.comes q s);
  }

  -- ---- the offer is ready

  module _ (slot : ℕ) (w : View) (ready : HasPrepared v k opens handle name slot w) where
    abbrev offer : Descriptor
    offer = ready.offers.0

    abbrev its : IsAt w (act.Offer offer)
    its = ready.offers.2

    -- each operation is then about to offer it
    record IsOffering (q : Operation) : Type 0 where
      private : List Ref
      runs : Runs w (record q { private = private; line = line.Copy (copy.Offer offer) })
      its_try : IsItsTry (record q { attempt = q.attempt + 1 }) offer

    is_offering : (q : Operation) → Runs u q → IsOffering q
    is_offering q s =
        let (private, other, runs, its_try) = ready.comes (record q { line = line_then q }) (r.moved.comes q s) in
        let p : IsAt w (act.Offer other) = record { operation = record q { private = private; line = line.Copy (copy.Offer other); is_marked = runs.0 }; runs = runs.1; acts = refl } in
        let same = same_offer w other offer p its in
        record {
          private = private;
          runs = subst (λ d. Runs w (record q { private = private; line = line.Copy (copy.Offer d) })) same runs;
          its_try = subst (λ d. IsItsTry (record q { attempt = q.attempt + 1 }) d) same (record { its = its_try.its; now = its_try.now });
        }

    still_w : IsStill u w
    still_w = still_both u v w (still_later u v r.moved.later) ready.still

    -- ---- by its step

    offer_step : (s : State) (q : Operation) (stands : Bool) → is_plain (word_at s (handle_of q.call)) offer.root ≡ stands →
        operation_after s (record q { line = line.Copy (copy.Offer offer) }) ≡ record q { private = []; attempt = q.attempt + 1; is_marked = false; line = after_offer offer stands }
    offer_step s q stands e = ap (λ b. record q { private = []; attempt = q.attempt + 1; is_marked = false; line = after_offer offer b }) e

    module _ (x : View) (stands : Bool) (account : Account) (took : TookOffer w account stands x) where
      took_so : (q : Operation) → Runs u q → Runs x (record q { private = []; attempt = q.attempt + 1; line = after_offer offer stands })
      took_so q s =
          let is = is_offering q s in
          let there = took.0.stays (record q { private = is.private; line = line.Copy (copy.Offer offer); is_marked = is.runs.0 }) is.runs.1 in
          let p : IsAt w (act.Offer offer) = record { operation = record q { private = is.private; line = line.Copy (copy.Offer offer); is_marked = is.runs.0 }; runs = is.runs.1; acts = refl } in (
            false,
            took.1 (record q { private = is.private; line = line.Copy (copy.Offer offer); is_marked = there.0 }) there.1
                ∙ ap Some (offer_step (now (seen w account)) (record q { private = is.private; is_marked = there.0 }) stands (took.2 offer p)),
          )

      -- nothing is its own any more
      none_own : own_nodes x ≡ []
      none_own = ap own_of (took_so o at.1.1).1

    -- by its step the seat stays what it was
    still_step : (x : View) (account : Account) → Waited w account → (y : View) →
        x ≡ record w {
          account = y.account;
          epoch = y.epoch;
          passed = y.passed;
          pool = y.pool;
          drafts = y.drafts;
          opening = y.opening;
          offer = y.offer;
          retired = y.retired;
          owed = y.owed;
          links =
              y.links;
        } →
        y.account.steps ≡ account.steps ++ step.Go w.actor ∷ [] → IsStill u x
    still_step x account waited y is more =
        still_both u w x still_w
        (still_with w x y is (goes_both w.account.steps account.steps y.account.steps (waited.waited.steps, waited.waited.goes_on) (step.Go w.actor ∷ [], more)))

    -- ---- it missed

    module _ (sound_w : IsSound n w) (x : View) (missed : HasMissed w x) where
      abbrev account : Account
      account = missed.0

      abbrev mine : IsOffering o
      mine = is_offering o at.1.1

      missed_so : (x ≡ given_up w account mine.private x.drafts) × HasDropped (seen w account) mine.private (line.Copy (copy.Offer offer)) x
      missed_so = missed.2 (record o { private = mine.private; line = line.Copy (copy.Offer offer) }) mine.runs

      -- and its seat has let go of what it held by that
      pub missed_tried : (y : View) → HasLetGo x y → HasTried u false y
      missed_tried y let_go =
          let rests = let_go_becomes x y let_go in
          record {
            still = still_both u x y (still_step x account missed.1.0 (given_up w account mine.private x.drafts) missed_so.0 refl) (still_follows x y rests.follows);
            comes = λ q s. rests.comes (record q { private = []; attempt = q.attempt + 1; line = after_offer offer false }) (took_so x false account missed.1 q s);
          }

      same_made : map (made_of (seen w account)) mine.private ≡ map (made_of w) mine.private
      same_made =
          all_made_same w (seen w account) (follows_later w (seen w account) (waited_later n w sound_w account missed.1.0)) mine.private
          (own_used n w sound_w (record o { private = mine.private; line = line.Copy (copy.Offer offer); is_marked = mine.runs.0 }) mine.runs.1)

      pub missed_may : (stock : Stocked) → IsStock stock w → (made : List OwnNode) → made ≡ stock.made → MayLetMadeGo x made None []
      missed_may stock is made same = record {
        before = seen w account;
        private = mine.private;
        on = line.Copy (copy.Offer offer);
        made_is = same ∙ is.made ∙ ap (λ z. map (made_of w) (own_of z)) mine.runs.1 ∙ sym same_made;
        dropped = missed_so.1;
        covers = λ z k c e named apart. absurd (none-some _ e);
      }

      pub missed_stock : (stock next : Stocked) → IsStock stock w → next.sizes ≡ stock.sizes → next.pool ≡ put_back stock.made stock.pool → next.made ≡ [] →
          next.limbo ≡ stock.limbo → IsStock next x
      missed_stock stock next is sizes pool none limbo = record {
        sizes = sizes ∙ is.sizes ∙ ap (λ (z : View). z.sizes) (sym missed_so.0);
        pool = pool ∙ ap (put_back stock.made) is.pool ∙ ap (λ ms. put_back ms w.pool) (is.made ∙ ap (λ z. map (made_of w) (own_of z)) mine.runs.1 ∙ sym same_made)
            ∙ back_is w account mine.private w.pool ∙ ap (λ (z : View). z.pool) (sym missed_so.0);
        made = none ∙ ap (map (made_of x)) (sym (none_own x false account missed.1));
        limbo = limbo_so stock next w x is limbo (ap hanging_of missed_so.0);
      }

    -- ---- it stands

    -- it doesn't stand yet, since something else stood there
    module _ (sound_w : IsSound n w) (x : View) (saw : Saw w x) where
      pub unoffered : HasStopped u x
      unoffered = record {
        still = still_both u w x still_w (still_later w x (saw_later n w sound_w x saw));
        stops = λ q s.
            (let is = is_offering q s in
            (is.private, copy.Offer offer, saw_runs w x saw (record q { private = is.private; line = line.Copy (copy.Offer offer) }) is.runs, refl));
      }

      pub unoffered_stock : (stock : Stocked) → IsStock stock w → IsStock stock x
      unoffered_stock stock is =
          let p = is_offering o at.1.1 in
          let q : Operation = record o { private = p.private; line = line.Copy (copy.Offer offer) } in
          stock_later n w x sound_w q p.runs stock is (saw_later n w sound_w x saw) q (saw_runs w x saw q p.runs) refl

    module _ (sound_w : IsSound n w) (x : View) (stands : HasOffered w slot x) where
      abbrev there : Account
      there = stands.0

      abbrev rest : List ℕ
      rest = ready.offers.1

      abbrev stood : View
      stood = offered_by w slot (handle_of its.operation.call) rest offer there

      stood_so : x ≡ stood
      stood_so = stands.2 offer its rest ready.offers.3.last

      abbrev completes : Operation → Operation
      completes q = record q { private = []; attempt = q.attempt + 1; line = line.Copy (copy.Complete (completing offer)) }

      completing_it : (q : Operation) → Runs u q → Runs x (completes q)
      completing_it q s = took_so x true there stands.1 q s

      abbrev known : Known
      known = known_at w.actor slot (handle_of its.operation.call) offer

      -- it is its own, and to be parted once it is settled
      abbrev its_offer : HasOffer x.sizes x.account x.pin handle slot
      its_offer =
          let free = sound_w.free 1 slot (omega arith, subst (λ xs. Contains xs slot) (sym ready.offers.3.last) (Contains-push rest slot)) in
          record {
            its = known;
            here = (stands.3 offer its).0;
            place = refl;
            on = ready.offers.4;
            inside = subst (λ (y : View). 2 * slot + words_in 1 ≤ words_of y.sizes) (sym stood_so) free;
          }

      pub to_complete : IsToComplete x handle slot
      to_complete = record {
        its = its_offer;
        at = (completes o, completing_it o at.1.1, refl);
        on = (c.on o at.1.1).0;
        its_try = record { its = (is_offering o at.1.1).its_try.its; now = (is_offering o at.1.1).its_try.now };
      }

      pub kind_then : IsKind x k
      kind_then q s = ap (λ (z : Operation). copy_kind z.call) (runs_one x q (completes o) s (completing_it o at.1.1)) ∙ c.which o at.1.1

      pub own_copy : IsOwnCopy x handle slot opens (is_snapshot k)
      own_copy = record {
        its = its_offer;
        own = (own_offer known, ap (λ (y : View). y.offer) stood_so, refl, λ none. ap is_some none);
        its_opens = ready.opening;
        small = subst (λ n. n < 256) ready.offers.4 (stands.3 offer its).1;
        low = c.low;
        second = ready.two;
      }

      pub way_then : (way : Way) → IsOnWay u way → IsOnWay x way
      way_then way on q s =
          let same = runs_one x q (completes o) s (completing_it o at.1.1) in
          let it = on o at.1.1 in
          (ap (λ (z : Operation). z.access) same ∙ it.0, ap (λ (z : Operation). handle_of z.call) same ∙ it.1)

      pub stock_then : (stock noted next : Stocked) → IsStock stock w → noted.sizes ≡ stock.sizes → NotesLast stock kinds.Replaced 1 noted → next.sizes ≡ noted.sizes → next.pool ≡ noted.pool →
          next.made ≡ [] → next.limbo ≡ stock.limbo → IsStock next x
      stock_then stock noted next is sizes notes sizes_next pool none limbo = record {
        sizes = sizes_next ∙ sizes ∙ is.sizes ∙ ap (λ (z : View). z.sizes) (sym stood_so);
        pool = pool ∙ (notes rest slot (ap (λ z. pool_of z 1) is.pool ∙ ready.offers.3.last)).0 ∙ ap (λ z. with_slots z 1 rest) is.pool ∙ ap (λ (z : View). z.pool) (sym stood_so);
        made = none ∙ ap (map (made_of x)) (sym (none_own x true there stands.1));
        limbo = limbo_so stock next w x is limbo (ap hanging_of stood_so);
      }

      -- its COMPLETE is under way
      module _ (sound_x : IsSound n x) (next : Completing) (y : View) (h : HasCopiedOn x handle slot next y) where
        pub left_copy : LeavesCopy u k handle opens next y
        left_copy = record {
          on = runs_on_both u x y (record { still = still_step x there stands.1.0 stood stood_so refl; runs = λ q s. (completes q, completing_it q s, refl) })
              (record { still = still_later x y h.come.later; runs = λ q s. (read_to (Goes h.reads) q, h.come.comes q s, refl) });
          is = h.is;
          own = subst (λ n. IsOwnCopy y handle n opens (is_snapshot k)) (sym h.same)
              (copy_stays x y h.come.later handle slot opens (is_snapshot k) own_copy);
        }

      -- and is completed
      module _ (sound_x : IsSound n x) (carried : Bool) (y : View) (copied : HasCopied x carried y) where
        pub copied_tried : HasTried u carried y
        copied_tried = record {
          still = still_both u x y (still_step x there stands.1.0 stood stood_so refl) (still_as x y (still_later x (as_before x y) copied.moved.later));
          comes = λ q s. copied.moved.comes (completes q) (completing_it q s);
        }

        pub copied_copy : IsOwnCopy y handle slot opens (is_snapshot k)
        copied_copy =
            let c = copy_stays x (as_before x y) copied.moved.later handle slot opens (is_snapshot k) own_copy in
            record { its = c.its; own = c.own; its_opens = c.its_opens; small = c.small; low = c.low; second = c.second }

        -- and is parted
        pub parted_tried : (z : View) → HasMovedOn y z → HasTried u carried y → HasTried u carried z
        parted_tried z moved t = record {
          still = still_both u y z t.still (moved_still y z moved);
          comes = λ q s. moved.runs (copied_on carried q) (t.comes q s);
        }

        pub copied_runs : (operation : Operation) × Runs y operation
        copied_runs = (copied_on carried o, copied_tried.comes o at.1.1)

-- ---- the READ is out of tries

module _ (n : ℕ) (u : View) (sound : IsSound n u) (name : ℕ) (at : IsAtOriginal u name) (v : View) (h : (reads : ReadLine) × HasCome (Goes reads) u v) where
  pub spent_stock : (stock : Stocked) → IsStock stock u → IsStock stock v
  spent_stock stock is = stock_moved n u v sound at.1.0 at.1.1 stock is (λ q. on_read q.line h.0) (record { later = h.1.later; comes = h.1.comes })

  pub spent_stopped : HasStopped u v
  spent_stopped = record {
    still = still_later u v h.1.later;
    stops = λ q s. (
      q.private,
      copy.Read at.0 (at_line (reading at.0) h.0),
      subst (λ l. Runs v (record q { line = on_read l h.0 })) (copy_line u (copy.Read at.0 (reading at.0)) at.1 q s) (h.1.comes q s),
      refl,
    );
  }
