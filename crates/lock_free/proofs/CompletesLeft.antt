-- A COMPLETE goes on from its READ, whichever line that is on, and comes to its end.
use Rattle.std.proofs.Common.{◌≡◌, ◌==◌, ℕ, Bool, inl, inr, Some, refl, sym, ap, subst, ◌∙◌, eq-eqb, ne_eqb}
use Rattle.std.proofs.lemmas.Bool.{cases_eq}
use Rattle.std.proofs.lemmas.List.Elements.{Contains-append_left}
use Rattle.machine_model.specs.Beneath.slot_arena.specs.declared.refs.Ref.{Ref}
use Rattle.machine_model.specs.declared.actions.Action.TheVariants as act
use Rattle.machine_model.specs.declared.reading.After.TheVariants.{Goes, Gives}
use Rattle.machine_model.specs.declared.reading.ReadLine.{ReadLine}
use Rattle.machine_model.specs.declared.reading.ReadLine.TheVariants as read
use Rattle.machine_model.specs.declared.roots.Complete.{Complete}
use Rattle.machine_model.specs.declared.roots.CompleteLine.TheVariants as complete
use Rattle.machine_model.specs.declared.operations.Operation.{Operation}
use Rattle.trie_words.specs.declared.entries.Pair.{Pair}
use Rattle.lock_free.specs.declared.accounts.Known.{Known}
use Rattle.lock_free.specs.declared.leaving.Completing.{Completing}
use Rattle.lock_free.specs.declared.reading.Given.{Given}
use Rattle.lock_free.specs.declared.reading.Passed.TheVariants as passed
use Rattle.lock_free.specs.declared.reading.ReadFrom.{ReadFrom}
use Rattle.lock_free.specs.declared.reading.ReadFrom.TheVariants as resume
use Rattle.lock_free.specs.declared.reading.Way.{Way}
use Rattle.lock_free.specs.declared.rules.View.{View}
use Rattle.lock_free.specs.Accounts.{place_of}
use Rattle.lock_free.specs.Fates.{HasSettled, IsUnsettled}
use Rattle.lock_free.specs.HandleWords.{HasOffer}
use Rattle.lock_free.specs.Leaving.{HasCompletedOn, IsCompleteOf}
use Rattle.lock_free.specs.Live.{refs_of_claims, line_claims}
use Rattle.lock_free.specs.Loading.{now, Holds, IsAt, IsSound, Runs}
use Rattle.lock_free.specs.OfferWords.{HasCompleted, IsAtComplete}
use Rattle.lock_free.specs.OfReads.{read_to}
use Rattle.lock_free.specs.Passing.{HasCome, HasGiven, HasPassed, IsPassing, IsPlaced, IsReading, Later}
use Rattle.lock_free.specs.Places.{words_of}
use Rattle.lock_free.specs.Rooting.{HasHelped, HasReadExpected, IsCompleting, completing_of}
use Rattle.lock_free.specs.RootWords.{HasSeenOlds, KnowsOffer, SaysOlds}
use Rattle.lock_free.proofs.Comings.{come_on, saw_come, saw_runs}
use Rattle.lock_free.proofs.CompleteLines.{completing_acts, completing_given, completing_holds, completing_reads, completing_reading, swap_holds}
use Rattle.lock_free.proofs.Laters.{later_both, placed_later, saw_later}
use Rattle.lock_free.proofs.OffersLater.{offer_later, met_later}
use Rattle.lock_free.proofs.OnePass.{from_reading, from_then, line_from}
use Rattle.lock_free.specs.Parting.{IsMet}

module _ (n : ℕ) (v1 : View) (sound1 : IsSound n v1) (handle : ℕ) (s : Completing) (c : IsCompleteOf v1 handle s) where
  abbrev its : Known
  its = c.its.its

  abbrev its_complete : Complete
  its_complete = record { offer = its.offer; line = complete.Reading c.at }

  first : (x : ReadLine) × IsReading v1 its.offer.root x
  first = from_reading v1 its.offer.root s.from c.from

  pub passing_there : IsPassing v1 s.root s.from
  passing_there = (its.offer.root, c.root, c.from)

  -- ---- it is out of tries

  module _ (place : ReadFrom) (w : View) (h : HasPassed v1 (passed.Again place) w) where
    come : (y : ReadLine) × HasCome (Goes y) v1 w
    come = line_from v1 w its.offer.root place (h its.offer.root first.0 first.1)

    pub completed_on : HasCompletedOn v1 handle s.offer (record { offer = s.offer; root = s.root; from = place }) w
    completed_on = (
      come.0,
      come.1,
      record {
        its = offer_later v1 w come.1.later handle s.offer c.its;
        operation = read_to (Goes come.0) c.operation;
        runs = come.1.comes c.operation c.runs;
        on = c.on;
        at = come.0;
        line_is = completing_reading come.0 c.operation.line its_complete c.line_is;
        root = placed_later v1 w come.1.later its.offer.root s.root c.root;
        from = from_then v1 w its.offer.root first.0 place first.1 (h its.offer.root first.0 first.1);
      },
      refl,
    )

  -- ---- the READ has given a main node

  module _ (v2 : View) (sound2 : IsSound n v2) (given : Given) (passes : HasPassed v1 (passed.Gives given) v2) where
    gives : HasGiven v1 its.offer.root given v2
    gives = passes its.offer.root first.0 first.1

    abbrev main : Ref
    main = gives.main

    here2 : IsMet v2.account v2.pin its
    here2 = met_later v1 v2 gives.come.later its c.its.here

    offer2 : HasOffer v2.sizes v2.account v2.pin handle s.offer
    offer2 = offer_later v1 v2 gives.come.later handle s.offer c.its

    pub known2 : KnowsOffer v2 s.offer
    known2 = (handle, offer2)

    module _ (v3 : View) (pair3 : Pair) (olds3 : HasSeenOlds v2 s.offer pair3 v3) where
      later3 : Later v2 v3
      later3 = saw_later n v2 sound2 v3 olds3.0

      -- the operation is on the last line
      abbrev o3 : Operation
      o3 = read_to (Gives main) c.operation

      runs2 : Runs v2 o3
      runs2 = gives.come.comes c.operation c.runs

      runs3 : Runs v3 o3
      runs3 = saw_runs v2 v3 olds3.0 o3 runs2

      line3 : completing_of o3.line ≡ Some (record { offer = its.offer; line = complete.Swap main })
      line3 = completing_given c.operation.call main c.operation.line its_complete c.line_is

      abbrev acts3 : IsAt v3 (act.Complete its.offer main)
      acts3 = record {
        operation = record o3 { is_marked = runs3.0 };
        runs = runs3.1;
        acts = completing_acts (now v3) (record o3 { is_marked = runs3.0 }) o3.line (record { offer = its.offer; line = complete.Swap main }) line3;
      }

      said3 : SaysOlds v2 olds3.0.account its pair3
      said3 = olds3.1 its here2 c.its.place

      holds2 : Holds v2 main
      holds2 = (
        record o3 { is_marked = runs2.0 },
        runs2.1,
        inl (Contains-append_left (refs_of_claims (line_claims (now v2) o3)) o3.private main
            (completing_holds (now v2).limits.hash o3.call o3.access main o3.line (record { offer = its.offer; line = complete.Swap main }) line3
            (swap_holds (now v2).limits.hash o3.call o3.access main its.offer))),
      )

      abbrev name : ℕ
      name = given.link.main.slot

      placed2 : place_of v2.account main ≡ name
      placed2 = gives.link.is.names.place

      -- equal slots have equal nodes
      unsettled : IsUnsettled v3.sizes v3.account its → IsUnsettled v2.sizes olds3.0.account its
      unsettled none k settled = none k (subst (λ (x : View). HasSettled x.sizes x.account its k) (sym olds3.0.after_is) settled)

      test : IsUnsettled v3.sizes v3.account its → (main == its.offer.expected) ≡ (name == pair3.high)
      test none = elim (cases_eq name pair3.high) [
        | inl e ↦ eq-eqb main its.offer.expected (said3.only (unsettled none) main holds2 (placed2 ∙ e)) ∙ sym (eq-eqb name pair3.high e)
        | inr differs ↦
            ne_eqb main its.offer.expected
            (λ e. differs (sym placed2 ∙ sym (later3.places main gives.link.main_used.0 gives.link.main_used.1) ∙ ap (place_of v3.account) e ∙ expected_at ∙ sym said3.expected))
            ∙ sym (ne_eqb name pair3.high differs)
      ]
        where
          expected_at : place_of v3.account its.offer.expected ≡ place_of olds3.0.account its.offer.expected
          expected_at = ap (λ (x : View). place_of x.account its.offer.expected) olds3.0.after_is

      completing3 : IsAtComplete v3 s.offer (name == pair3.high)
      completing3 = record {
        its = its;
        main = main;
        here = met_later v2 v3 later3 its here2;
        place = c.its.place;
        acts = acts3;
        on = c.its.on ∙ sym c.on;
        test = test;
      }

      come3 : HasCome (Gives main) v1 v3
      come3 = record {
        later = later_both v1 v2 v3 gives.come.later later3;
        comes = λ o runs. saw_runs v2 v3 olds3.0 (read_to (Gives main) o) (gives.come.comes o runs);
      }

      -- the READ has come to its end
      pub expected3 : HasReadExpected v1 s.offer (name == pair3.high) v3
      expected3 = record { main = main; come = come3; at = completing3 }

-- and the offer is settled by it
pub helped_by : (n : ℕ) (v w : View) (slot : ℕ) (expected : Bool) → IsSound n v → HasReadExpected v slot expected w → IsSound n w → (carried : Bool) (after : View) → HasCompleted w carried after →
    HasHelped v carried after
helped_by n v w slot expected sound r sound_w carried after h = (r.main, w, r.come, h, subst (λ k. IsSound k w) sound.size sound_w)

-- ---- from its first line

module _ (n : ℕ) (v0 : View) (sound0 : IsSound n v0) (way : Way) (offer : ℕ) (c : IsCompleting v0 way.handle offer) (v1 : View) (pair : Pair) (olds : HasSeenOlds v0 offer pair v1) where
  abbrev root : Ref
  root = c.its.its.offer.root

  reading0 : IsReading v0 root read.Main
  reading0 = (c.operation, c.runs, completing_reads c.operation.line (record { offer = c.its.its.offer; line = complete.Reading read.Main }) c.line)

  later1 : Later v0 v1
  later1 = saw_later n v0 sound0 v1 olds.0

  come1 : HasCome (Goes read.Main) v0 v1
  come1 = saw_come v0 v1 root read.Main reading0 later1 olds.0

  pub begins : IsCompleteOf v1 way.handle (record { offer = offer; root = pair.low; from = resume.Start })
  begins =
      let said = olds.1 c.its.its c.its.here c.its.place in
      let runs = saw_runs v0 v1 olds.0 c.operation c.runs in
      record {
        its = offer_later v0 v1 later1 way.handle offer c.its;
        operation = c.operation;
        runs = runs;
        on = c.on;
        at = read.Main;
        line_is = c.line;
        root = subst (λ x. IsPlaced x root pair.low) (sym olds.0.after_is) said.root;
        from = (c.operation, runs, completing_reads c.operation.line (record { offer = c.its.its.offer; line = complete.Reading read.Main }) c.line);
      }

  pub helped_all : (carried : Bool) (after : View) → HasHelped v1 carried after → HasHelped v0 carried after
  helped_all carried after (main, middle, come, h, sound) =
      (main, middle, come_on v0 v1 middle read.Main (Gives main) come1 come, h, subst (λ (x : View). IsSound (words_of x.sizes) middle) later1.is sound)

  pub on_all : (s : Completing) (after : View) → HasCompletedOn v1 way.handle offer s after → HasCompletedOn v0 way.handle offer s after
  on_all s after (y, come, is, same) = (y, come_on v0 v1 after read.Main (Goes y) come1 come, is, same)
