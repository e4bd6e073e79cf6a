-- ROOT, look after look.
use Rattle.std.proofs.Common.{◌≡◌, ℕ, Bool, Some, refl, ap, subst, ◌∙◌, sym}
use Rattle.machine_model.specs.Beneath.slot_arena.specs.declared.refs.Ref.{Ref}
use Rattle.machine_model.specs.declared.reading.After.TheVariants.{Gives}
use Rattle.machine_model.specs.declared.repairs.ClimbLine.TheVariants as climb
use Rattle.machine_model.specs.declared.roots.CompleteLine.TheVariants as complete
use Rattle.machine_model.specs.declared.roots.RootLine.{RootLine}
use Rattle.machine_model.specs.declared.roots.RootLine.TheVariants as root
use Rattle.machine_model.specs.declared.roots.RootWord.TheVariants.{Plain, Offer}
use Rattle.machine_model.specs.declared.lines.Line.{Line}
use Rattle.machine_model.specs.declared.lines.Line.TheVariants as line
use Rattle.machine_model.specs.declared.operations.Operation.{Operation}
use Rattle.machine_model.specs.Calls.{handle_of}
use Rattle.machine_model.specs.Machine.{AreBounds}
use Rattle.machine_model.specs.States.{State, word_at, word_of}
use Rattle.machine_model.specs.Swapping.{completing}
use Rattle.lock_free.specs.declared.accounts.Known.{Known}
use Rattle.lock_free.specs.declared.reading.Way.{Way}
use Rattle.lock_free.specs.declared.rules.View.{View}
use Rattle.lock_free.specs.Accounts.{bounds_for}
use Rattle.lock_free.specs.Entries.{HasStayed}
use Rattle.lock_free.specs.HandleWords.{HasOffer}
use Rattle.lock_free.specs.Loading.{now, seen, IsSound, Runs, Saw}
use Rattle.lock_free.specs.OfReads.{read_to}
use Rattle.lock_free.specs.Passing.{IsOnWay, Later}
use Rattle.lock_free.specs.Places.{words_of}
use Rattle.lock_free.specs.Rooting.{HasHelped, HasLookedSome, HasRooted, IsAtRoot, IsCompleting, rooted, rooting_of, rooting_on}
use Rattle.lock_free.specs.RootWords.{AsksAt, HasFoundOffer, HasFoundRoot, HasSeenGeneration}
use Rattle.lock_free.proofs.Comings.{runs_one, saw_runs}
use Rattle.lock_free.proofs.Laters.{gone_later, later_both, later_self, saw_later, went_later}
use Rattle.lock_free.proofs.Licenses.{same_generation}
use Rattle.lock_free.proofs.OffersLater.{offer_later, root_later}
use Rattle.lock_free.proofs.RootLines.{completes_offer, completing_on, finds_offer, finds_root, rooting_acts, rooting_again, rooting_completes, rooting_still, rooting_there}

-- ---- who is at a ROOT

pub root_line : (v : View) → IsAtRoot v → (o : Operation) → Runs v o → rooting_of o.line ≡ Some root.Read
root_line v (p, r, is) o runs = ap (λ (z : Operation). rooting_of z.line) (runs_one v o p runs r) ∙ is

pub asks_root : (v : View) (way : Way) → IsAtRoot v → IsOnWay v way → AsksAt v way.handle
asks_root v way (p, (mark, runs), is) on = record {
  acts = record { operation = record p { is_marked = mark }; runs = runs; acts = rooting_acts (now v) (record p { is_marked = mark }) p.line root.Read is };
  on = (on p (mark, runs)).1;
}

pub stayed_none : (v : View) → HasStayed v v
stayed_none v = record { later = later_self v; comes = λ o r. r }

pub stayed_both : (u v w : View) → HasStayed u v → HasStayed v w → HasStayed u w
stayed_both u v w p q = record { later = later_both u v w p.later q.later; comes = λ o r. q.comes o (p.comes o r) }

pub stayed_saw : (n : ℕ) (v w : View) → IsSound n v → Saw v w → HasStayed v w
stayed_saw n v w sound s = record { later = saw_later n v sound w s; comes = saw_runs v w s }

pub root_then : (v w : View) → HasStayed v w → IsAtRoot v → IsAtRoot w
root_then v w stayed (p, r, is) = (p, stayed.comes p r, is)

pub on_then : (v w : View) (way : Way) (p : Operation) → Runs v p → (q : Operation) → Runs w q → q.access ≡ p.access → handle_of q.call ≡ handle_of p.call → IsOnWay v way → IsOnWay w way
on_then v w way p r q s access call on o runs =
    let same = runs_one w o q runs s in
    let it = on p r in
    (ap (λ (z : Operation). z.access) same ∙ access ∙ it.0, ap (λ (z : Operation). handle_of z.call) same ∙ call ∙ it.1)

pub stayed_way : (v w : View) (way : Way) → HasStayed v w → IsAtRoot v → IsOnWay v way → IsOnWay w way
stayed_way v w way stayed (p, r, is) on = on_then v w way p r p (stayed.comes p r) refl refl on

pub first_look : (n : ℕ) (way : Way) (v : View) → IsSound n v → IsOnWay v way → IsAtRoot v → HasLookedSome n way v v
first_look n way v sound on at = record { sound = sound; on = on; at = at; stayed = stayed_none v }

pub one_look : (n : ℕ) (way : Way) (u v w : View) → HasLookedSome n way u v → IsSound n w → HasStayed v w → HasLookedSome n way u w
one_look n way u v w h sound stayed =
    record { sound = sound; on = stayed_way v w way stayed h.at h.on; at = root_then v w stayed h.at; stayed = stayed_both u v w h.stayed stayed }

-- ---- an offer stands there

module _ (n : ℕ) (v : View) (sound : IsSound n v) (way : Way) (at : IsAtRoot v) (on : IsOnWay v way) (offer : ℕ) (knows : HasOffer v.sizes v.account v.pin way.handle offer) (w : View)
    (then : IsSound n w) (found : HasFoundOffer v way.handle offer w) where
  abbrev its : Known
  its = knows.its

  pub later : Later v w
  later = went_later n v sound n w then found.went

  abbrev state : State
  state = now (seen v found.went.account)

  abbrev completes : RootLine
  completes = root.Completing (completing its.offer)

  -- the operation is in a COMPLETE of it
  abbrev pub on_line : Operation → Operation
  on_line o = record o { line = rooting_on o.line completes }

  pub goes : (o : Operation) → Runs v o → Runs w (on_line o)
  goes o (mark, runs) =
      let there = found.went.waited.stays (record o { is_marked = mark }) runs in
      let o_there : Operation = record o { is_marked = there.0 } in
      let word_is : word_at state (handle_of o.call) ≡ Offer its.offer = ap (word_at state) (on o (mark, runs)).1 ∙ ap word_of (found.is its knows.here knows.place) in
      (there.0, found.went.took o_there there.1 ∙ ap Some (finds_offer state o_there its.offer word_is o.line (root_line v at o (mark, runs))))

  pub completing_now : IsCompleting w way.handle offer
  completing_now = record {
    its = offer_later v w later way.handle offer knows;
    operation = on_line at.0;
    runs = goes at.0 at.1;
    on = (on at.0 at.1).1;
    line = rooting_completes (rooting_on at.0.line completes) completes (rooting_there completes at.0.line root.Read at.2);
  }

  pub way_now : IsOnWay w way
  way_now = on_then v w way at.0 at.1 (on_line at.0) (goes at.0 at.1) refl refl on

  -- and then it is settled, and the operation is where it was
  module _ (carried : Bool) (k : ℕ) (z : View) (last : IsSound k z) (h : HasHelped w carried z) where
    abbrev main : Ref
    main = h.0

    abbrev middle : View
    middle = h.1

    abbrev swaps : RootLine
    swaps = root.Completing (record { offer = its.offer; line = complete.Swap main })

    abbrev given : Operation → Operation
    given o = read_to (Gives main) (on_line o)

    line_is : (o : Operation) → rooting_of o.line ≡ Some root.Read → (given o).line ≡ rooting_on o.line swaps
    line_is o is = completing_on o.call its.offer main o.line root.Read is

    back : (o : Operation) → rooting_of o.line ≡ Some root.Read → rooting_on (given o).line root.Read ≡ o.line
    back o is = ap (λ l. rooting_on l root.Read) (line_is o is) ∙ rooting_again swaps root.Read o.line root.Read is ∙ rooting_still o.line root.Read is

    settles : (o : Operation) → Runs v o → Runs z o
    settles o runs =
        let is = root_line v at o runs in
        let q : Operation = given o in
        let (mark, runs_q) = h.2.comes (on_line o) (goes o runs) in
        let there = h.3.1.stays (record q { is_marked = mark }) runs_q in
        let q_there : Operation = record q { is_marked = there.0 } in
        let swap_line = ap rooting_of (line_is o is) ∙ rooting_there swaps o.line root.Read is in
        let leads = completes_offer (now (seen middle h.3.0)) q_there its.offer main q.line swap_line in
        subst (λ l. Runs z (record o { line = l })) (back o is) (subst (λ x. Runs z x) leads (h.3.3 q_there there.1))

    settled_later : Later middle z
    settled_later =
        subst (Later middle) (sym h.3.2)
        (gone_later (words_of w.sizes) middle h.4 h.3.0 h.3.1 (subst (λ (x : View). AreBounds (bounds_for x.sizes x.account.steps)) h.3.2 last.bounds))

    pub helped_stays : HasStayed v z
    helped_stays = record { later = later_both v w z later (later_both w middle z h.2.later settled_later); comes = settles }

-- ---- the root

rooted_marked : (r : Ref) (g : ℕ) (o : Operation) (mark : Bool) (l : Line) → rooted r g (record o { is_marked = mark }) l ≡ record (rooted r g o l) { is_marked = mark }
rooted_marked r g o mark (line.Root l) = refl
rooted_marked r g o mark (line.Climb (climb.Root c l)) = refl
rooted_marked r g o mark (line.Climb l) = refl
rooted_marked r g o mark l = refl

module _ (n : ℕ) (v : View) (sound : IsSound n v) (way : Way) (at : IsAtRoot v) (on : IsOnWay v way) (slot : ℕ) (w : View) (then : IsSound n w) (found : HasFoundRoot v way.handle slot w) (z : View)
    (generation : ℕ) (seen_it : HasSeenGeneration w slot generation z) where
  abbrev state_w : State
  state_w = now (seen v found.went.account)

  later_z : Later w z
  later_z = saw_later n w then z seen_it.0

  comes_by : (o : Operation) → Runs v o → Runs w (rooted found.root generation o o.line)
  comes_by o (mark, runs) =
      let there = found.went.waited.stays (record o { is_marked = mark }) runs in
      let o_there : Operation = record o { is_marked = there.0 } in
      let word_is : word_at state_w (handle_of o.call) ≡ Plain found.root = ap (word_at state_w) (on o (mark, runs)).1 ∙ ap word_of found.is in
      let leads = finds_root state_w o_there found.root word_is o.line (root_line v at o (mark, runs)) in
      let told = ap (λ g. rooted found.root g o_there o.line) (same_generation n v sound way.handle slot w then found z generation seen_it) in
      (there.0, found.went.took o_there there.1 ∙ ap Some (leads ∙ told ∙ rooted_marked found.root generation o there.0 o.line))

  root_given : HasRooted v (record { slot = slot; generation = generation }) z
  root_given = record {
    later = later_both v w z (went_later n v sound n w then found.went) later_z;
    root = found.root;
    at = root_later w z later_z found.root slot found.at;
    generation = seen_it.1 found.root found.at found.found;
    comes = λ o runs. saw_runs w z seen_it.0 (rooted found.root generation o o.line) (comes_by o runs);
  }

  -- after some looks
  pub last_look : (u : View) → HasStayed u v → HasRooted u (record { slot = slot; generation = generation }) z
  last_look u stayed = record {
    later = later_both u v z stayed.later root_given.later;
    root = root_given.root;
    at = root_given.at;
    generation = root_given.generation;
    comes = λ o runs. root_given.comes o (stayed.comes o runs);
  }
