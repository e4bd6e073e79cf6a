-- COPY's offer is ready: its roots are made, it is written, and the word of the number that it opens names it.
use Rattle.std.proofs.Common.{◌≡◌, ◌++◌, ◌∷◌, ◌+◌, ◌*◌, ℕ, List, [], Contains, Option, Some, None, unwrap_or, refl, sym, ap, subst, ◌∙◌, arith}
use Rattle.std.proofs.lemmas.Option.{none-some}
use Rattle.std.proofs.lemmas.List.Elements.{Contains-push}
use Rattle.trie_words.specs.Codes.{pair_code}
use Rattle.machine_model.specs.Beneath.slot_arena.specs.declared.refs.Ref.{Ref}
use Rattle.machine_model.specs.declared.actions.Action.TheVariants as act
use Rattle.machine_model.specs.declared.copying.CopyLine.TheVariants as copy
use Rattle.machine_model.specs.declared.lines.Line.TheVariants as line
use Rattle.machine_model.specs.declared.operations.Operation.{Operation}
use Rattle.machine_model.specs.declared.roots.Descriptor.{Descriptor}
use Rattle.lock_free.specs.declared.copy_roots.CopyKind.{CopyKind}
use Rattle.lock_free.specs.declared.copy_roots.CopyKind.TheVariants as kind
use Rattle.history.specs.declared.replies.Reply.TheVariants as reply
use Rattle.lock_free.specs.declared.copy_roots.NewRoots.{NewRoots as Roots}
use Rattle.lock_free.specs.declared.rules.Pool.{Pool}
use Rattle.lock_free.specs.declared.rules.View.{View}
use Rattle.lock_free.specs.Accounts.{place_of}
use Rattle.lock_free.specs.CopySteps.{IsCopying, IsReady, IsSecond, HasDraftedOffer, HasNewRoots, HasPrepared, HasStopped, given_line}
use Rattle.lock_free.specs.Loading.{IsAt, Runs}
use Rattle.lock_free.specs.Numbers.{IsNaming, naming}
use Rattle.lock_free.specs.Roots.{second_of, undecided}
use Rattle.lock_free.specs.Rules.{IsFree, pool_of}
use Rattle.lock_free.specs.RunningOn.{IsStill}
use Rattle.lock_free.specs.Stocks.{HasSlot}
use Rattle.lock_free.proofs.Followings.{placed_on}
use Rattle.lock_free.proofs.RunningOn.{still_follows, still_with, still_self}
use Rattle.machine_model.specs.GivingUp.{copy_given_up}
use Rattle.lock_free.proofs.CopyReads.{copy_line}

-- the operation's next offer
abbrev offer_of : Operation → Ref → Ref → Ref → Option Ref → Descriptor
offer_of o root main successor second =
    record { operation = o.id; attempt = o.attempt + 1; root = root; expected = main; successor = successor; second = second; opens = o.opens }

second_named : (v : View) (second : Option Ref) (name : Option ℕ) → IsSecond v second name → second_of v.account second ≡ unwrap_or name 0
second_named v None None h = refl
second_named v (Some r) (Some name) h = h.1
second_named v None (Some name) h = absurd h
second_named v (Some r) None h = absurd h

module _ (u : View) (k : CopyKind) (handle : ℕ) (opens : Option ℕ) (c : IsCopying u k handle opens) (root_name main_name class : ℕ) (ready : IsReady u k root_name main_name class) (roots : Roots)
    (a : View)
    (made : HasNewRoots u k ready.0 ready.1 roots a) where
  abbrev root : Ref
  root = ready.0

  abbrev main : Ref
  main = ready.1

  abbrev o : Operation
  o = ready.2.0

  abbrev offer : Descriptor
  offer = offer_of o root main made.successor made.second

  abbrev private : List Ref
  private = (made.comes o ready.2.1).0

  abbrev offering_it : Operation
  offering_it = record o { private = private; line = line.Copy (copy.Offer offer) }

  its_run : Runs a offering_it
  its_run = (made.comes o ready.2.1).1

  -- no slot is left for the offer
  pub stopped_there : (b : View) → b ≡ a → HasStopped u b
  stopped_there b e =
      subst (HasStopped u) (sym e)
      (record { still = still_follows u a made.follows; stops = λ q r. (let x = made.comes q r in (x.0, copy.Offer (offer_of q root main made.successor made.second), x.1, refl)) })

  -- ---- it is written

  module _ (pool : Pool) (drafts : List (ℕ × ℕ)) (opening : Option ℕ) (slot : ℕ) (rest : List ℕ) (last : pool_of pool 1 ≡ rest ++ slot ∷ []) (first : Contains drafts (2 * slot, undecided))
      (olds : Contains drafts (2 * slot + 1, pair_code (record { low = root_name; high = main_name })))
      (news : Contains drafts (2 * slot + 2, pair_code (record { low = roots.successor; high = unwrap_or roots.second 0 })))
      (named : (number : ℕ) → opens ≡ Some number → opening ≡ Some slot) where
    abbrev e : View
    e = record a { pool = pool; drafts = drafts; opening = opening }

    root_place : place_of a.account root ≡ root_name
    root_place = (placed_on u a made.follows root root_name ready.4).1

    main_place : place_of a.account main ≡ main_name
    main_place = (placed_on u a made.follows main main_name ((ready.3.slot, ready.3.used), ready.3.place)).1

    at_offer : IsAt e (act.Offer offer)
    at_offer = record { operation = record offering_it { is_marked = its_run.0 }; runs = its_run.1; acts = refl }

    still_e : IsStill u e
    still_e =
        still_with u e e
        (subst (λ o. e ≡
        record u {
          account = e.account;
          epoch = e.epoch;
          passed = e.passed;
          pool = e.pool;
          drafts = e.drafts;
          opening = e.opening;
          offer = o;
          retired = e.retired;
          owed = e.owed;
          links = e.links;
        }) (sym (ap (λ (x : View). x.offer) made.follows.is))
        (ap (λ (x : View). record x { pool = pool; drafts = drafts; opening = opening }) made.follows.is)) made.follows.goes_on

    prepared : HasPrepared u k opens handle root_name slot e
    unfolding at_offer
    prepared = record {
      still = still_e;
      offers = (
        offer,
        rest,
        at_offer,
        record {
          last = last;
          drafts = record {
            first = first;
            olds =
                subst (λ n. Contains drafts (2 * slot + 1, n))
                (ap (λ n. pair_code (record { low = n; high = main_name })) (sym root_place) ∙ ap (λ n. pair_code (record { low = place_of a.account root; high = n })) (sym main_place)) olds;
            news =
                subst (λ n. Contains drafts (2 * slot + 2, n))
                (ap (λ n. pair_code (record { low = n; high = unwrap_or roots.second 0 })) (sym made.successor_placed.1)
                ∙ ap (λ n. pair_code (record { low = place_of a.account made.successor; high = n })) (sym (second_named a made.second roots.second made.second_placed))) news;
          };
          names = λ number e_opens. named number (sym (c.on o ready.2.1).1 ∙ e_opens);
          place = root_place;
        },
        (c.on o ready.2.1).0,
      );
      opening = (c.on o ready.2.1).1;
      two = made.two;
      comes = λ q r. (let x = made.comes q r in (x.0, offer_of q root main made.successor made.second, x.1, record { its = refl; now = refl }));
    }

  pub slot_free : (b : View) (slot : ℕ) → HasSlot a 1 slot b → IsFree b 1 slot
  slot_free b slot free = (omega arith, subst (λ xs. Contains xs slot) (sym free.last.1) (Contains-push free.last.0 slot))

  -- in a slot that was free
  module _ (b d : View) (slot : ℕ) (free : HasSlot a 1 slot b) (drafted : HasDraftedOffer b slot root_name main_name roots d) where
    drafts_are : d ≡ record a { pool = b.pool; drafts = d.drafts }
    drafts_are = drafted.is ∙ ap (λ (x : View). record x { drafts = d.drafts }) free.is

    run_there : Runs d offering_it
    run_there = subst (λ x. Runs x offering_it) (sym drafts_are) its_run

    -- the word of its number is to name it
    pub names_it : (number : ℕ) → opens ≡ Some number → IsNaming d number slot
    names_it number is = record {
      reserved = ap (λ (x : View). x.opens) drafts_are ∙ ap (λ (x : View). x.opens) made.follows.is ∙ c.reserved ∙ is;
      free = subst (λ x. IsFree x 1 slot) (sym drafted.is) (slot_free b slot free);
      operation = offering_it;
      runs = run_there;
      offer = offer;
      on = refl;
    }

    pub named_so : (number : ℕ) → (w : View) → w ≡ naming d slot → HasPrepared u k opens handle root_name slot w
    named_so number w is =
        subst (HasPrepared u k opens handle root_name slot) (sym (is ∙ ap (λ (x : View). naming x slot) drafts_are))
        (prepared b.pool d.drafts (Some slot) slot free.last.0 free.last.1 drafted.first drafted.olds drafted.news (λ number e. refl))

    pub unnamed_so : opens ≡ None → HasPrepared u k opens handle root_name slot d
    unnamed_so none =
        subst (HasPrepared u k opens handle root_name slot) (sym drafts_are)
        (prepared b.pool d.drafts a.opening slot free.last.0 free.last.1 drafted.first drafted.olds drafted.news (λ number e. absurd (none-some number (sym none ∙ e))))

-- ---- what is not of the seat's stock

pub drafted_only : (v w : View) → w ≡ record v { drafts = w.drafts } → w ≡ record v { drafts = w.drafts; opens = w.opens; opening = w.opening }
drafted_only v w is = is ∙ ap (λ (x : View). record v { drafts = w.drafts; opens = x.opens; opening = x.opening }) (sym is)

pub named_only : (v w : View) (slot : ℕ) → w ≡ naming v slot → w ≡ record v { drafts = w.drafts; opens = w.opens; opening = w.opening }
named_only v w slot is = is ∙ ap (λ (x : View). record v { drafts = x.drafts; opens = x.opens; opening = x.opening }) (sym is)

-- where it has made nothing yet
pub stopped_ready : (v : View) (k : CopyKind) (root_name main_name class : ℕ) → IsReady v k root_name main_name class → HasStopped v v
stopped_ready v k root_name main_name class (root, main, at, main_placed, root_placed) = record {
  still = still_self v;
  stops = λ q s. (q.private, given_line k root main, subst (λ l. Runs v (record q { line = l })) (copy_line v (given_line k root main) at q s) s, full k);
}
  where
    full : (which : CopyKind) → copy_given_up (given_line which root main) ≡ Some reply.NoSlots
    full kind.Clear = refl
    full kind.Snapshot = refl
    full kind.Freeze = refl
