-- Offers are parted, or don't stand any more, and no step is taken: all that is said of the steps, of nodes and of handles is so still.
use Rattle.history.specs.declared.calls.Call.{Call}
use Rattle.std.proofs.Common.{◌≡◌, ◌<◌, ◌⊎◌, ℕ, inl, inr, List, [], Contains, slice_index, refl, sym, subst, ◌++◌, Option}
use Rattle.std.proofs.Common.{append-nil}
use Rattle.atomic_table.specs.Table as Table
use Rattle.trie_words.specs.Codes.{root_code, IsRootWord}
use Rattle.trie_words.specs.declared.roots.RootWord.{RootWord as HandleWord}
use Rattle.trie_words.specs.declared.roots.RootWord.TheVariants as word
use Rattle.history.specs.declared.calls.Access.{Access}
use Rattle.machine_model.specs.Beneath.slot_arena.specs.declared.refs.Ref.{Ref}
use Rattle.machine_model.specs.States.{root_at, handle_limit}
use Rattle.lock_free.specs.declared.accounts.Account.{Account}
use Rattle.lock_free.specs.declared.accounts.Known.{Known}
use Rattle.lock_free.specs.declared.accounts.Parted.{Parted}
use Rattle.lock_free.specs.declared.rules.Retired.{Retired}
use Rattle.lock_free.specs.declared.rules.View.{View}
use Rattle.lock_free.specs.declared.sizes.Sizes.{Sizes}
use Rattle.lock_free.specs.Accounts.{state_of, HasGrown, HasStood, HasWaited, MayBeFound}
use Rattle.lock_free.specs.Fates.{TellsFate}
use Rattle.lock_free.specs.Holdings.{AreHeld}
use Rattle.lock_free.specs.Offering.{LeavesNodes}
use Rattle.lock_free.specs.Parting.{AreParted, KnowsOffers, NamesOffer}
use Rattle.lock_free.specs.Places.{root_word, IsTaken}
use Rattle.lock_free.specs.Reached.{IsDead, IsHeldFrom, IsOwed, at_first, by_node}
use Rattle.lock_free.specs.Roots.{MeansRoot, NoOffer, SaysPlain, SaysRoot}
use Rattle.lock_free.specs.Rules.{IsKept, IsRetired, IsSeat, RootsStand, IsFree, IsSpare, Once, pool_of}
use Rattle.lock_free.proofs.Assembling.{AllStand}
use Rattle.lock_free.proofs.Fates.{settled_still}
use Rattle.lock_free.proofs.HeldFrom.{held_each}
use Rattle.lock_free.proofs.Meanings.{stood_still}
use Rattle.lock_free.proofs.RootSteps.{nodes_left, written_left}
use Rattle.lock_free.specs.declared.accounts.OwnOffer.{OwnOffer}
use Rattle.lock_free.specs.declared.rules.Pool.{Pool}

module _ (sizes : Sizes) (s : Table.State Call View) (kept : IsKept sizes s) (offers : List Known) (parted : List Parted) where
  abbrev account : Account
  account = kept.account

  -- with these offers, of which these are parted
  abbrev pub relisted : Account
  relisted = record kept.account { offers = offers; parted = parted }

  nil : {A : Type 0} (xs : List A) → xs ≡ xs ++ []
  nil xs = sym (append-nil xs)

  -- ---- what is said of the steps

  pub grown_to : (first : Account) → HasGrown first account → HasGrown first relisted
  grown_to first h = record { steps = h.steps; goes_on = h.goes_on; names = h.names; more_names = h.more_names }

  pub waited_to : (actor : ℕ) (first : Account) → HasWaited actor first account → HasWaited actor first relisted
  waited_to actor first h = record {
    steps = h.steps;
    goes_on = h.goes_on;
    others = h.others;
    names = h.names;
    more_names = h.more_names;
    owned = h.owned;
    more_owned = h.more_owned;
    offers = h.offers;
    more_offers = h.more_offers;
  }

  found_from : (r : Ref) → MayBeFound sizes relisted r → MayBeFound sizes account r
  found_from r h = record {
    root = record { steps = h.root.steps; more = h.root.more; goes_on = h.root.goes_on; handle = h.root.handle; access = h.root.access; was = h.root.was };
    actor = h.actor;
    operation = h.operation;
    runs = h.runs;
    began = h.began;
  }

  leaves : LeavesNodes sizes account relisted
  leaves = record {
    bounds = kept.bounds;
    nodes = λ k. refl;
    births = refl;
    live = λ r h. h;
    reached = λ r h. inl (found_from r h);
    generations = refl;
    aheads = λ i a f h. h;
    still = λ i a f h. h;
  }

  fate_to : (k : Known) (n : ℕ) → TellsFate sizes account k n → TellsFate sizes relisted k n
  fate_to k n h = record {
    once = λ m settled. h.once m (settled_still sizes relisted account [] (nil account.steps) k m settled);
    told = λ decided. settled_still sizes account relisted [] (nil account.steps) k n (h.told decided);
  }

  -- ---- handles, and offers

  module _ (fewer : (k : Known) → Contains offers k → Contains account.offers k)
      (named : (k : Known) → Contains account.offers k → (handle : ℕ) → handle < handle_limit → NamesOffer (slice_index s.words (root_word handle)) k.slot → Contains offers k)
      (came : (x : Parted) → Contains parted x → HasStood sizes account x.known.offer) (parts : AreParted account.offered offers parted s.words) where
    pub none_stands : (handle slot : ℕ) → handle < handle_limit → NamesOffer (slice_index s.words (root_word handle)) slot → NoOffer relisted slot → NoOffer account slot
    none_stands handle slot low names none k c same = none k (named k c handle low (subst (NamesOffer (slice_index s.words (root_word handle))) (sym same) names)) same

    plain_to : (access : Access) (slot : ℕ) (r : _) → SaysPlain account access slot r → SaysPlain relisted access slot r
    plain_to access slot r h = record { root = h.root; place = h.place; is = h.is }

    says_to : (handle : ℕ) → handle < handle_limit → (r : _) (w : HandleWord) → IsRootWord w → slice_index s.words (root_word handle) ≡ root_code w → SaysRoot account s.words handle w r →
        SaysRoot relisted s.words handle w r
    says_to handle low r word.Closed fits is h = h
    says_to handle low r word.Reserved fits is h = h
    says_to handle low r (word.Writable slot) fits is h = plain_to _ slot r h
    says_to handle low r (word.ReadOnly slot) fits is h = plain_to _ slot r h
    says_to handle low r (word.ClosingWritable slot seat) fits is h = plain_to _ slot r h
    says_to handle low r (word.ClosingReadOnly slot seat) fits is h = plain_to _ slot r h
    says_to handle low r (word.Offered slot) fits is h =
        let names = subst (NamesOffer (slice_index s.words (root_word handle))) h.place (inl (fits, is)) in
        record { its = h.its; here = named h.its h.here handle low names; on = h.on; place = h.place; is = h.is }
    says_to handle low r (word.Opening slot) fits is (inl h) =
        let names = subst (NamesOffer (slice_index s.words (root_word handle))) h.place (inr (fits, is)) in
        inl (record { its = h.its; here = named h.its h.here handle low names; place = h.place; opens = h.opens; is = h.is })
    says_to handle low r (word.Opening slot) fits is (inr h) = inr (λ k c. h.0 k (fewer k c), h.1)

    means_to : (handle : ℕ) → handle < handle_limit → MeansRoot relisted s.words handle (slice_index s.words (root_word handle)) (root_at (state_of sizes account) handle)
    means_to handle low =
        let h = kept.roots.means handle low in
        record { what = h.what; fits = h.fits; code = h.code; says = says_to handle low (root_at (state_of sizes account) handle) h.what h.fits h.code h.says }

    roots_to : RootsStand sizes relisted s.words
    roots_to = record {
      means = means_to;
      offers = λ k c. written_left sizes account account.steps relisted leaves kept.stands s.words k (kept.roots.offers k (fewer k c));
      blocks = λ k c. kept.roots.blocks k (fewer k c);
      single = λ k l c d. kept.roots.single k l (fewer k c) (fewer l d);
      tries = λ k l c d. kept.roots.tries k l (fewer k c) (fewer l d);
      stood = λ k c. stood_still sizes account relisted [] (nil account.steps) k.offer (kept.roots.stood k c);
      came = λ x c. stood_still sizes account relisted [] (nil account.steps) x.known.offer (came x c);
      marks = λ k c. kept.roots.marks k (fewer k c);
      fates = λ k c. fate_to k _ (kept.roots.fates k (fewer k c));
      pending = λ k c. kept.roots.pending k (fewer k c);
      parting = parts;
    }

    pub all_to : AllStand sizes relisted kept.stands s.words
    all_to = record {
      bounds = kept.bounds;
      keys = kept.keys;
      quiet = kept.quiet;
      counted = kept.counted;
      size = kept.size;
      taken = kept.taken;
      generations = kept.generations;
      nodes = nodes_left sizes account account.steps relisted leaves kept.stands s.words [] (nil account.steps) (λ x c. kept.nodes.offers x (fewer x c)) kept.nodes;
      roots = roots_to;
    }

    -- ---- seats

    retired_to : (x : Retired) → IsRetired sizes account kept.stands x → IsRetired sizes relisted kept.stands x
    retired_to x h = record { was = h.was; grown = grown_to x.account h.grown; still = h.still }

    -- with this offer of its own, and these slots
    pub seat_to : (v : View) (own : Option OwnOffer) (pool : Pool) → IsSeat sizes account kept.stands s.words v → ((b name : ℕ) → IsFree v b name → Contains (pool_of pool b) name) →
        ((b name : ℕ) → b < 3 → Contains (pool_of pool b) name → IsTaken sizes s.words b name × IsSpare sizes relisted kept.stands name) → ((b : ℕ) → b < 3 → Once (pool_of pool b)) →
        KnowsOffers account.offered offers parted s.words v.actor v.pin own pool.parted → IsSeat sizes relisted kept.stands s.words (record v { offer = own; pool = pool })
    seat_to v own pool h more spare once knows = record {
      same = h.same;
      low = h.low;
      top = h.top;
      most = h.most;
      waited = waited_to v.actor v.account h.waited;
      counts = h.counts;
      rested = λ a above below. waited_to a _ (h.rested a above below);
      rests = h.rests;
      pinned = h.pinned;
      pinned_idle = λ p is. (let y = h.pinned_idle p is in record { grown = grown_to p.account y.grown; idle = y.idle });
      retired = λ x c. retired_to x (h.retired x c);
      entered = h.entered;
      calls = h.calls;
      opens = h.opens;
      reserves = h.reserves;
      opening = λ handle slot o n. (let y = h.opening handle slot o n in record { low = y.low; fits = y.fits; is = y.is; free = (y.free.0, more 1 slot y.free) });
      spare = λ b name free. spare b name free.0 free.1;
      once = once;
      drafts = λ d c. (let y = h.drafts d c in (y.0, (y.1.0, y.1.1, (y.1.2.0, more y.1.0 y.1.1 y.1.2), y.1.3, y.1.4)));
      plain = λ d c. (let y = h.plain d c in record { low = y.low; begun = y.begun; plain = y.plain });
      offering = knows;
    }

    -- another one
    pub other_to : (u : View) → IsSeat sizes account kept.stands s.words u → KnowsOffers account.offered offers parted s.words u.actor u.pin u.offer u.pool.parted →
        IsSeat sizes relisted kept.stands s.words u
    other_to u h knows =
        seat_to u u.offer u.pool h (λ b name free. free.1)
        (λ b name low c. (let y = h.spare b name (low, c) in (y.0, (y.1.0, λ k stands. y.1.1 k (fewer k stands))))) h.once knows

  -- ---- references

  reached_from : (views : List View) (k : Ref) → IsHeldFrom sizes relisted (λ r. IsOwed views r ⊎ IsDead sizes relisted views r) k →
      IsHeldFrom sizes account (λ r. IsOwed views r ⊎ IsDead sizes account views r) k
  reached_from views =
      held_each sizes relisted (λ r. IsOwed views r ⊎ IsDead sizes relisted views r) (IsHeldFrom sizes account (λ r. IsOwed views r ⊎ IsDead sizes account views r))
      (λ r first. elim first [
        | inl owed ↦ at_first r (inl owed)
        | inr dead ↦ at_first r
            (inr (record { used = dead.used; id = dead.id; view = dead.view; at = dead.at; item = dead.item; its = dead.its; deep = dead.deep; number = dead.number }))
      ])
      (λ j r from holds. by_node j r from holds)

  pub held_to : (views : List View) → AreHeld sizes account kept.stands s.words views → AreHeld sizes relisted kept.stands s.words views
  held_to views h = record {
    counted = h.counted;
    spare = h.spare;
    fresh = h.fresh;
    owed = h.owed;
    known = h.known;
    lines = h.lines;
    dead = h.dead;
    unlet = h.unlet;
    reached = λ k from. h.reached k (reached_from views k from);
    unborn = h.unborn;
    gone = λ j k has away. (let y = h.gone j k has away in record { first = y.first; grown = grown_to y.first y.grown; garbage = y.garbage });
    used = h.used;
    owned = h.owned;
    owns = h.owns;
  }
