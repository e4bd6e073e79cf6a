-- What one operation does to what a world shows.
use Rattle.std.proofs.Common.{◌≡◌, ℕ, ◌==◌, Bool, true, false, cond, Option, Some, None, refl, sym, ap, ◌∙◌, eqb-true}
use Rattle.std.proofs.lemmas.Option.{none-some, same_Some, some_pair_parts}
use Rattle.std.specs.FinMap as fin
use Rattle.std.specs.Cmp.{nat_cmp_total, unsigned_tied}
use Rattle.proof_order.specs.Vocabulary.{Access, Writable, ReadOnly, Call, Get, Put, PutIfAbsent, Replace, ReplaceIf, Remove, RemoveIf, Clear, Close, Entries, Count, Reply, KeyMap, HandleState}
use Rattle.proof_order.specs.Vocabulary.{HandleMap, Effect, effect, changing, copying, naming, handle_of}
use Rattle.proof_order.specs.Beneath.history.specs.declared.replies.Reply.TheVariants as reply
use Rattle.proof_order.specs.Beneath.proof_contents.specs.Effects.{act_in}
use Rattle.proof_order.proofs.Views.Replay.{View, Shows, but}

-- a handle that names this map
abbrev pub named : Access → KeyMap → HandleState
named access pairs = record { access = access; pairs = pairs }

-- ---- views

cond_of : (b : Bool) (x y z : Option HandleState) → (b ≡ true → x ≡ z) → (b ≡ false → y ≡ z) → cond b x y ≡ z
cond_of true x y z f g = f refl
cond_of false x y z f g = g refl

-- a view is the same once a handle names what it named
pub but_same : (view : View) (handle : ℕ) (state : Option HandleState) → view handle ≡ state → (other : ℕ) → view other ≡ but view handle state other
but_same view handle state is other =
    sym (cond_of (other == handle) state (view other) (view other) (λ e. sym is ∙ ap view (sym (eqb-true other handle e))) (λ e. refl))

-- a world in which a handle names something
pub shows_insert : (world : HandleMap) (view : View) (handle : ℕ) (state : HandleState) → Shows world view → Shows (fin.insert world handle state) (but view handle (Some state))
shows_insert world view handle state shows other =
    fin.get-insert nat_cmp_total world handle state other
    ∙ ap (λ b. cond b (Some state) (fin.get world other)) (unsigned_tied other handle)
    ∙ ap (λ o. cond (other == handle) (Some state) o) (shows other)

-- a world in which it names nothing any more
pub shows_remove : (world : HandleMap) (view : View) (handle : ℕ) → Shows world view → Shows (fin.remove world handle) (but view handle None)
shows_remove world view handle shows other =
    fin.get-remove nat_cmp_total world handle other
    ∙ ap (λ b. cond b None (fin.get world other)) (unsigned_tied other handle)
    ∙ ap (λ o. cond (other == handle) None o) (shows other)

-- ---- the effect of a call on one map

-- what an operation does to what a world shows
abbrev pub ActsOn : (ℕ → ℕ) → Call → Option ℕ → Reply → View → View → Type 0
ActsOn hash call opens answer view next =
    (world : HandleMap) → Shows world view → (after : HandleMap) × Effect hash world call opens answer after × Shows after next

changing_at : (world : HandleMap) (handle : ℕ) (change : KeyMap → Reply × KeyMap) (m : KeyMap) (answer : Reply) (next : KeyMap) →
    fin.get world handle ≡ Some (named Writable m) → change m ≡ (answer, next) → changing world handle change ≡ Some (answer, naming world handle Writable next)
changing_at world handle change m answer next is does = rw is (ap (λ (c : Reply × KeyMap). Some (c.0, naming world handle Writable c.1)) does)

-- a change, where the call's effect is one
changes : (hash : ℕ → ℕ) (call : Call) (opens : Option ℕ) (view : View) (handle : ℕ) (change : KeyMap → Reply × KeyMap) (m : KeyMap) (answer : Reply) (next : KeyMap) →
    ((world : HandleMap) → effect hash world call opens ≡ changing world handle change) →
    view handle ≡ Some (named Writable m) → Some (change m) ≡ Some (answer, next) → ActsOn hash call opens answer view (but view handle (Some (named Writable next)))
changes hash call opens view handle change m answer next is at does world shows = (
  naming world handle Writable next,
  is world ∙ changing_at world handle change m answer next (shows handle ∙ at) (same_Some _ _ does),
  shows_insert world view handle (named Writable next) shows,
)

-- a look that changes nothing, where the call's effect is one
looks : (hash : ℕ → ℕ) (call : Call) (opens : Option ℕ) (view : View) (handle : ℕ) (access : Access) (look : KeyMap → Reply) (m : KeyMap) (answer : Reply) (next : KeyMap) →
    ((world : HandleMap) → fin.get world handle ≡ Some (named access m) → effect hash world call opens ≡ Some (look m, world)) →
    view handle ≡ Some (named access m) → ◌≡◌ {A = Option (Reply × KeyMap)} (Some (look m, m)) (Some (answer, next)) → ActsOn hash call opens answer view (but view handle (Some (named access next)))
looks hash call opens view handle access look m answer next is at does world shows =
    let same = some_pair_parts (look m) answer m next does in (
      world,
      is world (shows handle ∙ at) ∙ ap (λ (r : Reply). Some (r, world)) same.0,
      λ other. shows other ∙ but_same view handle (Some (named access next)) (at ∙ ap (λ (c : KeyMap). Some (named access c)) same.1) other,
    )

get_on : (hash : ℕ → ℕ) (h k : ℕ) (opens : Option ℕ) (access : Access) (m : KeyMap) (world : HandleMap) → fin.get world h ≡ Some (named access m) →
    effect hash world (Get h k) opens ≡ Some (reply.Found (fin.get m k), world)
get_on hash h k opens access m world is = rw is refl

entries_on : (hash : ℕ → ℕ) (h : ℕ) (opens : Option ℕ) (m : KeyMap) (world : HandleMap) → fin.get world h ≡ Some (named ReadOnly m) →
    effect hash world (Entries h) opens ≡ Some (reply.Pairs (fin.entries m), world)
entries_on hash h opens m world is = rw is refl

count_on : (hash : ℕ → ℕ) (h : ℕ) (opens : Option ℕ) (m : KeyMap) (world : HandleMap) → fin.get world h ≡ Some (named ReadOnly m) →
    effect hash world (Count h) opens ≡ Some (reply.Count (fin.len m), world)
count_on hash h opens m world is = rw is refl

-- what a call does to its handle's map it does in a world
pub acts_on : (hash : ℕ → ℕ) (access : Access) (call : Call) (opens : Option ℕ) (view : View) (m : KeyMap) (answer : Reply) (next : KeyMap) →
    view (handle_of call) ≡ Some (named access m) → act_in hash access call m ≡ Some (answer, next) →
    ActsOn hash call opens answer view (but view (handle_of call) (Some (named access next)))
acts_on hash access (Get h k) opens view m answer next at does =
    looks hash (Get h k) opens view h access (λ m. reply.Found (fin.get m k)) m answer next (get_on hash h k opens access m) at does
acts_on hash ReadOnly (Entries h) opens view m answer next at does =
    looks hash (Entries h) opens view h ReadOnly (λ m. reply.Pairs (fin.entries m)) m answer next (entries_on hash h opens m) at does
acts_on hash ReadOnly (Count h) opens view m answer next at does =
    looks hash (Count h) opens view h ReadOnly (λ m. reply.Count (fin.len m)) m answer next (count_on hash h opens m) at does
acts_on hash ReadOnly call opens view m answer next at does = absurd (none-some (answer, next) does)
acts_on hash Writable (Put h k v) opens view m answer next at does = changes hash (Put h k v) opens view h _ m answer next (λ w. refl) at does
acts_on hash Writable (PutIfAbsent h k v) opens view m answer next at does = changes hash (PutIfAbsent h k v) opens view h _ m answer next (λ w. refl) at does
acts_on hash Writable (Replace h k v) opens view m answer next at does = changes hash (Replace h k v) opens view h _ m answer next (λ w. refl) at does
acts_on hash Writable (ReplaceIf h k a b) opens view m answer next at does = changes hash (ReplaceIf h k a b) opens view h _ m answer next (λ w. refl) at does
acts_on hash Writable (Remove h k) opens view m answer next at does = changes hash (Remove h k) opens view h _ m answer next (λ w. refl) at does
acts_on hash Writable (RemoveIf h k v) opens view m answer next at does = changes hash (RemoveIf h k v) opens view h _ m answer next (λ w. refl) at does
acts_on hash Writable (Clear h) opens view m answer next at does = changes hash (Clear h) opens view h _ m answer next (λ w. refl) at does
acts_on hash Writable call opens view m answer next at does = absurd (none-some (answer, next) does)

-- ---- calls that open and close handles

-- a copy of a writable handle's map under a number that isn't open
pub copies : (hash : ℕ → ℕ) (call : Call) (view : View) (handle n : ℕ) (access : Access) (m : KeyMap) →
    ((world : HandleMap) → effect hash world call (Some n) ≡ copying world handle (Some n) access) →
    view handle ≡ Some (named Writable m) → view n ≡ None → ActsOn hash call (Some n) (reply.Opened n) view (but view n (Some (named access m)))
copies hash call view handle n access m is at free world shows = (
  naming world n access m,
  is world ∙ copied world (shows handle ∙ at) (shows n ∙ free),
  shows_insert world view n (named access m) shows,
)
  where
    copied : (w : HandleMap) → fin.get w handle ≡ Some (named Writable m) → fin.get w n ≡ None → copying w handle (Some n) access ≡ Some (reply.Opened n, naming w n access m)
    copied w here there = rw (here, there) refl

-- a close takes a handle away
pub closes : (hash : ℕ → ℕ) (handle : ℕ) (opens : Option ℕ) (view : View) (access : Access) (m : KeyMap) → view handle ≡ Some (named access m) →
    ActsOn hash (Close handle) opens reply.Closed view (but view handle None)
closes hash handle opens view access m at world shows = (
  fin.remove world handle,
  gone (shows handle ∙ at),
  shows_remove world view handle shows,
)
  where
    gone : fin.get world handle ≡ Some (named access m) → effect hash world (Close handle) opens ≡ Some (reply.Closed, fin.remove world handle)
    gone here = rw here refl
