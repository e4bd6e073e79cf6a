-- At each time of a run: where a single was that came into an indirection and was dropped there.
use Rattle.std.proofs.Common.{◌≡◌, ℕ, zero, suc, ◌<◌, ◌≤◌, ◌⊎◌, Bool, true, false, Contains, Some, inl, inr, refl, sym, ap, ◌∙◌, subst, arith}
use Rattle.std.proofs.lemmas.Bool.{true≢false}
use Rattle.proof_shape.specs.Vocabulary.{Ref, Bounds, State, IsRun, entries_of, Root, root_at, root_of, operation_of, current, Operation}
use Rattle.proof_owned.specs.Beneath.slot_arena.specs.declared.nodes.Prev.TheVariants as prev
use Rattle.proof_owned.specs.Beneath.history.specs.declared.calls.Access.TheVariants.{Writable}
use Rattle.proof_owned.specs.Beneath.proof_commits.specs.Protocol.{Words, Protocol, Given, MayName}
use Rattle.proof_owned.specs.Beneath.proof_commits.proofs.Known.Acts.{known_run}
use Rattle.proof_owned.specs.Beneath.proof_commits.proofs.Known.Owners.{Staged}
use Rattle.proof_owned.specs.Beneath.proof_commits.proofs.Known.Sounds.{sound_at}
use Rattle.proof_owned.specs.Beneath.proof_commits.proofs.Lines.Stages.{Remembers}
use Rattle.proof_owned.specs.Beneath.proof_commits.proofs.Words.Along.{protocol, remembers_at}
use Rattle.proof_owned.specs.Beneath.proof_commits.proofs.Words.Effects.{Effect, Nothing, Made, SwappedIn, PutBack, Committed, Failed}
use Rattle.proof_owned.specs.Beneath.proof_commits.proofs.Words.Stood.{Stood, Decided, none≢pending}
use Rattle.proof_owned.specs.Beneath.proof_commits.proofs.Course.Finals.{effect, none_final}
use Rattle.proof_owned.specs.Beneath.proof_commits.proofs.Course.Mains.{main_decided, main_when_none}
use Rattle.proof_owned.specs.Beneath.proof_contents.specs.Runs.{is_made, counting_main}
use Rattle.proof_owned.specs.Beneath.proof_generations.proofs.Falling.KnownRoots.{words, protocol_of}
use Rattle.proof_owned.specs.Beneath.proof_generations.proofs.Handles.Running.{place_of_actor}
use Rattle.proof_order.proofs.Openings.Branches as branch
use Rattle.proof_order.proofs.Openings.Branches.{empty_at}
use Rattle.proof_shape.proofs.Commits.Was.{main_linked, was_given, given_link}
use Rattle.proof_shape.proofs.Held.Fresh.{Names}
use Rattle.proof_shape.proofs.Runs.Entries.{no_entry}
use Rattle.proof_owned.proofs.AtFirst.{none_at_first}
use Rattle.proof_owned.proofs.Building.{BuildsAt, at_link, at_clear, runs_building}
use Rattle.proof_owned.proofs.CountingSteps.{IsPublished, CountingStep, keeps, changes, counting_step}
use Rattle.proof_owned.proofs.Earlier.{IsLink}
use Rattle.proof_owned.proofs.Opens.{RootSo, stood_before, brought, root_so}
use Rattle.proof_owned.specs.Beneath.proof_memory.specs.Wants.{is_indirection}
use Rattle.proof_owned.specs.Beneath.proof_memory.proofs.Safety.AtTimes.{node_found}
use Rattle.proof_order.proofs.Openings.RootOf.{root_in_use}
use Rattle.proof_owned.proofs.Unopened.{root_link}
use Rattle.proof_owned.proofs.Shared.{by_turn}
use Rattle.proof_owned.proofs.SinglesCalm.{CameAndWent, Calm, calm, calm_first, calm_below, no_link_is, not_no_ref, is_first, published_elsewhere}
use Rattle.proof_owned.proofs.SinglesFrom.{found_or_none}
use Rattle.proof_owned.proofs.SinglesNew.{IsFirst, IsBeside, ends, goes_on, Carries, entry_in}
use Rattle.proof_owned.proofs.SinglesMade.{carries_at}
use Rattle.proof_owned.proofs.SinglesRoots.{brought_calm}
use Rattle.proof_owned.proofs.SinglesSteps.{HasCome, AllAt, SingleFrom, before, as_new, single_from, link_from, moved_here, given_calm}

-- a step that makes an indirection leaves prev words
made_leaves : (w : Words) (t : ℕ) (i : Ref) → Effect w t → w.link t i ≡ false → w.link (suc t) i ≡ true → (m : Ref) → w.prev (suc t) m ≡ w.prev t m
made_leaves w t i (Nothing e) none is m = e.prev m
made_leaves w t i (Made n e s) none is m = e.prev m
made_leaves w t i (SwappedIn j a f l e x d) none is m = absurd (true≢false (sym is ∙ e.makes.link i ∙ none))
made_leaves w t i (PutBack j x y l e f s) none is m = e.prev m
made_leaves w t i (Committed x y e) none is m = absurd (true≢false (sym is ∙ e.makes.link i ∙ none))
made_leaves w t i (Failed x y e) none is m = absurd (true≢false (sym is ∙ e.makes.link i ∙ none))

module _ {limits : Bounds} {states : ℕ → State} {last : ℕ} (run : IsRun limits states last) (i s : Ref) (h : CameAndWent run i s) where
  abbrev w : Words
  w = words states run.records last

  abbrev p : Protocol
  p = protocol_of run

  abbrev q : Protocol
  q = protocol limits states last (known_run run)

  abbrev cm : ℕ → Ref → Ref
  cm v j = counting_main states last v j

  -- the node with which it came is decided once it counted
  pub decided_since : (u : ℕ) → h.came ≤ u → u ≤ last → w.prev u h.first ≡ prev.None
  decided_since u le within =
      let d = subst (λ m. Decided w h.came i m) (sym (main_linked run h.came i h.linked) ∙ h.is) (main_decided w h.came (sound_at p h.came (omega arith)).words i h.linked) in
      none_final p i h.first h.came u le within d.stood d.none

  -- ---- at first

  empty_first : (m : Ref) → is_made states zero m ≡ true → (r : Ref) → Names run m r → ⊥
  empty_first m made r names = no_entry r (subst (λ es. Contains es r) (none_at_first run m made) names)

  -- what counted for an indirection at first was made then
  made_first : (j : Ref) → w.link zero j ≡ true → is_made states zero (cm zero j) ≡ true
  made_first j link =
      let sound = (sound_at p zero (omega arith)).words in
      sound.made j (cm zero j) (subst (λ m. Stood w zero j m) (sym (main_linked run zero j link)) (main_decided w zero sound j link).stood)

  link_at : (t : ℕ) → t ≤ last → (handle : ℕ) (root : Root) → root_at (states t) handle ≡ Some root → w.link t (root_of root.word) ≡ true
  link_at t within handle root e =
      let used = root_in_use run t handle (root_of root.word) _ within (record { root = root; is_open = e; is = refl; its = refl }) in
      ap is_indirection (sym (node_found states t (root_of root.word) used)) ∙ root_link run t within handle root e

  at_first : AllAt run i s h zero
  at_first = record {
    below = λ j c link j_calm c_link names. calm_below run i s h j j_calm c c_link names;
    none = λ j link j_calm other names. calm_first run i s h j j_calm other names;
    gone = λ less names. omega (arith, less);
    come = λ link names. absurd (empty_first (cm zero i) (made_first i link) s names);
    roots = λ handle root e.
        let made = made_first (root_of root.word) (link_at zero (omega arith) handle root e) in
        calm (root_of root.word) (λ other names. empty_first (cm zero (root_of root.word)) made s names) (λ d d_link names. absurd (empty_first (cm zero (root_of root.word)) made d names));
  }

  -- ---- a step later

  module _ (v : ℕ) (lt : v < last) (all : (u : ℕ) → u ≤ v → AllAt run i s h u) where
    now : AllAt run i s h v
    now = all v (omega arith)

    upto : v ≤ last
    upto = omega (arith, lt)

    below_next : (j c : Ref) → IsLink run j → Calm run i s h j → IsLink run c → Names run (cm (suc v) j) c → CountingStep run v j → Calm run i s h c
    below_next j c link j_calm c_link names (keeps e) = now.below j c link j_calm c_link (subst (λ m. Names run m c) e names)
    below_next j c link j_calm c_link names (changes f x commits e) =
        let in_fresh = subst (λ m. Names run m c) e names in
        link_from run i s h v (omega arith) all j f link j_calm x c c_link in_fresh
        (λ m same n here. moved_here run i s h v (omega arith) all j f link j_calm x lt e c c_link in_fresh m same here)

    none_next : (j : Ref) → IsLink run j → Calm run i s h j → (j ≡ i → ⊥) → Names run (cm (suc v) j) s → CountingStep run v j → ⊥
    none_next j link j_calm other names (keeps e) = now.none j link j_calm other (subst (λ m. Names run m s) e names)
    none_next j link j_calm other names (changes f x commits e) = by (single_from run i s h v upto all j f link j_calm x (subst (λ m. Names run m s) e names))
      where
        by : SingleFrom run i s h v upto all j f link j_calm x → ⊥
        by (before n) = now.none j link j_calm other n
        by (as_new same) = published_elsewhere run i s h v (omega arith) j (cm v j) f x same other

    -- whoever is in a SWAP there was given what it replaces
    swapping_calm : (f : Ref) → IsPublished run v i (cm v i) f → Calm run i s h i
    swapping_calm f x =
        given_calm run i s h v upto all v (omega arith) x.actor i (cm v i)
        (subst (λ l. Remembers (λ j m. Given q.words v x.actor j m) (x.operation.access ≡ Writable) l) x.line
        (remembers_at limits states last (known_run run) v (omega arith) x.actor x.operation x.runs)).1

    gone_next : h.until < suc v → Names run (cm (suc v) i) s → (h.until ≡ v) ⊎ (h.until < v) → CountingStep run v i → ⊥
    gone_next less names (inl same) step = h.gone (subst (λ t. Names run (cm (suc t) i) s) (sym same) names)
    gone_next less names (inr later) (keeps e) = now.gone later (subst (λ m. Names run m s) e names)
    gone_next less names (inr later) (changes f x commits e) = by (single_from run i s h v upto all i f h.link (swapping_calm f x) x (subst (λ m. Names run m s) e names))
      where
        by : SingleFrom run i s h v upto all i f h.link (swapping_calm f x) x → ⊥
        by (before n) = now.gone later n
        by (as_new same) = none≢pending (decided_since v (omega (arith, h.order, later)) (omega arith)) (ap (w.prev v) (sym same) ∙ x.pending)

    later_come : HasCome run i s h v → HasCome run i s h (suc v)
    later_come x = record { at = x.at; past = omega (arith, x.past); link = x.link; is = x.is }

    come_next : w.link v i ≡ true → w.link (suc v) i ≡ true → Names run (cm (suc v) i) s → CountingStep run v i → HasCome run i s h (suc v)
    come_next link next names (keeps e) = later_come (now.come link (subst (λ m. Names run m s) e names))
    come_next link next names (changes f x commits e) = by (single_from run i s h v upto all i f h.link (swapping_calm f x) x (subst (λ m. Names run m s) e names))
      where
        by : SingleFrom run i s h v upto all i f h.link (swapping_calm f x) x → HasCome run i s h (suc v)
        by (before n) = later_come (now.come link n)
        by (as_new same) = record { at = suc v; past = omega arith; link = next; is = e ∙ same }

    -- where the step makes the indirection
    module _ (none : w.link v i ≡ false) (is : w.link (suc v) i ≡ true) where
      not_given : (k : ℕ) (j m : Ref) → Given q.words v k j m → Names run m s → ⊥
      not_given k j m g names =
          let (u, le, at) = was_given run v (omega arith) k j m g in
          (all u le).none j (given_link run v (omega arith) k j m g) (given_calm run i s h v upto all v (omega arith) k j m g) apart (subst (λ x. Names run x s) (sym at) names)
        where
          apart : j ≡ i → ⊥
          apart same =
              let stood = ((sound_at q v (omega arith)).given k j m g).stood in
              true≢false (sym (subst (λ r. w.link v r ≡ true) same ((sound_at q v (omega arith)).words.link j m stood)) ∙ none)

      counts : w.prev v (w.main (suc v) i) ≡ prev.None → cm (suc v) i ≡ w.main (suc v) i
      counts decided =
          main_linked run (suc v) i is
          ∙ main_when_none w (suc v) i (w.main (suc v) i) refl (made_leaves w v i (effect p v lt) none is (w.main (suc v) i) ∙ decided)

      beside_here : (main : Ref) (position : ℕ) (m : Ref) → IsBeside run (entry_in run main position) m → (Names run main s → ⊥) → Names run m s → m ≡ h.first
      beside_here main position m (ends x names) not n = by (names s n)
        where
          by : (s ≡ entry_in run main position) ⊎ IsFirst run x s → x ≡ h.first
          by (inr new) = is_first run i s h x new
          by (inl same) = absurd (elim (found_or_none run main position) [
            | inl among ↦ not (subst (λ r. Names run main r) (sym same) among)
            | inr nothing ↦ not_no_ref run i s h (same ∙ nothing)
          ])
      beside_here main position m (goes_on x c names built beside) not n = absurd (no_link_is run i s h (subst (IsLink run) (sym (names s n)) built.link))

      built_here : (k : ℕ) (operation : Operation) → operation_of (states v) k ≡ Some operation → (m : Ref) → BuildsAt operation.line m → Names run m s → m ≡ h.first
      built_here k operation runs m (at_link path main position depth at) names =
          beside_here main position m (subst (λ l. Carries run v k l) at (carries_at run v (omega arith) k operation runs))
          (not_given k (current path) main (subst (λ l. Remembers (λ j x. Given q.words v k j x) (operation.access ≡ Writable) l) at
          (remembers_at limits states last (known_run run) v (omega arith) k operation runs))) names
      built_here k operation runs m (at_clear r main at) names =
          let (n, place, at_n) = place_of_actor (states v) k operation runs in
          absurd (no_entry s (subst (λ x. Contains (entries_of x) s) (empty_at run v (omega arith) n operation m at_n (subst (λ l. branch.IsCleared l m) (sym at) refl)) names))

      made_by : (k : ℕ) → MayName q.words v k (q.words.stage v k) (w.main (suc v) i) → Names run (cm (suc v) i) s → HasCome run i s h (suc v)
      made_by k (inl (j, g)) names = absurd (not_given k j (w.main (suc v) i) g (subst (λ m. Names run m s) (counts ((sound_at q v (omega arith)).given k j (w.main (suc v) i) g).none) names))
      made_by k (inr stage) names =
          let private = subst (λ x. Staged q.words v k x) stage ((sound_at q v (omega arith)).staged k) in
          let it = counts private.none in
          let by = runs_building (operation_of (states v) k) (w.main (suc v) i) stage in
          record { at = suc v; past = omega arith; link = is; is = it ∙ built_here k by.operation by.is (w.main (suc v) i) by.at (subst (λ m. Names run m s) it names) }

      come_made : Names run (cm (suc v) i) s → HasCome run i s h (suc v)
      come_made names = let (k, name) = by_turn q.words v i none is (q.turn v lt) in made_by k name names

    come_by : (b : Bool) → w.link v i ≡ b → w.link (suc v) i ≡ true → Names run (cm (suc v) i) s → HasCome run i s h (suc v)
    come_by true link next names = come_next link next names (counting_step run v lt i h.link)
    come_by false none next names = come_made none next names

    roots_next : (handle : ℕ) (root : Root) → RootSo run v (root_of root.word) → Calm run i s h (root_of root.word)
    roots_next handle root (stood_before other was e same) = subst (Calm run i s h) same (now.roots other was e)
    roots_next handle root (brought other offer swap x f) = brought_calm run i s h v lt all other offer swap x (root_of root.word) f

    until_or : (a b : ℕ) → a < suc b → (a ≡ b) ⊎ (a < b)
    until_or a b less = grind arith

    next : AllAt run i s h (suc v)
    next = record {
      below = λ j c link j_calm c_link names. below_next j c link j_calm c_link names (counting_step run v lt j link);
      none = λ j link j_calm other names. none_next j link j_calm other names (counting_step run v lt j link);
      gone = λ less names. gone_next less names (until_or h.until v less) (counting_step run v lt i h.link);
      come = λ link names. come_by (w.link v i) refl link names;
      roots = λ handle root e. roots_next handle root (root_so run v lt handle root e);
    }

  by_time : (v : ℕ) → v ≤ last → (u : ℕ) → u ≤ v → AllAt run i s h u
  by_time zero within u le = subst (AllAt run i s h) (at_zero u le) at_first
    where
      at_zero : (u : ℕ) → u ≤ 0 → 0 ≡ u
      at_zero u le = omega arith
  by_time (suc v) within u le = later u le (by_time v (omega arith)) (order u v le)
    where
      order : (u v : ℕ) → u ≤ suc v → (u ≤ v) ⊎ (u ≡ suc v)
      order u v le = grind arith

      later : (u : ℕ) → u ≤ suc v → ((x : ℕ) → x ≤ v → AllAt run i s h x) → (u ≤ v) ⊎ (u ≡ suc v) → AllAt run i s h u
      later u le all (inl sooner) = all u sooner
      later u le all (inr same) = subst (AllAt run i s h) (sym same) (next v within all)

  pub all_at : (v : ℕ) → v ≤ last → AllAt run i s h v
  all_at v within = by_time v within v (omega arith)
