-- Where the main node that counts has the mark of a single, the single came in and has stayed since.
use Rattle.std.proofs.Common.{◌≡◌, ℕ, zero, suc, ◌+◌, ◌-◌, ◌<◌, ◌≤◌, ◌⊎◌, true, Contains, inl, inr, refl, sym, ap, ◌∙◌, subst, arith}
use Rattle.std.proofs.lemmas.Bool.{cases_eq, true≢false}
use Rattle.proof_owned.specs.Beneath.slot_arena.specs.declared.refs.Ref.{Ref}
use Rattle.proof_owned.specs.Beneath.slot_arena.specs.declared.nodes.Prev.TheVariants as prev
use Rattle.proof_owned.specs.Beneath.machine_model.specs.declared.steps.Bounds.{Bounds}
use Rattle.proof_owned.specs.Beneath.machine_model.specs.Grown.{node_under}
use Rattle.proof_owned.specs.Beneath.machine_model.specs.States.{State}
use Rattle.proof_owned.specs.Beneath.machine_model.specs.Times.{IsRun}
use Rattle.proof_owned.specs.Beneath.machine_model.proofs.Times.{run_is}
use Rattle.proof_owned.specs.Beneath.proof_commits.specs.Protocol.{Words, Protocol, Publishes, logical_at, Turn, Acts, Passes, Moves, Idles, MakesNode, SwapsNode, ReadsOn, DecidesOn, Stage}
use Rattle.proof_owned.specs.Beneath.proof_commits.specs.Protocol.{ReadTurn, ReadsMain, FindsDecided, FindsFailed, FindsPending, DecidesAtOnce, Asks, FindsOffer, Aborts, Commits}
use Rattle.proof_owned.specs.Beneath.proof_commits.specs.Protocol.{Fails, Overtaken, Restores, FindsAnother}
use Rattle.proof_owned.specs.Beneath.machine_model.specs.declared.reading.After.{After}
use Rattle.proof_owned.specs.Beneath.machine_model.specs.declared.reading.ReadLine.{ReadLine}
use Rattle.proof_owned.specs.Beneath.proof_commits.specs.Stages.{stage_of, stage_of_actor}
use Rattle.proof_owned.specs.Beneath.proof_commits.proofs.Known.Owners.{Staged, HasFresh, OnLine}
use Rattle.proof_owned.specs.Beneath.proof_commits.proofs.Known.Sounds.{sound_at}
use Rattle.proof_owned.specs.Beneath.proof_commits.proofs.Words.Stood.{Stood, Private, stands_now, stood_still, none≢pending, pending≢failed, same_pending, over_failed}
use Rattle.proof_owned.specs.Beneath.proof_commits.proofs.Course.Finals.{link_stays, fate, Fate, StillPending, HasFailed, HasCommitted}
use Rattle.proof_owned.specs.Beneath.proof_commits.proofs.Course.Mains.{CommitsMain, MainStep, MainStays, MainChanges, main_decided, main_step}
use Rattle.proof_owned.specs.Beneath.proof_contents.specs.Runs.{is_made}
use Rattle.proof_owned.specs.Beneath.proof_generations.proofs.Falling.KnownRoots.{words, protocol_of}
use Rattle.proof_owned.specs.Singles.{Has, CameWith, swapped, built, IsMarked, comes, keeps, MarkedHasStayed}
use Rattle.proof_owned.proofs.Earlier.{either}
use Rattle.proof_owned.proofs.DroppedOfLists.{entries_then}

module _ {limits : Bounds} {states : ℕ → State} {last : ℕ} (run : IsRun limits states last) where
  abbrev w : Words
  w = words states run.records last

  abbrev p : Protocol
  p = protocol_of run

  -- ---- a node that was swapped in over another stands over it

  module _ (u k : ℕ) (i a m : Ref) (lt : u < last) (stage : w.stage u k ≡ Publishes i a m) (stands : w.main (suc u) i ≡ m) where
    private : Private w u m
    private = (subst (λ s. Staged w u k s) stage ((sound_at p u (omega arith)).staged k)).0

    linked : w.link u i ≡ true
    linked =
        let sound = sound_at p u (omega arith) in
        sound.words.link i a (sound.given k i a (subst (λ s. Staged w u k s) stage (sound.staged k)).1).stood

    not_before : w.main u i ≡ m → ⊥
    not_before is = private.apart i (stands_now linked is)

    same_main : w.main (suc u) i ≡ w.main u i → ⊥
    same_main e = not_before (sym e ∙ stands)

    -- no READ brings it
    read_brings : (j : Ref) (l : ReadLine) (out : After ReadLine Ref) → OnLine w u j l → ReadTurn w u j l out → ⊥
    read_brings j l out on (ReadsMain e x) = same_main (e.main i)
    read_brings j l out on (FindsDecided e x) = same_main (e.main i)
    read_brings j l out on (FindsFailed e x) = same_main (e.main i)
    read_brings j l out on (FindsPending e x) = same_main (e.main i)
    read_brings j l out on (DecidesAtOnce e x) = same_main (e.main i)
    read_brings j l out on (Asks g e x) = same_main (e.main i)
    read_brings j l out on (FindsOffer offer e) = same_main (e.main i)
    read_brings j l out on (Aborts e) = same_main (e.main i)
    read_brings j l out on (Commits g e) = same_main (e.main i)
    read_brings j l out on (Fails e) = same_main (e.main i)
    read_brings j l out on (Overtaken next e x y) = same_main (e.main i)
    read_brings j l out on (FindsAnother e) = same_main (e.main i)
    read_brings j l out on (Restores {m = f} {p = b} e) = elim (cases_eq i j) [
      | inr apart ↦ same_main (e.main.elsewhere i apart)
      | inl same ↦
          let is : b ≡ m = sym e.main.here ∙ ap (w.main (suc u)) (sym same) ∙ stands in
          let below = (sound_at p u (omega arith)).words.over f b (over_failed on.1) in
          private.apart below.link (subst (Stood w u below.link) is below.before)
    ]

    same_three : (j b f : Ref) → Publishes i a m ≡ Publishes j b f → b ≡ a
    same_three j b f e = cc e

    one_actor : (l : ℕ) (j b f : Ref) → w.stage u l ≡ Publishes j b f → f ≡ m → b ≡ a
    one_actor l j b f at same = elim (cases_eq k l) [
      | inl here ↦ same_three j b f (sym stage ∙ ap (w.stage u) here ∙ at)
      | inr apart ↦
          absurd ((sound_at p u (omega arith)).apart k l m apart (subst (λ s. HasFresh s m) (sym stage) refl) (subst (λ s. HasFresh s m) (sym at) same))
    ]

    -- the step is its owner's
    by_moves : (l : ℕ) (s after : Stage) → w.stage u l ≡ s → Staged w u l s → Moves w u l s after → w.prev (suc u) m ≡ prev.Pending a
    by_moves l s after at known (Idles e f r) = absurd (same_main (e.main i))
    by_moves l s after at known (MakesNode n e f name have) = absurd (same_main (e.main i (λ same. true≢false (sym linked ∙ ap (w.link u) same ∙ e.was_no_link))))
    by_moves l s after at known (SwapsNode {i = j} {a = b} {f = f} link e) = elim (cases_eq i j) [
      | inr apart ↦ absurd (same_main (e.main.elsewhere i apart))
      | inl same ↦
          let is : f ≡ m = sym e.main.here ∙ ap (w.main (suc u)) (sym same) ∙ stands in
          ap (w.prev (suc u)) (sym is) ∙ e.prev.here ∙ ap (λ r. prev.Pending r) (one_actor l j b f at is)
    ]
    by_moves l s after at known (ReadsOn {i = j} {l = x} {out = out} r) = absurd (read_brings j x out known r)
    by_moves l s after at known (DecidesOn {i = j} {l = x} {out = out} r) = absurd (read_brings j x out known.0 r)

    by_turn : Turn w u → w.prev (suc u) m ≡ prev.Pending a
    by_turn (Acts l moves counts same) = by_moves l (w.stage u l) (w.stage (suc u) l) refl ((sound_at p u (omega arith)).staged l) moves
    by_turn (Passes e same) = absurd (same_main (e.main i))

    stands_over : w.prev (suc u) m ≡ prev.Pending a
    stands_over = by_turn (p.turn u lt)

    stood : Stood w (suc u) i m
    stood = stands_now (link_stays p i u (suc u) (omega arith) lt linked) stands

    -- ---- when it came to count

    record ComesToCount (t : ℕ) : Type 0 where
      at : ℕ
      from : u < at
      past : at < t
      before : logical_at w at i ≡ a
      since : (v : ℕ) → at < v → v ≤ t → logical_at w v i ≡ m

    counted_before : (t : ℕ) → t ≤ u → w.link t i ≡ true → logical_at w t i ≡ m → ⊥
    counted_before t le link is =
        let d = main_decided w t (sound_at p t (omega (arith, le, lt))).words i link in
        private.apart i (stood_still le (subst (Stood w t i) is d.stood))

    extend : (v t : ℕ) → t ≡ suc v → logical_at w t i ≡ m → ComesToCount v → ComesToCount t
    extend v t next now x = record {
      at = x.at;
      from = x.from;
      past = omega (arith, x.past, next);
      before = x.before;
      since = λ y low high. elim (cases_eq y t) [
        | inl same ↦ ap (λ z. logical_at w z i) same ∙ now
        | inr other ↦ x.since y low (omega (arith, high, next, other))
      ];
    }

    -- what it is committed over is what it was swapped in over
    committed_now : (v : ℕ) → u < v → (below : v < last) → (c : CommitsMain w v i) → logical_at w (suc v) i ≡ m → ComesToCount (suc v)
    committed_now v from below c is =
        let same : c.fresh ≡ m = sym c.after ∙ is in
        let pending : w.prev v m ≡ prev.Pending c.replaced = ap (w.prev v) (sym same) ∙ c.commits.was in
        record {
          at = v;
          from = from;
          past = omega arith;
          before = c.before ∙ by c.replaced pending (fate p i m a (suc u) v from (omega arith) stood stands_over);
          since = λ y low high. ap (λ z. logical_at w z i) (omega (arith, low, high)) ∙ is;
        }
      where
        by : (x : Ref) → w.prev v m ≡ prev.Pending x → Fate w (suc u) v m a → x ≡ a
        by x pending (StillPending e) = same_pending pending e
        by x pending (HasFailed e) = absurd (pending≢failed pending e)
        by x pending (HasCommitted c e) = absurd (none≢pending e pending)

    step_back : (v : ℕ) → u < v → (below : v < last) → logical_at w (suc v) i ≡ m → (logical_at w v i ≡ m → ComesToCount v) → MainStep w v i → ComesToCount (suc v)
    step_back v from below is so_far (MainStays e) = extend v (suc v) refl is (so_far (sym e ∙ is))
    step_back v from below is so_far (MainChanges c) = committed_now v from below c is

    committed_from : (n t : ℕ) → suc u + n ≡ t → t ≤ last → logical_at w t i ≡ m → ComesToCount t
    committed_from zero t sum within is =
        let d = main_decided w t (sound_at p t within).words i (link_stays p i u t (omega (arith, sum)) within linked) in
        let at : suc u ≡ t = omega (arith, sum) in
        absurd (none≢pending (ap (w.prev t) (sym is) ∙ d.none) (ap (λ v. w.prev v m) (sym at) ∙ stands_over))
    committed_from (suc n) t sum within is =
        let at : t ≡ suc (suc u + n) = omega (arith, sum) in
        let below : suc u + n < last = omega (arith, sum, within) in
        subst ComesToCount (sym at)
        (step_back (suc u + n) (omega arith) below (subst (λ v. logical_at w v i ≡ m) at is) (λ now. committed_from n (suc u + n) refl (omega (arith, below)) now)
        (main_step p (suc u + n) below i (link_stays p i u (suc u + n) (omega arith) (omega (arith, below)) linked)))

    when_committed : (t : ℕ) → t ≤ last → w.link t i ≡ true → logical_at w t i ≡ m → ComesToCount t
    when_committed t within link is = by (either t u)
      where
        by : (t ≤ u) ⊎ (u < t) → ComesToCount t
        by (inl sooner) = absurd (counted_before t sooner link is)
        by (inr later) = committed_from (t - suc u) t (omega (arith, later)) within is

  -- ---- the single stays

  -- what has it has it later
  has_later : (u v : ℕ) → u ≤ last → v ≤ last → (m s : Ref) → is_made states u m ≡ true → is_made states v m ≡ true → Has (node_under states u m) s → Has (node_under states v m) s
  has_later u v u_in v_in m s u_made v_made has = subst (λ es. Contains es s) (sym (entries_then run u u_in m u_made) ∙ entries_then run v v_in m v_made) has

  module _ (i s : Ref) where
    counted_made : (v : ℕ) → v ≤ last → w.link v i ≡ true → (m : Ref) → logical_at w v i ≡ m → is_made states v m ≡ true
    counted_made v within link m is =
        let sound = (sound_at p v within).words in
        sound.made i m (subst (Stood w v i) is (main_decided w v sound i link).stood)

    -- with which main node, and since when
    record Stayed (v : ℕ) : Type 0 where
      main : Ref
      came : CameWith states last i main s
      first : ℕ
      order : first ≤ v
      link : w.link first i ≡ true
      is : logical_at w first i ≡ main
      since : (x : ℕ) → first ≤ x → x ≤ v → Has (node_under states x (logical_at w x i)) s

    -- it has it as it comes
    record ComesAt (m : Ref) : Type 0 where
      at : ℕ
      within : at ≤ last
      made : is_made states at m ≡ true
      has : Has (node_under states at m) s
      came : CameWith states last i m s

    comes_at : (t : ℕ) → t ≤ last → (m : Ref) → CameWith states t i m s → ComesAt m
    comes_at t within m (swapped u k operation path former a lt runs at is has not) = record {
      at = u;
      within = omega (arith, lt, within);
      made = (subst (λ x. Staged w u k x) (ap stage_of_actor runs ∙ ap stage_of at) ((sound_at p u (omega (arith, lt, within))).staged k)).0.made;
      has = has;
      came = swapped u k operation path former a (omega (arith, lt, within)) runs at is has not;
    }
    comes_at t within m (built u k operation path main position depth lt runs at none link is has not) = record {
      at = u;
      within = omega (arith, lt, within);
      made = (subst (λ x. Staged w u k x) (ap stage_of_actor runs ∙ ap stage_of at) ((sound_at p u (omega (arith, lt, within))).staged k)).made;
      has = has;
      came = built u k operation path main position depth (omega (arith, lt, within)) runs at none link is has not;
    }

    -- the main node counts there, and has the single
    has_there : (u : ℕ) → u ≤ last → (m : Ref) → is_made states u m ≡ true → Has (node_under states u m) s → (x : ℕ) → x ≤ last → w.link x i ≡ true → logical_at w x i ≡ m →
        Has (node_under states x (logical_at w x i)) s
    has_there u u_in m made has x x_in link is =
        subst (λ n. Has (node_under states x n) s) (sym is) (has_later u x u_in x_in m s made (counted_made x x_in link m is) has)

    stays : (t : ℕ) (m : Ref) → t ≤ last → IsMarked states i s t m → (v : ℕ) → v ≤ last → w.link v i ≡ true → logical_at w v i ≡ m → Stayed v
    stays t m t_in (comes t' m' c) v within link is =
        let x = comes_at t t_in m c in
        record {
          main = m;
          came = x.came;
          first = v;
          order = omega arith;
          link = link;
          is = is;
          since = λ y low high. subst (λ z. Has (node_under states z (logical_at w z i)) s) (omega (arith, low, high)) (has_there x.at x.within m x.made x.has v within link is);
        }
    stays t m t_in (keeps t' m' u k operation why a lt runs at main_is marked has) v within link is =
        further c
        (stays u a (omega (arith, lt, t_in)) marked c.at (omega (arith, c.past, within)) (linked_at c.at c.from (omega (arith, c.past, within))) c.before)
      where
        u_in : u < last
        u_in = omega (arith, lt, t_in)

        stage : w.stage u k ≡ Publishes i a m
        stage = ap stage_of_actor runs ∙ ap stage_of at

        linked_at : (x : ℕ) → u < x → x ≤ last → w.link x i ≡ true
        linked_at x from x_in = link_stays p i u x (omega (arith, from)) x_in (linked u k i a m u_in stage main_is)

        c : ComesToCount u k i a m u_in stage main_is v
        c = when_committed u k i a m u_in stage main_is v within link is

        further : (c : ComesToCount u k i a m u_in stage main_is v) → Stayed c.at → Stayed v
        further c y = record {
          main = y.main;
          came = y.came;
          first = y.first;
          order = omega (arith, y.order, c.past);
          link = y.link;
          is = y.is;
          since = λ x low high. by x low high (either x c.at);
        }
          where
            by : (x : ℕ) → y.first ≤ x → x ≤ v → (x ≤ c.at) ⊎ (c.at < x) → Has (node_under states x (logical_at w x i)) s
            by x low high (inl sooner) = y.since x low sooner
            by x low high (inr later) =
                has_there u (omega (arith, u_in)) m (private u k i a m u_in stage main_is).made has x (omega (arith, high, within))
                (linked_at x (omega (arith, c.from, later)) (omega (arith, high, within))) (c.since x later high)

pub marked_has_stayed : MarkedHasStayed
marked_has_stayed limits steps ok t within i m s marked link is =
    let x = stays (run_is limits steps ok) i s t m within marked t within link is in
    record { main = x.main; came = x.came; first = x.first; order = x.order; link = x.link; is = x.is; since = x.since }
