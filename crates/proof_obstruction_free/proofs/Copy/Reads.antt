-- A READ of the root that stands in the handle's word, on a writable handle: where one actor alone takes steps it gives the decided main node within four.
use Rattle.std.proofs.Common.{◌≡◌, ℕ, suc, ◌+◌, ◌<◌, ◌≤◌, true, Option, Some, refl, sym, ap, ◌∙◌, subst, eq-eqb, arith}
use Rattle.proof_obstruction_free.specs.Vocabulary.{Writable, Ref, Prev, prev_at, generation_at, Line, After, Gives, ReadLine, read_after, after_prev, after_ask, after_decide, after_restore}
use Rattle.proof_obstruction_free.specs.Vocabulary.{verdict_by, is_licensed, is_pending, main_word, prev_word, ReadTurn}
use Rattle.proof_obstruction_free.specs.Beneath.slot_arena.specs.declared.nodes.Prev.TheVariants as over
use Rattle.proof_obstruction_free.specs.Beneath.machine_model.specs.declared.reading.After.TheVariants.{Goes}
use Rattle.proof_obstruction_free.specs.Beneath.machine_model.specs.declared.reading.ReadLine.TheVariants as read
use Rattle.proof_obstruction_free.specs.Beneath.proof_commits.specs.Protocol.{Leaves}
use Rattle.proof_obstruction_free.specs.Beneath.proof_commits.proofs.Words.OfRuns.{link_made}
use Rattle.proof_obstruction_free.specs.Beneath.proof_generations.proofs.Falling.KnownRoots.{reads_on}
use Rattle.proof_obstruction_free.specs.Alone.{Lone, Stands, Has, Keeps, WordStays, IsPlain, generation, word}
use Rattle.proof_obstruction_free.specs.Machines.{HoldsRead, lead}
use Rattle.proof_obstruction_free.specs.Stepping.{Stepping}
use Rattle.proof_obstruction_free.specs.Weighing.{Sees}
use Rattle.proof_obstruction_free.proofs.Read.Step as Step
use Rattle.proof_obstruction_free.proofs.Read.Words.{over_decided}
use Rattle.proof_obstruction_free.proofs.Swap.Course.{prev_leaves, main_leaves, ask_leaves, decide_commits, restores}
use Rattle.proof_obstruction_free.proofs.Swap.Found.{root_generation}
use Rattle.proof_obstruction_free.proofs.Swap.Steps.{w, keeps_left, read_acts, reads, read_next}
use Rattle.proof_obstruction_free.proofs.Step.Within.{keeps_on, stays_on}

module _ (a : Lone) (steps : Stepping a) (writable : a.own.access ≡ Writable) (wrap : ReadLine → Line) (gives : Ref → Line) (i : Ref) (holds : HoldsRead a.own wrap gives i) (g : Option ℕ) where
  -- within n steps from step t on it has given a decided main node
  pub record Given (t n : ℕ) : Type 0 where
    pub at : ℕ
    pub from : t ≤ at
    pub soon : at ≤ t + n
    pub main : Ref
    pub stands : Stands a at g (gives main)
    pub has : Has a at i main
    pub keeps : Keeps a t at
    pub word : WordStays a t at

  module _ (u : ℕ) (h : u < a.last) where
    record Next (l : ReadLine) (out : After ReadLine Ref) : Type 0 where
      pub stands : Stands a (suc u) g (lead wrap gives out)
      pub turn : ReadTurn (w a) u i l out

    next : (l : ReadLine) → Stands a u g (wrap l) → (out : After ReadLine Ref) → read_after (a.states u).heap a.own.access (word a u) i l ≡ out → Next l out
    next l s out e = record {
      stands = subst (λ x. Stands a (suc u) g (lead wrap gives x)) e (read_next a wrap gives i holds u g l s h);
      turn = subst (ReadTurn (w a) u i l) e (reads a wrap gives i holds u g l s h);
    }

    sees_on : (m : Ref) (v : Prev) → Leaves (w a) u → Sees a u i m v → Sees a (suc u) i m v
    sees_on m v e sees = record { made = e.makes.made i ∙ sees.made; main = e.main i ∙ sees.main; prev = e.prev m ∙ sees.prev }

    given_now : (l : ReadLine) → Stands a u g (wrap l) → (m : Ref) → Stands a (suc u) g (gives m) → Has a (suc u) i m → Given u 1
    given_now l s m stands has = record {
      at = suc u;
      from = omega arith;
      soon = omega arith;
      main = m;
      stands = stands;
      has = has;
      keeps = Step.keeps a wrap gives i holds u g l s h;
      word = Step.stays a wrap gives i holds u g l s h;
    }

    behind : (l : ReadLine) → Stands a u g (wrap l) → (n : ℕ) → Given (suc u) n → Given u (suc n)
    behind l s n x = record {
      at = x.at;
      from = let later = x.from in omega (arith, later);
      soon = let sooner = x.soon in omega (arith, sooner);
      main = x.main;
      stands = x.stands;
      has = x.has;
      keeps = keeps_on a u (suc u) x.at (Step.keeps a wrap gives i holds u g l s h) x.keeps;
      word = stays_on a u (suc u) x.at (Step.stays a wrap gives i holds u g l s h) x.word;
    }

    told : (l : ReadLine) → Stands a u g (wrap l) → IsPlain a u i → generation_at (a.states u).heap i ≡ generation a i
    told l s plain = root_generation a u g (wrap l) s (reads_on (wrap l) _ (holds.embedded.reads l)) i plain

    -- it was told its own generation: it commits
    decides : (m q : Ref) → Stands a u g (wrap (read.Decide m q (Some (generation a i)))) → Sees a u i m (over.Pending q) → IsPlain a u i → Given u 1
    decides m q s sees plain =
        let l = read.Decide m q (Some (generation a i)) in
        let found = (read_acts a wrap gives i holds u g l s h).1.prev in
        let licensed : is_licensed (a.states u).heap i (Some (generation a i)) ≡ true = eq-eqb _ _ (sym (told l s plain)) in
        let pending : is_pending (prev_at (a.states u).heap m) q ≡ true = ap (λ v. is_pending v q) (found ∙ sees.prev) ∙ eq-eqb q q refl in
        let x = next l s (Gives m) (ap (λ b. after_decide m (verdict_by b (is_pending (prev_at (a.states u).heap m) q))) licensed ∙ ap (λ b. after_decide m (verdict_by true b)) pending) in
        let e = decide_commits a u i m q m _ x.turn in
        given_now l s m x.stands (record { made = e.makes.made i ∙ sees.made; main = e.main i ∙ sees.main; decided = e.prev.here })

    puts_back : (m q : Ref) → Stands a u g (wrap (read.Restore m q)) → Sees a u i m (over.Failed q) → Given u 1
    puts_back m q s sees =
        let l = read.Restore m q in
        let found = (read_acts a wrap gives i holds u g l s h).0.main in
        let x = next l s (Gives q) (ap (after_restore q) (eq-eqb _ m (found ∙ sees.main))) in
        let e = restores a u i m q q x.turn in
        given_now l s q x.stands (record { made = e.makes.made i ∙ sees.made; main = e.main.here; decided = e.prev q ∙ over_decided a u (omega (arith, h)) m q sees.prev })

    finds_decided : (m : Ref) → Stands a u g (wrap (read.Prev m)) → Sees a u i m over.None → Given u 1
    finds_decided m s sees =
        let l = read.Prev m in
        let found = (read_acts a wrap gives i holds u g l s h).0.prev in
        let x = next l s (Gives m) (ap (after_prev a.own.access m) (found ∙ sees.prev)) in
        given_now l s m x.stands (keeps_left a u (prev_leaves a u i m _ x.turn) i m (record { made = sees.made; main = sees.main; decided = sees.prev }))

  longer : (u n k : ℕ) → n ≤ k → Given u n → Given u k
  longer u n k le x = record {
    at = x.at;
    from = x.from;
    soon = let sooner = x.soon in omega (arith, sooner, le);
    main = x.main;
    stands = x.stands;
    has = x.has;
    keeps = x.keeps;
    word = x.word;
  }

  -- ---- from each line on

  asks : (u : ℕ) (m q : Ref) → suc u < a.last → Stands a u g (wrap (read.AskRoot m q)) → Sees a u i m (over.Pending q) → IsPlain a u i → Given u 2
  asks u m q room s sees plain =
      let l = read.AskRoot m q in
      let h : u < a.last = omega (arith, room) in
      let x = next u h l s (Goes (read.Decide m q (Some (generation a i))))
      (ap (after_ask (a.states u).heap m q) plain ∙ ap (λ y. Goes (read.Decide m q (Some y))) (told u h l s plain)) in
      behind u h l s 1 (decides (suc u) room m q x.stands (sees_on u h m (over.Pending q) (ask_leaves a u i m q _ x.turn) sees) (Step.stays a wrap gives i holds u g l s h i plain))

  prev_by : (u : ℕ) (m : Ref) → u + 3 ≤ a.last → Stands a u g (wrap (read.Prev m)) → (v : Prev) → Sees a u i m v → IsPlain a u i → Given u 3
  prev_by u m room s over.None sees plain = longer u 1 3 (omega arith) (finds_decided u (omega (arith, room)) m s sees)
  prev_by u m room s (over.Failed q) sees plain =
      longer u 2 3 (omega arith)
      (behind u (omega (arith, room)) l s 1 (puts_back (suc u) (omega (arith, room)) m q x.stands (sees_on u (omega (arith, room)) m (over.Failed q) (prev_leaves a u i m _ x.turn) sees)))
    where
      l : ReadLine
      l = read.Prev m

      h : u < a.last
      h = omega (arith, room)

      x : Next u h l (Goes (read.Restore m q))
      x = next u h l s (Goes (read.Restore m q)) (ap (after_prev a.own.access m) ((read_acts a wrap gives i holds u g l s h).0.prev ∙ sees.prev))
  prev_by u m room s (over.Pending q) sees plain =
      let l = read.Prev m in
      let h : u < a.last = omega (arith, room) in
      let found = (read_acts a wrap gives i holds u g l s h).0.prev in
      let x = next u h l s (Goes (read.AskRoot m q)) (ap (λ y. after_prev y m (prev_at (a.states u).heap m)) writable ∙ ap (after_prev Writable m) (found ∙ sees.prev)) in
      behind u h l s 2
      (asks (suc u) m q (omega (arith, room)) x.stands (sees_on u h m (over.Pending q) (prev_leaves a u i m _ x.turn) sees) (Step.stays a wrap gives i holds u g l s h i plain))

  pub reads_root : (t : ℕ) → t + 4 ≤ a.last → Stands a t g (wrap read.Main) → IsPlain a t i → Given t 4
  reads_root t room s plain =
      let l = read.Main in
      let h : t < a.last = omega (arith, room) in
      let found = (read_acts a wrap gives i holds t g l s h).0 in
      let m = main_word a.states t i in
      let x = next t h l s (Goes (read.Prev m)) (ap (λ y. Goes (read.Prev y)) found.main) in
      let sees : Sees a t i m (prev_word a.states t m) = record { made = link_made _ found.link; main = refl; prev = refl } in
      behind t h l s 3 (prev_by (suc t) m (omega (arith, room)) x.stands (prev_word a.states t m) (sees_on t h m (prev_word a.states t m) (main_leaves a t i _ x.turn) sees)
      (Step.stays a wrap gives i holds t g l s h i plain))
