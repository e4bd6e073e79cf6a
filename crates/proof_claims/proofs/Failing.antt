-- Who sees that its fresh main node wasn't committed finds another one in the indirection.
use Rattle.std.proofs.Common.{◌≡◌, ◌⊎◌, ◌<◌, ◌≤◌, inl, inr, ℕ, zero, suc, true, List, refl, sym, ap, subst, ◌∙◌, arith}
use Rattle.std.proofs.lemmas.Bool.{cases_eq}
use Rattle.proof_claims.specs.Beneath.slot_arena.specs.declared.nodes.Prev.{Prev}
use Rattle.proof_claims.specs.Beneath.slot_arena.specs.declared.nodes.Prev.TheVariants as prev
use Rattle.proof_claims.specs.Beneath.slot_arena.specs.declared.refs.Ref.{Ref}
use Rattle.proof_claims.specs.Beneath.slot_arena.specs.Heaps.{main_at, main_of, prev_at}
use Rattle.proof_claims.specs.Beneath.machine_model.specs.declared.reading.After.{After}
use Rattle.proof_claims.specs.Beneath.machine_model.specs.declared.reading.After.TheVariants.{Goes, Gives}
use Rattle.proof_claims.specs.Beneath.machine_model.specs.declared.reading.ReadLine.{ReadLine}
use Rattle.proof_claims.specs.Beneath.machine_model.specs.declared.reading.ReadLine.TheVariants as read
use Rattle.proof_claims.specs.Beneath.machine_model.specs.declared.steps.Bounds.{Bounds}
use Rattle.proof_claims.specs.Beneath.machine_model.specs.declared.steps.Step.{Step}
use Rattle.proof_claims.specs.Beneath.machine_model.specs.Machine.{AreBounds, run}
use Rattle.proof_claims.specs.Beneath.machine_model.specs.States.{State, operation_of}
use Rattle.proof_claims.specs.Beneath.machine_model.specs.Times.{IsRun, last_of, states_of}
use Rattle.proof_claims.specs.Beneath.machine_model.proofs.Grown.{node_grown, prev_grown}
use Rattle.proof_claims.specs.Beneath.machine_model.proofs.Times.{run_ends, run_is}
use Rattle.proof_claims.specs.Beneath.proof_commits.specs.Protocol.{Protocol, Words, Stage, Rests, Reads, Builds, Publishes, Decides, Checks, IsAtRest, MayHave, Turn, Acts, Passes}
use Rattle.proof_claims.specs.Beneath.proof_commits.specs.Protocol.{Moves, Idles, MakesNode, SwapsNode, ReadsOn, DecidesOn, after_read, after_deciding, ReadTurn}
use Rattle.proof_claims.specs.Beneath.proof_commits.specs.Protocol.{ReadsMain, FindsDecided, FindsFailed, FindsPending, DecidesAtOnce, Asks, FindsOffer, Aborts}
use Rattle.proof_claims.specs.Beneath.proof_commits.specs.Protocol.{Commits, Fails, Overtaken, Restores, FindsAnother}
use Rattle.proof_claims.specs.Beneath.proof_commits.specs.Runs.{HasIndirection}
use Rattle.proof_claims.specs.Beneath.proof_commits.specs.Stages.{stage_of, stage_of_actor}
use Rattle.proof_claims.specs.Beneath.proof_commits.proofs.Course.Finals.{effect, from_time, pending_stands}
use Rattle.proof_claims.specs.Beneath.proof_commits.proofs.Known.Owners.{OnLine, Staged}
use Rattle.proof_claims.specs.Beneath.proof_commits.proofs.Known.Sounds.{sound_at}
use Rattle.proof_claims.specs.Beneath.proof_commits.proofs.Words.Effects.{failed_later, link_later, none_later}
use Rattle.proof_claims.specs.Beneath.proof_commits.proofs.Words.Stood.{Stood, over_failed, stood_later}
use Rattle.proof_claims.specs.Beneath.proof_garbage.proofs.Gone.{failed_gone}
use Rattle.proof_claims.specs.Beneath.proof_generations.proofs.Falling.KnownRoots.{protocol_of}
use Rattle.proof_claims.specs.Beneath.proof_memory.specs.Laws.{IsInUse}
use Rattle.proof_claims.specs.Dropped.{HasFailed}

none≢failed : {v : Prev} {q : Ref} → v ≡ prev.None → v ≡ prev.Failed q → ⊥
none≢failed e h = let wrong = sym e ∙ h in cc

-- the node is committed, or has failed and stands there no more
data IsPast (w : Words) (t : ℕ) (i f : Ref) : Type 0 where
  committed : Stood w t i f → w.prev t f ≡ prev.None → IsPast w t i f
  gone : (q : Ref) → w.link t i ≡ true → w.prev t f ≡ prev.Failed q → (w.main t i ≡ f → ⊥) → IsPast w t i f

-- a READ that decides it has come to another node only once it is past
abbrev On : Words → ℕ → Ref → Ref → ReadLine → Type 0
On w t i f read.Main = Unit {0}
On w t i f (read.Prev m) = (m ≡ f) ⊎ IsPast w t i f
On w t i f (read.AskRoot m p) = (m ≡ f) ⊎ IsPast w t i f
On w t i f (read.Abort m p offer) = (m ≡ f) ⊎ IsPast w t i f
On w t i f (read.Decide m p told) = (m ≡ f) ⊎ IsPast w t i f
On w t i f (read.Restore m p) = (m ≡ f) ⊎ IsPast w t i f

abbrev Seen : Words → ℕ → Stage → Type 0
Seen w t (Decides i a f l) = On w t i f l
Seen w t (Checks i a f) = IsPast w t i f
Seen w t s = Unit {0}

module _ (p : Protocol) where
  abbrev w : Words
  w = p.words

  past_later : (t : ℕ) → t < p.last → (i f : Ref) → IsPast w t i f → IsPast w (suc t) i f
  past_later t h i f (committed s n) = committed (stood_later s) (none_later w t (effect p t h) i f s n)
  past_later t h i f (gone q l x a) = gone q (link_later w t (effect p t h) i l) (failed_later w t (effect p t h) f q x) (failed_gone p i f q t (suc t) (omega arith) h l x a)

  on_later : (t : ℕ) → t < p.last → (i f : Ref) (l : ReadLine) → On w t i f l → On w (suc t) i f l
  on_later t h i f read.Main on = tt
  on_later t h i f (read.Prev m) (inl same) = inl same
  on_later t h i f (read.Prev m) (inr past) = inr (past_later t h i f past)
  on_later t h i f (read.AskRoot m q) (inl same) = inl same
  on_later t h i f (read.AskRoot m q) (inr past) = inr (past_later t h i f past)
  on_later t h i f (read.Abort m q offer) (inl same) = inl same
  on_later t h i f (read.Abort m q offer) (inr past) = inr (past_later t h i f past)
  on_later t h i f (read.Decide m q told) (inl same) = inl same
  on_later t h i f (read.Decide m q told) (inr past) = inr (past_later t h i f past)
  on_later t h i f (read.Restore m q) (inl same) = inl same
  on_later t h i f (read.Restore m q) (inr past) = inr (past_later t h i f past)

  seen_later : (t : ℕ) → t < p.last → (s : Stage) → Seen w t s → Seen w (suc t) s
  seen_later t h (Decides i a f l) seen = on_later t h i f l seen
  seen_later t h (Checks i a f) seen = past_later t h i f seen
  seen_later t h Rests seen = tt
  seen_later t h (Reads i l) seen = tt
  seen_later t h (Builds f) seen = tt
  seen_later t h (Publishes i a f) seen = tt

  rest_seen : (t : ℕ) (s : Stage) → IsAtRest s → Seen w t s
  rest_seen t Rests r = tt
  rest_seen t (Reads i l) r = tt
  rest_seen t s r = absurd r

  have_seen : (t u k : ℕ) (n : Ref) (s : Stage) → MayHave w u k n s → Seen w t s
  have_seen t u k n Rests have = tt
  have_seen t u k n (Reads i l) have = tt
  have_seen t u k n (Builds f) have = tt
  have_seen t u k n (Publishes i a f) have = tt
  have_seen t u k n (Decides i a f l) have = absurd have
  have_seen t u k n (Checks i a f) have = absurd have

  read_seen : (t : ℕ) (i : Ref) (out : After ReadLine Ref) → Seen w t (after_read i out)
  read_seen t i (Goes l) = tt
  read_seen t i (Gives m) = tt

  -- another one stands there: then it is past
  past_by : (t : ℕ) → t ≤ p.last → (i f : Ref) → w.link t i ≡ true → Stood w t i f → (w.main t i ≡ f → ⊥) → (v : Prev) → w.prev t f ≡ v → IsPast w t i f
  past_by t h i f l s apart prev.None e = committed s e
  past_by t h i f l s apart (prev.Pending q) e = absurd (apart (pending_stands w t (sound_at p t h) i f q s e))
  past_by t h i f l s apart (prev.Failed q) e = gone q l e apart

  module _ (t : ℕ) (h : t < p.last) (i a f : Ref) (stood : Stood w t i f) (link : w.link t i ≡ true) where
    abbrev Then : After ReadLine Ref → Type 0
    Then out = Seen w (suc t) (after_deciding i a f out)

    carried : {m : Ref} → (m ≡ f) ⊎ IsPast w t i f → (m ≡ f) ⊎ IsPast w (suc t) i f
    carried (inl same) = inl same
    carried (inr past) = inr (past_later t h i f past)

    decided : {m : Ref} → (m ≡ f) ⊎ IsPast w t i f → w.prev t m ≡ prev.None → IsPast w (suc t) i f
    decided (inl same) n = past_later t h i f (committed stood (subst (λ x. w.prev t x ≡ prev.None) same n))
    decided (inr past) n = past_later t h i f past

    one_turn : (l : ReadLine) (out : After ReadLine Ref) → OnLine w t i l → On w t i f l → ReadTurn w t i l out → Then out
    one_turn l out line on (ReadsMain e k) = elim (cases_eq (w.main t i) f) [
      | inl same ↦ inl same
      | inr apart ↦ inr (past_later t h i f (past_by t (omega (arith, h)) i f link stood apart (w.prev t f) refl))
    ]
    one_turn l out line on (FindsDecided e n) = decided on n
    one_turn l out line on (FindsFailed e n) = carried on
    one_turn l out line on (FindsPending e n) = carried on
    one_turn l out line on (DecidesAtOnce e n) = carried on
    one_turn l out line on (Asks g e c) = carried on
    one_turn l out line on (FindsOffer offer e) = carried on
    one_turn l out line on (Aborts e) = carried on
    one_turn l out line (inl same) (Commits licence e) = committed (stood_later stood) (subst (λ x. w.prev (suc t) x ≡ prev.None) same e.prev.here)
    one_turn l out line (inr past) (Commits licence e) = past_later t h i f past
    one_turn l out line on (Fails e) = tt
    one_turn l out line on (Overtaken {m} next e n (inl is)) = subst (λ x. On w (suc t) i f x) (sym is) (carried on)
    one_turn l out line on (Overtaken next e n (inr is)) = subst (λ x. On w (suc t) i f x) (sym is) tt
    one_turn l out line (inl same) (Restores {m} {p = q} e) =
        let failed = subst (λ x. w.prev t x ≡ prev.Failed q) same line.1 in
        let none = ((sound_at p t (omega (arith, h))).words.over m q (over_failed line.1)).none in
        gone q (link_later w t (effect p t h) i link) (failed_later w t (effect p t h) f q failed)
        (λ is. none≢failed (subst (λ x. w.prev t x ≡ prev.None) (sym e.main.here ∙ is) none) failed)
    one_turn l out line (inr past) (Restores e) = past_later t h i f past
    one_turn l out line on (FindsAnother e) = tt

  moves_seen : (t k : ℕ) → t < p.last → (s after : Stage) → Staged w t k s → Moves w t k s after → Seen w t s → Seen w (suc t) after
  moves_seen t k h s after st (Idles e free r) seen = rest_seen (suc t) after r
  moves_seen t k h s after st (MakesNode n e free name have) seen = have_seen (suc t) t k n after have
  moves_seen t k h s after st (SwapsNode l e) seen = inl refl
  moves_seen t k h s after st (ReadsOn {i} {l} {out} r) seen = read_seen (suc t) i out
  moves_seen t k h s after st (DecidesOn {i} {a} {f} {l} {out} r) seen =
      one_turn t h i a f st.1 ((sound_at p t (omega (arith, h))).words.link i f st.1) l out st.0 seen r

  turn_seen : (t : ℕ) → t < p.last → ((k : ℕ) → Seen w t (w.stage t k)) → Turn w t → (k : ℕ) → Seen w (suc t) (w.stage (suc t) k)
  turn_seen t h so_far (Passes e same) k = subst (Seen w (suc t)) (sym (same k).stage) (seen_later t h (w.stage t k) (so_far k))
  turn_seen t h so_far (Acts actor m counts same) k = elim (cases_eq k actor) [
    | inl is ↦
        subst (λ q. Seen w (suc t) (w.stage (suc t) q)) (sym is)
        (moves_seen t actor h (w.stage t actor) (w.stage (suc t) actor) ((sound_at p t (omega (arith, h))).staged actor) m (so_far actor))
    | inr other ↦ subst (Seen w (suc t)) (sym (same k other).stage) (seen_later t h (w.stage t k) (so_far k))
  ]

  seen_at : (t : ℕ) → t ≤ p.last → (k : ℕ) → Seen w t (w.stage t k)
  seen_at t h =
      from_time (λ v. (k : ℕ) → Seen w v (w.stage v k)) zero p.last (λ k. subst (Seen w zero) (sym (p.first_stage k)) tt)
      (λ v low within so_far. turn_seen v within so_far (p.turn v within)) t (omega arith) h

module _ (limits : Bounds) (xs : List Step) (ok : AreBounds limits) (actor : ℕ) (i m f : Ref) (h : HasFailed (run limits xs) actor i m f) (now : HasIndirection (run limits xs) i)
    (used : IsInUse (run limits xs).heap f) where
  abbrev states : ℕ → State
  states = states_of limits xs

  abbrev last : ℕ
  last = last_of limits xs

  abbrev is_run : IsRun limits states last
  is_run = run_is limits xs ok

  abbrev q : Protocol
  q = protocol_of is_run

  stage : q.words.stage last actor ≡ Checks i m f
  stage = ap (λ (s : State). stage_of_actor (operation_of s actor)) (run_ends limits xs) ∙ ap stage_of_actor h.runs ∙ ap stage_of h.checks

  past : IsPast q.words last i f
  past = subst (Seen q.words last) stage (seen_at q last (omega arith) actor)

  by_past : IsPast q.words last i f → main_at (run limits xs).heap i ≡ f → ⊥
  by_past (committed s n) e =
      let there : IsInUse (states last).heap f = subst (λ (s : State). IsInUse s.heap f) (sym (run_ends limits xs)) used in
      h.uncommitted (ap (λ (s : State). prev_at s.heap f) (sym (run_ends limits xs)) ∙ prev_grown states last f there.0 there.1 ∙ n)
  by_past (gone x l failed apart) e =
      let there : IsInUse (states last).heap i = subst (λ (s : State). IsInUse s.heap i) (sym (run_ends limits xs)) now.0 in
      apart (sym (ap main_of (node_grown states last i there.0 there.1)) ∙ ap (λ (s : State). main_at s.heap i) (run_ends limits xs) ∙ e)

  pub failed_apart : main_at (run limits xs).heap i ≡ f → ⊥
  failed_apart e = by_past past e

  failed_by : IsPast q.words last i f → (x : Ref) × (prev_at (run limits xs).heap f ≡ prev.Failed x)
  failed_by (committed s n) =
      let there : IsInUse (states last).heap f = subst (λ (s : State). IsInUse s.heap f) (sym (run_ends limits xs)) used in
      absurd (h.uncommitted (ap (λ (s : State). prev_at s.heap f) (sym (run_ends limits xs)) ∙ prev_grown states last f there.0 there.1 ∙ n))
  failed_by (gone x l failed apart) =
      let there : IsInUse (states last).heap f = subst (λ (s : State). IsInUse s.heap f) (sym (run_ends limits xs)) used in
      (x, ap (λ (s : State). prev_at s.heap f) (sym (run_ends limits xs)) ∙ prev_grown states last f there.0 there.1 ∙ failed)

  -- it has failed
  pub failed_over : (x : Ref) × (prev_at (run limits xs).heap f ≡ prev.Failed x)
  failed_over = failed_by past
