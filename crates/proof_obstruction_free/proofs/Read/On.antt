-- A READ from any of its lines, where one actor alone takes steps.
use Rattle.std.proofs.Common.{◌≡◌, ℕ, suc, ◌+◌, ◌-◌, ◌<◌, ◌≤◌, ◌==◌, Bool, true, false, Option, Some, refl, sym, ◌∙◌, subst, eqb-true, eq-eqb, arith}
use Rattle.std.proofs.lemmas.Bool.{true≢false}
use Rattle.proof_obstruction_free.specs.Vocabulary.{Ref, Prev, main_at, prev_at, generation_at, main_changed, Line, ReadLine, Descriptor, RootWord, Plain, Offer, verdict_by, is_licensed, is_pending}
use Rattle.proof_obstruction_free.specs.Vocabulary.{after_prev, after_ask, after_decide, after_restore, prev_word}
use Rattle.proof_obstruction_free.specs.Beneath.slot_arena.specs.declared.nodes.Prev.TheVariants as prev
use Rattle.proof_obstruction_free.specs.Beneath.machine_model.specs.declared.reading.ReadLine.TheVariants as read
use Rattle.proof_obstruction_free.specs.Beneath.proof_commits.proofs.Known.Given.{GrownStays, GrownChanges, Either}
use Rattle.proof_obstruction_free.specs.Beneath.proof_commits.proofs.Words.Stood.{Stood}
use Rattle.proof_obstruction_free.specs.Beneath.proof_commits.proofs.Words.OfRuns.{link_made}
use Rattle.proof_obstruction_free.specs.Beneath.proof_commits.proofs.Lines.Read.{pending_so, not_pending_so}
use Rattle.proof_obstruction_free.specs.Alone.{Lone, Stands, IsPlain, word}
use Rattle.proof_obstruction_free.specs.Machines.{HoldsRead, IsRead, WasRead, ReadsOn, lead}
use Rattle.proof_obstruction_free.specs.Weighing.{Weighing, Sees}
use Rattle.proof_obstruction_free.proofs.Step.Within.{Comes, at_once, comes_map, within, keeps_now, keeps_on, stays, stays_on}
use Rattle.proof_obstruction_free.proofs.Read.Words.{w, sound, put_back}
use Rattle.proof_obstruction_free.proofs.Read.Lines.{on_line, pending_there}
use Rattle.proof_obstruction_free.proofs.Read.Step.{Counts, acting, off, same_word_at, light, on}
use Rattle.proof_obstruction_free.proofs.Read.First.{main, decide, prev_pending}
use Rattle.proof_obstruction_free.proofs.Swap.Steps.{read_acts}

module _ (a : Lone) (weight : ℕ → ℕ) (x f : ℕ) (wt : Weighing a weight x f) (wrap : ReadLine → Line) (gives : Ref → Line) (i : Ref) (h : HoldsRead a.own wrap gives i) (c : ℕ)
    (g : Option ℕ) (two : 2 ≤ c) (three : 3 ≤ c + f) (seven : 7 ≤ c + x) where
  abbrev pub P : ℕ → ℕ → Type 0
  P t u = WasRead a weight c t g gives u

  abbrev C : (ℕ → Type 0) → ℕ → ℕ → Type 0
  C = Comes a weight

  abbrev S : ℕ → ReadLine → Type 0
  S t l = Stands a t g (wrap l)

  pub counts : Counts a wrap gives i h P
  counts = record {
    earlier = λ t v u le keeps word found. record {
      main = found.main;
      stands = found.stands;
      keeps = keeps_on a t v u keeps found.keeps;
      word = stays_on a t v u word found.word;
    };
  }

  pub given : (t b : ℕ) (m : Ref) → weight t ≤ b → Stands a t g (gives m) → C (P t) b t
  given t b m enough s = at_once a weight (P t) b t enough (record { main = m; stands = s; keeps = keeps_now a t; word = stays a t })

  -- where a READ comes to the decided main node it comes to one
  pub was_read : (t b : ℕ) → C (λ u. IsRead a weight c t g gives i u) b t → C (P t) b t
  was_read t b found = comes_map a weight _ (P t) b t (λ u from to is. record { main = is.main; stands = is.stands; keeps = is.keeps; word = is.word }) found

  pub from_main : (t b : ℕ) → S t read.Main → c + weight t ≤ b → C (P t) b t
  from_main t b s enough =
      was_read t b (main a weight x f wt wrap gives i h c g t b s (omega (arith, enough, two)) (omega (arith, enough, three)) (omega (arith, enough, seven)))

  -- ---- the node before is put back

  restored : (t b n : ℕ) (m q : Ref) → S t (read.Restore m q) → n + 1 + weight t ≤ b → (S (suc t) read.Main → n + weight (suc t) ≤ b - 1 → C (P (suc t)) (b - 1) (suc t)) → t < a.last →
      (same : Bool) → (main_at (a.states t).heap i == m) ≡ same → Either same (GrownChanges a.states t (main_changed q) i) (GrownStays a.states t) →
      Stands a (suc t) g (lead wrap gives (after_restore q same)) → C (P (suc t)) (b - 1) (suc t)
  restored t b n m q s enough other more true e changed next =
      let found = read_acts a wrap gives i h t g (read.Restore m q) s more in
      let known = on_line a t g (wrap (read.Restore m q)) s _ (h.embedded.reads (read.Restore m q)) in
      let sees : Sees a t i m (prev.Failed q) = record { made = link_made _ found.0.link; main = sym found.0.main ∙ eqb-true _ m e; prev = known.1 } in
      let less = wt.restore t i m q (acting a wrap gives i h t g (read.Restore m q) s more) sees (put_back a t (omega arith) i m q found.0.link changed sees) in
      given (suc t) (b - 1) q (omega (arith, enough, less)) next
  restored t b n m q s enough other more false e changed next =
      let found = read_acts a wrap gives i h t g (read.Restore m q) s more in
      let less = wt.restored t i m q (acting a wrap gives i h t g (read.Restore m q) s more) (λ is. true≢false (sym (eq-eqb _ m (found.0.main ∙ is)) ∙ e)) in
      other next (omega (arith, enough, less))

  -- where another node stands there it begins again
  pub restore_or : (t b n : ℕ) (m q : Ref) → S t (read.Restore m q) → n + 1 + weight t ≤ b → (t < a.last → S (suc t) read.Main → n + weight (suc t) ≤ b - 1 → C (P (suc t)) (b - 1) (suc t)) →
      C (P t) b t
  restore_or t b n m q s enough other =
      on a wrap gives i h weight P counts b t g (read.Restore m q) s (omega (arith, enough))
      (λ more next. restored t b n m q s enough (other more) more (main_at (a.states t).heap i == m) refl (read_acts a wrap gives i h t g (read.Restore m q) s more).1 next)

  pub restore : (t b : ℕ) (m q : Ref) → S t (read.Restore m q) → c + 1 + weight t ≤ b → C (P t) b t
  restore t b m q s enough = restore_or t b c m q s enough (λ more next room. from_main (suc t) (b - 1) next room)

  -- ---- after the prev word

  -- a pending node that stood there stands there
  pub sees_pending : (t : ℕ) → t ≤ a.last → (m q : Ref) → Stood (w a) t i m → prev_word a.states t m ≡ prev.Pending q → Sees a t i m (prev.Pending q)
  sees_pending t within m q stood pending =
      record { made = link_made _ ((sound a t within).words.link i m stood); main = pending_there a t within i m q stood pending; prev = pending }

  prev_by : (t b : ℕ) (m : Ref) → S t (read.Prev m) → c + 2 + weight t ≤ b → (v : Prev) → prev_word a.states t m ≡ v → C (P t) b t
  prev_by t b m s enough prev.None e =
      on a wrap gives i h weight P counts b t g (read.Prev m) s (omega (arith, enough))
      (λ more next.
      let found = read_acts a wrap gives i h t g (read.Prev m) s more in
      let less = light a wrap gives i h weight wt.quiet t g (read.Prev m) s more tt in
      given (suc t) (b - 1) m (omega (arith, enough, less)) (subst (λ v. Stands a (suc t) g (lead wrap gives (after_prev a.own.access m v))) (found.0.prev ∙ e) next))
  prev_by t b m s enough (prev.Failed q) e =
      on a wrap gives i h weight P counts b t g (read.Prev m) s (omega (arith, enough))
      (λ more next.
      let found = read_acts a wrap gives i h t g (read.Prev m) s more in
      let less = light a wrap gives i h weight wt.quiet t g (read.Prev m) s more tt in
      restore (suc t) (b - 1) m q (subst (λ v. Stands a (suc t) g (lead wrap gives (after_prev a.own.access m v))) (found.0.prev ∙ e) next) (omega (arith, enough, less)))
  prev_by t b m s enough (prev.Pending q) e =
      let sees = sees_pending t s.until m q (on_line a t g (wrap (read.Prev m)) s _ (h.embedded.reads (read.Prev m))) e in
      was_read t b (prev_pending a weight x f wt wrap gives i h c g t b m q s sees (omega (arith, enough, seven)))

  pub prev_any : (t b : ℕ) (m : Ref) → S t (read.Prev m) → c + 2 + weight t ≤ b → C (P t) b t
  prev_any t b m s enough = prev_by t b m s enough (prev_word a.states t m) refl

  -- ---- it is decided

  overtaken : (t b : ℕ) (m : Ref) (licensed : Bool) → Stands a t g (lead wrap gives (after_decide m (verdict_by licensed false))) → c + 2 + weight t ≤ b → C (P t) b t
  overtaken t b m true next enough = prev_any t b m next enough
  overtaken t b m false next enough = from_main t b next (omega (arith, enough))

  decide_by : (t b : ℕ) (m q : Ref) (told : Option ℕ) → S t (read.Decide m q told) → c + 3 + weight t ≤ b → t < a.last → (pending : Bool) → is_pending (prev_at (a.states t).heap m) q ≡ pending →
      C (P t) b t
  decide_by t b m q told s enough more true e =
      let found = read_acts a wrap gives i h t g (read.Decide m q told) s more in
      let stood = on_line a t g (wrap (read.Decide m q told)) s _ (h.embedded.reads (read.Decide m q told)) in
      let sees = sees_pending t s.until m q stood (sym found.1.prev ∙ pending_so _ q e) in
      was_read t b (decide a weight x f wt wrap gives i h c g t b m q told s sees (omega (arith, enough, seven)))
  decide_by t b m q told s enough more false e =
      on a wrap gives i h weight P counts b t g (read.Decide m q told) s (omega (arith, enough))
      (λ soon next.
      let found = read_acts a wrap gives i h t g (read.Decide m q told) s soon in
      let less = wt.decided t i m q told (acting a wrap gives i h t g (read.Decide m q told) s soon) (λ is. not_pending_so _ q e (found.1.prev ∙ is)) in
      overtaken (suc t) (b - 1) m (is_licensed (a.states t).heap i told)
      (subst (λ y. Stands a (suc t) g (lead wrap gives (after_decide m (verdict_by (is_licensed (a.states t).heap i told) y)))) e next) (omega (arith, enough, less)))

  pub decide_any : (t b : ℕ) (m q : Ref) (told : Option ℕ) → S t (read.Decide m q told) → c + 3 + weight t ≤ b → C (P t) b t
  decide_any t b m q told s enough room =
      decide_by t b m q told s enough (omega (arith, enough, room)) (is_pending (prev_at (a.states t).heap m) q) refl room

  -- ---- the root is asked for

  -- where it is known how it goes on from a root with no offer
  module _ (j : ℕ) (plain_on : (t b : ℕ) (m q r : Ref) → S t (read.AskRoot m q) → IsPlain a t r → c + (j + 1) + weight t ≤ b → C (P t) b t) where
    abort_standing : (t b : ℕ) (m q : Ref) (offer : Descriptor) → S t (read.Abort m q offer) → word a t ≡ Offer offer → c + j + weight t ≤ b → C (P t) b t
    abort_standing t b m q offer s there enough =
        on a wrap gives i h weight P counts b t g (read.Abort m q offer) s (omega (arith, enough))
        (λ more next.
        let gone = off a wrap gives i h t g m q offer s more there in
        let less = wt.abort t offer (acting a wrap gives i h t g (read.Abort m q offer) s more) there in
        plain_on (suc t) (b - 1) m q gone.0 next gone.1 (omega (arith, enough, less)))

    ask_by : (t b : ℕ) (m q : Ref) → S t (read.AskRoot m q) → c + (j + 1) + weight t ≤ b → (y : RootWord) → word a t ≡ y → C (P t) b t
    ask_by t b m q s enough (Plain r) e = plain_on t b m q r s e enough
    ask_by t b m q s enough (Offer offer) e =
        on a wrap gives i h weight P counts b t g (read.AskRoot m q) s (omega (arith, enough))
        (λ more next.
        let less = light a wrap gives i h weight wt.quiet t g (read.AskRoot m q) s more tt in
        abort_standing (suc t) (b - 1) m q offer
        (subst (λ y. Stands a (suc t) g (lead wrap gives (after_ask (a.states t).heap m q y))) e next)
        (same_word_at a wrap gives i h t g m q s more ∙ e) (omega (arith, enough, less)))

    pub ask : (t b : ℕ) (m q : Ref) → S t (read.AskRoot m q) → c + (j + 1) + weight t ≤ b → C (P t) b t
    ask t b m q s enough = ask_by t b m q s enough (word a t) refl

    pub abort : (t b : ℕ) (m q : Ref) (offer : Descriptor) → S t (read.Abort m q offer) → c + (j + 2) + weight t ≤ b → C (P t) b t
    abort t b m q offer s enough =
        on a wrap gives i h weight P counts b t g (read.Abort m q offer) s (omega (arith, enough))
        (λ more next.
        let less = light a wrap gives i h weight wt.quiet t g (read.Abort m q offer) s more tt in
        ask (suc t) (b - 1) m q next (omega (arith, enough, less)))

  ask_plain : (t b : ℕ) (m q r : Ref) → S t (read.AskRoot m q) → IsPlain a t r → c + 4 + weight t ≤ b → C (P t) b t
  ask_plain t b m q r s plain enough =
      on a wrap gives i h weight P counts b t g (read.AskRoot m q) s (omega (arith, enough))
      (λ more next.
      let less = light a wrap gives i h weight wt.quiet t g (read.AskRoot m q) s more tt in
      decide_any (suc t) (b - 1) m q (Some (generation_at (a.states t).heap r))
      (subst (λ y. Stands a (suc t) g (lead wrap gives (after_ask (a.states t).heap m q y))) plain next) (omega (arith, enough, less)))

  -- ---- from any line

  pub any : (t b : ℕ) (l : ReadLine) → S t l → c + 5 + weight t ≤ b → C (P t) b t
  any t b read.Main s enough = from_main t b s (omega (arith, enough))
  any t b (read.Prev m) s enough = prev_any t b m s (omega (arith, enough))
  any t b (read.AskRoot m q) s enough = ask 3 ask_plain t b m q s (omega (arith, enough))
  any t b (read.Abort m q offer) s enough = abort 3 ask_plain t b m q offer s enough
  any t b (read.Decide m q told) s enough = decide_any t b m q told s (omega (arith, enough))
  any t b (read.Restore m q) s enough = restore t b m q s (omega (arith, enough))

-- a READ from any line
pub reads_on : (a : Lone) (weight : ℕ → ℕ) (pending failed c : ℕ) → Weighing a weight pending failed → 2 ≤ c → 3 ≤ c + failed → 7 ≤ c + pending → ReadsOn a weight c
reads_on a weight pending failed c wt two three seven wrap gives i h t g l s =
    within a weight _ (c + 6) t (any a weight pending failed wt wrap gives i h c g two three seven t (c + 6 + weight t) l s (omega arith))
