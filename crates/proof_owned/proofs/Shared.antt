-- Each main node that stood in an indirection's word is its own, or the indirection was made over it and it stood in another's word before; never both.
use Rattle.std.proofs.Common.{◌≡◌, ℕ, zero, suc, ◌<◌, ◌≤◌, ◌⊎◌, true, false, inl, inr, refl, sym, ◌∙◌, subst, arith}
use Rattle.std.proofs.lemmas.Bool.{cases_eq, true≢false}
use Rattle.proof_owned.specs.Beneath.slot_arena.specs.declared.refs.Ref.{Ref}
use Rattle.proof_owned.specs.Beneath.machine_model.specs.declared.reading.After.{After}
use Rattle.proof_owned.specs.Beneath.machine_model.specs.declared.reading.ReadLine.{ReadLine}
use Rattle.proof_owned.specs.Beneath.machine_model.specs.declared.steps.Bounds.{Bounds}
use Rattle.proof_owned.specs.Beneath.machine_model.specs.States.{State}
use Rattle.proof_owned.specs.Beneath.machine_model.specs.Times.{IsRun}
use Rattle.proof_owned.specs.Beneath.machine_model.proofs.Times.{run_is}
use Rattle.proof_owned.specs.Beneath.proof_commits.specs.Protocol.{Words, Protocol, Stage, Publishes, Moves, Idles, MakesNode, SwapsNode, ReadsOn, DecidesOn, Turn, Acts, Passes, MayName, ReadTurn}
use Rattle.proof_owned.specs.Beneath.proof_commits.specs.Protocol.{ReadsMain, FindsDecided, FindsFailed, FindsPending, DecidesAtOnce, Asks, FindsOffer, Aborts}
use Rattle.proof_owned.specs.Beneath.proof_commits.specs.Protocol.{Commits, Fails, Overtaken, Restores, FindsAnother}
use Rattle.proof_owned.specs.Beneath.proof_commits.proofs.Words.Stood.{Stood, Private, stands_now, stood_cases, stood_still}
use Rattle.proof_owned.specs.Beneath.proof_commits.proofs.Known.Owners.{Staged}
use Rattle.proof_owned.specs.Beneath.proof_commits.proofs.Known.Sounds.{sound_at}
use Rattle.proof_owned.specs.Beneath.proof_commits.proofs.Course.Finals.{link_stays}
use Rattle.proof_owned.specs.Beneath.proof_generations.proofs.Falling.Brought.{Brought, makes, swaps, comes_in}
use Rattle.proof_owned.specs.Beneath.proof_generations.proofs.Falling.KnownRoots.{words, protocol_of}
use Rattle.proof_owned.proofs.Earlier.{either, order}
use Rattle.proof_owned.specs.Owned.{IsOwn, swapped, built, first, IsShared, over}
use Rattle.proof_owned.specs.Laws.{OwnOrShared, NeverBoth}

-- ---- an indirection that a step makes

module _ (w : Words) (t : ℕ) where
  read_makes : (i : Ref) (l : ReadLine) (out : After ReadLine Ref) → ReadTurn w t i l out → (q : Ref) → w.link (suc t) q ≡ w.link t q
  read_makes i l out (ReadsMain e k) q = e.makes.link q
  read_makes i l out (FindsDecided e n) q = e.makes.link q
  read_makes i l out (FindsFailed e n) q = e.makes.link q
  read_makes i l out (FindsPending e n) q = e.makes.link q
  read_makes i l out (DecidesAtOnce e n) q = e.makes.link q
  read_makes i l out (Asks g e c) q = e.makes.link q
  read_makes i l out (FindsOffer offer e) q = e.makes.link q
  read_makes i l out (Aborts e) q = e.makes.link q
  read_makes i l out (Commits g e) q = e.makes.link q
  read_makes i l out (Fails e) q = e.makes.link q
  read_makes i l out (Overtaken next e n h) q = e.makes.link q
  read_makes i l out (Restores e) q = e.makes.link q
  read_makes i l out (FindsAnother e) q = e.makes.link q

  module _ (i : Ref) (none : w.link t i ≡ false) (is : w.link (suc t) i ≡ true) where
    not_kept : w.link (suc t) i ≡ w.link t i → ⊥
    not_kept same = true≢false (sym is ∙ same ∙ none)

    abbrev pub MadeOver : Type 0
    MadeOver = (k : ℕ) × MayName w t k (w.stage t k) (w.main (suc t) i)

    by_moves : (k : ℕ) (s after : Stage) → w.stage t k ≡ s → Moves w t k s after → MadeOver
    by_moves k s after at (Idles e f r) = absurd (not_kept (e.makes.link i))
    by_moves k s after at (MakesNode n e f name have) = elim (cases_eq i n) [
      | inl same ↦ (k, subst (λ x. MayName w t k x (w.main (suc t) i)) (sym at) (subst (λ x. MayName w t k s (w.main (suc t) x)) (sym same) (name (subst (λ x. w.link (suc t) x ≡ true) same is))))
      | inr apart ↦ absurd (not_kept (e.link i apart))
    ]
    by_moves k s after at (SwapsNode l e) = absurd (not_kept (e.makes.link i))
    by_moves k s after at (ReadsOn {i = j} {l} {out} r) = absurd (not_kept (read_makes j l out r i))
    by_moves k s after at (DecidesOn {i = j} {l = l} {out = out} r) = absurd (not_kept (read_makes j l out r i))

    pub by_turn : Turn w t → MadeOver
    by_turn (Acts k moves counts same) = by_moves k (w.stage t k) (w.stage (suc t) k) refl moves
    by_turn (Passes e same) = absurd (not_kept (e.makes.link i))

module _ {limits : Bounds} {states : ℕ → State} {last : ℕ} (run : IsRun limits states last) where
  abbrev w : Words
  w = words states run.records last

  abbrev p : Protocol
  p = protocol_of run

  -- ---- one of the two

  own_later : (t : ℕ) (i m : Ref) → IsOwn states t i m ⊎ IsShared states t i m → IsOwn states (suc t) i m ⊎ IsShared states (suc t) i m
  own_later t i m (inl (swapped u k a lt stage link is)) = inl (swapped u k a (omega (arith, lt)) stage link is)
  own_later t i m (inl (built u k lt stage was link is)) = inl (built u k (omega (arith, lt)) stage was link is)
  own_later t i m (inl (first link is)) = inl (first link is)
  own_later t i m (inr (over u v j lt le was link is stood_link stood)) = inr (over u v j (omega (arith, lt)) le was link is stood_link stood)

  module _ (t : ℕ) (lt : t < last) (i m : Ref) (now : Stood w (suc t) i m) where
    link_now : w.link (suc t) i ≡ true
    link_now = (sound_at p (suc t) lt).words.link i m now

    named : (k : ℕ) → w.link t i ≡ false → w.link (suc t) i ≡ true → w.main (suc t) i ≡ m → MayName w t k (w.stage t k) m → IsOwn states (suc t) i m ⊎ IsShared states (suc t) i m
    named k none is main_is (inl (j, given)) =
        let s = ((sound_at p t (omega arith)).given k j m given).stood in inr (over t s.at j (omega arith) s.past none is main_is s.link s.is)
    named k none is main_is (inr stage) = inl (built t k (omega arith) stage none is main_is)

    next_by : Stood w t i m ⊎ Brought w t i m → (Stood w t i m → IsOwn states t i m ⊎ IsShared states t i m) → IsOwn states (suc t) i m ⊎ IsShared states (suc t) i m
    next_by (inl before) so_far = own_later t i m (so_far before)
    next_by (inr (swaps k a stage)) so_far = elim (stood_cases w t i m now) [
      | inl before ↦ absurd ((subst (λ s. Staged w t k s) stage ((sound_at p t (omega arith)).staged k)).0.apart i before)
      | inr here ↦ inl (swapped t k a (omega arith) stage link_now here.1)
    ]
    next_by (inr (makes none is main_is)) so_far =
        let (k, name) = by_turn w t i none is (p.turn t lt) in named k none is main_is (subst (λ x. MayName w t k (w.stage t k) x) main_is name)

  by_time : (t : ℕ) → t ≤ last → (i m : Ref) → Stood w t i m → IsOwn states t i m ⊎ IsShared states t i m
  by_time zero h i m stood = inl (first (subst (λ u. w.link u i ≡ true) (at_zero stood.at stood.past) stood.link) (subst (λ u. w.main u i ≡ m) (at_zero stood.at stood.past) stood.is))
    where
      at_zero : (u : ℕ) → u ≤ 0 → u ≡ 0
      at_zero u le = omega arith
  by_time (suc t) h i m stood = next_by t h i m stood (comes_in p t h i m stood) (λ before. by_time t (omega arith) i m before)

  pub own_or : (t : ℕ) → t ≤ last → (i m : Ref) → Stood (words states run.records last) t i m → IsOwn states last i m ⊎ IsShared states last i m
  own_or t h i m stood = by_time last (omega arith) i m (stood_still h stood)

  -- ---- not both

  -- no indirection is made twice
  once : (u v : ℕ) (i : Ref) → u < last → v < last → w.link u i ≡ false → w.link (suc u) i ≡ true → w.link v i ≡ false → w.link (suc v) i ≡ true → u ≡ v
  once u v i a b none is none' is' = by (order u v)
    where
      by : (u ≡ v) ⊎ ((u < v) ⊎ (v < u)) → u ≡ v
      by (inl same) = same
      by (inr (inl less)) = absurd (true≢false (sym (link_stays p i (suc u) v (omega arith) (omega (arith, b)) is) ∙ none'))
      by (inr (inr more)) = absurd (true≢false (sym (link_stays p i (suc v) u (omega arith) (omega (arith, a)) is') ∙ none))

  private_at : (u k : ℕ) (m : Ref) → u ≤ last → (a i : Ref) → w.stage u k ≡ Publishes i a m → Private w u m
  private_at u k m h a i stage = (subst (λ s. Staged w u k s) stage ((sound_at p u h).staged k)).0

  not_both : (i m : Ref) (u v : ℕ) (j : Ref) → u < last → v ≤ u → w.link u i ≡ false → w.link (suc u) i ≡ true → w.main (suc u) i ≡ m → w.link v j ≡ true → w.main v j ≡ m →
      IsOwn states last i m → ⊥
  not_both i m u v j lt le none is main_is j_link stood (first link at) = true≢false (sym (link_stays p i zero u (omega arith) (omega (arith, lt)) link) ∙ none)
  not_both i m u v j lt le none is main_is j_link stood (built x k before stage was link at) =
      let same = once u x i lt before none is was link in
      (subst (λ s. Staged w x k s) stage ((sound_at p x (omega (arith, before))).staged k)).apart j (stood_still (omega (arith, le, same)) (stands_now j_link stood))
  not_both i m u v j lt le none is main_is j_link stood (swapped x k a before stage link at) = elim (either u x) [
    | inl sooner ↦ (private_at x k m (omega (arith, before)) a i stage).apart j (stood_still (omega (arith, le, sooner)) (stands_now j_link stood))
    | inr later ↦
        let given = (subst (λ s. Staged w x k s) stage ((sound_at p x (omega (arith, before))).staged k)).1 in
        let link_then = (sound_at p x (omega (arith, before))).words.link i a ((sound_at p x (omega (arith, before))).given k i a given).stood in
        true≢false (sym (link_stays p i x u (omega (arith, later)) (omega (arith, lt)) link_then) ∙ none)
  ]

pub own_or_shared : OwnOrShared
own_or_shared limits steps ok t within i m link is = own_or (run_is limits steps ok) t within i m (stands_now link is)

pub never_both : NeverBoth
never_both limits steps ok i m own (over u v j lt le was link is j_link stood) = not_both (run_is limits steps ok) i m u v j lt le was link is j_link stood own
