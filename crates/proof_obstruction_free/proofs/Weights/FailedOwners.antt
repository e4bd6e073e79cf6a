-- A failed main node that still stands in a main word has an owner: the actor that swapped it in is still in that SWAP.
use Rattle.std.proofs.Common.{◌≡◌, ℕ, zero, suc, ◌≤◌, ◌⊎◌, true, inl, inr, sym, ◌∙◌, ap, subst, arith}
use Rattle.std.proofs.lemmas.Bool.{cases_eq}
use Rattle.proof_obstruction_free.specs.Vocabulary.{Ref, After, Gives, ReadLine, Words, Decides, ReadTurn, ReadsMain, FindsDecided, FindsFailed, FindsPending, DecidesAtOnce, FindsOffer, Aborts}
use Rattle.proof_obstruction_free.specs.Vocabulary.{Restores, FindsAnother, Protocol}
use Rattle.proof_obstruction_free.specs.Beneath.slot_arena.specs.declared.nodes.Prev.TheVariants as over
use Rattle.proof_obstruction_free.specs.Beneath.machine_model.specs.declared.reading.After.TheVariants.{Goes}
use Rattle.proof_obstruction_free.specs.Beneath.machine_model.specs.declared.reading.ReadLine.TheVariants as read
use Rattle.proof_obstruction_free.specs.Beneath.proof_commits.specs.Protocol.{Asks}
use Rattle.proof_obstruction_free.specs.Beneath.proof_commits.specs.Protocol.{Commits, Fails, Overtaken, after_deciding, Moves, Turn}
use Rattle.proof_obstruction_free.specs.Beneath.proof_commits.specs.Protocol.{Acts, Passes}
use Rattle.proof_obstruction_free.specs.Beneath.proof_commits.proofs.Words.Stood.{AreSound, stands_now, none≢pending, pending≢failed, over_failed}
use Rattle.proof_obstruction_free.specs.Beneath.proof_commits.proofs.Words.Effects.{Effect, Nothing, Made, SwappedIn, PutBack, Committed, Failed, Becomes, Same, GoesIn, IsCommitted, IsFailed, becomes}
use Rattle.proof_obstruction_free.specs.Beneath.proof_commits.proofs.Known.Owners.{OnLine, Staged, IsDeciding, IsSound}
use Rattle.proof_obstruction_free.specs.Beneath.proof_commits.proofs.Known.Sounds.{deciding_turn, effect_at, sound_at}
use Rattle.proof_obstruction_free.specs.Beneath.proof_commits.proofs.Course.Finals.{from_time}
use Rattle.proof_obstruction_free.specs.Beneath.machine_model.proofs.Basics.{none≢failed}

-- the line is about this node, or about none
abbrev pub Names : ReadLine → Ref → Type 0
Names read.Main m = Unit {0}
Names (read.Prev x) m = x ≡ m
Names (read.AskRoot x q) m = x ≡ m
Names (read.Abort x q offer) m = x ≡ m
Names (read.Decide x q told) m = x ≡ m
Names (read.Restore x q) m = x ≡ m

-- a READ that gives something isn't about it any more
abbrev NamesOn : After ReadLine Ref → Ref → Type 0
NamesOn (Goes l) m = Names l m
NamesOn (Gives x) m = ⊥

deciding_names : (l : ReadLine) (m q : Ref) → IsDeciding l m q → Names l m
deciding_names read.Main m q d = tt
deciding_names (read.Prev x) m q d = d
deciding_names (read.AskRoot x r) m q d = d.0
deciding_names (read.Abort x r offer) m q d = d.0
deciding_names (read.Decide x r told) m q d = d.0
deciding_names (read.Restore x r) m q d = absurd d

pub record FailedOwner (w : Words) (t : ℕ) (i m : Ref) : Type 0 where
  pub actor : ℕ
  pub below : Ref
  pub line : ReadLine
  pub stage : w.stage t actor ≡ Decides i below m line
  pub names : Names line m

abbrev pub FailedOwned : Words → ℕ → Type 0
FailedOwned w t = (i m q : Ref) → w.link t i ≡ true → w.prev t m ≡ over.Failed q → w.main t i ≡ m → FailedOwner w t i m

-- ---- what stands failed afterwards stood there before

module _ (w : Words) (t : ℕ) (h : AreSound w t) (i m q : Ref) (link : w.link (suc t) i ≡ true) (failed : w.prev (suc t) m ≡ over.Failed q) (stands : w.main (suc t) i ≡ m) where
  abbrev Before : Type 0
  Before = (w.link t i ≡ true) × (w.main t i ≡ m)

  -- by whether the step writes that word
  put_by : (j x p : Ref) → w.prev t x ≡ over.Failed p → w.prev (suc t) p ≡ w.prev t p → w.main (suc t) j ≡ p → i ≡ j → ⊥
  put_by j x p was keeps here same =
      let one : p ≡ m = sym here ∙ ap (w.main (suc t)) (sym same) ∙ stands in
      none≢failed (keeps ∙ (h.over x p (over_failed was)).none) (ap (w.prev (suc t)) one ∙ failed)

  pub stood_before : Effect w t → Before
  stood_before (Nothing e) = (sym (e.makes.link i) ∙ link, sym (e.main i) ∙ stands)
  stood_before (Made n e settled) = elim (cases_eq i n) [
    | inl same ↦
        let now : w.link (suc t) n ≡ true = subst (λ x. w.link (suc t) x ≡ true) same link in
        let main : w.main (suc t) n ≡ m = ap (w.main (suc t)) (sym same) ∙ stands in
        absurd (none≢failed (e.prev m ∙ subst (λ x. w.prev t x ≡ over.None) main (settled now).none) failed)
    | inr apart ↦ (sym (e.link i apart) ∙ link, sym (e.main i apart) ∙ stands)
  ]
  stood_before (SwappedIn j x f l e private d) = elim (cases_eq i j) [
    | inl same ↦
        let fresh : f ≡ m = sym e.main.here ∙ ap (w.main (suc t)) (sym same) ∙ stands in
        absurd (pending≢failed (ap (w.prev (suc t)) (sym fresh) ∙ e.prev.here) failed)
    | inr apart ↦ (sym (e.makes.link i) ∙ link, sym (e.main.elsewhere i apart) ∙ stands)
  ]
  stood_before (PutBack j x p l e was st) =
      let apart = put_by j x p was (e.prev p) e.main.here in
      (sym (e.makes.link i) ∙ link, sym (e.main.elsewhere i apart) ∙ stands)
  stood_before (Committed x p e) = (sym (e.makes.link i) ∙ link, sym (e.main i) ∙ stands)
  stood_before (Failed x p e) = (sym (e.makes.link i) ∙ link, sym (e.main i) ∙ stands)

-- ---- the owner's READ goes on about it

module _ (w : Words) (t : ℕ) (h : AreSound w t) (i m q : Ref) (failed : w.prev (suc t) m ≡ over.Failed q) (stood : w.main t i ≡ m) (stands : w.main (suc t) i ≡ m) where
  names_on : (l : ReadLine) (out : After ReadLine Ref) → OnLine w t i l → ReadTurn w t i l out → Names l m → (w.prev t m ≡ over.None → ⊥) → NamesOn out m
  names_on l out on (ReadsMain e k) names undecided = stood
  names_on l out on (FindsDecided e n) names undecided = undecided (ap (w.prev t) (sym names) ∙ n)
  names_on l out on (FindsFailed e n) names undecided = names
  names_on l out on (FindsPending e n) names undecided = names
  names_on l out on (DecidesAtOnce e n) names undecided = names
  names_on l out on (Asks g e c) names undecided = names
  names_on l out on (FindsOffer offer e) names undecided = names
  names_on l out on (Aborts e) names undecided = names
  names_on l out on (Commits licence e) names undecided = none≢failed e.prev.here (ap (w.prev (suc t)) names ∙ failed)
  names_on l out on (Fails e) names undecided = tt
  names_on l out on (Overtaken {m = x} next e n which) names undecided = by which
    where
      by : (next ≡ read.Prev x) ⊎ (next ≡ read.Main) → Names next m
      by (inl is) = subst (λ y. Names y m) (sym is) names
      by (inr is) = subst (λ y. Names y m) (sym is) tt
  names_on l out on (Restores {m = x} {p} e) names undecided =
      let put : p ≡ m = sym e.main.here ∙ stands in
      undecided (ap (w.prev t) (sym put) ∙ (h.over x p (over_failed on.1)).none)
  names_on l out on (FindsAnother e) names undecided = tt

owner_by : (w : Words) (t k : ℕ) (i m below : Ref) (out : After ReadLine Ref) → NamesOn out m → w.stage (suc t) k ≡ after_deciding i below m out → FailedOwner w (suc t) i m
owner_by w t k i m below (Goes l) names stage = record { actor = k; below = below; line = l; stage = stage; names = names }
owner_by w t k i m below (Gives x) names stage = absurd names

module _ (w : Words) (t k : ℕ) (h : IsSound w t) (moves : Moves w t k (w.stage t k) (w.stage (suc t) k)) (others : (j : ℕ) → (j ≡ k → ⊥) → w.stage (suc t) j ≡ w.stage t j)
    (i m q : Ref) (failed : w.prev (suc t) m ≡ over.Failed q) (stood : w.main t i ≡ m) (stands : w.main (suc t) i ≡ m) where
  -- by whether the owner acts
  owner_on : (actor : ℕ) (below : Ref) (l : ReadLine) → w.stage t actor ≡ Decides i below m l → Names l m → (w.prev t m ≡ over.None → ⊥) → (actor ≡ k) ⊎ (actor ≡ k → ⊥) →
      FailedOwner w (suc t) i m
  owner_on actor below l stage names undecided (inr apart) =
      record { actor = actor; below = below; line = l; stage = others actor apart ∙ stage; names = names }
  owner_on actor below l stage names undecided (inl own) =
      let here : w.stage t k ≡ Decides i below m l = ap (w.stage t) (sym own) ∙ stage in
      let turn = deciding_turn w t k i below m l (w.stage (suc t) k) (subst (λ s. Moves w t k s (w.stage (suc t) k)) here moves) in
      let on = subst (λ s. Staged w t k s) here (h.staged k) in
      owner_by w t k i m below turn.out (names_on w t h.words i m q failed stood stands l turn.out on.0 turn.turn names undecided) turn.is

  owned_by : (w.link t i ≡ true) → FailedOwned w t → Becomes w t m → FailedOwner w (suc t) i m
  owned_by link all (Same keeps) =
      let was : w.prev t m ≡ over.Failed q = sym keeps ∙ failed in
      let o = all i m q link was stood in
      owner_on o.actor o.below o.line o.stage o.names (λ none. none≢failed none was) (cases_eq o.actor k)
  owned_by link all (GoesIn j x l e private d) = absurd (pending≢failed e.prev.here failed)
  owned_by link all (IsCommitted x e) = absurd (none≢failed e.prev.here failed)
  owned_by link all (IsFailed x e) =
      let o = h.owned m x e.was in
      let one : o.link ≡ i = h.words.one_word m o.link i (λ none. none≢pending none e.was) (stands_now o.is_link o.stands) (stands_now link stood) in
      let stage : w.stage t o.actor ≡ Decides i x m o.line = subst (λ y. w.stage t o.actor ≡ Decides y x m o.line) one o.stage in
      owner_on o.actor x o.line stage (deciding_names o.line m x o.deciding) (λ none. none≢pending none e.was) (cases_eq o.actor k)

-- ---- along the run

owned_after : (w : Words) (t : ℕ) → IsSound w t → Turn w t → FailedOwned w t → FailedOwned w (suc t)
owned_after w t h (Passes e same) all i m q link failed stands =
    let o = all i m q (sym (e.makes.link i) ∙ link) (sym (e.prev m) ∙ failed) (sym (e.main i) ∙ stands) in
    record { actor = o.actor; below = o.below; line = o.line; stage = (same o.actor).stage ∙ o.stage; names = o.names }
owned_after w t h (Acts k moves counts same) all i m q link failed stands =
    let e = effect_at w t h (Acts k moves counts same) in
    let before = stood_before w t h.words i m q link failed stands e in
    owned_by w t k h moves (λ j apart. (same j apart).stage) i m q failed before.1 stands before.0 all (becomes w t e m)

pub failed_owned : (p : Protocol) (t : ℕ) → t ≤ p.last → FailedOwned p.words t
failed_owned p t within =
    from_time (FailedOwned p.words) zero p.last (λ i m q link failed stands. absurd (none≢failed (p.first_decided m) failed))
    (λ v from more all. owned_after p.words v (sound_at p v (omega (arith, more))) (p.turn v more) all) t (omega arith) within
