-- Words over time: what stands in main words and prev words before each step of a run, apart from the machine that writes
-- them, and the turns by which actors read and write them.
use Rattle.std.specs.Prelude.{◌≡◌, ℕ, zero, suc, ◌<◌, ◌≤◌, ◌⊎◌, Bool, true, false, Option, Some, None}
use Rattle.proof_commits.specs.Vocabulary.{Ref, Prev, logical, Descriptor, After, Gives, ReadLine}
use Rattle.proof_commits.specs.Beneath.slot_arena.specs.declared.nodes.Prev.TheVariants as over
use Rattle.proof_commits.specs.Beneath.machine_model.specs.declared.reading.After.TheVariants.{Goes}
use Rattle.proof_commits.specs.Beneath.machine_model.specs.declared.reading.ReadLine.TheVariants as read

-- what an actor is about with main words
pub data Stage : Type 0 where
  -- nothing
  Rests : Stage
  -- a READ of its own
  Reads : (indirection : Ref) (line : ReadLine) → Stage
  -- it made a main node, which stands nowhere yet
  Builds : (fresh : Ref) → Stage
  -- a SWAP: about to swap the fresh node in, deciding it, about to see how it was decided
  Publishes : (indirection replaced fresh : Ref) → Stage
  Decides : (indirection replaced fresh : Ref) (line : ReadLine) → Stage
  Checks : (indirection replaced fresh : Ref) → Stage

-- the words before each step
pub record Words : Type 0 where
  -- the main word of an indirection
  pub main : ℕ → Ref → Ref
  -- the prev word of a main node
  pub prev : ℕ → Ref → Prev
  -- the generation of an indirection
  pub generation : Ref → ℕ
  -- the reference was made
  pub made : ℕ → Ref → Bool
  -- it was made, and is an indirection
  pub link : ℕ → Ref → Bool
  -- the main node may be replaced: it is a branch or a list, and no tomb
  pub solid : Ref → Bool
  -- the step in which the main node was committed, if it was
  pub commit : ℕ → Ref → Option ℕ
  -- the step that closes a generation, if one ever does
  pub closing : ℕ → Option ℕ
  -- what an actor is about
  pub stage : ℕ → ℕ → Stage
  -- the step of the last read or swap of a main word by a READ of this actor's
  pub from : ℕ → ℕ → ℕ

-- the logical main node of an indirection
abbrev pub logical_at : Words → ℕ → Ref → Ref
logical_at w t i = logical (w.main t i) (w.prev t (w.main t i))

-- ---- writes

-- nothing was written
abbrev pub Kept : {X : Type 0} → (Ref → X) → (Ref → X) → Type 0
Kept f g = (r : Ref) → g r ≡ f r

-- just here this was written
pub record Written {X : Type 0} (f g : Ref → X) (r : Ref) (x : X) : Type 0 where
  pub here : g r ≡ x
  pub elsewhere : (q : Ref) → ¬ (q ≡ r) → g q ≡ f q

-- the step makes nothing
pub record MakesNothing (w : Words) (t : ℕ) : Type 0 where
  pub made : Kept (w.made t) (w.made (suc t))
  pub link : Kept (w.link t) (w.link (suc t))

-- the step leaves all words
pub record Leaves (w : Words) (t : ℕ) : Type 0 where
  pub main : Kept (w.main t) (w.main (suc t))
  pub prev : Kept (w.prev t) (w.prev (suc t))
  pub makes : MakesNothing w t
  pub commit : Kept (w.commit t) (w.commit (suc t))

-- the step makes the node under this reference
pub record Makes (w : Words) (t : ℕ) (n : Ref) : Type 0 where
  pub was_unmade : w.made t n ≡ false
  pub was_no_link : w.link t n ≡ false
  pub is_made : w.made (suc t) n ≡ true
  pub made : (q : Ref) → ¬ (q ≡ n) → w.made (suc t) q ≡ w.made t q
  pub link : (q : Ref) → ¬ (q ≡ n) → w.link (suc t) q ≡ w.link t q
  pub main : (q : Ref) → ¬ (q ≡ n) → w.main (suc t) q ≡ w.main t q
  pub prev : Kept (w.prev t) (w.prev (suc t))
  pub prev_none : w.prev t n ≡ over.None
  pub commit : Kept (w.commit t) (w.commit (suc t))

-- the step swaps a fresh node in over the replaced one
pub record SwapsIn (w : Words) (t : ℕ) (i a f : Ref) : Type 0 where
  pub stood : w.main t i ≡ a
  pub main : Written (w.main t) (w.main (suc t)) i f
  pub prev : Written (w.prev t) (w.prev (suc t)) f (over.Pending a)
  pub makes : MakesNothing w t
  pub commit : Kept (w.commit t) (w.commit (suc t))

-- the step puts back what the failed node stood over
pub record PutsBack (w : Words) (t : ℕ) (i m p : Ref) : Type 0 where
  pub stood : w.main t i ≡ m
  pub main : Written (w.main t) (w.main (suc t)) i p
  pub prev : Kept (w.prev t) (w.prev (suc t))
  pub makes : MakesNothing w t
  pub commit : Kept (w.commit t) (w.commit (suc t))

-- the step commits a pending node
pub record CommitsNode (w : Words) (t : ℕ) (m p : Ref) : Type 0 where
  pub was : w.prev t m ≡ over.Pending p
  pub prev : Written (w.prev t) (w.prev (suc t)) m over.None
  pub main : Kept (w.main t) (w.main (suc t))
  pub makes : MakesNothing w t
  -- the first step in which it was committed is kept
  pub commit : w.commit t m ≡ None → w.commit (suc t) m ≡ Some t
  pub commits_elsewhere : (q : Ref) → (q ≡ m → ⊥) → w.commit (suc t) q ≡ w.commit t q

-- the step makes a pending node failed
pub record FailsNode (w : Words) (t : ℕ) (m p : Ref) : Type 0 where
  pub was : w.prev t m ≡ over.Pending p
  pub prev : Written (w.prev t) (w.prev (suc t)) m (over.Failed p)
  pub main : Kept (w.main t) (w.main (suc t))
  pub makes : MakesNothing w t
  pub commit : Kept (w.commit t) (w.commit (suc t))

-- ---- READ

-- a step of a READ of this indirection, from this line on: what comes after it
pub data ReadTurn (w : Words) (t : ℕ) (i : Ref) : ReadLine → After ReadLine Ref → Type 0 where
  ReadsMain : Leaves w t → w.link t i ≡ true → ReadTurn w t i read.Main (Goes (read.Prev (w.main t i)))
  FindsDecided : {m : Ref} → Leaves w t → w.prev t m ≡ over.None → ReadTurn w t i (read.Prev m) (Gives m)
  FindsFailed : {m p : Ref} → Leaves w t → w.prev t m ≡ over.Failed p → ReadTurn w t i (read.Prev m) (Goes (read.Restore m p))
  FindsPending : {m p : Ref} → Leaves w t → w.prev t m ≡ over.Pending p → ReadTurn w t i (read.Prev m) (Goes (read.AskRoot m p))
  -- on a read-only handle
  DecidesAtOnce : {m p : Ref} → Leaves w t → w.prev t m ≡ over.Pending p → ReadTurn w t i (read.Prev m) (Goes (read.Decide m p None))
  Asks : {m p : Ref} (g : ℕ) → Leaves w t → ((c : ℕ) → w.closing g ≡ Some c → t ≤ c) →
      ReadTurn w t i (read.AskRoot m p) (Goes (read.Decide m p (Some g)))
  FindsOffer : {m p : Ref} (offer : Descriptor) → Leaves w t → ReadTurn w t i (read.AskRoot m p) (Goes (read.Abort m p offer))
  Aborts : {m p : Ref} {offer : Descriptor} → Leaves w t → ReadTurn w t i (read.Abort m p offer) (Goes (read.AskRoot m p))
  Commits : {m p : Ref} {told : Option ℕ} → told ≡ Some (w.generation i) → CommitsNode w t m p → ReadTurn w t i (read.Decide m p told) (Gives m)
  Fails : {m p : Ref} {told : Option ℕ} → FailsNode w t m p → ReadTurn w t i (read.Decide m p told) (Goes read.Main)
  -- another decided it
  Overtaken : {m p : Ref} {told : Option ℕ} (next : ReadLine) → Leaves w t → (w.prev t m ≡ over.Pending p → ⊥) →
      (next ≡ read.Prev m) ⊎ (next ≡ read.Main) → ReadTurn w t i (read.Decide m p told) (Goes next)
  Restores : {m p : Ref} → PutsBack w t i m p → ReadTurn w t i (read.Restore m p) (Gives p)
  -- another put it back
  FindsAnother : {m p : Ref} → Leaves w t → ReadTurn w t i (read.Restore m p) (Goes read.Main)

-- before this time a READ of this actor's gave the node for the indirection
pub record Given (w : Words) (t : ℕ) (k : ℕ) (i m : Ref) : Type 0 where
  pub at : ℕ
  pub past : at < t
  pub line : ReadLine
  pub stage : w.stage at k ≡ Reads i line
  pub gives : ReadTurn w at i line (Gives m)

-- ---- turns

-- not in a SWAP's deciding part
abbrev pub IsFree : Stage → Type 0
IsFree (Decides i a f l) = ⊥
IsFree s = Unit {0}

-- at rest, or at a READ's first line
abbrev pub IsAtFirst : ReadLine → Type 0
IsAtFirst read.Main = Unit {0}
IsAtFirst l = ⊥

abbrev pub IsAtRest : Stage → Type 0
IsAtRest Rests = Unit {0}
IsAtRest (Reads i l) = IsAtFirst l
IsAtRest s = ⊥

-- what comes after a step of a READ
abbrev pub after_read : Ref → After ReadLine Ref → Stage
after_read i (Goes l) = Reads i l
after_read i (Gives m) = Rests

-- the same in a SWAP
abbrev pub after_deciding : Ref → Ref → Ref → After ReadLine Ref → Stage
after_deciding i a f (Goes l) = Decides i a f l
after_deciding i a f (Gives m) = Checks i a f

-- a main word of what is made names what a READ gave, or the node that is held
abbrev pub MayName : Words → ℕ → ℕ → Stage → Ref → Type 0
MayName w t k s m = ((i : Ref) × Given w t k i m) ⊎ (s ≡ Builds m)

-- what an actor may be about once it made this node; G says of an indirection and a main node that the node may be replaced there
abbrev pub HasMade : (Ref → Ref → Type 0) → Ref → Stage → Type 0
HasMade G n (Builds f) = f ≡ n
HasMade G n (Publishes i a f) = (f ≡ n) × G i a
HasMade G n s = IsAtRest s

abbrev pub MayHave : Words → ℕ → ℕ → Ref → Stage → Type 0
MayHave w t k n s = HasMade (λ i m. Given w t k i m × (w.solid m ≡ true)) n s

-- a step of this actor, from one stage to the next
pub data Moves (w : Words) (t k : ℕ) : Stage → Stage → Type 0 where
  Idles : {s after : Stage} → Leaves w t → IsFree s → IsAtRest after → Moves w t k s after
  MakesNode : {s after : Stage} (n : Ref) → Makes w t n → IsFree s → (w.link (suc t) n ≡ true → MayName w t k s (w.main (suc t) n)) → MayHave w t k n after →
      Moves w t k s after
  SwapsNode : {i a f : Ref} → w.link t i ≡ true → SwapsIn w t i a f → Moves w t k (Publishes i a f) (Decides i a f (read.Prev f))
  ReadsOn : {i : Ref} {l : ReadLine} {out : After ReadLine Ref} → ReadTurn w t i l out → Moves w t k (Reads i l) (after_read i out)
  DecidesOn : {i a f : Ref} {l : ReadLine} {out : After ReadLine Ref} → ReadTurn w t i l out → Moves w t k (Decides i a f l) (after_deciding i a f out)

-- a READ counts from its last read of the main word, or its last swap of it
abbrev pub counts_at : ReadLine → ℕ → ℕ → ℕ
counts_at read.Main t before = t
counts_at (read.Restore m p) t before = t
counts_at l t before = before

-- whence a READ of the acting one counts
abbrev pub Counts : Words → ℕ → ℕ → Stage → Type 0
Counts w t k (Reads i l) = w.from (suc t) k ≡ counts_at l t (w.from t k)
Counts w t k s = Unit {0}

-- an actor is about the same
pub record IsSame (w : Words) (t : ℕ) (j : ℕ) : Type 0 where
  pub stage : w.stage (suc t) j ≡ w.stage t j
  pub from : w.from (suc t) j ≡ w.from t j

-- a step of the run: one actor's, or nobody's; whence its READ counts is told unless it is let go of
pub data Turn (w : Words) (t : ℕ) : Type 0 where
  Acts : (k : ℕ) → Moves w t k (w.stage t k) (w.stage (suc t) k) → IsAtRest (w.stage (suc t) k) ⊎ Counts w t k (w.stage t k) → ((j : ℕ) → (j ≡ k → ⊥) → IsSame w t j) → Turn w t
  Passes : Leaves w t → ((j : ℕ) → IsSame w t j) → Turn w t

-- the words of a run of so many steps
pub record Protocol : Type 0 where
  pub words : Words
  pub last : ℕ
  pub first_decided : (m : Ref) → words.prev zero m ≡ over.None
  pub first_made : (i : Ref) → words.link zero i ≡ true → words.made zero (words.main zero i) ≡ true
  pub first_stage : (k : ℕ) → words.stage zero k ≡ Rests
  pub first_commit : (m : Ref) → words.commit zero m ≡ None
  pub turn : (t : ℕ) → t < last → Turn words t
