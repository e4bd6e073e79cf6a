-- Indirections that an operation has made, and that nobody else can come to read: none names them but what the operation made of them.
use Rattle.std.proofs.Common.{◌≡◌, ℕ, suc, ◌<◌, ◌≤◌, ◌⊎◌, Bool, true, false, Contains, Option, Some, None, is_some, inl, inr, refl, sym, ◌∙◌, ap, subst, arith}
use Rattle.std.proofs.lemmas.Bool.{true≢false}
use Rattle.proof_shape.specs.Vocabulary.{Ref, Indirection, entries_of, no_ref, rung, Root, RootWord, Plain, Offer, Bounds, State, root_at, word_at, word_of, root_of, grown, node_under, prev_word}
use Rattle.proof_shape.specs.Vocabulary.{IsRun, WordLevel, Words, Given, Protocol, words_of, is_made}
use Rattle.proof_shape.specs.Beneath.slot_arena.specs.declared.nodes.Prev.TheVariants as over
use Rattle.proof_shape.specs.Beneath.proof_commits.proofs.Words.Stood.{Stood, stood_later}
use Rattle.proof_shape.specs.Beneath.proof_commits.proofs.Known.Sounds.{sound_at}
use Rattle.proof_shape.specs.Beneath.proof_commits.proofs.Course.Finals.{from_time, none_final}
use Rattle.proof_shape.specs.Beneath.proof_commits.proofs.Words.Along.{protocol}
use Rattle.proof_shape.specs.Beneath.proof_contents.proofs.Values.Runs.{made_next}
use Rattle.proof_shape.specs.Beneath.proof_memory.proofs.Heap.NoRef.{nothing_stands}
use Rattle.proof_shape.specs.Lines.Knowing.{first_main}
use Rattle.proof_shape.proofs.Runs.Levels.{level, levels_along}
use Rattle.proof_shape.proofs.Runs.Takers.{taker}
use Rattle.proof_shape.proofs.Commits.Standing.{HowStands, stood, given, private, how_stands}
use Rattle.proof_shape.proofs.Opened.Mains.{IsOpen, rooted, named, given_is_open}
use Rattle.proof_shape.specs.Beneath.proof_commits.proofs.Known.Acts.{known_run}

module _ {limits : Bounds} {states : ℕ → State} {last : ℕ} (run : IsRun limits states last) where
  abbrev p : Protocol
  p = protocol limits states last (known_run run)

  abbrev w : Words
  w = words_of states run.records last (known_run run).closing

  -- the main node has the entry
  abbrev pub Names : Ref → Ref → Type 0
  Names m r = Contains (entries_of (node_under states last m)) r

  -- ---- what is said of such an indirection

  -- it has the operation's generation, and isn't a root's level
  pub record IsFresh (t start : ℕ) (j : Ref) : Type 0 where
    pub word : Ref
    pub link : node_under states last j ≡ Indirection start word
    pub deep : 2 ≤ level run j
    pub made : is_made states t j ≡ true

  -- the actor made it
  pub record IsMaker (t k : ℕ) (j : Ref) : Type 0 where
    pub at : ℕ
    pub past : at < t
    pub before : is_made states at j ≡ false
    pub after : is_made states (suc at) j ≡ true
    pub takes : taker run at ≡ k

  -- no main node names it yet
  pub record IsHeld (t k start : ℕ) (j : Ref) : Type 0 where
    pub fresh : IsFresh t start j
    pub maker : IsMaker t k j
    pub unnamed : (m : Ref) → is_made states t m ≡ true → Names m j → ⊥

  -- this main node alone names it
  pub record IsNamed (t start : ℕ) (j n : Ref) : Type 0 where
    pub fresh : IsFresh t start j
    pub names : Names n j
    pub made : is_made states t n ≡ true
    pub only : (m : Ref) → is_made states t m ≡ true → Names m j → m ≡ n

  -- the main node stood in the word of this indirection alone
  pub record StandsIn (t : ℕ) (n j : Ref) : Type 0 where
    pub stood_there : Stood (words_of states run.records last (known_run run).closing) t j n
    pub only : (i : Ref) → Stood (words_of states run.records last (known_run run).closing) t i n → i ≡ j

  -- a chain of rungs down to the pair
  pub data IsChain (t start : ℕ) : Ref → Type 0 where
    ends : (j : Ref) → ((hash depth below : ℕ) → node_under states last (first_main states last j) ≡ rung hash depth below → ⊥) → IsChain t start j
    goes_on : (j below : Ref) (hash depth : ℕ) → node_under states last (first_main states last j) ≡ rung hash depth below → IsNamed t start below (first_main states last j) →
        StandsIn t (first_main states last j) j → IsChain t start below → IsChain t start j

  -- ---- such an indirection can't be read

  -- a root has the level of a root
  root_level : (u : ℕ) → u ≤ last → (handle : ℕ) (j : Ref) → root_of (word_at (states u) handle) ≡ j → (level run j ≡ 1) ⊎ (j ≡ no_ref)
  root_level u h handle j is = by_root (root_at (states u) handle) refl is
    where
      by_word : (word : RootWord) → WordLevel (level run) word → root_of word ≡ j → level run j ≡ 1
      by_word (Plain r) e is = ap (level run) (sym is) ∙ e
      by_word (Offer offer) e is = ap (level run) (sym is) ∙ e.0

      by_root : (o : Option Root) → root_at (states u) handle ≡ o → root_of (word_of o) ≡ j → (level run j ≡ 1) ⊎ (j ≡ no_ref)
      by_root None e is = inr (sym is)
      by_root (Some root) e is = inl (by_word root.word ((levels_along run u h).words handle root e) is)

  not_rooted : (t start : ℕ) (j : Ref) → t ≤ last → IsFresh t start j → (u handle : ℕ) → u ≤ t → root_of (word_at (states u) handle) ≡ j → ⊥
  not_rooted t start j h fresh u handle le is = by_level (root_level u (omega arith) handle j is)
    where
      too_deep : 2 ≤ level run j → level run j ≡ 1 → ⊥
      too_deep a b = omega arith

      by_level : (level run j ≡ 1) ⊎ (j ≡ no_ref) → ⊥
      by_level (inl one) = too_deep fresh.deep one
      by_level (inr nothing) = true≢false (sym fresh.made ∙ ap is_some (ap (grown states t) nothing ∙ nothing_stands run t h))

  -- what was given was made
  given_made : (t : ℕ) → t ≤ last → (k : ℕ) (i m : Ref) → Given w t k i m → is_made states t m ≡ true
  given_made t h k i m g = let s = sound_at p t h in s.words.made i m (s.given k i m g).stood

  pub held_closed : (t k start : ℕ) (j : Ref) → t ≤ last → IsHeld t k start j → IsOpen run t j → ⊥
  held_closed t k start j h held (rooted u handle le is) = not_rooted t start j h held.fresh u handle le is
  held_closed t k start j h held (named q i m g names) = held.unnamed m (given_made t h q i m g) names

  -- no READ gave the node
  abbrev pub NotGiven : ℕ → Ref → Type 0
  NotGiven t n = (k : ℕ) (i : Ref) → Given (words_of states run.records last (known_run run).closing) t k i n → ⊥

  pub named_closed : (t start : ℕ) (j n : Ref) → t ≤ last → IsNamed t start j n → NotGiven t n → IsOpen run t j → ⊥
  named_closed t start j n h it not (rooted u handle le is) = not_rooted t start j h it.fresh u handle le is
  named_closed t start j n h it not (named q i m g names) = not q i (subst (λ x. Given w t q i x) (it.only m (given_made t h q i m g) names) g)

  -- what stands in such an indirection alone isn't given
  pub stands_not_given : (t : ℕ) (n j : Ref) → t ≤ last → StandsIn t n j → (IsOpen run t j → ⊥) → NotGiven t n
  stands_not_given t n j h stands closed k i g =
      let same : i ≡ j = stands.only i ((sound_at p t h).given k i n g).stood in
      closed (subst (IsOpen run t) same (given_is_open run t h k i n g))

  -- a node isn't decided in any word
  abbrev pub IsUncommitted : ℕ → Ref → Type 0
  IsUncommitted t n = (i : Ref) → Stood (words_of states run.records last (known_run run).closing) t i n → prev_word states t n ≡ over.None → ⊥

  pub uncommitted_not_given : (t : ℕ) (n : Ref) → t ≤ last → IsUncommitted t n → NotGiven t n
  uncommitted_not_given t n h un k i g = let d = (sound_at p t h).given k i n g in un i d.stood d.none

  pub uncommitted_before : (t : ℕ) (n : Ref) → t < last → IsUncommitted (suc t) n → IsUncommitted t n
  uncommitted_before t n h un i s none = un i (stood_later s) (none_final p i n t (suc t) (omega arith) h s none)

  -- ---- one step later

  -- what a new node names may be read, or is held by who takes the step
  abbrev pub NewNames : ℕ → Type 0
  NewNames t =
      (m r : Ref) → is_made states t m ≡ false → is_made states (suc t) m ≡ true → Names m r → (g : ℕ) (x : Ref) → node_under states last r ≡ Indirection g x →
      IsOpen run t r ⊎ ((start : ℕ) × IsHeld t (taker run t) start r)

  fresh_later : (t start : ℕ) (j : Ref) → IsFresh t start j → IsFresh (suc t) start j
  fresh_later t start j f = record { word = f.word; link = f.link; deep = f.deep; made = made_next states t j f.made }

  maker_later : (t k : ℕ) (j : Ref) → IsMaker t k j → IsMaker (suc t) k j
  maker_later t k j m = record { at = m.at; past = omega (arith, m.past); before = m.before; after = m.after; takes = m.takes }

  -- where no new node names it
  pub held_by : (t k start : ℕ) (j : Ref) → IsHeld t k start j → ((m : Ref) → is_made states t m ≡ false → is_made states (suc t) m ≡ true → Names m j → ⊥) → IsHeld (suc t) k start j
  held_by t k start j held new = record { fresh = fresh_later t start j held.fresh; maker = maker_later t k j held.maker; unnamed = λ m made names. by_made m made names (is_made states t m) refl }
    where
      by_made : (m : Ref) → is_made states (suc t) m ≡ true → Names m j → (b : Bool) → is_made states t m ≡ b → ⊥
      by_made m made names true e = held.unnamed m e names
      by_made m made names false e = new m e made names

  -- one made it
  one_maker : (t k l : ℕ) (j : Ref) → IsMaker t k j → IsMaker t l j → k ≡ l
  one_maker t k l j a b = sym a.takes ∙ ap (taker run) (same_time a.at b.at a.before a.after b.before b.after) ∙ b.takes
    where
      made_since : (u v : ℕ) → u ≤ v → is_made states u j ≡ true → is_made states v j ≡ true
      made_since u v le e = from_time (λ x. is_made states x j ≡ true) u v e (λ x low below before. made_next states x j before) v le (omega arith)

      order : (u v : ℕ) → (u ≡ v) ⊎ ((u < v) ⊎ (v < u))
      order u v = grind arith

      same_time : (u v : ℕ) → is_made states u j ≡ false → is_made states (suc u) j ≡ true → is_made states v j ≡ false → is_made states (suc v) j ≡ true → u ≡ v
      same_time u v bu au bv av = by_order (order u v)
        where
          by_order : (u ≡ v) ⊎ ((u < v) ⊎ (v < u)) → u ≡ v
          by_order (inl same) = same
          by_order (inr (inl lt)) = absurd (true≢false (sym (made_since (suc u) v lt au) ∙ bv))
          by_order (inr (inr lt)) = absurd (true≢false (sym (made_since (suc v) u lt av) ∙ bu))

  -- others leave it
  pub held_still : (t k start : ℕ) (j : Ref) → t ≤ last → NewNames t → (taker run t ≡ k → ⊥) → IsHeld t k start j → IsHeld (suc t) k start j
  held_still t k start j h new apart held = held_by t k start j held (λ m before after names. by_case (new m j before after names start held.fresh.word held.fresh.link))
    where
      by_case : IsOpen run t j ⊎ ((other : ℕ) × IsHeld t (taker run t) other j) → ⊥
      by_case (inl may) = held_closed t k start j h held may
      by_case (inr (other, its)) = apart (one_maker t (taker run t) k j its.maker held.maker)

  -- what is named stays named by this node alone
  pub named_still : (t start : ℕ) (j n : Ref) → NewNames t → (IsOpen run t j → ⊥) → IsNamed t start j n → IsNamed (suc t) start j n
  named_still t start j n new closed it = record {
    fresh = fresh_later t start j it.fresh;
    names = it.names;
    made = made_next states t n it.made;
    only = λ m made names. by_made m made names (is_made states t m) refl;
  }
    where
      by_case : (m : Ref) → IsOpen run t j ⊎ ((other : ℕ) × IsHeld t (taker run t) other j) → m ≡ n
      by_case m (inl may) = absurd (closed may)
      by_case m (inr (other, its)) = absurd (its.unnamed n it.made it.names)

      by_made : (m : Ref) → is_made states (suc t) m ≡ true → Names m j → (b : Bool) → is_made states t m ≡ b → m ≡ n
      by_made m made names true e = it.only m e names
      by_made m made names false e = by_case m (new m j e made names start it.fresh.word it.fresh.link)

  pub stands_still : (t : ℕ) (n j : Ref) → t < last → (IsOpen run t j → ⊥) → StandsIn t n j → StandsIn (suc t) n j
  stands_still t n j h closed s = record { stood_there = stood_later s.stood_there; only = λ i now. by_how i (how_stands p t h i n now) }
    where
      by_how : (i : Ref) → HowStands p.words t i n → i ≡ j
      by_how i (stood before) = s.only i before
      by_how i (given k q g) = absurd (stands_not_given t n j (omega arith) s closed k q g)
      by_how i (private x) = absurd (x.apart j s.stood_there)

  pub chain_still : (t start : ℕ) → t < last → NewNames t → (j : Ref) → (IsOpen run t j → ⊥) → IsChain t start j → IsChain (suc t) start j
  chain_still t start h new j closed (ends i not) = ends i not
  chain_still t start h new j closed (goes_on i below hash depth is it stands rest) =
      let below_closed = named_closed t start below (first_main states last i) (omega arith) it (stands_not_given t (first_main states last i) i (omega arith) stands closed) in
      goes_on i below hash depth is (named_still t start below (first_main states last i) new below_closed it) (stands_still t (first_main states last i) i h closed stands)
      (chain_still t start h new below below_closed rest)
