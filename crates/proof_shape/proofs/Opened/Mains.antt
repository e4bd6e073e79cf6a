-- What is read is a root, or an entry of a main node that a READ gave. So an indirection that isn't such keeps its main node.
use Rattle.std.proofs.Common.{◌≡◌, ℕ, suc, ◌<◌, ◌≤◌, ◌⊎◌, length, Contains, Option, Some, None, inl, inr, refl, sym, ◌∙◌, subst, arith}
use Rattle.std.proofs.lemmas.Bool.{cases_eq}
use Rattle.std.proofs.lemmas.List.Elements.{Contains-get_or}
use Rattle.proof_shape.specs.Vocabulary.{Writable, Call, Ref, Node, Indirection, Branch, Single, Tomb, List as Listed, node_at, entry_at, entries_of, no_ref, Line, Operation, ReadLine, SwapLine}
use Rattle.proof_shape.specs.Vocabulary.{CompleteLine, Descriptor, Bounds, handle_of, State, operation_of, word_at, root_of, first_line, operation_after, node_under, Step, turns, noted_turn, IsRun}
use Rattle.proof_shape.specs.Vocabulary.{Turn, IsInUse, Words, Stage, Reads, Given, Protocol, stage_of, stage_of_actor, stage_of_complete, stage_of_swap, words_of, counting_main}
use Rattle.proof_shape.specs.Beneath.machine_model.specs.declared.copying.CopyLine.TheVariants as copy
use Rattle.proof_shape.specs.Beneath.machine_model.specs.declared.finding.KeyLine.TheVariants as key
use Rattle.proof_shape.specs.Beneath.machine_model.specs.declared.building.BuildLine.TheVariants as build
use Rattle.proof_shape.specs.Beneath.machine_model.specs.declared.lines.Line.TheVariants as line
use Rattle.proof_shape.specs.Beneath.machine_model.specs.declared.reading.SwapLine.TheVariants as swap
use Rattle.proof_shape.specs.Beneath.machine_model.specs.declared.repairs.CleanLine.TheVariants as clean
use Rattle.proof_shape.specs.Beneath.machine_model.specs.declared.repairs.ClimbLine.TheVariants as climb
use Rattle.proof_shape.specs.Beneath.machine_model.specs.declared.repairs.RenewLine.TheVariants as renew
use Rattle.proof_shape.specs.Beneath.machine_model.specs.declared.roots.CompleteLine.TheVariants as complete
use Rattle.proof_shape.specs.Beneath.machine_model.specs.declared.roots.RootLine.TheVariants as root
use Rattle.proof_shape.specs.Beneath.machine_model.specs.declared.walking.WalkLine.TheVariants as walk
use Rattle.proof_shape.specs.Beneath.proof_memory.proofs.Safety.AtTimes.{line_at}
use Rattle.proof_shape.specs.Beneath.proof_commits.proofs.Lines.Stages.{Remembers}
use Rattle.proof_shape.specs.Beneath.proof_commits.proofs.Known.Owners.{given_later}
use Rattle.proof_shape.specs.Beneath.proof_commits.proofs.Words.Along.{protocol, remembers_at}
use Rattle.proof_shape.specs.Lines.Knowing.{OfEachAt}
use Rattle.proof_shape.specs.Lines.Commits.{MainStep, stays, changes, made_with}
use Rattle.proof_shape.proofs.Runs.EachAt.{GoesAt, each_at}
use Rattle.proof_shape.proofs.Runs.Nodes.{node_known}
use Rattle.proof_shape.proofs.Opened.Lines.{Opens}
use Rattle.proof_shape.proofs.Opened.Later.{opens_more}
use Rattle.proof_shape.proofs.Opened.Steps.{line_opens}
use Rattle.proof_shape.proofs.Commits.At.{commits_at}
use Rattle.proof_shape.specs.Beneath.proof_commits.proofs.Known.Acts.{known_run}

-- ---- who reads an indirection may

module _ (O : Ref → Type 0) where
  complete_reads : (offer : Descriptor) (l : CompleteLine) (i : Ref) (x : ReadLine) → stage_of_complete offer l ≡ Reads i x → O offer.root → O i
  complete_reads offer (complete.Reading l) i x e o = let same : offer.root ≡ i = cc in subst O same o
  complete_reads offer (complete.Swap main) i x e o = let wrong : ⊥ = cc in absurd wrong

  at_read : (j : Ref) (y : ReadLine) (i : Ref) (x : ReadLine) → Reads j y ≡ Reads i x → O j → O i
  at_read j y i x e o = let same : j ≡ i = cc in subst O same o

  -- the stage is that of a READ
  abbrev IsRead : Stage → Type 0
  IsRead (Reads i x) = Unit {0}
  IsRead s = ⊥

  not_read : (s : Stage) (i : Ref) (x : ReadLine) → (IsRead s → ⊥) → s ≡ Reads i x → ⊥
  not_read s i x no_read e = no_read (subst IsRead (sym e) tt)

  pub reads_opens : (l : Line) (i : Ref) (x : ReadLine) → stage_of l ≡ Reads i x → Opens O l → O i
  reads_opens (line.Root (root.Completing c)) i x e o = complete_reads c.offer c.line i x e o
  reads_opens (line.Root root.Read) i x e o = absurd (not_read _ i x (λ r. r) e)
  reads_opens (line.Key (key.Read path r)) i x e o = at_read r.indirection r.line i x e o.1
  reads_opens (line.Key (key.Main path main)) i x e o = absurd (not_read _ i x (λ r. r) e)
  reads_opens (line.Key (key.Entry path main position)) i x e o = absurd (not_read _ i x (λ r. r) e)
  reads_opens (line.Key (key.Listed path main position)) i x e o = absurd (not_read _ i x (λ r. r) e)
  reads_opens (line.Key (key.Sibling path main position former)) i x e o = absurd (not_read _ i x (λ r. r) e)
  reads_opens (line.Build (build.Link path main position below depth)) i x e o = absurd (not_read _ i x (λ r. r) e)
  reads_opens (line.Build (build.Single path main s former)) i x e o = absurd (not_read _ i x (λ r. r) e)
  reads_opens (line.Build (build.Pair path main position single depth)) i x e o = absurd (not_read _ i x (λ r. r) e)
  reads_opens (line.Build (build.Rung path main position below depth)) i x e o = absurd (not_read _ i x (λ r. r) e)
  reads_opens (line.Build (build.Main path main c former)) i x e o = absurd (not_read _ i x (λ r. r) e)
  reads_opens (line.Swap why s) i x e o = absurd (swap_not_read s.indirection s.replaced s.fresh s.line e)
    where
      swap_not_read : (j a f : Ref) (l : SwapLine) → stage_of_swap j a f l ≡ Reads i x → ⊥
      swap_not_read j a f swap.Publish e = not_read _ i x (λ r. r) e
      swap_not_read j a f (swap.Deciding l) e = not_read _ i x (λ r. r) e
      swap_not_read j a f swap.Check e = not_read _ i x (λ r. r) e
  reads_opens (line.Renew (renew.Read path main done r)) i x e o = at_read r.indirection r.line i x e o.1
  reads_opens (line.Renew (renew.Entry path main done)) i x e o = absurd (not_read _ i x (λ r. r) e)
  reads_opens (line.Renew (renew.Link path main done child)) i x e o = absurd (not_read _ i x (λ r. r) e)
  reads_opens (line.Renew (renew.Branch path main done)) i x e o = absurd (not_read _ i x (λ r. r) e)
  reads_opens (line.Clean (clean.Read path r)) i x e o = at_read r.indirection r.line i x e o.1
  reads_opens (line.Clean (clean.Child path main done r)) i x e o = at_read r.indirection r.line i x e o.1
  reads_opens (line.Clean (clean.Main path main)) i x e o = absurd (not_read _ i x (λ r. r) e)
  reads_opens (line.Clean (clean.Entry path main done)) i x e o = absurd (not_read _ i x (λ r. r) e)
  reads_opens (line.Clean (clean.Tomb path main done child)) i x e o = absurd (not_read _ i x (λ r. r) e)
  reads_opens (line.Clean (clean.Contracted path main done)) i x e o = absurd (not_read _ i x (λ r. r) e)
  reads_opens (line.Climb (climb.Read c r)) i x e o = at_read r.indirection r.line i x e o.1
  reads_opens (line.Climb (climb.Root c (root.Completing d))) i x e o = complete_reads d.offer d.line i x e o.1
  reads_opens (line.Climb (climb.Root c root.Read)) i x e o = absurd (not_read _ i x (λ r. r) e)
  reads_opens (line.Climb (climb.Main c main)) i x e o = absurd (not_read _ i x (λ r. r) e)
  reads_opens (line.Climb (climb.Contracted c main)) i x e o = absurd (not_read _ i x (λ r. r) e)
  reads_opens (line.Copy (copy.Read at r)) i x e o = at_read r.indirection r.line i x e o.1
  reads_opens (line.Copy (copy.Complete c)) i x e o = complete_reads c.offer c.line i x e o
  reads_opens (line.Copy (copy.Cleared at main branch)) i x e o = absurd (not_read _ i x (λ r. r) e)
  reads_opens (line.Copy (copy.Successor at main)) i x e o = absurd (not_read _ i x (λ r. r) e)
  reads_opens (line.Copy (copy.Second at main successor)) i x e o = absurd (not_read _ i x (λ r. r) e)
  reads_opens (line.Copy (copy.Empty at main)) i x e o = absurd (not_read _ i x (λ r. r) e)
  reads_opens (line.Copy (copy.Offer offer)) i x e o = absurd (not_read _ i x (λ r. r) e)
  reads_opens (line.Walk (walk.Read r todo pairs)) i x e o = at_read r.indirection r.line i x e o.1
  reads_opens (line.Walk walk.Root) i x e o = absurd (not_read _ i x (λ r. r) e)
  reads_opens (line.Walk (walk.Main main todo pairs)) i x e o = absurd (not_read _ i x (λ r. r) e)
  reads_opens (line.Walk (walk.Entry todo pairs)) i x e o = absurd (not_read _ i x (λ r. r) e)
  reads_opens (line.End answer) i x e o = absurd (not_read _ i x (λ r. r) e)
  reads_opens line.Impossible i x e o = absurd (not_read _ i x (λ r. r) e)

-- ---- what may be read before step t

module _ {limits : Bounds} {states : ℕ → State} {last : ℕ} (run : IsRun limits states last) where
  abbrev w : Words
  w = words_of states run.records last (known_run run).closing

  abbrev p : Protocol
  p = protocol limits states last (known_run run)

  -- a root that stood by then, or an entry of a main node that was given by then
  pub data IsOpen (t : ℕ) (r : Ref) : Type 0 where
    rooted : (u handle : ℕ) → u ≤ t → root_of (word_at (states u) handle) ≡ r → IsOpen t r
    named : (k : ℕ) (i m : Ref) → Given (words_of states run.records last (known_run run).closing) t k i m → Contains (entries_of (node_under states last m)) r → IsOpen t r

  given_still : (t u : ℕ) → t ≤ u → (k : ℕ) (i m : Ref) → Given w t k i m → Given w u k i m
  given_still t u le k i m g = record { at = g.at; past = omega (arith, g.past); line = g.line; stage = g.stage; gives = g.gives }

  pub open_still : (t u : ℕ) → t ≤ u → (r : Ref) → IsOpen t r → IsOpen u r
  open_still t u le r (rooted v handle past is) = rooted v handle (omega arith) is
  open_still t u le r (named k i m g names) = named k i m (given_still t u le k i m g) names

  first_opens : (O : Ref → Type 0) (call : Call) → Opens O (first_line call)
  first_opens O call = grind arith

  goes_opens : (t : ℕ) → t < last → (actor : ℕ) (operation : Operation) → GoesAt states run.records t actor operation → Opens (IsOpen t) operation.line →
      Opens (IsOpen (suc t)) (operation_after (states t) operation).line
  goes_opens t h actor operation go o =
      line_opens limits.hash (states t) operation (IsOpen (suc t)) (λ i m. Given w t actor i m)
      (λ i m given used position within. named actor i m (given_later given) (named_by m used position within))
      (rooted t (handle_of operation.call) (omega arith) refl) operation.line (line_at run t (omega arith) actor operation go.runs)
      (remembers_at limits states last (known_run run) t (omega arith) actor operation go.runs)
      (opens_more (IsOpen t) (IsOpen (suc t)) (open_still t (suc t) (omega arith)) operation.line o)
    where
      no_entries : (n : Node) (g : ℕ) (x : Ref) → n ≡ Indirection g x → (position : ℕ) → position < length (entries_of n) → ⊥
      no_entries n g x e position within = absurd (let none : position < length (entries_of (Indirection g x)) = subst (λ n. position < length (entries_of n)) e within in omega (arith, none))

      entries_known : (m : Ref) → IsInUse (states t).heap m → (n : Node) → node_at (states t).heap m ≡ n → (position : ℕ) → position < length (entries_of n) → node_under states last m ≡ n
      entries_known m used (Indirection g x) e position within = absurd (no_entries (Indirection g x) g x refl position within)
      entries_known m used (Branch b es) e position within = node_known run t (omega arith) m used (λ g x bad. let wrong : Branch b es ≡ Indirection g x = sym e ∙ bad in cc) ∙ e
      entries_known m used (Single k v) e position within = node_known run t (omega arith) m used (λ g x bad. let wrong : Single k v ≡ Indirection g x = sym e ∙ bad in cc) ∙ e
      entries_known m used (Tomb s) e position within = node_known run t (omega arith) m used (λ g x bad. let wrong : Tomb s ≡ Indirection g x = sym e ∙ bad in cc) ∙ e
      entries_known m used (Listed ss) e position within = node_known run t (omega arith) m used (λ g x bad. let wrong : Listed ss ≡ Indirection g x = sym e ∙ bad in cc) ∙ e

      named_by : (m : Ref) → IsInUse (states t).heap m → (position : ℕ) → position < length (entries_of (node_at (states t).heap m)) →
          Contains (entries_of (node_under states last m)) (entry_at (states t).heap m position)
      named_by m used position within =
          subst (λ n. Contains (entries_of n) (entry_at (states t).heap m position)) (sym (entries_known m used (node_at (states t).heap m) refl position within))
          (Contains-get_or (entries_of (node_at (states t).heap m)) position no_ref within)

  pub opens_at : OfEachAt states last (λ t actor operation. Opens (IsOpen t) operation.line)
  opens_at =
      each_at (λ t actor operation. Opens (IsOpen t) operation.line) (λ t actor operation o. o) run (λ t h actor call number d. first_opens (IsOpen (suc t)) call) goes_opens
      (λ t h actor operation answer is may o. tt)
      (λ t h actor operation is o. opens_more (IsOpen t) (IsOpen (suc t)) (open_still t (suc t) (omega arith)) operation.line o)

  -- ---- what is read may be

  pub read_is_open : (t : ℕ) → t ≤ last → (k : ℕ) (i : Ref) (x : ReadLine) → p.words.stage t k ≡ Reads i x → IsOpen t i
  read_is_open t h k i x stage = by_actor (operation_of (states t) k) refl stage
    where
      by_actor : (o : Option Operation) → operation_of (states t) k ≡ o → stage_of_actor o ≡ Reads i x → IsOpen t i
      by_actor None e s = let wrong : ⊥ = cc in absurd wrong
      by_actor (Some operation) e s = reads_opens (IsOpen t) operation.line i x s (opens_at t h k operation e)

  pub given_is_open : (t : ℕ) → t ≤ last → (k : ℕ) (i m : Ref) → Given (words_of states run.records last (known_run run).closing) t k i m → IsOpen t i
  given_is_open t h k i m given = open_still given.at t (omega (arith, given.past)) i (read_is_open given.at (omega (arith, given.past)) k i given.line given.stage)

  -- ---- so what may not be read keeps its main node

  pub closed_keeps : (t : ℕ) → t < last → (j : Ref) → (IsOpen t j → ⊥) → counting_main states last (suc t) j ≡ counting_main states last t j
  closed_keeps t h j closed = by_turn (run.turn t h) (run.recorded t h)
    where
      by_step : (s : Step) → MainStep limits states run.records last (made_with states last) t s → counting_main states last (suc t) j ≡ counting_main states last t j
      by_step s (stays none all) = all j
      by_step s (changes own) = by_place (cases_eq j own.indirection)
        where
          by_place : (j ≡ own.indirection) ⊎ (j ≡ own.indirection → ⊥) → counting_main states last (suc t) j ≡ counting_main states last t j
          by_place (inl same) =
              let kept = subst (λ l. Remembers (λ i m. Given w t own.actor i m) (own.owner.access ≡ Writable) l) own.swaps
              (remembers_at limits states last (known_run run) t (omega arith) own.actor own.owner own.runs) in
              absurd (closed (subst (IsOpen t) (sym same) (given_is_open t (omega arith) own.actor own.indirection own.replaced kept.1)))
          by_place (inr apart) = own.others j apart

      by_turn : (turn : Turn (states t) (states (suc t))) → run.records (suc t) ≡ noted_turn turn (run.records t) → counting_main states last (suc t) j ≡ counting_main states last t j
      by_turn (turns s o m) e = by_step s (commits_at run t h s o m e)
