-- What an operation reads through a read-only handle, or below its path of another generation, was closed before the READ; so what the READ gives counts for ever.
use Rattle.std.proofs.Common.{◌≡◌, ℕ, suc, ◌<◌, ◌≤◌, true, Some, inl, inr, refl, sym, ap, ◌∙◌, subst, arith}
use Rattle.std.proofs.lemmas.Option.{none-some, same_Some}
use Rattle.proof_generations.specs.Vocabulary.{Access, Writable, ReadOnly, Ref, KeyLine, Line, Operation, Read, CleanLine, RenewLine, Bounds, WalkLine, handle_of, State, word_at, read_of, action_of}
use Rattle.proof_generations.specs.Vocabulary.{read_after, IsRun, grown, main_before, moment_after, moment_at, noted_progress, Moment, GoesOn, is_actor, progress_of, IsMoment, stage_of, Reads}
use Rattle.proof_generations.specs.Vocabulary.{counting_main, ReadsBelow}
use Rattle.proof_generations.specs.Beneath.machine_model.specs.declared.finding.KeyLine.TheVariants as key
use Rattle.proof_generations.specs.Beneath.machine_model.specs.declared.lines.Line.TheVariants as line
use Rattle.proof_generations.specs.Beneath.machine_model.specs.declared.repairs.CleanLine.TheVariants as clean
use Rattle.proof_generations.specs.Beneath.machine_model.specs.declared.repairs.RenewLine.TheVariants as renew
use Rattle.proof_generations.specs.Beneath.machine_model.specs.declared.roots.RootLine.TheVariants as root
use Rattle.proof_generations.specs.Beneath.machine_model.specs.declared.walking.WalkLine.TheVariants as walk
use Rattle.proof_commits.proofs.Course.Finals.{link_stays}
use Rattle.proof_commits.proofs.Course.Readings.{given_for_good}
use Rattle.proof_commits.proofs.Lines.Swap.{reads_stage}
use Rattle.proof_contents.proofs.Values.Runs.{counting_main-made}
use Rattle.proof_generations.specs.Falling.{ClosedBeforeRead, ReadsClosed, IsLate, GivesAt, GivenForEver, RepairsAreGiven}
use Rattle.proof_generations.proofs.Falling.KnownRoots.{words, known, protocol_of}
use Rattle.proof_generations.proofs.Falling.Opened.{closed_until}
use Rattle.proof_generations.proofs.Lines.Knows.{Knows, IsInner, KnowsRenew, KnowsClean}
use Rattle.proof_generations.proofs.Lines.Reader.{KnowsReader, ReaderKey, ReaderWalk}
use Rattle.proof_generations.proofs.Falling.ReadsGive.{late_after, reads_goes}
use Rattle.proof_generations.proofs.Falling.Runs.{gen_of, IsOwn, FitsBelow, FallsBelow, LateBelow, Ends, Shut, LateEnd, KnowsGenerations}
use Rattle.proof_generations.proofs.Falling.OwnSwaps.{knows_at}
use Rattle.proof_commits.proofs.Words.OfRuns.{link_made}
use Rattle.proof_commits.proofs.Course.OfLists.{given_read}
use Rattle.proof_generations.specs.Beneath.machine_model.proofs.Notes.{noted_going}
use Rattle.proof_generations.specs.Beneath.machine_model.proofs.Alike.{go_actor, moment_goes, not_denied, alike}
use Rattle.proof_commits.proofs.Course.Moments.{moment_noted}

-- ---- what lines say of their READs

module _ (Ends Shut : Ref → Type 0) (Late : Read → Type 0) where
  reader_key : (l : KeyLine) (r : Read) → ReaderKey Ends Shut Late l → read_of (line.Key l) ≡ Some r → Late r
  reader_key (key.Read path q) r k e = subst Late (same_Some _ _ e) k
  reader_key (key.Main path main) r k e = absurd (none-some r e)
  reader_key (key.Entry path main position) r k e = absurd (none-some r e)
  reader_key (key.Listed path main position) r k e = absurd (none-some r e)
  reader_key (key.Sibling path main position former) r k e = absurd (none-some r e)

  reader_walk : (l : WalkLine) (r : Read) → ReaderWalk Ends Shut Late l → read_of (line.Walk l) ≡ Some r → Late r
  reader_walk (walk.Read q todo pairs) r k e = subst Late (same_Some _ _ e) k.0
  reader_walk walk.Root r k e = absurd (none-some r e)
  reader_walk (walk.Main main todo pairs) r k e = absurd (none-some r e)
  reader_walk (walk.Entry todo pairs) r k e = absurd (none-some r e)

  reader_late : (l : Line) (r : Read) → KnowsReader Ends Shut Late l → read_of l ≡ Some r → Late r
  reader_late (line.Root root.Read) r k e = absurd (none-some r e)
  reader_late (line.Root (root.Completing c)) r k e = absurd k
  reader_late (line.Key l) r k e = reader_key l r k e
  reader_late (line.Walk l) r k e = reader_walk l r k e
  reader_late (line.End answer) r k e = absurd (none-some r e)
  reader_late line.Impossible r k e = absurd (none-some r e)
  reader_late (line.Build l) r k e = absurd k
  reader_late (line.Swap why s) r k e = absurd k
  reader_late (line.Renew l) r k e = absurd k
  reader_late (line.Clean l) r k e = absurd k
  reader_late (line.Climb l) r k e = absurd k
  reader_late (line.Copy l) r k e = absurd k

module _ (Own Fits Falls : Ref → Type 0) (Late : Read → Type 0) where
  renew_late : (l : RenewLine) (r : Read) → ReadsBelow (line.Renew l) → KnowsRenew Own Fits Falls Late l → read_of (line.Renew l) ≡ Some r → Late r
  renew_late (renew.Read path main done q) r b k e = subst Late (same_Some _ _ e) k.1
  renew_late (renew.Entry path main done) r b k e = absurd b
  renew_late (renew.Link path main done child) r b k e = absurd b
  renew_late (renew.Branch path main done) r b k e = absurd b

  clean_late : (l : CleanLine) (r : Read) → ReadsBelow (line.Clean l) → KnowsClean Own Fits Falls Late l → read_of (line.Clean l) ≡ Some r → Late r
  clean_late (clean.Child path main done q) r b k e = subst Late (same_Some _ _ e) k.1
  clean_late (clean.Read path q) r b k e = absurd b
  clean_late (clean.Main path main) r b k e = absurd b
  clean_late (clean.Entry path main done) r b k e = absurd b
  clean_late (clean.Tomb path main done child) r b k e = absurd b
  clean_late (clean.Contracted path main done) r b k e = absurd b

  below_late : (l : Line) (r : Read) → ReadsBelow l → Knows Own Fits Falls Late l → read_of l ≡ Some r → Late r
  below_late (line.Renew l) r b k e = renew_late l r b k e
  below_late (line.Clean l) r b k e = clean_late l r b k e
  below_late (line.Root l) r b k e = absurd b
  below_late (line.Key l) r b k e = absurd b
  below_late (line.Build l) r b k e = absurd b
  below_late (line.Swap why s) r b k e = absurd b
  below_late (line.Climb l) r b k e = absurd b
  below_late (line.Copy l) r b k e = absurd b
  below_late (line.Walk l) r b k e = absurd b
  below_late (line.End answer) r b k e = absurd b
  below_late line.Impossible r b k e = absurd b

below_inner : (l : Line) → ReadsBelow l → IsInner l
below_inner (line.Renew l) b = tt
below_inner (line.Clean l) b = tt
below_inner (line.Root l) b = absurd b
below_inner (line.Key l) b = absurd b
below_inner (line.Build l) b = absurd b
below_inner (line.Swap why s) b = absurd b
below_inner (line.Climb l) b = absurd b
below_inner (line.Copy l) b = absurd b
below_inner (line.Walk l) b = absurd b
below_inner (line.End answer) b = absurd b
below_inner line.Impossible b = absurd b

module _ {limits : Bounds} {states : ℕ → State} {last : ℕ} (run : IsRun limits states last) where
  -- ---- closed before

  closed_by : (t : ℕ) (x : Moment) (operation : Operation) (r : Read) → read_of operation.line ≡ Some r → KnowsGenerations states run.records last t x operation →
      (access : Access) → operation.access ≡ access →
      ReadsClosed operation (gen_of states last r.indirection) → IsLate run.records t x r (gen_of states last r.indirection)
  closed_by t x operation r e knows ReadOnly w closed = (reader_late (Ends states run.records last t) (Shut states run.records last t)
      (LateEnd states run.records last t x) operation.line r (knows.1 w) e).1
  closed_by t x operation r e knows Writable w (inl read_only) = let wrong : ⊥ = (let both : Writable ≡ ReadOnly = sym w ∙ read_only in cc both) in absurd wrong
  closed_by t x operation r e knows Writable w (inr (below, other)) =
      let (g, begun, known) = knows.0 w (below_inner operation.line below) in
      (below_late (IsOwn states last g) (FitsBelow states run.records last t g) (FallsBelow states run.records last t g) (LateBelow states run.records last t x g) operation.line r below known e).2
      (λ same. other (begun ∙ ap (λ x. Some x) (sym same)))

  pub closed_before_read : ClosedBeforeRead states run.records last
  closed_before_read t within actor operation r is e closed = closed_by t (moment_at (run.records t) actor) operation r e
      (knows_at run t within actor operation is) operation.access refl closed

  -- ---- what is given

  -- the main node that counts in the words is that of the trie
  counts_in_trie : (t : ℕ) → t ≤ last → (i m : Ref) → (words states run.records last).link t i ≡ true → main_before states t i ≡ m → counting_main states last t i ≡ m
  counts_in_trie t within i m link is = counting_main-made states last t i (link_made (grown states t i) link) ∙ is

  module _ (t : ℕ) (lt : t < last) (actor : ℕ) (operation : Operation) (i m : Ref) (g : GivesAt states run.records t actor operation i m) where
    goes : GoesOn (action_of (states t) operation)
    goes = reads_goes run t lt actor operation g.runs g.read (reads_stage operation.line g.read g.no_swap g.reads)

    noted : run.records (suc t) ≡ noted_progress (run.records t) (states t).steps actor (progress_of (states t) operation)
    noted = g.notes ∙ noted_going (states t) (run.records t) actor operation _ g.runs refl goes

    -- what is known of its READs behind the step
    abbrev now_read : Moment
    now_read = moment_at (run.records (suc t)) actor

    own : is_actor (states t) actor ≡ true
    own = go_actor (states t) actor (not_denied g.moves)

    own_stage : stage_of operation.line ≡ Reads g.read.indirection g.read.line
    own_stage = reads_stage operation.line g.read g.no_swap g.reads

    moment : IsMoment (words states run.records last) i m now_read.read_at now_read.moment t
    moment =
        subst (λ j. IsMoment (words states run.records last) j m now_read.read_at now_read.moment t) g.of
        (subst (λ (x : Moment). IsMoment (words states run.records last) g.read.indirection m x.read_at x.moment t) told
        (moment_noted limits states last (known run) t lt actor operation g.outcome g.moves g.runs noted g.read.indirection g.read.line own_stage m
        (given_read g.read.indirection (read_after (states t).heap operation.access (word_at (states t) (handle_of operation.call)) g.read.indirection g.read.line) m g.gives)))
      where
        told : moment_after (run.records t) (states t).steps (progress_of (states t) operation) (moment_at (run.records t) actor) ≡ now_read
        told = sym (ap (λ past. moment_at past actor) noted ∙ moment_goes (states t) (run.records t) actor operation (alike run t (omega arith)) own)

    -- the indirection is one from what the READ counts from on
    link_from : (u : ℕ) → now_read.moment < u → u ≤ last → (words states run.records last).link u i ≡ true
    link_from u after within =
        link_stays (protocol_of run) i (suc now_read.read_at) u (omega (arith, moment.from, after)) within moment.link

    -- what was closed before the READ is final
    final : ReadsClosed operation (gen_of states last i) → (u : ℕ) → now_read.moment < u → u ≤ last → counting_main states last u i ≡ m
    final closed u after within =
        let late = closed_before_read t (omega arith) actor operation g.read g.runs g.reads (subst (λ j. ReadsClosed operation (gen_of states last j)) (sym g.of) closed) in
        let (c, before, is, since) = subst (λ j. IsLate run.records t (moment_at (run.records t) actor) g.read (gen_of states last j)) g.of late in
        counts_in_trie u within i m (link_from u after within)
        (given_for_good (protocol_of run) i m now_read.read_at now_read.moment t c moment
        (closed_until run t last (omega arith) (omega arith) (gen_of states last i) c is)
        (late_after run t lt actor operation g.runs g.read own_stage noted own c before since) lt u after within)

    once : (now_read.moment ≤ t) × (counting_main states last (suc now_read.moment) i ≡ m)
    once = (
      moment.past,
      counts_in_trie (suc now_read.moment) (omega (arith, moment.past)) i m
          (link_from (suc now_read.moment) (omega arith) (omega (arith, moment.past))) moment.is,
    )

  pub given_for_ever : GivenForEver states run.records last
  given_for_ever t lt actor operation i m g closed u after within = final t lt actor operation i m g closed u after within

  pub repairs_are_given : RepairsAreGiven states run.records last
  repairs_are_given t lt actor operation h i m g begun below =
      let (past, is) = once t lt actor operation i m g in (
        (suc (now_read t lt actor operation i m g).moment, omega (arith, past), is),
        λ other. final t lt actor operation i m g (inr (below, λ same. other (same_Some _ _ (sym same ∙ begun)))) last (omega (arith, past)) (omega arith),
      )
