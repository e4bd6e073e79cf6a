-- What a READ gave, and what a SWAP was seen to commit, was once the main node; what a repair's READ gave of an older generation is it for good.
use Rattle.std.proofs.Common.{◌≡◌, ℕ, suc, ◌<◌, ◌≤◌, true, refl, sym, ◌∙◌, ap, subst, arith}
use Rattle.std.proofs.lemmas.Bool.{true≢false}
use Rattle.proof_shape.specs.Vocabulary.{Ref, Node, Indirection, Branch, Single, Tomb, List as Listed, logical, ReadLine, Bounds, State, grown, node_under, prev_word, main_before, IsRun, Decides}
use Rattle.proof_shape.specs.Vocabulary.{Line, Checks, Given, CommitsNode, counts_at, Protocol, later_of, words_of, counting_main}
use Rattle.proof_shape.specs.Beneath.proof_commits.specs.Laws.{IsNoSwap}
use Rattle.proof_shape.specs.Beneath.slot_arena.specs.declared.nodes.Prev.TheVariants as over
use Rattle.proof_shape.specs.Beneath.machine_model.specs.declared.lines.Line.TheVariants as line
use Rattle.proof_shape.specs.Beneath.proof_commits.proofs.Words.Stood.{Stood}
use Rattle.proof_shape.specs.Beneath.proof_commits.proofs.Known.Owners.{Staged}
use Rattle.proof_shape.specs.Beneath.proof_commits.proofs.Known.Sounds.{sound_at}
use Rattle.proof_shape.specs.Beneath.proof_commits.proofs.Course.Finals.{link_stays, pending_stands}
use Rattle.proof_shape.specs.Beneath.proof_commits.proofs.Course.Swaps.{succeeded}
use Rattle.proof_shape.specs.Beneath.proof_commits.proofs.Course.Readings.{gives_moment}
use Rattle.proof_shape.specs.Beneath.proof_commits.proofs.Words.OfRuns.{link_made}
use Rattle.proof_shape.specs.Beneath.proof_commits.proofs.Words.Along.{protocol}
use Rattle.proof_shape.specs.Beneath.proof_contents.specs.Lines.Repairs.{ReadsBelow}
use Rattle.proof_shape.specs.Beneath.proof_contents.proofs.Values.Runs.{counting_main-made}
use Rattle.proof_generations.specs.Falling.{WasGiven}
use Rattle.proof_generations.proofs.Falling.Final.{repairs_are_given}
use Rattle.proof_shape.specs.Lines.Given.{GaveBelow, Was}
use Rattle.proof_shape.specs.Beneath.proof_memory.specs.Wants.{is_indirection}
use Rattle.proof_shape.specs.Beneath.proof_commits.proofs.Known.Acts.{known_run}

pub was_later : (states : ℕ → State) (last t : ℕ) (i m : Ref) → Was states last t i m → Was states last (suc t) i m
was_later states last t i m (u, le, is) = (u, omega (arith, le), is)

below_no_swap : (l : Line) → ReadsBelow l → IsNoSwap l
below_no_swap (line.Swap why s) b = absurd b
below_no_swap (line.Root l) b = tt
below_no_swap (line.Key l) b = tt
below_no_swap (line.Build l) b = tt
below_no_swap (line.Climb l) b = tt
below_no_swap (line.Copy l) b = tt
below_no_swap (line.Walk l) b = tt
below_no_swap (line.End answer) b = tt
below_no_swap (line.Renew l) b = tt
below_no_swap (line.Clean l) b = tt
below_no_swap line.Impossible b = tt

module _ {limits : Bounds} {states : ℕ → State} {last : ℕ} (run : IsRun limits states last) where
  abbrev p : Protocol
  p = protocol limits states last (known_run run)

  -- the main nodes of indirections that are made
  pub main_linked : (t : ℕ) (i : Ref) → is_indirection (node_under states t i) ≡ true → counting_main states last t i ≡ main_before states t i
  main_linked t i link = counting_main-made states last t i (link_made (grown states t i) link)

  -- an indirection is one in the end
  pub link_in_end : (t : ℕ) (i : Ref) → t ≤ last → is_indirection (node_under states t i) ≡ true → (g : ℕ) × (w : Ref) × (node_under states last i ≡ Indirection g w)
  link_in_end t i h link = by_node (node_under states last i) refl (link_stays p i t last h (omega arith) link)
    where
      by_node : (n : Node) → node_under states last i ≡ n → is_indirection n ≡ true → (g : ℕ) × (w : Ref) × (node_under states last i ≡ Indirection g w)
      by_node (Indirection g w) e l = (g, w, e)
      by_node (Branch b es) e l = absurd (true≢false (sym l))
      by_node (Single k v) e l = absurd (true≢false (sym l))
      by_node (Tomb s) e l = absurd (true≢false (sym l))
      by_node (Listed ss) e l = absurd (true≢false (sym l))

  pub given_link : (t : ℕ) → t ≤ last → (k : ℕ) (i m : Ref) → Given (words_of states run.records last (known_run run).closing) t k i m →
      (g : ℕ) × (w : Ref) × (node_under states last i ≡ Indirection g w)
  given_link t h k i m given =
      let stood = ((sound_at p t h).given k i m given).stood in
      link_in_end stood.at i (omega (arith, stood.past)) stood.link

  -- what a READ gave
  pub was_given : (t : ℕ) → t ≤ last → (k : ℕ) (i m : Ref) → Given (words_of states run.records last (known_run run).closing) t k i m → Was states last t i m
  was_given t h k i m given =
      let moment = gives_moment p given.at (omega (arith, given.past)) k i m given.line given.stage given.gives in
      let r = counts_at given.line given.at (p.words.from given.at k) in
      let mu = later_of r (p.words.commit (suc given.at) m) in
      let link = link_stays p i (suc r) (suc mu) (omega (arith, moment.from)) (omega (arith, moment.past, given.past)) moment.link in
      (suc mu, omega (arith, moment.past, given.past), main_linked (suc mu) i link ∙ moment.is)

  -- just behind its commit a node is the main node of the indirection into which it was swapped
  pub commit_is : (t : ℕ) → t < last → (k : ℕ) (i a f : Ref) (l : ReadLine) → p.words.stage t k ≡ Decides i a f l → (q : Ref) → CommitsNode p.words t f q → counting_main states last (suc t) i ≡ f
  commit_is t h k i a f l stage q commits =
      let staged = subst (λ s. Staged p.words t k s) stage ((sound_at p t (omega arith)).staged k) in
      let stood : Stood p.words t i f = staged.1 in
      let stands : p.words.main t i ≡ f = pending_stands p.words t (sound_at p t (omega arith)) i f q stood commits.was in
      let link : p.words.link (suc t) i ≡ true = link_stays p i stood.at (suc t) (omega (arith, stood.past)) h stood.link in
      main_linked (suc t) i link ∙ ap (λ m. logical m (p.words.prev (suc t) m)) (commits.main i ∙ stands) ∙ ap (logical f) commits.prev.here

  -- what a SWAP was seen to commit
  pub was_committed : (t : ℕ) → t ≤ last → (k : ℕ) (i a f : Ref) → p.words.stage t k ≡ Checks i a f → prev_word states t f ≡ over.None → Was states last t i f
  was_committed t h k i a f stage none =
      let c = succeeded p t h k i a f stage none in
      (suc c.at, c.past, commit_is c.at (omega (arith, c.past)) k i a f c.line c.stage a c.commits)

  -- what a repair's READ gave was given
  pub given_below : (t actor id start : ℕ) (i m : Ref) → t ≤ last → GaveBelow states run.records last t actor id start i m → WasGiven states last start t i m
  given_below t actor id start i m within g =
      let given = repairs_are_given run g.at (omega (arith, g.past, within)) actor g.operation start i m (record {
        outcome = g.outcome;
        moves = g.moves;
        runs = g.runs;
        no_swap = below_no_swap g.operation.line g.below;
        read = g.read;
        reads = g.reads;
        of = g.of;
        gives = g.gives;
        notes = g.notes;
      }) g.its g.below in
      ((given.0.0, omega (arith, given.0.1, g.past), given.0.2), given.1)
