-- What a step of an actor that is alone finds and does, where it is one of a READ.
use Rattle.std.proofs.Common.{◌≡◌, ℕ, suc, ◌<◌, ◌≤◌, Option, Some, None, sym, ap, ◌∙◌, subst}
use Rattle.std.proofs.lemmas.Option.{none-some}
use Rattle.proof_obstruction_free.specs.Vocabulary.{Ref, Line, Read, ReadLine, Outcome, line_action, read_of, read_action, read_after, Moves, commits_after, committed_in, Words, ReadTurn, words_of}
use Rattle.proof_obstruction_free.specs.Beneath.machine_model.specs.declared.lines.Line.TheVariants as line
use Rattle.proof_obstruction_free.specs.Beneath.machine_model.specs.declared.steps.Step.TheVariants as step
use Rattle.proof_obstruction_free.specs.Beneath.proof_commits.specs.Protocol.{Leaves}
use Rattle.proof_obstruction_free.specs.Beneath.proof_commits.proofs.Known.Given.{Known, ActsOn}
use Rattle.proof_obstruction_free.specs.Beneath.proof_commits.proofs.Lines.Turns.{LineFacts}
use Rattle.proof_obstruction_free.specs.Beneath.proof_commits.proofs.Known.Acts.{known_run}
use Rattle.proof_obstruction_free.specs.Beneath.proof_commits.proofs.Lines.Read.{read_turn}
use Rattle.proof_obstruction_free.specs.Beneath.proof_commits.proofs.Words.Along.{line_facts}
use Rattle.proof_obstruction_free.specs.Alone.{Lone, Stands, Keeps, word}
use Rattle.proof_obstruction_free.specs.Machines.{HoldsRead, lead}
use Rattle.proof_obstruction_free.specs.Stepping.{IsNoEnd, LeavesWords}
use Rattle.proof_obstruction_free.proofs.Step.Keeps.{noted_so, words}
use Rattle.proof_obstruction_free.proofs.Ends.StandsAt.{stands_as}
use Rattle.proof_obstruction_free.proofs.Step.Next.{next, own_run}

-- a line with a READ is no end
pub reads_no_end : (l : Line) (r : Read) → read_of l ≡ Some r → IsNoEnd l
reads_no_end (line.End answer) r e = absurd (none-some r e)
reads_no_end l r e = tt

module _ (a : Lone) where
  abbrev pub known : Known a.limits a.states a.last
  known = known_run (own_run a)

  -- the words of the run, with no closing told
  abbrev pub w : Words
  w = words_of a.states (own_run a).records a.last (λ g. None)

  pub own_move : (t : ℕ) → a.start ≤ t → t < a.last → (o : Outcome) × Moves (a.states t) (step.Go a.actor) o (a.states (suc t))
  own_move t since h = let (o, m) = a.takes t h in (o, subst (λ s. Moves (a.states t) s o (a.states (suc t))) (a.alone t since h) m)

  -- the line of the operation that runs
  at_line : (t : ℕ) (g : Option ℕ) (l : Line) (s : Stands a t g l) → (P : Line → Type 0) → P s.operation.line → P l
  at_line t g l s P p = subst P s.line p

  module _ (t : ℕ) (g : Option ℕ) (l : Line) (s : Stands a t g l) (h : t < a.last) where
    pub facts : IsNoEnd l → LineFacts a.limits a.states a.last known t h a.actor s.operation l
    facts more =
        let (o, m) = own_move t s.since h in
        at_line t g l s (λ x. LineFacts a.limits a.states a.last known t h a.actor s.operation x)
        (line_facts a.limits a.states a.last known t h a.actor s.operation o m s.runs (noted_so a t g l s h more))

  -- a step that leaves all words keeps main nodes
  pub keeps_left : (t : ℕ) → Leaves w t → Keeps a t (suc t)
  keeps_left t e i m has = record { made = e.makes.made i ∙ has.made; main = e.main i ∙ has.main; decided = e.prev m ∙ has.decided }

  -- ---- a step of a READ

  module _ (wrap : ReadLine → Line) (gives : Ref → Line) (i : Ref) (holds : HoldsRead a.own wrap gives i) (t : ℕ) (g : Option ℕ) (l : ReadLine) (s : Stands a t g (wrap l))
      (h : t < a.last) where
    acts_so : line_action (a.states t) s.operation (wrap l) ≡ read_action i l
    acts_so = holds.embedded.acts (a.states t) s.operation l

    pub read_no_end : IsNoEnd (wrap l)
    read_no_end = reads_no_end (wrap l) _ (holds.embedded.reads l)

    pub read_acts : ActsOn a.states t (read_action i l)
    read_acts = subst (ActsOn a.states t) acts_so (facts t g (wrap l) s h read_no_end).acts

    -- what it finds and does
    pub reads : ReadTurn w t i l (read_after (a.states t).heap a.own.access (word a t) i l)
    reads =
        let f = facts t g (wrap l) s h read_no_end in
        read_turn a.limits a.states a.last known t h i l a.own.access (word a t) read_acts
        (f.commits ∙ ap (λ x. commits_after ((own_run a).records t) t (committed_in (a.states t) x)) (holds.embedded.reads l))
        (λ m p is r plain c closed. absurd (none-some c closed))

    -- where the operation stands afterwards
    pub read_next : Stands a (suc t) g (lead wrap gives (read_after (a.states t).heap a.own.access (word a t) i l))
    read_next =
        stands_as a (suc t) _ g _ _ (holds.stays (a.states t) s.operation l ∙ s.generation) (holds.goes (a.states t) s.operation l s.call s.access)
        (next a t g (wrap l) s h read_no_end)

    pub same_word : LeavesWords (read_action i l) → word a (suc t) ≡ word a t
    same_word leaves = words a t g (wrap l) s h read_no_end (subst LeavesWords (sym acts_so) leaves)
