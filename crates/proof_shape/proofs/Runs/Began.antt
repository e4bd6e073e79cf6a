-- When a READ began, and that what it gives counts from then on.
use Rattle.std.proofs.Common.{◌≡◌, ℕ, suc, ◌<◌, ◌≤◌, ◌==◌, Bool, true, false, cond, Option, Some, None, refl, sym, ◌∙◌, ap, subst, arith}
use Rattle.proof_shape.specs.Vocabulary.{Ref, Operation, Gives, ReadLine, Bounds, handle_of, State, operation_of, word_at, read_after, line_after, operation_after, grown, node_under, IsRun, Record}
use Rattle.proof_shape.specs.Vocabulary.{moment_at, Moment, Words, Stage, Rests, Reads, MayHave, Idles, SwapsNode, DecidesOn, counts_at, IsMoment, stage_of, words_of}
use Rattle.proof_shape.specs.Beneath.machine_model.specs.declared.reading.After.TheVariants.{Goes}
use Rattle.proof_shape.specs.Beneath.machine_model.specs.declared.reading.ReadLine.TheVariants as read
use Rattle.proof_shape.specs.Beneath.machine_model.proofs.Actors.{marks_by}
use Rattle.proof_shape.specs.Beneath.proof_commits.specs.Protocol.{IsAtRest, Moves, MakesNode, ReadsOn}
use Rattle.proof_shape.specs.Beneath.proof_commits.proofs.Course.Finals.{link_stays}
use Rattle.proof_shape.specs.Beneath.proof_commits.proofs.Known.Given.{Known}
use Rattle.proof_shape.specs.Beneath.proof_commits.proofs.Words.OfRuns.{link_made}
use Rattle.proof_shape.specs.Beneath.proof_commits.proofs.Known.StepsAt.{after_mark, go_own}
use Rattle.proof_shape.specs.Beneath.proof_commits.proofs.Lines.Turns.{line_turn}
use Rattle.proof_shape.specs.Beneath.proof_commits.proofs.Words.Along.{line_facts, remembers_at, protocol}
use Rattle.proof_shape.specs.Beneath.proof_commits.proofs.Course.Moments.{found, counted as counted_noted, moment_noted}
use Rattle.proof_shape.specs.Beneath.proof_contents.proofs.Values.Runs.{counting_main-made}
use Rattle.proof_shape.specs.Lines.Given.{HasBegun, at_first, later, Reading, Gave}
use Rattle.proof_shape.specs.Lines.Knowing.{OfEachAt}
use Rattle.proof_shape.proofs.Runs.Takers.{GoesAt, each_with, moment_kept}
use Rattle.proof_shape.specs.Beneath.proof_memory.specs.Wants.{is_indirection}
use Rattle.proof_shape.specs.Beneath.proof_commits.proofs.Known.Acts.{known_run}
use Rattle.proof_shape.specs.Beneath.proof_commits.proofs.Lines.Stages.{first_rests}
use Rattle.proof_shape.specs.Beneath.machine_model.proofs.Alike.{alike, go_actor, moment_goes, not_denied}

-- what an actor runs after a step of its operation: what the step makes of it, with a mark or none
pub record RunsAfter (state : State) (actor : ℕ) (made : Operation) : Type 0 where
  pub operation : Operation
  pub runs : operation_of state actor ≡ Some operation
  pub id : operation.id ≡ made.id
  pub call : operation.call ≡ made.call
  pub line : operation.line ≡ made.line

pub runs_marked : (state : State) (actor : ℕ) (made : Operation) (m : Option ℕ) → operation_of state actor ≡ after_mark m (Some made) → RunsAfter state actor made
runs_marked state actor made None e = record { operation = made; runs = e; id = refl; call = refl; line = refl }
runs_marked state actor made (Some id) e = by_test (made.id == id) e
  where
    by_test : (b : Bool) → operation_of state actor ≡ Some (cond b (record made { is_marked = true }) made) → RunsAfter state actor made
    by_test true e = record { operation = record made { is_marked = true }; runs = e; id = refl; call = refl; line = refl }
    by_test false e = record { operation = made; runs = e; id = refl; call = refl; line = refl }

pub runs_after : (states : ℕ → State) (records : ℕ → Record) (t actor : ℕ) (operation : Operation) → GoesAt states records t actor operation →
    RunsAfter (states (suc t)) actor (operation_after (states t) operation)
runs_after states records t actor operation go =
    runs_marked (states (suc t)) actor (operation_after (states t) operation) (marks_by (states t) (Some operation))
    (ap (λ (s : State). operation_of s actor) go.after ∙ go_own (states t) actor operation go.runs)

-- ---- a READ goes on or begins

pub data ReadsNext (s : Stage) (i : Ref) (line : ReadLine) : Type 0 where
  goes_on : (before : ReadLine) → s ≡ Reads i before → ReadsNext s i line
  begins_now : line ≡ read.Main → ReadsNext s i line

reads_by : (s s' after : Stage) → s ≡ s' → (i : Ref) (x : ReadLine) → IsAtRest (Reads i x) → ReadsNext s i x
reads_by s s' after e i read.Main r = begins_now refl
reads_by s s' after e i x r = absurd r

reads_next : (w : Words) (t k : ℕ) (s after : Stage) → Moves w t k s after → (i : Ref) (x : ReadLine) → after ≡ Reads i x → ReadsNext s i x
reads_next w t k s after (Idles leaves free rest) i x e = reads_by s s after refl i x (subst IsAtRest e rest)
reads_next w t k s after (MakesNode n makes free names have) i x e =
    reads_by s s after refl i x (subst (λ y. MayHave w t k n y) e have)
reads_next w t k s after (SwapsNode link swaps) i x e = let wrong : ⊥ = cc in absurd wrong
reads_next w t k s after (ReadsOn {i = j} {l} {out = Goes z} turn) i x e =
    let same : j ≡ i = cc in goes_on l (ap (λ q. Reads q l) same)
reads_next w t k s after (ReadsOn {out = Gives m} turn) i x e = let wrong : ⊥ = cc in absurd wrong
reads_next w t k s after (DecidesOn {out = Goes z} turn) i x e = let wrong : ⊥ = cc in absurd wrong
reads_next w t k s after (DecidesOn {out = Gives m} turn) i x e = let wrong : ⊥ = cc in absurd wrong

-- ---- at each time

-- of what an operation runs
abbrev IsReadingSince : (ℕ → State) → (ℕ → Record) → ℕ → ℕ → Operation → Type 0
IsReadingSince states records t actor operation =
    (i : Ref) (x : ReadLine) → stage_of operation.line ≡ Reads i x → Reading states t actor operation.id (moment_at (records t) actor).read_at i x

-- what was read so far is so still where the READ counts from a later time
counted : (began from t : ℕ) (before after : ReadLine) → began ≤ t → HasBegun began from before → HasBegun began (counts_at before t from) after
counted began from t read.Main after past b = later past
counted began from t (read.Prev m) after past (later b) = later b
counted began from t (read.AskRoot m p) after past (later b) = later b
counted began from t (read.Abort m p offer) after past (later b) = later b
counted began from t (read.Decide m p told) after past (later b) = later b
counted began from t (read.Restore m p) after past (later b) = later past

module _ {limits : Bounds} {states : ℕ → State} {last : ℕ} (run : IsRun limits states last) where
  abbrev known : Known limits states last
  known = known_run run

  abbrev w : Words
  w = words_of states run.records last known.closing

  -- a step of an operation is a turn of the protocol
  pub own_moves : (t : ℕ) (h : t < last) (actor : ℕ) (operation : Operation) → GoesAt states run.records t actor operation →
      Moves (words_of states run.records last (known_run run).closing) t actor (stage_of operation.line) (stage_of (line_after (states t) operation operation.line))
  own_moves t h actor operation go =
      line_turn limits states last known t h actor operation operation.line go.goes (record {
        facts = line_facts limits states last known t h actor operation go.o go.moves go.runs go.noted;
        remembers = remembers_at limits states last known t (omega arith) actor operation go.runs;
      })

  -- whence its READ counts then
  counts_to : (t : ℕ) → t < last → (actor : ℕ) (operation : Operation) → GoesAt states run.records t actor operation → (i : Ref) (x : ReadLine) → stage_of operation.line ≡ Reads i x →
      (moment_at (run.records (suc t)) actor).read_at ≡ counts_at x t (moment_at (run.records t) actor).read_at
  counts_to t h actor operation go i x is =
      ap (λ (m : Moment). m.read_at)
      (ap (λ r. moment_at r actor) go.noted ∙ moment_goes (states t) (run.records t) actor operation (alike run t (omega arith)) (go_actor (states t) actor (not_denied go.moves)))
      ∙ counted_noted limits states last known t h actor operation go.o go.moves go.runs go.noted i x is

  goes_reading : (t : ℕ) → t < last → (actor : ℕ) (operation : Operation) → GoesAt states run.records t actor operation → IsReadingSince states run.records t actor operation →
      IsReadingSince states run.records (suc t) actor (operation_after (states t) operation)
  goes_reading t h actor operation go so_far i x is = by_next (reads_next w t actor (stage_of operation.line) _ (own_moves t h actor operation go) i x is)
    where
      own : RunsAfter (states (suc t)) actor (operation_after (states t) operation)
      own = runs_after states run.records t actor operation go

      by_next : ReadsNext (stage_of operation.line) i x → Reading states (suc t) actor operation.id (moment_at (run.records (suc t)) actor).read_at i x
      by_next (begins_now e) = record {
        began = suc t;
        past = omega arith;
        first = record { operation = own.operation; runs = own.runs; same = own.id; reads = ap stage_of own.line ∙ is ∙ ap (Reads i) e };
        counts = subst (λ y. HasBegun (suc t) (moment_at (run.records (suc t)) actor).read_at y) (sym e) at_first;
      }
      by_next (goes_on before at) =
          let r = so_far i before at in
          record {
            began = r.began;
            past = omega (arith, r.past);
            first = r.first;
            counts = subst (λ n. HasBegun r.began n x) (sym (counts_to t h actor operation go i before at)) (counted r.began (moment_at (run.records t) actor).read_at t before x r.past r.counts);
          }

  pub reading_at : OfEachAt states last (λ t actor operation. (i : Ref) (x : ReadLine) → stage_of operation.line ≡ Reads i x →
      Reading states t actor operation.id (moment_at (run.records t) actor).read_at i x)
  reading_at =
      each_with run (IsReadingSince states run.records) (λ t actor operation r. r)
      (λ t h actor call number d takes e i x is. let wrong : Rests ≡ Reads i x = sym (first_rests call) ∙ is in absurd (let bad : ⊥ = cc in bad))
      (λ t h actor operation go takes all. goes_reading t h actor operation go (all actor operation go.runs))
      (λ t h actor operation answer runs may all i x is. let wrong : Rests ≡ Reads i x = is in absurd (let bad : ⊥ = cc in bad))
      (λ t h actor operation runs apart all i x is.
      let r = all actor operation runs i x is in
      record {
        began = r.began;
        past = omega (arith, r.past);
        first = r.first;
        counts = subst (λ n. HasBegun r.began n x) (sym (ap (λ (m : Moment). m.read_at) (moment_kept run t h actor apart))) r.counts;
      })

  -- ---- what it gives

  pub gave_now : (t : ℕ) → t < last → (actor : ℕ) (operation : Operation) → GoesAt states run.records t actor operation → (i : Ref) (x : ReadLine) (m : Ref) → stage_of operation.line ≡ Reads i x →
      read_after (states t).heap operation.access (word_at (states t) (handle_of operation.call)) i x ≡ Gives m → Gave states run.records last (suc t) actor operation.id i m
  gave_now t h actor operation go i x m is gives =
      let r = reading_at t (omega arith) actor operation go.runs i x is in
      let f : Moment = found limits states last known t h actor operation go.o go.moves go.runs go.noted i x is in
      let moment : IsMoment w i m f.read_at f.moment t = moment_noted limits states last known t h actor operation go.o go.moves go.runs go.noted i x is m gives in
      let linked : is_indirection (node_under states (suc f.moment) i) ≡ true =
      link_stays (protocol limits states last known) i (suc f.read_at) (suc f.moment)
      (omega (arith, moment.from)) (omega (arith, moment.past)) moment.link in
      record {
        began = r.began;
        first = r.first;
        from = f.read_at;
        counts = subst (λ n. r.began ≤ n) (sym (counted_noted limits states last known t h actor operation go.o go.moves go.runs go.noted i x is)) (from_first x gives r.past r.counts);
        moment = f.moment;
        at = t;
        past = omega arith;
        line = x;
        gave = record { operation = operation; runs = go.runs; same = refl; reads = is };
        gives = gives;
        is_moment = moment;
        is = counting_main-made states last (suc f.moment) i (link_made (grown states (suc f.moment) i) linked) ∙ moment.is;
      }
    where
      from_first : {began : ℕ} (y : ReadLine) → read_after (states t).heap operation.access (word_at (states t) (handle_of operation.call)) i y ≡ Gives m → began ≤ t →
          HasBegun began (moment_at (run.records t) actor).read_at y → began ≤ counts_at y t (moment_at (run.records t) actor).read_at
      from_first read.Main gives past b = past
      from_first (read.Prev q) gives past (later b) = b
      from_first (read.AskRoot q p) gives past (later b) = b
      from_first (read.Abort q p offer) gives past (later b) = b
      from_first (read.Decide q p told) gives past (later b) = b
      from_first (read.Restore q p) gives past (later b) = past
