-- What a step of an operation's own READ gives, in the words of the trie: just behind the operation's moment it was the main node.
use Rattle.std.proofs.Common.{◌≡◌, ℕ, suc, ◌<◌, ◌≤◌, true, is_some, ◌∙◌, arith, None, ap, sym, subst}
use Rattle.proof_updates.specs.Vocabulary.{Ref, Operation, Gives, ReadLine, Bounds, handle_of, State, word_at, read_after, gone, settled, IsRun, grown, read_at_after, moment_after, Record}
use Rattle.proof_updates.specs.Vocabulary.{moment_at, moment_given, Moment, read_of, action_of, progress_of, counts_from, committed_now, given_in, Reads, counts_at, stage_of, counting_main}
use Rattle.proof_updates.specs.Vocabulary.{IsMoment, words_of}
use Rattle.proof_updates.specs.Beneath.proof_commits.proofs.Course.Finals.{link_stays}
use Rattle.proof_updates.specs.Beneath.proof_commits.proofs.Known.Given.{Known}
use Rattle.proof_updates.specs.Beneath.proof_commits.proofs.Known.Acts.{known_run}
use Rattle.proof_updates.specs.Beneath.proof_commits.proofs.Words.Along.{protocol}
use Rattle.proof_updates.specs.Beneath.proof_commits.proofs.Course.Moments.{counted, moment_noted}
use Rattle.proof_updates.specs.Beneath.proof_contents.proofs.Values.Runs.{counting_main-made}
use Rattle.proof_updates.proofs.Tries.EachOperation.{OwnStep}
use Rattle.proof_updates.specs.Beneath.proof_commits.proofs.Words.OfRuns.{link_made}
use Rattle.proof_updates.specs.Beneath.proof_generations.proofs.Falling.ReadsGive.{gone_is}
use Rattle.proof_updates.specs.Beneath.machine_model.proofs.Alike.{moment_goes, alike, go_actor, not_denied}

pub own_after : (states : ℕ → State) (records : ℕ → Record) (t k : ℕ) (operation : Operation) → OwnStep states records t k operation →
    states (suc t) ≡ settled (states t) (gone (states t) (suc k) operation)
own_after states records t k operation own = gone_is (states t) (suc k) own.outcome (states (suc t)) own.moves operation own.runs own.goes

module _ {limits : Bounds} {states : ℕ → State} {last : ℕ} (run : IsRun limits states last) where
  abbrev known : Known limits states last
  known = known_run run

  -- what is known of the READs of the operation at place k
  abbrev pub moment_of : ℕ → ℕ → Moment
  moment_of t k = moment_at (run.records t) (suc k)

  -- what is known of them after its own step
  pub own_moment : (t k : ℕ) → t < last → (operation : Operation) → OwnStep states run.records t k operation →
      moment_at (run.records (suc t)) (suc k) ≡ moment_after (run.records t) (states t).steps (progress_of (states t) operation) (moment_at (run.records t) (suc k))
  own_moment t k lt operation own =
      ap (λ r. moment_at r (suc k)) own.noted
      ∙ moment_goes (states t) (run.records t) (suc k) operation (alike run t (omega (arith, lt))) (go_actor (states t) (suc k) (not_denied own.moves))

  -- where it doesn't read the moment stays
  pub quiet_moment : (t k : ℕ) → t < last → (operation : Operation) → OwnStep states run.records t k operation → read_of operation.line ≡ None →
      (moment_at (run.records t) (suc k)).moment ≡ (moment_at (run.records (suc t)) (suc k)).moment
  quiet_moment t k lt operation own none =
      sym (ap (λ (m : Moment). m.moment) (own_moment t k lt operation own)
      ∙ ap (λ g. moment_given (run.records t) (states t).steps (read_at_after (states t).steps (counts_from (action_of (states t) operation)) (moment_of t k).read_at) (moment_of t k).moment g
      (committed_now (states t) operation)) (ap (given_in (states t) operation) none))

  -- whence its READ counts
  pub own_counts : (t k : ℕ) → t < last → (operation : Operation) → OwnStep states run.records t k operation → (i : Ref) (x : ReadLine) → stage_of operation.line ≡ Reads i x →
      (moment_at (run.records (suc t)) (suc k)).read_at ≡ counts_at x t (moment_at (run.records t) (suc k)).read_at
  own_counts t k lt operation own i x reads =
      ap (λ (m : Moment). m.read_at) (own_moment t k lt operation own) ∙ counted limits states last known t lt (suc k) operation own.outcome own.moves own.runs own.noted i x reads

  -- it counts from a step on which is no later than the moment, and the moment no later than now
  pub record GivenAt (t k : ℕ) (i m : Ref) : Type 0 where
    pub from : (moment_at (run.records (suc t)) (suc k)).read_at ≤ (moment_at (run.records (suc t)) (suc k)).moment
    pub past : (moment_at (run.records (suc t)) (suc k)).moment ≤ t
    pub is : counting_main states last (suc (moment_at (run.records (suc t)) (suc k)).moment) i ≡ m

  pub given_at : (t k : ℕ) → t < last → (operation : Operation) → OwnStep states run.records t k operation → (i : Ref) (x : ReadLine) → stage_of operation.line ≡ Reads i x → (m : Ref) →
      read_after (states t).heap operation.access (word_at (states t) (handle_of operation.call)) i x ≡ Gives m → GivenAt t k i m
  given_at t k lt operation own i x reads m gives =
      let now : Moment = moment_of (suc t) k in
      let moment : IsMoment (words_of states run.records last known.closing) i m now.read_at now.moment t =
      subst (λ (n : Moment). IsMoment (words_of states run.records last known.closing) i m n.read_at n.moment t) (sym (own_moment t k lt operation own))
      (moment_noted limits states last known t lt (suc k) operation own.outcome own.moves own.runs own.noted i x reads m gives) in
      let made : is_some (grown states (suc now.moment) i) ≡ true =
      link_made (grown states (suc now.moment) i)
      (link_stays (protocol limits states last known) i (suc now.read_at) (suc now.moment) (omega (arith, moment.from)) (omega (arith, moment.past)) moment.link) in
      record {
        from = moment.from;
        past = moment.past;
        is = counting_main-made states last (suc now.moment) i made ∙ moment.is;
      }
