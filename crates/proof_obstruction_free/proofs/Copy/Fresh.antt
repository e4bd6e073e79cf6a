-- A snapshot, freeze or clear in a try whose root is the handle's, where one actor alone takes steps: its offer comes to stand and is carried out, so it ends.
use Rattle.std.proofs.Common.{◌≡◌, ℕ, suc, ◌+◌, ◌<◌, ◌≤◌, ◌==◌, true, Option, None, refl, ap, ◌∙◌, subst, eq-eqb, arith}
use Rattle.std.proofs.lemmas.Bool.{and_from}
use Rattle.proof_obstruction_free.specs.Vocabulary.{Ref, Line, After, Gives, ReadLine, Descriptor, Plain, Offer, handle_of, after_offer, copy_after_complete, copied_reply, read_action, read_after}
use Rattle.proof_obstruction_free.specs.Vocabulary.{after_prev, word_at, is_plain, is_carried_out, stands_in, of_offer, ReadTurn}
use Rattle.proof_obstruction_free.specs.Beneath.machine_model.specs.declared.copying.CopyLine.TheVariants as copy
use Rattle.proof_obstruction_free.specs.Beneath.machine_model.specs.declared.lines.Line.TheVariants as line
use Rattle.proof_obstruction_free.specs.Beneath.machine_model.specs.declared.reading.After.TheVariants.{Goes}
use Rattle.proof_obstruction_free.specs.Beneath.machine_model.specs.declared.reading.ReadLine.TheVariants as read
use Rattle.proof_obstruction_free.specs.Beneath.proof_commits.specs.Protocol.{Leaves}
use Rattle.proof_obstruction_free.specs.Beneath.proof_commits.proofs.Words.OfRuns.{leaves_words}
use Rattle.proof_obstruction_free.specs.Beneath.proof_commits.proofs.Lines.Read.{no_commit}
use Rattle.proof_obstruction_free.specs.Alone.{Lone, Stands, Has, Keeps, IsPlain, word}
use Rattle.proof_obstruction_free.specs.Machines.{HoldsRead, lead}
use Rattle.proof_obstruction_free.specs.Stepping.{Stepping, LeavesWords}
use Rattle.proof_obstruction_free.proofs.Copy.Lines.{completing_line, swapping_line, complete_reads}
use Rattle.proof_obstruction_free.proofs.Root.Words.{offered_on}
use Rattle.proof_obstruction_free.proofs.Step.Next.{own_run}
use Rattle.proof_obstruction_free.proofs.Swap.Course.{prev_leaves, main_leaves}
use Rattle.proof_obstruction_free.proofs.Swap.Found.{handle_open}
use Rattle.proof_obstruction_free.proofs.Swap.Steps.{w, known, facts, keeps_left, read_acts, reads, read_next, same_word}
use Rattle.proof_obstruction_free.proofs.Ends.StandsAt.{stands_as}
use Rattle.proof_obstruction_free.specs.Beneath.proof_generations.proofs.Offers.Standing.{try_itself}

-- ---- a READ of an indirection whose main node is decided

module _ (a : Lone) (steps : Stepping a) where
  record Step (t : ℕ) (g : Option ℕ) (l : Line) : Type 0 where
    pub stands : Stands a (suc t) g l
    pub keeps : Keeps a t (suc t)
    pub word : word a (suc t) ≡ word a t

  module _ (wrap : ReadLine → Line) (gives : Ref → Line) (i m : Ref) (holds : HoldsRead a.own wrap gives i) (g : Option ℕ) (t : ℕ) (h : t < a.last) where
    read_step : (l : ReadLine) → Stands a t g (wrap l) → LeavesWords (read_action i l) → ((out : After ReadLine Ref) → ReadTurn (w a) t i l out → Leaves (w a) t) → (out : After ReadLine Ref) →
        read_after (a.states t).heap a.own.access (word a t) i l ≡ out → Step t g (lead wrap gives out)
    read_step l s free leaves out e = record {
      stands = subst (λ x. Stands a (suc t) g (lead wrap gives x)) e (read_next a wrap gives i holds t g l s h);
      keeps = keeps_left a t (leaves _ (reads a wrap gives i holds t g l s h));
      word = same_word a wrap gives i holds t g l s h free;
    }

    reads_main : Stands a t g (wrap read.Main) → Has a t i m → Step t g (wrap (read.Prev m))
    reads_main s has =
        let found = (read_acts a wrap gives i holds t g read.Main s h).0.main in
        read_step read.Main s tt (main_leaves a t i) (Goes (read.Prev m)) (ap (λ x. Goes (read.Prev x)) (found ∙ has.main))

    gives_it : Stands a t g (wrap (read.Prev m)) → Has a t i m → Step t g (gives m)
    gives_it s has =
        let found = (read_acts a wrap gives i holds t g (read.Prev m) s h).0.prev in
        read_step (read.Prev m) s tt (prev_leaves a t i m) (Gives m) (ap (after_prev a.own.access m) (found ∙ has.decided))

  -- ---- an offer of a root that stands in the handle's word, over its main node

  module _ (d : Descriptor) (g : Option ℕ) where
    abbrev M : Ref
    M = d.expected

    -- it is carried out: the operation ends
    carries_out : (t : ℕ) → Stands a t g (swapping_line a.own d M) → word a t ≡ Offer d → suc t < a.last → ⊥
    carries_out t s stands h =
        let l = swapping_line a.own d M in
        let it : word_at (a.states t) (handle_of s.operation.call) ≡ Offer d = ap (λ x. word_at (a.states t) (handle_of x)) s.call ∙ stands in
        let carried : is_carried_out (word_at (a.states t) (handle_of s.operation.call)) d M ≡ true =
        ap (λ x. is_carried_out x d M) it ∙ and_from (stands_in (Offer d) d) (M == d.expected) (try_itself d) (eq-eqb M M refl) in
        steps.ends (suc t) g (copied_reply s.operation.call s.operation.opens)
        (stands_as a (suc t) _ g _ _ s.generation (ap (λ b. copy_after_complete s.operation (of_offer d (Gives b))) carried) (steps.next t g l s (omega (arith, h)) tt)) h

    completes : (t : ℕ) → Stands a t g (completing_line a.own d read.Main) → Has a t d.root M → word a t ≡ Offer d → t + 4 ≤ a.last → ⊥
    completes t s has stands room =
        let holds = complete_reads a.own d in
        let x = reads_main (completing_line a.own d) (swapping_line a.own d) d.root M holds g t (omega (arith, room)) s has in
        let has' = x.keeps d.root M has in
        let y = gives_it (completing_line a.own d) (swapping_line a.own d) d.root M holds g (suc t) (omega (arith, room)) x.stands has' in
        carries_out (suc (suc t)) y.stands (y.word ∙ x.word ∙ stands) (omega (arith, room))

    -- it comes to stand
    pub offers : (t : ℕ) → Stands a t g (line.Copy (copy.Offer d)) → IsPlain a t d.root → Has a t d.root M → t + 5 ≤ a.last → ⊥
    offers t s plain has room =
        let l = line.Copy (copy.Offer d) in
        let h : t < a.last = omega (arith, room) in
        let f = facts a t g l s h tt in
        let left = leaves_words a.states (own_run a).records a.last (λ g. None) t f.acts (no_commit a.limits a.states a.last (known a) t h f.commits) in
        let it : word_at (a.states t) (handle_of s.operation.call) ≡ Plain d.root = ap (λ x. word_at (a.states t) (handle_of x)) s.call ∙ plain in
        let there : is_plain (word_at (a.states t) (handle_of s.operation.call)) d.root ≡ true = ap (λ x. is_plain x d.root) it ∙ eq-eqb d.root d.root refl in
        let (root, standing, access) = handle_open a t g l s refl in
        completes (suc t) (stands_as a (suc t) _ g _ _ s.generation (ap (after_offer d) there) (steps.next t g l s h tt)) (keeps_left a t left d.root M has)
        (offered_on a t g l s h tt root standing d refl plain) (omega (arith, room))
