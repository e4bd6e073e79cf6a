-- Each step of a SWAP's deciding part, from the one that swapped its fresh node in, where one actor alone takes steps.
use Rattle.std.proofs.Common.{◌≡◌, ℕ, suc, ◌<◌, Bool, true, false, Option, Some, nat_eq, refl, ap, ◌∙◌, subst}
use Rattle.std.specs.Option.{option_eq}
use Rattle.std.proofs.lemmas.Bool.{eq-eqb, ne_eqb}
use Rattle.proof_obstruction_free.specs.Vocabulary.{Writable, Ref, Prev, prev_at, generation_at, Purpose, Descriptor, Offer, After, Gives, ReadLine, SwapLine, read_action, read_after, after_prev}
use Rattle.proof_obstruction_free.specs.Vocabulary.{after_ask, after_decide, after_restore, verdict_by, is_licensed, is_pending, prev_word, ReadTurn, PutsBack}
use Rattle.proof_obstruction_free.specs.Beneath.slot_arena.specs.declared.nodes.Prev.TheVariants as over
use Rattle.proof_obstruction_free.specs.Beneath.machine_model.specs.declared.reading.After.TheVariants.{Goes}
use Rattle.proof_obstruction_free.specs.Beneath.machine_model.specs.declared.reading.ReadLine.TheVariants as read
use Rattle.proof_obstruction_free.specs.Beneath.machine_model.specs.declared.reading.SwapLine.TheVariants as swap
use Rattle.proof_obstruction_free.specs.Beneath.proof_commits.specs.Protocol.{Leaves}
use Rattle.proof_obstruction_free.specs.Weighing.{Sees}
use Rattle.proof_obstruction_free.specs.Alone.{Lone, Stands, WordStays, IsPlain, generation, word}
use Rattle.proof_obstruction_free.specs.Machines.{lead}
use Rattle.proof_obstruction_free.specs.Stepping.{Stepping, LeavesWords}
use Rattle.proof_obstruction_free.proofs.Root.Words.{plain_on, settles_on}
use Rattle.proof_obstruction_free.proofs.Swap.Steps.{w, facts, reads, read_next, same_word}
use Rattle.proof_obstruction_free.proofs.Swap.Lines.{swap_line, deciding, checking, swap_reads}
use Rattle.proof_obstruction_free.proofs.Swap.Found.{replaced_decided, root_generation, swap_writable, generation_for_good}
use Rattle.proof_obstruction_free.proofs.Swap.Course.{prev_leaves, main_leaves, ask_leaves, abort_leaves, decide_commits, decide_fails, restores, FreshStands, left, committed}
use Rattle.proof_obstruction_free.proofs.Swap.Course.{has_failed, Restored, put_back}
use Rattle.proof_obstruction_free.proofs.Step.Within.{same_stays}

module _ (a : Lone) (steps : Stepping a) (why : Purpose) (i replaced fresh : Ref) (t : ℕ) (g : Option ℕ) where
  abbrev At : SwapLine → ℕ → Type 0
  At x u = Stands a u g (swap_line a why i replaced fresh x)

  abbrev H : ℕ → Prev → Type 0
  H = FreshStands a i replaced fresh t

  -- what comes next, and what still holds
  pub record Next (u : ℕ) (x : SwapLine) (v : Prev) : Type 0 where
    pub stands : At x (suc u)
    pub holds : H (suc u) v
    pub word : WordStays a u (suc u)

  module _ (u : ℕ) (h : u < a.last) where
    -- a step of the deciding part, by what comes after it
    record GoesTo (l : ReadLine) (out : After ReadLine Ref) : Type 0 where
      pub stands : Stands a (suc u) g (lead (deciding a why i replaced fresh) (checking a why i replaced fresh) out)
      pub turn : ReadTurn (w a) u i l out

    goes : (l : ReadLine) → At (swap.Deciding l) u → (out : After ReadLine Ref) → read_after (a.states u).heap a.own.access (word a u) i l ≡ out → GoesTo l out
    goes l s out e = record {
      stands = subst (λ x. Stands a (suc u) g (lead (deciding a why i replaced fresh) (checking a why i replaced fresh) x)) e
          (read_next a (deciding a why i replaced fresh) (checking a why i replaced fresh) i (swap_reads a why i replaced fresh) u g l s h);
      turn = subst (ReadTurn (w a) u i l) e (reads a (deciding a why i replaced fresh) (checking a why i replaced fresh) i (swap_reads a why i replaced fresh) u g l s h);
    }

    stays : (l : ReadLine) → At (swap.Deciding l) u → LeavesWords (read_action i l) → WordStays a u (suc u)
    stays l s free = same_stays a u (suc u) (same_word a (deciding a why i replaced fresh) (checking a why i replaced fresh) i (swap_reads a why i replaced fresh) u g l s h free)

    on : (v : Prev) → Leaves (w a) u → WordStays a u (suc u) → H u v → H (suc u) v
    on v e same holds = left a i replaced fresh t u v e same holds

    -- ---- its prev word

    pub finds_pending : At (swap.Deciding (read.Prev fresh)) u → H u (over.Pending replaced) → Next u (swap.Deciding (read.AskRoot fresh replaced)) (over.Pending replaced)
    finds_pending s holds =
        let found = (facts a u g (swap_line a why i replaced fresh (swap.Deciding (read.Prev fresh))) s h tt).acts.0.prev in
        let x = goes (read.Prev fresh) s (Goes (read.AskRoot fresh replaced))
        (ap (λ y. after_prev y fresh (prev_at (a.states u).heap fresh)) (swap_writable a why i replaced fresh u g (swap.Deciding (read.Prev fresh)) s)
        ∙ ap (after_prev Writable fresh) (found ∙ holds.prev)) in
        record { stands = x.stands; holds = on (over.Pending replaced) (prev_leaves a u i fresh _ x.turn) (stays (read.Prev fresh) s tt) holds; word = stays (read.Prev fresh) s tt }

    pub finds_failed : At (swap.Deciding (read.Prev fresh)) u → H u (over.Failed replaced) → Next u (swap.Deciding (read.Restore fresh replaced)) (over.Failed replaced)
    finds_failed s holds =
        let found = (facts a u g (swap_line a why i replaced fresh (swap.Deciding (read.Prev fresh))) s h tt).acts.0.prev in
        let x = goes (read.Prev fresh) s (Goes (read.Restore fresh replaced)) (ap (after_prev a.own.access fresh) (found ∙ holds.prev)) in
        record { stands = x.stands; holds = on (over.Failed replaced) (prev_leaves a u i fresh _ x.turn) (stays (read.Prev fresh) s tt) holds; word = stays (read.Prev fresh) s tt }

    -- ---- the root

    pub asks_plain : At (swap.Deciding (read.AskRoot fresh replaced)) u → H u (over.Pending replaced) → (r : Ref) → IsPlain a u r →
        Next u (swap.Deciding (read.Decide fresh replaced (Some (generation a r)))) (over.Pending replaced) × IsPlain a (suc u) r
    asks_plain s holds r plain =
        let l = read.AskRoot fresh replaced in
        let told = root_generation a u g (swap_line a why i replaced fresh (swap.Deciding l)) s refl r plain in
        let x = goes l s (Goes (read.Decide fresh replaced (Some (generation a r))))
        (ap (after_ask (a.states u).heap fresh replaced) plain ∙ ap (λ y. Goes (read.Decide fresh replaced (Some y))) told) in
        let same = stays l s tt in
        (record { stands = x.stands; holds = on (over.Pending replaced) (ask_leaves a u i fresh replaced _ x.turn) same holds; word = same }, same r plain)

    pub asks_offer : At (swap.Deciding (read.AskRoot fresh replaced)) u → H u (over.Pending replaced) → (d : Descriptor) → word a u ≡ Offer d →
        Next u (swap.Deciding (read.Abort fresh replaced d)) (over.Pending replaced) × (word a (suc u) ≡ Offer d)
    asks_offer s holds d stands =
        let l = read.AskRoot fresh replaced in
        let x = goes l s (Goes (read.Abort fresh replaced d)) (ap (after_ask (a.states u).heap fresh replaced) stands) in
        let same = same_word a (deciding a why i replaced fresh) (checking a why i replaced fresh) i (swap_reads a why i replaced fresh) u g l s h tt in
        (record { stands = x.stands; holds = on (over.Pending replaced) (ask_leaves a u i fresh replaced _ x.turn) (stays l s tt) holds; word = stays l s tt }, same ∙ stands)

    pub takes_back : (d : Descriptor) → At (swap.Deciding (read.Abort fresh replaced d)) u → H u (over.Pending replaced) → word a u ≡ Offer d →
        Next u (swap.Deciding (read.AskRoot fresh replaced)) (over.Pending replaced) × ((r : Ref) × IsPlain a (suc u) r)
    takes_back d s holds stands =
        let l = read.Abort fresh replaced d in
        let at = swap_line a why i replaced fresh (swap.Deciding l) in
        let x = goes l s (Goes (read.AskRoot fresh replaced)) refl in (
          record { stands = x.stands; holds = on (over.Pending replaced) (abort_leaves a u i fresh replaced d _ x.turn) (plain_on a u g at s h tt tt) holds; word = plain_on a u g at s h tt tt },
          settles_on a u g at s h tt d refl stands,
        )

    -- ---- its decision

    decides : (told : Option ℕ) → At (swap.Deciding (read.Decide fresh replaced told)) u → H u (over.Pending replaced) → (b : Bool) → option_eq nat_eq told (Some (generation a i)) ≡ b →
        GoesTo (read.Decide fresh replaced told) (after_decide fresh (verdict_by b true))
    decides told s holds b test =
        let f = (facts a u g (swap_line a why i replaced fresh (swap.Deciding (read.Decide fresh replaced told))) s h tt).acts in
        let its : generation_at (a.states u).heap i ≡ generation a i = f.2 ∙ generation_for_good a u s.until i f.0.link in
        let pending : is_pending (prev_at (a.states u).heap fresh) replaced ≡ true = ap (λ v. is_pending v replaced) (f.1.prev ∙ holds.prev) ∙ eq-eqb replaced replaced refl in
        goes (read.Decide fresh replaced told) s (after_decide fresh (verdict_by b true))
        (ap (λ x. after_decide fresh (verdict_by (is_licensed (a.states u).heap i told) x)) pending
        ∙ ap (λ x. after_decide fresh (verdict_by (option_eq nat_eq told (Some x)) true)) its ∙ ap (λ x. after_decide fresh (verdict_by x true)) test)

    pub commits : (r : Ref) → At (swap.Deciding (read.Decide fresh replaced (Some (generation a r)))) u → H u (over.Pending replaced) → generation a r ≡ generation a i → Next u swap.Check over.None
    commits r s holds same =
        let l = read.Decide fresh replaced (Some (generation a r)) in
        let x = decides (Some (generation a r)) s holds true (eq-eqb (generation a r) (generation a i) same) in
        record { stands = x.stands; holds = committed a i replaced fresh t u holds (decide_commits a u i fresh replaced _ _ x.turn) (stays l s tt); word = stays l s tt }

    pub fails : (r : Ref) → At (swap.Deciding (read.Decide fresh replaced (Some (generation a r)))) u → H u (over.Pending replaced) → (generation a r ≡ generation a i → ⊥) →
        Next u (swap.Deciding read.Main) (over.Failed replaced)
    fails r s holds other =
        let l = read.Decide fresh replaced (Some (generation a r)) in
        let x = decides (Some (generation a r)) s holds false (ne_eqb (generation a r) (generation a i) other) in
        record { stands = x.stands; holds = has_failed a i replaced fresh t u holds (decide_fails a u i fresh replaced _ x.turn holds.prev) (stays l s tt); word = stays l s tt }

    -- ---- after it has failed

    pub reads_main : At (swap.Deciding read.Main) u → H u (over.Failed replaced) → Next u (swap.Deciding (read.Prev fresh)) (over.Failed replaced)
    reads_main s holds =
        let found = (facts a u g (swap_line a why i replaced fresh (swap.Deciding read.Main)) s h tt).acts.0.main in
        let x = goes read.Main s (Goes (read.Prev fresh)) (ap (λ m. Goes (read.Prev m)) (found ∙ holds.main)) in
        record { stands = x.stands; holds = on (over.Failed replaced) (main_leaves a u i _ x.turn) (stays read.Main s tt) holds; word = stays read.Main s tt }

    -- the replaced node is decided
    back_there : PutsBack (w a) u i fresh replaced → H u (over.Failed replaced) → prev_word a.states u replaced ≡ over.None → Sees a (suc u) i replaced over.None
    back_there e holds none = record { made = e.makes.made i ∙ holds.made; main = e.main.here; prev = e.prev replaced ∙ none }

    pub puts_back : At (swap.Deciding (read.Restore fresh replaced)) u → H u (over.Failed replaced) → At swap.Check (suc u) × Restored a i replaced fresh t (suc u)
        × WordStays a u (suc u) × Sees a (suc u) i replaced over.None
    puts_back s holds =
        let l = read.Restore fresh replaced in
        let found = (facts a u g (swap_line a why i replaced fresh (swap.Deciding l)) s h tt).acts.0.main in
        let x = goes l s (Gives replaced) (ap (after_restore replaced) (eq-eqb _ fresh (found ∙ holds.main))) in (
          x.stands,
          put_back a i replaced fresh t u holds (restores a u i fresh replaced _ x.turn) (stays l s tt),
          stays l s tt,
          back_there (restores a u i fresh replaced _ x.turn) holds (replaced_decided a why i replaced fresh u g l s),
        )
