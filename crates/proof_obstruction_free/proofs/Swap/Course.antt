-- A SWAP's fresh node while it is decided, where one actor alone takes steps: what each step leaves.
use Rattle.std.proofs.Common.{◌≡◌, ℕ, suc, true, Option, ap, ◌∙◌}
use Rattle.proof_obstruction_free.specs.Vocabulary.{Ref, Prev, After, Gives, ReadLine, Descriptor, main_word, prev_word, is_made, ReadTurn, Kept, Written, MakesNothing, CommitsNode, FailsNode}
use Rattle.proof_obstruction_free.specs.Vocabulary.{PutsBack, ReadsMain, FindsDecided, FindsFailed, FindsPending, DecidesAtOnce, FindsOffer, Aborts, Restores}
use Rattle.proof_obstruction_free.specs.Beneath.slot_arena.specs.declared.nodes.Prev.TheVariants as over
use Rattle.proof_obstruction_free.specs.Beneath.machine_model.specs.declared.reading.After.TheVariants.{Goes}
use Rattle.proof_obstruction_free.specs.Beneath.machine_model.specs.declared.reading.ReadLine.TheVariants as read
use Rattle.proof_obstruction_free.specs.Beneath.proof_commits.specs.Protocol.{Leaves}
use Rattle.proof_obstruction_free.specs.Beneath.proof_commits.specs.Protocol.{Asks, Commits, Fails}
use Rattle.proof_obstruction_free.specs.Beneath.proof_commits.specs.Protocol.{Overtaken}
use Rattle.proof_obstruction_free.specs.Beneath.proof_commits.proofs.Words.Stood.{none≢pending}
use Rattle.proof_obstruction_free.specs.Alone.{Lone, Has, KeepsBut, WordStays}
use Rattle.proof_obstruction_free.proofs.Swap.Steps.{w, keeps_left}
use Rattle.proof_obstruction_free.proofs.Step.Within.{stays_on}

-- ---- what a step does, by what comes after it

module _ (a : Lone) where
  pub prev_leaves : (t : ℕ) (i m : Ref) (out : After ReadLine Ref) → ReadTurn (w a) t i (read.Prev m) out → Leaves (w a) t
  prev_leaves t i m out (FindsDecided e n) = e
  prev_leaves t i m out (FindsFailed e n) = e
  prev_leaves t i m out (FindsPending e n) = e
  prev_leaves t i m out (DecidesAtOnce e n) = e

  pub main_leaves : (t : ℕ) (i : Ref) (out : After ReadLine Ref) → ReadTurn (w a) t i read.Main out → Leaves (w a) t
  main_leaves t i out (ReadsMain e k) = e

  pub ask_leaves : (t : ℕ) (i m p : Ref) (out : After ReadLine Ref) → ReadTurn (w a) t i (read.AskRoot m p) out → Leaves (w a) t
  ask_leaves t i m p out (Asks g e c) = e
  ask_leaves t i m p out (FindsOffer offer e) = e

  pub decide_commits : (t : ℕ) (i m p q : Ref) (told : Option ℕ) → ReadTurn (w a) t i (read.Decide m p told) (Gives q) → CommitsNode (w a) t m p
  decide_commits t i m p q told (Commits licence e) = e

  pub decide_fails : (t : ℕ) (i m p : Ref) (told : Option ℕ) → ReadTurn (w a) t i (read.Decide m p told) (Goes read.Main) → (w a).prev t m ≡ over.Pending p → FailsNode (w a) t m p
  decide_fails t i m p told (Fails e) pending = e
  decide_fails t i m p told (Overtaken next e n which) pending = absurd (n pending)

  pub abort_leaves : (t : ℕ) (i m p : Ref) (offer : Descriptor) (out : After ReadLine Ref) → ReadTurn (w a) t i (read.Abort m p offer) out → Leaves (w a) t
  abort_leaves t i m p offer out (Aborts e) = e

  pub restores : (t : ℕ) (i m p q : Ref) → ReadTurn (w a) t i (read.Restore m p) (Gives q) → PutsBack (w a) t i m p
  restores t i m p q (Restores e) = e

module _ (a : Lone) (i replaced fresh : Ref) (t : ℕ) where
  -- before step u the fresh node stands there and its prev word is this; since step t no other main node and no word went
  pub record FreshStands (u : ℕ) (v : Prev) : Type 0 where
    pub made : is_made a.states u i ≡ true
    pub main : main_word a.states u i ≡ fresh
    pub prev : prev_word a.states u fresh ≡ v
    pub keeps : KeepsBut a t u i
    pub word : WordStays a t u

  -- a step that leaves all
  pub left : (u : ℕ) (v : Prev) → Leaves (w a) u → WordStays a u (suc u) → FreshStands u v → FreshStands (suc u) v
  left u v e stays h = record {
    made = e.makes.made i ∙ h.made;
    main = e.main i ∙ h.main;
    prev = e.prev fresh ∙ h.prev;
    keeps = λ j m other has. keeps_left a u e j m (h.keeps j m other has);
    word = stays_on a t u (suc u) h.word stays;
  }

  -- a step that decides the fresh node
  decided : (u : ℕ) (v : Prev) → FreshStands u (over.Pending replaced) → Kept ((w a).main u) ((w a).main (suc u)) → MakesNothing (w a) u → Written ((w a).prev u) ((w a).prev (suc u)) fresh v →
      WordStays a u (suc u) → FreshStands (suc u) v
  decided u v h main makes prev stays = record {
    made = makes.made i ∙ h.made;
    main = main i ∙ h.main;
    prev = prev.here;
    keeps = λ j m other has. kept j m (h.keeps j m other has);
    word = stays_on a t u (suc u) h.word stays;
  }
    where
      kept : (j m : Ref) → Has a u j m → Has a (suc u) j m
      kept j m has = record {
        made = makes.made j ∙ has.made;
        main = main j ∙ has.main;
        decided = prev.elsewhere m (λ same. none≢pending has.decided (ap (λ x. prev_word a.states u x) same ∙ h.prev)) ∙ has.decided;
      }

  pub committed : (u : ℕ) → FreshStands u (over.Pending replaced) → CommitsNode (w a) u fresh replaced → WordStays a u (suc u) → FreshStands (suc u) over.None
  committed u h e stays = decided u over.None h e.main e.makes e.prev stays

  pub has_failed : (u : ℕ) → FreshStands u (over.Pending replaced) → FailsNode (w a) u fresh replaced → WordStays a u (suc u) → FreshStands (suc u) (over.Failed replaced)
  has_failed u h e stays = decided u (over.Failed replaced) h e.main e.makes e.prev stays

  -- the node before stands there again
  pub record Restored (u : ℕ) : Type 0 where
    pub prev : prev_word a.states u fresh ≡ over.Failed replaced
    pub keeps : KeepsBut a t u i
    pub word : WordStays a t u

  pub put_back : (u : ℕ) → FreshStands u (over.Failed replaced) → PutsBack (w a) u i fresh replaced → WordStays a u (suc u) → Restored (suc u)
  put_back u h e stays = record {
    prev = e.prev fresh ∙ h.prev;
    keeps = λ j m other has.
        let before = h.keeps j m other has in
        record { made = e.makes.made j ∙ before.made; main = e.main.elsewhere j other ∙ before.main; decided = e.prev m ∙ before.decided };
    word = stays_on a t u (suc u) h.word stays;
  }
