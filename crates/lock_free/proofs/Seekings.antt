-- KEY with RENEW and CLEAN.
use Rattle.std.proofs.Common.{◌≡◌, ◌<◌, ◌-◌, ◌⊎◌, ℕ, Bool, true, false, get_or, length, nat_lt, List, [], ◌∷◌, refl, sym, ap, subst, ◌∙◌, inl, inr, arith, ltb-true}
use Rattle.std.proofs.lemmas.Bool.{true≢false, cases_lt, lt-ltb, le-ltb}
use Rattle.std.proofs.lemmas.List.{length-take-le, get_or-take}
use Rattle.history.specs.declared.replies.Reply.{Reply}
use Rattle.history.specs.declared.replies.Reply.TheVariants as reply
use Rattle.trie_words.specs.declared.headers.Shape.TheVariants as shape
use Rattle.machine_model.specs.Beneath.ctrie_base.specs.Hashes.{hash_of}
use Rattle.machine_model.specs.Beneath.slot_arena.specs.declared.refs.Ref.{Ref}
use Rattle.machine_model.specs.Beneath.slot_arena.specs.Heaps.{no_ref}
use Rattle.machine_model.specs.Beneath.slot_arena.specs.Refs.{slot_of}
use Rattle.machine_model.specs.declared.finding.KeyLine.TheVariants as key
use Rattle.machine_model.specs.declared.repairs.CleanLine.TheVariants as clean
use Rattle.machine_model.specs.declared.repairs.RenewLine.TheVariants as renew
use Rattle.machine_model.specs.declared.lines.Line.{Line}
use Rattle.machine_model.specs.declared.lines.Line.TheVariants as line
use Rattle.machine_model.specs.declared.operations.Operation.{Operation}
use Rattle.machine_model.specs.Lines.{new_try}
use Rattle.machine_model.specs.Paths.{above, current}
use Rattle.machine_model.specs.Reading.{reading}
use Rattle.proof_memory.specs.Wants.{is_branch}
use Rattle.proof_memory.proofs.Claims.Uses.{fact_of, meets_of}
use Rattle.lock_free.specs.declared.descending.Found.{Found}
use Rattle.lock_free.specs.declared.descending.Found.TheVariants as found
use Rattle.lock_free.specs.declared.descending.Update.{Update}
use Rattle.lock_free.specs.declared.reading.Given.{Given}
use Rattle.lock_free.specs.declared.renewing.Renewed.{Renewed}
use Rattle.lock_free.specs.declared.renewing.Renewed.TheVariants as renewed
use Rattle.lock_free.specs.declared.rules.View.{View}
use Rattle.lock_free.specs.declared.seeking.Sought.{Sought}
use Rattle.lock_free.specs.declared.seeking.Sought.TheVariants as sought
use Rattle.lock_free.specs.declared.tasks.Task.{Task}
use Rattle.lock_free.specs.Becoming.{Follows}
use Rattle.lock_free.specs.Descending.{AreAt, HasFound, IsHere, IsOnPath, IsPlace, IsTask, line_found, line_updated}
use Rattle.lock_free.specs.GoingDown.{HasMoved}
use Rattle.lock_free.specs.Holding.{IsOn}
use Rattle.lock_free.specs.Loading.{now, Runs, IsSound}
use Rattle.lock_free.specs.Passing.{IsPlaced}
use Rattle.lock_free.specs.Repairing.{GivesUp, RenewedBy, HasCleanedBelow, HasEndedAt, HasRenewedBranch, HasStart, IsAtClean, IsAtRenew}
use Rattle.lock_free.specs.Seeking.{HasRenewedLast, HasSought, IsSeeking, IsToClean, IsToRenew}
use Rattle.lock_free.specs.Stocks.{IsStock, Stocked}
use Rattle.lock_free.proofs.CleanBelow.{known_branch}
use Rattle.lock_free.proofs.Comings.{runs_one}
use Rattle.lock_free.proofs.Descents.{as_long, moved_self, task_moved}
use Rattle.lock_free.proofs.Followings.{follows_both, follows_later, placed_on}
use Rattle.lock_free.proofs.GivenBack.{node_is}
use Rattle.lock_free.proofs.LevelPassed.{at_index, placed_last}
use Rattle.lock_free.proofs.MainLooks.{list_says, tomb_says}
use Rattle.lock_free.proofs.OnLines.{finds_now, moves_on}
use Rattle.lock_free.proofs.StockStays.{stock_moved}
use Rattle.lock_free.specs.declared.leaving.Swapping.{Swapping}
use Rattle.lock_free.specs.Leaving.{IsRepair, IsSpent, LeavesSwap}
use Rattle.lock_free.proofs.Leavings.{halts_gives, halts_stock}
use Rattle.lock_free.proofs.RunningOn.{runs_on_ended}
use Rattle.lock_free.proofs.SwapsBegun.{leaves_swap_on}

-- ---- an operation that has come to a line, whatever it has of its own

pub ended_moved : (v w : View) (l : Line) → HasMoved (λ o. l) v w → HasEndedAt l v w
ended_moved v w l m = record { follows = follows_later v w m.later; comes = λ o r. (o.private, m.comes o r) }

pub ended_both : (u v w : View) (a b : Line) → HasEndedAt a u v → HasEndedAt b v w → HasEndedAt b u w
ended_both u v w a b p q = record {
  follows = follows_both u v w p.follows q.follows;
  comes = λ o r. (let x = p.comes o r in let y = q.comes (record o { private = x.0; line = a }) x.1 in (y.0, y.1));
}

pub gives_up_later : (u v w : View) (a : Line) (answer : Reply) → HasEndedAt a u v → GivesUp (λ o. answer) v w → GivesUp (λ o. answer) u w
gives_up_later u v w a answer p g = record {
  follows = follows_both u v w p.follows g.follows;
  runs = λ o r. (let x = p.comes o r in let y = g.runs (record o { private = x.0; line = a }) x.1 in (y.0, y.1, y.2, y.3));
}

pub on_ended : (v w : View) (a b : Line) → IsOn v a → HasEndedAt b v w → IsOn w b
on_ended v w a b at e = let x = e.comes at.0 at.1 in (record at.0 { private = x.0; line = b }, x.1, refl)

pub are_at_on : (v w : View) → Follows v w → (path : List Ref) (slots : List ℕ) → AreAt v path slots → AreAt w path slots
are_at_on v w f [] [] h = tt
are_at_on v w f [] (slot ∷ slots) h = absurd h
are_at_on v w f (r ∷ rs) [] h = absurd h
are_at_on v w f (r ∷ rs) (slot ∷ slots) h = (placed_on v w f r slot h.0, are_at_on v w f rs slots h.1)

pub task_ended : (v w : View) (l : Line) (task : Task) (o : Operation) → Runs v o → HasEndedAt l v w → IsTask v task → IsTask w task
task_ended v w l task o r e t = record {
  calls = λ q s. (let x = e.comes o r in
      let same = runs_one w q (record o { private = x.0; line = l }) s x.1 in
      let its = t.calls o r in
      (ap (λ (z : Operation). z.call) same ∙ its.0, ap (λ (z : Operation). z.access) same ∙ its.1, ap (λ (z : Operation). z.generation) same ∙ its.2));
  key = t.key;
  hash = t.hash ∙ ap (λ (x : View). hash_of x.sizes.hash task.key) (sym e.follows.is);
}

-- ---- the branch at the end of the path is renewed

module _ (n : ℕ) (v : View) (sound : IsSound n v) (task : Task) (t : IsTask v task) (slots : List ℕ) (some : 0 < length slots) (given : Given) (at : IsHere v slots given (IsToRenew v)) where
  abbrev path : List Ref
  path = at.0

  abbrev main : Ref
  main = at.1

  abbrev place : IsPlace v slots given path main
  place = at.2

  pub starts : HasStart v task.start
  starts o r = (t.calls o r).2

  pub renew_ready : (bitmap : ℕ) → given.header.shape ≡ shape.Branch bitmap → IsAtRenew v (get_or slots (length slots - 1) 0) given.link bitmap
  renew_ready bitmap is = (
    path,
    main,
    at.3,
    record { placed = placed_last v path slots place.places some; link_is = place.link; branch = known_branch v main given.header bitmap place.header is },
  )

  branch : is_branch place.header.slot.node ≡ true
  branch =
      let claims = finds_now v (line.Renew (renew.Entry path main [])) at.3 n sound in
      subst (λ x. is_branch x ≡ true) (node_is (now v) main place.header.slot place.header.used) (meets_of claims.1.1.0)

  no_tomb : (entry : _) → given.header.shape ≡ shape.Tomb entry → ⊥
  no_tomb entry is =
      let says = tomb_says v.account (slot_of main) place.header.slot.node given.header.shape entry is place.header.is_shape in
      true≢false (sym branch ∙ ap is_branch says.1)

  no_list : (count : ℕ) → given.header.shape ≡ shape.List count → ⊥
  no_list count is =
      let says = list_says v.account (slot_of main) place.header.slot.node given.header.shape count is place.header.is_shape in
      true≢false (sym branch ∙ ap is_branch says.1)

  pub is_branch_there : ((entry : _) × (given.header.shape ≡ shape.Tomb entry)) ⊎ ((count : ℕ) × (given.header.shape ≡ shape.List count)) → ⊥
  is_branch_there (inl (entry, is)) = no_tomb entry is
  is_branch_there (inr (count, is)) = no_list count is

  by_result : (result : Renewed) (after : View) → RenewedBy v path result after → HasRenewedLast v slots result after
  by_result renewed.Reads after h = (path, h, are_at_on v after h.follows path slots place.places)
  by_result renewed.Again after h = h
  by_result renewed.Full after h = h

  pub renewed_done : (result : Renewed) (after : View) → HasRenewedBranch v result after → HasRenewedLast v slots result after
  renewed_done result after h = by_result result after (h path main at.3)

pub as_renewed : (v : View) (slots : List ℕ) (r q : Renewed) (w : View) → r ≡ q → HasRenewedLast v slots r w → HasRenewedLast v slots q w
as_renewed v slots r q w is h = subst (λ x. HasRenewedLast v slots x w) is h

-- ---- the last indirection but one is cleaned

below_by : (k : ℕ) → nat_lt 1 (k - 1) ≡ nat_lt 2 k
below_by k = elim (cases_lt 2 k) [
  | inl more ↦ lt-ltb 1 (k - 1) (omega (arith, more)) ∙ sym (lt-ltb 2 k more)
  | inr few ↦ le-ltb 1 (k - 1) (omega (arith, few)) ∙ sym (le-ltb 2 k (omega (arith, few)))
]

module _ (v : View) (slots : List ℕ) (at : IsToClean v slots) where
  abbrev whole : List Ref
  whole = at.0

  abbrev on_clean : IsOn v (line.Clean (clean.Read (above whole) (reading (current (above whole)))))
  on_clean = at.1

  long : length whole ≡ length slots
  long = as_long v whole slots at.2

  pub two : 1 < length slots
  two = subst (λ k. 1 < k) long at.3

  above_long : length (above whole) ≡ length slots - 1
  above_long = let some = at.3 in length-take-le (length whole - 1) whole (omega arith) ∙ ap (λ k. k - 1) long

  parent_is : current (above whole) ≡ get_or whole (length slots - 2) no_ref
  parent_is =
      let some = two in
      let same = long in
      let index : length (above whole) - 1 ≡ length slots - 2 = let l = above_long in omega (arith, l, some) in
      ap (λ k. get_or (above whole) k no_ref) index ∙ get_or-take (length whole - 1) whole (length slots - 2) no_ref (omega (arith, some, same))

  pub clean_ready : (below : Bool) → below ≡ nat_lt 2 (length slots) → IsAtClean v (get_or slots (length slots - 2) 0) below
  clean_ready below is =
      let some = two in (
        above whole,
        on_clean,
        subst (λ r. IsPlaced v r (get_or slots (length slots - 2) 0)) (sym parent_is) (at_index v whole slots at.2 (length slots - 2) (omega (arith, some))),
        ap (λ k. nat_lt 1 k) above_long ∙ below_by (length slots) ∙ sym is,
      )

  pub again : (after : View) → HasCleanedBelow v true after → HasSought v slots sought.Again after
  again after h = h (above whole) on_clean

  pub full : (after : View) → HasCleanedBelow v false after → HasSought v slots sought.Full after
  full after h = h (above whole) on_clean

-- ---- all of it

pub sought_later : (u v w : View) (a : Line) (slots : List ℕ) (result : Sought) → HasEndedAt a u v → HasSought v slots result w → HasSought u slots result w
sought_later u v w a slots (sought.Answers answer) e h = ended_both u v w a (line.End answer) e h
sought_later u v w a slots (sought.Changes update given) e h = record {
  path = h.path;
  main = h.main;
  other = h.other;
  ended = ended_both u v w a (line_updated h.path h.main h.other update) e h.ended;
  place = h.place;
  knows = h.knows;
}
sought_later u v w a slots sought.Again e h = ended_both u v w a new_try e h
sought_later u v w a slots sought.Full e h = gives_up_later u v w a reply.NoSlots e h

pub begins : (v : View) (task : Task) (slots : List ℕ) → IsTask v task → IsOnPath v slots → IsSeeking v task slots v
begins v task slots t on = record {
  path = on.0;
  ended = ended_moved v v (line.Key (key.Read on.0 (reading (current on.0)))) (moved_self v (line.Key (key.Read on.0 (reading (current on.0)))) on.1);
  places = on.2;
  some = on.3;
  its = t;
}

module _ (before : View) (first : List ℕ) (start : IsOnPath before first) (task : Task) (slots : List ℕ) (v : View) (s : IsSeeking before task slots v) where
  abbrev start_line : Line
  start_line = line.Key (key.Read start.0 (reading (current start.0)))

  abbrev read_line : Line
  read_line = line.Key (key.Read s.path (reading (current s.path)))

  on_read : IsOn v read_line
  on_read = on_ended before v start_line read_line start.1 s.ended

  pub path_ready : IsOnPath v slots
  path_ready = (s.path, on_read, s.places, s.some)

  -- the way down has come to this
  module _ (slots2 : List ℕ) (result : Found) (w : View) (h : HasFound v slots2 result w) where
    abbrev its_line : Line
    its_line = line_found h.path h.main h.other result

    ended_there : HasEndedAt its_line before w
    ended_there = ended_both before v w read_line its_line s.ended (ended_moved v w its_line h.moved)

    on_there : IsOn w its_line
    on_there = moves_on v read_line on_read w its_line h.moved

    pub task_there : IsTask w task
    task_there = task_moved v w (λ o. its_line) task on_read.0 on_read.1 h.moved s.its

    pub stock_there : (n : ℕ) → IsSound n v → (stock : Stocked) → IsStock stock v → IsStock stock w
    stock_there n sound stock is = stock_moved n v w sound on_read.0 on_read.1 stock is (λ o. its_line) h.moved

  -- its SWAP is under way
  pub found_leaves : (slots2 : List ℕ) (result : Found) (w : View) → HasFound v slots2 result w → (s : Swapping) (z : View) → LeavesSwap IsRepair w s z → LeavesSwap IsRepair before s z
  found_leaves slots2 result w h s z left =
      leaves_swap_on IsRepair before w z s (runs_on_ended before w (λ o. its_line slots2 result w h) (ended_there slots2 result w h)) left

  -- the way down is out of tries
  module _ (w : View) (h : IsSpent v w) where
    pub spent_stock : (n : ℕ) → IsSound n v → (stock : Stocked) → IsStock stock v → IsStock stock w
    spent_stock n sound stock is = halts_stock (λ o. reply.NoSlots) n v w sound read_line on_read h stock is

    pub spent_full : (slots2 : List ℕ) → HasSought before slots2 sought.Full w
    spent_full slots2 = gives_up_later before v w read_line reply.NoSlots s.ended (halts_gives (λ o. reply.NoSlots) v w h)

  pub seeking_full : HasSought before slots sought.Full v
  seeking_full = record { follows = s.ended.follows; runs = λ o r. (let x = s.ended.comes o r in (x.0, read_line, x.1, refl)) }

  pub answers : (slots2 : List ℕ) (answer : Reply) (w : View) → HasFound v slots2 (found.Answers answer) w → HasSought before slots2 (sought.Answers answer) w
  answers slots2 answer w h = ended_there slots2 (found.Answers answer) w h

  pub changes : (slots2 : List ℕ) (update : Update) (given : Given) (w : View) → HasFound v slots2 (found.Changes update given) w → HasSought before slots2 (sought.Changes update given) w
  changes slots2 update given w h = record {
    path = h.path;
    main = h.main;
    other = h.other;
    ended = ended_there slots2 (found.Changes update given) w h;
    place = h.knows.0;
    knows = h.knows.1;
  }

  module _ (slots2 : List ℕ) (w : View) (h : HasFound v slots2 found.Cleans w) where
    pub parent_ready : IsToClean w slots2
    parent_ready = (h.path, on_there slots2 found.Cleans w h, h.knows.0, h.knows.1)

    pub cleaned : (result : Sought) (after : View) → HasSought w slots2 result after → HasSought before slots2 result after
    cleaned result after e = sought_later before w after (its_line slots2 found.Cleans w h) slots2 result (ended_there slots2 found.Cleans w h) e

  module _ (slots2 : List ℕ) (given : Given) (w : View) (h : HasFound v slots2 (found.Renews given) w) where
    pub last_ready : IsHere w slots2 given (IsToRenew w)
    last_ready = (h.path, h.main, h.knows, on_there slots2 (found.Renews given) w h)

    pub last_some : (n : ℕ) → IsSound n w → 0 < length slots2
    last_some n sound =
        let claims = finds_now w (line.Renew (renew.Entry h.path h.main [])) (on_there slots2 (found.Renews given) w h) n sound in
        subst (λ k. 0 < k) (as_long w h.path slots2 h.knows.places) (ltb-true 0 (length h.path) (fact_of claims.1.0))

    pub reads_again : (n : ℕ) → IsSound n w → (after : View) → HasRenewedLast w slots2 renewed.Reads after → IsSeeking before task slots2 after
    reads_again n sound after e =
        let there = on_there slots2 (found.Renews given) w h in
        let l = line.Key (key.Read e.0 (reading (current e.0))) in
        record {
          path = e.0;
          ended = ended_both before w after (its_line slots2 (found.Renews given) w h) l (ended_there slots2 (found.Renews given) w h) e.1;
          places = e.2;
          some = last_some n sound;
          its = task_ended w after l task there.0 there.1 e.1 (task_there slots2 (found.Renews given) w h);
        }

    pub begins_anew : (after : View) → HasRenewedLast w slots2 renewed.Again after → HasSought before slots2 sought.Again after
    begins_anew after e = ended_both before w after (its_line slots2 (found.Renews given) w h) new_try (ended_there slots2 (found.Renews given) w h) e

    pub has_no_slot : (after : View) → HasRenewedLast w slots2 renewed.Full after → HasSought before slots2 sought.Full after
    has_no_slot after e = gives_up_later before w after (its_line slots2 (found.Renews given) w h) reply.NoSlots (ended_there slots2 (found.Renews given) w h) e
