-- What is kept of each slot, when a main node is committed.
use Rattle.std.proofs.Common.{◌≡◌, ℕ, zero, suc, ◌==◌, ◌<◌, ◌≤◌, Bool, true, false, cond, List, [], ◌∷◌, ◌++◌}
use Rattle.std.proofs.Common.{length, set, find, All, replicate, if◌then◌else◌, Some, None, refl, sym, ap, ◌∙◌, subst, arith, eq-eqb, eqb-true}
use Rattle.std.proofs.lemmas.Bool.{false≢true}
use Rattle.std.proofs.lemmas.List.{get_or-set_same, get_or-set_other}
use Rattle.std.proofs.lemmas.List.Elements.{All-push, All-pop, All-nil, All-head, All-tail}
use Rattle.slot_arena.specs.declared.refs.Ref.{Ref}
use Rattle.slot_arena.specs.Refs.{slot_of}
use Rattle.machine_model.specs.declared.records.Commit.{Commit}
use Rattle.machine_model.specs.Records.{step_of_commit}
use Rattle.chronicle.specs.Committed.{commit_step, kept_of, no_commit, step_for, IsNewestCommitted, AreLatest}
use Rattle.chronicle.proofs.Slots.{alike, get_or-replicate_same, newer_if_other, newer_isnt_there, other_slot}

-- ---- a commit behind the others

-- is found where none was
step_first : (commits : List Commit) (m : Ref) (s : ℕ) → All (λ commit. 0 < commit.step) commits → commit_step commits m ≡ 0 →
    commit_step (commits ++ record { main = m; step = s } ∷ []) m ≡ s
step_first [] m s late e = ap (λ b. step_of_commit (cond b (Some (record { main = m; step = s })) None)) (eq-eqb m m refl)
step_first (x ∷ commits) m s late e = by (x.main == m) (step_first commits m s (All-tail (λ (c : Commit). 0 < c.step) x commits late)) e
  where
    by : (b : Bool) → (commit_step commits m ≡ 0 → commit_step (commits ++ record { main = m; step = s } ∷ []) m ≡ s) →
        step_of_commit (cond b (Some x) (find (λ c. c.main == m) commits)) ≡ 0 →
        step_of_commit (cond b (Some x) (find (λ c. c.main == m) (commits ++ record { main = m; step = s } ∷ []))) ≡ s
    by true rest none = absurd (let begun = All-head (λ (c : Commit). 0 < c.step) x commits late in omega (arith, begun, none))
    by false rest none = rest none

-- leaves what was found
step_kept : (commits more : List Commit) (m : Ref) → 0 < commit_step commits m → commit_step (commits ++ more) m ≡ commit_step commits m
step_kept [] more m some = absurd (omega (arith, some))
step_kept (x ∷ commits) more m some = by (x.main == m) (step_kept commits more m) some
  where
    by : (b : Bool) → (0 < commit_step commits m → commit_step (commits ++ more) m ≡ commit_step commits m) →
        0 < step_of_commit (cond b (Some x) (find (λ c. c.main == m) commits)) →
        step_of_commit (cond b (Some x) (find (λ c. c.main == m) (commits ++ more))) ≡ step_of_commit (cond b (Some x) (find (λ c. c.main == m) commits))
    by true rest found = refl
    by false rest found = rest found

-- and other nodes
step_other : (commits : List Commit) (m q : Ref) (s : ℕ) → (m == q) ≡ false → commit_step (commits ++ record { main = m; step = s } ∷ []) q ≡ commit_step commits q
step_other [] m q s e = ap (λ b. step_of_commit (cond b (Some (record { main = m; step = s })) None)) e
step_other (x ∷ commits) m q s e = by (x.main == q) (step_other commits m q s e)
  where
    by : (b : Bool) → commit_step (commits ++ record { main = m; step = s } ∷ []) q ≡ commit_step commits q →
        step_of_commit (cond b (Some x) (find (λ c. c.main == q) (commits ++ record { main = m; step = s } ∷ []))) ≡ step_of_commit (cond b (Some x) (find (λ c. c.main == q) commits))
    by true rest = refl
    by false rest = rest

-- ---- what is kept

pub none_latest : (slots : ℕ) → AreLatest (replicate slots no_commit) []
none_latest slots = record {
  says = λ main newest. ap (λ c. step_for c main) (get_or-replicate_same slots (slot_of main) no_commit) ∙ nothing main;
  begun = All-nil (λ (c : Commit). 0 < c.step);
}
  where
    nothing : (main : Ref) → step_for no_commit main ≡ 0
    nothing main = alike (0 == main) 0

-- a commit more
pub latest_noted : (latest after commits : List Commit) (m : Ref) (s committed : ℕ) → AreLatest latest commits → IsNewestCommitted commits m → 0 < s → slot_of m < length latest →
    committed ≡ commit_step commits m → after ≡ (if committed == 0 then set latest (slot_of m) (record { main = m; step = s }) else latest) →
    AreLatest after (commits ++ record { main = m; step = s } ∷ [])
latest_noted latest after commits m s committed h newest begun within told is = record {
  says = λ q newest_now. by q newest_now (m == q) refl;
  begun = All-push (λ (c : Commit). 0 < c.step) commits now h.begun begun;
}
  where
    now : Commit
    now = record { main = m; step = s }

    above : (n : ℕ) → (n == 0) ≡ false → 0 < n
    above zero e = absurd (false≢true (sym e ∙ eq-eqb 0 0 refl))
    above (suc n) e = omega arith

    -- of the node itself
    itself : (b : Bool) → (committed == 0) ≡ b → after ≡ cond b (set latest (slot_of m) now) latest → step_for (kept_of after (slot_of m)) m ≡ commit_step (commits ++ now ∷ []) m
    itself true e now_is =
        ap (λ l. step_for (kept_of l (slot_of m)) m) now_is
        ∙ ap (λ c. step_for c m) (get_or-set_same latest (slot_of m) now no_commit within)
        ∙ ap (λ b. cond b s 0) (eq-eqb m m refl)
        ∙ sym (step_first commits m s h.begun (sym told ∙ eqb-true committed 0 e))
    itself false e now_is =
        ap (λ l. step_for (kept_of l (slot_of m)) m) now_is
        ∙ h.says m newest
        ∙ sym (step_kept commits (now ∷ []) m (omega (arith, told, above committed e)))

    -- of another of its slot, which is newer
    newer : (q : Ref) → IsNewestCommitted commits q → slot_of m ≡ slot_of q → m < q → (m == q) ≡ false → (b : Bool) → (committed == 0) ≡ b → after ≡ cond b (set latest (slot_of m) now) latest →
        step_for (kept_of after (slot_of q)) q ≡ commit_step commits q
    newer q front slots less apart true e now_is =
        ap (λ l. step_for (kept_of l (slot_of q)) q) now_is
        ∙ ap (λ i. step_for (kept_of (set latest (slot_of m) now) i) q) (sym slots)
        ∙ ap (λ c. step_for c q) (get_or-set_same latest (slot_of m) now no_commit within)
        ∙ ap (λ b. cond b s 0) apart
        ∙ sym (ap step_of_commit (newer_isnt_there (λ (c : Commit). c.main) commits m q newest slots less))
    newer q front slots less apart false e now_is = ap (λ l. step_for (kept_of l (slot_of q)) q) now_is ∙ h.says q front

    -- of one of another slot
    there : (q : Ref) → IsNewestCommitted commits q → (slot_of q == slot_of m) ≡ false → (b : Bool) → (committed == 0) ≡ b → after ≡ cond b (set latest (slot_of m) now) latest →
        step_for (kept_of after (slot_of q)) q ≡ commit_step commits q
    there q front apart true e now_is =
        ap (λ l. step_for (kept_of l (slot_of q)) q) now_is
        ∙ ap (λ c. step_for c q) (get_or-set_other latest (slot_of m) (slot_of q) now no_commit (other_slot m q apart))
        ∙ h.says q front
    there q front apart false e now_is = ap (λ l. step_for (kept_of l (slot_of q)) q) now_is ∙ h.says q front

    parts : (q : Ref) → IsNewestCommitted (commits ++ now ∷ []) q → IsNewestCommitted commits q × (slot_of m ≡ slot_of q → m ≤ q)
    parts q = All-pop (λ (c : Commit). slot_of c.main ≡ slot_of q → c.main ≤ q) (commits ++ now ∷ []) commits (Some now) refl

    another : (q : Ref) → IsNewestCommitted (commits ++ now ∷ []) q → (m == q) ≡ false → (b : Bool) → (slot_of q == slot_of m) ≡ b → step_for (kept_of after (slot_of q)) q ≡ commit_step commits q
    another q newest_now apart true slots =
        let same = sym (eqb-true (slot_of q) (slot_of m) slots) in
        newer q (parts q newest_now).0 same (newer_if_other m q ((parts q newest_now).1 same) apart) apart (committed == 0) refl is
    another q newest_now apart false slots = there q (parts q newest_now).0 slots (committed == 0) refl is

    by : (q : Ref) → IsNewestCommitted (commits ++ now ∷ []) q → (b : Bool) → (m == q) ≡ b → step_for (kept_of after (slot_of q)) q ≡ commit_step (commits ++ now ∷ []) q
    by q newest_now true e =
        subst (λ r. step_for (kept_of after (slot_of r)) r ≡ commit_step (commits ++ now ∷ []) r) (eqb-true m q e) (itself (committed == 0) refl is)
    by q newest_now false e = another q newest_now e (slot_of q == slot_of m) refl ∙ sym (step_other commits m q s e)
