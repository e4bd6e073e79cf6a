-- Closing a handle, access after access.
use Rattle.history.specs.declared.calls.Call.{Call}
use Rattle.std.proofs.Common.{◌≡◌, ℕ, inl, inr, Bool, true, false, List, Contains, Some, None, refl, sym, ap, subst, ◌∙◌}
use Rattle.std.proofs.lemmas.Bool.{false≢true}
use Rattle.std.proofs.lemmas.Option.{none-some}
use Rattle.trie_words.specs.Codes.{IsRootWord, root_code}
use Rattle.trie_words.specs.declared.roots.RootWord.{RootWord}
use Rattle.trie_words.specs.declared.roots.RootWord.TheVariants as word
use Rattle.machine_model.specs.Beneath.slot_arena.specs.declared.refs.Ref.{Ref}
use Rattle.lock_free.specs.declared.reclaiming.Kind.TheVariants as kinds
use Rattle.lock_free.specs.declared.rules.Checked.{Checked}
use Rattle.lock_free.specs.declared.rules.Closing.{Closing}
use Rattle.lock_free.specs.declared.rules.Pinned.{Pinned}
use Rattle.lock_free.specs.declared.rules.View.{View}
use Rattle.lock_free.specs.Closing.{with_marks, HasMarkedAndShut, HasShutIt, RestsAs, ShutPinned, Watched}
use Rattle.lock_free.specs.Counts.{without_one}
use Rattle.lock_free.specs.Glances.{clearing}
use Rattle.lock_free.specs.HandleWords.{is_unmarked, marked_by, marking, owes_closed, ShutBy}
use Rattle.lock_free.specs.Limbos.{hanging_of}
use Rattle.lock_free.specs.Loading.{IsSound, Saw}
use Rattle.lock_free.specs.Places.{small_class}
use Rattle.lock_free.specs.Raising.{HasKept, OwesOne}
use Rattle.lock_free.specs.Rules.{SaysClosing}
use Rattle.lock_free.specs.Seated.{IsResting}
use Rattle.lock_free.specs.SeatWords.{pinned_for, unpinned, IsIdle, WouldClose}
use Rattle.lock_free.specs.Stocks.{IsStock, Stocked}
use Rattle.lock_free.proofs.BetweenCalls.{idle_stock}
use Rattle.lock_free.proofs.CopyGifts.{one_gone}
use Rattle.lock_free.proofs.OneStep.Idle.{idle_stays}
use Rattle.lock_free.proofs.Pools.{first_there}

-- what is sound stays so with other marks
pub marks_sound : (words : ℕ) (v : View) (marks : List Closing) (passed : Checked) → IsSound words v → IsSound words (with_marks v marks passed)
marks_sound words v marks passed h = record { size = h.size; range = h.range; bounds = h.bounds; keys = h.keys; counted = h.counted; inside = h.inside; free = h.free }

-- ---- it looks at pins

-- it has looked at so many
pub record Passed (before v : View) (handle looked : ℕ) : Type 0 where
  pub marks : List Closing
  pub is : v ≡ with_marks before marks before.passed
  pub would : WouldClose v handle looked

pub none_passed : (before : View) (handle : ℕ) → WouldClose before handle 0 → Passed before before handle 0
none_passed before handle would = record { marks = before.closing; is = refl; would = would }

pub passed_sound : (words : ℕ) (before v : View) (handle looked : ℕ) → Passed before v handle looked → IsSound words before → IsSound words v
passed_sound words before v handle looked p sound = subst (IsSound words) (sym p.is) (marks_sound words before p.marks before.passed sound)

-- it has let glances fall before
pub fell_and_passed : (v u w : View) → u ≡ clearing v → ((marks : List Closing) × (w ≡ with_marks u marks u.passed)) → (marks : List Closing) × (w ≡ with_marks v marks (clearing v).passed)
fell_and_passed v u w fell (marks, is) = (marks, is ∙ ap (λ (x : View). with_marks x marks x.passed) fell)

-- ---- it marks the handle, and closes it

-- a word that this seat has marked says that it would close the handle
pub says_marked : (w : RootWord) (seat : ℕ) → is_unmarked w ≡ true → IsRootWord (marked_by seat w) → SaysClosing (root_code (marked_by seat w)) seat
says_marked (word.Writable slot) seat e fits = inl (slot, fits, refl)
says_marked (word.ReadOnly slot) seat e fits = inr (slot, fits, refl)
says_marked w seat e fits = absurd (false≢true e)

-- who ran nothing runs nothing
pub idle_seen : (before after : View) (s : Saw before after) → IsIdle before → IsIdle after
idle_seen before after s idle = subst IsIdle (sym s.after_is) (idle_stays before.sizes before.actor before.account s.account s.waited.waited s.waited.sound.bounds idle)

-- ---- pinned nowhere, it is as it was

rests_so : (v : View) → v.pin ≡ None → v.entered ≡ None → v ≡ record v { pin = None; entered = None }
rests_so v free outside = ap (λ p. record v { pin = p }) free ∙ ap (λ e. record v { pin = None; entered = e }) outside

-- but for its marks
pub rests_marks : (v : View) (marks : List Closing) (passed : Checked) → IsResting v → RestsAs v (with_marks v marks passed)
rests_marks v marks passed r = record { is = ap (λ (x : View). with_marks x marks passed) (rests_so v r.pin r.entered) }

pub rests_self : (v : View) → IsResting v → RestsAs v v
rests_self v r = rests_marks v v.closing v.passed r

pub rests_pinned : (v : View) (marks : List Closing) (passed : Checked) (pinned : Pinned) (call : Call) → RestsAs v (unpinned (pinned_for (with_marks v marks passed) pinned call))
rests_pinned v marks passed pinned call = record { is = refl }

pub resting_seen : (v w : View) → Saw v w → IsResting v → IsResting w
resting_seen v w s r = record {
  idle = idle_seen v w s r.idle;
  pin = ap (λ (x : View). x.pin) s.after_is ∙ r.pin;
  entered = ap (λ (x : View). x.entered) s.after_is ∙ r.entered;
  opens = ap (λ (x : View). x.opens) s.after_is ∙ r.opens;
}

pub resting_marks : (v : View) (marks : List Closing) (passed : Checked) → IsResting v → IsResting (with_marks v marks passed)
resting_marks v marks passed r = record { idle = r.idle; pin = r.pin; entered = r.entered; opens = r.opens }

-- ---- its stock

pub marks_stock : (stock : Stocked) (v : View) (marks : List Closing) (passed : Checked) → IsIdle v → IsStock stock v → IsStock stock (with_marks v marks passed)
marks_stock stock v marks passed idle is = idle_stock stock v (with_marks v marks passed) idle idle refl refl is

pub seen_stock : (stock : Stocked) (v w : View) → Saw v w → IsIdle v → IsStock stock v → IsStock stock w
seen_stock stock v w s idle is = idle_stock stock v w idle (idle_seen v w s idle) (ap hanging_of s.after_is) (ap (λ (x : View). x.pool) s.after_is) is

-- ---- the root is let go of

module _ (v : View) (handle name : ℕ) (y : View) (s : ShutBy v handle name y) where
  pub closed_stock : (stock : Stocked) → IsIdle v → IsStock stock v → IsStock stock y
  closed_stock stock idle is = idle_stock stock v y idle s.idle (ap hanging_of s.after_is) (ap (λ (x : View). x.pool) s.after_is) is

  module _ (pinned : Pinned) (is : v.pin ≡ Some pinned) where
    pub root_owed : Contains y.owed s.root
    root_owed =
        subst (λ ks. Contains ks s.root) (sym (ap (λ (x : View). x.owed) s.after_is ∙ ap (λ p. owes_closed p s.root v.owed) is)) (first_there s.root v.owed)

    pub root_owes : OwesOne y s.root kinds.Indirection small_class name
    root_owes = ((root_owed, s.there, λ operation runs c. absurd (none-some operation (sym s.idle ∙ runs))), s.its_kind)

    pub has_shut : (z : View) → HasKept y (without_one s.root y.owed) z → HasShutIt v handle z
    has_shut z kept = record { name = name; closed = y; shuts = s; released = one_gone y s.root kinds.Indirection small_class name root_owed z kept }

  pub kept_same : (owed : List Ref) (z : View) → HasKept y owed z → (z.sizes ≡ v.sizes) × (z.actor ≡ v.actor) × IsIdle z
  kept_same owed z kept = (
    ap (λ (x : View). x.sizes) kept.is ∙ ap (λ (x : View). x.sizes) s.after_is,
    ap (λ (x : View). x.actor) kept.is ∙ ap (λ (x : View). x.actor) s.after_is,
    subst IsIdle (sym kept.is) s.idle,
  )

-- ---- it is marked before

pub marked_shut : (v : View) (handle : ℕ) (closed : Bool) (w : View) → HasMarkedAndShut (marking v handle) handle closed w → HasMarkedAndShut v handle closed w
marked_shut v handle closed w h = (h.0, λ e. record { is = (h.1 e).is })

pub passed_shut : (v : View) (marks : List Closing) (passed : Checked) (handle : ℕ) (closed : Bool) (w : View) → ShutPinned (with_marks v marks passed) handle closed w →
    HasMarkedAndShut v handle closed w
passed_shut v marks passed handle closed w h = (
  λ e. (marks, passed, subst (λ b. ShutPinned (with_marks v marks passed) handle b w) e h),
  λ e. unshut (subst (λ b. ShutPinned (with_marks v marks passed) handle b w) e h),
)
  where
    unshut : ShutPinned (with_marks v marks passed) handle false w → RestsAs v w
    unshut n = subst (RestsAs v) (sym (n.after_is ∙ ap unpinned n.shut)) (rests_pinned v marks passed n.pinned n.call)

-- ---- all of it

pub watched_saw : (before after : View) → Saw before after → IsResting before → Watched before after
watched_saw before after s r = record { at = after; saw = s; rests = rests_self after (resting_seen before after s r) }
