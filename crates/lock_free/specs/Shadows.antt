-- The rule of the words where seats may glance. A seat that glances is pinned, and no word says so: what it has seen counts as long as one word, which counts up,
-- is what it was. Once that has grown others may have ended its operation for it. So the rule is of shadows: each seat as it is, and one that glances as it
-- would be if its pin were known, or once its operation has ended.
use Rattle.history.specs.declared.calls.Call.{Call}
use Rattle.history.specs.declared.replies.Reply.{Reply}
use Rattle.std.specs.Prelude.{◌≡◌, ◌+◌, ◌^◌, ◌<◌, ◌≤◌, ◌⊎◌, ℕ, List, [], ◌∷◌, Some, None, false, slice_index}
use Rattle.atomic_table.specs.Table as Table
use Rattle.machine_model.specs.declared.operations.Operation.{Operation}
use Rattle.machine_model.specs.GivingUp.{given_up}
use Rattle.lock_free.specs.declared.rules.Glance.{Glance}
use Rattle.lock_free.specs.declared.rules.Pinned.{Pinned}
use Rattle.lock_free.specs.declared.rules.View.{View}
use Rattle.lock_free.specs.declared.sizes.Sizes.{Sizes}
use Rattle.lock_free.specs.Calling.{GaveUp, MayGiveUp}
use Rattle.lock_free.specs.Loading.{IsSound, Runs}
use Rattle.lock_free.specs.Places.{glance_word, words_of}
use Rattle.lock_free.specs.Rules.{IsRuled, IsShown}
use Rattle.lock_free.specs.SeatWords.{unpinned, HasEnded, IsIdle}

-- ---- a seat that glances

-- what a seat that glances knows, as one that is pinned
abbrev pub inner : View → Glance → View
inner v g = record v { sizes = g.sizes; glance = None }

-- it is pinned, no word says so, and it runs nothing yet, or its operation may give up
pub record IsHidden (w : View) : Type 0 where
  pub pinned : Pinned
  pub is : w.pin ≡ Some pinned
  pub hidden : pinned.shown ≡ false
  pub may : IsIdle w ⊎ MayGiveUp w
  pub plain : w.glance ≡ None
  pub seats : 1 ≤ w.sizes.seats

-- its operation was ended for it: it had given up
pub record WasEnded (before after : View) : Type 0 where
  pub operation : Operation
  pub answer : Reply
  pub ran : Runs before operation
  pub may : given_up operation.call operation.line ≡ Some answer
  pub at : View
  pub gave_up : GaveUp before operation answer at
  pub ended : HasEnded at answer after
  pub sound : IsSound (words_of before.sizes) after
  pub plain : after.glance ≡ None

-- It isn't pinned any more, and runs nothing.
pub data HasFallen (before after : View) : Type 0 where
  unpinned_only : IsIdle before → before.glance ≡ None → after ≡ unpinned before → HasFallen before after
  was_ended : WasEnded before after → HasFallen before after

-- ---- what the rule is of

-- the seat as it is; as it glances; or as one whose operation has ended
pub data IsShadow (count : ℕ) (v w : View) : Type 0 where
  itself : v.glance ≡ None → w ≡ v → IsShown v → IsShadow count v w
  alive : (g : Glance) → v.glance ≡ Some g → v.sizes.seats ≡ 0 → g.lost ≡ false → g.read ≡ count → count + 1 < 2 ^ 64 → w ≡ inner v g → IsHidden w → IsShadow count v w
  fallen : (g : Glance) → v.glance ≡ Some g → v.sizes.seats ≡ 0 → g.read < count → HasFallen (inner v g) w → IsShadow count v w

-- one after the other
pub data AreShadows (count : ℕ) : List View → List View → Type 0 where
  none : AreShadows count [] []
  more : (v w : View) (vs ws : List View) → IsShadow count v w → AreShadows count vs ws → AreShadows count (v ∷ vs) (w ∷ ws)

abbrev pub with_views : Table.State Call View → List View → Table.State Call View
with_views s views = record { words = s.words; homes = s.homes; views = views }

pub record IsShadowed (sizes : Sizes) (s : Table.State Call View) : Type 0 where
  pub shadows : List View
  pub ruled : IsRuled sizes (with_views s shadows)
  pub are : AreShadows (slice_index s.words glance_word) s.views shadows
