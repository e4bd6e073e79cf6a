-- A key that one actor alone has called on, as the seats of a map that has ended know.
use Rattle.std.specs.Prelude.{◌≡◌, ◌≢◌, ◌≤◌, ℕ, false, All, List, filter, Contains, Option, Some, None}
use Rattle.lock_free.specs.declared.rules.View.{View}
use Rattle.lock_free.specs.declared.sizes.Sizes.{Sizes}
use Rattle.lock_free.specs.Answers.{Begun, Talk, silent, talk_at}
use Rattle.lock_free.specs.Finishing.{IsTold}
use Rattle.lock_free.specs.OneKey.{is_on, touches, KeyReplays}
use Rattle.lock_free.specs.FirstViews.{first_view}
use Rattle.lock_free.specs.Rules.{HasActor}
use Rattle.lock_free.specs.SeatWords.{IsIdle}

-- what an actor has called, and what it runs, doesn't touch the key
pub record KeepsOff (handle key : ℕ) (talk : Talk) : Type 0 where
  pub answered : All (λ a. touches handle key a.of.call a.of.opens ≡ false) talk.answers
  pub runs : (it : Begun) → talk.runs ≡ Some it → touches handle key it.call it.opens ≡ false

-- these seats have all actors of the map
abbrev pub HaveAll : Sizes → List View → Type 0
HaveAll sizes views = (a : ℕ) → 1 ≤ a → a ≤ sizes.seats → (v : View) × Contains views v × HasActor v a

-- A law for clients: where a map has ended with all its seats, and but for one none has called on a key of a handle, as each knows, this seat's calls on it were
-- answered one after the other as on a map of this key alone.
abbrev pub KeysApartAreAnswered : Type 0
KeysApartAreAnswered =
    (sizes : Sizes) (views : List View) → IsTold sizes views → All (λ v. v.sizes ≡ sizes) views → HaveAll sizes views → (handle key : ℕ) (own : View) → Contains views own →
    ((v : View) → Contains views v → v.actor ≢ own.actor → KeepsOff handle key (talk_at v v.actor)) →
    (last : Option ℕ) × KeyReplays (filter (is_on handle key) (talk_at own own.actor).answers) None last

-- ---- what a seat knows of its own actor

-- a seat that rests runs nothing
abbrev pub RestingSeatsRunNothing : Type 0
RestingSeatsRunNothing = (v : View) → IsIdle v → (talk_at v v.actor).runs ≡ None

-- at first nobody was told anything
abbrev pub FirstSeatIsSilent : Type 0
FirstSeatIsSilent = (sizes : Sizes) (actor : ℕ) → talk_at (first_view sizes) actor ≡ silent
