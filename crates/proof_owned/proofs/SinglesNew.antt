-- New singles: an operation has just made the one that its line holds, and the main node that it makes next is the first that names it.
use Rattle.std.proofs.Common.{◌≡◌, ℕ, suc, ◌<◌, ◌⊎◌, true, false, Option, Some, None, is_some, take, set, inl, inr, refl, sym, ◌∙◌, ap, arith}
use Rattle.std.specs.Prelude.{slice_index_or}
use Rattle.std.proofs.lemmas.Bool.{true≢false}
use Rattle.std.proofs.lemmas.Option.{same_Some}
use Rattle.arrayvec.specs.ArrayVec.{ArrayVec}
use Rattle.proof_shape.specs.Vocabulary.{Branch, Slot, grown}
use Rattle.proof_owned.specs.Beneath.proof_generations.proofs.Counter.Drawn.{new_is_made}
use Rattle.proof_owned.specs.Beneath.proof_memory.proofs.Heap.Moves.{word_move}
use Rattle.proof_shape.specs.Vocabulary.{Ref, Indirection, Single, entries_of, next_ref, no_ref, Line, Bounds, State}
use Rattle.proof_shape.specs.Vocabulary.{node_under, IsRun, operation_of, main_word}
use Rattle.proof_owned.specs.Beneath.machine_model.specs.declared.building.BuildLine.TheVariants as build
use Rattle.proof_owned.specs.Beneath.machine_model.specs.declared.building.Change.TheVariants as change
use Rattle.proof_owned.specs.Beneath.machine_model.specs.declared.lines.Line.TheVariants as line
use Rattle.proof_owned.specs.Beneath.machine_model.specs.declared.lines.Purpose.TheVariants as purpose
use Rattle.proof_owned.specs.Beneath.proof_memory.specs.Wants.{is_indirection}
use Rattle.proof_owned.specs.Beneath.proof_contents.specs.Runs.{is_made}
use Rattle.proof_owned.specs.Beneath.proof_commits.specs.Protocol.{Builds}
use Rattle.proof_owned.specs.Beneath.proof_commits.specs.Stages.{stage_of_actor}
use Rattle.proof_shape.specs.Lines.Knowing.{first_main}
use Rattle.proof_shape.proofs.Held.Fresh.{Names}
use Rattle.proof_shape.proofs.Runs.Takers.{taker}
use Rattle.proof_owned.proofs.Earlier.{order, same_time}

module _ {limits : Bounds} {states : ℕ → State} {last : ℕ} (run : IsRun limits states last) where
  -- the actor made the single, and nothing since
  pub record IsLatest (t k : ℕ) (s : Ref) : Type 0 where
    pub at : ℕ
    pub past : at < t
    pub before : is_made states at s ≡ false
    pub after : is_made states (suc at) s ≡ true
    pub takes : taker run at ≡ k
    pub nothing : (u : ℕ) → at < u → u < t → taker run u ≡ k → (n : Ref) → is_made states u n ≡ false → is_made states (suc u) n ≡ true → ⊥
    pub single : (key : ℕ) × (value : ℕ) × (node_under states last s ≡ Single key value)

  -- the main node is the first that names it
  pub record IsFirst (m s : Ref) : Type 0 where
    pub at : ℕ
    pub within : at < last
    pub before : is_made states at m ≡ false
    pub after : is_made states (suc at) m ≡ true
    pub latest : IsLatest at (taker run at) s

  -- BUILD made the indirection over the main node that it had made
  pub record IsBuilt (c : Ref) : Type 0 where
    pub at : ℕ
    pub within : at < last
    pub actor : ℕ
    pub stage : stage_of_actor (operation_of (states at) actor) ≡ Builds (first_main states last c)
    pub was : is_indirection (node_under states at c) ≡ false
    pub is : is_indirection (node_under states (suc at) c) ≡ true
    pub main : main_word states (suc at) c ≡ first_main states last c
    pub link : (h : ℕ) × (word : Ref) × (node_under states last c ≡ Indirection h word)

  -- a main node that BUILD makes beside an older single: it names that one and a new one, or an indirection over such a node
  pub data IsBeside (old : Ref) : Ref → Type 0 where
    ends : (q : Ref) → ((y : Ref) → Names run q y → (y ≡ old) ⊎ IsFirst q y) → IsBeside old q
    goes_on : (q c : Ref) → ((y : Ref) → Names run q y → y ≡ c) → IsBuilt c → IsBeside old (first_main states last c) → IsBeside old q

  -- the entry at this position
  abbrev pub entry_in : Ref → ℕ → Ref
  entry_in main position = slice_index_or (entries_of (node_under states last main)) position no_ref

  -- in its place an indirection comes over it
  pub record IsMoved (a f y : Ref) : Type 0 where
    pub bitmap : ℕ
    pub entries : ArrayVec Ref
    pub branch : node_under states last a ≡ Branch bitmap entries
    pub position : ℕ
    pub built : IsBuilt y
    pub beside : IsBeside (entry_in a position) (first_main states last y)
    pub rest : entries_of (node_under states last f) ≡ take 32 (set (entries_of (node_under states last a)) position y)

  -- each entry of the fresh node stood in the one before, or is a new single or an indirection over one that stood there
  abbrev pub IsChanged : Ref → Ref → Type 0
  IsChanged a f = (y : Ref) → Names run f y → Names run a y ⊎ (IsFirst f y ⊎ IsMoved a f y)

  abbrev pub Carries : ℕ → ℕ → Line → Type 0
  Carries t k (line.Build (build.Pair path main position single depth)) = IsLatest t k single
  Carries t k (line.Build (build.Link path main position below depth)) = IsBeside (entry_in main position) below
  Carries t k (line.Build (build.Rung path main position below depth)) = IsBuilt below × IsBeside (entry_in main position) (first_main states last below)
  Carries t k (line.Build (build.Main path main (change.Insert s) former)) = IsLatest t k s
  Carries t k (line.Build (build.Main path main (change.Update position e) former)) = IsLatest t k e ⊎ (IsBuilt e × IsBeside (entry_in main position) (first_main states last e))
  Carries t k (line.Swap (purpose.Update path former) s) = IsChanged s.replaced s.fresh
  Carries t k l = Unit {0}

  -- ---- others' steps

  latest_still : (t k : ℕ) (s : Ref) → (taker run t ≡ k → ⊥) → IsLatest t k s → IsLatest (suc t) k s
  latest_still t k s apart x = record {
    at = x.at;
    past = omega (arith, x.past);
    before = x.before;
    after = x.after;
    takes = x.takes;
    nothing = λ u low below it n b a. by u low below it n b a (order u t below);
    single = x.single;
  }
    where
      order : (u t : ℕ) → u < suc t → (u < t) ⊎ (u ≡ t)
      order u t h = grind arith

      by : (u : ℕ) → x.at < u → u < suc t → taker run u ≡ k → (n : Ref) → is_made states u n ≡ false → is_made states (suc u) n ≡ true → (u < t) ⊎ (u ≡ t) → ⊥
      by u low below it n b a (inl less) = x.nothing u low less it n b a
      by u low below it n b a (inr same) = apart (ap (taker run) (sym same) ∙ it)

  pub carries_still : (t k : ℕ) → (taker run t ≡ k → ⊥) → (l : Line) → Carries t k l → Carries (suc t) k l
  carries_still t k apart (line.Build (build.Pair path main position single depth)) x = latest_still t k single apart x
  carries_still t k apart (line.Build (build.Main path main (change.Insert s) former)) x = latest_still t k s apart x
  carries_still t k apart (line.Build (build.Main path main (change.Update position e) former)) (inl x) = inl (latest_still t k e apart x)
  carries_still t k apart (line.Build (build.Main path main (change.Update position e) former)) (inr x) = inr x
  carries_still t k apart (line.Build (build.Main path main (change.Remove position) former)) x = tt
  carries_still t k apart (line.Build (build.Main path main (change.Entomb s) former)) x = tt
  carries_still t k apart (line.Build (build.Link path main position below depth)) x = x
  carries_still t k apart (line.Build (build.Rung path main position below depth)) x = x
  carries_still t k apart (line.Build (build.Single path main s former)) x = tt
  carries_still t k apart (line.Swap (purpose.Update path former) s) x = x
  carries_still t k apart (line.Swap (purpose.Renew path) s) x = tt
  carries_still t k apart (line.Swap purpose.Clean s) x = tt
  carries_still t k apart (line.Swap (purpose.Climb c) s) x = tt
  carries_still t k apart (line.Root l) x = tt
  carries_still t k apart (line.Key l) x = tt
  carries_still t k apart (line.Renew l) x = tt
  carries_still t k apart (line.Clean l) x = tt
  carries_still t k apart (line.Climb l) x = tt
  carries_still t k apart (line.Copy l) x = tt
  carries_still t k apart (line.Walk l) x = tt
  carries_still t k apart (line.End answer) x = tt
  carries_still t k apart line.Impossible x = tt

  -- ---- it is new in one node

  takes_next : (t : ℕ) → t < last → (m : Ref) (was now : Option Slot) → grown states t m ≡ was → grown states (suc t) m ≡ now → is_some was ≡ false → is_some now ≡ true →
      next_ref (states t).heap ≡ Some m
  takes_next t lt m None None e f none some = absurd (true≢false (sym some))
  takes_next t lt m None (Some slot) e f none some = (new_is_made (states t) (grown states t) (grown states (suc t)) (word_move run t lt) m slot e f).takes
  takes_next t lt m (Some slot) now e f none some = absurd (true≢false none)

  pub first_once : (m n s : Ref) → IsFirst m s → IsFirst n s → m ≡ n
  first_once m n s a b = by (order a.at b.at)
    where
      made_at : a.latest.at ≡ b.latest.at
      made_at = same_time states a.latest.at b.latest.at s a.latest.before a.latest.after b.latest.before b.latest.after

      one_taker : taker run a.at ≡ taker run b.at
      one_taker = sym a.latest.takes ∙ ap (taker run) made_at ∙ b.latest.takes

      by : (a.at ≡ b.at) ⊎ ((a.at < b.at) ⊎ (b.at < a.at)) → m ≡ n
      by (inl same) =
          same_Some _ _ (sym (takes_next a.at a.within m (grown states a.at m) (grown states (suc a.at) m) refl refl a.before a.after) ∙ ap (λ u. next_ref (states u).heap) same
          ∙ takes_next b.at b.within n (grown states b.at n) (grown states (suc b.at) n) refl refl b.before b.after)
      by (inr (inl lt)) = absurd (b.latest.nothing a.at (omega (arith, a.latest.past, made_at)) lt one_taker m a.before a.after)
      by (inr (inr lt)) = absurd (a.latest.nothing b.at (omega (arith, b.latest.past, made_at)) lt (sym one_taker) n b.before b.after)
