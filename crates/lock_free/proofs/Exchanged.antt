-- An exchange of a word that is the operation's step, whether it finds what it was to replace or not.
use Rattle.history.specs.declared.calls.Call.{Call}
use Rattle.std.proofs.Common.{◌≡◌, ◌≢◌, ◌==◌, ℕ, Bool, List, set, slice_index, refl, sym, ap, subst, ◌∙◌}
use Rattle.std.proofs.lemmas.List.{set-get_or}
use mathlib.Core.Option.{some, none}
use lib.ListN.{get_elem?}
use prog.Atomic.{either}
use Rattle.atomic_table.specs.Table.{Me, Allows, step}
use Rattle.atomic_table.specs.Table as Table
use Rattle.atomic_table.proofs.Lists.{exchanged}
use Rattle.machine_model.specs.declared.operations.Operation.{Operation}
use Rattle.lock_free.specs.declared.accounts.Account.{Account}
use Rattle.lock_free.specs.declared.rules.View.{View}
use Rattle.lock_free.specs.declared.sizes.Sizes.{Sizes}
use Rattle.machine_model.specs.Operations.{action_of}
use Rattle.lock_free.specs.Accounts.{running, gone_on, state_of}
use Rattle.lock_free.specs.Loading.{seen, IsSound, Took, has_gone}
use Rattle.lock_free.specs.Places.{words_of}
use Rattle.lock_free.specs.Shadows.{IsShadowed}
use Rattle.lock_free.specs.Rules.{IsKept}
use Rattle.lock_free.specs.Steps.{Reads}
use Rattle.lock_free.proofs.Assembling.{AllStand}
use Rattle.lock_free.proofs.Keeping.{keys_gone, kept_then}
use Rattle.lock_free.proofs.Lettings.{TakesNone}
use Rattle.lock_free.proofs.Moments.{free_inside, took_by}

-- ---- what an exchange writes

pub either_hit : (n old new : ℕ) → n ≡ old → either (n == old) new n ≡ new
either_hit n old new e = exchanged n old new (λ x. x ≡ new) (λ same. refl) (λ other. absurd (other e))

pub either_miss : (n old new : ℕ) → n ≢ old → either (n == old) new n ≡ n
either_miss n old new e = exchanged n old new (λ x. x ≡ n) (λ same. absurd (e same)) (λ other. refl)

-- an account at which what stands is sound
pub sound_by : (v : View) (s : Table.State Call View) (kept : IsKept v.sizes s) (id : ℕ) (at : get_elem? s.views id ≡ some v) (account : Account) (stands : ℕ → Bool) (words : List ℕ) →
    AllStand v.sizes account stands words →
    IsSound (words_of v.sizes) (seen v account)
sound_by v s kept id at account stands words all =
    record { size = refl; range = kept.range.within; bounds = all.bounds; keys = all.keys; counted = all.counted; inside = all.nodes.inside; free = free_inside v s kept id at }

-- what it leaves of the words, and of the seat
module _ (v : View) (s : Table.State Call View) (kept : IsKept v.sizes s) (id : ℕ) (at : get_elem? s.views id ≡ some v) (word old new : ℕ) where
  abbrev pub words_then : List ℕ
  words_then = set s.words word (either (slice_index s.words word == old) new (slice_index s.words word))

  abbrev pub LeavesAt : View → Type 0
  LeavesAt after = IsKept v.sizes (record { words = words_then; homes = s.homes; views = set s.views id after }) × (IsSound (words_of v.sizes) after × Took v kept.account after)

  abbrev pub Leaves : Type 0
  Leaves = LeavesAt (seen v (gone_on v.actor kept.account))

  pub words_hit : slice_index s.words word ≡ old → (place : ℕ) → place ≡ word → set s.words place new ≡ words_then
  words_hit e place is = ap (λ n. set s.words n new) is ∙ ap (set s.words word) (sym (either_hit (slice_index s.words word) old new e))

  pub words_miss : slice_index s.words word ≢ old → s.words ≡ words_then
  words_miss differs = sym (ap (set s.words word) (either_miss (slice_index s.words word) old new differs) ∙ set-get_or s.words word 0)

  pub missed : (o : Operation) → running v.sizes kept.account v.actor o → Reads v.sizes kept.account v.actor o →
      TakesNone kept.stands (state_of v.sizes kept.account) o (action_of (state_of v.sizes kept.account) o) → slice_index s.words word ≢ old → Leaves
  missed o runs reads takes differs = (
    subst (λ ws. IsKept v.sizes (record { words = ws; homes = s.homes; views = set s.views id (seen v (gone_on v.actor kept.account)) })) (words_miss differs)
        (kept_then v.sizes s kept id v at o runs reads takes),
    (
      record {
        size = refl;
        range = kept.range.within;
        bounds = reads.bounds;
        keys = keys_gone kept.account.steps v.actor kept.keys;
        counted = kept.counted ∙ sym reads.births;
        inside = λ k slot e. kept.nodes.inside k slot (sym (reads.nodes k) ∙ e);
        free = free_inside v s kept id at;
      },
      took_by v s kept id at o runs (gone_on v.actor kept.account) reads.own,
    ),
  )

-- an exchange that is the operation's step
abbrev pub AllowsExchange : Sizes → ℕ → ℕ → Me Call View → ℕ → ℕ → ℕ → Type 0
AllowsExchange sizes size id me word old new = Allows (IsShadowed sizes) size id me word (λ n. either (n == old) new n) (has_gone (step size word old new none) me)

pub exchange_by : (sizes : Sizes) (size id : ℕ) (me : Me Call View) (word old new x y : ℕ) → x ≡ old → y ≡ new → AllowsExchange sizes size id me word old new → AllowsExchange sizes size id me word x y
exchange_by sizes size id me word old new x y e f h = subst (λ n. AllowsExchange sizes size id me word n y) (sym e) (subst (λ n. AllowsExchange sizes size id me word old n) (sym f) h)
