-- The rule at each step on a shard's word.
use Rattle.std.specs.Prelude.{◌≡◌, ℕ, ◌<◌, ◌==◌, List, [], ◌∷◌, Option, length}
use Rattle.std.proofs.Common.{refl, sym, ap, subst, ◌∙◌, arith}
use Rattle.std.proofs.Math.Nat.{mul-div_cancel}
use mathlib.Core.Option as table
use prog.Atomic.{either}
use Rattle.std.specs.Global.{Vec}
use Rattle.atomic_table.specs.Table.{Allows, State, step}
use Rattle.atomic_table.specs.Seated.{TableId}
use Rattle.gate.specs.Views.{IsOf, AreSameSlots, has_released}
use Rattle.gate.proofs.Holds.{exchange_allowed}
use Rattle.gate.proofs.Leaving.{leave_allowed, release_allowed, look_allowed}
use Rattle.gate.specs.Logs.{Logged}
use Rattle.sharded_gate.specs.Shards.{LoggedShard, shard_of}
use Rattle.sharded_gate.specs.declared.rules.ShardTerms.{ShardTerms}
use Rattle.sharded_gate.specs.Opening.{IsSharded}
use Rattle.sharded_gate.specs.Rules.{Knows, ShardPlace, IsShared, MayGive, MayRelease, has_given, has_seen, has_taken, word_of_shard, shard_at}

same_self : {S : Type 0} (xs : List (ℕ × S)) → AreSameSlots xs xs
same_self [] = tt
same_self (x ∷ xs) = (refl, same_self xs)

module _ {O : Type 0} (id : TableId) (key terms : ShardTerms O) (shards : ℕ) (spare : Vec O) (is : IsSharded id key terms shards spare) where
  -- the numbers of slots and of shards are one
  pub slots_many : id.slots ≡ length key.first
  slots_many = is.slots ∙ sym is.many ∙ ap (λ (t : ShardTerms O). length t.first) (sym is.key_is)

  module _ (many : ℕ) (same : length terms.first ≡ many) where
    pub key_many : many ≡ length key.first
    key_many = sym same ∙ ap (λ (t : ShardTerms O). length t.first) (sym is.key_is)

    pub shards_many : shards ≡ many
    shards_many = sym is.many ∙ same

    pub word_within : (shard : ℕ) → shard < many → word_of_shard shard < id.words
    word_within shard within = omega (arith, within, same, is.words, is.many)

    pub key_within : (shard : ℕ) → shard < many → shard < length key.first
    key_within shard within = subst (λ n. shard < n) key_many within

single_word : (i j : ℕ) → word_of_shard i ≡ word_of_shard j → i ≡ j
single_word i j same = omega (arith, same)

pub at_its_word : (i : ℕ) → shard_at (word_of_shard i) ≡ i
at_its_word i = mul-div_cancel i (omega arith)

module _ {O C A : Type 0} (answers : ℕ → List O → C → A → List O → Type 0) (about : ℕ → C → Option ℕ) (first : List O) (seats size shard id : ℕ) (me : ShardPlace O C A)
    (same : size ≡ length first) where
  -- the shard's word, and the rule of a table of so many slots
  abbrev word : ℕ
  word = word_of_shard shard

  abbrev IsRule : State (LoggedShard O C A) (Knows O C A) → Type 0
  IsRule = IsShared answers about first seats

  abbrev slot_of : Logged (List O) C A → ℕ → table.Option (LoggedShard O C A)
  slot_of = shard_of (length first) (about (length first))

  pub may_enter : (number : ℕ) → shard < length first → IsOf number me →
      Allows IsRule size id me word (λ n. either (n == 0) number n) (has_taken (step size word 0 number table.none) me)
  may_enter number within is = exchange_allowed answers slot_of word_of_shard single_word (length first) seats first shard_at size shard id number me same within (at_its_word shard) is

  pub may_give : MayGive answers about (length first) shard me →
      Allows IsRule size id me word (λ n. 0) (λ n. has_given answers about (step size word 0 0 table.none) me 0)
  may_give may =
      let At : ShardPlace O C A → Type 0 = λ m. Allows IsRule (length first) id m word (λ n. 0)
      (λ n. has_given answers about (step (length first) word 0 0 table.none) m 0) in
      let Sized : ℕ → Type 0 = λ k. Allows IsRule k id me word (λ n. 0) (λ n. has_given answers about (step k word 0 0 table.none) me 0) in
      subst Sized (sym same) (subst At (sym may.place)
      (leave_allowed answers slot_of word_of_shard single_word (length first) seats first shard id may.number may.seen may.was may.now may.found may.others may.single may.same
      may.commits))

  pub may_look : MayRelease shard me → Allows IsRule size id me word (λ n. 0) (λ n. has_seen answers about (step size word 0 0 table.none) me 0)
  may_look may =
      let At : ShardPlace O C A → Type 0 = λ m. Allows IsRule (length first) id m word (λ n. 0)
      (λ n. has_seen answers about (step (length first) word 0 0 table.none) m 0) in
      let Sized : ℕ → Type 0 = λ k. Allows IsRule k id me word (λ n. 0) (λ n. has_seen answers about (step k word 0 0 table.none) me 0) in
      subst Sized (sym same) (subst At (sym may.place)
      (look_allowed answers slot_of word_of_shard single_word (length first) seats first shard id may.number may.seen may.was may.others may.single (same_self may.others)))

  pub may_release : MayRelease shard me → Allows IsRule size id me word (λ n. 0) (λ n. has_released (step size word 0 0 table.none) me 0)
  may_release may =
      let At : ShardPlace O C A → Type 0 = λ m. Allows IsRule (length first) id m word (λ n. 0) (λ n. has_released (step (length first) word 0 0 table.none) m 0) in
      let Sized : ℕ → Type 0 = λ k. Allows IsRule k id me word (λ n. 0) (λ n. has_released (step k word 0 0 table.none) me 0) in
      subst Sized (sym same) (subst At (sym may.place)
      (release_allowed answers slot_of word_of_shard single_word (length first) seats first shard id may.number may.seen may.was may.others may.single (same_self may.others)))
