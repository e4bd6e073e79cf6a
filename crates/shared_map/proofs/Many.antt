-- As many shards are there behind a call as before it.
use Rattle.std.proofs.Common.{◌≡◌, ◌≢◌, ◌⊎◌, inl, inr, ℕ, zero, suc, List, [], ◌∷◌, length, map, Ok, Err, refl, sym, ap, ◌∙◌}
use Rattle.std.proofs.lemmas.Bool.{cases_eq}
use Rattle.shared_map.specs.Vocabulary.{HashKind, Low, Fold, Wide, Block, Call, Get, Entries, Count, Reply, NoSlots, Opened}
use Rattle.ctrie_map.specs.declared.errors.MapError.{MapError}
use Rattle.ctrie_map.specs.declared.errors.MapError.TheVariants.{Full, WornOut}
use Rattle.ctrie_map.specs.Maps.{MapState}
use Rattle.gate.specs.Logs.{Leads}
use Rattle.shared_map.specs.declared.asks.Ask.{Ask}
use Rattle.shared_map.specs.declared.asks.Ask.TheVariants.{Do, From, Scan, First, IsWritable, Restore, Handles, Free, HasRoom}
use Rattle.shared_map.specs.declared.asks.Request.{Request}
use Rattle.shared_map.specs.Answering.{AnswersAll, CallsAll, ChangesAll, IsAnswered, MapAnswers, RestoresAll}
use Rattle.shared_map.specs.Asks.{MapEntry, Replied, Told}
use Rattle.shared_map.specs.Shards.{AreShards}
use Rattle.shared_map.proofs.United.{length_mapped}

-- ---- two hashes are the same or not

number_of : HashKind → ℕ
number_of Low = 0
number_of Fold = 1
number_of Wide = 2
number_of Block = 3

kind_of_number : ℕ → HashKind
kind_of_number zero = Low
kind_of_number (suc zero) = Fold
kind_of_number (suc (suc zero)) = Wide
kind_of_number other = Block

again : (kind : HashKind) → kind_of_number (number_of kind) ≡ kind
unfolding kind_of_number number_of
again Low = refl
again Fold = refl
again Wide = refl
again Block = refl

pub cases_hash : (hash other : HashKind) → (hash ≡ other) ⊎ (hash ≢ other)
cases_hash hash other = elim (cases_eq (number_of hash) (number_of other)) [
  | inl same ↦ inl (sym (again hash) ∙ ap kind_of_number same ∙ again other)
  | inr apart ↦ inr (λ e. apart (ap number_of e))
]

-- ---- one call

module _ (hash : HashKind) (before after : List MapState) where
  abbrev AreAsMany : Type 0
  AreAsMany = length after ≡ length before

  by_limits : map (λ (s : MapState). s.core.limits) after ≡ map (λ (s : MapState). s.core.limits) before → AreAsMany
  by_limits e = sym (length_mapped (λ (s : MapState). s.core.limits) after) ∙ ap length e ∙ length_mapped (λ (s : MapState). s.core.limits) before

  by_reply : (call : Call) (answer : Reply) → ChangesAll hash before call (Ok answer) after → AreAsMany
  by_reply call NoSlots p = by_limits p.2.0
  by_reply call (Opened copy) p = by_limits p.2.1.2.0
  by_reply call answer p = by_limits p.2.3.0

  by_error : (call : Call) (why : MapError) → ChangesAll hash before call (Err why) after → AreAsMany
  by_error call WornOut p = ap length p.2
  by_error call why p = ap length p.1

  by_change : (call : Call) (told : Replied) → ChangesAll hash before call told after → AreAsMany
  by_change call (Ok answer) p = by_reply call answer p
  by_change call (Err why) p = by_error call why p

  by_call : (call : Call) (told : Replied) → CallsAll hash before call told after → AreAsMany
  by_call (Get h k) told p = ap length p.0
  by_call (Entries h) told p = ap length p.0
  by_call (Count h) told p = ap length p.0
  by_call call told p = by_change call told p

  by_refusal : (h copy : ℕ) (why : MapError) → RestoresAll hash before h copy (Err why) after → AreAsMany
  by_refusal h copy Full p = by_limits p.4.0
  by_refusal h copy WornOut p = ap length p.3
  by_refusal h copy why p = ap length p.1

  by_restore : (h copy : ℕ) (told : Told) → RestoresAll hash before h copy told after → AreAsMany
  by_restore h copy (Ok told) p = by_limits p.3.2.0
  by_restore h copy (Err why) p = by_refusal h copy why p

  by_answer : (ask : Ask) (told : Told) → AnswersAll hash before ask told after → AreAsMany
  by_answer (Do call) told (replied, is, p) = by_call call replied p.0
  by_answer (From h cursor room) told p = ap length p.0
  by_answer (Scan h shard cursor room) told p = ap length p.0
  by_answer (First h) told p = ap length p.0
  by_answer (IsWritable h) told p = ap length p.0
  by_answer (Restore h copy) told p = by_restore h copy told p.0
  by_answer Handles told p = ap length p.0
  by_answer Free told p = ap length p.0
  by_answer HasRoom told p = ap length p.0

  pub as_many : (request : Request) (told : Told) → IsAnswered hash before request told after → AreAsMany
  as_many request told p = elim (cases_hash request.hash hash) [
    | inl same ↦ by_answer request.ask told (p.answered same)
    | inr apart ↦ ap length (p.strange apart).1
  ]

-- ---- all calls

pub as_many_at_last : (hash : HashKind) (start : List MapState) (log : List MapEntry) (last : List MapState) → AreShards hash start → Leads MapAnswers start log last →
    length last ≡ length start
as_many_at_last hash start [] last are same = ap length same
as_many_at_last hash start (e ∷ es) last are (next, answered, leads) =
    let answer = answered hash are in as_many_at_last hash next es last answer.shards leads ∙ as_many hash start next e.call e.answer answer
