-- Where calls about a shard stand in a log.
use Rattle.std.specs.Prelude.{◌≡◌, ℕ, ◌+◌, ◌≤◌, true, List, [], ◌∷◌, ◌++◌, length, drop, Option}
use Rattle.std.proofs.Common.{rules, refl, sym, ap, ◌∙◌, inl, inr, append_assoc, arith}
use Rattle.std.proofs.lemmas.Bool.{cases_lt}
use Rattle.std.proofs.lemmas.List.{length-append}
use Rattle.std.proofs.lemmas.List.Elements.{filter-append}
use mathlib.Core.Option.{some-injective}
use lib.ListN.{get_elem?}
use Rattle.gate.specs.declared.objects.Entry.{Entry}
use Rattle.gate.specs.Logs.{Logged, entry, LogGoesOn}
use Rattle.gate.specs.Seats.{Seated}
use Rattle.gate.specs.Calls.{IsCalled}
use Rattle.gate.proofs.Placing.{told_calls_stand_before}
use Rattle.sharded_gate.specs.Shards.{is_about, calls_about}
use Rattle.sharded_gate.specs.Laws.{ToldCallsOfAShardStandBefore}
use Rattle.sharded_gate.proofs.Shares.{one_more_about}

-- of two beginnings of one list the shorter one is one of the longer one
prefix_of : {X : Type 0} (xs ys us vs : List X) → xs ++ us ≡ ys ++ vs → length xs ≤ length ys → (ms : List X) × (ys ≡ xs ++ ms)
prefix_of [] ys us vs same short = (ys, refl)
prefix_of (x ∷ xs) [] us vs same short = absurd (omega (arith, short))
prefix_of (x ∷ xs) (y ∷ ys) us vs same short =
    let h = prefix_of xs ys us vs (ap (λ zs. drop 1 zs) same) (omega (arith, short)) in
    let heads : x ≡ y = some-injective x y (ap (λ zs. get_elem? zs 0) same) in
    (h.0, ap (λ z. z ∷ ys) (sym heads) ∙ ap (λ zs. x ∷ zs) h.1)

module _ {O C A : Type 0} (answers : ℕ → List O → C → A → List O → Type 0) (about : ℕ → C → Option ℕ) where
  -- who knows of as many calls about the shard knows of as many calls
  knows_all : (shards shard : ℕ) (one told : Seated (List O) C A) (call : C) (answer : A) (other later : Seated (List O) C A) (next : C) (reply : A) (last : Logged (List O) C A) →
      (is : IsCalled answers one call answer told) → is_about (about shards call) shard ≡ true →
      length (calls_about (about shards) shard told.seen.log) ≤ length (calls_about (about shards) shard other.seen.log) → (then : IsCalled answers other next reply later) →
      LogGoesOn told.seen last → LogGoesOn later.seen last → length told.seen.log ≤ length other.seen.log
  knows_all shards shard one told call answer other later next reply last is yes_about knows then on more = elim (cases_lt (length other.seen.log) (length told.seen.log)) [
    | inr high ↦ high
    | inl low ↦
        let e = entry one.number call answer in
        let f = entry other.number next reply in
        let found = is.board.log in
        let mine : last.log ≡ found ++ (e ∷ on.0) = on.1 ∙ ap (λ es. es ++ on.0) is.called.log ∙ append_assoc found (e ∷ []) on.0 in
        let theirs : last.log ≡ other.seen.log ++ (then.followed.rest ++ (f ∷ [] ++ more.0)) =
        more.1 ∙ ap (λ es. es ++ more.0) then.called.log ∙ append_assoc then.board.log (f ∷ []) more.0 ∙ ap (λ es. es ++ (f ∷ [] ++ more.0)) then.followed.log
        ∙ append_assoc other.seen.log then.followed.rest (f ∷ [] ++ more.0) in
        let long : length told.seen.log ≡ length found + 1 = ap (λ es. length es) is.called.log ∙ length-append found (e ∷ []) in
        let p = prefix_of other.seen.log found (then.followed.rest ++ (f ∷ [] ++ more.0)) (e ∷ on.0) (sym theirs ∙ mine) (omega (arith, low, long)) in
        let before : length (calls_about (about shards) shard found) ≡ length (calls_about (about shards) shard other.seen.log) + length (calls_about (about shards) shard p.0) =
        ap (λ es. length (calls_about (about shards) shard es)) p.1
        ∙ ap (λ es. length es) (filter-append (λ (x : Entry C A). is_about (about shards x.call) shard) other.seen.log p.0)
        ∙ length-append (calls_about (about shards) shard other.seen.log) (calls_about (about shards) shard p.0) in
        let after : length (calls_about (about shards) shard told.seen.log) ≡ length (calls_about (about shards) shard found) + 1 =
        ap (λ es. length (calls_about (about shards) shard es)) is.called.log ∙ ap (λ es. length es) (one_more_about (about shards) shard found e yes_about)
        ∙ length-append (calls_about (about shards) shard found) (e ∷ []) in
        absurd (omega (arith, before, after, knows))
  ]

  pub told_calls_of_a_shard_stand_before : ToldCallsOfAShardStandBefore answers about
  told_calls_of_a_shard_stand_before shards shard one told call answer other later next reply last is touches knows then on more =
      told_calls_stand_before answers one told call answer other later next reply last is
      (knows_all shards shard one told call answer other later next reply last is (search (rules, touches)) knows then on more) then on more
