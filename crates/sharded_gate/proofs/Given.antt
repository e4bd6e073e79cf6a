-- What a seat has seen once it has given a shard back.
use Rattle.std.specs.Prelude.{◌≡◌, ℕ, List, [], ◌∷◌, ◌++◌, length, Option}
use Rattle.std.proofs.Common.{refl, sym, ap, subst, ◌∙◌, inl, inr, arith}
use Rattle.std.proofs.lemmas.List.{length-append}
use Rattle.atomic_table.specs.Seated.{TableId}
use Rattle.gate.specs.declared.objects.Entry.{Entry}
use Rattle.gate.specs.Logs.{Logged, entry, IsLegal, HasFollowed, HasCalled, HasWorked}
use Rattle.gate.specs.Views.{holding}
use Rattle.gate.specs.Seats.{Seated}
use Rattle.gate.specs.Calls.{IsCalled}
use Rattle.sharded_gate.specs.Shards.{LoggedShard, calls_about}
use Rattle.sharded_gate.specs.Rules.{ShardPlace, HasGiven}
use Rattle.sharded_gate.proofs.Shares.{IsShard, of_shard, grown}

module _ {O C A : Type 0} (answers : ℕ → List O → C → A → List O → Type 0) (about : ℕ → C → Option ℕ) (shards number : ℕ) (call : C) (answer : A) where
  abbrev its_entry : Entry C A
  its_entry = entry number call answer

  -- the call that came into the log of a shard is the one that was made
  made_by : (board now : Logged (List O) C A) (shard : ℕ) (was is : LoggedShard O C A) → IsShard shards (about shards) board shard was → IsShard shards (about shards) now shard is →
      is.log ≡ was.log ++ its_entry ∷ [] → HasWorked answers number board now → HasCalled answers number call answer board now
  made_by board now shard was is before after told (inl same) =
      let logs : was.log ≡ was.log ++ its_entry ∷ [] = sym before.log ∙ ap (λ (b : Logged (List O) C A). calls_about (about shards) shard b.log) (sym same) ∙ after.log ∙ told in
      absurd (omega (arith, ap (λ es. length es) logs, length-append was.log (its_entry ∷ [])))
  made_by board now shard was is before after told (inr c) =
      let more = ap (λ es. calls_about (about shards) shard es) (sym c.2.log) ∙ after.log ∙ told ∙ ap (λ es. es ++ its_entry ∷ []) (sym before.log) in
      let same = grown (about shards) shard board.log (entry number c.0 c.1) its_entry more in
      subst (λ (e : Entry C A). HasCalled answers number e.call e.answer board now) same c.2

  -- the seat has made its call, and is outside but for the other slots that it has
  pub record HasMade (seen : Logged (List O) C A) (shard : ℕ) (is : LoggedShard O C A) (others : List (ℕ × LoggedShard O C A)) (after : ShardPlace O C A) : Type 0 where
    pub board : Logged (List O) C A
    pub now : Logged (List O) C A
    pub followed : HasFollowed answers number seen board
    pub legal : IsLegal answers board
    pub called : HasCalled answers number call answer board now
    pub log : calls_about (about shards) shard now.log ≡ is.log
    pub place : after ≡ (holding number now others, others)

  pub has_made : (seen : Logged (List O) C A) (shard : ℕ) (was is : LoggedShard O C A) (found others : List (ℕ × LoggedShard O C A)) (after : ShardPlace O C A) →
      is.log ≡ was.log ++ its_entry ∷ [] → HasGiven answers about shards (holding number seen ((shard, was) ∷ found), (shard, is) ∷ others) after → HasMade seen shard is others after
  has_made seen shard was is found others after told h = record {
    board = h.board;
    now = h.now;
    followed = h.followed.0;
    legal = h.legal;
    called = made_by h.board h.now shard was is (of_shard shards (about shards) h.board shard was h.found.0) (of_shard shards (about shards) h.now shard is h.left.0) told h.worked.0;
    log = (of_shard shards (about shards) h.now shard is h.left.0).log;
    place = h.after_is;
  }

  pub is_called : (seen : Logged (List O) C A) (shard : ℕ) (is : LoggedShard O C A) (others : List (ℕ × LoggedShard O C A)) (after : ShardPlace O C A)
      (made : HasMade seen shard is others after) (id other : TableId) (before : Seated (List O) C A)
      (last : Logged (List O) C A) → record { gate = id; number = number; seen = seen } ≡ before → other ≡ id → last ≡ made.now →
      IsCalled answers before call answer (record { gate = other; number = number; seen = last })
  is_called seen shard is others after made id other before last view same ends =
      subst (λ (b : Seated (List O) C A). IsCalled answers b call answer (record { gate = other; number = number; seen = last })) view (record {
        gate = same;
        number = refl;
        board = made.board;
        followed = made.followed;
        legal = made.legal;
        called = subst (λ b. HasCalled answers number call answer made.board b) (sym ends) made.called;
      })
