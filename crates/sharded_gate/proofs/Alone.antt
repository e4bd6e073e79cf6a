-- A seat that has one shard, and a seat that is outside again.
use Rattle.std.specs.Prelude.{◌≡◌, ℕ, ◌≤◌, List, [], ◌∷◌, ◌++◌, length, Option, Some}
use Rattle.std.proofs.Common.{refl, sym, ap, subst, ◌∙◌}
use mathlib.Core.Option.{some-injective}
use lib.ListN.{get_elem?}
use Rattle.atomic_table.specs.Table.{rest}
use Rattle.atomic_table.specs.Seated.{TableId}
use Rattle.gate.specs.declared.objects.Entry.{Entry}
use Rattle.gate.specs.Calls.{HasHeard}
use Rattle.gate.specs.Logs.{Logged, entry, saturated, IsLegal, HasFollowed}
use Rattle.gate.specs.Seats.{Seated}
use Rattle.gate.specs.Views.{HasTaken, holding, outside}
use Rattle.sharded_gate.specs.Shards.{LoggedShard, AnswersAlone, calls_about}
use Rattle.sharded_gate.specs.Rules.{Knows, ShardPlace, MayGive, MayRelease, HasGiven, HasSeen}
use Rattle.sharded_gate.specs.Seats.{ShardSeated, IsShardSeated, seen_in}
use Rattle.sharded_gate.proofs.Commits.{one_commits}
use Rattle.sharded_gate.proofs.Given.{HasMade, has_made}
use Rattle.sharded_gate.proofs.Shares.{of_shard}

abbrev pub slot_or : {X : Type 0} → X → List (ℕ × X) → X
slot_or other [] = other
slot_or other (slot ∷ slots) = slot.1

module _ {O C A : Type 0} where
  -- a seat that was put away is outside
  pub at_table : (number : ℕ) (seen : Logged (List O) C A) (views : List (Knows O C A)) (me : ShardPlace O C A) → views ≡ outside number seen ∷ [] → views ≡ me.0 ∷ [] → me.1 ≡ [] →
      me ≡ (outside number seen, [])
  at_table number seen views me was is none =
      ap (λ v. (v, me.1)) (some-injective me.0 (outside number seen) (ap (λ vs. get_elem? vs 0) (sym is ∙ was))) ∙ ap (λ xs. (outside number seen, xs)) none

  -- and is put away again
  pub put_away : (number : ℕ) (seen : Logged (List O) C A) (views : List (Knows O C A)) (me : ShardPlace O C A) → me ≡ (outside number seen, []) → views ≡ me.0 ∷ [] →
      views ≡ outside number seen ∷ []
  put_away number seen views me is put = put ∙ ap (λ m. m.0 ∷ []) is

  -- a seat that is where it was
  pub stays : (id later_id : TableId) (number shard : ℕ) (seen : Logged (List O) C A) (views later : List (Knows O C A)) (before : ShardSeated O C A) →
      record { seat = record { gate = id; number = number; seen = seen_in views }; shard = shard } ≡ before → later_id ≡ id → views ≡ outside number seen ∷ [] → later ≡ outside number seen ∷ [] →
      ◌≡◌ {A = ShardSeated O C A} (record { seat = record { gate = later_id; number = number; seen = seen_in later }; shard = shard }) before
  stays id later_id number shard seen views later before view same was is =
      ap (λ (i : TableId). record { seat = record { gate = i; number = number; seen = seen_in later }; shard = shard }) same
      ∙ ap (λ (vs : List (Knows O C A)). record { seat = record { gate = id; number = number; seen = seen_in vs }; shard = shard }) (is ∙ sym was) ∙ view

  pub seated_again : (about : C → Option ℕ) (number shard last : ℕ) (now : Logged (List O) C A) (log : List (Entry C A)) (views : List (Knows O C A)) → views ≡ outside number now ∷ [] →
      1 ≤ number → calls_about about shard now.log ≡ log → last ≡ saturated (length log) → IsShardSeated about views number shard last
  seated_again about number shard last now log views is low same counted =
      record { seen = now; place = is; low = low; counted = counted ∙ ap (λ es. saturated (length es)) (sym same) }

  pub seated_at : (about : ℕ → C → Option ℕ) (slots shards number shard last : ℕ) (now : Logged (List O) C A) (log : List (Entry C A)) (views : List (Knows O C A)) → slots ≡ shards →
      views ≡ outside number now ∷ [] → 1 ≤ number → calls_about (about shards) shard now.log ≡ log → last ≡ saturated (length log) → IsShardSeated (about slots) views number shard last
  seated_at about slots shards number shard last now log views many is low same counted =
      subst (λ n. IsShardSeated (about n) views number shard last) (sym many) (seated_again (about shards) number shard last now log views is low same counted)

  -- what a seat shows is what it has seen
  pub as_seen : (number : ℕ) (seen : Logged (List O) C A) (views : List (Knows O C A)) → views ≡ outside number seen ∷ [] → views ≡ outside number (seen_in views) ∷ []
  as_seen number seen views is = is ∙ ap (λ b. outside number b ∷ []) (sym (ap (λ vs. seen_in vs) is))

  -- the seat has this shard, and has noted it so
  pub record HasOne (shard number : ℕ) (seen : Logged (List O) C A) (me : ShardPlace O C A) : Type 0 where
    pub was : LoggedShard O C A
    pub place : me ≡ (holding number seen ((shard, was) ∷ []), (shard, was) ∷ [])

  pub took_one : (shard number : ℕ) (seen : Logged (List O) C A) (before me : ShardPlace O C A) → before ≡ (outside number seen, []) → HasTaken shard before me → HasOne shard number seen me
  took_one shard number seen before me is taken = let h = subst (λ m. HasTaken shard m me) is taken in record { was = h.0; place = h.1 }

  module _ (shard number : ℕ) (seen : Logged (List O) C A) (me : ShardPlace O C A) (one : HasOne shard number seen me) where
    pub one_slot : (x : LoggedShard O C A) × (me.1 ≡ (shard, x) ∷ rest me.1)
    one_slot = (one.was, subst (λ (m : ShardPlace O C A). m.1 ≡ (shard, one.was) ∷ rest m.1) (sym one.place) refl)

    one_lent : (y : LoggedShard O C A) → me.1 ≡ (shard, y) ∷ rest me.1 → y ≡ one.was
    one_lent y out = ap (λ xs. slot_or y xs) (sym out ∙ ap (λ m. m.1) one.place)

    one_place : (now : LoggedShard O C A) → ◌≡◌ {A = ShardPlace O C A} (me.0, (shard, now) ∷ rest me.1) (holding number seen ((shard, one.was) ∷ []), (shard, now) ∷ [])
    one_place now = ap (λ m. (m.0, (shard, now) ∷ rest m.1)) one.place

    pub one_may_look : (y : LoggedShard O C A) → me.1 ≡ (shard, y) ∷ rest me.1 → MayRelease shard me
    one_may_look y out = record { number = number; seen = seen; was = one.was; others = []; place = one.place; single = λ has. has }

module _ {O C A : Type 0} (answers : ℕ → List O → C → A → List O → Type 0) (about : ℕ → C → Option ℕ) (shards shard number : ℕ) (seen : Logged (List O) C A) (me : ShardPlace O C A)
    (one : HasOne shard number seen me) where
  module _ (call : C) (answer : A) (y now : LoggedShard O C A) (out : me.1 ≡ (shard, y) ∷ rest me.1) (told : now.log ≡ y.log ++ entry number call answer ∷ []) where
    told_it : now.log ≡ one.was.log ++ entry number call answer ∷ []
    told_it = told ∙ ap (λ (s : LoggedShard O C A). s.log ++ entry number call answer ∷ []) (one_lent shard number seen me one y out)

    pub one_may_give : about shards call ≡ Some shard → AnswersAlone answers about number y.object call answer now.object → MayGive answers about shards shard (me.0, (shard, now) ∷ rest me.1)
    one_may_give its alone = record {
      number = number;
      seen = seen;
      was = one.was;
      now = now;
      found = [];
      others = [];
      place = one_place shard number seen me one now;
      single = λ has. has;
      same = tt;
      commits = one_commits answers about shards number call answer shard its one.was now
          (subst (λ (s : LoggedShard O C A). AnswersAlone answers about number s.object call answer now.object) (one_lent shard number seen me one y out) alone) told_it;
    }

    pub one_made : (after : ShardPlace O C A) → HasGiven answers about shards (me.0, (shard, now) ∷ rest me.1) after → HasMade answers about shards number call answer seen shard now [] after
    one_made after given =
        has_made answers about shards number call answer seen shard one.was now [] [] after told_it
        (subst (λ m. HasGiven answers about shards m after) (one_place shard number seen me one now) given)

  -- the seat has seen a whole in which the shard has these calls
  pub record HasLookedAt (y : LoggedShard O C A) (after : ShardPlace O C A) : Type 0 where
    pub board : Logged (List O) C A
    pub followed : HasFollowed answers number seen board
    pub legal : IsLegal answers board
    pub log : calls_about (about shards) shard board.log ≡ y.log
    pub place : after ≡ (outside number board, [])

  looked_by : (y : LoggedShard O C A) (after : ShardPlace O C A) → y ≡ one.was → HasSeen answers about shards (holding number seen ((shard, one.was) ∷ []), (shard, one.was) ∷ []) after →
      HasLookedAt y after
  looked_by y after same h = record {
    board = h.board;
    followed = h.followed.0;
    legal = h.legal;
    log = (of_shard shards (about shards) h.board shard one.was h.found.0).log ∙ ap (λ (s : LoggedShard O C A). s.log) (sym same);
    place = h.after_is;
  }

  pub has_looked_at : (y : LoggedShard O C A) (after : ShardPlace O C A) → me.1 ≡ (shard, y) ∷ rest me.1 → HasSeen answers about shards me after → HasLookedAt y after
  has_looked_at y after out h = looked_by y after (one_lent shard number seen me one y out) (subst (λ m. HasSeen answers about shards m after) one.place h)

  pub has_heard : (y : LoggedShard O C A) (after : ShardPlace O C A) (looked : HasLookedAt y after) (id other : TableId) (before : Seated (List O) C A) (last : Logged (List O) C A) →
      record { gate = id; number = number; seen = seen } ≡ before → other ≡ id → last ≡ looked.board → HasHeard answers before (record { gate = other; number = number; seen = last })
  has_heard y after looked id other before last view same ends =
      subst (λ (b : Seated (List O) C A). HasHeard answers b (record { gate = other; number = number; seen = last })) view (record {
        gate = same;
        number = refl;
        followed = subst (λ b. HasFollowed answers number seen b) (sym ends) looked.followed;
        legal = subst (λ b. IsLegal answers b) (sym ends) looked.legal;
      })
