-- What is told of a request about all shards.
use Rattle.std.proofs.Common.{◌≡◌, ◌≢◌, ℕ, ◌%◌, ◌≤◌, List, length, Option, Some, None, Ok, Err, option_map, refl, sym, ap, subst, ◌∙◌, Bool}
use Rattle.shared_map.specs.Vocabulary.{HashKind, Call, handle_of}
use Rattle.history.specs.declared.replies.Reply.TheVariants as reply
use Rattle.ctrie_map.specs.declared.errors.MapError.TheVariants.{Memory}
use Rattle.ctrie_map.specs.Maps.{MapState}
use Rattle.shared_map.specs.Answering.{AnswersAll, MapAnswers}
use Rattle.shared_map.specs.Asks.{Replied, Told, about, handle_asked, key_in, place_asked, place_of, told_as}
use Rattle.shared_map.specs.declared.asks.Answer.TheVariants as answer
use Rattle.shared_map.specs.Shards.{AreShards, free_of_all, have_room}
use Rattle.shared_map.specs.Wholes.{AnswersIf, KnowsFirst, RepliesIf}
use Rattle.shared_map.specs.declared.asks.Ask.{Ask}
use Rattle.shared_map.specs.declared.asks.Ask.TheVariants.{Do, Scan, Handles, Free, HasRoom}
use Rattle.shared_map.specs.declared.asks.Request.{Request}
use Rattle.shared_map.specs.declared.asking.Knowing.{Knowing}
use Rattle.shared_map.proofs.AllAnswers.{first_len}
use Rattle.shared_map.proofs.OfShards as shards

pub no_key : (f : ℕ → ℕ) (o : Option ℕ) → option_map f o ≡ None → o ≡ None
no_key f None e = refl
no_key f (Some k) e = cc

-- a scan is about one shard
pub scan_of_one : (hash : HashKind) (shards h shard : ℕ) (cursor : Option ℕ) (room : ℕ) (ask : Ask) → ask ≡ Scan h shard cursor room → place_asked hash shards ask ≡ None → ⊥
scan_of_one hash shards h shard cursor room ask is none =
    let e : Some (shard % shards) ≡ None = ap (place_asked hash shards) (sym is) ∙ none in
    cc

module _ (first : Knowing) (before : List MapState) (request : Request) (knows : KnowsFirst first before) where
  hash_of_all : (hash : HashKind) → AreShards hash before → first.hash ≡ hash
  hash_of_all hash are = knows.2.hash ∙ shards.hash_is hash before are 0 knows.0 knows.1

  pub if_strange : (after : List MapState) → first.hash ≢ request.hash → after ≡ before → MapAnswers 0 before request (Err Memory) after
  if_strange after apart same hash are = record {
    shards = subst (AreShards hash) (sym same) are;
    answered = λ e. absurd (apart (hash_of_all hash are ∙ sym e));
    strange = λ _. (refl, same);
  }

  module _ (fits : first.hash ≡ request.hash) (after : List MapState) where
    fits_all : (hash : HashKind) → AreShards hash before → request.hash ≡ hash
    fits_all hash are = sym fits ∙ hash_of_all hash are

    pub if_handles : request.ask ≡ Handles → after ≡ before → MapAnswers 0 before request (Ok (answer.Reply (reply.Count first.handles))) after
    if_handles is same hash are = record {
      shards = subst (AreShards hash) (sym same) are;
      answered = λ e. subst (λ a. AnswersAll hash before a (Ok (answer.Reply (reply.Count first.handles))) after) (sym is)
          (same, ap (λ n. Ok (answer.Reply (reply.Count n))) (knows.2.handles ∙ sym (first_len before knows.0 knows.1)));
      strange = λ apart. absurd (apart (fits_all hash are));
    }

    pub if_free : (slots : ℕ) → request.ask ≡ Free → (length before ≤ 64 → slots ≡ free_of_all before) → after ≡ before → MapAnswers 0 before request (Ok (answer.Reply (reply.Count slots))) after
    if_free slots is sum same hash are = record {
      shards = subst (AreShards hash) (sym same) are;
      answered = λ e. subst (λ a. AnswersAll hash before a (Ok (answer.Reply (reply.Count slots))) after) (sym is)
          (same, ap (λ n. Ok (answer.Reply (reply.Count n))) (sum are.few));
      strange = λ apart. absurd (apart (fits_all hash are));
    }

    pub if_room : request.ask ≡ HasRoom → (roomy : Bool) → roomy ≡ have_room before → after ≡ before → MapAnswers 0 before request (Ok (answer.Reply (reply.Truth roomy))) after
    if_room is roomy room same hash are = record {
      shards = subst (AreShards hash) (sym same) are;
      answered = λ e. subst (λ a. AnswersAll hash before a (Ok (answer.Reply (reply.Truth roomy))) after) (sym is) (same, ap (λ b. Ok (answer.Reply (reply.Truth b))) room);
      strange = λ apart. absurd (apart (fits_all hash are));
    }

    pub if_asked : (ask : Ask) (told : Told) → request.ask ≡ ask → first.handle ≡ handle_asked ask → AnswersIf first before ask told after → MapAnswers 0 before request told after
    if_asked ask told is on answers hash are =
        let (answered, next) = answers hash are knows on in record {
          shards = next;
          answered = λ e. subst (λ a. AnswersAll hash before a told after) (sym is) answered;
          strange = λ apart. absurd (apart (fits_all hash are));
        }

    pub if_called : (call : Call) (replied : Replied) → request.ask ≡ Do call → about (length before) request ≡ None → first.handle ≡ handle_of call →
        RepliesIf first before call replied after → MapAnswers 0 before request (told_as answer.Reply replied) after
    if_called call replied is all on answers hash are =
        let none = no_key (λ key. place_of request.hash (length before) key) (key_in call) (ap (place_asked request.hash (length before)) (sym is) ∙ all) in
        let (answered, next) = answers hash are knows on none in record {
          shards = next;
          answered = λ e. subst (λ a. AnswersAll hash before a (told_as answer.Reply replied) after) (sym is) (replied, refl, answered);
          strange = λ apart. absurd (apart (fits_all hash are));
        }
