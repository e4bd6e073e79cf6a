-- What a freeze leaves.
use Rattle.std.proofs.Common.{◌≡◌, ℕ, cond, Some, Ok, Err, refl, sym, ap, subst, ◌∙◌, eq-eqb}
use Rattle.std.specs.Cmp.{nat_cmp_total, unsigned_tied}
use Rattle.std.specs.FinMap as maps
use Rattle.ctrie_map.proofs.Opened.{is_opened}
use Rattle.shared_map.specs.Vocabulary.{ReadOnly, Freeze, Reply, map_of, HandleState}
use Rattle.history.specs.declared.replies.Reply.TheVariants as reply
use Rattle.shared_map.specs.declared.asks.Answer.TheVariants as answer
use Rattle.shared_map.specs.Asks.{Replied, replied_in, told_as}
use Rattle.shared_map.specs.PartsLaws.{FreezesCopyTheMap}
use Rattle.shared_map.specs.Replaying.{RepliesIn}

replied_same : (replied : Replied) → replied_in (told_as answer.Reply replied) ≡ replied
replied_same (Ok result) = refl
replied_same (Err why) = refl

abbrev number_opened : Reply → ℕ
number_opened (reply.Opened number) = number
number_opened other = 0

pub freezes_copy_the_map : FreezesCopyTheMap
freezes_copy_the_map hash shards before after handle copy is =
    let (replied, told, replies) = is.shows refl in
    let opened : replied ≡ Ok (reply.Opened copy) = sym (replied_same replied) ∙ sym (ap replied_in told) in
    let (opens, effect) = subst (λ (r : Replied). RepliesIn hash shards before (Freeze handle) r after) opened replies in
    let o = is_opened before opens ReadOnly (reply.Opened copy) after (map_of before handle) effect in
    let shown : HandleState = record { access = ReadOnly; pairs = o.m } in (
      o.m,
      o.at,
      ap (λ w. maps.get w copy) o.there ∙ maps.get-insert nat_cmp_total before o.copy shown copy
          ∙ ap (λ b. cond b (Some shown) (maps.get before copy)) (unsigned_tied copy o.copy ∙ eq-eqb copy o.copy (ap number_opened o.told)),
    )
