use Rattle.std.proofs.Common.{◌∙◌, ◌*◌, ◌+◌, refl, ap, arith}
use Rattle.trie_words.specs.Codes.{pair_code}
use Rattle.lock_free.specs.Storing.{drafted}
use Rattle.lock_free.proofs.OfferDrafts.{drafted_more, drafted_once, offer_drafted, own_offer_word}
use Rattle.lock_free.proofs.copying.draft_offer.Goals as goal

pub draft-requires-clause-own : goal.draft-requires-clause-own
draft-requires-clause-own c =
    let v = c.args.actor.now.me.0 in own_offer_word v v c.args.slot (2 * c.args.slot) refl c.requires.free (omega arith) (omega arith)

pub draft-requires-2-clause-own : goal.draft-requires-2-clause-own
draft-requires-2-clause-own c =
    let v = c.args.actor.now.me.0 in
    let a = c.draft.new.actor.me.0 in
    own_offer_word v a c.args.slot (2 * c.args.slot + 1) (drafted_once v a (2 * c.args.slot) 0 (ap (λ me. me.0) c.draft.ensures.drafted)) c.requires.free (omega arith) (omega arith)

pub draft-requires-3-clause-own : goal.draft-requires-3-clause-own
draft-requires-3-clause-own c =
    let v = c.args.actor.now.me.0 in
    let a = c.draft.new.actor.me.0 in
    let b = c.draft-2.new.actor.me.0 in
    own_offer_word v b c.args.slot (2 * c.args.slot + 2)
    (drafted_more v a b (2 * c.args.slot + 1) c.to_word.result (drafted_once v a (2 * c.args.slot) 0 (ap (λ me. me.0) c.draft.ensures.drafted)) (ap (λ me. me.0) c.draft-2.ensures.drafted))
    c.requires.free (omega arith) (omega arith)

pub returns-clause-drafted : goal.returns-clause-drafted
returns-clause-drafted c =
    let v = c.args.actor.now.me.0 in
    let a = c.draft.new.actor.me.0 in
    let b = c.draft-2.new.actor.me.0 in
    offer_drafted v a b c.draft-3.new.actor.me.0 c.args.slot c.args.root c.args.main c.args.roots (ap (λ me. me.0) c.draft.ensures.drafted)
    (ap (λ me. me.0) c.draft-2.ensures.drafted ∙ ap (λ n. drafted a (2 * c.args.slot + 1) n) c.to_word.ensures)
    (ap (λ me. me.0) c.draft-3.ensures.drafted ∙ ap (λ n. drafted b (2 * c.args.slot + 2) n) c.to_word-2.ensures
    ∙ ap (λ n. drafted b (2 * c.args.slot + 2) (pair_code (record { low = c.args.roots.successor; high = n }))) c.unwrap_or.ensures)
