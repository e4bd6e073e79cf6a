use Rattle.std.proofs.Common.{sym, subst}
use Rattle.trie_words.specs.declared.headers.Header.{Header}
use Rattle.lock_free.specs.Passing.{IsPending}
use Rattle.lock_free.proofs.first_passes.link_settled.Goals as goal

pub settle-passed-requires-clause-pending : goal.settle-passed-requires-clause-pending
settle-passed-requires-clause-pending c =
    subst (λ (h : Header). IsPending c.args.actor.now.me.0 c.args.way (record { generation = c.args.generation; main = c.args.main }) h) (sym c.of_word.ensures) c.requires.pending

pub link_after-requires-clause-next : goal.link_after-requires-clause-next
link_after-requires-clause-next c = c.requires.next c.settle-passed.result c.settle-passed.new.actor.me.0 c.settle-passed.ensures.sound c.settle-passed.ensures.passed

pub returns-clause-link : goal.returns-clause-link
returns-clause-link c = (c.settle-passed.result, c.settle-passed.new.actor.me.0, c.settle-passed.ensures.sound, c.settle-passed.ensures.passed, c.link_after.ensures.link)
