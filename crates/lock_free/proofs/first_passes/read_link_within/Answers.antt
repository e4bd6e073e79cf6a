use Rattle.std.proofs.Common.{sym, ap, ◌∙◌}
use Rattle.trie_words.specs.declared.headers.Header.{Header}
use Rattle.trie_words.specs.Codes.{header_of}
use Rattle.lock_free.specs.declared.reading.Passed.TheVariants as passed
use Rattle.lock_free.specs.LinkReads.{given_by}
use Rattle.lock_free.proofs.LinkWays.{can_go_on, link_told}
use Rattle.lock_free.proofs.OnePass.{at_header, failed_passes, gives, is_failed, is_pending, on_after, pending_passes, reached_passes, reached_passing, reached_way}
use Rattle.lock_free.proofs.first_passes.read_link_within.Goals as goal

pub read_header_word-word-requires-clause-reading : goal.read_header_word-word-requires-clause-reading
read_header_word-word-requires-clause-reading c = at_header c.read_link-link.new.actor.me.0 c.args.indirection c.read_link-link.result (reached_passing c.args.words.now.table_id.words
    c.args.actor.now.me.0 c.requires.sound c.args.indirection c.requires.passing c.read_link-link.new.actor.me.0 c.read_link-link.ensures.sound
    c.read_link-link.result c.read_link-link.ensures.read)

pub returns-in-None-clause-link : goal.returns-in-None-clause-link
returns-in-None-clause-link c = (
  (header_of c.read_header_word-word.result),
  reached_passes c.args.words.now.table_id.words c.args.actor.now.me.0 c.requires.sound c.args.indirection c.requires.passing c.read_link-link.new.actor.me.0
      c.read_link-link.ensures.sound
      c.read_link-link.result c.read_link-link.ensures.read (passed.Gives (given_by c.read_link-link.result (header_of c.read_header_word-word.result))) c.read_header_word-word.new.actor.me.0
      (gives c.read_link-link.new.actor.me.0 c.args.indirection c.read_link-link.result (reached_passing c.args.words.now.table_id.words c.args.actor.now.me.0 c.requires.sound c.args.indirection
      c.requires.passing c.read_link-link.new.actor.me.0 c.read_link-link.ensures.sound
      c.read_link-link.result c.read_link-link.ensures.read)
      c.args.words.now.table_id.words c.read_header_word-word.new.actor.me.0 c.read_link-link.ensures.sound c.read_header_word-word.ensures.sound (header_of c.read_header_word-word.result)
      c.read_header_word-word.ensures.read
      (ap (λ (h : Header). h.previous) (sym c.of_word.ensures) ∙ c.in-None.is)),
)

pub link_put_back-requires-clause-failed : goal.link_put_back-requires-clause-failed
link_put_back-requires-clause-failed c =
    is_failed c.read_link-link.new.actor.me.0 c.args.indirection c.read_link-link.result (reached_passing c.args.words.now.table_id.words c.args.actor.now.me.0 c.requires.sound c.args.indirection
    c.requires.passing c.read_link-link.new.actor.me.0 c.read_link-link.ensures.sound
    c.read_link-link.result c.read_link-link.ensures.read)
    c.args.words.now.table_id.words c.read_header_word-word.new.actor.me.0 c.read_link-link.ensures.sound c.read_header_word-word.ensures.sound (header_of c.read_header_word-word.result)
    c.read_header_word-word.ensures.read
    c.in-Failed.former (ap (λ (h : Header). h.previous) (sym c.of_word.ensures) ∙ c.in-Failed.is)

pub link_put_back-requires-clause-next : goal.link_put_back-requires-clause-next
link_put_back-requires-clause-next c q w then p =
    can_go_on c.args.words.now.table_id.words c.args.way c.args.indirection c.args.actor.now.me.0 c.requires.sound c.requires.way c.requires.passing w
    then q
    (reached_passes c.args.words.now.table_id.words c.args.actor.now.me.0 c.requires.sound c.args.indirection c.requires.passing c.read_link-link.new.actor.me.0 c.read_link-link.ensures.sound
    c.read_link-link.result c.read_link-link.ensures.read q w
    (failed_passes c.read_link-link.new.actor.me.0 c.args.indirection c.read_link-link.result (reached_passing c.args.words.now.table_id.words c.args.actor.now.me.0 c.requires.sound
    c.args.indirection c.requires.passing c.read_link-link.new.actor.me.0 c.read_link-link.ensures.sound
    c.read_link-link.result c.read_link-link.ensures.read)
    c.args.words.now.table_id.words c.read_header_word-word.new.actor.me.0 c.read_link-link.ensures.sound c.read_header_word-word.ensures.sound (header_of c.read_header_word-word.result)
    c.read_header_word-word.ensures.read
    c.in-Failed.former (ap (λ (h : Header). h.previous) (sym c.of_word.ensures) ∙ c.in-Failed.is) w q p))

pub returns-in-Failed-clause-link : goal.returns-in-Failed-clause-link
returns-in-Failed-clause-link c =
    let h = c.link_put_back.ensures.link in
    link_told c.args.words.now.table_id.words c.args.way c.args.indirection c.args.actor.now.me.0 c.requires.sound c.requires.way c.requires.passing h.1
    h.2 h.0
    (reached_passes c.args.words.now.table_id.words c.args.actor.now.me.0 c.requires.sound c.args.indirection c.requires.passing c.read_link-link.new.actor.me.0 c.read_link-link.ensures.sound
    c.read_link-link.result c.read_link-link.ensures.read h.0 h.1
    (failed_passes c.read_link-link.new.actor.me.0 c.args.indirection c.read_link-link.result (reached_passing c.args.words.now.table_id.words c.args.actor.now.me.0 c.requires.sound
    c.args.indirection c.requires.passing c.read_link-link.new.actor.me.0 c.read_link-link.ensures.sound
    c.read_link-link.result c.read_link-link.ensures.read)
    c.args.words.now.table_id.words c.read_header_word-word.new.actor.me.0 c.read_link-link.ensures.sound c.read_header_word-word.ensures.sound (header_of c.read_header_word-word.result)
    c.read_header_word-word.ensures.read
    c.in-Failed.former (ap (λ (h : Header). h.previous) (sym c.of_word.ensures) ∙ c.in-Failed.is) h.1 h.0 h.3))
    c.link_put_back.result c.link_put_back.new.actor.me.0 h.4

pub link_settled-requires-clause-way : goal.link_settled-requires-clause-way
link_settled-requires-clause-way c =
    on_after c.read_link-link.new.actor.me.0 c.args.indirection c.read_link-link.result (reached_passing c.args.words.now.table_id.words c.args.actor.now.me.0 c.requires.sound c.args.indirection
    c.requires.passing c.read_link-link.new.actor.me.0 c.read_link-link.ensures.sound
    c.read_link-link.result c.read_link-link.ensures.read)
    c.args.words.now.table_id.words c.read_header_word-word.new.actor.me.0 c.read_link-link.ensures.sound c.read_header_word-word.ensures.sound (header_of c.read_header_word-word.result)
    c.read_header_word-word.ensures.read
    c.args.way (reached_way c.args.words.now.table_id.words c.args.actor.now.me.0 c.requires.sound c.args.indirection c.requires.passing c.read_link-link.new.actor.me.0
    c.read_link-link.ensures.sound
    c.read_link-link.result c.read_link-link.ensures.read c.args.way c.requires.way) c.in-Pending.field-0 (ap (λ (h : Header). h.previous) (sym c.of_word.ensures) ∙ c.in-Pending.is)

pub link_settled-requires-clause-pending : goal.link_settled-requires-clause-pending
link_settled-requires-clause-pending c =
    is_pending c.read_link-link.new.actor.me.0 c.args.indirection c.read_link-link.result (reached_passing c.args.words.now.table_id.words c.args.actor.now.me.0 c.requires.sound
    c.args.indirection c.requires.passing c.read_link-link.new.actor.me.0 c.read_link-link.ensures.sound
    c.read_link-link.result c.read_link-link.ensures.read)
    c.args.words.now.table_id.words c.read_header_word-word.new.actor.me.0 c.read_link-link.ensures.sound c.read_header_word-word.ensures.sound (header_of c.read_header_word-word.result)
    c.read_header_word-word.ensures.read
    c.args.way (reached_way c.args.words.now.table_id.words c.args.actor.now.me.0 c.requires.sound c.args.indirection c.requires.passing c.read_link-link.new.actor.me.0
    c.read_link-link.ensures.sound
    c.read_link-link.result c.read_link-link.ensures.read c.args.way c.requires.way) c.in-Pending.field-0 (ap (λ (h : Header). h.previous) (sym c.of_word.ensures) ∙ c.in-Pending.is)

pub link_settled-requires-clause-next : goal.link_settled-requires-clause-next
link_settled-requires-clause-next c q w then p =
    can_go_on c.args.words.now.table_id.words c.args.way c.args.indirection c.args.actor.now.me.0 c.requires.sound c.requires.way c.requires.passing w
    then q
    (reached_passes c.args.words.now.table_id.words c.args.actor.now.me.0 c.requires.sound c.args.indirection c.requires.passing c.read_link-link.new.actor.me.0 c.read_link-link.ensures.sound
    c.read_link-link.result c.read_link-link.ensures.read q w
    (pending_passes c.read_link-link.new.actor.me.0 c.args.indirection c.read_link-link.result (reached_passing c.args.words.now.table_id.words c.args.actor.now.me.0 c.requires.sound
    c.args.indirection c.requires.passing c.read_link-link.new.actor.me.0 c.read_link-link.ensures.sound
    c.read_link-link.result c.read_link-link.ensures.read)
    c.args.words.now.table_id.words c.read_header_word-word.new.actor.me.0 c.read_link-link.ensures.sound c.read_header_word-word.ensures.sound (header_of c.read_header_word-word.result)
    c.read_header_word-word.ensures.read
    c.args.way (reached_way c.args.words.now.table_id.words c.args.actor.now.me.0 c.requires.sound c.args.indirection c.requires.passing c.read_link-link.new.actor.me.0
    c.read_link-link.ensures.sound
    c.read_link-link.result c.read_link-link.ensures.read c.args.way c.requires.way) c.in-Pending.field-0 (ap (λ (h : Header). h.previous) (sym c.of_word.ensures) ∙ c.in-Pending.is) w q
    p))

pub returns-in-Pending-clause-link : goal.returns-in-Pending-clause-link
returns-in-Pending-clause-link c =
    let h = c.link_settled.ensures.link in
    link_told c.args.words.now.table_id.words c.args.way c.args.indirection c.args.actor.now.me.0 c.requires.sound c.requires.way c.requires.passing h.1
    h.2 h.0
    (reached_passes c.args.words.now.table_id.words c.args.actor.now.me.0 c.requires.sound c.args.indirection c.requires.passing c.read_link-link.new.actor.me.0 c.read_link-link.ensures.sound
    c.read_link-link.result c.read_link-link.ensures.read h.0 h.1
    (pending_passes c.read_link-link.new.actor.me.0 c.args.indirection c.read_link-link.result (reached_passing c.args.words.now.table_id.words c.args.actor.now.me.0 c.requires.sound
    c.args.indirection c.requires.passing c.read_link-link.new.actor.me.0 c.read_link-link.ensures.sound
    c.read_link-link.result c.read_link-link.ensures.read)
    c.args.words.now.table_id.words c.read_header_word-word.new.actor.me.0 c.read_link-link.ensures.sound c.read_header_word-word.ensures.sound (header_of c.read_header_word-word.result)
    c.read_header_word-word.ensures.read
    c.args.way (reached_way c.args.words.now.table_id.words c.args.actor.now.me.0 c.requires.sound c.args.indirection c.requires.passing c.read_link-link.new.actor.me.0
    c.read_link-link.ensures.sound
    c.read_link-link.result c.read_link-link.ensures.read c.args.way c.requires.way) c.in-Pending.field-0 (ap (λ (h : Header). h.previous) (sym c.of_word.ensures) ∙ c.in-Pending.is) h.1 h.0
    h.3))
    c.link_settled.result c.link_settled.new.actor.me.0 h.4
