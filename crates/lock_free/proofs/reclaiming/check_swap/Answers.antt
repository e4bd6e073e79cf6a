use Rattle.std.proofs.Common.{◌∙◌, ap, sym, subst}
use Rattle.trie_words.specs.Codes.{header_of}
use Rattle.lock_free.specs.Loading.{IsSound}
use Rattle.lock_free.specs.declared.reclaiming.Decided.TheVariants.{Commits, Fails}
use Rattle.lock_free.specs.Classes.{shape_class}
use Rattle.lock_free.specs.Reclaiming.{is_decided}
use Rattle.lock_free.proofs.RetireAllowed.{retire_allowed}
use Rattle.lock_free.proofs.RetireStep.{checks_slot}
use Rattle.lock_free.proofs.SwapChecks.{fresh_lives}
use Rattle.lock_free.proofs.Within.{both_inside}
use Rattle.lock_free.proofs.Checked.{checked_so, commits_so, fails_so}
use Rattle.lock_free.proofs.reclaiming.check_swap.Goals as goal

pub load-requires : goal.load-requires
load-requires c =
    let (i, m, f, p, owned, place) = c.requires.checking in
    let v = c.args.actor.now.me.0 in
    let live = fresh_lives v.sizes v.account c.requires.sound.bounds v.actor p.operation p.runs p.why i m f p.line_is in (
      c.requires.table,
      (both_inside c.args.words.now.table_id.words v c.requires.sound f c.args.fresh live place).0,
      retire_allowed c.args.words.now.key c.args.words.now.table_id.slots c.args.actor.now.id c.args.actor.now.me c.requires.sound.bounds.1 i m f c.args.replaced.own p owned c.args.fresh place,
    )

pub returns-then-is_decided-clause-sound : goal.returns-then-is_decided-clause-sound
returns-then-is_decided-clause-sound c = subst (λ n. IsSound n c.load.new.seat.me.0) (sym c.requires.sound.size) c.load.ensures.2.1

pub returns-else-is_decided-clause-sound : goal.returns-else-is_decided-clause-sound
returns-else-is_decided-clause-sound c = subst (λ n. IsSound n c.load.new.seat.me.0) (sym c.requires.sound.size) c.load.ensures.2.1

pub returns-then-is_decided-clause-checked : goal.returns-then-is_decided-clause-checked
returns-then-is_decided-clause-checked c i m f p owned =
    let v = c.args.actor.now.me.0 in
    let (j, n, g, q, others, place) = c.requires.checking in
    checked_so v m f c.args.replaced c.args.class c.args.fresh c.load.result (checks_slot v j n g q c.args.fresh place) _ c.load.new.seat.me.0 (c.load.ensures.2.0 i m f c.args.replaced.own p owned)
    (ap Commits c.retiree_of.ensures
    ∙ commits_so c.args.replaced c.args.class c.args.fresh (header_of c.load.result)
    (ap (λ h. is_decided h.previous) (sym c.of_word-header.ensures) ∙ sym c.is_decided.ensures ∙ c.if-is_decided.true))

pub returns-else-is_decided-clause-checked : goal.returns-else-is_decided-clause-checked
returns-else-is_decided-clause-checked c i m f p owned =
    let v = c.args.actor.now.me.0 in
    let (j, n, g, q, others, place) = c.requires.checking in
    checked_so v m f c.args.replaced c.args.class c.args.fresh c.load.result (checks_slot v j n g q c.args.fresh place) _ c.load.new.seat.me.0 (c.load.ensures.2.0 i m f c.args.replaced.own p owned)
    (ap (λ n. Fails (record { class = n; slot = c.args.fresh })) (c.class_of.ensures ∙ ap (λ h. shape_class h.shape) c.of_word-header.ensures)
    ∙ fails_so c.args.replaced c.args.class c.args.fresh (header_of c.load.result)
    (ap (λ h. is_decided h.previous) (sym c.of_word-header.ensures) ∙ sym c.is_decided.ensures ∙ c.if-is_decided.false))
