use Rattle.std.proofs.Common.{◌≤◌, ◌∷◌, ◌∙◌, true, false, ap, refl, sym, subst}
use Rattle.std.proofs.lemmas.Bool.{false≢true}
use Rattle.trie_words.specs.Codes.{root_code, IsRootWord}
use Rattle.lock_free.specs.declared.rules.View.{View}
use Rattle.lock_free.specs.Closing.{HasMarkedAndShut, RestsAs}
use Rattle.lock_free.specs.HandleWords.{begins_with, marking, HasJustMarked}
use Rattle.lock_free.specs.Rules.{SaysClosing}
use Rattle.lock_free.specs.Seated.{IsResting}
use Rattle.lock_free.specs.Stocks.{IsStock}
use Rattle.lock_free.proofs.MarkStep.{marked_fits}
use Rattle.lock_free.proofs.Shutting.{marked_shut, marks_stock, resting_marks, rests_self, says_marked}
use Rattle.lock_free.proofs.closing.close_marked.Goals as goal

pub returns-then-not-mark-clause-stock : goal.returns-then-not-mark-clause-stock
returns-then-not-mark-clause-stock c = subst (IsStock c.args.stock.now) (sym (c.if-not-mark.ensures.marked.1 refl)) c.requires.stock

pub returns-then-not-mark-clause-shut : goal.returns-then-not-mark-clause-shut
returns-then-not-mark-clause-shut c = (
  λ e. absurd (false≢true e),
  λ e. subst (RestsAs c.args.actor.now.me.0) (sym (c.if-not-mark.ensures.marked.1 refl)) (rests_self c.args.actor.now.me.0 c.requires.rests),
)

pub close_passed-requires-clause-stock : goal.close_passed-requires-clause-stock
close_passed-requires-clause-stock c =
    let v = c.args.actor.now.me.0 in
    subst (IsStock c.args.stock.now) (sym (c.if-not-mark.ensures.marked.0 refl)) (marks_stock c.args.stock.now v (begins_with c.args.handle ∷ v.closing)
    (record v.passed { cleared = false }) c.requires.rests.idle c.requires.stock)

pub close_passed-requires-clause-its : goal.close_passed-requires-clause-its
close_passed-requires-clause-its c = ap (λ (v : View). v.actor) (c.if-not-mark.ensures.marked.0 refl) ∙ c.requires.its

pub close_passed-requires-clause-few : goal.close_passed-requires-clause-few
close_passed-requires-clause-few c = subst (λ (v : View). v.actor ≤ v.sizes.seats) (sym (c.if-not-mark.ensures.marked.0 refl)) c.requires.few

pub close_passed-requires-clause-fits : goal.close_passed-requires-clause-fits
close_passed-requires-clause-fits c =
    subst IsRootWord (sym c.once_marked-marked.ensures) (marked_fits c.args.word c.args.own c.requires.fits c.requires.unmarked c.ranges.own.fits)

pub close_passed-requires-clause-marked : goal.close_passed-requires-clause-marked
close_passed-requires-clause-marked c =
    subst (λ w. SaysClosing (root_code w) c.args.own) (sym c.once_marked-marked.ensures)
    (says_marked c.args.word c.args.own c.requires.unmarked (marked_fits c.args.word c.args.own c.requires.fits c.requires.unmarked c.ranges.own.fits))

pub close_passed-requires-clause-closing : goal.close_passed-requires-clause-closing
close_passed-requires-clause-closing c =
    subst (λ v. HasJustMarked v c.args.handle) (sym (c.if-not-mark.ensures.marked.0 refl)) (c.args.actor.now.me.0.closing, refl)

pub close_passed-requires-clause-rests : goal.close_passed-requires-clause-rests
close_passed-requires-clause-rests c =
    let v = c.args.actor.now.me.0 in
    subst IsResting (sym (c.if-not-mark.ensures.marked.0 refl)) (resting_marks v (begins_with c.args.handle ∷ v.closing) (record v.passed { cleared = false }) c.requires.rests)

pub returns-then-close_passed-clause-shut : goal.returns-then-close_passed-clause-shut
returns-then-close_passed-clause-shut c =
    let v = c.args.actor.now.me.0 in
    marked_shut v c.args.handle true c.close_passed.new.actor.me.0
    (subst (λ b. HasMarkedAndShut (marking v c.args.handle) c.args.handle b c.close_passed.new.actor.me.0) c.if-close_passed.true
    (subst (λ x. HasMarkedAndShut x c.args.handle c.close_passed.result c.close_passed.new.actor.me.0) (c.if-not-mark.ensures.marked.0 refl) c.close_passed.ensures.shut))

pub returns-clause-stock : goal.returns-clause-stock
returns-clause-stock c = subst (λ me. IsStock c.close_passed.new.stock me.0) (sym c.unmark.ensures.same) c.close_passed.ensures.stock

pub returns-clause-shut : goal.returns-clause-shut
returns-clause-shut c =
    let v = c.args.actor.now.me.0 in
    subst (λ me. HasMarkedAndShut v c.args.handle false me.0) (sym c.unmark.ensures.same)
    (marked_shut v c.args.handle false c.close_passed.new.actor.me.0
    (subst (λ b. HasMarkedAndShut (marking v c.args.handle) c.args.handle b c.close_passed.new.actor.me.0) c.if-close_passed.false
    (subst (λ x. HasMarkedAndShut x c.args.handle c.close_passed.result c.close_passed.new.actor.me.0) (c.if-not-mark.ensures.marked.0 refl) c.close_passed.ensures.shut)))
