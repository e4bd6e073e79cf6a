use Rattle.std.proofs.Common.{◌≤◌, ◌∙◌, ap, refl, sym, subst}
use Rattle.std.proofs.lemmas.Bool.{false≢true}
use Rattle.trie_words.specs.Codes.{root_code}
use Rattle.lock_free.specs.declared.rules.View.{View}
use Rattle.lock_free.specs.declared.sizes.Sizes.{Sizes}
use Rattle.lock_free.specs.Closing.{RestsAs, ShutPinned}
use Rattle.lock_free.specs.Glances.{clearing}
use Rattle.lock_free.specs.Rules.{SaysClosing}
use Rattle.lock_free.specs.Seated.{IsResting}
use Rattle.lock_free.specs.SeatWords.{WouldClose}
use Rattle.lock_free.specs.Stocks.{IsStock}
use Rattle.lock_free.proofs.Shutting.{fell_and_passed, marks_stock, passed_shut, resting_marks, rests_marks, rests_self}
use Rattle.lock_free.proofs.closing.close_passed.Goals as goal

pub returns-then-not-fell_within-clause-stock : goal.returns-then-not-fell_within-clause-stock
returns-then-not-fell_within-clause-stock c = subst (IsStock c.args.stock.now) (sym (c.if-not-fell_within.ensures.cleared.1 refl)) c.requires.stock

pub returns-then-not-fell_within-clause-shut : goal.returns-then-not-fell_within-clause-shut
returns-then-not-fell_within-clause-shut c = (
  λ e. absurd (false≢true e),
  λ e. subst (RestsAs c.args.actor.now.me.0) (sym (c.if-not-fell_within.ensures.cleared.1 refl)) (rests_self c.args.actor.now.me.0 c.requires.rests),
)

pub pass_all-requires-clause-sizes : goal.pass_all-requires-clause-sizes
pass_all-requires-clause-sizes c = ap (λ (x : View). x.sizes) (c.if-not-fell_within.ensures.cleared.0 refl) ∙ sym (c.sizes.ensures ∙ c.requires.stock.sizes)

pub pass_all-requires-clause-its : goal.pass_all-requires-clause-its
pass_all-requires-clause-its c = ap (λ (x : View). x.actor) (c.if-not-fell_within.ensures.cleared.0 refl) ∙ c.requires.its

pub pass_all-requires-clause-closing : goal.pass_all-requires-clause-closing
pass_all-requires-clause-closing c =
    let marked = c.requires.closing in
    subst (λ x. WouldClose x c.args.handle 0) (sym (c.if-not-fell_within.ensures.cleared.0 refl)) (marked.0, marked.1, refl)

pub returns-then-not-pass_all-clause-stock : goal.returns-then-not-pass_all-clause-stock
returns-then-not-pass_all-clause-stock c =
    let v = c.args.actor.now.me.0 in
    let p = fell_and_passed v c.fell_within.new.actor.me.0 c.pass_all.new.actor.me.0 (c.if-not-fell_within.ensures.cleared.0 refl) c.if-not-pass_all.ensures.passed.0 in
    subst (IsStock c.args.stock.now) (sym p.1) (marks_stock c.args.stock.now v p.0 (clearing v).passed c.requires.rests.idle c.requires.stock)

pub returns-then-not-pass_all-clause-shut : goal.returns-then-not-pass_all-clause-shut
returns-then-not-pass_all-clause-shut c =
    let v = c.args.actor.now.me.0 in
    let p = fell_and_passed v c.fell_within.new.actor.me.0 c.pass_all.new.actor.me.0 (c.if-not-fell_within.ensures.cleared.0 refl) c.if-not-pass_all.ensures.passed.0 in
    (λ e. absurd (false≢true e), λ e. subst (RestsAs v) (sym p.1) (rests_marks v p.0 (clearing v).passed c.requires.rests))

pub shut_unpinned-requires-clause-stock : goal.shut_unpinned-requires-clause-stock
shut_unpinned-requires-clause-stock c =
    let v = c.args.actor.now.me.0 in
    let p = fell_and_passed v c.fell_within.new.actor.me.0 c.pass_all.new.actor.me.0 (c.if-not-fell_within.ensures.cleared.0 refl) c.if-not-pass_all.ensures.passed.0 in
    subst (IsStock c.args.stock.now) (sym p.1) (marks_stock c.args.stock.now v p.0 (clearing v).passed c.requires.rests.idle c.requires.stock)

pub shut_unpinned-requires-clause-its : goal.shut_unpinned-requires-clause-its
shut_unpinned-requires-clause-its c =
    let v = c.args.actor.now.me.0 in
    let p = fell_and_passed v c.fell_within.new.actor.me.0 c.pass_all.new.actor.me.0 (c.if-not-fell_within.ensures.cleared.0 refl) c.if-not-pass_all.ensures.passed.0 in
    ap (λ (x : View). x.actor) p.1 ∙ c.requires.its

pub shut_unpinned-requires-clause-few : goal.shut_unpinned-requires-clause-few
shut_unpinned-requires-clause-few c =
    let v = c.args.actor.now.me.0 in
    let p = fell_and_passed v c.fell_within.new.actor.me.0 c.pass_all.new.actor.me.0 (c.if-not-fell_within.ensures.cleared.0 refl) c.if-not-pass_all.ensures.passed.0 in
    subst (λ (x : View). x.actor ≤ x.sizes.seats) (sym p.1) c.requires.few

pub shut_unpinned-requires-clause-marked : goal.shut_unpinned-requires-clause-marked
shut_unpinned-requires-clause-marked c =
    let v = c.args.actor.now.me.0 in
    let p = fell_and_passed v c.fell_within.new.actor.me.0 c.pass_all.new.actor.me.0 (c.if-not-fell_within.ensures.cleared.0 refl) c.if-not-pass_all.ensures.passed.0 in
    subst (λ n. SaysClosing (root_code c.args.marked) n) (sym (ap (λ (x : View). x.actor) p.1 ∙ c.requires.its)) c.requires.marked

pub shut_unpinned-requires-clause-closing : goal.shut_unpinned-requires-clause-closing
shut_unpinned-requires-clause-closing c =
    let p = c.if-not-pass_all.ensures.passed in
    subst (λ (s : Sizes). WouldClose c.pass_all.new.actor.me.0 c.args.handle s.seats) (sym (ap (λ (x : View). x.sizes) p.0.1)) (p.1 refl)

pub shut_unpinned-requires-clause-rests : goal.shut_unpinned-requires-clause-rests
shut_unpinned-requires-clause-rests c =
    let v = c.args.actor.now.me.0 in
    let p = fell_and_passed v c.fell_within.new.actor.me.0 c.pass_all.new.actor.me.0 (c.if-not-fell_within.ensures.cleared.0 refl) c.if-not-pass_all.ensures.passed.0 in
    subst IsResting (sym p.1) (resting_marks v p.0 (clearing v).passed c.requires.rests)

pub returns-clause-shut : goal.returns-clause-shut
returns-clause-shut c =
    let v = c.args.actor.now.me.0 in
    let p = fell_and_passed v c.fell_within.new.actor.me.0 c.pass_all.new.actor.me.0 (c.if-not-fell_within.ensures.cleared.0 refl) c.if-not-pass_all.ensures.passed.0 in
    passed_shut v p.0 (clearing v).passed c.args.handle c.shut_unpinned.result c.shut_unpinned.new.actor.me.0
    (subst (λ x. ShutPinned x c.args.handle c.shut_unpinned.result c.shut_unpinned.new.actor.me.0) p.1 c.shut_unpinned.ensures.shut)
