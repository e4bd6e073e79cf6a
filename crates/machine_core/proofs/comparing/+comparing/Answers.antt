use Rattle.std.proofs.Common.{ℕ, ◌-◌, List, ◌++◌, Option, sym, subst, ◌∙◌, arith}
use Rattle.std.specs.List.{flat_map}
use Rattle.std.proofs.lemmas.Result.{on_ok_weaker}
use Rattle.machine_core.specs.Vocabulary.{Ref, pairs_below, Adds, entries_below, main_below, Covers}
use Rattle.proof_core.specs.Comparing.{pairs_from}
use Rattle.proof_core.proofs.Compared.{compared, compared_nothing, covers_both, covers_more, covers_nothing, grows_none, grows_on, taken_off}
use Rattle.machine_core.proofs.comparing.+comparing.Goals as goal

pub compare-returns-then-levels-eq0 : goal.compare-returns-then-levels-eq0
compare-returns-then-levels-eq0 t c =
    subst (λ n. Adds c.args.keys.now.items (pairs_from n c.args.heap.now.heap c.args.older) (pairs_from n c.args.heap.now.heap c.args.newer) c.args.keys.now.items)
    (sym c.if-levels-eq0.true) (compared_nothing c.args.heap.now.heap c.args.older c.args.newer c.args.keys.now.items)

pub compare-returns : goal.compare-returns
compare-returns t c =
    let heap = c.args.heap.now.heap in
    let below : Option Ref → List (ℕ × ℕ) = λ m. flat_map (pairs_below (c.args.levels - 1) heap) (entries_below heap m) in
    let before = c.add_single-2.new.keys.items in
    let after = c.compare_mains.new.keys.items in
    on_ok_weaker c.compare_mains.result
    (λ adds. compared c.args.levels heap c.args.older c.args.newer c.args.keys.now.items c.add_single.new.keys.items before after (let some = c.if-levels-eq0.false in omega (arith, some))
    c.in_ok-add_single.ensures c.in_ok-add_single-2.ensures
    (subst (λ m. Adds before (below m) (below (main_below heap c.args.newer)) after) c.main_below.ensures
    (subst (λ m. Adds before (below c.main_below.result) (below m) after) c.main_below-2.ensures adds)))
    c.compare_mains.ensures

pub compare_mains-loop-news-init : goal.compare_mains-loop-news-init
compare_mains-loop-news-init t c =
    let reached : List Ref → List (ℕ × ℕ) = flat_map (pairs_below c.args.levels c.args.heap.now.heap) in
    record {
      grows = grows_none c.args.keys.now.items;
      covers = λ later grows covers. subst (λ es. Covers later (reached es) (reached (entries_below c.args.heap.now.heap c.args.newer))) c.of-olds.ensures
          (subst (λ es. Covers later (reached c.of-olds.result.entries.now) (reached es)) c.of-news.ensures covers);
    }

pub compare_mains-loop-news-preserved : goal.compare_mains-loop-news-preserved
compare_mains-loop-news-preserved t c =
    let heap = c.args.heap.now.heap in
    let reached : List Ref → List (ℕ × ℕ) = flat_map (pairs_below c.args.levels heap) in
    let adds = c.in_ok-compare.ensures in
    let before = c.loop-news.keys.items in
    let after = c.compare.new.keys.items in
    let olds = c.take_if-older.new.self.entries.now in
    let news = c.take_if-newer.new.self.entries.now in
    record {
      grows = grows_on c.args.keys.now.items before after c.loop-news.invariant.grows adds.0;
      covers = λ later grows covers. c.loop-news.invariant.covers later (grows_on before after later adds.0 grows)
          (subst (λ ps. Covers later ps (reached c.loop-news.news.entries.now))
          (taken_off (pairs_below c.args.levels heap) c.take_if-older.result olds c.loop-news.olds.entries.now c.take_if-older.ensures.entries)
          (subst (λ ps. Covers later (pairs_from c.args.levels heap c.take_if-older.result ++ reached olds) ps)
          (taken_off (pairs_below c.args.levels heap) c.take_if-newer.result news c.loop-news.news.entries.now c.take_if-newer.ensures.entries)
          (covers_both later (pairs_from c.args.levels heap c.take_if-older.result) (pairs_from c.args.levels heap c.take_if-newer.result) (reached olds) (reached news)
          (covers_more after later (pairs_from c.args.levels heap c.take_if-older.result) (pairs_from c.args.levels heap c.take_if-newer.result) grows adds.1) covers)));
    }

pub compare_mains-returns : goal.compare_mains-returns
compare_mains-returns t c =
    let keys = c.loop-news.keys.items in (
      c.loop-news.invariant.grows,
      c.loop-news.invariant.covers keys (grows_none keys)
          (covers_nothing (pairs_below c.args.levels c.args.heap.now.heap) keys c.loop-news.olds.entries.now c.loop-news.news.entries.now (sym c.is_some.ensures ∙ c.if-is_some.false)
          (sym c.is_some-else-is_some.ensures ∙ c.if-is_some-2.false)),
    )
