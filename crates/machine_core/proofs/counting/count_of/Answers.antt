use Rattle.std.proofs.Common.{◌^◌, ◌<◌, length, sym, ap, subst, ◌∙◌}
use Rattle.machine_core.specs.Vocabulary.{most_levels, pairs_below, comes_before, root_of, word_at}
use Rattle.machine_core.specs.Seen.{seen}
use Rattle.proof_core.proofs.FewPairs.{few_pairs}
use Rattle.proof_core.proofs.Firsts.{length_sorted}
use Rattle.machine_core.proofs.counting.count_of.Goals as goal

pub count-requires : goal.count-requires
count-requires c =
    let state = seen c.args.parts.now in
    subst (λ r. length (pairs_below most_levels state.heap r) < 2 ^ 64) (sym (c.root_of.ensures ∙ ap root_of c.word.ensures))
    (few_pairs state c.requires.core.run c.args.handle c.requires.open)

pub returns : goal.returns
returns c =
    let state = seen c.args.parts.now in
    c.count.ensures ∙ ap (λ r. length (pairs_below most_levels state.heap r)) (c.root_of.ensures ∙ ap root_of c.word.ensures)
    ∙ sym (length_sorted comes_before (pairs_below most_levels state.heap (root_of (word_at state c.args.handle))))
