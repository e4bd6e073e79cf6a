use Rattle.std.proofs.Common.{◌++◌, append-nil, sym, ap, subst, ◌∙◌}
use Rattle.std.specs.List.Sorted.{IsStrictlySortedBy}
use Rattle.std.specs.Ordering.{nat_cmp}
use Rattle.machine_core.specs.Vocabulary.{content_at, Covers}
use Rattle.machine_core.specs.Beneath.proof_contents.proofs.Values.Crowds.{sorted_distinct}
use Rattle.machine_core.specs.Comparing.{AreDifferences, difference_of}
use Rattle.machine_core.specs.Finding.{found_along}
use Rattle.machine_core.specs.Seen.{seen}
use Rattle.machine_core.proofs.Differences.{add_none, are_differences, covered}
use Rattle.machine_core.proofs.Found.{found_along_is}
use Rattle.proof_core.proofs.Found.{content_rises}
use Rattle.machine_core.proofs.differing.differences.Goals as goal

pub returns : goal.returns
returns c =
    let state = seen c.args.parts.now in
    let run = c.requires.core.run in
    let before = found_along state c.args.older in
    let after = found_along state c.args.newer in
    let known = c.as_slice-known.result.now in
    let olds = content_at state c.args.older in
    let news = content_at state c.args.newer in
    subst (AreDifferences before after)
    (sym (sym (append-nil c.loop-key.differences.items)
    ∙ ap (λ ds. c.loop-key.differences.items ++ ds) (sym (add_none (λ key. difference_of key (before key) (after key)) known c.loop-key.key-index c.loop-key-test.false)) ∙ c.loop-key.invariant))
    (are_differences before after known (subst (IsStrictlySortedBy nat_cmp) (sym c.as_slice-known.ensures.value) c.in_ok-keys.ensures.rising)
    (λ key apart. covered known olds news (sorted_distinct olds (content_rises state run c.args.older c.requires.older)) (sorted_distinct news (content_rises state run c.args.newer c.requires.newer))
    (subst (λ ks. Covers ks olds news) (sym c.as_slice-known.ensures.value) c.in_ok-keys.ensures.all) key
    (λ same. apart (found_along_is state run c.args.older key c.requires.older ∙ same ∙ sym (found_along_is state run c.args.newer key c.requires.newer)))))
