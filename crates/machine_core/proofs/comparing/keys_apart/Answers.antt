use Rattle.std.proofs.Common.{ap, ◌∙◌}
use Rattle.machine_core.specs.Vocabulary.{root_of, word_at}
use Rattle.machine_core.specs.Seen.{seen}
use Rattle.proof_core.proofs.Compared.{covers_sorted}
use Rattle.machine_core.proofs.comparing.keys_apart.Goals as goal

pub returns : goal.returns
returns c =
    let state = seen c.args.parts.now in
    covers_sorted c.compare.new.keys.items state.heap c.root_of.result c.root_of-2.result (root_of (word_at state c.args.older)) (root_of (word_at state c.args.newer))
    (c.root_of.ensures ∙ ap root_of c.word.ensures) (c.root_of-2.ensures ∙ ap root_of c.word-2.ensures) c.in_ok-compare.ensures.1
