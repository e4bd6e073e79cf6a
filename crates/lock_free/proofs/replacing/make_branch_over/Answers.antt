use Rattle.std.proofs.Common.{◌≤◌, sym, subst}
use Rattle.std.proofs.lemmas.List.{length-map}
use Rattle.trie_words.specs.Codes.{entry_of}
use Rattle.lock_free.specs.Halves.{entries_of_halves}
use Rattle.lock_free.proofs.MainMakes.{branch_at}
use Rattle.lock_free.proofs.replacing.make_branch_over.Goals as goal

pub make_over-requires-clause-making : goal.make_over-requires-clause-making
make_over-requires-clause-making c = branch_at c.args.actor.now.me.0 (entries_of_halves c.args.halves.now)
    (subst (λ k. k ≤ 32) (sym (length-map c.args.halves.now entry_of)) c.requires.few) c.args.bitmap c.ranges.bitmap.fits c.requires.making
