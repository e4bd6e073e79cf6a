use Rattle.std.proofs.Common.{◌≤◌, sym, subst}
use Rattle.std.proofs.lemmas.List.{length-map}
use Rattle.trie_words.specs.Codes.{entry_of}
use Rattle.trie_words.specs.declared.headers.Shape.TheVariants as shape
use Rattle.lock_free.specs.Halves.{entries_of_halves}
use Rattle.lock_free.specs.SeenEntries.{IsAtMain}
use Rattle.lock_free.proofs.MainMakes.{list_at}
use Rattle.lock_free.proofs.replacing.make_list_over.Goals as goal

pub make_over-requires-clause-making : goal.make_over-requires-clause-making
make_over-requires-clause-making c =
    subst (λ k. IsAtMain c.args.actor.now.me.0 (shape.List k) (entries_of_halves c.args.halves.now)) (length-map c.args.halves.now entry_of)
    (list_at c.args.actor.now.me.0 (entries_of_halves c.args.halves.now)
    (subst (λ k. k ≤ 32) (sym (length-map c.args.halves.now entry_of)) c.requires.few) c.requires.making)
