use Rattle.std.proofs.Common.{◌≡◌, ◌/◌, ◌%◌, ◌^◌, bit_xor, get_or, set, ap, ◌∙◌, arith}
use Rattle.std.proofs.lemmas.Grind.{get_or_default_zero}
use Rattle.handle_table.specs.Numbers.{taken_by}
use Rattle.handle_table.proofs.Bits.{flipped, one_bit, row_within}
use Rattle.handle_table.proofs.words.flip.Goals as goal

pub returns-clause-taken : goal.returns-clause-taken
returns-clause-taken c =
    let words = c.args.words.now.items in
    let word : c.index_mut.result.now ≡ get_or words (c.args.number / 64) 0 =
    c.index_mut.ensures.value ∙ get_or_default_zero words (c.args.number / 64) c.index_mut.result.now (omega (arith, c.requires.many, row_within c.args.number c.requires.within)) in
    ap (λ bit. taken_by (set words (c.args.number / 64) (bit_xor c.index_mut.result.now bit))) (one_bit c.args.number)
    ∙ ap (λ w. taken_by (set words (c.args.number / 64) (bit_xor w (2 ^ (c.args.number % 64))))) word
    ∙ flipped words c.args.number c.requires.many c.requires.within
