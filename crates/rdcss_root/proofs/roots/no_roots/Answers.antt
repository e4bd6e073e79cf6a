use Rattle.std.proofs.Common.{◌-◌, ◌++◌, take, replicate, vec_len, Option, None, ap, ◌∙◌}
use Rattle.rdcss_root.specs.Vocabulary.{Root}
use Rattle.rdcss_root.proofs.roots.no_roots.Goals as goal

pub returns : goal.returns
returns c =
    let filled = c.in_ok-resize.ensures in
    let none : Option Root = None in
    filled.items ∙ ap (λ xs. take 256 xs ++ replicate (256 - vec_len c.new-roots.result) none) c.new-roots.ensures.items
    ∙ ap (λ n. replicate (256 - n) none) c.new-roots.ensures.len
