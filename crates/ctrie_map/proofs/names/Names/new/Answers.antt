use Rattle.std.proofs.Common.{◌≡◌, Option, Some, None, List, replicate, slice_set, ap, rules}
use Rattle.ctrie_map.specs.Vocabulary.{Writable}
use Rattle.ctrie_map.specs.declared.names.Name.{Name}
use Rattle.ctrie_map.proofs.names.Names.new.Goals as goal

pub returns : goal.returns
returns c =
    let is : c.in_ok-named.named.items ≡ replicate 256 None = c.in_ok-named.ensures.items_if_clones_equal (λ y e. search rules) in
    ap (λ (names : List (Option Name)). record { named = slice_set names 0 (Some (record { core = 0; access = Writable })); last = 0 }) is
