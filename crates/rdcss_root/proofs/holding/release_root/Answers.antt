use Rattle.rdcss_root.proofs.holding.release_root.Goals as goal

pub release_word-requires : goal.release_word-requires
release_word-requires c = rw c.in-Some.is at c.requires
