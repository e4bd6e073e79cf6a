use Rattle.rdcss_root.proofs.Rewriting.{live_rewritten}
use Rattle.rdcss_root.proofs.roots.Roots.put_word.Goals as goal

pub put-requires-clause-live : goal.put-requires-clause-live
put-requires-clause-live c = rw c.rewritten-root.ensures (live_rewritten _ _ _ c.requires.live)
