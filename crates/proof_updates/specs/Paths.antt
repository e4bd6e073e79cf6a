-- What an operation that looks for its key knows of its path.
use Rattle.std.specs.Prelude.{ℕ, ◌<◌, ◌≤◌, List, length, slice_index_or, Option, Some, None}
use Rattle.proof_updates.specs.Vocabulary.{Ref, no_ref, KeyLine, Line, Trie, On, build_path, renew_path}
use Rattle.proof_updates.specs.Beneath.machine_model.specs.declared.finding.KeyLine.TheVariants as key
use Rattle.proof_updates.specs.Beneath.machine_model.specs.declared.lines.Purpose.TheVariants as purpose
use Rattle.proof_updates.specs.Beneath.machine_model.specs.declared.lines.Line.TheVariants as line

-- each indirection of the path was on the key's path in the generation, at some time up to t
abbrev pub LiesOn : Trie → ℕ → ℕ → ℕ → List Ref → Type 0
LiesOn trie t g key p = (d : ℕ) → d < length p → (once : ℕ) × (once ≤ t) × On trie once g key d (slice_index_or p d no_ref)

-- ---- lines with a path of the key

abbrev pub path_of_key : KeyLine → List Ref
path_of_key (key.Read p read) = p
path_of_key (key.Main p main) = p
path_of_key (key.Entry p main position) = p
path_of_key (key.Listed p main position) = p
path_of_key (key.Sibling p main position former) = p

abbrev pub path_of : Line → Option (List Ref)
path_of (line.Key l) = Some (path_of_key l)
path_of (line.Build l) = Some (build_path l)
path_of (line.Renew l) = Some (renew_path l)
path_of (line.Swap (purpose.Update p former) s) = Some p
path_of (line.Swap (purpose.Renew p) s) = Some p
path_of l = None
