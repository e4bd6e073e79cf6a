-- A READ leaves the private list alone.
use Rattle.std.specs.Prelude.{◌≡◌, List, refl}
use Rattle.trie_parts.specs.Beneath.slot_arena.specs.declared.refs.Ref.{Ref}
use Rattle.trie_parts.specs.Beneath.machine_model.specs.declared.reading.ReadLine.{ReadLine}
use Rattle.trie_parts.specs.Beneath.machine_model.specs.declared.reading.ReadLine.TheVariants as read
use Rattle.trie_parts.specs.Beneath.machine_model.specs.Reading.{read_action}
use Rattle.trie_parts.specs.Beneath.machine_model.specs.Acting.{private_after}
use Rattle.trie_parts.specs.Beneath.machine_model.specs.States.{State}

pub read_privates : (state : State) (private : List Ref) (indirection : Ref) (line : ReadLine) → private ≡ private_after state private (read_action indirection line)
read_privates state private indirection read.Main = refl
read_privates state private indirection (read.Prev main) = refl
read_privates state private indirection (read.AskRoot main previous) = refl
read_privates state private indirection (read.Abort main previous offer) = refl
read_privates state private indirection (read.Decide main previous told) = refl
read_privates state private indirection (read.Restore main previous) = refl
