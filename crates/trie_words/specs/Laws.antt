-- What was packed comes back.
use Rattle.std.specs.Prelude.{◌≡◌, ℕ, ◌+◌, ◌*◌, ◌^◌, Some}
use Rattle.trie_words.specs.declared.names.Name.{Name}
use Rattle.trie_words.specs.declared.links.Link.{Link}
use Rattle.trie_words.specs.declared.entries.Entry.{Entry}
use Rattle.trie_words.specs.declared.entries.Pair.{Pair}
use Rattle.trie_words.specs.declared.headers.Header.{Header}
use Rattle.trie_words.specs.declared.roots.RootWord.{RootWord}
use Rattle.trie_words.specs.declared.pins.Pin.{Pin}
use Rattle.trie_words.specs.Codes.{IsName, name_code, name_of, IsLink, link_code, link_of, IsEntry, entry_code, entry_of, IsPair, pair_code, pair_of, IsHeader, header_code, header_of}
use Rattle.trie_words.specs.Codes.{IsRootWord, root_code, root_of, IsPin, pin_code, pin_of}

abbrev pub NamesComeBack : Type 0
NamesComeBack = (name : Name) (above : ℕ) → IsName name → name_of (name_code name + 2 ^ 28 * above) ≡ name

abbrev pub LinksComeBack : Type 0
LinksComeBack = (link : Link) → IsLink link → link_of (link_code link) ≡ link

abbrev pub EntriesComeBack : Type 0
EntriesComeBack = (entry : Entry) → IsEntry entry → entry_of (entry_code entry) ≡ entry

abbrev pub PairsComeBack : Type 0
PairsComeBack = (pair : Pair) → IsPair pair → pair_of (pair_code pair) ≡ pair

abbrev pub HeadersComeBack : Type 0
HeadersComeBack = (header : Header) → IsHeader header → header_of (header_code header) ≡ header

abbrev pub RootsComeBack : Type 0
RootsComeBack = (word : RootWord) → IsRootWord word → root_of (root_code word) ≡ word

abbrev pub PinsComeBack : Type 0
PinsComeBack = (pin : Pin) → IsPin pin → pin_of (pin_code pin) ≡ Some pin
