-- The numbers that stand for the parts of a trie in shared words, and what a number stands for.
use Rattle.std.specs.Prelude.{◌≡◌, ℕ, ◌+◌, ◌-◌, ◌*◌, ◌/◌, ◌%◌, ◌^◌, ◌<◌, ◌==◌, Bool, true, false, Option, Some, None, if◌then◌else◌}
use Rattle.trie_words.specs.declared.names.Name.{Name}
use Rattle.trie_words.specs.declared.links.Link.{Link}
use Rattle.trie_words.specs.declared.entries.Entry.{Entry}
use Rattle.trie_words.specs.declared.entries.Pair.{Pair}
use Rattle.trie_words.specs.declared.headers.Previous.{Previous}
use Rattle.trie_words.specs.declared.headers.Previous.TheVariants as previous
use Rattle.trie_words.specs.declared.headers.Shape.{Shape}
use Rattle.trie_words.specs.declared.headers.Shape.TheVariants.{Branch, Tomb, List as Listed}
use Rattle.trie_words.specs.declared.headers.Header.{Header}
use Rattle.trie_words.specs.declared.roots.RootWord.{RootWord}
use Rattle.trie_words.specs.declared.roots.RootWord.TheVariants as root
use Rattle.trie_words.specs.declared.pins.Pin.{Pin}

abbrev pub bit : Bool → ℕ
bit false = 0
bit true = 1

-- ---- names: 27 bits of a slot, and a mark

abbrev pub IsName : Name → Type 0
IsName name = name.slot < 2 ^ 27

abbrev pub name_code : Name → ℕ
name_code name = name.slot + 2 ^ 27 * bit name.own

abbrev pub name_of : ℕ → Name
name_of n = record { slot = n % 2 ^ 27; own = (n / 2 ^ 27) % 2 == 1 }

-- ---- indirections: a name, and the generation above it

abbrev pub IsLink : Link → Type 0
IsLink link = (link.generation < 2 ^ 36) × IsName link.main

abbrev pub link_code : Link → ℕ
link_code link = 2 ^ 28 * link.generation + name_code link.main

abbrev pub link_of : ℕ → Link
link_of n = record { generation = n / 2 ^ 28; main = name_of n }

-- ---- entries: 27 bits of a slot, and two marks; two halves in a word

abbrev pub IsEntry : Entry → Type 0
IsEntry entry = entry.slot < 2 ^ 27

abbrev pub entry_code : Entry → ℕ
entry_code entry = entry.slot + 2 ^ 27 * bit entry.own + 2 ^ 28 * bit entry.is_single

abbrev pub entry_of : ℕ → Entry
entry_of n = record { slot = n % 2 ^ 27; own = (n / 2 ^ 27) % 2 == 1; is_single = (n / 2 ^ 28) % 2 == 1 }

abbrev pub IsPair : Pair → Type 0
IsPair pair = (pair.low < 2 ^ 32) × (pair.high < 2 ^ 32)

abbrev pub pair_code : Pair → ℕ
pair_code pair = pair.low + 2 ^ 32 * pair.high

abbrev pub pair_of : ℕ → Pair
pair_of n = record { low = n % 2 ^ 32; high = n / 2 ^ 32 }

-- ---- headers: 32 bits of what the main node is, 30 of the one before, 2 of its kind

abbrev pub IsPrevious : Previous → Type 0
IsPrevious previous.None = Unit {0}
IsPrevious (previous.Pending name) = IsName name
IsPrevious (previous.Failed name) = IsName name

abbrev pub previous_code : Previous → ℕ
previous_code previous.None = 0
previous_code (previous.Pending name) = name_code name + 2 ^ 28
previous_code (previous.Failed name) = name_code name + 2 ^ 29

abbrev pub previous_of : ℕ → Previous
previous_of n =
    if (n / 2 ^ 28) % 4 == 0 then previous.None else (if (n / 2 ^ 28) % 4 == 1 then previous.Pending (name_of n) else previous.Failed (name_of n))

abbrev pub IsShape : Shape → Type 0
IsShape (Branch bitmap) = bitmap < 2 ^ 32
IsShape (Tomb entry) = IsEntry entry
IsShape (Listed count) = count < 2 ^ 32

abbrev pub low_code : Shape → ℕ
low_code (Branch bitmap) = bitmap
low_code (Tomb entry) = entry_code entry
low_code (Listed count) = count

abbrev pub kind_code : Shape → ℕ
kind_code (Branch bitmap) = 0
kind_code (Tomb entry) = 1
kind_code (Listed count) = 2

abbrev pub shape_of : ℕ → ℕ → Shape
shape_of low kind = if kind == 0 then Branch low else (if kind == 1 then Tomb (entry_of low) else Listed low)

abbrev pub IsHeader : Header → Type 0
IsHeader header = IsPrevious header.previous × IsShape header.shape

abbrev pub header_code : Header → ℕ
header_code header = low_code header.shape + 2 ^ 32 * previous_code header.previous + 2 ^ 62 * kind_code header.shape

abbrev pub header_of : ℕ → Header
header_of n = record { previous = previous_of ((n / 2 ^ 32) % 2 ^ 30); shape = shape_of (n % 2 ^ 32) (n / 2 ^ 62) }

-- ---- words of handles: 27 bits of a slot, 8 of a seat, and the kind

abbrev pub IsRootWord : RootWord → Type 0
IsRootWord root.Closed = Unit {0}
IsRootWord (root.Writable slot) = slot < 2 ^ 27
IsRootWord (root.ReadOnly slot) = slot < 2 ^ 27
IsRootWord (root.Offered slot) = slot < 2 ^ 27
IsRootWord (root.Opening slot) = slot < 2 ^ 27
IsRootWord root.Reserved = Unit {0}
IsRootWord (root.ClosingWritable slot seat) = (slot < 2 ^ 27) × (seat < 2 ^ 8)
IsRootWord (root.ClosingReadOnly slot seat) = (slot < 2 ^ 27) × (seat < 2 ^ 8)

abbrev pub root_code : RootWord → ℕ
root_code root.Closed = 0
root_code (root.Writable slot) = slot + 2 ^ 35
root_code (root.ReadOnly slot) = slot + 2 * 2 ^ 35
root_code (root.Offered slot) = slot + 3 * 2 ^ 35
root_code (root.Opening slot) = slot + 4 * 2 ^ 35
root_code root.Reserved = 5 * 2 ^ 35
root_code (root.ClosingWritable slot seat) = slot + 2 ^ 27 * seat + 6 * 2 ^ 35
root_code (root.ClosingReadOnly slot seat) = slot + 2 ^ 27 * seat + 7 * 2 ^ 35

abbrev pub root_by : ℕ → ℕ → ℕ → RootWord
root_by kind slot seat =
    if kind == 0 then root.Closed else (if kind == 1 then root.Writable slot else (if kind == 2 then root.ReadOnly slot else (if kind == 3 then root.Offered slot
    else (if kind == 4 then root.Opening slot else (if kind == 5 then root.Reserved
    else (if kind == 6 then root.ClosingWritable slot seat else root.ClosingReadOnly slot seat))))))

abbrev pub root_of : ℕ → RootWord
root_of n = root_by (n / 2 ^ 35) (n % 2 ^ 27) ((n / 2 ^ 27) % 2 ^ 8)

-- ---- words of seats: one more than 9 bits of a handle, and the epoch above them; 0 says that it makes no call

abbrev pub IsPin : Pin → Type 0
IsPin pin = (pin.epoch < 2 ^ 54) × (pin.handle < 2 ^ 9)

abbrev pub pin_code : Pin → ℕ
pin_code pin = 1 + pin.handle + 2 ^ 9 * pin.epoch

abbrev pub pin_of : ℕ → Option Pin
pin_of n = if n == 0 then None else Some (record { epoch = (n - 1) / 2 ^ 9; handle = (n - 1) % 2 ^ 9 })
