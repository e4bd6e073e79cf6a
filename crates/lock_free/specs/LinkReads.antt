-- A READ that gives the link of the decided main node alone; the main node's header is there, but isn't told.
use Rattle.std.specs.Prelude.{◌≡◌, ℕ, List, Option, Some, None}
use Rattle.trie_words.specs.declared.headers.Header.{Header}
use Rattle.trie_words.specs.declared.links.Link.{Link}
use Rattle.machine_model.specs.Beneath.slot_arena.specs.declared.refs.Ref.{Ref}
use Rattle.lock_free.specs.declared.finding.Turn.{Turn}
use Rattle.lock_free.specs.declared.reading.Given.{Given}
use Rattle.lock_free.specs.declared.reading.Passed.{Passed}
use Rattle.lock_free.specs.declared.reading.Passed.TheVariants as passed
use Rattle.lock_free.specs.declared.reading.ReadFrom.{ReadFrom}
use Rattle.lock_free.specs.declared.reading.Way.{Way}
use Rattle.lock_free.specs.declared.rules.View.{View}
use Rattle.lock_free.specs.Descending.{IsHere}
use Rattle.lock_free.specs.GoingDown.{HasReadKey}
use Rattle.lock_free.specs.Loading.{IsSound}
use Rattle.lock_free.specs.Passing.{HasPassed, IsOnWay, IsPassing}

abbrev pub given_by : Link → Header → Given
given_by link header = record { link = link; header = header }

-- it has given a main node by this link; or it goes on
abbrev pub HasReadTo : View → Option Link → View → Type 0
HasReadTo before (Some link) after = (header : Header) × HasPassed before (passed.Gives (given_by link header)) after
HasReadTo before None after = (from : ReadFrom) × HasPassed before (passed.Again from) after

-- it has given something; or it goes on from there
abbrev pub HasReadOut : View → Option ReadFrom → View → Type 0
HasReadOut before None after = (given : Given) × HasPassed before (passed.Gives given) after
HasReadOut before (Some from) after = HasPassed before (passed.Again from) after

-- where a pass has come to this, the next one can be made
abbrev pub CanGoOn : View → Way → ℕ → Passed → Type 0
CanGoOn v way name (passed.Gives given) = Unit {0}
CanGoOn v way name (passed.Again from) = IsOnWay v way × IsPassing v name from

abbrev pub HasLinkAfter : View → Passed → Option Link → View → Type 0
HasLinkAfter before (passed.Gives given) result after = (result ≡ Some given.link) × (after ≡ before)
HasLinkAfter before (passed.Again from) result after = HasReadTo before result after

abbrev pub HasOutAfter : View → Passed → Option ReadFrom → View → Type 0
HasOutAfter before (passed.Gives given) result after = (result ≡ None) × (after ≡ before)
HasOutAfter before (passed.Again from) result after = HasReadOut before result after

-- after a pass from here the next one can be made
abbrev pub CanGoOnAfter : ℕ → View → Way → ℕ → Type 0
CanGoOnAfter n v way name = (q : Passed) (w : View) → IsSound n w → HasPassed v q w → CanGoOn w way name q

-- a pass from here, or further ones, have come to this
abbrev pub HasLinkOn : ℕ → View → Option Link → View → Type 0
HasLinkOn n v result after = (q : Passed) × (w : View) × IsSound n w × HasPassed v q w × HasLinkAfter w q result after

abbrev pub HasOutOn : ℕ → View → Option ReadFrom → View → Type 0
HasOutOn n v result after = (q : Passed) × (w : View) × IsSound n w × HasPassed v q w × HasOutAfter w q result after

-- it has read the main node and turns so
abbrev pub HasReadOn : View → Link × Turn → View → Type 0
HasReadOn before (link, turn) after = (header : Header) × HasReadKey before (given_by link header, turn) after

-- it is there, by the path and the main node to which this link leads
abbrev pub IsThere : View → List ℕ → Link → (List Ref → Ref → Type 0) → Type 0
IsThere v slots link At = (header : Header) × IsHere v slots (given_by link header) At
