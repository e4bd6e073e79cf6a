-- From when on a READ counts for a path, and that what a line knows of its path stays while others move.
use Rattle.std.proofs.Common.{ℕ, suc, ◌≤◌, arith}
use Rattle.proof_updates.specs.Vocabulary.{Access, Line, ReadLine, counts_at, Trie}
use Rattle.proof_updates.specs.Beneath.machine_model.specs.declared.finding.KeyLine.TheVariants as key
use Rattle.proof_updates.specs.Beneath.machine_model.specs.declared.lines.Purpose.TheVariants as purpose
use Rattle.proof_updates.specs.Beneath.machine_model.specs.declared.lines.Line.TheVariants as line
use Rattle.proof_updates.specs.Beneath.machine_model.specs.declared.reading.ReadLine.TheVariants as read
use Rattle.proof_updates.proofs.Routes.Known.{since, LineRoute, route_later}

-- ---- from when on a READ counts

pub counts_since : (l : ReadLine) (t b : ℕ) → b ≤ t → (since t b l ≤ counts_at l t b) × (counts_at l t b ≤ t)
counts_since read.Main t b le = (omega arith, omega arith)
counts_since (read.Restore m p) t b le = (omega arith, omega arith)
counts_since (read.Prev m) t b le = (omega arith, omega arith)
counts_since (read.AskRoot m p) t b le = (omega arith, omega arith)
counts_since (read.Abort m p offer) t b le = (omega arith, omega arith)
counts_since (read.Decide m p told) t b le = (omega arith, omega arith)

pub since_next : (l : ReadLine) (t b c : ℕ) → c ≤ b → b ≤ t → c ≤ since (suc t) b l
since_next read.Main t b c le within = omega arith
since_next (read.Restore m p) t b c le within = omega arith
since_next (read.Prev m) t b c le within = omega arith
since_next (read.AskRoot m p) t b c le within = omega arith
since_next (read.Abort m p offer) t b c le within = omega arith
since_next (read.Decide m p told) t b c le within = omega arith

pub since_later : (l : ReadLine) (t b : ℕ) → since t b l ≤ since (suc t) b l
since_later read.Main t b = omega arith
since_later (read.Restore m p) t b = omega arith
since_later (read.Prev m) t b = omega arith
since_later (read.AskRoot m p) t b = omega arith
since_later (read.Abort m p offer) t b = omega arith
since_later (read.Decide m p told) t b = omega arith

-- ---- while others move

pub later : (trie : Trie) (access : Access) (g q t b mu : ℕ) (l : Line) → LineRoute trie access g q t b mu l → LineRoute trie access g q (suc t) b mu l
later trie access g q t b mu (line.Key (key.Read p r)) h = (route_later trie access g q (since t b r.line) (since (suc t) b r.line) p (since_later r.line t b) h.0, h.1)
later trie access g q t b mu (line.Key (key.Main p main)) h = record { past = omega (arith, h.past); route = h.route; given = h.given }
later trie access g q t b mu (line.Key (key.Entry p main position)) h = record { past = omega (arith, h.past); route = h.route; given = h.given }
later trie access g q t b mu (line.Key (key.Listed p main position)) h = record { past = omega (arith, h.past); route = h.route; given = h.given }
later trie access g q t b mu (line.Key (key.Sibling p main position former)) h = record { past = omega (arith, h.past); route = h.route; given = h.given }
later trie access g q t b mu (line.Build l) h = route_later trie access g q t (suc t) _ (omega arith) h
later trie access g q t b mu (line.Renew l) h = route_later trie access g q t (suc t) _ (omega arith) h
later trie access g q t b mu (line.Swap (purpose.Update p former) s) h = route_later trie access g q t (suc t) p (omega arith) h
later trie access g q t b mu (line.Swap (purpose.Renew p) s) h = route_later trie access g q t (suc t) p (omega arith) h
later trie access g q t b mu (line.Swap purpose.Clean s) h = tt
later trie access g q t b mu (line.Swap (purpose.Climb c) s) h = tt
later trie access g q t b mu (line.Root l) h = tt
later trie access g q t b mu (line.Clean l) h = tt
later trie access g q t b mu (line.Climb l) h = tt
later trie access g q t b mu (line.Copy l) h = tt
later trie access g q t b mu (line.Walk l) h = tt
later trie access g q t b mu (line.End answer) h = tt
later trie access g q t b mu line.Impossible h = tt
