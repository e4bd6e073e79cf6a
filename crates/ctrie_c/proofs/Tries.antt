-- What a seat's contract says holds of the seat that is held.
use Rattle.std.proofs.Common.{◌≡◌, ◌<◌, ℕ, sym, subst, inl, inr}
use Rattle.std.specs.Prelude.{Bool, Option, Some, None, Ok}
use Rattle.shared_map.specs.declared.asks.Ask.{Ask}
use Rattle.shared_map.specs.Asks.{Told}
use Rattle.shared_map.specs.Beneath.sharded_gate.specs.declared.gates.ShardCount.{ShardCount}
use Rattle.ctrie_c.specs.Answers.{code_limit, truth_told}
use Rattle.ctrie_c.specs.Sharing.{AsksIt, Hears, HearsSo, Says, Sharing, Tries}

-- it did something, and the code tells what
pub came_in : {before after : Option Sharing} {old lent new : Sharing} {code : ℕ} (Holds : Sharing → Sharing → Type 0) → lent ≡ old → before ≡ Some old → after ≡ Some new → code < code_limit →
    Holds lent new → Tries before after code Holds
came_in {before} {after} {old} {lent} {new} {code} Holds same was is low holds =
    subst (λ (b : Option Sharing). Tries b after code Holds) (sym was)
    (subst (λ (a : Option Sharing). Tries (Some old) a code Holds) (sym is) (inr (low, subst (λ (s : Sharing). Holds s new) same holds)))

-- it heard
pub heard_so : {before after : Option Sharing} {old lent new : Sharing} {code : ℕ} (count : ShardCount) (heard : Bool) → lent ≡ old → before ≡ Some old → after ≡ Some new → code < code_limit →
    truth_told code ≡ Ok heard → Hears count heard lent new → Tries before after code (HearsSo count (truth_told code))
heard_so {before} {after} {old} {lent} {new} {code} count heard same was is low told hears = came_in (HearsSo count (truth_told code)) same was is low (heard, told, hears)

-- it didn't ask
pub untried : (before after : Option Sharing) (code : ℕ) (Holds : Sharing → Sharing → Type 0) → Tries before after code (λ old new. ⊥) → Tries before after code Holds
untried (Some old) (Some new) code Holds (inl out) = inl out
untried (Some old) (Some new) code Holds (inr told) = absurd told.1
untried (Some old) None code Holds wrong = absurd wrong
untried None (Some new) code Holds wrong = absurd wrong
untried None None code Holds is = is

-- it asked, and this is said of what it was told
pub tried : {A : Type 0} (says : Told → A) (before after : Option Sharing) (ask : Ask) (told : Told) (code : ℕ) (result : A) → AsksIt before after ask told → code < code_limit → result ≡ says told →
    Tries before after code (Says says ask result)
tried says (Some old) (Some new) ask told code result asked low is = inr (low, (asked.0, (told, is, asked.1)))
tried says (Some old) None ask told code result asked low is = absurd asked
tried says None after ask told code result asked low is = absurd asked
