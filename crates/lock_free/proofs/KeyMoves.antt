-- What files on KEY share: the hash of keys, lines, and moves.
use Rattle.std.proofs.Common.{◌≡◌, ap}
use Rattle.machine_model.specs.declared.finding.KeyLine.{KeyLine}
use Rattle.machine_model.specs.declared.lines.Line.{Line}
use Rattle.machine_model.specs.declared.lines.Line.TheVariants as line
use Rattle.machine_model.specs.declared.operations.Operation.{Operation}
use Rattle.machine_model.proofs.Along.{limits_along}
use Rattle.lock_free.specs.declared.accounts.Account.{Account}
use Rattle.lock_free.specs.declared.rules.View.{View}
use Rattle.lock_free.specs.declared.sizes.Sizes.{Sizes}
use Rattle.lock_free.specs.Accounts.{bounds_for, state_of}
use Rattle.lock_free.specs.GoingDown.{HasMoved}
use Rattle.lock_free.proofs.Laters.{later_both}

-- keys are hashed the same way at all times
pub hash_is : (sizes : Sizes) (account : Account) → (state_of sizes account).limits.hash ≡ sizes.hash
hash_is sizes account = ap (λ l. l.hash) (limits_along (bounds_for sizes account.steps) account.steps)

-- a line of KEY is one
abbrev key_line_in : KeyLine → Line → KeyLine
key_line_in other (line.Key l) = l
key_line_in other l = other

pub key_of_line : {a b : KeyLine} → line.Key a ≡ line.Key b → a ≡ b
key_of_line {a} is = ap (key_line_in a) is

-- one after another, to a line that is known
pub moved_on : (u v w : View) (f : Operation → Line) (l : Line) → HasMoved f u v → HasMoved (λ o. l) v w → HasMoved (λ o. l) u w
moved_on u v w f l p q = record { later = later_both u v w p.later q.later; comes = λ o r. q.comes (record o { line = f o }) (p.comes o r) }
