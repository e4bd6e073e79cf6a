-- What the parser's answer says of what the words ask for.
use Rattle.std.proofs.Common.{◌≡◌, ◌⊎◌, Bool, true, false, ◌&&◌, List, [], ◌∷◌, Option, Some, None, option_map, option_and_then, ℕ, codes, length, if◌then◌else◌, refl, sym, ap, ◌∙◌, subst, inl, inr}
use Rattle.std.proofs.Math.Dec.{eqb-suc-zero}
use denote.Ref.{Bor}
use Rattle.std.specs.Prelude.{Box, IfOk}
use Rattle.std.specs.Box.{box_value}
use Rattle.std.specs.Str.{bytes_eq}
use Rattle.std.proofs.lemmas.Slice.Eq.{bytes_eq-Decides}
use Rattle.clap.specs.Kinds.{IsAmong, Kinds}
use Rattle.clap.specs.Simple.{subcommand_rows}
use Rattle.clap.specs.Walk.{is_empty}
use Rattle.clap.specs.Words.{App, Row, Text, fault_of, first_of, is_simple, is_simple_and_free, subcommand_of}
use Rattle.clap.proofs.OnLiterals.{clap_on_literals}
use Rattle.clap.specs.declared.error.kind.ErrorKind.{ErrorKind}
use Rattle.clap.specs.declared.error.kind.ErrorKind.TheVariants.{OutOfMemory}
use Rattle.clap.specs.declared.parser.matches.SubCommand.{SubCommand}
use Rattle.clap.specs.declared.parser.matches.ArgMatches.TheViews.{out-SubCommand}
use Rattle.ctrie_words.specs.declared.arguments.Request.{Request}
use Rattle.ctrie_words.specs.declared.arguments.Request.TheVariants.{Check, Run, Threads, Explain, Draw, Order}
use Rattle.ctrie_words.specs.Requests.{Asks, IsMatched, asked_file, asked_order, both_of, order_of, steps_in, nothing_for, file_of, met, program, takes}

-- the program's command is one whose parse is known
pub program-is_simple_and_free : is_simple_and_free program ≡ true
unfolding program clap_on_literals
program-is_simple_and_free = refl

left_true : (a b : Bool) → (a && b) ≡ true → a ≡ true
left_true true b both = refl
left_true false b both = both

pub program-is_simple : is_simple program ≡ true
program-is_simple = left_true (is_simple program) _ program-is_simple_and_free

-- the name of the subcommand that was met
pub rows-name : {Z : Type 0} (sub : Option (Box SubCommand Z)) → option_map (λ s. s.0) (subcommand_rows sub) ≡ option_map (λ b. (out-SubCommand (box_value b)).name.now) sub
rows-name None = refl
rows-name (Some b) = refl

-- the file behind the subcommand that was met
pub file_met : (wanted : Text) (subcommand : Option (Text × List Row)) (name : Text) (rows : List Row) (file : Option Text)
    → option_map (λ s. s.0) subcommand ≡ Some name → option_map (λ s. s.1) subcommand ≡ Some rows → first_of (codes "FILE") rows ≡ file
    → file_of wanted subcommand ≡ (if bytes_eq name wanted then file else None)
file_met wanted None name rows file is_name is_rows is_file = cc
file_met wanted (Some (n, r)) name rows file is_name is_rows is_file =
    let same_name : n ≡ name = cc in
    let same_rows : r ≡ rows = cc in
    rw (same_name, same_rows, is_file) refl

-- the file and the steps behind the subcommand that was met
pub order_met : (subcommand : Option (Text × List Row)) (name : Text) (rows : List Row) (file steps : Option Text) → option_map (λ s. s.0) subcommand ≡ Some name
    → option_map (λ s. s.1) subcommand ≡ Some rows → first_of (codes "FILE") rows ≡ file → first_of (codes "STEPS") rows ≡ steps
    → order_of subcommand ≡ (if bytes_eq name (codes "order") then both_of file (steps_in steps) else None)
order_met None name rows file steps is_name is_rows is_file is_steps = cc
order_met (Some (n, r)) name rows file steps is_name is_rows is_file is_steps =
    let same_name : n ≡ name = cc in
    let same_rows : r ≡ rows = cc in
    rw (same_name, same_rows, is_file, is_steps) refl

-- behind `order` stands no other subcommand's file
pub order_alone : (subcommand : Option (Text × List Row)) (name : Text) (rows : List Row) (file : Option Text) (wanted : Text) → option_map (λ s. s.0) subcommand ≡ Some name
    → option_map (λ s. s.1) subcommand ≡ Some rows → first_of (codes "FILE") rows ≡ file → bytes_eq name (codes "order") ≡ true → bytes_eq (codes "order") wanted ≡ false
    → file_of wanted subcommand ≡ None
order_alone subcommand name rows file wanted is_name is_rows is_file is_order differs =
    let same : name ≡ codes "order" = (bytes_eq-Decides name (codes "order")).0 is_order in
    file_met wanted subcommand name rows file is_name is_rows is_file ∙ ap (λ (n : Text). if bytes_eq n wanted then file else None) same ∙ ap (λ (b : Bool). if b then file else None) differs

-- the request for an order is that of its parts
pub order_matched : (subcommand : Option (Text × List Row)) (path : Bor Text) (steps : Option ℕ) → order_of subcommand ≡ both_of (Some path.now) steps
    → ((wanted : Text) → bytes_eq (codes "order") wanted ≡ false → file_of wanted subcommand ≡ None)
    → IsMatched subcommand (option_and_then (λ n. Some (Order path n)) steps)
order_matched subcommand path (Some n) is others = is
order_matched subcommand path None is others = ((others (codes "check") refl, others (codes "run") refl, others (codes "threads") refl, others (codes "explain") refl, others (codes "draw") refl), is)

-- a choice between a thing and itself
pub chosen_same : {A : Type 0} (b : Bool) (a : A) → (if b then a else a) ≡ a
chosen_same true a = refl
chosen_same false a = refl

-- a command that fails by nothing takes the words
pub takes_by_none : (app : App) (words : List Text) → app ≡ program → fault_of app words ≡ [] → takes words ≡ true
unfolding takes
takes_by_none app words same none = ap is_empty (subst (λ (a : App). fault_of a words ≡ []) same none)

-- the subcommand that was met is the one that the words name
pub met_by_rows : (app : App) (words : List Text) (rows : Option (Text × List Row)) → app ≡ program → rows ≡ subcommand_of app words → met words ≡ rows
unfolding met
met_by_rows app words rows same is = sym (subst (λ (a : App). rows ≡ subcommand_of a words) same is)

-- a request that was found in the matches is what the words ask for
pub answers_found : (words : List Text) (rows : Option (Text × List Row)) (found : Option Request) → takes words ≡ true → met words ≡ rows
    → IsMatched rows found → Asks words found
answers_found words rows None taken is ((check, run, threads, explain, draw), order) =
    ((rw (taken, is) check, rw (taken, is) run, rw (taken, is) threads, rw (taken, is) explain, rw (taken, is) draw), rw (taken, is) order)
answers_found words rows (Some (Check path)) taken is file = rw (taken, is) file
answers_found words rows (Some (Run path)) taken is file = rw (taken, is) file
answers_found words rows (Some (Threads path)) taken is file = rw (taken, is) file
answers_found words rows (Some (Explain path)) taken is file = rw (taken, is) file
answers_found words rows (Some (Draw path)) taken is file = rw (taken, is) file
answers_found words rows (Some (Order path steps)) taken is both = rw (taken, is) both

-- words that the command doesn't take ask for nothing
asks_nothing : (name : Text) (words : List Text) → takes words ≡ false → asked_file name words ≡ None
asks_nothing name words refused = rw refused refl

orders_nothing : (words : List Text) → takes words ≡ false → asked_order words ≡ None
orders_nothing words refused = rw refused refl

answers_refused : (words : List Text) (k : ErrorKind) → takes words ≡ false → IfOk (nothing_for k) (Asks words)
answers_refused words OutOfMemory refused = tt
answers_refused words other refused = (
  (
    asks_nothing (codes "check") words refused,
    asks_nothing (codes "run") words refused,
    asks_nothing (codes "threads") words refused,
    asks_nothing (codes "explain") words refused,
    asks_nothing (codes "draw") words refused,
  ),
  orders_nothing words refused,
)

refused_words : (words : List Text) (k : ErrorKind) (kinds : Kinds) → IsAmong k kinds → takes words ≡ is_empty kinds → takes words ≡ false
refused_words words k [] among taken = absurd among
refused_words words k (x ∷ xs) among taken = taken ∙ eqb-suc-zero (length xs)

-- a command that fails by a kind other than memory doesn't take the words
pub answers_error : (app : App) (words : List Text) (k : ErrorKind) → app ≡ program → (k ≡ OutOfMemory) ⊎ IsAmong k (fault_of app words)
    → IfOk (nothing_for k) (Asks words)
unfolding takes
answers_error app words k same (inl memory) = subst (λ (j : ErrorKind). IfOk (nothing_for j) (Asks words)) (sym memory) tt
answers_error app words k same (inr among) = answers_refused words k (refused_words words k (fault_of app words) among (ap (λ (a : App). is_empty (fault_of a words)) (sym same)))
