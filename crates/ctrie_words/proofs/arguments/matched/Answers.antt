-- What was found behind the subcommand is what its rows say.
use Rattle.std.proofs.Common.{◌≡◌, ◌∙◌, None, true, codes, refl, sym, rules}
use Rattle.std.specs.Str.{bytes_eq}
use Rattle.clap.specs.Words.{found_of}
use Rattle.clap.proofs.WalkLemmas.{first_value-rows}
use Rattle.ctrie_words.proofs.Asked.{rows-name, file_met, order_met, order_alone, order_matched, chosen_same}
use Rattle.ctrie_words.proofs.arguments.matched.Goals as goal

pub returns-in_err-path : goal.returns-in_err-path
returns-in_err-path c =
    let none : c.from_residual-in_err-path.result ≡ None = search rules in
    let is_name = rows-name _ ∙ sym c.in_ok-name.ensures.name in
    let is_file = sym (first_value-rows (found_of c.in_ok-name.found.now) (codes "FILE")) ∙ sym c.in_err-path.ensures in
    let check = file_met (codes "check") _ _ _ _ is_name (sym c.in_ok-name.ensures.rows) is_file in
    let run = file_met (codes "run") _ _ _ _ is_name (sym c.in_ok-name.ensures.rows) is_file in
    let threads = file_met (codes "threads") _ _ _ _ is_name (sym c.in_ok-name.ensures.rows) is_file in
    let explain = file_met (codes "explain") _ _ _ _ is_name (sym c.in_ok-name.ensures.rows) is_file in
    let draw = file_met (codes "draw") _ _ _ _ is_name (sym c.in_ok-name.ensures.rows) is_file in
    let order = order_met _ _ _ None _ is_name (sym c.in_ok-name.ensures.rows) is_file refl in
    rw none ((check ∙ chosen_same _ _, run ∙ chosen_same _ _, threads ∙ chosen_same _ _, explain ∙ chosen_same _ _, draw ∙ chosen_same _ _), order ∙ chosen_same _ _)

pub returns-then-eq : goal.returns-then-eq
returns-then-eq c =
    let is_check : bytes_eq c.in_ok-name.name.now (codes "check") ≡ true = search rules in
    let is_name = rows-name _ ∙ sym c.in_ok-name.ensures.name in
    let is_file = sym (first_value-rows (found_of c.in_ok-name.found.now) (codes "FILE")) ∙ sym c.in_ok-path.ensures in
    rw is_check at (file_met (codes "check") _ _ _ _ is_name (sym c.in_ok-name.ensures.rows) is_file)

pub returns-then-eq-2 : goal.returns-then-eq-2
returns-then-eq-2 c =
    let is_run : bytes_eq c.in_ok-name.name.now (codes "run") ≡ true = search rules in
    let is_name = rows-name _ ∙ sym c.in_ok-name.ensures.name in
    let is_file = sym (first_value-rows (found_of c.in_ok-name.found.now) (codes "FILE")) ∙ sym c.in_ok-path.ensures in
    rw is_run at (file_met (codes "run") _ _ _ _ is_name (sym c.in_ok-name.ensures.rows) is_file)

pub returns-then-eq-3 : goal.returns-then-eq-3
returns-then-eq-3 c =
    let is_threads : bytes_eq c.in_ok-name.name.now (codes "threads") ≡ true = search rules in
    let is_name = rows-name _ ∙ sym c.in_ok-name.ensures.name in
    let is_file = sym (first_value-rows (found_of c.in_ok-name.found.now) (codes "FILE")) ∙ sym c.in_ok-path.ensures in
    rw is_threads at (file_met (codes "threads") _ _ _ _ is_name (sym c.in_ok-name.ensures.rows) is_file)

pub returns-then-eq-4 : goal.returns-then-eq-4
returns-then-eq-4 c =
    let is_explain : bytes_eq c.in_ok-name.name.now (codes "explain") ≡ true = search rules in
    let is_name = rows-name _ ∙ sym c.in_ok-name.ensures.name in
    let is_file = sym (first_value-rows (found_of c.in_ok-name.found.now) (codes "FILE")) ∙ sym c.in_ok-path.ensures in
    rw is_explain at (file_met (codes "explain") _ _ _ _ is_name (sym c.in_ok-name.ensures.rows) is_file)

pub returns-then-eq-5 : goal.returns-then-eq-5
returns-then-eq-5 c =
    let is_draw : bytes_eq c.in_ok-name.name.now (codes "draw") ≡ true = search rules in
    let is_name = rows-name _ ∙ sym c.in_ok-name.ensures.name in
    let is_file = sym (first_value-rows (found_of c.in_ok-name.found.now) (codes "FILE")) ∙ sym c.in_ok-path.ensures in
    rw is_draw at (file_met (codes "draw") _ _ _ _ is_name (sym c.in_ok-name.ensures.rows) is_file)

pub returns-then-eq-6 : goal.returns-then-eq-6
returns-then-eq-6 c =
    let is_order : bytes_eq c.in_ok-name.name.now (codes "order") ≡ true = search rules in
    let is_name = rows-name _ ∙ sym c.in_ok-name.ensures.name in
    let found = found_of c.in_ok-name.found.now in
    let is_file = sym (first_value-rows found (codes "FILE")) ∙ sym c.in_ok-path.ensures in
    let is_steps = sym (first_value-rows found (codes "STEPS")) in
    let both = rw is_order at (order_met _ _ _ _ _ is_name (sym c.in_ok-name.ensures.rows) is_file is_steps) in
    rw c.ordering.ensures (order_matched _ c.in_ok-path.path _ both (λ wanted differs. order_alone _ _ _ _ wanted is_name (sym c.in_ok-name.ensures.rows) is_file is_order differs))
