use Rattle.std.proofs.Common.{◌≡◌, Some, codes, ap, refl, subst, sym, true≢false, ◌∙◌}
use Rattle.std.specs.Prelude.{option_map}
use Rattle.clap.specs.Matches.{subcommand_name_of}
use Rattle.clap.specs.Words.{found_of, rows_of, subcommand_rows_of}
use Rattle.rt_commands.specs.Words.{Gives, serving_of, work_of}
use Rattle.rt_commands.specs.declared.words.Work.TheVariants.{Serve}
use Rattle.rt_commands.proofs.Asking.{entered, live_entered, passed}
use Rattle.rt_commands.proofs.words.read_work.Goals as goal

pub returns-in_ok-read_serving-in-Some : goal.returns-in_ok-read_serving-in-Some
returns-in_ok-read_serving-in-Some c =
    let m = c.args.matches.now in
    let named : subcommand_name_of m ≡ Some (codes "serve") = c.in-Some.ensures.found.0 refl in
    let is : subcommand_rows_of m ≡ Some (codes "serve", rows_of (found_of c.in-Some.entries.now)) =
    entered m (codes "serve") _ named c.in-Some.ensures.rows in
    ap work_of is ∙ ap (option_map Serve) c.in_ok-read_serving-in-Some.ensures

pub returns-in_err-read_serving-in-Some : goal.returns-in_err-read_serving-in-Some
returns-in_err-read_serving-in-Some c =
    let m = c.args.matches.now in
    let named : subcommand_name_of m ≡ Some (codes "serve") = c.in-Some.ensures.found.0 refl in
    let is : subcommand_rows_of m ≡ Some (codes "serve", rows_of (found_of c.in-Some.entries.now)) =
    entered m (codes "serve") _ named c.in-Some.ensures.rows in
    passed (serving_of (rows_of (found_of c.in-Some.entries.now))) (work_of (subcommand_rows_of m))
    c.in_err-read_serving-in-Some.field-0.0 c.from_residual.result c.from_residual.ensures.1
    (λ none. ap work_of is ∙ ap (option_map Serve) none) c.in_err-read_serving-in-Some.ensures

pub returns-in-None : goal.returns-in-None
returns-in-None c =
    let is = live_entered c.args.matches.now (λ e. true≢false (sym (c.in-None.ensures.found.1 e))) in
    subst (λ w. Gives w c.read_live.result) (sym is) c.read_live.ensures
