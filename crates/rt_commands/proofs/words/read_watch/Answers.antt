use Rattle.std.proofs.Common.{◌≡◌, Some, codes, ap, refl, sym, true≢false, ◌∙◌}
use Rattle.clap.specs.Matches.{subcommand_name_of}
use Rattle.clap.specs.Words.{found_of, rows_of, subcommand_rows_of}
use Rattle.rt_commands.specs.Words.{watch_of}
use Rattle.rt_commands.proofs.Asking.{entered, script_entered}
use Rattle.rt_commands.proofs.words.read_watch.Goals as goal

pub returns-in-Some : goal.returns-in-Some
returns-in-Some c =
    let m = c.args.matches.now in
    let named : subcommand_name_of m ≡ Some (codes "watch") = c.in-Some.ensures.found.0 refl in
    let is : subcommand_rows_of m ≡ Some (codes "watch", rows_of (found_of c.in-Some.entries.now)) =
    entered m (codes "watch") _ named c.in-Some.ensures.rows in
    c.read_watching.ensures ∙ sym (ap watch_of is)

pub returns-in-None : goal.returns-in-None
returns-in-None c =
    sym (script_entered c.args.matches.now (λ e. true≢false (sym (c.in-None.ensures.found.1 e))))
