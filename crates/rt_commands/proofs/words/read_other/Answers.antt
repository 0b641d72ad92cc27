use Rattle.std.proofs.Common.{◌≡◌, Some, codes, ap, refl, sym, true≢false, ◌∙◌}
use Rattle.clap.specs.Matches.{subcommand_name_of}
use Rattle.clap.specs.Words.{found_of, rows_of, subcommand_rows_of}
use Rattle.rt_commands.specs.Words.{other_of}
use Rattle.rt_commands.specs.declared.words.Work.TheVariants.{Connect}
use Rattle.rt_commands.proofs.Asking.{entered, watch_entered}
use Rattle.rt_commands.proofs.words.read_other.Goals as goal

pub returns-in-Some : goal.returns-in-Some
returns-in-Some c =
    let m = c.args.matches.now in
    let named : subcommand_name_of m ≡ Some (codes "connect") = c.in-Some.ensures.found.0 refl in
    let is : subcommand_rows_of m ≡ Some (codes "connect", rows_of (found_of c.in-Some.entries.now)) =
    entered m (codes "connect") _ named c.in-Some.ensures.rows in
    ap Connect c.number.ensures ∙ sym (ap other_of is)

pub returns-in-None : goal.returns-in-None
returns-in-None c =
    c.read_watch.ensures
    ∙ sym (watch_entered c.args.matches.now (λ e. true≢false (sym (c.in-None.ensures.found.1 e))))
