use Rattle.std.proofs.Common.{◌≡◌, Some, codes, ap, refl, subst, sym, true≢false, ◌∙◌}
use Rattle.clap.specs.Matches.{subcommand_name_of}
use Rattle.clap.specs.Words.{found_of, rows_of, subcommand_rows_of}
use Rattle.rt_commands.specs.Words.{Gives, live_of}
use Rattle.rt_commands.proofs.Asking.{entered, other_live}
use Rattle.rt_commands.proofs.words.read_live.Goals as goal

pub returns-in-Some : goal.returns-in-Some
returns-in-Some c =
    let m = c.args.matches.now in
    let named : subcommand_name_of m ≡ Some (codes "emulate") = c.in-Some.ensures.found.0 refl in
    let is : subcommand_rows_of m ≡ Some (codes "emulate", rows_of (found_of c.in-Some.entries.now)) =
    entered m (codes "emulate") _ named c.in-Some.ensures.rows in
    subst (λ w. Gives w c.read_served.result) (sym (ap live_of is)) c.read_served.ensures

pub returns-in-None : goal.returns-in-None
returns-in-None c =
    other_live c.args.matches.now (λ e. true≢false (sym (c.in-None.ensures.found.1 e)))
    ∙ ap Some (sym c.read_other.ensures)
