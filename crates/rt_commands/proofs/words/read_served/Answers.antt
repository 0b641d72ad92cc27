use Rattle.std.proofs.Common.{Some, ap, codes, sym, ◌∙◌}
use Rattle.std.specs.Prelude.{Bool, option_map, option_and_then}
use Rattle.clap.specs.Words.{found_of, one_of, rows_of}
use Rattle.rt_commands.specs.Words.{emulation_of, flag_of, logging_of, served_of}
use Rattle.rt_commands.specs.declared.words.Work.TheVariants.{Emulate}
use Rattle.rt_commands.proofs.Asking.{passed, served_at, served_with}
use Rattle.rt_commands.proofs.words.read_served.Goals as goal

pub returns : goal.returns
returns c =
    let rows = rows_of (found_of c.args.entries.now) in
    let level = c.in_ok-level.level in
    ap (option_and_then (served_at rows)) c.in_ok-level.ensures
    ∙ ap (option_and_then (served_with rows level)) c.in_ok-host.ensures
    ∙ ap (option_map (λ e. Emulate e (flag_of (one_of (codes "until-eof") rows)) level)) c.in_ok-emulating.ensures
    ∙ ap (λ (b : Bool). Some (Emulate c.in_ok-emulating.emulating b level)) (sym c.flag-ends_with_input.ensures)

pub returns-in_err-level : goal.returns-in_err-level
returns-in_err-level c =
    let rows = rows_of (found_of c.args.entries.now) in
    passed (logging_of rows) (served_of rows) c.in_err-level.field-0.0 c.from_residual.result
    c.from_residual.ensures.1 (λ none. ap (option_and_then (served_at rows)) none) c.in_err-level.ensures

pub returns-in_err-host : goal.returns-in_err-host
returns-in_err-host c =
    let rows = rows_of (found_of c.args.entries.now) in
    let level = c.in_ok-level.level in
    passed _ (served_of rows) c.in_err-host.field-0.0 c.from_residual-in_err-host.result
    c.from_residual-in_err-host.ensures.1
    (λ none. ap (option_and_then (served_at rows)) c.in_ok-level.ensures
    ∙ ap (option_and_then (served_with rows level)) none) c.in_err-host.ensures

pub returns-in_err-emulating : goal.returns-in_err-emulating
returns-in_err-emulating c =
    let rows = rows_of (found_of c.args.entries.now) in
    let level = c.in_ok-level.level in
    passed (emulation_of c.in_ok-host.host rows) (served_of rows) c.in_err-emulating.field-0.0
    c.from_residual-in_err-emulating.result c.from_residual-in_err-emulating.ensures.1
    (λ none. ap (option_and_then (served_at rows)) c.in_ok-level.ensures
    ∙ ap (option_and_then (served_with rows level)) c.in_ok-host.ensures
    ∙ ap (option_map (λ e. Emulate e (flag_of (one_of (codes "until-eof") rows)) level)) none)
    c.in_err-emulating.ensures
