use Rattle.rt_lines.specs.Lines.{line_of_bytes}
use Rattle.rt_script.proofs.Doings.{asked_untold, on_err}
use Rattle.rt_script.proofs.line.do_bytes.Goals as goal

pub returns-in_err-push_str-clause-lacking : goal.returns-in_err-push_str-clause-lacking
returns-in_err-push_str-clause-lacking c =
    on_err c.from_residual-in_err-push_str.result
    (asked_untold c.args.number (line_of_bytes c.args.bytes.now) c.args.state.now c.print_bytes.new.state c.in_ok-good.ensures.state)
