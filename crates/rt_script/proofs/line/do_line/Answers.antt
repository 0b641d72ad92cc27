use Rattle.rt_script.proofs.Doings.{line_untold, on_err}
use Rattle.rt_script.proofs.line.do_line.Goals as goal

pub returns-clause-lacking : goal.returns-clause-lacking
returns-clause-lacking c =
    on_err c.push_str.result (line_untold c.args.line c.args.state.now c.print_line.new.state c.in_ok-print_line.ensures.state)
