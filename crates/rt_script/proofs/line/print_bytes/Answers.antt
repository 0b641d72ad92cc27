use Rattle.std.proofs.Common.{refl}
use Rattle.rt_lines.specs.Lines.{line_of_bytes}
use Rattle.rt_script.proofs.Doings.{asked_unread}
use Rattle.rt_script.proofs.line.print_bytes.Goals as goal

pub returns-in-Err-NoMemory-clause-lacking : goal.returns-in-Err-NoMemory-clause-lacking
returns-in-Err-NoMemory-clause-lacking c = asked_unread (line_of_bytes c.args.bytes.now) c.args.state.now c.args.state.now refl
