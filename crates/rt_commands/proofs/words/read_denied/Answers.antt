use Rattle.std.proofs.Common.{rules, ◌≡◌, Some}
use Rattle.rt_commands.proofs.Asking.{denied_read}
use Rattle.rt_commands.proofs.words.read_denied.Goals as goal

pub returns-in-Ok : goal.returns-in-Ok
returns-in-Ok c =
    let is : c.args.text ≡ Some c.in-Some.text = search rules in
    denied_read c.args.text c.in-Some.text c.in-Ok.path is c.in-Ok.ensures.ok c.in-Ok.ensures.refused
