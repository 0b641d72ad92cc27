use Rattle.std.proofs.Common.{ap, ◌∙◌}
use Rattle.rt_commands.specs.Hosts.{ip_of}
use Rattle.rt_commands.proofs.Hosts.{ip_read}
use Rattle.rt_commands.proofs.words.ip_of.Goals as goal

pub returns : goal.returns
returns c =
    c.ok.ensures.value ∙ ip_read c.as_bytes.result.now c.parse_ascii.result c.parse_ascii.ensures
    ∙ ap ip_of c.as_bytes.ensures.value
