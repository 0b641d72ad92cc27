use Rattle.std.proofs.Common.{rules, ◌≡◌, false, ap, ◌∙◌}
use Rattle.std.specs.Option.{unwrap_or}
use Rattle.clap.proofs.WalkLemmas.{one_text-rows}
use Rattle.clap.specs.Words.{found_of, one_text}
use Rattle.rt_commands.specs.Words.{flag_of}
use Rattle.rt_commands.proofs.Flags.{one_flag}
use Rattle.rt_commands.proofs.words.flag.Goals as goal

pub returns : goal.returns
returns c =
    let entries = found_of c.args.entries.now in
    let got : c.unwrap_or.result ≡ unwrap_or c.get_one.result false = search rules in
    got
    ∙ one_flag _ (one_text entries c.args.name.now) c.get_one.result c.get_one.ensures.none c.get_one.ensures.value
    ∙ ap flag_of (one_text-rows entries c.args.name.now)
