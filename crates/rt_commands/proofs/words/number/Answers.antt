use Rattle.std.proofs.Common.{rules, ◌≡◌, ap, ◌∙◌}
use Rattle.std.specs.Option.{unwrap_or}
use Rattle.std.specs.Str.Parse.{ParsesUnsigned, ExplainsUnsignedError, HasUnsignedDigitsIfOk}
use Rattle.clap.proofs.WalkLemmas.{one_text-rows}
use Rattle.clap.specs.Words.{found_of, one_text}
use Rattle.rt_commands.specs.Words.{number_of}
use Rattle.rt_commands.proofs.Numbers.{one_number}
use Rattle.rt_commands.proofs.words.number.Goals as goal

pub returns : goal.returns
returns c =
    let entries = found_of c.args.entries.now in
    let got : c.unwrap_or.result ≡ unwrap_or c.get_one.result 0 = search rules in
    got
    ∙ one_number
    (λ bs r. ParsesUnsigned 16 10 bs r × ExplainsUnsignedError 10 bs r × HasUnsignedDigitsIfOk bs r)
    (one_text entries c.args.name.now) c.get_one.result (λ t r gives. gives.0)
    c.get_one.ensures.none c.get_one.ensures.value
    ∙ ap number_of (one_text-rows entries c.args.name.now)
