use Rattle.std.proofs.Common.{lit<}
use Rattle.std.proofs.lemmas.Str.Pattern.{strip_prefix_char}
use Rattle.rt_files.proofs.Pieces.{behind_slash-from}
use Rattle.rt_files.proofs.name.behind_slash.Goals as goal

pub returns : goal.returns
returns c = behind_slash-from c.args.path.now c.strip_prefix.result (strip_prefix_char 47 c.args.path.now c.strip_prefix.result c.strip_prefix.ensures.cases (lit< tt))
