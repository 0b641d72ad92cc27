use Rattle.std.proofs.Common.{rules, ◌≡◌, ◌∙◌, None, Some, ap, codes, subst, sym}
use Rattle.clap.proofs.WalkLemmas.{raw_values-rows}
use Rattle.clap.specs.Words.{found_of, rows_of}
use Rattle.rt_commands.specs.Words.{GivesAll, paths_of}
use Rattle.rt_commands.proofs.Several.{all_given, none_given}
use Rattle.rt_commands.proofs.words.read_denies.Goals as goal

pub returns-in-Some : goal.returns-in-Some
returns-in-Some c =
    let found = found_of c.args.entries.now in
    let is : c.get_strs.result ≡ Some c.in-Some.texts = search rules in
    let same = all_given (codes "deny") (rows_of found) c.get_strs.result c.in-Some.texts
    (c.get_strs.ensures ∙ raw_values-rows found (codes "deny")) is in
    subst (λ ts. GivesAll (paths_of ts) c.read_paths.result) same c.read_paths.ensures

pub returns-in-None : goal.returns-in-None
returns-in-None c =
    let found = found_of c.args.entries.now in
    let is : c.get_strs.result ≡ None = search rules in
    ap paths_of (none_given (codes "deny") (rows_of found) c.get_strs.result
    (c.get_strs.ensures ∙ raw_values-rows found (codes "deny")) is)
    ∙ ap Some (sym c.new.ensures.items)
