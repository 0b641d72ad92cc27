use Rattle.std.proofs.Common.{rules, ◌≡◌, ◌∙◌, None, Some, ap, codes, map, string_bytes, subst, sym}
use Rattle.clap.proofs.WalkLemmas.{raw_values-rows}
use Rattle.clap.specs.Words.{found_of, rows_of}
use Rattle.rt_commands.specs.Words.{GivesTexts, origins_of}
use Rattle.rt_commands.proofs.Several.{all_given, none_given}
use Rattle.rt_commands.proofs.words.read_origins.Goals as goal

pub returns-in-Some : goal.returns-in-Some
returns-in-Some c =
    let found = found_of c.args.entries.now in
    let is : c.get_strs.result ≡ Some c.in-Some.texts = search rules in
    let same = all_given (codes "origin") (rows_of found) c.get_strs.result c.in-Some.texts
    (c.get_strs.ensures ∙ raw_values-rows found (codes "origin")) is in
    subst (λ ts. GivesTexts (origins_of ts) c.copies_of.result) same c.copies_of.ensures

pub returns-in-None : goal.returns-in-None
returns-in-None c =
    let found = found_of c.args.entries.now in
    let is : c.get_strs.result ≡ None = search rules in
    ap origins_of (none_given (codes "origin") (rows_of found) c.get_strs.result
    (c.get_strs.ensures ∙ raw_values-rows found (codes "origin")) is)
    ∙ ap (λ os. Some (map string_bytes os)) (sym c.new.ensures.items)
