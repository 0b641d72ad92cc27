use Rattle.std.proofs.Common.{◌≡◌, List, get_or, not, true, false, sym, subst}
use Rattle.std.specs.List.{list_any}
use Rattle.rt_tree.specs.PathTree.{path_eq}
use Rattle.rt_query.specs.Queries.{is_filtered}
use Rattle.rt_cover.specs.Cover.{Tagged}
use Rattle.rt_cover.proofs.ListenLaws.{is_plain, found_at, none_at, all_as_first}
use Rattle.rt_cover.proofs.listens.plain_at.Goals as goal

pub plain_among-requires : goal.plain_among-requires
plain_among-requires c =
    subst (λ (ks : List Tagged). (d : Tagged) → is_filtered (get_or ks 0 d).form ≡ true → list_any (λ (k : Tagged). not (is_filtered k.form)) ks ≡ false) (sym c.at_path.ensures)
    (all_as_first c.args.path.now c.args.by_path.now c.requires.alone)

pub returns-clause-some : goal.returns-clause-some
returns-clause-some c = found_at (λ k. path_eq (k.form).path c.args.path.now) is_plain c.args.by_path.now c.at_path.result.now c.plain_among.result c.at_path.ensures c.plain_among.ensures

pub returns-clause-none : goal.returns-clause-none
returns-clause-none c = none_at (λ k. path_eq (k.form).path c.args.path.now) is_plain c.args.by_path.now c.at_path.result.now c.plain_among.result c.at_path.ensures c.plain_among.ensures
