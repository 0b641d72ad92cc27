use Rattle.std.proofs.Common.{◌≡◌, ◌<◌, ◌&&◌, ◌==◌, true, false, List, length, get_or, ap, rules, ◌∙◌}
use Rattle.std.specs.Cmp.{nat_eq_equiv}
use Rattle.std.proofs.lemmas.List.{get_or_default}
use Rattle.std.proofs.lemmas.List.Folds.{list_any_at}
use Rattle.rt_tree.specs.TreeEq.{both}
use Rattle.rt_query.specs.QueryEq.{query_eq}
use Rattle.rt_cover.specs.Cover.{Tagged}
use Rattle.rt_cover.specs.inside.Index.{form_of}
use Rattle.rt_cover.proofs.SearchLaws.{at_end, at_gap}
use Rattle.rt_cover.proofs.listens.equal_at.Goals as goal

pub returns-then-place-by_path-clause-none : goal.returns-then-place-by_path-clause-none
returns-then-place-by_path-clause-none c =
    let ks : List Tagged = c.args.by_path.now in
    let all : c.place_of_form-place.result ≡ length ks = search rules in
    at_end form_of c.args.form.now ks c.requires c.place_of_form-place.result c.place_of_form-place.ensures.point all

pub returns-then-eq-clause-some : goal.returns-then-eq-clause-some
returns-then-eq-clause-some c =
    let ks : List Tagged = c.args.by_path.now in
    let n = c.place_of_form-place.result in
    let k : Tagged = c.index-by_path-place.result in
    let within : n < length ks = search rules in
    let here : query_eq (get_or ks n k).form c.args.form.now ≡ true = search rules in
    let other : Tagged = c.index-by_path-place-then-eq.result in
    let again : other ≡ get_or ks n other = search rules in
    let tag : c.tag.result ≡ (get_or ks n k).tag = c.tag.ensures ∙ ap (λ (x : Tagged). x.tag) (again ∙ get_or_default ks n other k within) in
    list_any_at (λ (x : Tagged). query_eq x.form c.args.form.now && x.tag == c.tag.result) ks n k within
    (both (query_eq (get_or ks n k).form c.args.form.now) ((get_or ks n k).tag == c.tag.result) here
    (ap (λ t. (get_or ks n k).tag == t) tag ∙ nat_eq_equiv.refl (get_or ks n k).tag))

pub returns-else-eq-clause-none : goal.returns-else-eq-clause-none
returns-else-eq-clause-none c =
    let ks : List Tagged = c.args.by_path.now in
    let n = c.place_of_form-place.result in
    let k : Tagged = c.index-by_path-place.result in
    let within : n < length ks = search rules in
    let other : query_eq (get_or ks n k).form c.args.form.now ≡ false = search rules in
    at_gap form_of c.args.form.now ks c.requires n c.place_of_form-place.ensures.point k within other
