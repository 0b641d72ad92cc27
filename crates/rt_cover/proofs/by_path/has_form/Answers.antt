use Rattle.std.proofs.Common.{◌≡◌, ◌<◌, length, get_or, sym, rules, ◌∙◌}
use Rattle.rt_query.specs.QueryEq.{query_eq}
use Rattle.rt_cover.proofs.SearchLaws.{at_end}
use Rattle.rt_cover.proofs.TakerLaws.{form_there}
use Rattle.rt_cover.proofs.by_path.has_form.Goals as goal

pub returns-then-place-by_path : goal.returns-then-place-by_path
returns-then-place-by_path g c =
    let xs = c.args.by_path.now in
    let all : c.place_of_form-place.result ≡ length xs = search rules in
    sym (at_end g.T.HasForm.form_of c.args.form.now xs c.requires c.place_of_form-place.result c.place_of_form-place.ensures.point all)

pub returns : goal.returns
returns g c =
    let q = g.T.HasForm.form_of in
    let xs = c.args.by_path.now in
    let n = c.place_of_form-place.result in
    let x = c.index-by_path-place.result in
    let within : n < length xs = search rules in
    let is : x ≡ get_or xs n x = search rules in
    let told : c.eq.result ≡ query_eq (q x) c.args.form.now = search rules in
    told ∙ form_there q c.args.form.now xs c.requires n c.place_of_form-place.ensures.point x within is
