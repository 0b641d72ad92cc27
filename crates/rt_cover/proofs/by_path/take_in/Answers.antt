use Rattle.std.proofs.Common.{rules, ◌≡◌, ℕ, ◌+◌, ◌-◌, ◌<◌, arith, length, get_or, ◌∙◌}
use Rattle.rt_query.specs.Ranges.{takes_in}
use Rattle.rt_cover.proofs.TakerLaws.{none_up_to, last_tells}
use Rattle.rt_cover.proofs.by_path.take_in.Goals as goal

pub returns-then-count-eq0 : goal.returns-then-count-eq0
returns-then-count-eq0 g c =
    let nothing : c.count_up_to-count.result ≡ 0 = search rules in
    none_up_to g.T.HasForm.form_of c.args.query.now c.args.by_path.now c.requires.order c.requires.filtered c.requires.apart
    c.count_up_to-count.result c.count_up_to-count.ensures.within c.count_up_to-count.ensures.point nothing

pub returns : goal.returns
returns g c =
    let q = g.T.HasForm.form_of in
    let xs = c.args.by_path.now in
    let n : ℕ = c.count_up_to-count.result in
    let x = c.index-by_path-last.result in
    let last : ℕ = n - 1 in
    let next : last + 1 ≡ n = omega arith in
    let is : x ≡ get_or xs last x = search rules in
    let told : c.takes_in.result ≡ takes_in (q x) c.args.query.now = search rules in
    told ∙ last_tells q c.args.query.now xs c.requires.order c.requires.filtered c.requires.apart
    n c.count_up_to-count.ensures.within c.count_up_to-count.ensures.point last x next is
