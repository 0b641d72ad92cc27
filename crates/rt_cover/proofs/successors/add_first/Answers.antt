use Rattle.std.proofs.Common.{rules, ◌≡◌, ◌<◌, List, false, length, take, get_or, ap, subst, ◌∙◌, arith}
use Rattle.rt_cover.specs.Cover.{Tagged}
use Rattle.rt_cover.specs.inside.Endings.{is_range_at}
use Rattle.rt_cover.specs.inside.Index.{form_of}
use Rattle.rt_cover.proofs.SuppliedLaws.{no_range, apart_fewer, any_take}
use Rattle.rt_cover.proofs.successors.add_first.Goals as goal

pub add_under-requires-clause-plain : goal.add_under-requires-clause-plain
add_under-requires-clause-plain g c =
    let ks : List Tagged = c.args.listens.now in
    let k : Tagged = c.index-listens-0.result in
    let p = c.path-path.result.now in
    let is : k ≡ get_or ks 0 k = search rules in
    let path : p ≡ (k.form).path = c.path-path.ensures ∙ (λ i. (c.form.ensures i).path) in
    let nothing : c.count_ranges-count.result ≡ 0 = c.if-count-eq0.true in
    let next : is_range_at p (get_or ks 0 k) ≡ false = subst (λ n. is_range_at p (get_or ks n k) ≡ false) nothing
    (c.count_ranges-count.ensures.next k (omega (arith, nothing, c.requires.some))) in
    no_range k p path (ap (is_range_at p) is ∙ next)

pub add_at-requires-clause-apart : goal.add_at-requires-clause-apart
add_at-requires-clause-apart g c =
    apart_fewer form_of c.args.listens.now (take c.count_ranges-count.result c.args.listens.now) (any_take c.count_ranges-count.result c.args.listens.now) c.requires.apart
