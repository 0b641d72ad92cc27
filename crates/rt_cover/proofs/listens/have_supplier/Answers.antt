use Rattle.std.proofs.Common.{rules, ◌≡◌, ◌+◌, ◌&&◌, ◌==◌, true, false, not, length, sym, ap, subst, ◌∙◌, None, IfSome, IfNone, is_some}
use Rattle.std.specs.List.{list_any}
use Rattle.rt_tree.specs.PathTree.{Path}
use Rattle.rt_tree.specs.Assignments.{is_at_or_above}
use Rattle.rt_query.specs.Queries.{Query}
use Rattle.rt_cover.specs.Cover.{Tagged}
use Rattle.rt_cover.specs.inside.Index.{form_of}
use Rattle.rt_cover.proofs.ByPathLaws.{is_plain_above}
use Rattle.rt_cover.proofs.ListenLaws.{is_plain, some_plain}
use Rattle.rt_cover.proofs.listens.have_supplier.Goals as goal

pub returns-in-Some : goal.returns-in-Some
returns-in-Some c =
    let q : Query = c.args.query.now in
    let ks = c.args.by_path.now in
    let same : c.keys.result.now ≡ q.path = c.keys.ensures.keys ∙ c.path.ensures in
    sym (some_plain q ks c.plain_above.result (ap is_some c.in-Some.is)
    (subst (λ (p : Path). IfSome c.plain_above.result (λ t. list_any (λ (x : Tagged). is_at_or_above (x.form).path p && (is_plain x && x.tag == t)) ks ≡ true)) same c.plain_above.ensures.some))

pub have_range-requires-clause-none : goal.have_range-requires-clause-none
have_range-requires-clause-none c =
    let q : Query = c.args.query.now in
    let ks = c.args.by_path.now in
    let same : c.keys.result.now ≡ q.path = c.keys.ensures.keys ∙ c.path.ensures in
    let gone : c.plain_above.result ≡ None = search rules in
    subst (λ (p : Path). list_any (is_plain_above form_of p (length p + 1)) ks ≡ false) same
    (subst (λ o. IfNone o (list_any (is_plain_above form_of c.keys.result.now (length c.keys.result.now + 1)) ks ≡ false)) gone c.plain_above.ensures.none)
