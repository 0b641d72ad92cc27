use Rattle.std.proofs.Common.{rules, ◌≡◌, inl, ◌+◌, ◌&&◌, ◌==◌, true, false, length, subst, ◌∙◌, None, IfSome, IfNone}
use Rattle.std.specs.List.{list_any}
use Rattle.rt_tree.specs.PathTree.{Path}
use Rattle.rt_tree.specs.Assignments.{is_at_or_above}
use Rattle.rt_query.specs.Queries.{Query, is_filtered}
use Rattle.rt_cover.specs.Cover.{Tagged}
use Rattle.rt_cover.specs.inside.Index.{form_of}
use Rattle.rt_cover.proofs.ByPathLaws.{is_plain_above}
use Rattle.rt_cover.proofs.ListenLaws.{is_plain, some_above, plain_supplies, none_supplying, least_some, least_nothing, least_least}
use Rattle.rt_cover.proofs.listens.supplier.Goals as goal

pub returns-in-Some-clause-some : goal.returns-in-Some-clause-some
returns-in-Some-clause-some c =
    let q : Query = c.args.query.now in
    let ks = c.args.by_path.now in
    let same : c.keys.result.now ≡ q.path = c.keys.ensures.keys ∙ c.path.ensures in
    some_above q c.in-Some.tag ks
    (subst (λ (p : Path). list_any (λ (x : Tagged). is_at_or_above (x.form).path p && (is_plain x && x.tag == c.in-Some.tag)) ks ≡ true) same
    (subst (λ o. IfSome o (λ t. list_any (λ (x : Tagged). is_at_or_above (x.form).path c.keys.result.now && (is_plain x && x.tag == t)) ks ≡ true)) c.in-Some.is c.plain_above.ensures.some))

pub returns-in-Some-clause-least : goal.returns-in-Some-clause-least
returns-in-Some-clause-least c =
    let q : Query = c.args.query.now in
    let ks = c.args.by_path.now in
    let same : c.keys.result.now ≡ q.path = c.keys.ensures.keys ∙ c.path.ensures in
    inl (plain_supplies q c.in-Some.tag ks
    (subst (λ (p : Path). list_any (λ (x : Tagged). is_at_or_above (x.form).path p && (is_plain x && x.tag == c.in-Some.tag)) ks ≡ true) same
    (subst (λ o. IfSome o (λ t. list_any (λ (x : Tagged). is_at_or_above (x.form).path c.keys.result.now && (is_plain x && x.tag == t)) ks ≡ true)) c.in-Some.is c.plain_above.ensures.some)))

pub returns-in-None-clause-some : goal.returns-in-None-clause-some
returns-in-None-clause-some c =
    let q : Query = c.args.query.now in
    let ks = c.args.by_path.now in
    let same : c.keys.result.now ≡ q.path = c.keys.ensures.keys ∙ c.path.ensures in
    let gone : c.plain_above.result ≡ None = search rules in
    let none : list_any (is_plain_above form_of q.path (length q.path + 1)) ks ≡ false =
    subst (λ (p : Path). list_any (is_plain_above form_of p (length p + 1)) ks ≡ false) same
    (subst (λ o. IfNone o (list_any (is_plain_above form_of c.keys.result.now (length c.keys.result.now + 1)) ks ≡ false)) gone c.plain_above.ensures.none) in
    least_some q ks none c.least_at.result c.least_at.ensures

pub returns-in-None-clause-none : goal.returns-in-None-clause-none
returns-in-None-clause-none c =
    let q : Query = c.args.query.now in
    let ks = c.args.by_path.now in
    let same : c.keys.result.now ≡ q.path = c.keys.ensures.keys ∙ c.path.ensures in
    let gone : c.plain_above.result ≡ None = search rules in
    let none : list_any (is_plain_above form_of q.path (length q.path + 1)) ks ≡ false =
    subst (λ (p : Path). list_any (is_plain_above form_of p (length p + 1)) ks ≡ false) same
    (subst (λ o. IfNone o (list_any (is_plain_above form_of c.keys.result.now (length c.keys.result.now + 1)) ks ≡ false)) gone c.plain_above.ensures.none) in
    least_nothing q ks none c.least_at.result c.least_at.ensures

pub returns-in-None-clause-least : goal.returns-in-None-clause-least
returns-in-None-clause-least c =
    let q : Query = c.args.query.now in
    let ks = c.args.by_path.now in
    let same : c.keys.result.now ≡ q.path = c.keys.ensures.keys ∙ c.path.ensures in
    let gone : c.plain_above.result ≡ None = search rules in
    let none : list_any (is_plain_above form_of q.path (length q.path + 1)) ks ≡ false =
    subst (λ (p : Path). list_any (is_plain_above form_of p (length p + 1)) ks ≡ false) same
    (subst (λ o. IfNone o (list_any (is_plain_above form_of c.keys.result.now (length c.keys.result.now + 1)) ks ≡ false)) gone c.plain_above.ensures.none) in
    least_least q ks none c.least_at.result c.least_at.ensures

pub returns-in-None-2-clause-none : goal.returns-in-None-2-clause-none
returns-in-None-2-clause-none c =
    let q : Query = c.args.query.now in
    let ks = c.args.by_path.now in
    let same : c.keys.result.now ≡ q.path = c.keys.ensures.keys ∙ c.path.ensures in
    let gone : c.plain_above.result ≡ None = search rules in
    let flat : is_filtered q ≡ false = search rules in
    let none : list_any (is_plain_above form_of q.path (length q.path + 1)) ks ≡ false =
    subst (λ (p : Path). list_any (is_plain_above form_of p (length p + 1)) ks ≡ false) same
    (subst (λ o. IfNone o (list_any (is_plain_above form_of c.keys.result.now (length c.keys.result.now + 1)) ks ≡ false)) gone c.plain_above.ensures.none) in
    none_supplying q ks none flat
