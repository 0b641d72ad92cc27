use Rattle.std.proofs.Common.{◌≡◌, ◌==◌, ◌&&◌, true, false, sym, subst, ◌∙◌}
use Rattle.std.specs.List.{list_any}
use Rattle.rt_query.specs.QueryEq.{query_eq}
use Rattle.rt_cover.specs.Cover.{Tagged}
use Rattle.rt_cover.proofs.CountLaws.{same_any}
use Rattle.rt_cover.proofs.ListenLaws.{if_some, if_none}
use Rattle.rt_cover.proofs.listens.Listens.tag_of.Goals as goal

pub returns-clause-some : goal.returns-clause-some
returns-clause-some c =
    let f = c.args.form.now in
    let old = c.self.inside.by_path.items in
    let ks = c.self.inside.by_tag.items in
    if_some (λ t. list_any (λ k. query_eq k.form f && k.tag == t) c.deref.result.now ≡ true) (λ t. list_any (λ k. query_eq k.form f && k.tag == t) c.args.self.now ≡ true) c.equal_at.result
    (λ t h. subst (λ xs. list_any (λ k. query_eq k.form f && k.tag == t) xs ≡ true) c.self.view_is
    (sym (same_any (λ k. query_eq k.form f && k.tag == t) old ks c.self.invariant.same) ∙ subst (λ xs. list_any (λ k. query_eq k.form f && k.tag == t) xs ≡ true) c.deref.ensures.value h))
    c.equal_at.ensures.some

pub returns-clause-none : goal.returns-clause-none
returns-clause-none c =
    let f = c.args.form.now in
    let old = c.self.inside.by_path.items in
    let ks = c.self.inside.by_tag.items in
    if_none (list_any (λ (k : Tagged). query_eq k.form f) c.deref.result.now ≡ false) (list_any (λ (k : Tagged). query_eq k.form f) c.args.self.now ≡ false) c.equal_at.result
    (λ h. subst (λ xs. list_any (λ (k : Tagged). query_eq k.form f) xs ≡ false) c.self.view_is
    (sym (same_any (λ (k : Tagged). query_eq k.form f) old ks c.self.invariant.same) ∙ subst (λ xs. list_any (λ (k : Tagged). query_eq k.form f) xs ≡ false) c.deref.ensures.value h))
    c.equal_at.ensures.none
