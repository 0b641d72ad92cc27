use Rattle.std.proofs.Common.{sym, ap, subst, ◌∙◌}
use Rattle.std.specs.List.{list_any}
use Rattle.rt_query.specs.Supply.{does_supply}
use Rattle.rt_cover.specs.Cover.{Tagged}
use Rattle.rt_cover.specs.inside.Index.{form_of, AreApart, ArePlainsAlone}
use Rattle.rt_cover.proofs.CountLaws.{same_any}
use Rattle.rt_cover.proofs.SuppliedLaws.{alone_fewer, apart_fewer, any_same}
use Rattle.rt_cover.proofs.listens.Listens.supply.Goals as goal

pub have_supplier-requires-clause-apart : goal.have_supplier-requires-clause-apart
have_supplier-requires-clause-apart c =
    let old = c.self.inside.by_path.items in
    let ks = c.self.inside.by_tag.items in
    subst (AreApart form_of) (sym c.deref.ensures.value)
    (apart_fewer form_of ks old (any_same ks old c.self.invariant.same) (subst (AreApart form_of) (sym c.self.view_is) c.requires.apart))

pub have_supplier-requires-clause-alone : goal.have_supplier-requires-clause-alone
have_supplier-requires-clause-alone c =
    let old = c.self.inside.by_path.items in
    let ks = c.self.inside.by_tag.items in
    subst (ArePlainsAlone form_of) (sym c.deref.ensures.value)
    (alone_fewer form_of ks old (any_same ks old c.self.invariant.same) (subst (ArePlainsAlone form_of) (sym c.self.view_is) c.requires.alone))

pub returns : goal.returns
returns c =
    let sup = λ (k : Tagged). does_supply k.form c.args.query.now in
    c.have_supplier.ensures
    ∙ ap (list_any sup) c.deref.ensures.value
    ∙ same_any sup c.self.inside.by_path.items c.self.inside.by_tag.items c.self.invariant.same
    ∙ ap (list_any sup) c.self.view_is
