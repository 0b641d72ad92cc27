use Rattle.std.proofs.Common.{◌≡◌, inl, inr, ◌==◌, ◌&&◌, Bool, not, nat_lt, true, false, sym, ap, subst, ◌∙◌}
use Rattle.std.specs.List.{list_any}
use Rattle.rt_query.specs.Queries.{is_filtered}
use Rattle.rt_query.specs.Supply.{does_supply}
use Rattle.rt_cover.specs.Cover.{Tagged}
use Rattle.rt_cover.specs.inside.Index.{form_of, ArePlainsAlone}
use Rattle.rt_cover.specs.inside.Least.{IsPlainOrLeast}
use Rattle.rt_cover.proofs.CountLaws.{same_any}
use Rattle.rt_cover.proofs.ListenLaws.{if_some, if_none}
use Rattle.rt_cover.proofs.SuppliedLaws.{alone_fewer, any_same}
use Rattle.rt_cover.proofs.listens.Listens.supplier.Goals as goal

pub supplier-requires-clause-alone : goal.supplier-requires-clause-alone
supplier-requires-clause-alone c =
    let old = c.self.inside.by_path.items in
    let ks = c.self.inside.by_tag.items in
    subst (ArePlainsAlone form_of) (sym c.deref.ensures.value)
    (alone_fewer form_of ks old (any_same ks old c.self.invariant.same) (subst (ArePlainsAlone form_of) (sym c.self.view_is) c.requires))

pub returns-clause-some : goal.returns-clause-some
returns-clause-some c =
    let q = c.args.query.now in
    let old = c.self.inside.by_path.items in
    let ks = c.self.inside.by_tag.items in
    if_some (λ t. list_any (λ k. does_supply k.form q && k.tag == t) c.deref.result.now ≡ true) (λ t. list_any (λ k. does_supply k.form q && k.tag == t) c.args.self.now ≡ true) c.supplier.result
    (λ t h. subst (λ xs. list_any (λ k. does_supply k.form q && k.tag == t) xs ≡ true) c.self.view_is
    (sym (same_any (λ k. does_supply k.form q && k.tag == t) old ks c.self.invariant.same) ∙ subst (λ xs. list_any (λ k. does_supply k.form q && k.tag == t) xs ≡ true) c.deref.ensures.value h))
    c.supplier.ensures.some

pub returns-clause-none : goal.returns-clause-none
returns-clause-none c =
    let q = c.args.query.now in
    let old = c.self.inside.by_path.items in
    let ks = c.self.inside.by_tag.items in
    if_none (list_any (λ (k : Tagged). does_supply k.form q) c.deref.result.now ≡ false) (list_any (λ (k : Tagged). does_supply k.form q) c.args.self.now ≡ false) c.supplier.result
    (λ h. subst (λ xs. list_any (λ (k : Tagged). does_supply k.form q) xs ≡ false) c.self.view_is
    (sym (same_any (λ (k : Tagged). does_supply k.form q) old ks c.self.invariant.same) ∙ subst (λ xs. list_any (λ (k : Tagged). does_supply k.form q) xs ≡ false) c.deref.ensures.value h))
    c.supplier.ensures.none

pub returns-clause-least : goal.returns-clause-least
returns-clause-least c =
    let q = c.args.query.now in
    let old = c.self.inside.by_path.items in
    let ks = c.self.inside.by_tag.items in
    let are : (t : Tagged → Bool) → list_any t c.deref.result.now ≡ list_any t c.args.self.now =
    λ t. ap (list_any t) c.deref.ensures.value ∙ same_any t old ks c.self.invariant.same ∙ ap (list_any t) c.self.view_is in
    if_some (IsPlainOrLeast c.deref.result.now q) (IsPlainOrLeast c.args.self.now q) c.supplier.result
    (λ t h. elim h [
      | inl e ↦ inl (sym (are (λ (k : Tagged). (does_supply k.form q && not (is_filtered k.form)) && k.tag == t)) ∙ e)
      | inr e ↦ inr (sym (are (λ (k : Tagged). does_supply k.form q && nat_lt k.tag t)) ∙ e)
    ])
    c.supplier.ensures.least
