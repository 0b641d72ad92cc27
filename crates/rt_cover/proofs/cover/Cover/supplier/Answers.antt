use Rattle.std.proofs.Common.{◌≡◌, ◌==◌, ◌&&◌, true, false, sym, subst, List, IfSome, IfNone}
use Rattle.std.specs.List.{list_any, All}
use Rattle.rt_query.specs.Supply.{does_supply}
use Rattle.rt_cover.specs.Cover.{Tagged}
use Rattle.rt_cover.specs.State.{supplier}
use Rattle.rt_cover.specs.inside.Index.{form_of, ArePlainsAlone}
use Rattle.rt_cover.specs.inside.Least.{IsPlainOrLeast}
use Rattle.rt_cover.specs.inside.Sound.{IsSound}
use Rattle.rt_cover.specs.Shown.{IsLeastSupplier}
use Rattle.rt_cover.proofs.ListenLaws.{supplier_is}
use Rattle.rt_cover.proofs.SuppliedLaws.{kept_plains_alone}
use Rattle.rt_cover.proofs.SupplierLaws.{first_is_least, none_supplies}
use Rattle.rt_cover.proofs.cover.Cover.supplier.Goals as goal

pub supplier-requires : goal.supplier-requires
supplier-requires c =
    subst (ArePlainsAlone form_of) (λ i. (sym c.self.view_is i).kept)
    (kept_plains_alone c.args.self.now (subst IsSound c.self.view_is c.self.invariant))

pub returns-clause-exact : goal.returns-clause-exact
returns-clause-exact c =
    let q = c.args.query.now in
    supplier_is c.args.self.now (subst IsSound c.self.view_is c.self.invariant) q c.supplier.result
    (subst (λ (ks : List Tagged). IfSome c.supplier.result (λ t. list_any (λ k. does_supply k.form q && k.tag == t) ks ≡ true)) (λ i. (c.self.view_is i).kept) c.supplier.ensures.some)
    (subst (λ (ks : List Tagged). IfNone c.supplier.result (list_any (λ k. does_supply k.form q) ks ≡ false)) (λ i. (c.self.view_is i).kept) c.supplier.ensures.none)
    (subst (λ (ks : List Tagged). IfSome c.supplier.result (IsPlainOrLeast ks q)) (λ i. (c.self.view_is i).kept) c.supplier.ensures.least)

pub returns-clause-least : goal.returns-clause-least
returns-clause-least c =
    let q = c.args.query.now in
    let sound : IsSound c.args.self.now = subst IsSound c.self.view_is c.self.invariant in
    let exact : c.supplier.result ≡ supplier c.args.self.now q =
    supplier_is c.args.self.now sound q c.supplier.result
    (subst (λ (ks : List Tagged). IfSome c.supplier.result (λ t. list_any (λ k. does_supply k.form q && k.tag == t) ks ≡ true)) (λ i. (c.self.view_is i).kept) c.supplier.ensures.some)
    (subst (λ (ks : List Tagged). IfNone c.supplier.result (list_any (λ k. does_supply k.form q) ks ≡ false)) (λ i. (c.self.view_is i).kept) c.supplier.ensures.none)
    (subst (λ (ks : List Tagged). IfSome c.supplier.result (IsPlainOrLeast ks q)) (λ i. (c.self.view_is i).kept) c.supplier.ensures.least) in
    subst (λ r. IfSome r (IsLeastSupplier c.args.self.now.kept q)) (sym exact) (first_is_least c.args.self.now.kept q sound.tags)

pub returns-clause-none : goal.returns-clause-none
returns-clause-none c =
    let q = c.args.query.now in
    let exact : c.supplier.result ≡ supplier c.args.self.now q =
    supplier_is c.args.self.now (subst IsSound c.self.view_is c.self.invariant) q c.supplier.result
    (subst (λ (ks : List Tagged). IfSome c.supplier.result (λ t. list_any (λ k. does_supply k.form q && k.tag == t) ks ≡ true)) (λ i. (c.self.view_is i).kept) c.supplier.ensures.some)
    (subst (λ (ks : List Tagged). IfNone c.supplier.result (list_any (λ k. does_supply k.form q) ks ≡ false)) (λ i. (c.self.view_is i).kept) c.supplier.ensures.none)
    (subst (λ (ks : List Tagged). IfSome c.supplier.result (IsPlainOrLeast ks q)) (λ i. (c.self.view_is i).kept) c.supplier.ensures.least) in
    subst (λ r. IfNone r (All (λ (k : Tagged). does_supply k.form q ≡ false) c.args.self.now.kept)) (sym exact) (none_supplies c.args.self.now.kept q)
