use Rattle.std.proofs.Common.{◌≡◌, List, sym, subst, ◌∙◌}
use Rattle.std.specs.List.{list_any}
use Rattle.rt_query.specs.Supply.{does_supply}
use Rattle.rt_cover.specs.Cover.{Tagged}
use Rattle.rt_cover.specs.inside.Index.{form_of, AreApart, ArePlainsAlone}
use Rattle.rt_cover.specs.inside.Sound.{IsSound}
use Rattle.rt_cover.proofs.SuppliedLaws.{kept_plains_alone, kept_ranges_apart}
use Rattle.rt_cover.proofs.SupplyLaws.{found_any}
use Rattle.rt_cover.proofs.cover.Cover.is_supplied.Goals as goal

pub supply-requires-clause-alone : goal.supply-requires-clause-alone
supply-requires-clause-alone c =
    subst (ArePlainsAlone form_of) (λ i. (sym c.self.view_is i).kept)
    (kept_plains_alone c.args.self.now (subst IsSound c.self.view_is c.self.invariant))

pub supply-requires-clause-apart : goal.supply-requires-clause-apart
supply-requires-clause-apart c =
    subst (AreApart form_of) (λ i. (sym c.self.view_is i).kept)
    (kept_ranges_apart c.args.self.now (subst IsSound c.self.view_is c.self.invariant))

pub returns : goal.returns
returns c =
    let q = c.args.form.now in
    c.supply.ensures ∙ (λ i. list_any (λ (k : Tagged). does_supply k.form q) (c.self.view_is i).kept)
    ∙ sym (found_any (λ (k : Tagged). does_supply k.form q) c.args.self.now.kept)
