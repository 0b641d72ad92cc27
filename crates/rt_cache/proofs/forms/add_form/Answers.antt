use Rattle.std.proofs.Common.{rules, ◌≡◌, ◌∙◌, ◌<◌, ◌++◌, ◌∷◌, [], List, ap, sym, subst, true, false}
use Rattle.std.specs.List.{filter, All}
use Rattle.rt_query.specs.Queries.{is_filtered}
use Rattle.rt_cache.specs.declared.forms.Form.{Form}
use Rattle.rt_cache.specs.inside.Listed.{stands_at, AreFilteredOf}
use Rattle.rt_cache.proofs.Stamps.{more_plain, more_filtered}
use Rattle.rt_cache.proofs.forms.add_form.Goals as goal

pub returns-then-not-is_filtered-clause-listed : goal.returns-then-not-is_filtered-clause-listed
returns-then-not-is_filtered-clause-listed c =
    let fs : List Form = c.args.forms.now.items in
    let f : Form = c.in_ok-new.field-0 in
    let plain : is_filtered c.args.query ≡ false = search rules in
    let is : f ≡ record { query = c.args.query; stamp = c.in_ok-stamp.stamp } = search rules in
    let items : c.push.new.self.items ≡ fs ++ f ∷ [] = search rules in
    let below : All (λ (g : Form). g.stamp < c.in_ok-stamp.stamp) fs = search rules in
    subst (λ (xs : List Form). AreFilteredOf xs c.args.filtered.now.items) (sym items)
    (more_plain fs c.args.filtered.now.items f (ap (λ (x : Form). is_filtered x.query) is ∙ plain)
    (subst (λ (x : Form). All (λ (g : Form). g.stamp < x.stamp) fs) (sym is) below) c.requires)

pub returns-clause-listed : goal.returns-clause-listed
returns-clause-listed c =
    let fs : List Form = c.args.forms.now.items in
    let gs : List Form = c.args.filtered.now.items in
    let f : Form = c.in_ok-new-2.field-0 in
    let own : Form = c.in_ok-own.own in
    let filtered : is_filtered c.args.query ≡ true = search rules in
    let is : f ≡ record { query = c.args.query; stamp = c.in_ok-stamp.stamp } = search rules in
    let copied : c.in_ok-copy.field-0 ≡ c.args.query = search rules in
    let made : own ≡ record { query = c.in_ok-copy.field-0; stamp = c.in_ok-stamp.stamp } = search rules in
    let same : own ≡ f = made ∙ (λ i. record { query = copied i; stamp = c.in_ok-stamp.stamp }) ∙ sym is in
    let items : c.push-2.new.self.items ≡ fs ++ f ∷ [] = search rules in
    let below : All (λ (g : Form). g.stamp < c.in_ok-stamp.stamp) fs = search rules in
    subst (λ (xs : List Form). AreFilteredOf xs c.insert_form.new.filtered.items) (sym items)
    (more_filtered fs gs c.insert_form.new.filtered.items f (ap (λ (x : Form). is_filtered x.query) is ∙ filtered)
    (subst (λ (x : Form). All (λ (g : Form). g.stamp < x.stamp) fs) (sym is) below) c.insert_form.ensures.order
    (λ p. c.insert_form.ensures.behind p ∙ (λ i. filter (stands_at p) (c.reserve.ensures.items i ++ same i ∷ []))) c.requires)
