use Rattle.std.proofs.Common.{rules, ◌≡◌, ◌∙◌, ◌<◌, List, sym, subst, length, get_or, true, false}
use mathlib.Core.Bool.{true≢false}
use Rattle.std.specs.List.{filter, list_any, remove, AllPairs}
use Rattle.rt_query.specs.Queries.{is_filtered}
use Rattle.rt_cache.specs.declared.forms.Form.{Form}
use Rattle.rt_cache.specs.inside.Listed.{stands_at, is_same_form, AreFilteredOf}
use Rattle.rt_cache.proofs.StampPlaces.{rise_at}
use Rattle.rt_cache.proofs.Stamps.{Rises, is_there, less_plain, less_filtered}
use Rattle.rt_cache.proofs.forms.remove_form.Goals as goal

pub returns-then-not-is_filtered-clause-listed : goal.returns-then-not-is_filtered-clause-listed
returns-then-not-is_filtered-clause-listed c =
    let fs : List Form = c.args.forms.now.items in
    let f : Form = c.remove-form.result in
    let at : f ≡ get_or fs c.args.place f = search rules in
    let plain : is_filtered f.query ≡ false = search rules in
    let left : c.remove-form.new.self.items ≡ remove fs c.args.place = search rules in
    subst (λ (xs : List Form). AreFilteredOf xs c.args.filtered.now.items) (sym left)
    (less_plain fs c.args.filtered.now.items c.args.place f c.requires.within at plain c.requires.listed)

pub returns-clause-listed : goal.returns-clause-listed
returns-clause-listed c =
    let fs : List Form = c.args.forms.now.items in
    let f : Form = c.remove-form.result in
    let at : f ≡ get_or fs c.args.place f = search rules in
    let is : is_filtered f.query ≡ true = search rules in
    let none : list_any (is_same_form f) c.args.filtered.now.items ≡ false = search rules in
    absurd (true≢false (sym (is_there fs c.args.filtered.now.items c.args.place f c.requires.within at is c.requires.listed) ∙ none))

pub returns-in-Some-clause-listed : goal.returns-in-Some-clause-listed
returns-in-Some-clause-listed c =
    let fs : List Form = c.args.forms.now.items in
    let gs : List Form = c.args.filtered.now.items in
    let f : Form = c.remove-form.result in
    let m = c.in-Some.own in
    let at : f ≡ get_or fs c.args.place f = search rules in
    let is : is_filtered f.query ≡ true = search rules in
    let left : c.remove-form.new.self.items ≡ remove fs c.args.place = search rules in
    let within : m < length gs = search rules in
    let own : is_same_form f (get_or gs m f) ≡ true = search rules in
    let rest : c.remove.new.self.items ≡ remove gs m = search rules in
    subst (λ (xs : List Form). AreFilteredOf xs c.remove.new.self.items) (sym left)
    (subst (λ (ys : List Form). AreFilteredOf (remove fs c.args.place) ys) (sym rest) (less_filtered fs gs c.args.place m f c.requires.within at is within own c.requires.listed))

pub place_of_form-requires-clause-rising : goal.place_of_form-requires-clause-rising
place_of_form-requires-clause-rising c = λ p.
    subst (λ (xs : List Form). AllPairs Rises (filter (stands_at p) xs)) (sym c.deref.ensures.value)
    (rise_at c.args.forms.now.items c.args.filtered.now.items c.requires.listed p)
