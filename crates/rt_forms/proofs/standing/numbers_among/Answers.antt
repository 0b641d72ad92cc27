use Rattle.std.proofs.Common.{rules, ◌≡◌, ℕ, List, Some, get_or, sym, ◌∙◌}
use Rattle.rt_query.specs.Queries.{Query}
use Rattle.rt_forms.specs.inside.Lists.{entry_at}
use Rattle.rt_forms.proofs.ListLaws.{among_at}
use Rattle.rt_forms.proofs.LessLaws.{among_none}
use Rattle.rt_forms.proofs.standing.numbers_among.Goals as goal

pub returns-in-Some : goal.returns-in-Some
returns-in-Some c =
    let q = c.args.query.now in
    let es : List (Query × List ℕ) = c.args.filtered.now in
    let e : Query × List ℕ = c.index-filtered-place.result in
    let at : entry_at q es ≡ Some c.in-Some.place = sym c.place_of.ensures.place ∙ c.in-Some.is in
    let there : e ≡ get_or es c.in-Some.place e = search rules in
    c.numbers.ensures ∙ sym (among_at q es c.in-Some.place e at there)

pub returns-in-None : goal.returns-in-None
returns-in-None c = sym (among_none c.args.query.now c.args.filtered.now (sym c.place_of.ensures.place ∙ c.in-None.is))
