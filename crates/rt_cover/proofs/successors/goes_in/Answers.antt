use Rattle.std.proofs.Common.{rules, ◌≡◌, ◌<◌, ◌&&◌, ℕ, Bool, true, false, List, length, get_or, sym, ap, ◌∙◌}
use Rattle.std.specs.List.{list_any}
use Rattle.std.proofs.lemmas.List.{get_or_default}
use Rattle.rt_query.specs.Queries.{Query}
use Rattle.rt_query.specs.Supply.{does_supply}
use Rattle.rt_cover.specs.Cover.{Tagged}
use Rattle.rt_cover.specs.inside.Widest.{Entry, leads}
use Rattle.rt_cover.proofs.successors.goes_in.Goals as goal

pub returns-then-leads : goal.returns-then-leads
returns-then-leads g c = λ d.
    let ended = g.E.EndedListeners.ended c.args.ending.now in
    let es : List Entry = c.args.entries.now in
    let n : ℕ = c.args.place in
    let within : n < length es = search rules in
    let e : Entry = c.index-entries-place.result in
    let at : e ≡ get_or es n e = search rules in
    let some : Query → Bool = λ f. list_any (λ (k : Tagged). does_supply k.form f) c.args.ranges.now in
    let yes : leads ended es d n c.args.last ≡ true = sym (c.leads.ensures d) ∙ c.if-leads.true in
    c.is_supplied.ensures ∙ ap some c.form.ensures ∙ ap (λ (x : Entry). some x.0) (at ∙ get_or_default es n e d within)
    ∙ sym (ap (λ b. b && some (get_or es n d).0) yes)

pub returns-else-leads : goal.returns-else-leads
returns-else-leads g c = λ d.
    let ended = g.E.EndedListeners.ended c.args.ending.now in
    let es : List Entry = c.args.entries.now in
    let n : ℕ = c.args.place in
    let some : Query → Bool = λ f. list_any (λ (k : Tagged). does_supply k.form f) c.args.ranges.now in
    let no : leads ended es d n c.args.last ≡ false = sym (c.leads.ensures d) ∙ c.if-leads.false in
    c.if-leads.false ∙ sym (ap (λ b. b && some (get_or es n d).0) no)
