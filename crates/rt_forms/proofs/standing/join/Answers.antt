use Rattle.std.proofs.Common.{rules, ◌≡◌, ◌<◌, ◌==◌, ℕ, List, Some, length, set, get_or, sym, ap, subst, ◌∙◌}
use Rattle.std.specs.List.{list_any}
use Rattle.std.proofs.lemmas.Result.{on_ok_weaker}
use Rattle.rt_query.specs.Queries.{Query}
use Rattle.rt_forms.specs.inside.Lists.{entry_at, IsJoined}
use Rattle.rt_forms.proofs.ListLaws.{among_at, is_joined}
use Rattle.rt_forms.proofs.OrderLaws.{set_in_order}
use Rattle.rt_forms.proofs.standing.join.Goals as goal

pub join_entry-requires : goal.join_entry-requires
join_entry-requires c =
    let q = c.args.query.now in
    let es : List (Query × List ℕ) = c.args.filtered.now.items in
    let e : Query × List ℕ = c.index_mut.result.now in
    let at : entry_at q es ≡ Some c.in-Some.place = ap (entry_at q) (sym c.deref.ensures.value) ∙ sym c.place_of.ensures.place ∙ c.in-Some.is in
    let there : e ≡ get_or es c.in-Some.place e = search rules in
    ap (list_any (λ m. m == c.args.number)) (sym (among_at q es c.in-Some.place e at there)) ∙ c.requires.free

pub returns-in-Some-clause-ok : goal.returns-in-Some-clause-ok
returns-in-Some-clause-ok c =
    let q = c.args.query.now in
    let es : List (Query × List ℕ) = c.args.filtered.now.items in
    let e : Query × List ℕ = c.index_mut.result.now in
    let at : entry_at q es ≡ Some c.in-Some.place = ap (entry_at q) (sym c.deref.ensures.value) ∙ sym c.place_of.ensures.place ∙ c.in-Some.is in
    let there : e ≡ get_or es c.in-Some.place e = search rules in
    on_ok_weaker c.join_entry.result
    (λ new. subst (λ (x : Query × List ℕ). IsJoined es (set es c.in-Some.place x) q c.args.number) (sym new) (is_joined q c.args.number es c.in-Some.place e at there c.requires.free))
    c.join_entry.ensures.ok

pub returns-in-Some-clause-order : goal.returns-in-Some-clause-order
returns-in-Some-clause-order c =
    let es : List (Query × List ℕ) = c.args.filtered.now.items in
    let e : Query × List ℕ = c.index_mut.result.now in
    let there : e ≡ get_or es c.in-Some.place e = search rules in
    let within : c.in-Some.place < length es = search rules in
    set_in_order es c.in-Some.place e c.join_entry.new.entry within (c.join_entry.ensures.form ∙ ap (λ (x : Query × List ℕ). x.0) there) c.requires.order
