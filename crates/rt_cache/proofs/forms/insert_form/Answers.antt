use Rattle.std.proofs.Common.{rules, ◌≡◌, ◌∙◌, ◌≤◌, ℕ, List, ap, sym, subst, length, false, drop}
use Rattle.std.specs.List.{filter, insert, All}
use Rattle.rt_tree.specs.PathTree.{Path, path_eq, path_eq-is}
use Rattle.rt_cache.specs.declared.forms.Form.{Form}
use Rattle.rt_cache.specs.inside.ByPath.{AreByPath}
use Rattle.rt_cache.specs.inside.Listed.{form_query, stands_at}
use Rattle.rt_cache.proofs.ByPaths.{StandsBehind, by_path-insert_behind, none_of_path}
use Rattle.rt_cache.proofs.Stamps.{filter-insert}
use Rattle.rt_cache.proofs.forms.insert_form.Goals as goal

pub returns-clause-order : goal.returns-clause-order
returns-clause-order c =
    let old : List Form = c.args.filtered.now.items in
    let place : ℕ = c.first_behind-place.result in
    let items : c.insert-in_reserved_room.new.self.items ≡ insert old place c.args.form = search rules in
    let point : StandsBehind form_query old ((c.args.form).query).path place =
    subst (λ (p : Path). StandsBehind form_query old p place) (c.path.ensures ∙ ap (λ q. q.path) c.query.ensures)
    (subst (λ (fs : List Form). StandsBehind form_query fs c.path.result.now place) c.deref.ensures.value c.first_behind-place.ensures.point) in
    subst (λ (fs : List Form). AreByPath form_query fs) (sym items) (by_path-insert_behind form_query old place c.args.form c.requires.order point)

pub returns-clause-behind : goal.returns-clause-behind
returns-clause-behind c = λ p.
    let old : List Form = c.args.filtered.now.items in
    let place : ℕ = c.first_behind-place.result in
    let items : c.insert-in_reserved_room.new.self.items ≡ insert old place c.args.form = search rules in
    let within : place ≤ length old = search rules in
    let point : StandsBehind form_query old ((c.args.form).query).path place =
    subst (λ (p : Path). StandsBehind form_query old p place) (c.path.ensures ∙ ap (λ q. q.path) c.query.ensures)
    (subst (λ (fs : List Form). StandsBehind form_query fs c.path.result.now place) c.deref.ensures.value c.first_behind-place.ensures.point) in
    ap (filter (stands_at p)) items
    ∙ filter-insert (stands_at p) old place c.args.form
    (λ e. subst (λ (r : Path). All (λ (f : Form). path_eq (f.query).path r ≡ false) (drop place old)) (path_eq-is ((c.args.form).query).path p e)
    (none_of_path form_query old ((c.args.form).query).path place within point))
