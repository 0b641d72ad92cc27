use Rattle.std.proofs.Common.{rules, ◌≡◌, ◌∙◌, ◌&&◌, true, false, Bool, not, ap, sym, is_some}
use Rattle.std.specs.List.{list_any}
use Rattle.std.specs.FinMap as map_of
use Rattle.rt_query.specs.QueryOrder.{query_cmp}
use Rattle.rt_cache.specs.Brought.{is_another_at, may_move}
use Rattle.rt_cache.specs.declared.windows.Window.{Window}
use Rattle.rt_cache.specs.inside.Held.{entries_of}
use Rattle.rt_cache.proofs.Bases.{may_found, limited_stays}
use Rattle.rt_cache.proofs.brought.Brought.may_move.Goals as goal

pub returns-then-is_some : goal.returns-then-is_some
returns-then-is_some c =
    let limit : is_some (c.args.form.now).limit ≡ true = search rules in
    limited_stays c.args.self.now c.args.form.now limit

pub returns-then-is_none : goal.returns-then-is_none
returns-then-is_none c =
    let limit : is_some (c.args.form.now).limit ≡ false = search rules in
    let own : is_some (map_of.find query_cmp c.args.form.now (entries_of c.self.inside.windows.items)) ≡ false = search rules in
    let another : Bool = list_any (λ (w : Window). is_another_at c.args.form.now w.query) c.self.inside.windows.items in
    sym (λ i. not (limit i) && own i && another)
    ∙ may_found c.self.inside.registered c.self.inside.regions.items c.self.inside.windows.items c.args.form.now
    ∙ ap (λ b. may_move b c.args.form.now) c.self.view_is

pub returns : goal.returns
returns c =
    let limit : is_some (c.args.form.now).limit ≡ false = search rules in
    let own : is_some (map_of.find query_cmp c.args.form.now (entries_of c.self.inside.windows.items)) ≡ true = search rules in
    let another : c.has_another_at.result ≡ list_any (λ (w : Window). is_another_at c.args.form.now w.query) c.self.inside.windows.items = search rules in
    another
    ∙ sym (λ i. not (limit i) && own i && list_any (λ (w : Window). is_another_at c.args.form.now w.query) c.self.inside.windows.items)
    ∙ may_found c.self.inside.registered c.self.inside.regions.items c.self.inside.windows.items c.args.form.now
    ∙ ap (λ b. may_move b c.args.form.now) c.self.view_is
