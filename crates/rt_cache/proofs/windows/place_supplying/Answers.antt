use Rattle.std.proofs.Common.{rules, ◌≡◌, ◌∙◌, ◌&&◌, ap, sym, true, false, is_some}
use Rattle.std.specs.FinMap as map_of
use Rattle.rt_query.specs.Supply.{does_supply}
use Rattle.rt_query.specs.QueryOrder.{query_cmp}
use Rattle.rt_cache.specs.inside.Held.{entries_of}
use Rattle.rt_cache.proofs.windows.place_supplying.Goals as goal

pub returns-then-not-supplies-clause-known : goal.returns-then-not-supplies-clause-known
returns-then-not-supplies-clause-known c =
    let no : does_supply c.args.form.now c.args.query.now ≡ false = search rules in
    sym (ap (λ b. b && is_some (map_of.find query_cmp c.args.form.now (entries_of c.args.windows.now))) no)

pub returns-clause-known : goal.returns-clause-known
returns-clause-known c =
    let yes : does_supply c.args.form.now c.args.query.now ≡ true = search rules in
    c.place_of_window.ensures.known ∙ sym (ap (λ b. b && is_some (map_of.find query_cmp c.args.form.now (entries_of c.args.windows.now))) yes)
