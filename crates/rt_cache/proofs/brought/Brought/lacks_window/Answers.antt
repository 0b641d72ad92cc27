use Rattle.std.proofs.Common.{rules, ◌≡◌, ◌∙◌, ap, not, is_some, true, false}
use Rattle.std.specs.FinMap as map_of
use Rattle.rt_tree.specs.PathTree.{path_eq}
use Rattle.rt_query.specs.Queries.{is_filtered}
use Rattle.rt_query.specs.QueryOrder.{query_cmp}
use Rattle.rt_cache.specs.Brought.{is_without_window}
use Rattle.rt_cache.specs.inside.Held.{entries_of}
use Rattle.rt_cache.proofs.Bases.{lacks_found}
use Rattle.rt_cache.proofs.brought.Brought.lacks_window.Goals as goal
use Rattle.rt_cache.proofs.brought.Brought.lacks_window.Goals.{then-is_filtered, else-is_filtered}

pub returns-then-ne : goal.returns-then-ne
returns-then-ne c = λ u.
    let both : (is_filtered c.args.query.now ≡ true) × (path_eq (c.args.query.now).path c.args.path.now ≡ false) =
    elim c.if-is_filtered.branch [
      | then-is_filtered w ↦ (search rules, search rules)
      | else-is_filtered w ↦ (search rules, search rules)
    ] in
    let found : c.is_none.result ≡ not (is_some (map_of.find query_cmp c.args.query.now (entries_of c.self.inside.windows.items))) = search rules in
    found
    ∙ lacks_found c.self.inside.registered c.self.inside.regions.items c.self.inside.windows.items c.args.query.now c.args.path.now u both.0 both.1
    ∙ ap (λ b. is_without_window b c.args.query.now (c.args.path.now, u)) c.self.view_is
