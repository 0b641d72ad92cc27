use Rattle.std.proofs.Common.{true, sym, ap, ◌∙◌, Option}
use Rattle.std.specs.List.{list_all}
use Rattle.std.specs.Option.{option_copied, option_map_or}
use Rattle.rt_query.specs.Queries.{Query}
use Rattle.rt_cache.specs.Brought.{is_without_window}
use Rattle.rt_sync.proofs.state.State.is_idle.Goals as goal

pub returns-in-Some : goal.returns-in-Some
returns-in-Some c =
    let q : Query = c.in-Some.query.now in
    c.lack_window.ensures
    ∙ ap (list_all (is_without_window c.args.self.now.brought q)) c.as_slice.ensures
    ∙ ap (λ (o : Option Query). option_map_or (λ x. list_all (is_without_window c.args.self.now.brought x) c.args.entries.now) o true) (sym (ap option_copied c.in-Some.is) ∙ c.listen_of.ensures)
