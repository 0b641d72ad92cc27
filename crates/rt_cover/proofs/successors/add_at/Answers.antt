use Rattle.std.proofs.Common.{◌||◌, ◌&&◌, Bool, List, ap, ◌∙◌}
use Rattle.std.specs.List.{list_any}
use Rattle.std.proofs.lemmas.Result.{on_ok_weaker}
use Rattle.rt_tree.specs.PathTree.{path_eq}
use Rattle.rt_query.specs.Queries.{Query, is_filtered}
use Rattle.rt_query.specs.Supply.{does_supply}
use Rattle.rt_cover.specs.Cover.{Registered, Tagged}
use Rattle.rt_cover.proofs.SuppliedLaws.{group_supplied}
use Rattle.rt_cover.proofs.TopLaws.{tops_of}
use Rattle.rt_cover.proofs.successors.add_at.Goals as goal

pub returns : goal.returns
returns g c =
    let ended = g.E.EndedListeners.ended c.args.ending.now in
    let ks : List Tagged = c.args.ranges.now in
    let ls : List Registered = c.args.listeners.now in
    let some : Query → Bool = λ f. list_any (λ (k : Tagged). does_supply k.form f) ks in
    on_ok_weaker c.add_forms.result (λ h t begins. h t (tops_of ended ls c.keys.result.now c.filtered_at.result.now t c.filtered_at.ensures.forms begins) ∙ ap (λ b. list_any t c.args.numbers.now.items || b)
    (c.filtered_at.ensures.forms some t
    ∙ (λ i. list_any (λ (l : Registered). (is_filtered l.1 && path_eq (l.1).path (c.keys.ensures.keys i)) && (some l.1 && t l.0)) ls)
    ∙ group_supplied ls ks c.args.path.now t c.requires.there)) c.add_forms.ensures
