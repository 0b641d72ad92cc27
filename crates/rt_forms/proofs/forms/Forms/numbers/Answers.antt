use Rattle.std.proofs.Common.{◌≡◌, [], sym, ap, ◌∙◌}
use Rattle.std.specs.Option.{option_copied, option_map_or}
use Rattle.rt_nodes.specs.Forest.{row_at}
use Rattle.rt_forms.specs.inside.Trees.{own, seen}
use Rattle.rt_forms.proofs.forms.Forms.numbers.Goals as goal

pub returns-in-Some : goal.returns-in-Some
returns-in-Some c =
    let q = c.args.query.now in
    let a = c.args.self.now in
    let keys : c.keys.result.now ≡ q.path = c.keys.ensures.keys ∙ c.path.ensures in
    c.numbers.ensures ∙ sym (ap (λ o. option_map_or (own q) (option_copied o) []) c.in-Some.is)
    ∙ c.standing.ensures.numbers q ∙ ap (λ p. seen q p a.top (row_at a.nodes a.first)) keys

pub returns-in-None : goal.returns-in-None
returns-in-None c =
    let q = c.args.query.now in
    let a = c.args.self.now in
    let keys : c.keys.result.now ≡ q.path = c.keys.ensures.keys ∙ c.path.ensures in
    sym (ap (λ o. option_map_or (own q) (option_copied o) []) c.in-None.is)
    ∙ c.standing.ensures.numbers q ∙ ap (λ p. seen q p a.top (row_at a.nodes a.first)) keys
