use Rattle.std.proofs.Common.{◌≡◌, ◌==◌, Bool, get_or, rules, sym, subst, ◌∙◌}
use Rattle.rt_tree.specs.PathTree.{path_eq}
use Rattle.rt_parts.specs.declared.places.ListenerPlace.{ListenerPlace}
use Rattle.rt_parts.specs.inside.HeldView.{HaveSupplied}
use Rattle.rt_parts.specs.inside.Placed.{HaveNumbers}
use Rattle.rt_parts.proofs.EndingLaws.{have_supplied}
use Rattle.rt_parts.proofs.IndexLaws.{have_due}
use Rattle.rt_parts.proofs.hearers.numbers_supplied.Goals as goal

pub push_at-requires : goal.push_at-requires
push_at-requires c = c.requires.index.order

pub returns : goal.returns
returns c =
    let f = c.args.range.now in
    let path : c.keys.result.now ≡ f.path = search rules in
    let test : ListenerPlace → Bool = λ x. path_eq x.path f.path in
    let at : HaveNumbers test c.push_at.new.numbers.items c.args.places.now =
    subst (λ p. HaveNumbers (λ (x : ListenerPlace). path_eq x.path p) c.push_at.new.numbers.items c.args.places.now) path c.in_ok-push_at.ensures.all in
    let all : HaveNumbers test c.sort_once.new.numbers.items c.args.places.now = λ k d lt e. c.sort_once.ensures.same (λ n. (get_or c.args.places.now k d).number == n) ∙ at k d lt e in
    subst (λ ns. HaveSupplied f ns c.args.listeners.now) (sym c.keep_supplied.ensures)
    (have_supplied f c.sort_once.new.numbers.items c.args.listeners.now c.requires.rising
    (have_due test c.sort_once.new.numbers.items c.args.listeners.now c.args.places.now c.requires.index all))
