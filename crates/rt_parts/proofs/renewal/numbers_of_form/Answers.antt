use Rattle.std.proofs.Common.{◌≡◌, ◌==◌, ◌&&◌, ◌<◌, ℕ, Bool, get_or, rules, sym, subst, ◌∙◌}
use Rattle.std.specs.List.{AllPairs, list_any}
use Rattle.std.proofs.lemmas.List.Kept.{AllPairs-filter}
use Rattle.rt_tree.specs.PathTree.{path_eq}
use Rattle.rt_query.specs.QueryEq.{query_eq}
use Rattle.rt_query.specs.Supply.{form}
use Rattle.rt_parts.specs.declared.listeners.HeldListener.{HeldListener}
use Rattle.rt_parts.specs.declared.places.ListenerPlace.{ListenerPlace}
use Rattle.rt_parts.specs.inside.HeldView.{HaveForm}
use Rattle.rt_parts.specs.inside.Placed.{HaveNumbers}
use Rattle.rt_parts.proofs.EndingLaws.{have_form}
use Rattle.rt_parts.proofs.IndexLaws.{have_due}
use Rattle.rt_parts.proofs.renewal.numbers_of_form.Goals as goal

pub push_at-requires : goal.push_at-requires
push_at-requires c = c.requires.index.order

pub returns-clause-rise : goal.returns-clause-rise
returns-clause-rise c =
    let test : ℕ → Bool = λ n. list_any (λ (l : HeldListener). l.number == n && query_eq (form l.query) c.args.listened.now) c.args.listeners.now in
    subst (AllPairs (λ (m n : ℕ). m < n)) (sym c.keep_of_form.ensures) (AllPairs-filter (λ (m n : ℕ). m < n) test c.sort_once.new.numbers.items c.sort_once.ensures.rise)

pub returns-clause-those : goal.returns-clause-those
returns-clause-those c =
    let f = c.args.listened.now in
    let path : c.keys.result.now ≡ f.path = search rules in
    let test : ListenerPlace → Bool = λ x. path_eq x.path f.path in
    let at : HaveNumbers test c.push_at.new.numbers.items c.args.places.now =
    subst (λ p. HaveNumbers (λ (x : ListenerPlace). path_eq x.path p) c.push_at.new.numbers.items c.args.places.now) path c.in_ok-push_at.ensures.all in
    let all : HaveNumbers test c.sort_once.new.numbers.items c.args.places.now = λ k d lt e. c.sort_once.ensures.same (λ n. (get_or c.args.places.now k d).number == n) ∙ at k d lt e in
    subst (λ ns. HaveForm f ns c.args.listeners.now) (sym c.keep_of_form.ensures)
    (have_form f c.sort_once.new.numbers.items c.args.listeners.now c.requires.rising
    (have_due test c.sort_once.new.numbers.items c.args.listeners.now c.args.places.now c.requires.index all))
