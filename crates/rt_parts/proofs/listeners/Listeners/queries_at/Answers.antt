use Rattle.std.proofs.Common.{◌≡◌, ◌&&◌, ap, subst, ◌∙◌, rules, IfOk, Result, Ok, Err}
use Rattle.std.specs.List.{list_any}
use Rattle.rt_tree.specs.PathTree.{path_eq}
use Rattle.rt_query.specs.Queries.{is_filtered}
use Rattle.rt_parts.specs.declared.places.ListenerPlace.{ListenerPlace}
use Rattle.rt_parts.specs.inside.Placed.{HaveNumbers}
use Rattle.rt_parts.specs.Listeners.{Listeners}
use Rattle.rt_parts.specs.Renewed.{is_listened_at}
use Rattle.rt_parts.proofs.IndexLaws.{have_due}
use Rattle.rt_parts.proofs.RenewalLaws.{all_of_path, has_of}
use Rattle.rt_parts.proofs.listeners.Listeners.queries_at.Goals as goal

pub returns : goal.returns
returns c =
    let places : c.deref.result.now ≡ c.self.inside.places.items = search rules in
    let keys : c.keys.result.now ≡ c.args.path.now = c.keys.ensures.keys in
    let numbers = c.push_at.new.numbers.items in
    let held : c.deref-2.result.now ≡ c.self.inside.held.items = search rules in
    let lent : c.deref-3.result.now ≡ numbers = search rules in
    let all : HaveNumbers (λ (x : ListenerPlace). path_eq x.path c.args.path.now) numbers c.self.inside.places.items =
    subst (λ z. HaveNumbers (λ (x : ListenerPlace). path_eq x.path z) numbers c.self.inside.places.items) keys
    (subst (HaveNumbers (λ (x : ListenerPlace). path_eq x.path c.keys.result.now) numbers) places c.in_ok-push_at.ensures.all) in
    let due = have_due (λ (x : ListenerPlace). path_eq x.path c.args.path.now) numbers c.self.inside.held.items c.self.inside.places.items c.self.invariant.1 all in
    if_ok c.queries_of.result c.queries_of.ensures (λ x h q.
    h q
    ∙ (λ i. is_filtered q && path_eq q.path c.args.path.now && list_any (has_of (held i) q) (lent i))
    ∙ all_of_path c.self.inside.held.items c.args.path.now numbers q due
    ∙ ap (λ (all : Listeners). is_listened_at all.listeners c.args.path.now q) c.self.view_is)
  where
    if_ok : {X E : Type 0} {P Q : X → Type 0} (r : Result X E) → IfOk r P → ((x : X) → P x → Q x) → IfOk r Q
    if_ok (Ok x) h f = f x h
    if_ok (Err e) h f = h
