use Rattle.std.proofs.Common.{false, true, ◌≡◌, rules}
use Rattle.std.proofs.lemmas.Result.{on_ok_weaker}
use Rattle.std.specs.List.{list_any}
use Rattle.rt_tree.specs.PathTree.{sub}
use Rattle.rt_tree.specs.Assignments.{is_at_or_above}
use Rattle.rt_view.specs.Views.{stays_object}
use Rattle.rt_peer.specs.inside.Watched.{children_at, named_keys}
use Rattle.rt_peer.proofs.WatchedLaws.{renewed_of, touched_of}
use Rattle.rt_peer.proofs.views.show.Goals as goal

pub returns-then-stays_object-clause-of : goal.returns-then-stays_object-clause-of
returns-then-stays_object-clause-of c =
    let q = c.args.heard.now in
    let es = c.args.entries.now in
    let up : list_any (λ a. is_at_or_above a.0 q.path) es ≡ false = search rules in
    let named : c.in_ok-named.named.items ≡ children_at (sub c.args.write.now.after q.path) (named_keys q.path es) = search rules in
    let stays : stays_object c.args.view.now.tree c.in_ok-named.named.items ≡ true = search rules in
    on_ok_weaker c.touch.result (λ turned. touched_of c.args.write.now.before c.args.write.now.after es q c.args.view.now c.touch.new.view
    c.in_ok-named.named.items c.requires.made c.requires.of up named stays turned)
    c.touch.ensures.touched

pub returns-clause-of : goal.returns-clause-of
returns-clause-of c =
    let q = c.args.heard.now in
    let is : c.in_ok-part.part ≡ sub c.args.write.now.after q.path = search rules in
    on_ok_weaker c.renew.result (λ turned. renewed_of c.args.write.now.before c.args.write.now.after q c.args.view.now c.renew.new.view
    c.in_ok-part.part c.requires.of is turned) c.renew.ensures.renewed
