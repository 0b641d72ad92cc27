use Rattle.std.proofs.Common.{◌≡◌, Some, ap, sym, subst, ◌∙◌, rules}
use Rattle.std.specs.Option.{option_copied}
use Rattle.std.proofs.lemmas.Result.{IfOk-weaker}
use Rattle.rt_tree.specs.PathTree.{PathTree, leaf_of}
use Rattle.rt_query.specs.Select.{select}
use Rattle.rt_view.specs.Changes.{changes}
use Rattle.rt_view.specs.inside.Telling.{AreSeen}
use Rattle.rt_view.proofs.AloneLaws.{plain_value}
use Rattle.rt_view.proofs.SeenLaws.{are_seen}
use Rattle.rt_view.proofs.TreeLaws.{plain_shown}
use Rattle.rt_view.proofs.touch.touch_plain.Goals as goal
use Rattle.rt_view.specs.inside.Windows.{Entries, shown_in, value_at}

pub returns-clause-changes : goal.returns-clause-changes
returns-clause-changes c =
    let q = c.args.query.now in
    let t : PathTree = c.args.known.now in
    let w = c.touch_all.new.window in
    let seen : AreSeen q.index t (shown_in w) c.as_slice.result.now =
    subst (AreSeen q.index t (shown_in w)) (sym c.as_slice.ensures.value)
    (are_seen q.index t (shown_in c.args.window.now) (shown_in w) _ c.in_ok-seen.ensures.seen
    (λ k. ap (λ (es : Entries). value_at es k) (sym c.requires.kept.cut.cut) ∙ plain_value q t k c.requires.plain)) in
    let shown = subst (λ (es : Entries). AreSeen q.index t es c.as_slice.result.now) (sym c.in_ok-seen.ensures.kept.cut.cut) seen in
    let leaf : leaf_of t ≡ option_copied c.as_ref.result = search rules in
    IfOk-weaker c.tell_plain.result _ _
    (λ list told. told t shown leaf ∙ ap (λ v. changes q.index (Some v) (select q c.touch_all.new.known)) (plain_shown q t c.requires.plain))
    c.tell_plain.ensures
