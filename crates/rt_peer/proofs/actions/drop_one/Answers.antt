use Rattle.std.proofs.Common.{◌≡◌, sym, subst, ◌∙◌}
use Rattle.rt_peer.specs.inside.Counts.{AreCountedBy}
use Rattle.rt_peer.specs.inside.Placed.{whose, without_bare}
use Rattle.rt_peer.proofs.PlacedLaws.{bare_none, bare_taken, counted_bare}
use Rattle.rt_peer.proofs.actions.drop_one.Goals as goal

pub returns-then-has_bare : goal.returns-then-has_bare
returns-then-has_bare c =
    let p = c.args.place in
    let es = c.args.by_place.now.entries in
    let bare = sym c.has_bare.ensures ∙ c.if-has_bare.true in
    let left : c.remove.new.self.entries ≡ without_bare p es = c.remove.ensures.entries ∙ bare_taken p es c.requires.order bare in
    record {
      order = c.remove.ensures.ordered;
      left = left;
      counted = subst (λ xs. AreCountedBy c.lower.new.counts.entries xs whose) (sym left)
          (counted_bare p c.args.counts.now.entries c.lower.new.counts.entries es c.requires.order c.requires.counted bare c.lower.ensures);
    }

pub returns-else-has_bare-clause-left : goal.returns-else-has_bare-clause-left
returns-else-has_bare-clause-left c =
    bare_none c.args.place c.args.by_place.now.entries c.requires.order (sym c.has_bare.ensures ∙ c.if-has_bare.false)
