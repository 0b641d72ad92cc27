use Rattle.std.proofs.Common.{◌++◌, ◌∷◌, [], take, true, None, sym, ap, ◌∙◌, not, ◌&&◌, ◌+◌, ◌==◌}
use Rattle.std.specs.List.{list_any}
use Rattle.std.proofs.lemmas.List.{take_more}
use Rattle.rt_tree.specs.PathTree.{path_eq}
use Rattle.rt_writes.specs.inside.Spots.{has_here}
use Rattle.rt_writes.proofs.SpotLaws.{changes_none, changes_more, forgets_still, forgets_join, forgets_tell, both_true}
use Rattle.rt_writes.proofs.KeptLaws.{keeps_none, keeps_more}
use Rattle.rt_writes.proofs.spots.Spot.forget_all.Goals as goal

pub loop-entry-init : goal.loop-entry-init
loop-entry-init c = (changes_none (λ now before. not now && before) forgets_still (λ a. true) c.args.self.now c.args.id, keeps_none c.args.self.now c.args.id)

pub loop-entry-preserved : goal.loop-entry-preserved
loop-entry-preserved c =
    let keys = c.keys.ensures.keys in
    let so_far = take c.loop-entry.entry-index c.args.entries.now in
    let more = take_more c.args.entries.now c.loop-entry.entry-index c.entry-item.result c.loop-entry-test.true ∙ ap (λ a. take c.loop-entry.entry-index c.args.entries.now ++ a ∷ []) (sym c.entry-item.is) in (
      changes_more (λ now before. not now && before) forgets_join (λ a. true) None forgets_tell c.args.self.now c.loop-entry.self c.forget.new.self
          so_far (take (c.loop-entry.entry-index + 1) c.args.entries.now) c.entry-item.result c.args.id
          (λ i e. cc)
          c.loop-entry.invariant.0 (rw (sym keys) c.forget.ensures.forgets) more,
      keeps_more c.args.self.now c.loop-entry.self c.forget.new.self so_far (take (c.loop-entry.entry-index + 1) c.args.entries.now) c.entry-item.result c.args.id
          (λ q j e. (both_true (not (list_any (λ a. path_eq a.0 q) so_far && (c.args.id == j))) (has_here c.args.self.now q j) (sym (c.loop-entry.invariant.0.here q j) ∙ e)).1)
          c.loop-entry.invariant.1 (rw (sym keys) c.forget.ensures.trees) more,
    )
