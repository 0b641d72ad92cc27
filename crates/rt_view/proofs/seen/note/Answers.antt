use Rattle.std.proofs.Common.{[], ap, ◌∙◌}
use Rattle.rt_view.specs.declared.seen.Seen.{Seen}
use Rattle.rt_view.specs.inside.Telling.{kept_by, seen_too}
use Rattle.rt_view.proofs.SeenLaws.{fold_push}
use Rattle.rt_view.proofs.seen.note.Goals as goal

pub returns : goal.returns
returns c =
    ap kept_by c.in_ok-push.ensures.items
    ∙ fold_push (λ es (s : Seen). seen_too s.key s.old s.new es) [] c.args.noted.now.items _
    ∙ (λ i. seen_too (c.in_ok-key.ensures i) (c.in_ok-was.ensures i) (c.in_ok-new.ensures i) (kept_by c.args.noted.now.items))
