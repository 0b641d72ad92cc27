use Rattle.std.proofs.Common.{◌≡◌, ◌∙◌, ap, sym, subst, ◌<◌, ◌++◌, ◌∷◌, [], length}
use mathlib.Core.List.{append-nil}
use Rattle.rt_map.specs.inside.Joined.{joined, AllFilled}
use Rattle.rt_map.proofs.Parts.{joined-append, joined_some, AllFilled-append}
use Rattle.rt_map.proofs.root.push_row.Goals as goal

pub returns-clause-filled : goal.returns-clause-filled
returns-clause-filled g c =
    let is : c.in_ok-row.row.value ≡ joined c.args.chunks.items = c.in_ok-row.ensures.ok ∙ c.of.ensures in
    subst AllFilled (sym c.in_ok-push.ensures.items)
    (AllFilled-append c.args.rows.now.items (c.in_ok-row.row ∷ []) c.requires.filled (subst (λ es. 0 < length es) (sym is) (joined_some c.args.chunks.items c.requires.parts c.requires.some), tt))

pub returns-clause-entries : goal.returns-clause-entries
returns-clause-entries g c =
    ap joined c.in_ok-push.ensures.items ∙ joined-append c.args.rows.now.items (c.in_ok-row.row ∷ [])
    ∙ ap (λ l. joined c.args.rows.now.items ++ l) (append-nil c.in_ok-row.row.value ∙ c.in_ok-row.ensures.ok ∙ c.of.ensures)
