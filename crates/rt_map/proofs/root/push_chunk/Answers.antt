use Rattle.std.proofs.Common.{◌≡◌, ◌∙◌, ap, sym, subst, ◌<◌, ◌++◌, ◌∷◌, [], length}
use mathlib.Core.List.{append-nil}
use Rattle.rt_map.specs.inside.Joined.{joined, AllFilled}
use Rattle.rt_map.proofs.Parts.{joined-append, AllFilled-append}
use Rattle.rt_map.proofs.root.push_chunk.Goals as goal

pub returns-clause-filled : goal.returns-clause-filled
returns-clause-filled g c =
    let is : c.in_ok-chunk.chunk.value ≡ c.args.entries.items = c.in_ok-chunk.ensures.ok ∙ c.of.ensures in
    subst AllFilled (sym c.in_ok-push.ensures.items) (AllFilled-append c.args.chunks.now.items (c.in_ok-chunk.chunk ∷ []) c.requires.filled (subst (λ es. 0 < length es) (sym is) c.requires.some, tt))

pub returns-clause-entries : goal.returns-clause-entries
returns-clause-entries g c =
    ap joined c.in_ok-push.ensures.items ∙ joined-append c.args.chunks.now.items (c.in_ok-chunk.chunk ∷ [])
    ∙ ap (λ l. joined c.args.chunks.now.items ++ l) (append-nil c.in_ok-chunk.chunk.value ∙ c.in_ok-chunk.ensures.ok ∙ c.of.ensures)
