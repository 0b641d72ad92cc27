-- What an overlay leaves as it was, and what it hides.
use Rattle.std.proofs.Common.{◌≡◌, Bool, true, false, ◌||◌, List, [], ◌∷◌, Option, Some, None}
use Rattle.std.proofs.Common.{is_some, refl, ap, ◌∙◌}
use Rattle.std.specs.List.{fold, list_any}
use Rattle.rt_tree.specs.PathTree.{Path, PathTree, strip}
use Rattle.rt_tree.specs.Assignments.{Assignment, is_at_or_above, do_overlap}
use Rattle.rt_writes.specs.Writes.{overlaid, overlaid_by}

or_false : (a b : Bool) → (a || b) ≡ false → (a ≡ false) × (b ≡ false)
or_false true b e = cc
or_false false b e = (refl, e)

-- an entry beside the path
untouched : (t u : PathTree) (above below : Option Path) → (is_some above || is_some below) ≡ false
    → overlaid_by above below t u ≡ t
untouched t u None None e = refl
untouched t u None (Some r) e = cc
untouched t u (Some r) below e = cc

pub fold-untouched : (p : Path) (t : PathTree) (entries : List Assignment)
    → list_any (λ a. do_overlap a.0 p) entries ≡ false → fold (overlaid p) t entries ≡ t
fold-untouched p t [] h = refl
fold-untouched p t (a ∷ entries) h =
    let parts = or_false (do_overlap a.0 p) (list_any (λ b. do_overlap b.0 p) entries) h in
    ap (λ x. fold (overlaid p) x entries) (untouched t a.1 (strip a.0 p) (strip p a.0) parts.0)
    ∙ fold-untouched p t entries parts.1

-- an entry at or above the path
hides : (t u v : PathTree) (above below : Option Path) → is_some above ≡ true
    → overlaid_by above below t v ≡ overlaid_by above below u v
hides t u v None below e = cc
hides t u v (Some r) below e = refl

pub fold-whole : (p : Path) (t u : PathTree) (entries : List Assignment)
    → list_any (λ a. is_at_or_above a.0 p) entries ≡ true
    → fold (overlaid p) t entries ≡ fold (overlaid p) u entries
fold-whole p t u [] h = cc
fold-whole p t u (a ∷ entries) h =
    elim (is_at_or_above a.0 p) as (λ b. is_at_or_above a.0 p ≡ b
    → (b || list_any (λ x. is_at_or_above x.0 p) entries) ≡ true
    → fold (overlaid p) (overlaid p t a) entries ≡ fold (overlaid p) (overlaid p u a) entries) [
      | true ↦ λ e g. ap (λ x. fold (overlaid p) x entries)
          (hides t u a.1 (strip a.0 p) (strip p a.0) e)
      | false ↦ λ e g. fold-whole p (overlaid p t a) (overlaid p u a) entries g
    ] refl h
