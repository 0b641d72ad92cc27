-- Each part of an overlaid tree is the overlay of the part.
use Rattle.std.proofs.Common.{◌≡◌, [], ◌∷◌, ◌++◌, refl, sym, ap, ◌∙◌, List, Some, None}
use Rattle.std.specs.List.{fold}
use Rattle.std.specs.Option.{option_and_then}
use Rattle.rt_tree.specs.PathTree.{Path, PathTree, strip, strip-some, strip-more, strip-under}
use Rattle.rt_tree.specs.PathTree.{strip-both, strip-apart, sub, put}
use Rattle.rt_tree.specs.Parts.{sub-sub, sub-put_above, sub-put_under, sub-put_other}
use Rattle.rt_tree.specs.Assignments.{Assignment}
use Rattle.rt_writes.specs.Writes.{overlaid, overlaid_by}

-- a tree put below, seen from a part
below : (s q : Path) (t u : PathTree)
    → sub (put t s u) q ≡ overlaid_by (strip s q) (strip q s) (sub t q) u
below s q t u =
    elim (strip s q) as (λ o. strip s q ≡ o
    → sub (put t s u) q ≡ overlaid_by o (strip q s) (sub t q) u) [
      | Some r ↦ λ e. ap (sub (put t s u)) (strip-some s q r e) ∙ sub-put_above t s r u
      | None ↦ λ e. elim (strip q s) as (λ o. strip q s ≡ o
          → sub (put t s u) q ≡ overlaid_by None o (sub t q) u) [
            | Some r ↦ λ f. ap (λ z. sub (put t z u) q) (strip-some q s r f) ∙ sub-put_under t q r u
            | None ↦ λ f. sub-put_other t s q u e f
          ] refl
    ] refl

-- one entry, seen from a part
pub overlaid-part : (p q : Path) (t : PathTree) (a : Assignment)
    → sub (overlaid p t a) q ≡ overlaid (p ++ q) (sub t q) a
overlaid-part p q t a =
    elim (strip a.0 p) as (λ o. strip a.0 p ≡ o
    → sub (overlaid_by o (strip p a.0) t a.1) q ≡ overlaid (p ++ q) (sub t q) a) [
      | Some r ↦ λ e. sub-sub a.1 r q
          ∙ ap (λ o. overlaid_by o (strip (p ++ q) a.0) (sub t q) a.1) (sym (strip-more a.0 p r q e))
      | None ↦ λ e. elim (strip p a.0) as (λ o. strip p a.0 ≡ o
          → sub (overlaid_by None o t a.1) q ≡ overlaid (p ++ q) (sub t q) a) [
            | Some s ↦ λ f.
                below s q t a.1
                ∙ (λ i. overlaid_by (sym (strip-both p s q) i) (sym (strip-both p q s) i) (sub t q) a.1)
                ∙ ap (λ z. overlaid (p ++ q) (sub t q) (z, a.1)) (sym (strip-some p a.0 s f))
            | None ↦ λ f i. overlaid_by (sym (strip-apart a.0 p q e f) i)
                (sym (strip-under p q a.0 ∙ ap (option_and_then (strip q)) f) i) (sub t q) a.1
          ] refl
    ] refl

-- all entries, one after another, seen from a part
pub fold-overlaid_part : (p q : Path) (entries : List Assignment) (t : PathTree)
    → sub (fold (overlaid p) t entries) q ≡ fold (overlaid (p ++ q)) (sub t q) entries
fold-overlaid_part p q [] t = refl
fold-overlaid_part p q (a ∷ entries) t =
    fold-overlaid_part p q entries (overlaid p t a)
    ∙ ap (λ x. fold (overlaid (p ++ q)) x entries) (overlaid-part p q t a)
