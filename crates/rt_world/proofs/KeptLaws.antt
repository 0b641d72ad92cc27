-- The listens stay where the listeners stay.
use Rattle.std.proofs.Common.{◌≡◌, ℕ, ◌==◌, not, List, [], refl, ap, ◌∙◌, slice_index_or, Some, None}
use Rattle.std.specs.Cmp.{nat_eq_equiv}
use Rattle.std.specs.List.{filter, list_any}
use Rattle.std.specs.Option.{option_map_or}
use Rattle.std.proofs.lemmas.List.Folds.{list_any_at}
use Rattle.rt_cover.specs.Cover.{Tagged}
use Rattle.rt_cover.specs.State.{beyond}
use Rattle.rt_cover.specs.laws.Pairs.{filter_none}
use Rattle.rt_world.specs.declared.step.Step.{Step}
use Rattle.rt_world.specs.World.{Reason}
use Rattle.rt_world.specs.After.{kind}
use Rattle.rt_world.specs.Messages.{unrevoked}
use Rattle.rt_world.specs.laws.Steps.{ListensStay}
use Rattle.rt_world.proofs.HeardLaws.{kept-same, started-same}

-- none is beyond itself
beyond-same : (kept : List Tagged) → beyond kept kept ≡ []
beyond-same kept = filter_none (λ (k : Tagged). not (list_any (λ (j : Tagged). j.tag == k.tag) kept)) kept (λ i d lt.
    let k = slice_index_or kept i d in
    ap not (list_any_at (λ (j : Tagged). j.tag == k.tag) kept i d lt (nat_eq_equiv.refl k.tag)))

unrevoked-nil : (s : Step) → unrevoked s [] ≡ []
unrevoked-nil s = elim (kind s).revoked as (λ o. option_map_or (λ (r : ℕ × Reason). filter (λ (k : Tagged). not (k.tag == r.0)) []) o [] ≡ []) [
  | Some r ↦ refl
  | None ↦ refl
]

pub listens_stay : ListensStay
listens_stay w s h e =
    let kept = kept-same w s h e in
    record {
      kept = kept;
      started = started-same w s h e;
      stopped = ap (λ ks. unrevoked s (beyond w.kept ks)) kept ∙ ap (unrevoked s) (beyond-same w.kept) ∙ unrevoked-nil s;
    }
