use Rattle.std.proofs.Common.{◌≡◌, false, map, sym, subst, ◌∙◌}
use Rattle.rt_cover.specs.Apart.{do_plains_overlap}
use Rattle.rt_cover.specs.Cover.{Tagged}
use Rattle.rt_cover.specs.State.{Cover}
use Rattle.rt_cover.specs.inside.Sound.{IsSound}
use Rattle.rt_cover.proofs.ApartLaws.{sound_apart}
use Rattle.rt_cover.proofs.cover.Cover.kept_forms.Goals as goal

pub returns-clause-apart : goal.returns-clause-apart
returns-clause-apart c =
    let old : Cover = c.args.self.now in
    let sound : IsSound old = subst IsSound c.self.view_is c.self.invariant in
    let e : c.in_ok-forms_of.field-0.items ≡ map (λ (k : Tagged). k.form) old.kept = c.in_ok-forms_of.ensures ∙ (λ i. map (λ (k : Tagged). k.form) ((c.as_slice.ensures ∙ (λ j. (c.self.view_is j).kept)) i)) in
    subst (λ fs. do_plains_overlap fs ≡ false) (sym e) (sound_apart old sound)
