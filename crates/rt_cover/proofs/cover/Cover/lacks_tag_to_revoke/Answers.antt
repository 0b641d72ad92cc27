use Rattle.std.proofs.Common.{◌≡◌, ◌==◌, Some, false, sym, ap, ◌∙◌, ◌<◌, subst}
use Rattle.std.specs.List.{find, list_any, AllPairs}
use Rattle.std.specs.Option.{option_copied, option_map_or}
use Rattle.rt_query.specs.Supply.{form}
use Rattle.rt_cover.specs.Cover.{Registered, Tagged}
use Rattle.rt_cover.specs.State.{Cover, listen_at, lacks_tag, without_form, numbers_of}
use Rattle.rt_cover.specs.inside.Endings.{left}
use Rattle.rt_cover.specs.inside.Sound.{IsSound}
use Rattle.rt_cover.proofs.HeldLaws.{form_left, kept_own}
use Rattle.rt_cover.proofs.cover.Cover.lacks_tag_to_revoke.Goals as goal

pub returns-in-Some : goal.returns-in-Some
returns-in-Some c =
    let old : Cover = c.args.self.now in
    let sound : IsSound old = subst IsSound c.self.view_is c.self.invariant in
    let k : Tagged = c.in-Some.listen.now in
    let found : listen_at old c.args.tag ≡ Some c.in-Some.listen.now = sym (ap option_copied (sym c.in-Some.is) ∙ c.listen_at.ensures ∙ (λ i. find (λ (k : Tagged). k.tag == c.args.tag) ((c.as_slice.ensures ∙ (λ j. (c.self.view_is j).kept)) i))) in
    let ns : c.numbers.result.now ≡ numbers_of old.listeners k.form = c.numbers.ensures ∙ (λ i. numbers_of (c.self.view_is i).listeners (c.form.ensures i)) in
    c.lacks_tag_to_end.ensures ∙ (λ i. lacks_tag old (left (λ (l : Registered). list_any (λ n. n == l.0) (ns i)) old.listeners))
    ∙ ap (lacks_tag old) (form_left old.listeners sound.listeners k.form)
    ∙ sym (λ i. option_map_or (λ (_ : Tagged). lacks_tag old (option_map_or (λ (k : Tagged). without_form old.listeners k.form) (found i) old.listeners)) (found i) false)

pub listen_at-requires : goal.listen_at-requires
listen_at-requires c =
    let old : Cover = c.args.self.now in
    let sound : IsSound old = subst IsSound c.self.view_is c.self.invariant in
    let ks : c.as_slice.result.now ≡ old.kept = c.as_slice.ensures ∙ (λ i. (c.self.view_is i).kept) in
    subst (AllPairs (λ (j k : Tagged). j.tag < k.tag)) (sym ks) sound.tags

pub numbers-requires : goal.numbers-requires
numbers-requires c =
    let old : Cover = c.args.self.now in
    let sound : IsSound old = subst IsSound c.self.view_is c.self.invariant in
    let found : listen_at old c.args.tag ≡ Some c.in-Some.listen.now = sym (ap option_copied (sym c.in-Some.is) ∙ c.listen_at.ensures ∙ (λ i. find (λ (k : Tagged). k.tag == c.args.tag) ((c.as_slice.ensures ∙ (λ j. (c.self.view_is j).kept)) i))) in
    subst (λ f. form f ≡ f) (sym c.form.ensures) (kept_own old sound c.args.tag c.in-Some.listen.now found)
