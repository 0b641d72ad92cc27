use Rattle.std.proofs.Common.{rules, ◌≡◌, ◌==◌, ℕ, Some, None, [], ◌++◌, inl, refl, sym, ap, ◌∙◌, ◌<◌, subst}
use Rattle.std.specs.List.{find, AllPairs}
use Rattle.std.specs.Option.{option_copied, option_map_or}
use Rattle.rt_query.specs.Supply.{form}
use Rattle.rt_cover.specs.Cover.{Registered, Tagged}
use Rattle.rt_cover.specs.State.{Cover, listen_at, numbers_of}
use Rattle.rt_cover.specs.inside.Sound.{IsSound}
use Rattle.rt_cover.proofs.HeldLaws.{numbers_rise, kept_own}
use Rattle.rt_cover.proofs.cover.Cover.named.Goals as goal

pub returns-in_default-clause-fault : goal.returns-in_default-clause-fault
returns-in_default-clause-fault c =
    let e : listen_at c.args.self.now c.args.tag ≡ None = sym (ap option_copied (sym c.in_default.is) ∙ c.listen_at.ensures ∙ (λ i. find (λ (k : Tagged). k.tag == c.args.tag) ((c.as_slice.ensures ∙ (λ j. (c.self.view_is j).kept)) i))) in
    inl (refl, e)

pub listen_at-requires : goal.listen_at-requires
listen_at-requires c =
    let old : Cover = c.args.self.now in
    let sound : IsSound old = subst IsSound c.self.view_is c.self.invariant in
    let ks : c.as_slice.result.now ≡ old.kept = c.as_slice.ensures ∙ (λ i. (c.self.view_is i).kept) in
    subst (AllPairs (λ (j k : Tagged). j.tag < k.tag)) (sym ks) sound.tags

pub numbers-numbers-requires : goal.numbers-numbers-requires
numbers-numbers-requires c =
    let old : Cover = c.args.self.now in
    let sound : IsSound old = subst IsSound c.self.view_is c.self.invariant in
    let there : find (λ (k : Tagged). k.tag == c.args.tag) old.kept ≡ Some c.in-Some.listen.now =
    sym (ap option_copied (sym c.in-Some.is) ∙ c.listen_at.ensures ∙ (λ i. find (λ (k : Tagged). k.tag == c.args.tag) ((c.as_slice.ensures ∙ (λ j. (c.self.view_is j).kept)) i))) in
    subst (λ f. form f ≡ f) (sym c.form.ensures) (kept_own old sound c.args.tag c.in-Some.listen.now there)

pub rising-requires : goal.rising-requires
rising-requires c =
    let old : Cover = c.args.self.now in
    let sound : IsSound old = subst IsSound c.self.view_is c.self.invariant in
    let is : c.extend_from_slice.new.self.items ≡ numbers_of old.listeners (c.in-Some.listen.now).form = search rules in
    subst (AllPairs (λ (a b : ℕ). a < b)) (sym is) (numbers_rise (c.in-Some.listen.now).form old.listeners sound.listeners)
