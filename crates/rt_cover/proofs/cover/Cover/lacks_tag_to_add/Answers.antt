use Rattle.std.proofs.Common.{rules, ◌≡◌, ◌+◌, ◌==◌, true, false, ◌&&◌, refl, sym, ap, subst, ◌∙◌, eqb-true, eq-eqb}
use Rattle.std.specs.Option.{is_none}
use Rattle.rt_cover.specs.State.{Cover, supplier}
use Rattle.rt_cover.specs.inside.Sound.{IsSound}
use Rattle.rt_cover.proofs.AddLaws.{lacks_to_add}
use Rattle.rt_cover.proofs.cover.Cover.lacks_tag_to_add.Goals as goal

pub returns-then-self : goal.returns-then-self
returns-then-self c = λ n free.
    let old : Cover = c.args.self.now in
    let sound : IsSound old = subst IsSound c.self.view_is c.self.invariant in
    let next : old.next_tag ≡ c.self.inside.given + 1 = (λ i. (sym c.self.view_is i).next_tag) in
    let last : c.self.inside.last_tag ≡ old.last_tag = (λ i. (c.self.view_is i).last_tag) in
    let same : (c.self.inside.given == old.last_tag) ≡ true = eq-eqb c.self.inside.given old.last_tag (c.if-self.true ∙ last) in
    let none : c.is_none.result ≡ is_none (supplier old c.args.query.now) = search rules in
    none ∙ sym (ap (λ b. b && is_none (supplier old c.args.query.now)) same)
    ∙ lacks_to_add old sound c.self.inside.given n c.args.query.now next free

pub returns-else-self : goal.returns-else-self
returns-else-self c = λ n free.
    let old : Cover = c.args.self.now in
    let sound : IsSound old = subst IsSound c.self.view_is c.self.invariant in
    let next : old.next_tag ≡ c.self.inside.given + 1 = (λ i. (sym c.self.view_is i).next_tag) in
    let last : c.self.inside.last_tag ≡ old.last_tag = (λ i. (c.self.view_is i).last_tag) in
    let differs : (c.self.inside.given == old.last_tag) ≡ false =
    elim (c.self.inside.given == old.last_tag) as (λ b. (c.self.inside.given == old.last_tag) ≡ b → b ≡ false) [
      | true ↦ λ e. absurd (c.if-self.false (eqb-true c.self.inside.given old.last_tag e ∙ sym last))
      | false ↦ λ _. refl
    ] refl in
    ap (λ t. c.self.inside.given == t) last ∙ differs ∙ sym (ap (λ b. b && is_none (supplier old c.args.query.now)) differs)
    ∙ lacks_to_add old sound c.self.inside.given n c.args.query.now next free
