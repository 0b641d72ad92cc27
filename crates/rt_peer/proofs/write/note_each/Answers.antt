use Rattle.std.proofs.Common.{◌≡◌, ◌∷◌, ◌++◌, ap, append-nil, sym, subst, ◌∙◌}
use Rattle.std.specs.List.Sorted.{IsStrictlySortedBy}
use Rattle.std.proofs.lemmas.Map.Keys.{sorted_tail}
use Rattle.rt_peer.specs.inside.Met.{numbers_of}
use Rattle.rt_peer.specs.inside.Spots.{has_owner, owner_cmp}
use Rattle.rt_peer.proofs.MetLaws.{each_more, one_if}
use Rattle.rt_peer.proofs.write.note_each.Goals as goal

pub loop-owner-init : goal.loop-owner-init
loop-owner-init c =
    let left = c.into_iter-owner-iterator.result in
    let is : left ≡ c.args.owners.now.keys = c.into_iter-owner-iterator.ensures.into_iter_gives ∙ c.iter-owner-items.ensures.rest in
    record {
      rising = subst (IsStrictlySortedBy owner_cmp) (sym is) c.iter-owner-items.ensures.ordered;
      noted = λ o. ap (λ os. numbers_of c.args.met.now.entries o ++ one_if (has_owner os o) c.args.number) is;
    }

pub loop-owner-preserved : goal.loop-owner-preserved
loop-owner-preserved c =
    let k = c.in-Some.owner.now in
    let left = c.loop-owner.owner-iterator in
    let rest = c.next.new.self in
    let steps : left ≡ k ∷ rest = c.in-Some.ensures.steps in
    record {
      rising = sorted_tail owner_cmp k rest (subst (IsStrictlySortedBy owner_cmp) steps c.loop-owner.invariant.rising);
      noted = λ o. each_more k rest left c.args.number c.loop-owner.met.entries c.note.new.met.entries steps
          c.loop-owner.invariant.rising c.in_ok-note.ensures o ∙ c.loop-owner.invariant.noted o;
    }

pub returns : goal.returns
returns c = λ o.
    sym (append-nil (numbers_of c.loop-owner.met.entries o))
    ∙ ap (λ os. numbers_of c.loop-owner.met.entries o ++ one_if (has_owner os o) c.args.number) (sym c.in-None.ensures.steps.0)
    ∙ c.loop-owner.invariant.noted o
