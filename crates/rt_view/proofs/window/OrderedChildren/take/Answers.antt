use Rattle.std.proofs.Common.{◌≡◌, true, false, refl, sym, ap, subst, ◌∙◌, rules}
use Rattle.rt_chain.specs.Chains.{is_half}
use Rattle.rt_chain.specs.declared.chain.Half.{Half}
use Rattle.rt_view.specs.declared.window.Turned.{Turned}
use Rattle.rt_view.specs.inside.Ranged.{inner}
use Rattle.rt_view.specs.inside.Turns.{Refilled, Refills}
use Rattle.rt_view.specs.inside.Windows.{Entries, Goes, is_there, other_half, rest_in, shown_in, without}
use Rattle.rt_view.proofs.HalfLaws.{refilled, refills_left, shows_less, take_stays, was_shown}
use Rattle.rt_view.proofs.BesideLaws.{becomes, known_without, shows}
use Rattle.rt_view.proofs.window.OrderedChildren.take.Goals as goal

pub returns-then-not-is_half : goal.returns-then-not-is_half
returns-then-not-is_half c =
    let m = c.args.self.now in
    let e = c.args.position.now in
    let w = c.unlink-half.new.self in
    let d = inner w.children in
    let half = c.unlink-half.result in
    let taken = c.unlink-half.ensures.taken in
    let told = was_shown m.limit e (inner m.children) d c.requires taken half c.unlink-half.ensures.had in
    let missed : is_there e (shown_in m) ≡ false = sym told ∙ ap (λ (s : Half). is_half s half) (sym c.half-shown.ensures) ∙ sym c.if-not-is_half.ensures in
    record {
      limit = search rules;
      range = search rules;
      known = known_without e m w c.len-len.ensures.rises c.unlink-half.ensures.all;
      taken = becomes m w _ _ c.unlink-half.ensures.limit refl (take_stays m.limit e (inner m.children) d c.requires taken missed);
      was = ap (λ (r : Turned). r.was) c.none.ensures ∙ sym missed;
      crosses = subst (λ (r : Turned). Refills r (rest_in m) (without e (shown_in m)) (shown_in w)) (sym c.none.ensures) (sym (shows m w c.unlink-half.ensures.limit) ∙ shows_less m.limit e (inner m.children) d c.requires taken, tt);
    }

pub returns : goal.returns
returns c =
    let m = c.args.self.now in
    let e = c.args.position.now in
    let w = c.unlink-half.new.self in
    let d = inner w.children in
    let half = c.unlink-half.result in
    let taken = c.unlink-half.ensures.taken in
    let told = was_shown m.limit e (inner m.children) d c.requires taken half c.unlink-half.ensures.had in
    let hit : is_there e (shown_in m) ≡ true = sym told ∙ ap (λ (s : Half). is_half s half) (sym c.half-shown.ensures) ∙ sym c.if-not-is_half.ensures in
    let last = c.cross_from.new.self in
    let g = inner last.children in
    let crossed = c.in_ok-crossed.crossed in
    let goes = subst (λ (x : Half). Goes x crossed d g) (c.other_half.ensures ∙ ap other_half c.half-shown.ensures) c.in_ok-crossed.ensures.crosses in
    let filled = refilled m.limit e (inner m.children) d c.requires taken hit crossed g goes in
    let limit = c.in_ok-crossed.ensures.limit ∙ c.unlink-half.ensures.limit in
    let refills = refills_left crossed (rest_in m) (without e (shown_in m)) (shown_in last) (subst (λ (es : Entries). Refilled crossed (rest_in m) (without e (shown_in m)) es) (shows m last limit) filled.1) in
    record {
      limit = limit;
      range = search rules;
      known = c.in_ok-crossed.ensures.all ∙ known_without e m w c.len-len.ensures.rises c.unlink-half.ensures.all;
      taken = becomes m last _ _ limit refl filled.0;
      was = ap (λ (r : Turned). r.was) c.left.ensures ∙ sym hit;
      crosses = subst (λ (r : Turned). Refills r (rest_in m) (without e (shown_in m)) (shown_in last)) (sym c.left.ensures) refills;
    }
