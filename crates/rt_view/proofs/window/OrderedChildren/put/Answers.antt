use Rattle.std.proofs.Common.{Bool, Option, refl, sym, ap, subst, ◌∙◌, length, rules}
use Rattle.std.specs.FinMap as map_of
use Rattle.rt_chain.specs.declared.chain.Half.{Half}
use Rattle.rt_order.specs.Entries.{entry_cmp}
use Rattle.rt_view.specs.declared.window.Turned.{Turned}
use Rattle.rt_view.specs.inside.Ranged.{inner}
use Rattle.rt_view.specs.inside.Turns.{Spilled, Spills}
use Rattle.rt_view.specs.inside.Windows.{Entries, Goes, PutAt, PutWithin, all_of, half_in, is_there, shown_from, shown_in}
use Rattle.rt_view.proofs.HalfLaws.{came, landed, passed, same_half, spilt}
use Rattle.rt_view.proofs.BesideLaws.{becomes, inside_is, over_as, shows, stays_beside, there_beside}
use Rattle.rt_view.proofs.window.OrderedChildren.put.Goals as goal

pub returns-in_default : goal.returns-in_default
returns-in_default c =
    let m = c.args.self.now in
    let w = c.place.new.self in
    let at = subst (λ (p : Option (Half × Bool)). PutAt c.args.position c.args.tree c.half-shown.result p m w) c.in_default.is c.in_ok-placed.ensures.put in
    let shown = sym (shows m w c.in_ok-placed.ensures.limit) ∙ ap (shown_from m.limit) at.1 in
    record {
      limit = search rules;
      range = search rules;
      known = search rules;
      put = stays_beside m w c.args.position c.args.tree c.in_ok-placed.ensures.limit at.1 at.0 c.requires;
      was = ap (λ (r : Turned). r.was) c.none.ensures ∙ sym (there_beside m c.args.position at.0);
      crosses = subst (λ (r : Turned). Spills r (shown_in m) (map_of.put entry_cmp c.args.position c.args.tree (shown_in m)) (shown_in w)) (sym c.none.ensures) (refl, refl, shown);
    }

pub returns-then-not-is_half : goal.returns-then-not-is_half
returns-then-not-is_half c =
    let m = c.args.self.now in
    let e = c.args.position in
    let v = c.args.tree in
    let w = c.place.new.self in
    let at : PutWithin e v c.half-shown.result c.in-Some.half c.in-Some.was m w = subst (λ (p : Option (Half × Bool)). PutAt e v c.half-shown.result p m w) c.in-Some.is c.in_ok-placed.ensures.put in
    let rest = passed m.limit e v (inner m.children) (inner w.children) c.requires at.whole c.in-Some.half c.half-shown.result c.half-shown.ensures (sym c.if-not-is_half.ensures) (at.full (sym c.if-not-is_half.ensures)) at.puts in
    let shown = sym (shows m w c.in_ok-placed.ensures.limit) ∙ rest.shown in
    record {
      limit = search rules;
      range = search rules;
      known = search rules;
      put = becomes m w _ _ c.in_ok-placed.ensures.limit (inside_is m.children.range e v (all_of m) at.inside) rest.is;
      was = ap (λ (r : Turned). r.was) c.none-then-not-is_half.ensures ∙ sym rest.apart;
      crosses = subst (λ (r : Turned). Spills r (shown_in m) (map_of.put entry_cmp e v (shown_in m)) (shown_in w)) (sym c.none-then-not-is_half.ensures) (refl, refl, shown);
    }

pub returns-then-not-is_over : goal.returns-then-not-is_over
returns-then-not-is_over c =
    let m = c.args.self.now in
    let e = c.args.position in
    let v = c.args.tree in
    let w = c.place.new.self in
    let d = inner w.children in
    let s = c.half-shown.ensures in
    let at : PutWithin e v c.half-shown.result c.in-Some.half c.in-Some.was m w = subst (λ (p : Option (Half × Bool)). PutAt e v c.half-shown.result p m w) c.in-Some.is c.in_ok-placed.ensures.put in
    let land = landed m.limit e v (inner m.children) d c.requires at.whole c.in-Some.half c.half-shown.result s (sym c.if-not-is_half.ensures) at.puts in
    let over = over_as m.limit w.limit c.in_ok-placed.ensures.limit _ _ (ap (λ (x : Half). length (half_in x d)) (sym s) ∙ sym c.len-len.ensures.len) ∙ sym c.if-not-is_over.ensures in
    let shown = sym (shows m w c.in_ok-placed.ensures.limit) ∙ land.shown in
    record {
      limit = search rules;
      range = search rules;
      known = search rules;
      put = becomes m w _ _ c.in_ok-placed.ensures.limit (inside_is m.children.range e v (all_of m) at.inside) (came m.limit e v (inner m.children) d land over);
      was = ap (λ (r : Turned). r.was) c.came.ensures ∙ at.stood ∙ ap (λ (x : Half). is_there e (half_in x (inner m.children))) (same_half c.half-shown.result c.in-Some.half (sym c.if-not-is_half.ensures) ∙ s);
      crosses = subst (λ (r : Turned). Spills r (shown_in m) (map_of.put entry_cmp e v (shown_in m)) (shown_in w)) (sym c.came.ensures) shown;
    }

pub returns : goal.returns
returns c =
    let m = c.args.self.now in
    let e = c.args.position in
    let v = c.args.tree in
    let w = c.place.new.self in
    let d = inner w.children in
    let s = c.half-shown.ensures in
    let at : PutWithin e v c.half-shown.result c.in-Some.half c.in-Some.was m w = subst (λ (p : Option (Half × Bool)). PutAt e v c.half-shown.result p m w) c.in-Some.is c.in_ok-placed.ensures.put in
    let land = landed m.limit e v (inner m.children) d c.requires at.whole c.in-Some.half c.half-shown.result s (sym c.if-not-is_half.ensures) at.puts in
    let over = over_as m.limit w.limit c.in_ok-placed.ensures.limit _ _ (ap (λ (x : Half). length (half_in x d)) (sym s) ∙ sym c.len-len.ensures.len) ∙ sym c.if-not-is_over.ensures in
    let last = c.cross_from.new.self in
    let g = inner last.children in
    let crossed = c.in_ok-crossed.crossed in
    let spill = spilt m.limit e v (inner m.children) d land crossed g over (subst (λ (x : Half). Goes x crossed d g) s c.in_ok-crossed.ensures.crosses) in
    let shown = shows m last (c.in_ok-crossed.ensures.limit ∙ c.in_ok-placed.ensures.limit) in
    record {
      limit = search rules;
      range = search rules;
      known = search rules;
      put = becomes m last _ _ (c.in_ok-crossed.ensures.limit ∙ c.in_ok-placed.ensures.limit) (inside_is m.children.range e v (all_of m) at.inside) spill.0;
      was = ap (λ (r : Turned). r.was) c.came-2.ensures ∙ at.stood ∙ ap (λ (x : Half). is_there e (half_in x (inner m.children))) (same_half c.half-shown.result c.in-Some.half (sym c.if-not-is_half.ensures) ∙ s);
      crosses = subst (λ (r : Turned). Spills r (shown_in m) (map_of.put entry_cmp e v (shown_in m)) (shown_in last)) (sym c.came-2.ensures) (subst (λ (es : Entries). Spilled crossed (map_of.put entry_cmp e v (shown_in m)) es) shown spill.1);
    }
