use Rattle.std.proofs.Common.{◌≡◌, true, false, ap, refl, rules, sym, ◌∙◌}
use Rattle.rt_tree.specs.Trees.{tree_eq}
use Rattle.rt_peer.specs.inside.Standing.{leaves_part}
use Rattle.rt_peer.proofs.LookedLaws.{still_none, told_none}
use Rattle.rt_peer.proofs.WatchedLaws.{equal_seen, now_shown, other_told, quiet_none, quiet_of, shown_so, still_of}
use Rattle.rt_peer.proofs.views.Watched.turn.Goals as goal

pub returns-then-leaves_part-clause-of : goal.returns-then-leaves_part-clause-of
returns-then-leaves_part-clause-of c =
    let t = c.args.write.now.before in
    let es = c.args.entries.now in
    still_of t c.args.write.now.after es c.args.heard.now c.args.self.now c.requires.made
    (ap (λ p. leaves_part t p es) (sym c.path.ensures) ∙ sym c.leaves_part.ensures ∙ c.if-leaves_part.true) c.requires.of

pub returns-then-leaves_part-clause-told : goal.returns-then-leaves_part-clause-told
returns-then-leaves_part-clause-told c =
    let t = c.args.write.now.before in
    let es = c.args.entries.now in
    still_none t c.args.write.now.after es c.args.heard.now c.requires.made
    (ap (λ p. leaves_part t p es) (sym c.path.ensures) ∙ sym c.leaves_part.ensures ∙ c.if-leaves_part.true)

pub returns-then-is_empty-clause-of : goal.returns-then-is_empty-clause-of
returns-then-is_empty-clause-of c =
    quiet_of c.args.write.now.before c.args.write.now.after c.args.heard.now c.args.self.now c.show.new.view c.requires.of
    c.in_ok-changes.ensures.of _ refl refl (sym c.in_ok-changes.ensures.told ∙ c.is_empty.ensures.0 c.if-is_empty.true)

pub returns-then-is_empty-clause-told : goal.returns-then-is_empty-clause-told
returns-then-is_empty-clause-told c =
    quiet_none c.args.write.now.before c.args.write.now.after c.args.heard.now c.args.self.now c.show.new.view c.requires.of
    c.in_ok-changes.ensures.of (sym c.in_ok-changes.ensures.told ∙ c.is_empty.ensures.0 c.if-is_empty.true)

pub returns-then-is_same-clause-of : goal.returns-then-is_same-clause-of
returns-then-is_same-clause-of c =
    let old = c.args.self.now in
    let e : tree_eq old.shown c.in_ok-shown.shown ≡ true = search rules in
    shown_so c.args.write.now.before c.args.write.now.after c.args.heard.now old c.show.new.view c.requires.of
    c.in_ok-changes.ensures.of _ refl
    (c.requires.of.shown ∙ equal_seen c.args.write.now.before c.args.write.now.after c.args.heard.now old c.show.new.view c.requires.of
    c.in_ok-changes.ensures.of c.in_ok-shown.shown c.in_ok-shown.ensures e)

pub returns-then-is_same-clause-told : goal.returns-then-is_same-clause-told
returns-then-is_same-clause-told c =
    let old = c.args.self.now in
    let e : tree_eq old.shown c.in_ok-shown.shown ≡ true = search rules in
    told_none c.args.write.now.before c.args.write.now.after c.args.heard.now
    (equal_seen c.args.write.now.before c.args.write.now.after c.args.heard.now old c.show.new.view c.requires.of
    c.in_ok-changes.ensures.of c.in_ok-shown.shown c.in_ok-shown.ensures e)

pub returns-clause-of : goal.returns-clause-of
returns-clause-of c =
    shown_so c.args.write.now.before c.args.write.now.after c.args.heard.now c.args.self.now c.show.new.view c.requires.of
    c.in_ok-changes.ensures.of _ refl
    (c.in_ok-self.ensures ∙ now_shown c.args.write.now.before c.args.write.now.after c.args.heard.now c.args.self.now c.show.new.view
    c.requires.of c.in_ok-changes.ensures.of c.in_ok-shown.shown c.in_ok-shown.ensures)

pub returns-clause-told : goal.returns-clause-told
returns-clause-told c =
    let old = c.args.self.now in
    let e : tree_eq old.shown c.in_ok-shown.shown ≡ false = search rules in
    other_told c.args.write.now.before c.args.write.now.after c.args.heard.now old c.show.new.view c.requires.of
    c.in_ok-changes.ensures.of c.in_ok-shown.shown c.in_ok-shown.ensures e
