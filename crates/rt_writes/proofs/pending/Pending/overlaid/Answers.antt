use Rattle.std.proofs.Common.{◌≡◌, ◌==◌, Some, None, sym, ◌∙◌, subst}
use Rattle.std.specs.List.{All, find, fold, filter}
use Rattle.std.proofs.lemmas.Result.{IfOk-weaker, on_err_weaker}
use Rattle.rt_writes.specs.Writes.{IsShallow, overlay, overlaid}
use Rattle.rt_writes.specs.inside.ByNumber.{write_of, writes_of}
use Rattle.rt_writes.proofs.NumberLaws.{no_write, one_write, touches_found, rising_pending}
use Rattle.rt_writes.proofs.ByNumberLaws.{all_found, found_at, found_none}
use Rattle.rt_writes.proofs.pending.Pending.overlaid.Goals as goal

pub overlaid-requires-clause-entries : goal.overlaid-requires-clause-entries
overlaid-requires-clause-entries c =
    all_found (λ w. All IsShallow w.entries) (writes_of c.self.inside.writes) c.args.id (write_of (c.args.id, c.in-Some.entries.now))
    c.self.invariant.kept.shallow
    (found_at c.self.inside.writes.entries c.args.id c.in-Some.entries.now c.in-Some.ensures.value)

pub returns-in-Some-clause-overlay : goal.returns-in-Some-clause-overlay
returns-in-Some-clause-overlay c =
    let found : find (λ w. w.id == c.args.id) c.args.self.now ≡ Some (write_of (c.args.id, c.in-Some.entries.now)) =
    subst (λ ws. find (λ w. w.id == c.args.id) ws ≡ Some (write_of (c.args.id, c.in-Some.entries.now))) c.self.view_is
    (found_at c.self.inside.writes.entries c.args.id c.in-Some.entries.now c.in-Some.ensures.value) in
    IfOk-weaker c.overlaid.result
    (λ after. after ≡ fold (overlaid c.args.path.now) c.args.tree c.in-Some.entries.now)
    (λ after. after ≡ overlay c.args.path.now c.args.tree (filter (λ w. w.id == c.args.id) c.args.self.now))
    (λ after e. e ∙ sym (one_write c.args.path.now c.args.tree c.args.self.now c.args.id (write_of (c.args.id, c.in-Some.entries.now))
    (rising_pending (writes_of c.self.inside.writes) c.args.self.now c.self.inside.merged c.self.invariant c.self.view_is) found))
    c.overlaid.ensures.overlaid

pub returns-in-Some-clause-touched : goal.returns-in-Some-clause-touched
returns-in-Some-clause-touched c =
    let found : find (λ w. w.id == c.args.id) c.args.self.now ≡ Some (write_of (c.args.id, c.in-Some.entries.now)) =
    subst (λ ws. find (λ w. w.id == c.args.id) ws ≡ Some (write_of (c.args.id, c.in-Some.entries.now))) c.self.view_is
    (found_at c.self.inside.writes.entries c.args.id c.in-Some.entries.now c.in-Some.ensures.value) in
    on_err_weaker c.overlaid.result
    (λ e. touches_found c.args.self.now c.args.path.now c.args.id (write_of (c.args.id, c.in-Some.entries.now)) found e)
    c.overlaid.ensures.touched

pub returns-in-None-clause-overlay : goal.returns-in-None-clause-overlay
returns-in-None-clause-overlay c =
    let none : find (λ w. w.id == c.args.id) c.args.self.now ≡ None =
    subst (λ ws. find (λ w. w.id == c.args.id) ws ≡ None) c.self.view_is
    (found_none c.self.inside.writes.entries c.args.id c.in-None.ensures.value) in
    sym (no_write c.args.path.now c.args.tree c.args.self.now c.args.id none)
