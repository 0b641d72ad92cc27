use Rattle.std.proofs.Common.{◌≡◌, ◌<◌, ◌++◌, ◌∷◌, [], map, ap, sym, ◌∙◌, subst}
use Rattle.std.specs.List.{All}
use Rattle.rt_writes.specs.inside.ByNumber.{write_of, writes_of}
use Rattle.rt_writes.specs.inside.Spots.{ForgetsAll, IsPending, KeepsTrees}
use Rattle.rt_writes.proofs.ByNumberLaws.{added_in, pending_with}
use Rattle.rt_writes.proofs.BackLaws.{whole_back}
use Rattle.rt_writes.proofs.pending.Pending.add_apart.Goals as goal

pub invariant_of-self-in-Ok : goal.invariant_of-self-in-Ok
invariant_of-self-in-Ok c =
    let ws = writes_of c.self.inside.writes in
    let low : All (λ w. w.id < c.args.id) ws = subst (All (λ w. w.id < c.args.id)) (sym c.self.view_is) c.requires.above in
    subst (λ vs. IsPending vs c.lay.new.merged)
    (sym (ap (λ es. map write_of es) c.in-Ok.ensures.entries ∙ added_in c.self.inside.writes.entries c.args.id c.args.entries low))
    (pending_with ws (write_of (c.args.id, c.args.entries)) c.self.inside.merged c.lay.new.merged c.self.invariant low
    c.requires.shallow c.requires.apart (c.in_ok-lay.ensures.laid ws c.self.invariant.tree))

pub returns-in-Ok-clause-added : goal.returns-in-Ok-clause-added
returns-in-Ok-clause-added c =
    ap (λ es. map write_of es) c.in-Ok.ensures.entries
    ∙ added_in c.self.inside.writes.entries c.args.id c.args.entries (subst (All (λ w. w.id < c.args.id)) (sym c.self.view_is) c.requires.above)
    ∙ ap (λ vs. vs ++ write_of (c.args.id, c.args.entries) ∷ []) c.self.view_is

pub invariant_of-self-in-Err : goal.invariant_of-self-in-Err
invariant_of-self-in-Err c =
    let ws = writes_of c.self.inside.writes in
    let low : All (λ w. w.id < c.args.id) ws = subst (All (λ w. w.id < c.args.id)) (sym c.self.view_is) c.requires.above in
    let back : c.as_slice.result.now ≡ c.args.entries = c.as_slice.ensures ∙ ap (λ y. y.1) c.in-Err.ensures.value_returned in
    subst (λ vs. IsPending vs c.forget_all.new.self) (sym (ap (λ es. map write_of es) c.in-Err.ensures.err)) (record {
      kept = c.self.invariant.kept;
      apart = c.self.invariant.apart;
      tree = whole_back ws c.lay.new.merged c.forget_all.new.self c.args.id c.args.entries c.self.invariant.kept.rises low
          (c.in_ok-lay.ensures.laid ws c.self.invariant.tree)
          (subst (λ v. ForgetsAll c.lay.new.merged c.forget_all.new.self v c.args.id) back c.forget_all.ensures.forgets)
          (subst (λ v. KeepsTrees c.lay.new.merged c.forget_all.new.self v c.args.id) back c.forget_all.ensures.trees);
    })
