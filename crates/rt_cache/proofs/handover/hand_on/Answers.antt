use Rattle.std.proofs.Common.{rules, ◌≡◌, ◌∙◌, ◌<◌, ◌+◌, ◌++◌, ◌∷◌, [], ap, sym, length, get_or, drop, List, subst, IfOk, Option, Some, None, append-nil}
use Rattle.std.specs.List.{cons_option}
use Rattle.std.specs.Option.{option_map}
use Rattle.rt_query.specs.Queries.{Query}
use Rattle.rt_cache.specs.Brought.{Window, base}
use Rattle.rt_cache.specs.Recover.{window_left, handed_on}
use Rattle.rt_cache.specs.declared.by_path.Lent.{Lent}
use Rattle.rt_cache.specs.inside.Handing.{lent_queries}
use Rattle.rt_cache.specs.inside.Held.{entry_of, entries_of, for_each, held}
use Rattle.rt_cache.proofs.Keeping.{one_more_left}
use Rattle.rt_cache.proofs.Lending.{lent_dropped}
use Rattle.rt_cache.proofs.Parts.{all_dropped}
use Rattle.rt_cache.proofs.handover.hand_on.Goals as goal
use Rattle.rt_cache.proofs.handover.hand_on.Goals.{in-Some+in_ok-push, in_default}

pub loop-heir-preserved : goal.loop-heir-preserved
loop-heir-preserved c =
    let f : Lent = c.heir-item.result in
    let q : Query = f.query.now in
    let within : c.loop-heir.heir-index < length c.args.heirs.now = search rules in
    let at : f ≡ get_or c.args.heirs.now c.loop-heir.heir-index f = search rules in
    let h : Query → Option Window = λ x. window_left (base (held c.args.registered.now c.args.regions.now c.args.windows.now) x) in
    let rest : List Query = lent_queries (drop (c.loop-heir.heir-index + 1) c.args.heirs.now) in
    let more : entries_of c.loop-heir.handed.items ++ cons_option (option_map (λ w. (q, w)) (h q)) (for_each h rest) ≡ for_each h (lent_queries c.args.heirs.now) =
    ap (λ qs. entries_of c.loop-heir.handed.items ++ for_each h qs) (sym (lent_dropped c.args.heirs.now c.loop-heir.heir-index f within at))
    ∙ c.loop-heir.invariant in
    let made : option_map entry_of c.in_ok-window.field-0 ≡ option_map (λ w. (q, w)) (h q) =
    subst (λ r. IfOk r (λ left. option_map entry_of left ≡ option_map (λ w. (q, w)) (h q))) c.in_ok-window.was c.window_of.ensures in
    let all = ap (λ o. entries_of c.loop-heir.handed.items ++ cons_option o (for_each h rest)) made ∙ more in
    elim c.match-branch-2.branch [
      | in-Some+in_ok-push w ↦
          let some : c.in_ok-window.field-0 ≡ Some w.in-Some.window = search rules in
          let pushed : c.match-branch-2.handed.items ≡ c.loop-heir.handed.items ++ w.in-Some.window ∷ [] = search rules in
          ap (λ ws. entries_of ws ++ for_each h rest) pushed
          ∙ one_more_left c.loop-heir.handed.items (Some w.in-Some.window) _ _
          (ap (λ o. entries_of c.loop-heir.handed.items ++ cons_option (option_map entry_of o) (for_each h rest)) (sym some) ∙ all)
      | in_default w ↦
          let none : c.in_ok-window.field-0 ≡ None = search rules in
          let same : c.match-branch-2.handed.items ≡ c.loop-heir.handed.items = search rules in
          ap (λ ws. entries_of ws ++ for_each h rest) (same ∙ sym (append-nil c.loop-heir.handed.items))
          ∙ one_more_left c.loop-heir.handed.items None _ _
          (ap (λ o. entries_of c.loop-heir.handed.items ++ cons_option (option_map entry_of o) (for_each h rest)) (sym none) ∙ all)
    ]

pub returns : goal.returns
returns c =
    sym (append-nil (entries_of c.loop-heir.handed.items))
    ∙ ap (λ (ls : List Lent). entries_of c.loop-heir.handed.items ++ handed_on (held c.args.registered.now c.args.regions.now c.args.windows.now) (lent_queries ls))
    (sym (all_dropped c.loop-heir.heir-index c.args.heirs.now c.loop-heir-test.false))
    ∙ c.loop-heir.invariant
