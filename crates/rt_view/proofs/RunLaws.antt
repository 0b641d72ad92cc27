-- Runs of a view turn no view into the one that is shown.
use Rattle.std.proofs.Common.{◌≡◌, ℕ, suc, ◌+◌, ◌%◌, ◌^◌, List, [], ◌∷◌, length, true, refl, sym, ap, ◌∙◌, arith, Some, None}
use Rattle.std.proofs.Math.Nat.{mod-add-mod}
use Rattle.rt_tree.specs.PathTree.{PathTree}
use Rattle.rt_tree.specs.TreeEq.{tree_eq, tree_eq_tells}
use Rattle.rt_query.specs.Select.{select}
use Rattle.rt_query.specs.laws.Select.{select-distinct}
use Rattle.rt_view.specs.Changes.{changes, Turns}
use Rattle.rt_view.specs.Views.{View, first_view, renewed, shown_of, told}
use Rattle.rt_view.specs.laws.Runs.{Call, Renew, Touch, after, after_all, told_all, ReplayGivesShown, RunTurns, TurnsCountCalls, TouchReadsNamed}
use Rattle.rt_view.proofs.TurnLaws.{turns, turns_not, turns-append, changes-same}

-- a call turns what was shown before into what is shown after
turns_call : (v : View) (c : Call) → Turns (Some (shown_of v)) (told v (after v c)) (Some (shown_of (after v c)))
turns_call v (Renew t) = turns v.query.index (Some (shown_of v)) (shown_of (after v (Renew t))) (select-distinct v.query t)
turns_call v (Touch named) = turns v.query.index (Some (shown_of v)) (shown_of (after v (Touch named))) (select-distinct v.query _)

-- and so do calls
turns_calls : (v : View) (cs : List Call) → Turns (Some (shown_of v)) (told_all v cs) (Some (shown_of (after_all v cs)))
turns_calls v [] = turns_not (Some (shown_of v))
turns_calls v (c ∷ cs) = turns-append _ _ _ (told v (after v c)) (told_all (after v c) cs) (turns_call v c) (turns_calls (after v c) cs)

pub run_turns : RunTurns
run_turns q t cs =
    turns-append None (Some (select q t)) _ (changes q.index None (select q t)) (told_all (first_view q t) cs)
    (turns q.index None (select q t) (select-distinct q t)) (turns_calls (first_view q t) cs)

pub replay_shown : ReplayGivesShown
replay_shown q t cs = (run_turns q t cs).rows

-- a tree that is equal tells nothing
pub told_alike : (v : View) (t : PathTree) → tree_eq v.tree t ≡ true → [] ≡ told v (renewed v t)
told_alike v t e =
    let same : v.tree ≡ t = (tree_eq_tells v.tree t).0 e in
    sym (ap (λ u. changes v.query.index (Some (shown_of v)) (select v.query u)) (sym same) ∙ changes-same v.query.index (shown_of v) (select-distinct v.query v.tree))

-- ---- counts

one_more : (v : View) (c : Call) → (after v c).turns ≡ (v.turns + 1) % 2 ^ 64
one_more v (Renew t) = refl
one_more v (Touch named) = refl

counts : (v : View) (n : ℕ) (cs : List Call) → v.turns ≡ n % 2 ^ 64 → (after_all v cs).turns ≡ (n + length cs) % 2 ^ 64
counts v n [] e = let same : n ≡ n + 0 = omega arith in e ∙ ap (λ m. m % 2 ^ 64) same
counts v n (c ∷ cs) e =
    let here : (after v c).turns ≡ (n + 1) % 2 ^ 64 = one_more v c ∙ ap (λ m. (m + 1) % 2 ^ 64) e ∙ mod-add-mod n (2 ^ 64) 1 in
    let same : n + 1 + length cs ≡ n + suc (length cs) = omega arith in
    counts (after v c) (n + 1) cs here ∙ ap (λ m. m % 2 ^ 64) same

pub turns_count : TurnsCountCalls
turns_count q t cs = counts (first_view q t) 1 cs refl

pub reads_named : TouchReadsNamed
reads_named v [] named = refl
reads_named v (c ∷ cs) named = reads_named (after v c) cs named
