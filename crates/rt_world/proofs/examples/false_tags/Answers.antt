use Rattle.std.proofs.Common.{◌≡◌, ℕ, ◌<◌, ◌≤◌, List, [], ◌∷◌, length, refl, sym, ap, subst, arith}
use Rattle.rt_tree.specs.PathTree.{null, of_leaf, is_null, leaf_at, sub, put, with_children, children_alone, levels}
use Rattle.rt_tree.specs.Children.{children_of}
use Rattle.rt_tree.specs.TreeEq.{tree_eq}
use Rattle.rt_query.specs.Queries.{plain}
use Rattle.rt_cover.specs.Cover.{Tagged}
use Rattle.rt_world.specs.declared.step.Step.{Step}
use Rattle.rt_world.specs.World.{World}
use Rattle.rt_world.specs.Messages.{next}
use Rattle.rt_world.specs.Answers.{Answer, step}
use Rattle.rt_world.specs.Headline.{Headline, Keeps, Moves, Sends}
use Rattle.rt_world.specs.laws.Script.{num}
use Rattle.rt_world.specs.laws.False.{a, connected, listening, offline, three, spent, bare, set_a, noisy, mistagged, restarted, retagged, swapped, lagging}
use Rattle.rt_world.proofs.examples.false_tags.Goals as goal

-- a run of one step is that step
one_step : (old : World) (s : Step) (x : Answer) (new : World) → Headline old (s ∷ []) (x ∷ []) new → Moves old s x new
one_step old s x new h = let l = h.leads in subst (λ (v : World). Moves old s x v) (sym (l.2).0) l.1

-- the first listen's tag
first : List Tagged → ℕ
first [] = 0
first (k ∷ ks) = k.tag

-- four messages are not two
pub returns-clause-listen : goal.returns-clause-listen
unfolding null of_leaf is_null leaf_at sub put with_children children_alone levels children_of tree_eq
returns-clause-listen c = λ answer h.
    let m : Moves connected set_a answer noisy = one_step connected set_a answer noisy h in
    let sends : Sends connected set_a noisy = m.sends refl in
    let same : ◌≡◌ {A = ℕ} 4 2 = ap length sends.outgoing in
    absurd (omega (arith, same))

-- 77 is not 1
pub returns-clause-tag : goal.returns-clause-tag
unfolding null of_leaf is_null leaf_at sub put with_children children_alone levels children_of tree_eq first
returns-clause-tag c = λ answer h.
    let m : Moves connected (Step.Listen 1 (plain a)) answer mistagged = one_step connected (Step.Listen 1 (plain a)) answer mistagged h in
    let keeps : Keeps connected mistagged = m.keeps refl in
    let same : ◌≡◌ {A = ℕ} 77 1 = ap first keeps.kept in
    absurd (omega (arith, same))

-- the listen stays, under its tag
pub returns-clause-restart : goal.returns-clause-restart
unfolding null of_leaf is_null leaf_at sub put with_children children_alone levels children_of tree_eq first
returns-clause-restart c = λ answer h.
    let m : Moves listening (Step.Data 1 a (num 7)) answer restarted = one_step listening (Step.Data 1 a (num 7)) answer restarted h in
    let keeps : Keeps listening restarted = m.keeps refl in
    let same : ◌≡◌ {A = ℕ} 9007199254740992 1 = ap first keeps.kept in
    absurd (omega (arith, same))

pub returns-clause-changed : goal.returns-clause-changed
unfolding null of_leaf is_null leaf_at sub put with_children children_alone levels children_of tree_eq first
returns-clause-changed c = λ answer h.
    let m : Moves offline set_a answer retagged = one_step offline set_a answer retagged h in
    let keeps : Keeps offline retagged = m.keeps refl in
    let same : ◌≡◌ {A = ℕ} 2 1 = ap first keeps.kept in
    absurd (omega (arith, same))

-- listener 3 is not below listener 2
pub returns-clause-order : goal.returns-clause-order
unfolding null of_leaf is_null leaf_at sub put with_children children_alone levels children_of tree_eq
returns-clause-order c = λ answer h.
    let m : Moves three (Step.Unlisten 1 1) answer swapped = one_step three (Step.Unlisten 1 1) answer swapped h in
    let keeps : Keeps three swapped = m.keeps refl in
    let there : 1 < 2 = omega arith in
    let less : 3 < 2 = keeps.order 0 1 (record { tag = 0; query = plain a; listener = 0 }) (omega arith) there in
    absurd (omega (arith, less))

-- the next tag is 2
pub returns-clause-next : goal.returns-clause-next
unfolding null of_leaf is_null leaf_at sub put with_children children_alone levels children_of tree_eq
returns-clause-next c = λ answer h.
    let m : Moves connected (Step.Listen 1 (plain a)) answer lagging = one_step connected (Step.Listen 1 (plain a)) answer lagging h in
    let keeps : Keeps connected lagging = m.keeps refl in
    let same : ◌≡◌ {A = ℕ} 1 2 = keeps.next in
    absurd (omega (arith, same))

-- the end is refused, so that all stays
pub returns-clause-last : goal.returns-clause-last
unfolding null of_leaf is_null leaf_at sub put with_children children_alone levels children_of tree_eq
returns-clause-last c = λ answer h.
    let m : Moves spent (Step.Unlisten 1 2) answer (next spent (Step.Unlisten 1 2)) = one_step spent (Step.Unlisten 1 2) answer (next spent (Step.Unlisten 1 2)) h in
    let stays : next spent (Step.Unlisten 1 2) ≡ spent = m.made in
    let same : ◌≡◌ {A = ℕ} 4 3 = ap (λ (w : World). w.next_tag) stays in
    absurd (omega (arith, same))

-- 3 is above 2
pub returns-clause-lost : goal.returns-clause-lost
unfolding null of_leaf is_null leaf_at sub put with_children children_alone levels children_of tree_eq
returns-clause-lost c = λ answer h.
    let m : Moves bare set_a answer (step bare set_a).0 = one_step bare set_a answer (step bare set_a).0 h in
    let keeps : Keeps bare (step bare set_a).0 = m.keeps refl in
    let low : 3 ≤ 2 = keeps.last 0 (record { tag = 0; form = plain a }) (omega arith) in
    absurd (omega (arith, low))
