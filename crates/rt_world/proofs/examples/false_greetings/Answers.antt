use Rattle.std.proofs.Common.{Bool, true, false, true≢false, List, [], ◌∷◌, refl, sym, ap, subst}
use Rattle.rt_tree.specs.PathTree.{null, of_leaf, is_null, leaf_at, sub, put, with_children, children_alone, levels}
use Rattle.rt_tree.specs.Children.{children_of}
use Rattle.rt_tree.specs.TreeEq.{tree_eq}
use Rattle.rt_wire.specs.declared.client.ClientMessage.{ClientMessage}
use Rattle.rt_wire.specs.declared.client.ClientMessage.TheVariants.{Hello, Listen, Unlisten, Ask}
use Rattle.rt_world.specs.declared.step.Step.{Step}
use Rattle.rt_world.specs.World.{World}
use Rattle.rt_world.specs.Answers.{Answer}
use Rattle.rt_world.specs.Headline.{Headline, Moves, Sends}
use Rattle.rt_world.specs.laws.Script.{fresh}
use Rattle.rt_world.specs.laws.False.{offline, unsaid, said_late, said_once}
use Rattle.rt_world.proofs.examples.false_greetings.Goals as goal

-- a run of one step is that step
one_step : (old : World) (s : Step) (x : Answer) (new : World) → Headline old (s ∷ []) (x ∷ []) new → Moves old s x new
one_step old s x new h = let l = h.leads in subst (λ (v : World). Moves old s x v) (sym (l.2).0) l.1

-- whether messages begin with a version
greets : ClientMessage → Bool
greets (Hello version) = true
greets (Listen tag query) = false
greets (Unlisten tag) = false
greets (Ask id asked) = false

begins : List ClientMessage → Bool
begins [] = false
begins (m ∷ rest) = greets m

-- no messages are not one
pub returns-clause-never : goal.returns-clause-never
unfolding null of_leaf is_null leaf_at sub put with_children children_alone levels children_of tree_eq begins greets
returns-clause-never c = λ answer h.
    let m : Moves fresh Step.Connected answer unsaid = one_step fresh Step.Connected answer unsaid h in
    let sends : Sends fresh Step.Connected unsaid = m.sends refl in
    true≢false (sym (ap begins sends.outgoing))

pub returns-clause-late : goal.returns-clause-late
unfolding null of_leaf is_null leaf_at sub put with_children children_alone levels children_of tree_eq begins greets
returns-clause-late c = λ answer h.
    let m : Moves offline Step.Connected answer said_late = one_step offline Step.Connected answer said_late h in
    let sends : Sends offline Step.Connected said_late = m.sends refl in
    true≢false (sym (ap begins sends.outgoing))

pub returns-clause-once : goal.returns-clause-once
unfolding null of_leaf is_null leaf_at sub put with_children children_alone levels children_of tree_eq begins greets
returns-clause-once c = λ answer h.
    let m : Moves offline Step.Connected answer said_once = one_step offline Step.Connected answer said_once h in
    let sends : Sends offline Step.Connected said_once = m.sends refl in
    true≢false (sym (ap begins sends.outgoing))
