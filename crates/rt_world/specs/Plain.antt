-- Plain listens: what their steps write and bring, said by the steps and the answers alone.
use Rattle.std.specs.Prelude.{◌≡◌, ℕ, ◌≤◌, false, List, [], ◌∷◌, ◌++◌, length, Option, Some, None, Ok, Err}
use Rattle.std.specs.List.{fold}
use Rattle.std.specs.Option.{option_map_or}
use Rattle.rt_tree.specs.Assignments.{Assignment}
use Rattle.rt_query.specs.Queries.{is_filtered}
use Rattle.rt_query.specs.Supply.{form}
use Rattle.rt_writes.specs.Writes.{Write, without}
use Rattle.rt_cache.specs.Brought.{Brought, with_form, push_plain}
use Rattle.rt_cover.specs.Runs.{Change, Add, Remove, Revoke}
use Rattle.rt_wire.specs.declared.request.Asked.{Asked}
use Rattle.rt_wire.specs.declared.request.Asked.TheVariants.{Now, AtDisconnect}
use Rattle.rt_world.specs.declared.report.Outcome.{Outcome}
use Rattle.rt_world.specs.declared.report.Outcome.TheVariants.{Done, Stale}
use Rattle.rt_world.specs.declared.step.Step.{Step}
use Rattle.rt_world.specs.World.{World, entries_of}
use Rattle.rt_world.specs.After.{kind}
use Rattle.rt_world.specs.Answers.{Answer}
use Rattle.rt_world.specs.Covering.{change_by}

-- a change that loses no plain listen: a listener is registered with a query that is not filtered, or
-- nothing changes
abbrev pub IsPlainChange : Option Change → Type 0
IsPlainChange None = Unit {0}
IsPlainChange (Some (Add number query)) = is_filtered query ≡ false
IsPlainChange (Some (Remove numbers)) = ⊥
IsPlainChange (Some (Revoke tag)) = ⊥

-- the steps of plain listens that are not lost; a push of several parts is none, since its answer does
-- not tell which of them were on kept listens
abbrev pub IsPlainStep : Step → Type 0
IsPlainStep s = ((w : World) → IsPlainChange (change_by w s)) × (length (kind s).parts ≤ 1)

-- the first where the step is done, else the second
abbrev pub if_done : {X : Type 0} → Outcome → X → X → X
if_done Done x y = x
if_done Stale x y = y

-- what two lists of as many elements make of a value, one pair after another
abbrev pub fold_both : {A B C : Type 0} → (C → A → B → C) → C → List A → List B → C
fold_both f c (x ∷ xs) (y ∷ ys) = fold_both f (f c x y) xs ys
fold_both f c _ _ = c

-- the pending writes after a write: it is the last, under the number that is given
abbrev pub with_write : List Write → List Assignment → Answer → List Write
with_write writes entries (Ok report) =
    option_map_or (λ id. writes ++ record { id = id; entries = entries } ∷ []) report.given writes
with_write writes entries (Err e) = writes

-- and after a settlement, if it came in time: without that of the number
abbrev pub with_settled : List Write → ℕ → Answer → List Write
with_settled writes id (Ok report) = if_done report.outcome (without id writes) writes
with_settled writes id (Err e) = writes

-- the pending writes after what a seat asks for: a write is one, and an action at the end of the
-- connection is none
abbrev pub with_asked : List Write → Asked → Answer → List Write
with_asked writes (Now action) answer = with_write writes (entries_of action) answer
with_asked writes (AtDisconnect ending) answer = writes

-- the pending writes after a step, by its answer
abbrev pub writes_by : List Write → Step → Answer → List Write
writes_by ws s answer =
    option_map_or
    (λ d. with_settled ws d.0 answer)
    (kind s).settled
    (option_map_or (λ a. with_asked ws a.1 answer) (kind s).asked ws)

-- what is brought, with the form of a new listener
abbrev pub with_new : Brought → Step → Brought
with_new b (Step.Listen seat query) = with_form (form query) b
with_new b s = b

-- what is brought once a step's new form and its pushes are taken in; the listens are plain
abbrev pub taken_in : Brought → Step → Brought
taken_in b s = fold (λ c p. fold push_plain c p.1) (with_new b s) (kind s).parts

-- what is brought after a step, by its answer: none of the plain listens is lost
abbrev pub brought_by : Brought → Step → Answer → Brought
brought_by b s (Ok report) = if_done report.outcome (taken_in b s) b
brought_by b s (Err e) = b
