-- What any pushes and changes of cover leave for a query, told by the calls alone: which query holds
-- known children, from which of them a query is shown, and to which they go when their holder ends.
use Rattle.std.specs.Prelude.{◌≡◌, Bool, true, false, not, ◌&&◌, if◌then◌else◌, List, [], ◌∷◌, ◌++◌}
use Rattle.std.specs.Prelude.{Option, Some, None, is_some}
use Rattle.std.specs.List.{All, fold, find, list_any}
use Rattle.std.specs.Option.{option_map, option_map_or, option_or, option_and_then}
use Rattle.rt_tree.specs.PathTree.{Path, PathTree, path_eq, strip, sub, put, children_alone}
use Rattle.rt_tree.specs.Assignments.{is_at_or_above}
use Rattle.rt_query.specs.Queries.{Query, is_filtered}
use Rattle.rt_query.specs.QueryEq.{query_eq}
use Rattle.rt_query.specs.Supply.{does_supply}
use Rattle.rt_cache.specs.Brought.{Brought, Base, nothing_brought, with_form, source, base}
use Rattle.rt_cache.specs.Canonical.{IsCanonical, Belongs}
use Rattle.rt_cache.specs.Recover.{reaches, recover}
use Rattle.rt_cache.specs.Runs.{AreAllowed, after_all}
use Rattle.rt_cache.specs.laws.Runs.{pushed, is_known}
use Rattle.rt_cache.specs.declared.run.BroughtCall.{BroughtCall}
use Rattle.rt_cache.specs.declared.run.BroughtCall.TheVariants.{Put, Recover}

-- ---- who is shown from whom

-- the children that each query holds of its own, and whether these are all that its path has
abbrev pub Held : Type 0
Held = Query → Option Base

-- the forms that are registered behind calls
abbrev pub with_forms : List Query → BroughtCall → List Query
with_forms forms (Put r p t) = forms
with_forms forms (Recover registered kept) = registered

abbrev pub registered_by : List BroughtCall → List Query
registered_by calls = fold with_forms [] calls

-- whether f holds children that q may be shown from: f is q, or a range that takes in q's
abbrev pub may_show : Held → Query → Query → Bool
may_show held q f = does_supply f q && is_some (held f)

-- whose children q is shown from: those of the first registered form that holds such
abbrev pub shown_from : Held → List Query → Query → Option Query
shown_from held registered q = find (may_show held q) registered

-- what is seen of q behind calls: while a plain listen's push is known, the part at its path of all
-- that these pushed, whole; else the children it is shown from, as whole as they are held
abbrev pub seen : List BroughtCall → Held → Query → Option Base
seen calls held q =
    if is_known calls q.path
    then Some (record { tree = sub (pushed calls) q.path; whole = true })
    else option_and_then held (shown_from held (registered_by calls) q)

-- ---- what is handed on

-- whether a filtered query is left nothing by a change of cover, of what was seen of it: no plain
-- listen's push stays known, and no registered form holds children that it may be shown from
abbrev pub loses : List BroughtCall → Held → List Query → List Query → Query → Bool
loses before held registered kept q =
    is_filtered q && is_some (seen before held q)
    && not (is_known before q.path && reaches kept q.path)
    && not (list_any (may_show held q) registered)

-- whether what was seen of it is handed on to q: it loses that and is registered, and no other
-- registered form that loses what was seen of it takes in q
abbrev pub inherits : List BroughtCall → Held → List Query → List Query → Query → Bool
inherits before held registered kept q =
    loses before held registered kept q
    && list_any (λ f. query_eq f q) registered
    && not (list_any (λ f. not (query_eq f q) && does_supply f q
    && loses before held registered kept f) registered)

-- its children, as whole as it was
abbrev pub children_of : Base → Base
children_of b = record b { tree = children_alone b.tree }

-- ---- what is held

-- what q holds from a call on, behind the calls before it: of a push on its listen at its path the
-- children, not whole; of a change of cover what is handed on to it, as whole as it was
abbrev pub begun : List BroughtCall → Held → BroughtCall → Query → Option Base
begun before held (Put r p t) q =
    if is_filtered q && query_eq r q && path_eq p q.path
    then Some (record { tree = children_alone t; whole = false })
    else None
begun before held (Recover registered kept) q =
    if inherits before held registered kept q then option_map children_of (seen before held q) else None

-- whether a call puts an end to what q held: a push at its path on its listen, or on a range's that
-- takes it in, one on a plain listen at or above its path, or a change of cover that leaves it unregistered
abbrev pub ends : Query → BroughtCall → Bool
ends q (Put r p t) = if is_filtered r then does_supply r q && path_eq p r.path else is_at_or_above p q.path
ends q (Recover registered kept) = not (list_any (λ f. query_eq f q) registered)

-- the children with what a call pushes on q's listen below its path, and with what calls push
abbrev pub with_own : Query → PathTree → BroughtCall → PathTree
with_own q t (Put r p u) =
    if query_eq r q then option_map_or (λ rest. put t rest u) (strip q.path p) t else t
with_own q t (Recover registered kept) = t

abbrev pub with_all_own : Query → PathTree → List BroughtCall → PathTree
with_all_own q t calls = fold (with_own q) t calls

abbrev pub with_pushed : Query → BroughtCall → Base → Base
with_pushed q c b = record b { tree = with_own q b.tree c }

-- what each query holds behind one more call: what that begins; else what it held, with what is pushed
-- on its listen, unless the call ends it
abbrev pub held_after : List BroughtCall → Held → BroughtCall → Held
held_after before held c q =
    option_or (begun before held c q)
    (if ends q c then None else option_map (with_pushed q c) (held q))

-- behind later calls, and behind all of them: before the first call nothing is held
abbrev pub held_from : List BroughtCall → Held → List BroughtCall → Held
held_from before held [] = held
held_from before held (c ∷ later) = held_from (before ++ c ∷ []) (held_after before held c) later

abbrev pub held_by : List BroughtCall → Held
held_by calls = held_from [] (λ q. None) calls

-- ---- the laws

-- after any calls the base of a query is what is seen of it by them
abbrev pub BaseIsSeen : Type 0
BaseIsSeen = (calls : List BroughtCall) (q : Query) → AreAllowed nothing_brought calls →
    base (after_all nothing_brought calls) q ≡ seen calls (held_by calls) q

-- and its source is the form that it is shown from, where no plain listen's push is known
abbrev pub SourceIsHolder : Type 0
SourceIsHolder = (calls : List BroughtCall) (q : Query) → AreAllowed nothing_brought calls →
    source (after_all nothing_brought calls) q
    ≡ if is_known calls q.path then None else shown_from (held_by calls) (registered_by calls) q

-- whether none of the calls ends what q holds
abbrev pub lets_be : Query → List BroughtCall → Bool
lets_be q calls = not (list_any (ends q) calls)

-- what a call began, and none put an end to, is held still: with what was pushed on q's listen since,
-- as whole as it was begun
abbrev pub HeldSinceBegun : Type 0
HeldSinceBegun = (before later : List BroughtCall) (c : BroughtCall) (q : Query) (b : Base) →
    begun before (held_by before) c q ≡ Some b → lets_be q later ≡ true →
    held_by (before ++ c ∷ later) q ≡ Some (record b { tree = with_all_own q b.tree later })

-- nothing else is held
abbrev pub HeldIsBegun : Type 0
HeldIsBegun = (calls : List BroughtCall) (q : Query) →
    ((before later : List BroughtCall) (c : BroughtCall) → calls ≡ before ++ c ∷ later → lets_be q later ≡ true
    → begun before (held_by before) c q ≡ None) →
    held_by calls q ≡ None

-- what is handed on to a query is seen of it as before: the same children, as whole
abbrev pub HandedOnIsSeen : Type 0
HandedOnIsSeen = (calls : List BroughtCall) (registered kept : List Query) (q : Query) →
    AreAllowed nothing_brought (calls ++ Recover registered kept ∷ []) →
    inherits calls (held_by calls) registered kept q ≡ true →
    base (after_all nothing_brought (calls ++ Recover registered kept ∷ [])) q
    ≡ option_map children_of (base (after_all nothing_brought calls) q)

-- where a form is registered, the same is brought as after a change of cover that has it besides, and
-- that loses no region
abbrev pub RegisteringIsAChange : Type 0
RegisteringIsAChange = (b : Brought) (f : Query) (kept : List Query) → IsCanonical b → Belongs b →
    All (λ (r : Path × PathTree). reaches kept r.0 ≡ true) b.regions →
    recover (b.registered ++ f ∷ []) kept b ≡ with_form f b

-- after any calls a query that has another form's window has just what that form has
abbrev pub SuppliedHasTheSame : Type 0
SuppliedHasTheSame =
    (calls : List BroughtCall) (q f : Query) → AreAllowed nothing_brought calls
    → let b = after_all nothing_brought calls in
    source b q ≡ Some f → base b q ≡ base b f
