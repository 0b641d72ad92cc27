-- Runs of calls: what is brought after any list of them, and which are taken.
use Rattle.std.specs.Prelude.{⊤, ◌≡◌, ◌+◌, ◌≤◌, Bool, true, false, not, List, [], ◌∷◌, length}
use Rattle.std.specs.List.{fold, All, Contains}
use Rattle.rt_tree.specs.PathTree.{levels}
use Rattle.rt_tree.specs.declared.limits.TheConstants.{MAX_LEVELS}
use Rattle.rt_tree.specs.Assignments.{is_at_or_above}
use Rattle.rt_cache.specs.Brought.{Brought, may_put, push, is_without_window}
use Rattle.rt_cache.specs.Recover.{do_plains_overlap, recover}
use Rattle.rt_cache.specs.declared.run.BroughtCall.{BroughtCall}
use Rattle.rt_cache.specs.declared.run.BroughtCall.TheVariants.{Put, Recover}

-- what a caller owes of a call alone: a push is at or under its query's path, and no deeper than
-- trees are; of the plain listens kept none is at or above another
abbrev pub IsAllowed : BroughtCall → Type 0
IsAllowed (Put q p t) = (is_at_or_above q.path p ≡ true) × (length p + levels t ≤ MAX_LEVELS)
IsAllowed (Recover registered kept) = do_plains_overlap kept ≡ false

-- what is brought after a call
abbrev pub after : Brought → BroughtCall → Brought
after b (Put q p t) = push q b (p, t)
after b (Recover registered kept) = recover registered kept b

-- what a caller owes besides: a push is on a listen that is kept, and the listens kept are registered
abbrev pub IsKept : Brought → BroughtCall → Type 0
IsKept b (Put q p t) = may_put b q ≡ true
IsKept b (Recover registered kept) = All (Contains registered) kept

-- all that a caller owes of calls, made one after another
abbrev pub AreAllowed : Brought → List BroughtCall → Type 0
AreAllowed b [] = ⊤
AreAllowed b (c ∷ cs) = IsAllowed c × IsKept b c × AreAllowed (after b c) cs

-- after calls, one after another
abbrev pub after_all : Brought → List BroughtCall → Brought
after_all b calls = fold after b calls

-- whether a call is taken: all are but a push that wants a window
abbrev pub takes : Brought → BroughtCall → Bool
takes b (Put q p t) = not (is_without_window b q (p, t))
takes b (Recover registered kept) = true

-- which of the calls are taken
abbrev pub taken_all : Brought → List BroughtCall → List Bool
taken_all b [] = []
taken_all b (c ∷ cs) = takes b c ∷ taken_all (after b c) cs
