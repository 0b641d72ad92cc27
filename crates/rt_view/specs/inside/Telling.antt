-- What is told of the noted children, each found once.
use Rattle.std.specs.Prelude.{◌≡◌, ◌≤◌, Bool, false, not, ◌&&◌, ◌||◌, if◌then◌else◌, List, [], map, Option}
use Rattle.std.specs.Prelude.{Some, None, IfSome, T}
use Rattle.std.specs.List.{All, filter, fold}
use Rattle.std.specs.Ordering.{is_eq}
use Rattle.std.specs.FinMap as map_of
use Rattle.std.specs.FinMap.Entries.{find, is_sorted}
use Rattle.std.specs.Option.{option_map_or}
use Rattle.rt_tree.specs.PathTree.{Key, PathTree, key_cmp, is_null, levels, child_of}
use Rattle.rt_tree.specs.Children.{children_of}
use Rattle.rt_order.specs.declared.index.Index.{Index}
use Rattle.rt_order.specs.Entries.{Entry, entry, entry_cmp, sort_value}
use Rattle.rt_order.specs.Values.{value_cmp}
use Rattle.rt_query.specs.Queries.{Query}
use Rattle.rt_view.specs.declared.seen.Seen.{Seen}
use Rattle.rt_view.specs.declared.seen.Told.{Told}
use Rattle.rt_view.specs.declared.window.Turned.{Turned}
use Rattle.rt_view.specs.declared.change.Change.{Change}
use Rattle.rt_view.specs.declared.change.Kind.{Kind}
use Rattle.rt_view.specs.inside.Given.{change_of, is_given}
use Rattle.rt_view.specs.inside.ViewIndex.{Notes, NotesAll, taken_out}
use Rattle.rt_view.specs.inside.Turns.{Values, shown_if}
use Rattle.rt_view.specs.inside.Windows.{Entries, before, value_at}

-- ---- a child that comes

-- whether it takes the place of the one that stood at its key
abbrev pub takes_place : Index → PathTree → PathTree → Bool
takes_place index old new =
    not (is_null new) && is_eq (value_cmp (sort_value index old) (sort_value index new))

-- the child that stood at a key is taken out, where the one that comes doesn't take its place
abbrev pub left_by : Query → Key → Option PathTree → PathTree → Entries → Entries
left_by q k None new es = es
left_by q k (Some t) new es = if takes_place q.index t new then es else taken_out q k (Some t) es

-- ---- what was shown, and what is shown now

abbrev pub keys_in : List Seen → List Key
keys_in seen = map (λ s. s.key) seen

-- it was shown of a tree, and is shown now
abbrev pub IsSeen : PathTree → Entries → Seen → Type 0
IsSeen t shown s = (s.old ≡ child_of (children_of t) s.key) × (s.new ≡ value_at shown s.key)

-- what is shown now is not null, and fits below a key
abbrev pub IsFit : Seen → Type 0
IsFit s = IfSome s.new (λ t. (is_null t ≡ false) × (levels t ≤ 32))

-- what is shown now
abbrev pub IsNew : Entries → Seen → Type 0
IsNew shown s = s.new ≡ value_at shown s.key

-- what was shown of a tree and what is shown now, where under other keys than these the same is shown
pub record AreSeen (index : Index) (t : PathTree) (shown : Entries) (seen : List Seen) : Type 0 where
  pub each : All (IsSeen t shown) seen
  pub notes : NotesAll index (keys_in seen) t shown

-- ---- what is kept by each key under which something else is shown

-- what was shown under a key, and what is shown there now
abbrev pub seen_at : Values → Values → Key → Seen
seen_at old new k = record { key = k; old = old k; new = new k }

-- what is kept says what was and is shown at its key
abbrev pub IsSeenOf : Entries → Entries → Seen → Type 0
IsSeenOf before after s = s ≡ seen_at (value_at before) (value_at after) s.key

-- all that is shown otherwise
pub record AllSeen (before after : Entries) (seen : List Seen) : Type 0 where
  pub each : All (IsSeenOf before after) seen
  pub notes : Notes [] (keys_in seen) before after

-- under one key more another child is shown, or none, in place of this one; what was shown there first stays
abbrev pub seen_too : Key → Option PathTree → Option PathTree → List (Key × Seen) → List (Key × Seen)
seen_too k old new es = map_of.put key_cmp k
    (record { key = k; old = option_map_or (λ s. s.old) (find key_cmp k es) old; new = new }) es

-- with a child that crossed in, or out
abbrev pub seen_in : Option (Key × PathTree) → List (Key × Seen) → List (Key × Seen)
seen_in None es = es
seen_in (Some c) es = seen_too c.0 None (Some c.1) es

abbrev pub seen_out : Option (Key × PathTree) → List (Key × Seen) → List (Key × Seen)
seen_out None es = es
seen_out (Some c) es = seen_too c.0 (Some c.1) None es

-- with a child that came to a key, where this one left
abbrev pub seen_turned : Key → Option PathTree → PathTree → Turned → Turned
    → List (Key × Seen) → List (Key × Seen)
seen_turned k old new left came es = seen_out came.crossed
    (seen_too k (if left.was || came.was then old else None) (shown_if came.is new) (seen_in left.crossed es))

-- with what is noted one after another: of what was shown under a key the first counts, of what is shown the last
abbrev pub kept_by : List Seen → List (Key × Seen)
kept_by seen = fold (λ es s. seen_too s.key s.old s.new es) [] seen

-- what is kept by a key says what was and is shown there; where nothing is kept that is the same
abbrev pub IsKeptBy : Values → Values → Key → Option Seen → Type 0
IsKeptBy old new k None = new k ≡ old k
IsKeptBy old new k (Some s) = s ≡ seen_at old new k

pub record KeepsSeen (old new : Values) (es : List (Key × Seen)) : Type 0 where
  pub rises : T (is_sorted key_cmp es)
  pub each : (k : Key) → IsKeptBy old new k (find key_cmp k es)

-- ---- a child that is shown now

-- what was shown under its key, its value, and the key before it
abbrev pub told_of : PathTree → Entries → Entry × PathTree → Told
told_of old shown e = record {
  old = child_of (children_of old) e.0.1;
  new = e.1;
  after =
      before e.0 shown;
}

abbrev pub told_in : PathTree → Entries → Entries → List (Entry × Told)
told_in old shown es = map (λ e. (e.0, told_of old shown e)) es

-- children with their places, each put there
abbrev pub put_all : {V : Type 0} → List (Entry × V) → List (Entry × V)
put_all children = fold (λ es c. map_of.put entry_cmp c.0 c.1 es) [] children

-- the child that is shown under one more key, if there is one
abbrev pub told_too : Index → Key → Option PathTree → Entries → Option PathTree
    → List (Entry × Told) → List (Entry × Told)
told_too index k old shown None es = es
told_too index k old shown (Some v) es = map_of.put entry_cmp (entry index (k, v))
    (record { old = old; new = v; after = before (entry index (k, v)) shown }) es

-- the child that is gone from one more key, if there is one
abbrev pub gone_too : Index → Key → Option PathTree → Entries → Entries
gone_too index k None es = es
gone_too index k (Some v) es = map_of.put entry_cmp (entry index (k, v)) v es

-- the changes of one kind of these children
abbrev pub given_of : Kind → Index → List (Entry × Told) → List Change
given_of kind index es = map (λ e. change_of kind e.0.1 e.1.new e.1.after)
    (filter (λ e. is_given kind index e.1.old e.1.new) es)
