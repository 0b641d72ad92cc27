-- The server pushes: a tree at a path, several trees on one listen, or several parts, each on its own
-- listen. All of these are parts in one step.
use Rattle.std.specs.Prelude.{Bool, true, false, ◌==◌, ◌||◌, not, List, [], ◌∷◌}
use Rattle.std.specs.List.{list_all, list_any}
use Rattle.std.specs.Option.{option_map_or}
use Rattle.rt_tree.specs.Assignments.{Assignment, is_at_or_above, have_overlap}
use Rattle.rt_cache.specs.Brought.{is_without_window}
use Rattle.rt_world.specs.declared.error.CoreError.TheVariants.{TooDeep, BadPush, NotConnected}
use Rattle.rt_world.specs.World.{World, listen_of}
use Rattle.rt_world.specs.steps.Kind.{Kind, Part, quiet, stands_too_deep}

-- the paths of a push on a kept tag are at or under its path
abbrev pub is_within_listen : World → Part → Bool
is_within_listen w p =
    option_map_or (λ q. list_all (λ a. is_at_or_above q.path a.0) p.1) (listen_of w p.0) true

-- no entries, or two of which one is at or above the other
abbrev pub is_no_merge : List Assignment → Bool
is_no_merge [] = true
is_no_merge (a ∷ rest) = have_overlap (a ∷ rest)

-- a part is bad where a path is outside the kept tag's, or its entries are none or overlap
abbrev pub is_bad_part : World → Part → Bool
is_bad_part w p = not (is_within_listen w p) || is_no_merge p.1

-- no parts, or two of one tag
abbrev pub has_tag_twice : List Part → Bool
has_tag_twice [] = false
has_tag_twice (p ∷ rest) = list_any (λ r. r.0 == p.0) rest || has_tag_twice rest

abbrev pub is_no_push : List Part → Bool
is_no_push [] = true
is_no_push (p ∷ rest) = has_tag_twice (p ∷ rest)

-- a part changes nothing where its tag is not kept, or all its entries want a window
abbrev pub is_idle : World → Part → Bool
is_idle w p =
    option_map_or (λ q. list_all (is_without_window w.brought q) p.1) (listen_of w p.0) true

-- parts, each on the listen with its tag; refused where a leaf would stand too deep, there are no parts
-- or two of one tag, or one is bad; stale where each of them changes nothing
abbrev pub push_of : List Part → Kind
push_of parts = record quiet {
  parts = parts;
  refusals = TooDeep ∷ BadPush ∷ NotConnected ∷ [];
  is_too_deep = list_any (λ p. list_any stands_too_deep p.1) parts;
  is_bad_push = λ w. is_no_push parts || list_any (is_bad_part w) parts;
  needs_connection = true;
  is_stale = λ w. list_all (is_idle w) parts;
}
