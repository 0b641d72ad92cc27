-- What is noted of a journal, and not written yet, and what is to be done at the end of connections.
use Rattle.std.specs.Prelude.{ℕ, ◌+◌, ◌-◌, ◌==◌, Bool, if◌then◌else◌, List, [], ◌∷◌, ◌++◌, length, Option}
use Rattle.std.specs.Prelude.{Some, None, decimal}
use Rattle.std.specs.BTreeMap.{insert_entry, is_at}
use Rattle.std.specs.List.{flat_map}
use Rattle.std.specs.Map.{lookup, remove_entry}
use Rattle.std.specs.Option.{option_map, option_map_or, unwrap_or}
use Rattle.std.specs.Ordering.{nat_cmp}
use Rattle.rt_journal.specs.Entries.{line_of}
use Rattle.rt_journal.specs.declared.book.Noted.{Noted}
use Rattle.rt_journal.specs.declared.book.Noted.TheVariants.{Write, AtEnd}

-- the lines that are not written yet; by connection the lines of what was asked for at its end, none of these
-- where that is being done; and how many connections' ends are under way
pub record Book : Type 0 where
  pub lines : List ℕ
  pub kept : List (ℕ × List ℕ)
  pub ending : ℕ

abbrev pub new_book : Book
new_book = record { lines = []; kept = []; ending = 0 }

-- the lines of what was asked for at that connection's end
abbrev pub kept_of : Book → ℕ → Option (List ℕ)
kept_of b n = lookup (is_at (nat_cmp n)) b.kept

-- a line more of a connection is kept
abbrev pub keeping : Book → ℕ → List ℕ → List (ℕ × List ℕ)
keeping b n line =
    insert_entry nat_cmp (remove_entry (is_at (nat_cmp n)) b.kept) n (unwrap_or (kept_of b n) [] ++ line)

-- an accepted request of a connection is noted
abbrev pub with_request : Book → ℕ → Noted → List ℕ → Book
with_request b n Write text = record b { lines = b.lines ++ line_of (n, Some text) }
with_request b n AtEnd text = record {
  lines = b.lines ++ line_of (n, Some text);
  kept = keeping b n (line_of (n, Some text));
  ending = b.ending;
}

-- whether that connection's end is under way: then no line of it is kept; none where nothing is to be done at its
-- end
abbrev pub is_ending : Book → ℕ → Option Bool
is_ending b n = option_map (λ lines. length lines == 0) (kept_of b n)

-- so many of what a connection asked for at its end were done: that is noted where something was to be done,
-- and what it asked for is kept no more
abbrev pub with_turn : Book → ℕ → ℕ → Book
with_turn b n count =
    option_map_or (λ has_begun. record {
      lines = b.lines ++ line_of (n, Some (decimal count));
      kept = insert_entry nat_cmp (remove_entry (is_at (nat_cmp n)) b.kept) n [];
      ending = if has_begun then b.ending else b.ending + 1;
    }) (is_ending b n) b

-- a connection ended: that is noted where something was to be done at its end
abbrev pub with_end : Book → ℕ → Book
with_end b n =
    option_map_or (λ has_begun. record {
      lines = b.lines ++ line_of (n, None);
      kept = remove_entry (is_at (nat_cmp n)) b.kept;
      ending = if has_begun then b.ending - 1 else b.ending;
    }) (is_ending b n) b

-- whether no end is under way: only then is a journal begun anew, so that nothing is done twice
abbrev pub is_resting : Book → Bool
is_resting b = b.ending == 0

-- what a journal begins with that is begun anew: all that is to be done at the end of connections
abbrev pub anew : Book → List ℕ
anew b = flat_map (λ e. e.1) b.kept
