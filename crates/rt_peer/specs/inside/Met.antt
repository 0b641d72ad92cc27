-- Which entries of a write meet whose listens, by their numbers.
use Rattle.std.specs.Prelude.{◌≡◌, ℕ, Bool, true, ◌++◌, ◌∷◌, [], List, Option, if◌then◌else◌}
use Rattle.std.specs.List.{All, filter, flat_map, slice_get}
use Rattle.std.specs.Map.{lookup}
use Rattle.std.specs.BTreeMap.{is_at as key_is}
use Rattle.std.specs.Option.{option_map_or, unwrap_or}
use Rattle.rt_tree.specs.PathTree.{Path, sub}
use Rattle.rt_tree.specs.Assignments.{Assignment, do_overlap}
use Rattle.rt_peer.specs.Peers.{Listen, is_at}
use Rattle.rt_peer.specs.Pushes.{written}
use Rattle.rt_peer.specs.declared.listens.Owner.{Owner}
use Rattle.rt_peer.specs.declared.listens.ListenKey.{ListenKey}
use Rattle.rt_peer.specs.declared.write.Write.{Write}
use Rattle.rt_peer.specs.inside.Spots.{overlaps, owner_cmp, owner_of}

-- the entries whose paths overlap one
abbrev pub over : Path → List Assignment → List Assignment
over p es = filter (λ a. do_overlap a.0 p) es

-- of two lists of entries, the same ones overlap a path, in the same order
abbrev pub AreSameOver : Path → List Assignment → List Assignment → Type 0
AreSameOver p own es = over p own ≡ over p es

-- the part at a path is what these entries make of it
abbrev pub IsMadeAt : Path → List Assignment → Write → Type 0
IsMadeAt p es w = sub w.after p ≡ sub (written w.before es) p

-- ---- by number

-- the entry of a number, if there is one
abbrev pub entry_at : List Assignment → ℕ → List Assignment
entry_at es n = option_map_or (λ a. a ∷ []) (slice_get es n) []

-- the entries of these numbers
abbrev pub picked : List Assignment → List ℕ → List Assignment
picked es numbers = flat_map (entry_at es) numbers

-- the numbers that owners have
abbrev pub Met : Type 0
Met = List (Owner × List ℕ)

abbrev pub at_owner : Met → Owner → Option (List ℕ)
at_owner met o = lookup (key_is (owner_cmp o)) met

abbrev pub numbers_of : Met → Owner → List ℕ
numbers_of met o = unwrap_or (at_owner met o) []

-- a number was added for each owner that passes a test
abbrev pub AreNoted : (Owner → Bool) → ℕ → Met → Met → Type 0
AreNoted test n old new = (o : Owner) → numbers_of new o ≡ numbers_of old o ++ (if test o then n ∷ [] else [])

-- a number was added for the spot's owner, or none was, which is so only where the path of its entry doesn't overlap
-- the spot's
abbrev pub MeetsSo : Path → ℕ → Met → Met → ListenKey → Type 0
MeetsSo p n old new s = (b : Bool) × ((overlaps p s ≡ true → b ≡ true)
    × (numbers_of new s.owner ≡ numbers_of old s.owner ++ (if b then n ∷ [] else [])))

-- of entries, those of the numbers of each spot's owner are the same over its path as some
abbrev pub AreMet : List Assignment → List Assignment → Met → List ListenKey → Type 0
AreMet es some met spots = All (λ s. AreSameOver s.path (picked es (numbers_of met s.owner)) some) spots

-- and of each listen's owner as all
abbrev pub AreHanded : List Assignment → Met → List Listen → Type 0
AreHanded es met listens =
    All (λ l. AreSameOver l.query.path (picked es (numbers_of met (owner_of l))) es) listens

-- the entries of these numbers are the same over each listen of an owner as all
abbrev pub IsHanded : List Assignment → Owner → List ℕ → List Listen → Type 0
IsHanded es o numbers listens =
    All (λ l. is_at o.connection o.tag l ≡ true → AreSameOver l.query.path (picked es numbers) es) listens
