-- Runs of changes: what a cover is after any list of them, and what was told on the way.
use Rattle.std.specs.Prelude.{ℕ, if◌then◌else◌, List, [], ◌∷◌, ◌++◌, map, Option, is_some}
use Rattle.std.specs.List.{fold}
use Rattle.rt_query.specs.Queries.{Query}
use Rattle.rt_cover.specs.declared.change.Delta.{Delta}
use Rattle.rt_cover.specs.declared.error.CoverError.{CoverError}
use Rattle.rt_cover.specs.State.{Cover, added, removed, revoked, difference, without_tag}
use Rattle.rt_cover.specs.State.{add_fault, remove_fault, revoke_fault}

-- a new listener with its number, the end of some listeners, or the revocation of a tag
pub data Change : Type 0 where
  Add : ℕ → Query → Change
  Remove : List ℕ → Change
  Revoke : ℕ → Change

-- the refusal of a change
abbrev pub fault : Cover → Change → Option CoverError
fault c (Add number query) = add_fault c number query
fault c (Remove numbers) = remove_fault c numbers
fault c (Revoke tag) = revoke_fault c tag

-- the cover after a change that is not refused
abbrev pub changed : Cover → Change → Cover
changed c (Add number query) = added c number query
changed c (Remove numbers) = removed c numbers
changed c (Revoke tag) = revoked c tag

-- what such a change tells
abbrev pub told : Cover → Change → Delta
told c (Add number query) = difference c (added c number query)
told c (Remove numbers) = difference c (removed c numbers)
told c (Revoke tag) = without_tag tag (difference c (revoked c tag))

-- the cover after a change; a refused one leaves it as it was
abbrev pub after : Cover → Change → Cover
after c change = if is_some (fault c change) then c else changed c change

-- the cover after changes, one after another
abbrev pub after_all : Cover → List Change → Cover
after_all c changes = fold after c changes

-- the tags of the listens that a change starts
abbrev pub tags_of : Cover → Change → List ℕ
tags_of c change = if is_some (fault c change) then [] else map (λ k. k.tag) (told c change).started

-- the tags of all that start, one change after another
abbrev pub tags_given : Cover → List Change → List ℕ
tags_given c [] = []
tags_given c (change ∷ rest) = tags_of c change ++ tags_given (after c change) rest
