-- What any changes of a new cover leave.
use Rattle.std.specs.Prelude.{◌≡◌, ℕ, ◌≤◌, List, length}
use Rattle.std.specs.List.{All}
use Rattle.rt_cover.specs.State.{empty_cover, shown}
use Rattle.rt_cover.specs.Shown.{AreFewest, IsCertified, counted}
use Rattle.rt_cover.specs.Runs.{Change, after_all, tags_given}

-- after any changes of a new cover the listens are the fewest, and certified; the tags that were
-- given are 1, 2, 3 and so on, none above the last
pub record RunsSoundly (last_tag : ℕ) (changes : List Change) : Type 0 where
  pub fewest :
      AreFewest (after_all (empty_cover last_tag) changes).listeners
      (shown (after_all (empty_cover last_tag) changes))
  pub certified :
      All (IsCertified (after_all (empty_cover last_tag) changes).listeners)
      (shown (after_all (empty_cover last_tag) changes))
  pub tags :
      tags_given (empty_cover last_tag) changes
      ≡ counted 1 (length (tags_given (empty_cover last_tag) changes))
  pub last : length (tags_given (empty_cover last_tag) changes) ≤ last_tag

abbrev pub EveryRunIsSound : Type 0
EveryRunIsSound = (last_tag : ℕ) (changes : List Change) → RunsSoundly last_tag changes
