-- What was written to a journal is read back.
use Rattle.std.proofs.Common.{◌≡◌, List, [], ◌∷◌, ◌++◌, Option, Some, None, refl, sym, ap, ◌∙◌, append_assoc, ℕ}
use Rattle.std.specs.List.{All}
use Rattle.std.specs.Option.{option_and_then}
use Rattle.std.proofs.lemmas.List.Elements.{All-head, All-tail}
use Rattle.std.proofs.lemmas.List.Splits.{slice_split_none}
use Rattle.rt_journal.specs.Entries.{Entry, HasNoFeed, IsEntry, is_feed, journal_of, line_of, pieces_of}
use Rattle.rt_journal.specs.Replays.{Replay, after_entries, after_entry, after_line, after_pieces, new_replay}
use Rattle.rt_journal.specs.laws.Reading.{ReadsBack}
use Rattle.rt_journal.proofs.Pieces.{line_done}
use Rattle.rt_journal.proofs.Written.{body, entry-body, one_line}

then_same : (o : Option Replay) (f g : Replay → Option Replay) → ((r : Replay) → f r ≡ g r)
    → option_and_then f o ≡ option_and_then g o
then_same None f g same = refl
then_same (Some r) f g same = same r

done_again : (r : Replay) (entries : List Entry) (torn : List ℕ) → All IsEntry entries → HasNoFeed torn
    → after_pieces r (pieces_of (journal_of entries ++ torn)) ≡ after_entries r entries
done_again r [] torn all none = ap (after_pieces r) (slice_split_none is_feed torn none)
done_again r (e ∷ es) torn all none =
    let here = All-head IsEntry e es all in
    ap (λ bytes. after_pieces r (pieces_of bytes)) (append_assoc (line_of e) (journal_of es) torn)
    ∙ ap (after_pieces r) (one_line e (journal_of es ++ torn) here.0)
    ∙ line_done r (body e) (journal_of es ++ torn)
    ∙ ap (λ o. option_and_then (λ s. after_pieces s (pieces_of (journal_of es ++ torn)))
    (option_and_then (after_entry r) o)) (entry-body e here)
    ∙ then_same (after_entry r e) (λ s. after_pieces s (pieces_of (journal_of es ++ torn)))
    (λ s. after_entries s es) (λ s. done_again s es torn (All-tail IsEntry e es all) none)

pub reads_back : ReadsBack
reads_back tree entries torn all none = done_again (new_replay tree) entries torn all none
