use Rattle.rt_client.proofs.Followed.{follows_settling, follows_calls, knows_all}
use Rattle.rt_client.proofs.PutBy.{settles_put, called_put, connection_follows, other_called, other_settles}
use Rattle.rt_client.proofs.Trailed.{trails_first, trails_opened, trails_settling, trails_calls, trails_taking, trails_mirroring, follows_in_the_end}
use Rattle.rt_client.proofs.laws.following_law.Goals as goal

pub returns : goal.returns
returns c = record {
  settling = follows_settling;
  calls = follows_calls;
  settled = settles_put;
  called = called_put;
  connection = connection_follows;
  others = other_called;
  beside = other_settles;
  first = trails_first;
  opened = trails_opened;
  fills = trails_settling;
  asks = trails_calls;
  takes = trails_taking;
  mirrors = trails_mirroring;
  end = follows_in_the_end;
  all = knows_all;
}
