use Rattle.rt_world.proofs.NamedLaws.{only_named_change, leaf_names_all, leaf_reads_named, touched_is_seen, others_keep_views}
use Rattle.rt_world.proofs.laws.named_law.Goals as goal

pub returns : goal.returns
returns c = record {
  named = only_named_change;
  leaf = leaf_names_all;
  reads = leaf_reads_named;
  touched = touched_is_seen;
  others = others_keep_views;
}
