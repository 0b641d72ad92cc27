use Rattle.rt_cover.specs.laws.KeepLaws.{kept_for_needed, needed_kept_for, stays}
use Rattle.rt_cover.proofs.TagLaws.{AreTagged-kept_for}
use Rattle.rt_cover.proofs.laws.kept_law.Goals as goal

pub returns : goal.returns
returns c = record {
  forms = λ n kept fs. (kept_for_needed n kept fs, needed_kept_for n kept fs);
  stay = stays;
  tags = AreTagged-kept_for;
}
