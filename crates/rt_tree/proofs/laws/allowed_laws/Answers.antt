use Rattle.rt_tree.specs.laws.Allowed.{shallow_of, may_stand, allowed-sub, allowed-put}
use Rattle.rt_tree.proofs.laws.allowed_laws.Goals as goal

pub returns : goal.returns
returns c = record { shallow = shallow_of; room = may_stand; parts = allowed-sub; put = allowed-put }
