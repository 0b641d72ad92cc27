-- What an emulator is to do.
use Rattle.std.specs.Prelude.{ℕ, Bool, List, Option}
use Rattle.std.specs.declared.net.ip_addr.IpAddr.{IpAddr}
use Rattle.rt_tree.specs.PathTree.{Path, PathTree}

-- the address and its port, after how many connections that have gone it ends, the first tree, the file that the
-- first tree is read from in its place, the file that the tree is kept in, whether what is written is on the disk
-- before anybody hears of it, the paths that are denied, the origins of other machines whose pages may connect, and
-- the folders whose files are served: an application's, and that of the tree's page
pub record Emulation : Type 0 where
  pub host : IpAddr
  pub port : ℕ
  pub count : Option ℕ
  pub tree : PathTree
  pub seed : Option (List ℕ)
  pub file : Option (List ℕ)
  pub is_synced : Bool
  pub denied : List Path
  pub origins : List (List ℕ)
  pub public : Option (List ℕ)
  pub page : Option (List ℕ)
