use Rattle.page_laws.proofs.Starts.{start_blank, start_owner, start_hands, start_aside}
use Rattle.page_model.specs.Placement.{start_placement}
use Rattle.page_laws.proofs.Blocks.Aside.{one_owner}
use Rattle.page_laws.proofs.laws.start_stands.Goals as goal

pub returns : goal.returns
returns c = record {
  blank = start_blank;
  frames = start_owner;
  hands = start_hands;
  text = start_aside;
  owner =
      λ size lives images first frames hs b.
      one_owner size lives (start_placement images first frames) hs (start_owner images first frames) b (start_aside images first frames);
}
