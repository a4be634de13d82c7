use Rattle.page_laws.proofs.Blocks.Steps.{place_entry_one}
use Rattle.page_laws.proofs.Blocks.Changes.{place_change_aside}
use Rattle.page_laws.proofs.Blocks.Aside.{needed_found}
use Rattle.page_laws.proofs.Blocks.Places.{pages_apart, image_stores}
use Rattle.page_laws.proofs.laws.blocks_kept.Goals as goal

pub returns : goal.returns
returns c = record {
  entry = place_entry_one;
  text = place_change_aside;
  places = needed_found;
  apart = pages_apart;
  stores = image_stores;
}
