use Rattle.page_laws.proofs.Swapper.PuttingOut.{unit_can, unit_owner, unit_few, unit_parts, unit_due, unit_falls, put_out}
use Rattle.page_laws.proofs.laws.putting_out_ends.Goals as goal

pub returns : goal.returns
returns c = record {
  can = unit_can;
  owner = unit_owner;
  few = unit_few;
  parts = unit_parts;
  due = unit_due;
  falls = unit_falls;
  whole = put_out;
}
