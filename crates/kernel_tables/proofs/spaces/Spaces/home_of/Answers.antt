use Rattle.std.proofs.Common.{sym}
use Rattle.kernel_tables.proofs.HomePages.{home_found, home_absent, no_home_found, no_home_absent}
use Rattle.kernel_tables.proofs.spaces.Spaces.home_of.Goals as goal

pub returns-in_err-space_of : goal.returns-in_err-space_of
returns-in_err-space_of c = record {
  found = no_home_found c.args.self.now c.args.page c.from_residual.result c.from_residual.ensures;
  absent = no_home_absent c.args.self.now c.args.page c.from_residual.result c.in_err-space_of.ensures;
}

pub returns : goal.returns
returns c =
    let named = sym c.in_ok-space_of.ensures in
    record {
      found = home_found c.args.self.now c.args.page c.in_ok-space_of.field-0 c.index_of.result named c.index_of.ensures.found;
      absent = home_absent c.args.self.now c.args.page c.in_ok-space_of.field-0 c.index_of.result named c.index_of.ensures.absent;
    }
