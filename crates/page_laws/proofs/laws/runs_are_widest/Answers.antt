use Rattle.page_laws.proofs.Runs.Neighbours.{data_in, text_in, file_in, alone_in, widest_out, longest_put, alone_put}
use Rattle.page_laws.proofs.laws.runs_are_widest.Goals as goal

pub returns : goal.returns
returns c = record {
  data_in = data_in;
  text_in = text_in;
  file_in = file_in;
  alone_in = alone_in;
  out = widest_out;
  put = longest_put;
  alone_put = alone_put;
}
