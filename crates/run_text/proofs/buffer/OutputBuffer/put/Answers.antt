-- What waited is written first, and then the piece is put where nothing waits.
use Rattle.std.proofs.Common.{[]}
use Rattle.run_text.proofs.Passing.{puts_then, flushed}
use Rattle.run_text.proofs.buffer.OutputBuffer.put.Goals as goal

pub returns-clause-puts : goal.returns-clause-puts
returns-clause-puts g c =
    let before = g.S.Sink.written c.args.sink.now in
    let between = g.S.Sink.written c.flush.new.sink in
    puts_then c.put_large.result before c.args.self.now [] between [] c.args.piece.now (g.S.Sink.written c.put_large.new.sink) c.put_large.new.self
    (flushed before c.args.self.now between c.in_ok-flush.ensures.done)
    c.put_large.ensures.puts
