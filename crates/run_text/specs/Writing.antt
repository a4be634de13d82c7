-- What putting a text through a buffered writer comes to: it passed, or the sink failed.
use Rattle.std.specs.Prelude.{◌≡◌, ℕ, List, [], Result, OnOk, OnErr}
use Rattle.std.specs.Borrow.{MutBor}
use Rattle.io_edge.specs.Transfer.{CountsErr}
use Rattle.io_edge.specs.Written.{Appends, AppendsSome}
use Rattle.io_edge.specs.declared.sink.Sink.{Ghosts as SinkGhosts}
use Rattle.run_text.specs.declared.writer.Writer.{Writer}
use Rattle.run_text.specs.Buffered.{Puts}

-- a writer to this sink as it is, in which nothing waits
pub record IsNewWriter {S : Type 0} (sink : MutBor S) (writer : Writer S) : Type 0 where
  pub same_sink : writer.sink.ghost_name ≡ sink.ghost_name
  pub as_it_is : writer.sink.now ≡ sink.now
  pub none_waits : writer.buffer ≡ []

-- A text was put: it went on after what waited; or the sink failed with a prefix of all this, and its count of faults rose. The sink
-- was led on, and is still the writer's.
pub record PutsText {S T E : Type 0} (g : SinkGhosts S) (result : Result T E) (text : List ℕ) (old new : Writer S) : Type 0 where
  pub same_sink : new.sink.ghost_name ≡ old.sink.ghost_name
  pub leads : g.leads old.sink.now new.sink.now
  pub puts : Puts result (g.written old.sink.now) old.buffer text (g.written new.sink.now) new.buffer
  pub faults : CountsErr result (g.faults old.sink.now) (g.faults new.sink.now)

-- what waited was written; or a prefix of it was, and the count of faults rose; nothing waits
pub record Flushes {S T E : Type 0} (g : SinkGhosts S) (result : Result T E) (old new : Writer S) : Type 0 where
  pub same_sink : new.sink.ghost_name ≡ old.sink.ghost_name
  pub leads : g.leads old.sink.now new.sink.now
  pub done : OnOk result (Appends (g.written old.sink.now) old.buffer (g.written new.sink.now))
  pub failed : OnErr result (AppendsSome (g.written old.sink.now) old.buffer (g.written new.sink.now))
  pub faults : CountsErr result (g.faults old.sink.now) (g.faults new.sink.now)
  pub none_waits : new.buffer ≡ []

-- a text was written to a sink; or a prefix of it was, and the count of faults rose
pub record WritesText {S T E : Type 0} (g : SinkGhosts S) (result : Result T E) (text : List ℕ) (old new : S) : Type 0 where
  pub leads : g.leads old new
  pub done : OnOk result (Appends (g.written old) text (g.written new))
  pub failed : OnErr result (AppendsSome (g.written old) text (g.written new))
  pub faults : CountsErr result (g.faults old) (g.faults new)
